-- A look-up's answer as a place in the image, for callers that take numbers only.
-- Assumes nothing.
use Rattle.std.specs.Prelude.{ℕ, [], ◌∷◌, Result, Ok, Err, Some, None}
use Rattle.std.specs.Prelude.{Option as Maybe}
use Rattle.std.proofs.Math.Option.{Option, none, some}
use Rattle.notes.specs.Reply.{Reply, done}
use Rattle.rules.specs.declared.answer.Refusal.{Refusal}
use Rattle.rules.specs.Answer.{refusal_reply}

-- the place where a record stands in an image, or no value for "not there"
abbrev pub place_reply : Option ℕ → Reply
place_reply (some p) = done (p ∷ [])
place_reply none = done []

abbrev pub found_reply : Result (Maybe ℕ) Refusal → Reply
found_reply (Ok (Some p)) = place_reply (some p)
found_reply (Ok None) = place_reply none
found_reply (Err r) = refusal_reply r
