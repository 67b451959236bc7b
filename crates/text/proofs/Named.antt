-- Laws of a line of a name and numbers.
-- Assumes nothing.
use Prim.Native.Nat.{ℕ, ◌≤◌, ◌<◌}
use mathlib.Core.List.{List}
use mathlib.Core.Path.{◌≡◌}
use native.Mathlib.Omega.{arith}
use lib.Dec.{ltb}
use lib.ListN.{length, length-append}
use Rattle.notes.specs.Reply.{given}
use Rattle.notes.specs.Message.{filled}
use Rattle.notes.specs.declared.message.Refusal.TheVariants.{TooShort}
use Rattle.std.specs.Prelude.{Ok, Err}
use Rattle.notes.proofs.Answers.{filled_within}
use Rattle.text.specs.Text.{Stored, named, named_room, named_line}
use Rattle.text.proofs.Texts.{numbers-room, fill-short, fill_done}

module _ (name xs out : List ℕ) where
  pub line-short : length out < named_room (length name) (length xs) → filled (Err TooShort) out ≡ named_line name xs out
  unfolding named_line
  line-short h = fill-short _ (named name xs) out h

  pub line-done :
      (end : ℕ) (after : List ℕ)
      → named_room (length name) (length xs) ≤ length out
      → Stored out 0 (named name xs) end after
      → filled (Ok end) after ≡ named_line name xs out
  unfolding named_line
  line-done end after h s =
      fill_done (named_room (length name) (length xs)) (named name xs) out end after
      (simp length-append (omega (arith, numbers-room xs))) h s

  -- the line lies within the output
  pub line-within : (k : ℕ) (after : List ℕ) → filled (Ok k) after ≡ named_line name xs out → k ≤ length after
  unfolding named_line
  line-within k after e = filled_within (given (ltb (length out) (named_room (length name) (length xs))) TooShort) (named name xs) out k after e
