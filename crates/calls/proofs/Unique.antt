-- Any two outcomes that meet a public call's statement are equal: a theorem for each call, about the very clauses of its contract.
-- Assumes nothing.
use Prim.Native.Nat.{ℕ}
use mathlib.Core.List.{List, [], ◌∷◌}
use mathlib.Core.Path.{◌≡◌, refl, sym, ◌∙◌}
use native.Mathlib.Omega.{arith}
use denote.Ref.{Bor}
use lib.ListN.{length}
use Rattle.std.specs.Prelude.{Option, Some, None, Result, Ok, Err, IfOk, IfSome}
use Rattle.notes.specs.Record.{record_size}
use Rattle.notes.proofs.Answers.{known_by}
use Rattle.notes.proofs.Unique.{One}
use Rattle.rules.specs.declared.answer.Refusal.{Refusal}
use Rattle.rules.specs.declared.state.State.{State}
use Rattle.laws.proofs.Unique.{back, refused-back, HasBytes, part_shown}
use Rattle.laws.proofs.One as one
use Rattle.calls.specs.Place.{found_reply}
use Rattle.calls.proofs.judge.judge.Reads as judge
use Rattle.calls.proofs.look_up.look_up.Reads as look-up
use Rattle.calls.proofs.look_up.stands_at.Reads as stands-at
use Rattle.calls.proofs.message.message.Reads as message
use Rattle.calls.proofs.start.start.Reads as start
use Rattle.calls.proofs.status.status.Reads as status

pub judge-one : One judge.Post (λ k r s. r)
judge-one k a x y s t p q = one.judge-one x y _ p q

pub status-one : One status.Post (λ k r s. r)
status-one k a x y s t p q = one.status-one x y _ p q

-- with each byte of the output
pub message-one : One {O = Result ℕ Refusal × List ℕ} message.Post (λ k r s. (r, s.1.0.now))
message-one k a x y s t p q = let e = one.message-one x y _ _ _ _ p q in λ i. (e.0 i, e.1 i)

-- with each byte of history and image
pub start-one : One {O = Result State Refusal × List ℕ × List ℕ} start.Post (λ k r s. (r, s.1.1.0.now, s.1.1.1.0.now))
start-one k a x y s t p q = let e = one.start-one x y _ _ _ _ _ _ _ _ p q in λ i. (e.0 i, e.1 i, e.2 i)

-- a part has the bytes of a record
has-bytes :
    (r : Result (Option (Bor (List ℕ))) Refusal) → IfOk r (λ x. IfSome x (λ b. length b.now ≡ record_size)) → HasBytes r
has-bytes (Ok None) h = tt
has-bytes (Ok (Some part)) h = omega (arith, h)
has-bytes (Err k) h = tt

-- whether there is a part, and its bytes; where a record stands in checkpoint and log alike, which of the two it is no clause can say
pub look-up-one : One look-up.Post (λ k r s. part_shown r)
look-up-one k a x y s t p q = one.part-one x y _ _ _ (has-bytes x p.1) (has-bytes y q.1) p.0 q.0

-- a place is known by its number and values
abbrev place_of : List ℕ → Result (Option ℕ) Refusal
place_of [] = Ok None
place_of (p ∷ l) = Ok (Some p)

place-back : (a : Result (Option ℕ) Refusal) → back place_of Err (found_reply a) ≡ a
place-back (Ok (Some p)) = refl
place-back (Ok None) = refl
place-back (Err k) = refused-back place_of Err k

pub stands-at-one : One stands-at.Post (λ k r s. r)
stands-at-one k a x y s t p q = known_by found_reply (back place_of Err) place-back x y (p ∙ sym q)
