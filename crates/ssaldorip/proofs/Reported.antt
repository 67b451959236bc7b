-- What is told of a status, case by case, and of the state in a block.
-- Assumes nothing.
use Prim.Native.Nat.{ℕ}
use mathlib.Core.List.{List, [], ◌∷◌}
use mathlib.Core.Path.{◌≡◌, sym, ap, ◌∙◌}
use borrow.Author.Tests.{ne_eqb}
use Rattle.std.specs.Prelude.{Result, Ok, Err, Some, None}
use Rattle.std.specs.Prelude.{Option as Maybe}
use Rattle.rules.specs.declared.answer.Phones.{Phones}
use Rattle.rules.specs.declared.answer.Refusal.{Refusal}
use Rattle.rules.specs.declared.state.State.{State}
use Rattle.rules.specs.Answer.{refusal_number, status_reply}
use Rattle.rules.specs.Calls.{status}
use Rattle.rules.specs.Memory.{Memory, memory}
use Rattle.laws.proofs.Outcomes.{refusal-number}
use Rattle.ssaldorip.specs.Calls.{Lent, left, put, fills, status_in}
use Rattle.ssaldorip.specs.Forms.{state_told}
use Rattle.ssaldorip.proofs.Told.{if_told, fills_told}

-- what is told of a status, case by case
abbrev pub told : Result (Maybe Phones) Refusal → List ℕ → ℕ × List ℕ
told (Ok None) out = put (0 ∷ 255 ∷ []) out
told (Ok (Some phones)) out = put (phones.count ∷ phones.lowest.0 ∷ []) out
told (Err k) out = left (refusal_number k) out

status-told : (a : Result (Maybe Phones) Refusal) (m : Memory) (out : List ℕ) → status_reply a ≡ status m → told a out ≡ status_in m out
unfolding status_in
status-told (Ok None) m out e = rw (← e)
status-told (Ok (Some phones)) m out e = rw (← e)
status-told (Err k) m out e = rw (← e, ne_eqb (refusal_number k) 0 (refusal-number k))

-- of the state in a block
pub told_status :
    (l : Lent) (s : State)
    → state_told l.state ≡ Ok s
    → (a : Result (Maybe Phones) Refusal)
    → status_reply a ≡ status (memory s l.history l.image)
    → told a l.reply ≡ fills status_in l
told_status l s read a e =
    status-told a (memory s l.history l.image) l.reply e
    ∙ sym (fills_told status_in l ∙ ap (λ (x : Result State Refusal). if_told x l.reply (λ s. status_in (memory s l.history l.image) l.reply)) read)
