-- Laws of a call that goes on with what is lent to it, or tells why it does not.
-- Assumes nothing.
use Prim.Native.Nat.{ℕ}
use mathlib.Core.Bool.{Bool, true, false, cond}
use mathlib.Core.List.{List}
use mathlib.Core.Path.{◌≡◌, refl, ap}
use lib.Dec.{ltb}
use lib.ListN.{length}
use Rattle.std.specs.Prelude.{Result, Ok, Err}
use Rattle.std.specs.Result.{IsErrAnd}
use Rattle.rules.specs.declared.answer.Refusal.{Refusal}
use Rattle.rules.specs.declared.answer.Refusal.TheVariants.{TooShort}
use Rattle.rules.specs.declared.state.State.{State}
use Rattle.rules.specs.Answer.{refusal_number, verdict_reply}
use Rattle.rules.specs.Calls.{judge}
use Rattle.rules.specs.Memory.{Memory, memory}
use Rattle.ssaldorip.specs.Calls.{block_size, state_of, Lent, left, fills, judging}
use Rattle.ssaldorip.specs.Forms.{state_told}

-- what a call answers, or leaves in an output that it changes only if it is not refused
abbrev pub number_told : {A : Type 0} → Result A Refusal → (A → ℕ) → ℕ
number_told (Ok a) next = next a
number_told (Err r) next = refusal_number r

abbrev pub if_told : {A : Type 0} → Result A Refusal → List ℕ → (A → ℕ × List ℕ) → ℕ × List ℕ
if_told (Ok a) out next = next a
if_told (Err r) out next = left (refusal_number r) out

pub judging_told : (l : Lent) → judging l ≡ number_told (state_told l.state) (λ s. (judge (memory s l.history l.image)).number)
unfolding judging
judging_told l = go (ltb (length l.state) block_size)
  where
    f : State → ℕ
    f s = (judge (memory s l.history l.image)).number

    go : (b : Bool) → cond b 9 (f (state_of l.state)) ≡ number_told (cond b (Err TooShort) (Ok (state_of l.state))) f
    go true = refl
    go false = refl

pub fills_told :
    (f : Memory → List ℕ → ℕ × List ℕ) (l : Lent)
    → fills f l ≡ if_told (state_told l.state) l.reply (λ s. f (memory s l.history l.image) l.reply)
unfolding fills
fills_told f l = go (ltb (length l.state) block_size)
  where
    g : State → ℕ × List ℕ
    g s = f (memory s l.history l.image) l.reply

    go : (b : Bool) → cond b (left 9 l.reply) (g (state_of l.state)) ≡ if_told (cond b (Err TooShort) (Ok (state_of l.state))) l.reply g
    go true = refl
    go false = refl

-- the refusal that a call is given it tells again
pub told_again : {A : Type 0} (r : Result A Refusal) (k : Refusal) → IsErrAnd r (λ x. x ≡ k) → (verdict_reply r).number ≡ refusal_number k
told_again (Ok a) k h = absurd h
told_again (Err x) k h = ap refusal_number h
