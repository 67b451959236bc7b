-- Laws of the refusals of a cut, of a recovery and of a message, row by row.
-- Assumes nothing.
use Prim.Native.Nat.{ℕ}
use mathlib.Core.Bool.{Bool, true, false, not}
use mathlib.Core.List.{List, [], ◌∷◌, ◌++◌}
use mathlib.Core.Option.{Option, none, some}
use mathlib.Core.Path.{◌≡◌, ap, sym, ◌∙◌}
use Rattle.notes.specs.Reply.{given, first}
use Rattle.notes.specs.Vector.{zeros}
use Rattle.notes.proofs.Answers.{first-stays, first-goes-on}
use Rattle.notes.specs.declared.index.ServerId.{ServerId}
use Rattle.rules.specs.declared.answer.Refusal.{Refusal}
use Rattle.rules.specs.declared.answer.Refusal.TheVariants.{Unsound}
use Rattle.rules.specs.Memory.{Memory}
use Rattle.rules.specs.Answer.{Effect, refusal_reply, replying, unless, head, is_down, here_refusals}
use Rattle.rules.specs.Step.{suitable, arrival_refusals, plain_refusals}
use Rattle.laws.proofs.Passed.{Plain, plain}

-- a cut or a recovery is refused by the head, or else by the row behind it, or goes on. The head saw the memory as it was lent
module _ (lent m : Memory) (same : lent ≡ m) (wrong : Memory → Bool) (j : ServerId) (e : Effect) where
  abbrev Leaves : Effect → Type 0
  Leaves x = x ≡ unless (first (plain_refusals m (wrong m) j)) m e

  pub plain-headed : (k : Refusal) → some k ≡ first (head lent (wrong lent)) → Leaves (replying (refusal_reply k) zeros m)
  unfolding plain_refusals
  plain-headed k h =
      rw (first-stays (head m (wrong m)) (here_refusals m j) k (ap (λ (n : Memory). first (head n (wrong n))) (sym same) ∙ sym h))

  module _ (passed : none ≡ first (head lent (wrong lent))) where
    behind : first (plain_refusals m (wrong m) j) ≡ first (here_refusals m j)
    unfolding plain_refusals
    behind =
        first-goes-on (head m (wrong m)) (here_refusals m j)
        (ap (λ (n : Memory). first (head n (wrong n))) (sym same) ∙ sym passed)

    pub plain-elsewhere : (k : Refusal) → some k ≡ first (here_refusals m j) → Leaves (replying (refusal_reply k) zeros m)
    plain-elsewhere k h = rw (behind, ← h)

    pub plain-passed : none ≡ first (here_refusals m j) → Leaves e
    plain-passed h = rw (behind, ← h)

    -- what is known then
    pub plain-known : none ≡ first (here_refusals m j) → Plain m (wrong m) j
    plain-known h = plain m (wrong m) j (behind ∙ sym h)

-- a message is refused by these, or else as it does not suit
module _ (m : Memory) (j : ServerId) (msg : List ℕ) where
  abbrev unsuited : List (Option Refusal)
  unsuited = given (not (suitable m msg)) Unsound ∷ []

  pub arrival-headed : (k : Refusal) → some k ≡ first (head m (is_down m)) → some k ≡ first (arrival_refusals m j msg)
  arrival-headed k h = sym (first-stays (head m (is_down m)) (here_refusals m j ++ unsuited) k (sym h))

  module _ (passed : none ≡ first (head m (is_down m))) where
    past : first (arrival_refusals m j msg) ≡ first (here_refusals m j ++ unsuited)
    past = first-goes-on (head m (is_down m)) (here_refusals m j ++ unsuited) (sym passed)

    pub arrival-elsewhere : (k : Refusal) → some k ≡ first (here_refusals m j) → some k ≡ first (arrival_refusals m j msg)
    arrival-elsewhere k h = sym (past ∙ first-stays (here_refusals m j) unsuited k (sym h))

    module _ (here : none ≡ first (here_refusals m j)) where
      last : first (arrival_refusals m j msg) ≡ first unsuited
      last = past ∙ first-goes-on (here_refusals m j) unsuited (sym here)

      pub arrival-unsuited : suitable m msg ≡ false → some Unsound ≡ first (arrival_refusals m j msg)
      arrival-unsuited e = sym (last ∙ rw e)

      pub arrival-passed : suitable m msg ≡ true → none ≡ first (arrival_refusals m j msg)
      arrival-passed e = sym (last ∙ rw e)
