-- Laws of a request's refusals, row by row.
-- Assumes nothing.
use Prim.Native.Nat.{ℕ, ◌≤◌, ◌<◌}
use mathlib.Core.Bool.{true, false}
use mathlib.Core.Option.{none, some}
use mathlib.Core.Path.{◌≡◌, sym, subst, ◌∙◌}
use borrow.Author.Tests.{lt-leb, le-leb}
use lib.ListN.{length}
use Rattle.notes.specs.Vector.{behind}
use Rattle.notes.specs.Reply.{first}
use Rattle.notes.proofs.Answers.{first-stays, first-goes-on}
use Rattle.notes.specs.declared.index.ServerId.{ServerId}
use Rattle.notes.specs.declared.index.PhoneId.{PhoneId}
use Rattle.notes.specs.declared.vector.Vector.{Vector}
use Rattle.rules.specs.declared.event.Request.{Request}
use Rattle.rules.specs.declared.answer.Refusal.{Refusal}
use Rattle.rules.specs.declared.answer.Refusal.TheVariants.{OutOfRange, NotYet}
use Rattle.rules.specs.Memory.{Memory}
use Rattle.rules.specs.Answer.{head, is_down}
use Rattle.rules.specs.Request.{plan, out_of_range, full_refusals, ask_refusals, request_refusals, count_refusals, cut_refusals}
use Rattle.laws.proofs.Passed.{Admitted, admitted}

module _ (m : Memory) (j : ServerId) (i : PhoneId) (q : Request) (v : Vector) where
  -- ---- the rows, one after the other
  pub request-refused : (k : Refusal) → first (head m (is_down m)) ≡ some k → first (request_refusals m j i q v) ≡ some k
  unfolding request_refusals
  request-refused k e = first-stays (head m (is_down m)) (ask_refusals m j i q v) k e

  module _ (up : first (head m (is_down m)) ≡ none) where
    goes_on : first (request_refusals m j i q v) ≡ first (ask_refusals m j i q v)
    unfolding request_refusals
    goes_on = first-goes-on (head m (is_down m)) (ask_refusals m j i q v) up

    pub request-out : out_of_range m j i q v ≡ true → first (request_refusals m j i q v) ≡ some OutOfRange
    request-out e = goes_on ∙ rw e

    module _ (e : out_of_range m j i q v ≡ false) where
      pub request-behind : behind m.state.vector v ≡ true → first (request_refusals m j i q v) ≡ some NotYet
      request-behind b = goes_on ∙ rw (e, b)

      pub request-full : behind m.state.vector v ≡ false → first (request_refusals m j i q v) ≡ first (full_refusals m q)
      request-full b = goes_on ∙ rw (e, b)

  -- what a memory that is lent passes, it is admitted to
  module _ (lent : Memory) (same : lent ≡ m) (e : none ≡ first (request_refusals lent j i q v)) where
    pub lent-passed : first (request_refusals m j i q v) ≡ none
    lent-passed = subst (λ (m : Memory). first (request_refusals m j i q v) ≡ none) same (sym e)

    pub lent-admitted : Admitted m i q
    lent-admitted = admitted m j i q v lent-passed

  -- ---- the same cut
  module _ (k : ℕ) where
    pub cut-refused : (r : Refusal) → first (request_refusals m j i q v) ≡ some r → first (cut_refusals m j i q k v) ≡ some r
    cut-refused r e = first-stays (request_refusals m j i q v) (count_refusals m i q k) r e

    module _ (e : first (request_refusals m j i q v) ≡ none) where
      counted : first (cut_refusals m j i q k v) ≡ first (count_refusals m i q k)
      counted = first-goes-on (request_refusals m j i q v) (count_refusals m i q k) e

      pub cut-over : length (plan m i q) < k → first (cut_refusals m j i q k v) ≡ some OutOfRange
      cut-over h = counted ∙ rw (lt-leb k (length (plan m i q)) h)

      pub cut-passed : k ≤ length (plan m i q) → first (cut_refusals m j i q k v) ≡ none
      cut-passed h = counted ∙ rw (le-leb k (length (plan m i q)) h)
