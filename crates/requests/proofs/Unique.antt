-- Any two outcomes that meet a request's statement are equal, about the very clauses of its contract.
-- Assumes nothing.
use Rattle.std.specs.Prelude.{Result}
use Prim.Native.Nat.{ℕ}
use mathlib.Core.List.{List, []}
use Rattle.notes.proofs.Unique.{One}
use Rattle.memory.specs.Lent.{server}
use Rattle.rules.specs.declared.answer.Answer.{Answer}
use Rattle.rules.specs.declared.answer.Refusal.{Refusal}
use Rattle.rules.specs.declared.state.State.{State}
use Rattle.rules.specs.declared.event.What.TheVariants as what
use Rattle.rules.specs.Memory.{Memory, memory}
use Rattle.rules.specs.Step.{step}
use Rattle.laws.proofs.One.{step-one, plain-one}
use Rattle.laws.proofs.Unique.{verdicts-known}
use Rattle.requests.proofs.admit.request_head.Reads as request-head
use Rattle.requests.proofs.request.request.Reads as request
use Rattle.requests.proofs.request.request_cut.Reads as request-cut

pub request-head-one : One request-head.Post (λ k r s. r)
request-head-one k a x y s t p q = verdicts-known x y p q

-- with the state and each byte of history and image
pub request-one : One {O = Result Answer Refusal × Memory} request.Post (λ k r s. (r, server s.0.now))
unfolding step
request-one k a x y s t p q =
    let e = step-one x y _ _ _ _ _ _ _ (record { server = a.1.0.server; what = what.Request a.1.0.phone a.1.0.request }) _ [] p.1 q.1 in
    λ i. (e.0 i, memory (e.1 i) (e.2 i) (e.3 i))

-- with the state and each byte of the image; the history is only lent
pub request-cut-one : One {O = Result (Unit {0}) Refusal × State × List ℕ} request-cut.Post (λ k r s. (r, s.0.now, s.1.1.0.now))
request-cut-one k a x y s t p q =
    let e = plain-one x y _ _ _ _ _ _ _ p q in
    λ i. (e.0 i, e.1 i, e.3 i)
