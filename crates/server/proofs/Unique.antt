-- Any two outcomes that meet a public call's statement are equal: the step, about the very clauses of its contract.
-- Assumes nothing.
use Rattle.std.specs.Prelude.{Result}
use Rattle.notes.proofs.Unique.{One}
use Rattle.memory.specs.Lent.{server}
use Rattle.rules.specs.declared.answer.Answer.{Answer}
use Rattle.rules.specs.declared.answer.Refusal.{Refusal}
use Rattle.rules.specs.Memory.{Memory, memory}
use Rattle.laws.proofs.One as one
use Rattle.server.proofs.step.step.Reads as step

-- a step: with the state and each byte of history and image
pub step-one : One {O = Result Answer Refusal × Memory} step.Post (λ k r s. (r, server s.0.now))
step-one k a x y s t p q =
    let e = one.step-one x y _ _ _ _ _ _ _ _ _ _ p.1 q.1 in
    λ i. (e.0 i, memory (e.1 i) (e.2 i) (e.3 i))
