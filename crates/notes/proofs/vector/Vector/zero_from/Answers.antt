-- `Vector::zero_from` meets its contract: the fold is the test over the positions from n on.
-- Assumes nothing.
use Rattle.std.proofs.Common.{◌∙◌, ◌&&◌, true, eqb, rules, tests}
use Rattle.std.proofs.lemmas.Iterator.{YieldsList-from_slice}
use Rattle.std.proofs.lemmas.Iterator.Adapters.{YieldsList-from_skip}
use Rattle.std.proofs.lemmas.Iterator.Consumers.{fold_from_yields_List}
use Rattle.notes.proofs.Vectors.{zero-folded}
use Rattle.notes.proofs.vector.Vector.zero_from.Goals as goal

pub returns : goal.returns
returns c =
    let a = c.args in
    fold_from_yields_List _ (λ zero x. zero && eqb x 0) true _ c.fold.ensures.ran
    (YieldsList-from_skip a.n (YieldsList-from_slice a.self.counts (cc)) (cc))
    (λ b x r q k. search (rules, tests))
    ∙ zero-folded a.n a.self
