-- `Vector::is_behind` meets its contract: the fold is the test over the pairs.
-- Assumes nothing.
use Rattle.std.proofs.Common.{◌∙◌, ◌||◌, false, ltb, rules, tests}
use Rattle.std.proofs.lemmas.Iterator.{YieldsList-from_slice, YieldsList-from_zip}
use Rattle.std.proofs.lemmas.Iterator.Consumers.{fold_from_yields_List}
use Rattle.notes.proofs.Vectors.{behind-folded}
use Rattle.notes.proofs.vector.Vector.is_behind.Goals as goal

pub returns : goal.returns
returns c =
    let a = c.args in
    fold_from_yields_List _ (λ below p. below || ltb p.0 p.1) false _ c.fold.ensures.ran
    (YieldsList-from_zip (YieldsList-from_slice a.self.counts (cc)) (YieldsList-from_slice a.other.counts (cc)))
    (λ b x r q k. search (rules, tests))
    ∙ behind-folded a.self a.other
