-- `Vector::sum` meets its contract: eight counts, each below 65,536, have a sum of four bytes.
-- Assumes nothing.
use Rattle.std.proofs.Common.{◌≡◌, ◌∙◌, sum, rules}
use Rattle.std.proofs.iter.runs.Sources.{sums}
use Rattle.notes.proofs.Vectors.{sum-folded}
use Rattle.notes.proofs.vector.Vector.sum.Goals as goal

pub sum-requires-clause-fits : goal.sum-requires-clause-fits
sum-requires-clause-fits c = search (rules, sums)

pub returns : goal.returns
returns c =
    let total : c.sum.result ≡ sum c.args.self.counts = search rules in
    total ∙ sum-folded c.args.self
