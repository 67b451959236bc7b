-- `number::raw::counts_at` meets its contract: an array is filled.
-- Assumes nothing.
use Rattle.std.proofs.Common.{◌∙◌, ap, drop}
use Rattle.std.proofs.lemmas.List.{length-replicate}
use Rattle.notes.specs.Vector.{counts_in}
use Rattle.notes.proofs.number.raw.counts_at.Goals as goal

pub returns : goal.returns
returns g c =
    let a = c.args in
    c.fill_counts.ensures ∙ ap (λ n. counts_in n (drop a.at a.b.now)) (length-replicate g.row.N 0)
