-- `number::raw::put_counts` meets its contract. The invariant: the bytes of the numbers passed are stored.
-- Assumes nothing.
use Rattle.std.proofs.Common.{◌∙◌, refl, rules}
use mathlib.Core.List.{flat_map}
use Rattle.notes.proofs.Vectors.{counts-stored}
use Rattle.notes.proofs.number.raw.put_counts.Goals as goal

pub loop-i-init : goal.loop-i-init
unfolding flat_map
loop-i-init c = refl

pub loop-i-preserved : goal.loop-i-preserved
loop-i-preserved c =
    let l = c.loop-i in
    let a = c.args in
    c.put.ensures ∙ rw l.invariant (counts-stored a.xs.now l.i (search rules) a.out.now a.at)
