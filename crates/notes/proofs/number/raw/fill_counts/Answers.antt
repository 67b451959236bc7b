-- `number::raw::fill_counts` meets its contract. The invariant: the numbers passed are those in the bytes, the others as they were.
-- Assumes nothing.
use Rattle.std.proofs.Common.{◌∙◌, sym, drop, length, arith, rules}
use Rattle.notes.specs.Vector.{counts_in}
use Rattle.notes.proofs.Lists.{copied_more, copied_all}
use Rattle.notes.proofs.Vectors.{length-counts_in, count-in}
use Rattle.notes.proofs.number.raw.fill_counts.Goals as goal

pub loop-i-preserved : goal.loop-i-preserved
loop-i-preserved c =
    let a = c.args in
    let i = c.loop-i.i in
    let n = length a.out.now in
    let z = counts_in n (drop a.at a.b.now) in
    let count = c.at.ensures ∙ sym (count-in n a.at a.b.now i (search rules)) in (
      rw (c.loop-i.invariant.0, count) (copied_more z a.out.now i 0 (omega (arith, length-counts_in n (drop a.at a.b.now))) (search rules)),
      search rules,
    )

pub returns : goal.returns
returns c =
    let a = c.args in
    let n = length a.out.now in
    let l = length-counts_in n (drop a.at a.b.now) in
    c.loop-i.invariant.0 ∙ copied_all (counts_in n (drop a.at a.b.now)) a.out.now c.loop-i.i (omega arith) (omega arith)
