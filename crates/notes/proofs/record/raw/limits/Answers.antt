-- `record::raw::limits` meets its contract. The invariant: the positions passed are the limits, the others zero.
-- Assumes nothing.
use Rattle.std.proofs.Common.{◌∙◌, sym, ap, arith, rules}
use Rattle.notes.specs.Vector.{vector, zeros}
use Rattle.notes.specs.Forms.{limits_of}
use Rattle.notes.proofs.Lists.{copied_more, copied_all}
use Rattle.notes.proofs.Vectors.{limit-at, length-limits}
use Rattle.notes.proofs.record.raw.limits.Goals as goal

pub loop-i-preserved : goal.loop-i-preserved
loop-i-preserved c =
    let l = c.loop-i in
    let n = c.args.n in
    let limit = c.limit.ensures ∙ sym (limit-at n l.i (search rules)) in
    let len = length-limits n in (
      rw (l.invariant.0, limit) (copied_more (limits_of n).counts zeros.counts l.i 0 (omega arith) (search rules)),
      search rules,
    )

pub returns : goal.returns
returns c =
    let l = c.loop-i in
    let n = c.args.n in
    let eight = length-limits n in
    ap vector (l.invariant.0 ∙ copied_all (limits_of n).counts zeros.counts l.i (omega arith) (search rules))
