-- `Vector::maximum` meets its contract. The invariant: the positions passed are the maximum's, the others this vector's.
-- Assumes nothing.
use Rattle.std.proofs.Common.{◌≡◌, ◌∙◌, ap, length, arith, rules}
use Rattle.notes.specs.Vector.{vector, maximum as maximum_of}
use Rattle.notes.proofs.Vectors.{maximum-more, length-maximum}
use Rattle.notes.proofs.Lists.{copied_all}
use Rattle.notes.proofs.vector.Vector.maximum.Goals as goal

pub loop-i-preserved : goal.loop-i-preserved
loop-i-preserved c =
    let l = c.loop-i in
    let a = c.args in (
      maximum-more a.self a.other (search rules) (search rules) l.count-items l.i _ (search rules) l.invariant.0 (search rules),
      search rules,
    )

pub returns : goal.returns
returns c =
    let l = c.loop-i in
    let a = c.args in
    let eight = length-maximum a.self a.other (search rules) (search rules) in
    let own : length a.self.counts ≡ 8 = search rules in
    ap vector (l.invariant.0 ∙ copied_all (maximum_of a.self a.other).counts a.self.counts l.i (omega arith) (omega arith))
