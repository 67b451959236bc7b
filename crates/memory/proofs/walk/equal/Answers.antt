-- `walk::equal` meets its contract. The invariant: the bytes passed are the same.
-- Assumes nothing.
use mathlib.Core.Path.{sym}
use Rattle.memory.proofs.Same.{same_none, same_more}
use borrow.Author.Rules.{rules}
use Rattle.memory.proofs.walk.equal.Goals as goal

pub loop-i-init : goal.loop-i-init
loop-i-init c =
    (search rules, sym (same_none c.args.a.now c.args.b.now c.requires))

pub loop-i-preserved : goal.loop-i-preserved
loop-i-preserved c =
    (search rules, rw c.loop-i.invariant.1 (sym (same_more c.args.a.now c.args.b.now c.requires c.loop-i.i c.loop-i-test.true)))
