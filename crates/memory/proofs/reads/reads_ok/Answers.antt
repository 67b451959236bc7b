-- `reads::reads_ok` meets its contract. The invariant: the test over the phones passed.
-- Assumes nothing.
use mathlib.Core.Path.{refl, sym, ◌∙◌}
use Rattle.notes.specs.Lists.{every}
use Rattle.memory.proofs.Tables.{reads_more, reads_all}
use Rattle.memory.proofs.reads.reads_ok.Goals as goal

pub loop-i-init : goal.loop-i-init
unfolding every
loop-i-init c = refl

pub loop-i-preserved : goal.loop-i-preserved
loop-i-preserved c =
    rw c.loop-i.invariant (sym (reads_more c.args.s.now c.loop-i.i c.loop-i-test.true))

pub returns : goal.returns
returns c =
    c.loop-i.invariant ∙ reads_all c.args.s.now c.loop-i.i c.loop-i-test.false
