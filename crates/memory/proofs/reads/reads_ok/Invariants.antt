-- `reads::reads_ok` meets its contract. The invariant: the test over the phones passed.
-- Assumes nothing.
use mathlib.Core.Path.{◌≡◌}
use lib.ListN.{take}
use Rattle.notes.specs.Lists.{every}
use Rattle.rules.specs.Memory.{phone_ids}
use Rattle.rules.specs.Sound.{rw_ok}
use Rattle.memory.proofs.reads.reads_ok.Given as goal

abbrev pub invariant-loop-i : goal.invariant-loop-i
invariant-loop-i l = l.ok ≡ every (rw_ok l.s) (take l.i phone_ids)
