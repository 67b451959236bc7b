-- `raw::walk` meets its contract: of no records there are no counts.
-- Assumes nothing.
use native.Mathlib.Omega.{arith}
use Rattle.memory.proofs.Walks.{walk_none}
use Rattle.memory.proofs.raw.walk.Goals as goal

pub walk_on-requires : goal.walk_on-requires
walk_on-requires c = (c.requires.0, omega arith, rw c.zero.ensures (walk_none c.of.result.n))
