-- `read::read_cut` meets its contract: the first of the stores, and the state down.
-- Assumes nothing.
use Rattle.rules.specs.Memory.{memory}
use Rattle.rules.specs.Request.{cut_after}
use Rattle.rules.specs.declared.event.Request.TheVariants.{Read}
use Rattle.requests.proofs.Served.{room}
use Rattle.requests.proofs.read.read_cut.Goals as goal

pub store_due-requires : goal.store_due-requires
store_due-requires c =
    let a = c.args in
    room (memory a.s a.history.now a.image.now) a.phone (Read a.cell) c.requires

pub returns : goal.returns
unfolding cut_after
returns c =
    rw (c.down.ensures, c.store_due.ensures c.args.cell)
