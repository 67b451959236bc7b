-- `read::read` meets its contract: all the stores, the winner's value, and the state that the read leaves.
-- Assumes nothing.
use Rattle.notes.specs.Record.{records}
use Rattle.memory.specs.Lent.{server}
use Rattle.rules.specs.Memory.{Memory}
use Rattle.rules.specs.declared.event.Request.TheVariants.{Read}
use Rattle.requests.proofs.Served.{room, read-plan-all, read-served}
use Rattle.requests.proofs.read.read.Goals as goal

pub store_due-requires : goal.store_due-requires
store_due-requires c =
    let a = c.args in
    rw c.take-history.ensures.value (room (server a.m.now) a.phone (Read a.cell) c.requires)

pub first_records-requires : goal.first_records-requires
first_records-requires c =
    let a = c.args in
    let roomy = room (server a.m.now) a.phone (Read a.cell) c.requires in
    rw (c.from-held.ensures, c.take-history.ensures.value) roomy.history

pub returns-clause-effect : goal.returns-clause-effect
unfolding records
returns-clause-effect c =
    let a = c.args in
    let found : Memory = server a.m.now in
    let kept = c.take-history.ensures.value in
    let found-value = rw (c.first_records.ensures, c.from-held.ensures, kept) at c.winner-value.ensures in
    rw (
      c.ready-m.ensures a.cell,
      c.store_due.ensures a.cell,
      c.from-held.ensures,
      kept,
      read-plan-all found a.phone a.cell (room found a.phone (Read a.cell) c.requires),
    )
    (read-served found a.phone a.cell c.winner-value.result found-value)
