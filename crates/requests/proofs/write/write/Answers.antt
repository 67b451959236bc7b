-- `write::write` meets its contract: the record's stores, the history, and the state.
-- Assumes nothing.
use mathlib.Core.Path.{sym}
use native.Mathlib.Omega.{arith}
use Rattle.memory.specs.Lent.{server}
use Rattle.rules.specs.Memory.{Memory}
use Rattle.requests.specs.Forms.{writing}
use Rattle.requests.proofs.Written.{small, plan-whole, write-served}
use Rattle.requests.proofs.write.write.Goals as goal

pub store_new-bytes-requires : goal.store_new-bytes-requires
store_new-bytes-requires c =
    rw c.take-history.ensures.value c.requires

pub one_more-m-requires : goal.one_more-m-requires
one_more-m-requires c =
    let a = c.args in
    small (server a.m.now) a.note.phone (writing a.note) c.requires

pub returns-clause-effect : goal.returns-clause-effect
returns-clause-effect c =
    let found : Memory = server c.args.m.now in
    let n = c.args.note in
    let made = rw c.take-history.ensures.value at c.store_new-bytes.ensures in
    rw (
      c.one_more-m.ensures,
      c.put_bytes.ensures,
      c.from.ensures,
      c.take-history.ensures.value,
      made.image,
      made.bytes,
      plan-whole found n.phone n.cell n.value n.time c.requires 29 (omega arith),
    )
    (sym (write-served found n.phone n.cell n.value n.time c.requires))
