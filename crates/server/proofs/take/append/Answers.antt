-- `take::append` meets its contract. The invariant: storing the new writes of those left gives the whole.
-- Assumes nothing.
use Rattle.server.proofs.Taking.{listed-item, copied_all, copied-skips, copied-room, copied_more}
use Rattle.server.proofs.take.append.Goals as goal
use Rattle.server.proofs.take.append.Goals.{then-vector-origin, else-vector-origin}

pub number_of-number-requires : goal.number_of-number-requires
number_of-number-requires c =
    listed-item c.args.records.now _ c.loop-record-test.true c.requires.0 c.told-records

pub bounds-vector-origin : goal.bounds-vector-origin
bounds-vector-origin c =
    rw c.from-origin.ensures (listed-item c.args.records.now _ c.loop-record-test.true c.requires.0 c.told-records).1

pub bounds-vector-origin-then-vector-origin : goal.bounds-vector-origin-then-vector-origin
bounds-vector-origin-then-vector-origin c =
    rw c.from-origin.ensures (listed-item c.args.records.now _ c.loop-record-test.true c.requires.0 c.told-records).1

pub put_write-requires : goal.put_write-requires
put_write-requires c =
    let l = c.loop-record in
    copied-room c.args.records.now _ l.record-index l.vector l.history l.end l.invariant c.loop-record-test.true _ c.number_of-number.ensures
    (rw c.from-origin.ensures at c.if-vector-origin.true)

pub loop-record-preserved : goal.loop-record-preserved
loop-record-preserved c =
    let l = c.loop-record in
    elim c.if-vector-origin.branch [
      | then-vector-origin w ↦
          rw (w.history-is, w.vector-is, w.end-is, w.put_write.ensures, c.from-origin.ensures)
          (copied_more c.args.records.now _ l.record-index l.vector l.history l.end l.invariant c.loop-record-test.true _ c.number_of-number.ensures (rw c.from-origin.ensures at w.if-vector-origin.true))
      | else-vector-origin w ↦
          rw (w.history-is, w.vector-is, w.end-is)
          (copied-skips c.args.records.now _ l.record-index l.vector l.history l.end l.invariant c.loop-record-test.true _ c.number_of-number.ensures (rw c.from-origin.ensures at w.if-vector-origin.false))
    ]

pub returns : goal.returns
returns c =
    let l = c.loop-record in
    copied_all c.args.records.now _ l.record-index l.vector l.history l.end l.invariant c.loop-record-test.false
