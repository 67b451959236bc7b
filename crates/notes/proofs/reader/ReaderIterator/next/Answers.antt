-- `Reader`'s `next` meets its contract: a record read is one fewer to come.
-- Assumes nothing.
use Rattle.std.proofs.Common.{arith}
use Rattle.std.proofs.lemmas.Grind.{common_steps}
use Rattle.notes.proofs.Reading.{reads-down}
use Rattle.notes.proofs.reader.ReaderIterator.next.Goals as goal

pub returns-clause-goes : goal.returns-clause-goes
returns-clause-goes c =
    let r = c.args.self.now in
    let down = reads-down r.message.now r.at in
    grind (arith, common_steps)
