-- `message::records_ok` meets its contract: each test decides where it stops.
-- Assumes nothing.
use Prim.Native.Nat.{◌/◌}
use lib.ListN.{length}
use Rattle.std.proofs.Common.{arith}
use Rattle.std.proofs.lemmas.Grind.{common_steps}
use Rattle.notes.specs.Message.{records_ok}
use Rattle.notes.proofs.Records.{length-records}
use Rattle.notes.proofs.message.records_ok.Goals as goal

pub returns-then-b-le-WRITES_MOST : goal.returns-then-b-le-WRITES_MOST
unfolding records_ok
returns-then-b-le-WRITES_MOST c =
    let b = c.args.b.now in
    let l = length-records (length b / 28) b in grind (arith, common_steps)

pub returns-else-b-le-WRITES_MOST : goal.returns-else-b-le-WRITES_MOST
unfolding records_ok
returns-else-b-le-WRITES_MOST c =
    let b = c.args.b.now in
    let l = length-records (length b / 28) b in grind (arith, common_steps)
