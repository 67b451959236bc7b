-- `record::raw::first_records` meets its contract: std's chunks are our pieces.
-- Assumes nothing.
use Rattle.std.proofs.Common.{◌/◌, length, arith}
use Rattle.notes.proofs.Pieces.{first-pieces}
use Rattle.notes.proofs.record.raw.first_records.Goals as goal

pub returns : goal.returns
returns c =
    rw c.as_chunks.ensures.front (first-pieces 28 c.args.count (length c.args.b.now / 28) c.args.b.now (omega arith))
