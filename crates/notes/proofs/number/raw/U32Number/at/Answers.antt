-- `u32` is read as `Number` asks: std's number of 4 bytes is ours.
-- Assumes nothing.
use Rattle.std.proofs.Common.{◌∙◌, drop}
use Rattle.notes.proofs.Numbers.{read-le}
use Rattle.notes.proofs.number.raw.U32Number.at.Goals as goal

pub returns : goal.returns
returns c =
    c.from_le_bytes.ensures ∙ read-le 3 (drop c.args.at c.args.b.now) c.bytes_at.result c.bytes_at.ensures
