-- `u8` is read as `Number` asks: one byte.
-- Assumes nothing.
use Rattle.std.proofs.Common.{sym}
use Rattle.notes.proofs.Numbers.{from_one}
use Rattle.notes.proofs.number.raw.U8Number.at.Goals as goal

pub returns : goal.returns
returns c = sym (from_one c.args.at c.args.b.now)
