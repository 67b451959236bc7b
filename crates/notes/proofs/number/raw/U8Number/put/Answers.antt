-- `u8` is stored as `Number` asks: one byte.
-- Assumes nothing.
use Rattle.std.proofs.Common.{◌≡◌, ◌%◌, arith}
use Rattle.notes.specs.Bytes.{to_bytes}
use Rattle.notes.proofs.number.raw.U8Number.put.Goals as goal

pub returns : goal.returns
unfolding to_bytes
returns c =
    let low : c.args.self % 256 ≡ c.args.self = omega arith in rw low
