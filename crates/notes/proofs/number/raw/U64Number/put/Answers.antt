-- `u64` is stored as `Number` asks: std's 8 bytes of a number are ours.
-- Assumes nothing.
use Rattle.std.proofs.Common.{◌∙◌, ap}
use Rattle.std.proofs.Math.Seq.{sets}
use Rattle.notes.proofs.Numbers.{to-le}
use Rattle.notes.proofs.number.raw.U64Number.put.Goals as goal

pub returns : goal.returns
returns c =
    c.put_bytes.ensures ∙ ap (sets c.args.out.now c.args.at) (c.to_le_bytes.ensures ∙ to-le 8 c.args.self)
