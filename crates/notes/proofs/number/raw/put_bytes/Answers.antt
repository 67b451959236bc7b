-- `number::raw::put_bytes` meets its contract: the bytes before, those copied, and the bytes behind are the bytes set.
-- Assumes nothing.
use Rattle.std.proofs.Common.{◌≡◌, ◌+◌, ◌-◌, length, arith}
use Rattle.notes.proofs.Lists.{put_part}
use Rattle.notes.proofs.number.raw.put_bytes.Goals as goal

pub returns : goal.returns
returns c =
    let a = c.args in
    let e : a.at + length a.from.now - a.at ≡ length a.from.now = omega arith in
    rw (c.copy_from_slice.ensures.after, e) (put_part a.at a.out.now a.from.now c.requires)
