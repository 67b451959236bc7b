-- `message::raw::put_header` meets its contract: number by number.
-- Assumes nothing.
use Prim.Native.Nat.{◌<◌}
use mathlib.Core.Path.{◌∙◌}
use native.Mathlib.Omega.{arith}
use Rattle.notes.proofs.Messages.{header-stored}
use Rattle.notes.proofs.message.raw.put_header.Goals as goal

pub returns : goal.returns
returns c =
    let n : c.args.h.n < 256 = omega arith in
    let s : c.args.h.sender.0 < 256 = omega arith in
    c.put-5.ensures
    ∙ rw (c.put-4.ensures, c.put-3.ensures, c.put-2.ensures, c.put.ensures)
    (header-stored c.args.h.n c.args.h.sender c.args.h.count c.args.out.now n s)
