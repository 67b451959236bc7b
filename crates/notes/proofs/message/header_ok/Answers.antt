-- `message::header_ok` meets its contract: each test decides where it stops.
-- Assumes nothing.
use Prim.Native.Nat.{◌+◌, ◌*◌}
use mathlib.Core.Bool.{and-false}
use native.Mathlib.Omega.{arith}
use borrow.Author.Tests.{ne_eqb}
use lib.ListN.{length}
use Rattle.std.proofs.Common.{rules}
use Rattle.std.proofs.lemmas.Grind.{common_steps}
use Rattle.notes.specs.Bytes.{field}
use Rattle.notes.specs.Message.{count_field}
use Rattle.notes.specs.Forms.{header_ok}
use Rattle.notes.proofs.Messages.{server-at}
use Rattle.notes.proofs.message.header_ok.Goals as goal

pub returns-then-m-lt-LEN : goal.returns-then-m-lt-LEN
unfolding header_ok
returns-then-m-lt-LEN c =
    let m = c.args.m.now in rw (ne_eqb (length m) (8 + 28 * field count_field m) (λ e. omega arith), and-false)

pub returns-then-total-m : goal.returns-then-total-m
unfolding header_ok
returns-then-total-m c =
    let s = server-at c.args.m.now in grind (arith, common_steps)

pub returns-else-total-m : goal.returns-else-total-m
unfolding header_ok
returns-else-total-m c =
    let s = server-at c.args.m.now in search rules
