-- `message::message` meets its contract: what the head refuses, 9 for the output, and then the message.
-- Assumes nothing.
use mathlib.Core.Option.{none}
use mathlib.Core.Path.{◌≡◌, sym, ◌∙◌}
use native.Mathlib.Omega.{arith}
use Rattle.memory.specs.Lent.{looked_at}
use Rattle.rules.specs.Answer.{message_reply, refusal_reply}
use Rattle.rules.specs.Calls.{message_filled}
use Rattle.notes.specs.Reply.{Reply, Filled}
use Rattle.calls.proofs.OwnMessage.{held-few, length-bytes, message-refused, message-short, message-filled}
use borrow.Author.Rules.{rules}
use Rattle.calls.proofs.message.message.Goals as goal

pub returns-in_err-up_head : goal.returns-in_err-up_head
returns-in_err-up_head c =
    let told : message_reply c.from_residual.result ≡ refusal_reply c.in_err-up_head.field-0.0 = search rules in
    rw told (sym (message-refused (looked_at c.args.m) c.args.out.now _ c.in_err-up_head.ensures))

pub returns-then-out-len : goal.returns-then-out-len
returns-then-out-len c =
    sym (message-short (looked_at c.args.m) c.args.out.now c.in_ok-up_head.ensures (rw c.from-len.ensures at c.if-out-len.true))

pub slice_bounds-put_message-end : goal.slice_bounds-put_message-end
slice_bounds-put_message-end c =
    rw c.from-len.ensures (sym (length-bytes (looked_at c.args.m) c.in_ok-up_head.ensures))

pub put_message-requires : goal.put_message-requires
put_message-requires c =
    let few = held-few (looked_at c.args.m) c.in_ok-up_head.ensures in
    rw (c.from-len.ensures, length-bytes (looked_at c.args.m) c.in_ok-up_head.ensures)
    (omega (arith, rw c.from-len.ensures at c.if-out-len.false), omega arith, omega arith)

pub returns : goal.returns
returns c =
    rw (c.put_message.ensures, c.from-len.ensures)
    (sym (message-filled (looked_at c.args.m) c.args.out.now c.in_ok-up_head.ensures (rw c.from-len.ensures at c.if-out-len.false)))
