-- `listing::put_listing` meets its contract: the head and the records' lines, or that the message is refused.
-- Assumes nothing.
use Prim.Native.Nat.{◌*◌, ◌≤◌}
use mathlib.Core.List.{◌++◌, flat_map}
use mathlib.Core.Path.{◌≡◌, refl, ap, sym, subst}
use native.Mathlib.Omega.{arith}
use Rattle.notes.specs.Message.{header_size, history_most, brought, left_from}
use Rattle.notes.specs.declared.message.Header.{Header}
use Rattle.notes.proofs.Answers.{update-right, refused-wrong}
use Rattle.notes.proofs.Messages.{right-few, right-n}
use Rattle.notes.proofs.Reading.{left-all, unread-all}
use Rattle.text.specs.Text.{head_line, record_line, listing, head_room, line_room}
use Rattle.text.proofs.Texts.{added-as, added-then, room-after}
use Rattle.text.proofs.Lines.{listed-right, listed-wrong, head-room}
use Rattle.text.proofs.listing.put_listing.Goals as goal

pub put_head-requires : goal.put_head-requires
put_head-requires c =
    let right = update-right c.args.m.now c.in-Ok.header c.in-Ok.ensures in
    let count = ap (λ (h : Header). h.count) right.1 in
    (omega (arith, right-few c.args.m.now right.0), omega arith)

pub put_records-requires : goal.put_records-requires
put_records-requires c =
    let m = c.args.m.now in
    let h = c.in-Ok.header in
    let right = update-right m h c.in-Ok.ensures in
    let n = ap (λ (h : Header). h.n) right.1 in
    let left : left_from m header_size ≤ history_most = omega (arith, left-all m, right-few m right.0) in (
      omega (arith, right-n m right.0),
      room-after head_room (line_room * left_from m header_size) (head-room h.n h.sender.0 h.count) c.put_head.ensures (omega arith),
    )

pub returns-in-Ok : goal.returns-in-Ok
returns-in-Ok c =
    let m = c.args.m.now in
    let right = update-right m c.in-Ok.header c.in-Ok.ensures in
    let says : Header → _ = λ h. head_line h.n h.sender.0 h.count ++ flat_map (record_line h.n) (brought m) ≡ listing m in
    added-as (rw (unread-all (record { message = c.args.m; at = header_size }) refl) (subst says (sym right.1) (listed-right m right.0)))
    (added-then c.put_head.ensures c.put_records.ensures)

pub returns-in-Err : goal.returns-in-Err
returns-in-Err c =
    let m = c.args.m.now in
    added-as (listed-wrong m (refused-wrong m c.in-Err.field-0 c.in-Err.ensures)) c.text.ensures
