-- `line::line` meets its contract: the name, the numbers and the line feed stand on a page that has room for them.
-- Assumes nothing.
use Prim.Native.Nat.{◌+◌, ◌*◌, ◌≤◌}
use mathlib.Core.Path.{sym, ◌∙◌}
use native.Mathlib.Omega.{arith}
use borrow.Author.Tests.{leb-true, leb-false}
use lib.ListN.{length}
use Rattle.std.proofs.Common.{rules}
use Rattle.text.specs.Text.{named_room}
use Rattle.text.proofs.Named.{line-short, line-done}
use Rattle.text.proofs.Texts.{numbers-room, added-then, room-new, room-after, page-stored}
use Rattle.text.proofs.line.line.Goals as goal

pub returns-then-not-has_room : goal.returns-then-not-has_room
returns-then-not-has_room c =
    let a = c.args in
    line-short a.name.now a.xs.now a.out.now (leb-false _ _ (sym c.has_room.ensures ∙ c.if-not-has_room.true))

pub all_spaced-requires : goal.all_spaced-requires
all_spaced-requires c =
    let fits : named_room (length c.args.name.now) (length c.args.xs.now) ≤ length c.args.out.now = leb-true _ _ (sym c.has_room.ensures ∙ c.if-not-has_room.false) in
    let name = length c.args.name.now in
    let numbers = 11 * length c.args.xs.now in
    room-after name numbers (omega arith) c.text.ensures (room-new c.new-page.ensures (name + numbers) (omega arith))

pub end_line-requires : goal.end_line-requires
end_line-requires c =
    let fits : named_room (length c.args.name.now) (length c.args.xs.now) ≤ length c.args.out.now = leb-true _ _ (sym c.has_room.ensures ∙ c.if-not-has_room.false) in
    let name = length c.args.name.now in
    let numbers = 11 * length c.args.xs.now in
    room-after numbers 1 (numbers-room c.args.xs.now) c.all_spaced.ensures
    (room-after name (numbers + 1) (omega arith) c.text.ensures (room-new c.new-page.ensures (name + (numbers + 1)) (omega arith)))

pub returns : goal.returns
returns c =
    let fits : named_room (length c.args.name.now) (length c.args.xs.now) ≤ length c.args.out.now = leb-true _ _ (sym c.has_room.ensures ∙ c.if-not-has_room.false) in
    let a = c.args in
    let page = added-then (added-then c.text.ensures c.all_spaced.ensures) c.end_line.ensures in
    let name = page.same ∙ c.new-page.ensures.same in
    line-done a.name.now a.xs.now a.out.now _ _ fits (page-stored c.new-page.ensures (search rules) page)
