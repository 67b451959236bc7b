-- `listing::list` meets its contract: the listing stands on a page that has room for any.
-- Assumes nothing.
use mathlib.Core.Path.{◌∙◌}
use Rattle.std.proofs.Common.{rules}
use Rattle.text.specs.Text.{listing_room}
use Rattle.text.proofs.Texts.{room-new, page-stored}
use Rattle.text.proofs.Lines.{list-short, list_done}
use Rattle.text.proofs.listing.list.Goals as goal

pub returns-then-out-lt-ROOM : goal.returns-then-out-lt-ROOM
returns-then-out-lt-ROOM c =
    list-short c.args.m.now c.args.out.now c.if-out-lt-ROOM.true

pub put_listing-requires : goal.put_listing-requires
put_listing-requires c =
    room-new c.new-page.ensures listing_room c.if-out-lt-ROOM.false

pub returns : goal.returns
returns c =
    let name = c.put_listing.ensures.same ∙ c.new-page.ensures.same in
    list_done c.args.m.now c.args.out.now _ _ c.if-out-lt-ROOM.false (page-stored c.new-page.ensures (search rules) c.put_listing.ensures)
