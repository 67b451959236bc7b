-- `listing::put_records` meets its contract: one line more with each record that the reader gives.
-- Assumes nothing.
use Prim.Native.Nat.{◌≤◌, ◌<◌}
use mathlib.Core.List.{map-id, flat_map}
use mathlib.Core.Path.{◌≡◌, ap, sym, ◌∙◌}
use lib.ListN.{length}
use Rattle.std.proofs.Common.{rules}
use Rattle.std.proofs.lemmas.Iterator.Consumers.{YieldsList-at, YieldsList-turn, YieldsList-end}
use Rattle.notes.specs.Index.{servers}
use Rattle.notes.specs.Message.{left_from, unread}
use Rattle.notes.proofs.Records.{length-records}
use Rattle.notes.proofs.Reading.{reader-yields}
use Rattle.text.specs.Text.{record_line, line_room}
use Rattle.text.proofs.Texts.{added-as, added-none, added-more, room-left}
use Rattle.text.proofs.Lines.{record-room}
use Rattle.text.proofs.listing.put_records.Goals as goal

pub loop-record-init : goal.loop-record-init
unfolding flat_map
loop-record-init c =
    added-none c.args.page.now

pub put_record-requires : goal.put_record-requires
put_record-requires c =
    let r = c.args.records in
    let n = c.args.n in
    let few : n ≤ servers = search rules in
    let all = YieldsList-at c.into_iter-record-iterator.ensures.into_iter_gives (reader-yields r) in
    let turn = YieldsList-turn all c.loop-record.yielded _ c.loop-record.yielded_by _ _ c.in-Some.record c.in-Some.is c.next.ensures.steps in
    let left : length c.loop-record.yielded < left_from r.message.now r.at = rw length-records at turn.0 in
    (few, room-left (record_line n) line_room (record-room n few) c.loop-record.yielded (left_from r.message.now r.at) c.requires.1 left c.loop-record.invariant)

pub loop-record-preserved : goal.loop-record-preserved
loop-record-preserved c =
    let few : c.args.n ≤ servers = search rules in
    added-more (record_line c.args.n) line_room (record-room c.args.n few) c.loop-record.yielded c.in-Some.record c.loop-record.invariant c.put_record.ensures

pub returns : goal.returns
returns c =
    let all = YieldsList-at c.into_iter-record-iterator.ensures.into_iter_gives (reader-yields c.args.records) in
    let end = YieldsList-end all c.loop-record.yielded _ c.loop-record.yielded_by _ _ c.in-None.is c.next.ensures.steps in
    let same : c.loop-record.yielded ≡ unread c.args.records = sym (map-id c.loop-record.yielded) ∙ end.0 in
    added-as (ap (flat_map (record_line c.args.n)) same) c.loop-record.invariant
