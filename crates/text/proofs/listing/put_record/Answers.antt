-- `listing::put_record` meets its contract: the first number, the five behind it, and T.
-- Assumes nothing.
use Prim.Native.Nat.{◌≤◌}
use mathlib.Core.Path.{◌≡◌}
use native.Mathlib.Omega.{arith}
use lib.ListN.{length, take, length-take}
use Rattle.std.proofs.Common.{rules}
use Rattle.notes.specs.Index.{servers}
use Rattle.text.proofs.Decimals.{length-decimal}
use Rattle.text.proofs.Texts.{added-as, added-then, room-after, numbers-room, same_map}
use Rattle.text.proofs.Lines.{record_stored}
use Rattle.text.proofs.listing.put_record.Goals as goal

pub number-requires : goal.number-requires
number-requires c =
    omega (arith, length-decimal c.from.result)

pub all_spaced-requires : goal.all_spaced-requires
all_spaced-requires c =
    room-after 10 55 (length-decimal c.from.result) c.number.ensures (omega arith)

pub all_spaced-requires-2 : goal.all_spaced-requires-2
all_spaced-requires-2 c =
    let n : length (take c.from-5.result c.map-stamp.result) ≤ servers = rw length-take (omega arith) in
    room-after 55 _ (numbers-room _) c.all_spaced.ensures
    (room-after 10 _ (length-decimal c.from.result) c.number.ensures (omega arith))

pub end_line-requires : goal.end_line-requires
end_line-requires c =
    let n : length (take c.from-5.result c.map-stamp.result) ≤ servers = rw length-take (omega arith) in
    let numbers = numbers-room (take c.from-5.result c.map-stamp.result) in
    room-after 88 1 (omega (arith, numbers)) c.all_spaced-2.ensures
    (room-after 55 89 (numbers-room _) c.all_spaced.ensures
    (room-after 10 144 (length-decimal c.from.result) c.number.ensures (omega arith)))

pub returns : goal.returns
returns c =
    let eight : length c.args.r.stamp.counts ≡ servers = search rules in
    let stamp : c.map-stamp.result ≡ c.args.r.stamp.counts = same_map c.map-stamp.ensures.items eight (λ p q x y h. search rules) in
    added-as
    (rw (c.from.ensures, c.from-2.ensures, c.number-2.ensures, c.from-3.ensures, c.from-4.ensures, stamp, c.from-5.ensures) (record_stored c.args.n c.args.r))
    (added-then (added-then (added-then c.number.ensures c.all_spaced.ensures) c.all_spaced-2.ensures) c.end_line.ensures)
