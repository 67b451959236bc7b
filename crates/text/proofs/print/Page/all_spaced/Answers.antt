-- `Page::all_spaced` meets its contract: one number more with each turn.
-- Assumes nothing.
use mathlib.Core.List.{flat_map}
use native.Mathlib.Omega.{arith}
use lib.ListN.{length, get_or, take}
use lib.Seq.{length-take-le}
use Rattle.notes.proofs.Lists.{take_more}
use Rattle.text.specs.Text.{spaced}
use Rattle.text.proofs.Decimals.{length-spaced}
use Rattle.text.proofs.Texts.{added-none, added-more, room-left}
use Rattle.text.proofs.print.Page.all_spaced.Goals as goal

pub loop-x-init : goal.loop-x-init
unfolding flat_map
loop-x-init c =
    added-none c.args.self.now

pub spaced-requires : goal.spaced-requires
spaced-requires c =
    let xs = c.args.xs.now in
    let i = c.loop-x.x-index in
    let l = length-take-le i xs (omega arith) in
    let room = room-left spaced 11 length-spaced (take i xs) (length xs) c.requires (omega arith) c.loop-x.invariant in
    omega (arith, length-spaced (get_or xs i 0))

pub loop-x-preserved : goal.loop-x-preserved
loop-x-preserved c =
    let xs = c.args.xs.now in
    let i = c.loop-x.x-index in
    rw (take_more xs i 0 c.loop-x-test.true)
    (added-more spaced 11 length-spaced (take i xs) (get_or xs i 0) c.loop-x.invariant c.spaced.ensures)
