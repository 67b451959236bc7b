-- `image::Headed::newest` meets its contract: T at own as it stands in the last record's bytes.
-- Assumes nothing.
use Prim.Native.Nat.{◌≤◌, ◌<◌, ◌-◌}
use mathlib.Core.List.{[]}
use mathlib.Core.Path.{◌≡◌, sym, ap, ◌∙◌}
use native.Mathlib.Omega.{arith}
use lib.ListN.{length, get_or}
use Rattle.std.proofs.Common.{rules}
use Rattle.memory.specs.Forms.{newest}
use Rattle.memory.proofs.Tested.{newest-none, newest-some}
use Rattle.memory.proofs.image.raw.Headed.newest.Goals as goal

pub returns-in-Some : goal.returns-in-Some
returns-in-Some c =
    let b = c.log.result.now in
    let some : 0 < length b = omega (arith, c.in-Some.ensures.item) in
    let last : c.in-Some.last.now ≡ get_or b (length b - 1) [] = search (rules, c.in-Some.ensures.item) in
    c.at.ensures
    ∙ rw (c.vector_at.ensures, last) (sym (newest-some c.args.own b some))
    ∙ ap (newest c.args.own) c.log.ensures

pub returns-in-None : goal.returns-in-None
returns-in-None c =
    let b = c.log.result.now in
    let none : length b ≤ 0 = omega (arith, c.in-None.ensures.item) in
    sym (newest-none c.args.own b none) ∙ ap (newest c.args.own) c.log.ensures
