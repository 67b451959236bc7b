-- `cut::cut` meets its contract: what is refused, or the state down.
-- Assumes nothing.
use mathlib.Core.Path.{◌≡◌}
use Rattle.std.specs.Prelude.{Err}
use borrow.Author.Rules.{rules}
use Rattle.memory.specs.Lent.{server}
use Rattle.rules.specs.Answer.{is_down}
use Rattle.rules.specs.Step.{cut}
use Rattle.server.proofs.Plain.{plain-headed, plain-elsewhere, plain-passed}
use Rattle.server.proofs.cut.cut.Goals as goal

pub returns-in_err-up_head-clause-effect : goal.returns-in_err-up_head-clause-effect
unfolding cut
returns-in_err-up_head-clause-effect c =
    let told : c.from_residual.result ≡ Err c.in_err-up_head.field-0.0 = search rules in
    let m = server c.args.m.now in
    rw told (plain-headed _ m c.lent.ensures is_down c.args.at _ _ c.in_err-up_head.ensures)

pub returns-in_err-here-clause-effect : goal.returns-in_err-here-clause-effect
unfolding cut
returns-in_err-here-clause-effect c =
    let told : c.from_residual-in_err-here.result ≡ Err c.in_err-here.field-0.0 = search rules in
    let m = server c.args.m.now in
    rw told (plain-elsewhere _ m c.lent.ensures is_down c.args.at _ c.in_ok-up_head.ensures _ c.in_err-here.ensures)

pub returns-clause-effect : goal.returns-clause-effect
unfolding cut
returns-clause-effect c =
    let m = server c.args.m.now in
    rw c.down-m.ensures (plain-passed _ m c.lent.ensures is_down c.args.at _ c.in_ok-up_head.ensures c.in_ok-here.ensures)
