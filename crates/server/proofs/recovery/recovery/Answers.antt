-- `recovery::recovery` meets its contract: what is refused, or what the image gives.
-- Assumes nothing.
use mathlib.Core.Path.{◌≡◌}
use Rattle.std.specs.Prelude.{Err}
use borrow.Author.Rules.{rules}
use Rattle.memory.specs.Lent.{server}
use Rattle.rules.specs.Memory.{Memory}
use Rattle.rules.specs.Answer.{finished}
use Rattle.rules.specs.Step.{recovery}
use Rattle.memory.proofs.Tested.{down-suits}
use Rattle.server.proofs.Plain.{plain-headed, plain-elsewhere, plain-passed, plain-known}
use Rattle.server.proofs.recovery.recovery.Goals as goal

pub returns-in_err-down_head-clause-effect : goal.returns-in_err-down_head-clause-effect
unfolding recovery
returns-in_err-down_head-clause-effect c =
    let told : c.from_residual.result ≡ Err c.in_err-down_head.field-0.0 = search rules in
    rw told (plain-headed _ (server c.args.m.now) c.lent.ensures (λ (m : Memory). m.state.up) c.args.at _ _ c.in_err-down_head.ensures)

pub returns-in_err-here-clause-effect : goal.returns-in_err-here-clause-effect
unfolding recovery
returns-in_err-here-clause-effect c =
    let told : c.from_residual-in_err-here.result ≡ Err c.in_err-here.field-0.0 = search rules in
    rw told
    (plain-elsewhere _ (server c.args.m.now) c.lent.ensures (λ (m : Memory). m.state.up) c.args.at _ c.in_ok-down_head.ensures _ c.in_err-here.ensures)

pub recover-requires : goal.recover-requires
recover-requires c =
    let m = server c.args.m.now in
    let known = plain-known _ m c.lent.ensures (λ (m : Memory). m.state.up) c.args.at (finished m) c.in_ok-down_head.ensures c.in_ok-here.ensures in
    record {
      history = known.head.history;
      image = known.head.image;
      suits = down-suits m.state m.history m.image known.right known.head.sound;
    }

pub returns-clause-effect : goal.returns-clause-effect
unfolding recovery
returns-clause-effect c =
    rw c.recover.ensures.effect
    (plain-passed _ (server c.args.m.now) c.lent.ensures (λ (m : Memory). m.state.up) c.args.at _ c.in_ok-down_head.ensures c.in_ok-here.ensures)
