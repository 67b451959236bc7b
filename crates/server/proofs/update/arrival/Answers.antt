-- `update::arrival` meets its contract: row by row.
-- Assumes nothing.
use mathlib.Core.Path.{◌≡◌, sym, ◌∙◌}
use Rattle.std.specs.Prelude.{Err}
use borrow.Author.Rules.{rules}
use Rattle.memory.specs.Lent.{looked_at}
use Rattle.server.proofs.Plain.{arrival-headed, arrival-elsewhere, arrival-unsuited, arrival-passed}
use Rattle.server.proofs.update.arrival.Goals as goal

pub returns-in_err-up_head : goal.returns-in_err-up_head
returns-in_err-up_head c =
    let told : c.from_residual.result ≡ Err c.in_err-up_head.field-0.0 = search rules in
    rw told (arrival-headed (looked_at c.args.m) c.args.at c.args.message.now _ c.in_err-up_head.ensures)

pub returns-in_err-here : goal.returns-in_err-here
returns-in_err-here c =
    let told : c.from_residual-in_err-here.result ≡ Err c.in_err-here.field-0.0 = search rules in
    rw told (arrival-elsewhere (looked_at c.args.m) c.args.at c.args.message.now c.in_ok-up_head.ensures _ c.in_err-here.ensures)

pub returns-then-not-suitable : goal.returns-then-not-suitable
returns-then-not-suitable c =
    arrival-unsuited (looked_at c.args.m) c.args.at c.args.message.now c.in_ok-up_head.ensures c.in_ok-here.ensures
    (sym c.suitable.ensures ∙ c.if-not-suitable.true)

pub returns : goal.returns
returns c =
    arrival-passed (looked_at c.args.m) c.args.at c.args.message.now c.in_ok-up_head.ensures c.in_ok-here.ensures
    (sym c.suitable.ensures ∙ c.if-not-suitable.false)
