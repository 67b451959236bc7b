-- `beside::status_of` meets its contract: refused, or told of the phones in CR.
-- Assumes nothing.
use Rattle.std.proofs.Common.{sym, ◌∙◌, Ok, Err, Some, None}
use Rattle.ssaldorip.specs.Calls.{Lent, lent}
use Rattle.ssaldorip.proofs.Told.{told_again}
use Rattle.ssaldorip.proofs.Reported.{told_status}
use Rattle.ssaldorip.proofs.beside.status_of.Goals as goal

pub returns-in_err-found : goal.returns-in_err-found
returns-in_err-found c =
    let a = c.args in
    let l : Lent = lent a.state.now a.history.now a.image.now a.reply.now in
    let r = c.from_residual-in_err-found in
    rw (told_again r.result _ r.ensures.1)
    (told_status l _ (sym c.state_of.ensures ∙ c.in_ok-state.was) (Err _) (rw c.in_err-found.was at c.status.ensures))

pub returns-in-Some : goal.returns-in-Some
returns-in-Some c =
    let a = c.args in
    let l : Lent = lent a.state.now a.history.now a.image.now a.reply.now in
    c.put_status.ensures
    ∙ told_status l _ (sym c.state_of.ensures ∙ c.in_ok-state.was) (Ok (Some _)) (rw (c.in_ok-found.was, c.in-Some.is) at c.status.ensures)

pub returns-in-None : goal.returns-in-None
returns-in-None c =
    let a = c.args in
    let l : Lent = lent a.state.now a.history.now a.image.now a.reply.now in
    c.put_status-in-None.ensures
    ∙ told_status l _ (sym c.state_of.ensures ∙ c.in_ok-state.was) (Ok None) (rw (c.in_ok-found.was, c.in-None.is) at c.status.ensures)
