-- `status::status` meets its contract: what the head refuses, or the phones.
-- Assumes nothing.
use mathlib.Core.Path.{◌≡◌, ◌∙◌}
use Rattle.rules.specs.Answer.{status_reply, refusal_reply}
use Rattle.rules.specs.Calls.{status}
use borrow.Author.Rules.{rules}
use Rattle.calls.proofs.status.status.Goals as goal

pub returns-in_err-up_head : goal.returns-in_err-up_head
unfolding status
returns-in_err-up_head c =
    let told : status_reply c.from_residual.result ≡ refusal_reply c.in_err-up_head.field-0.0 = search rules in
    told ∙ rw (← c.in_err-up_head.ensures)

pub returns : goal.returns
unfolding status
returns c =
    rw (← c.in_ok-up_head.ensures, c.phones_in.ensures)
