-- `admit::request_head` meets its contract: the head, then the request's own rows.
-- Assumes nothing.
use mathlib.Core.Option.{some}
use mathlib.Core.Path.{◌≡◌, sym, ◌∙◌}
use Rattle.memory.specs.Lent.{looked_at}
use Rattle.rules.specs.Answer.{verdict_refusal}
use Rattle.requests.proofs.Admitting.{request-refused, request-out, request-behind, request-full}
use borrow.Author.Rules.{rules}
use Rattle.requests.proofs.admit.request_head.Goals as goal

pub returns-in_err-up_head : goal.returns-in_err-up_head
returns-in_err-up_head c =
    let a = c.args.ask in
    let told : verdict_refusal c.from_residual.result ≡ some c.in_err-up_head.field-0.0 = search rules in
    told ∙ sym (request-refused (looked_at c.args.m) a.server a.phone a.request a.vector _ (sym c.in_err-up_head.ensures))

pub returns-then-out_of_range : goal.returns-then-out_of_range
returns-then-out_of_range c =
    let a = c.args.ask in
    sym (request-out (looked_at c.args.m) a.server a.phone a.request a.vector (sym c.in_ok-up_head.ensures) (sym c.if-out_of_range.ensures))

pub returns-then-is_behind : goal.returns-then-is_behind
returns-then-is_behind c =
    let a = c.args.ask in
    sym (request-behind (looked_at c.args.m) a.server a.phone a.request a.vector (sym c.in_ok-up_head.ensures) (sym c.if-out_of_range.ensures) (sym c.if-is_behind.ensures))

pub returns : goal.returns
returns c =
    let a = c.args.ask in
    c.full.ensures c.args.m.history.now
    ∙ sym (request-full (looked_at c.args.m) a.server a.phone a.request a.vector (sym c.in_ok-up_head.ensures) (sym c.if-out_of_range.ensures) (sym c.if-is_behind.ensures))
