-- `request::request` meets its contract: what is refused, or the read or the write served.
-- Assumes nothing.
use mathlib.Core.Option.{none}
use mathlib.Core.Path.{◌≡◌, sym, ap, ◌∙◌, subst}
use Rattle.std.proofs.Common.{Err}
use Rattle.notes.specs.Reply.{first}
use Rattle.memory.specs.Lent.{server, looked_at}
use Rattle.rules.specs.Request.{served, request_refusals, request}
use Rattle.laws.proofs.Passed.{Admitted}
use Rattle.requests.proofs.Admitting.{lent-passed, lent-admitted}
use borrow.Author.Rules.{rules}
use Rattle.requests.proofs.request.request.Goals as goal
use Rattle.requests.proofs.request.request.Goals.{In_ok-request_head}

passed : (c : In_ok-request_head) → let a = c.args.ask in first (request_refusals (server c.args.m.now) a.server a.phone a.request a.vector) ≡ none
passed c =
    let a = c.args.ask in
    lent-passed (server c.args.m.now) a.server a.phone a.request a.vector (looked_at c.lent.result) c.lent.ensures c.in_ok-request_head.ensures

let-in : (c : In_ok-request_head) → Admitted (server c.args.m.now) c.args.ask.phone c.args.ask.request
let-in c =
    let a = c.args.ask in
    lent-admitted (server c.args.m.now) a.server a.phone a.request a.vector (looked_at c.lent.result) c.lent.ensures c.in_ok-request_head.ensures

pub returns-in_err-request_head-clause-effect : goal.returns-in_err-request_head-clause-effect
unfolding request
returns-in_err-request_head-clause-effect c =
    let told : c.from_residual.result ≡ Err c.in_err-request_head.field-0.0 = search rules in
    rw (told, ← c.lent.ensures, sym c.in_err-request_head.ensures)

pub read-requires : goal.read-requires
read-requires c =
    subst (Admitted (server c.args.m.now) c.args.ask.phone) c.in-Read.is (let-in (goal.at.read-requires c).In_ok-request_head)

pub write-requires : goal.write-requires
write-requires c =
    subst (Admitted (server c.args.m.now) c.args.ask.phone) c.in-Write.is (let-in (goal.at.write-requires c).In_ok-request_head)

pub returns-in-Read-clause-effect : goal.returns-in-Read-clause-effect
unfolding request
returns-in-Read-clause-effect c =
    rw (passed (goal.at.returns-in-Read-clause-effect c).In_ok-request_head)
    (c.read.ensures.effect ∙ ap (served (server c.args.m.now) c.args.ask.phone) (sym c.in-Read.is))

pub returns-in-Write-clause-effect : goal.returns-in-Write-clause-effect
unfolding request
returns-in-Write-clause-effect c =
    rw (passed (goal.at.returns-in-Write-clause-effect c).In_ok-request_head)
    (c.write.ensures.effect ∙ ap (served (server c.args.m.now) c.args.ask.phone) (sym c.in-Write.is))
