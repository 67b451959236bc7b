-- `update::suitable` meets its contract: N decides, and then the sender.
-- Assumes nothing.
use mathlib.Core.List.{[]}
use mathlib.Core.Path.{sym, ◌∙◌}
use borrow.Author.Tests.{eq-eqb, ne_eqb}
use Rattle.rules.specs.Memory.{memory}
use Rattle.server.proofs.Updating.{unsuited-refused, suited-decides}
use Rattle.server.proofs.update.suitable.Goals as goal

pub returns-then-said-s : goal.returns-then-said-s
returns-then-said-s c =
    let said = c.in-Ok.said in
    c.ne.ensures
    ∙ sym
    (suited-decides (memory c.args.s.now [] []) c.args.message.now said c.in-Ok.ensures
    ∙ rw (eq-eqb said.n c.args.s.now.n c.if-said-s.true))

pub returns-else-said-s : goal.returns-else-said-s
returns-else-said-s c =
    let said = c.in-Ok.said in
    let e = ne_eqb said.n c.args.s.now.n c.if-said-s.false in
    e ∙ sym (suited-decides (memory c.args.s.now [] []) c.args.message.now said c.in-Ok.ensures ∙ rw e)

pub returns-in-Err : goal.returns-in-Err
returns-in-Err c = sym (unsuited-refused (memory c.args.s.now [] []) c.args.message.now _ c.in-Err.ensures)
