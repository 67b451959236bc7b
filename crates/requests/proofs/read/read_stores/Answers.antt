-- `read::read_stores` meets its contract: none, or those of a checkpoint.
-- Assumes nothing.
use mathlib.Core.Path.{◌≡◌, ap, sym, ◌∙◌}
use Rattle.memory.specs.Lent.{looked_at}
use Rattle.rules.specs.Memory.{Memory}
use Rattle.rules.specs.Image.{checkpoint_count}
use Rattle.laws.proofs.Stores.{length-checkpoint_plan}
use Rattle.memory.specs.declared.image.Image.{Image}
use Rattle.requests.specs.Forms.{Room}
use Rattle.requests.proofs.Served.{plan-due, plan-none}
use Rattle.requests.proofs.read.read_stores.Goals as goal

pub returns-then-not-is_due : goal.returns-then-not-is_due
returns-then-not-is_due c =
    let found : Memory = looked_at c.args.m in
    rw (plan-none found c.args.phone c.args.cell (sym (c.is_due.ensures c.args.cell) ∙ c.if-not-is_due.true))

pub returns : goal.returns
returns c =
    let found : Memory = looked_at c.args.m in
    let a = c.args in
    let roomy : Room found.state.held (checkpoint_count found.image) found.history found.image = c.requires.0 in
    let kept : c.counts-kept.result.checkpoint ≡ checkpoint_count found.image = ap (λ (i : Image). i.checkpoint) c.counts-kept.ensures in
    rw (
      plan-due found a.phone a.cell (sym (c.is_due.ensures a.cell) ∙ c.if-not-is_due.false),
      length-checkpoint_plan found.history found.state.held (checkpoint_count found.image) roomy.kept roomy.history,
      kept,
      c.from.ensures,
    )
