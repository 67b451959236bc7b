-- `Phone::store_due` meets its contract: nothing, or the first of a checkpoint's stores.
-- Assumes nothing.
use mathlib.Core.Path.{◌≡◌, ap, sym, ◌∙◌}
use Rattle.rules.specs.Memory.{Memory, memory}
use Rattle.rules.specs.Image.{checkpoint_count}
use Rattle.memory.specs.declared.image.Image.{Image}
use Rattle.requests.proofs.Served.{plan-due, none-stored}
use Rattle.requests.proofs.read.Phone.store_due.Goals as goal

pub returns-then-not-is_due : goal.returns-then-not-is_due
returns-then-not-is_due c =
    let a = c.args in
    let found : Memory = memory a.s.now a.history.now a.image.now in
    λ cell. none-stored found a.self.id cell a.k (sym (c.is_due.ensures cell) ∙ c.if-not-is_due.true)

pub returns : goal.returns
returns c =
    let a = c.args in
    let found : Memory = memory a.s.now a.history.now a.image.now in
    let kept : c.counts-kept.result.checkpoint ≡ checkpoint_count a.image.now = ap (λ (i : Image). i.checkpoint) c.counts-kept.ensures in
    λ cell.
    rw (plan-due found a.self.id cell (sym (c.is_due.ensures cell) ∙ c.if-not-is_due.false), c.store_checkpoint.ensures, c.from.ensures, kept)
