-- `stores::store_checkpoint` meets its contract: cut before the counts, between them, or not.
-- Assumes nothing.
use mathlib.Core.Path.{◌∙◌}
use native.Mathlib.Omega.{arith}
use Rattle.requests.proofs.Storing.{checkpoint-cut, checkpoint-between, checkpoint-whole}
use Rattle.requests.proofs.stores.store_checkpoint.Goals as goal

pub returns-then-k-all : goal.returns-then-k-all
returns-then-k-all c =
    let a = c.args in
    c.store_bytes.ensures
    ∙ checkpoint-cut a.image.now a.history.now a.held a.kept a.k c.requires (omega (arith, c.if-k-all.true))

pub returns-then-k-all-2 : goal.returns-then-k-all-2
returns-then-k-all-2 c =
    let a = c.args in
    c.put_count.ensures
    ∙ rw c.store_bytes.ensures
    (checkpoint-between a.image.now a.history.now a.held a.kept a.k c.requires (omega (arith, c.if-k-all-2.true)))

pub returns : goal.returns
returns c =
    let a = c.args in
    c.put_count-2.ensures
    ∙ rw (c.put_count.ensures, c.store_bytes.ensures)
    (checkpoint-whole a.image.now a.history.now a.held a.kept a.k c.requires (omega (arith, c.if-k-all.false, c.if-k-all-2.false)))
