-- `record::raw::head_ok` meets its contract: one number of four bytes tells the phone and the cell.
-- Assumes nothing.
use Rattle.std.proofs.Common.{ℕ, ◌≤◌, ◌<◌, ◌/◌, ◌%◌, eqb, sym, ap, subst, ◌∙◌}
use borrow.Author.Tests.{le-ltb}
use Rattle.notes.proofs.Numbers.{AllBelow}
use Rattle.notes.proofs.Records.{origin-out, cell_out, phone-decides}
use Rattle.notes.proofs.record.raw.head_ok.Goals as goal

pub returns-then-n-b : goal.returns-then-n-b
returns-then-n-b c =
    let a = c.args in sym (origin-out a.b.now (λ i. (c.type_inv.b i).fits) a.n c.if-n-b.true)

pub returns-then-head-lt-CELLS_ABOVE : goal.returns-then-head-lt-CELLS_ABOVE
returns-then-head-lt-CELLS_ABOVE c =
    let a = c.args in
    let h : AllBelow 256 a.b.now = λ i. (c.type_inv.b i).fits in
    let e = c.at-head.ensures in
    ap (λ (x : ℕ). eqb (x / 16384 % 4) 0) e
    ∙ sym (phone-decides a.b.now h a.n c.if-n-b.false (subst (λ (x : ℕ). x < 67108864) e c.if-head-lt-CELLS_ABOVE.true))

pub returns-else-head-lt-CELLS_ABOVE : goal.returns-else-head-lt-CELLS_ABOVE
returns-else-head-lt-CELLS_ABOVE c =
    let a = c.args in
    let h : AllBelow 256 a.b.now = λ i. (c.type_inv.b i).fits in
    le-ltb _ _ c.if-head-lt-CELLS_ABOVE.false
    ∙ sym (cell_out a.b.now h a.n (subst (◌≤◌ 67108864) c.at-head.ensures c.if-head-lt-CELLS_ABOVE.false))
