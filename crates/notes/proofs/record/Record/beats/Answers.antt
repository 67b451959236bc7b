-- `Record::beats` meets its contract: the first number that differs decides.
-- Assumes nothing.
use mathlib.Core.Bool.{Bool, true, false, not, true≢false}
use mathlib.Core.Path.{◌≡◌, refl, ap, sym, ◌∙◌}
use borrow.Author.Tests.{eqb-true, eq-eqb}
use lib.Dec.{eqb}
use Rattle.notes.specs.Vector.{sum}
use Rattle.notes.specs.Record.{beats}
use Rattle.notes.proofs.Lists.{above-differs, above_same, above-last, less-last}
use Rattle.notes.proofs.record.Record.beats.Goals as goal

pub returns-then-mine-theirs : goal.returns-then-mine-theirs
unfolding beats
returns-then-mine-theirs c =
    rw (c.sum-theirs.ensures, c.sum-mine.ensures)
    (sym (above-differs _ _ _ _ (λ e. c.if-mine-theirs.true (c.sum-mine.ensures ∙ e ∙ sym c.sum-theirs.ensures))))

-- the truth of a test whose opposite is false
held : (t : Bool) → false ≡ not t → t ≡ true
held true e = refl
held false e = absurd (true≢false (sym e))

pub returns-then-ne : goal.returns-then-ne
unfolding beats
returns-then-ne c =
    let a = c.args.self.origin.0 in
    let b = c.args.other.origin.0 in
    let sums-equal : sum c.args.self.stamp ≡ sum c.args.other.stamp = sym c.sum-mine.ensures ∙ c.if-mine-theirs.false ∙ c.sum-theirs.ensures in
    c.lt.ensures
    ∙ less-last a b
    ∙ above-last a b
    ∙ sym (above_same _ _ _ _ sums-equal ∙ above-differs _ _ _ _ (λ e. true≢false (c.if-ne.ensures ∙ ap not (eq-eqb a b e))))

pub returns : goal.returns
unfolding beats
returns c =
    let a = c.args.self.origin.0 in
    let b = c.args.other.origin.0 in
    let sums-equal : sum c.args.self.stamp ≡ sum c.args.other.stamp = sym c.sum-mine.ensures ∙ c.if-mine-theirs.false ∙ c.sum-theirs.ensures in
    rw (c.number.ensures, c.number-2.ensures)
    (sym
    (above_same _ _ _ _ sums-equal
    ∙ above_same _ _ _ _ (eqb-true a b (held (eqb a b) c.if-ne.ensures))
    ∙ above-last _ _))
