-- `walk::own_run` meets its contract. The invariant: whether all are a run is whether those left are one.
-- Assumes nothing.
use mathlib.Core.Bool.{true}
use mathlib.Core.Path.{◌≡◌, sym, ◌∙◌}
use native.Mathlib.Omega.{arith}
use Rattle.notes.specs.Record.{well_formed}
use Rattle.memory.proofs.Walks.{this, origin-low}
use Rattle.memory.proofs.Runs.{run-unformed, run-other, run-unnumbered, run_more, run-all}
use Rattle.memory.proofs.walk.own_run.Goals as goal
use Rattle.memory.proofs.walk.own_run.Goals.{then-not-is_met-via-then-not-is_met, then-not-is_met-via-else-not-is_met+then-record-own, then-not-is_met-via-else-not-is_met+else-record-own+then-number_of-next}

pub number_of-requires : goal.number_of-requires
number_of-requires c =
    let a = c.args in
    let i = c.loop-record.record-index in
    let ok : well_formed a.form.n (this a.form.n a.records.now i) ≡ true = sym c.is_met.ensures ∙ c.if-not-is_met.false in
    (omega (arith, c.told-records i c.loop-record-test.true), origin-low a.form.n a.records.now i a.form.few ok)

pub returns-then-not-is_met : goal.returns-then-not-is_met
returns-then-not-is_met c =
    let a = c.args in
    let l = c.loop-record in
    let h = c.loop-record-test.true in
    sym
    (l.invariant.2
    ∙ elim c.then-not-is_met.branch [
      | then-not-is_met-via-then-not-is_met w ↦ run-unformed a.form.n a.own a.records.now l.record-index h l.next (sym c.is_met.ensures ∙ w.if-not-is_met.true)
      | then-not-is_met-via-else-not-is_met+then-record-own w ↦ run-other a.form.n a.own a.records.now l.record-index h l.next w.if-record-own.true
      | then-not-is_met-via-else-not-is_met+else-record-own+then-number_of-next w ↦ run-unnumbered a.form.n a.own a.records.now l.record-index h l.next
          (λ q. w.if-number_of-next.true (w.number_of.ensures ∙ q))
    ])

pub loop-record-preserved : goal.loop-record-preserved
loop-record-preserved c =
    let a = c.args in
    let l = c.loop-record in (
      omega arith,
      omega (arith, l.invariant.1),
      l.invariant.2
          ∙ run_more a.form.n a.own a.records.now l.record-index c.loop-record-test.true l.next
          (sym c.is_met.ensures ∙ c.if-not-is_met.false)
          c.if-record-own.false
          (sym c.number_of.ensures ∙ c.if-number_of-next.false),
    )

pub returns : goal.returns
returns c =
    let a = c.args in
    let l = c.loop-record in
    sym (l.invariant.2 ∙ run-all a.form.n a.own a.records.now l.record-index l.next c.loop-record-test.false)
