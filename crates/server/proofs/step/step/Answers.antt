-- `step::step` meets its contract: each event by its own function.
-- Assumes nothing.
use Prim.Native.Nat.{ℕ}
use mathlib.Core.List.{List}
use mathlib.Core.Path.{◌≡◌, sym, ap, ◌∙◌}
use Rattle.std.specs.Prelude.{Err}
use borrow.Author.Rules.{rules}
use Rattle.rules.specs.declared.event.What.{What}
use Rattle.rules.specs.declared.event.Event.{Event}
use Rattle.notes.specs.declared.vector.Vector.{Vector}
use Rattle.rules.specs.Answer.{Effect}
use Rattle.rules.specs.Memory.{Memory}
use Rattle.rules.specs.Step.{happens, step}
use Rattle.server.proofs.step.step.Goals as goal

-- what happens in an arm is the step
happened :
    (m : Memory) (e : Event) (v : Vector) (msg : List ℕ) {x : Effect} {w : What}
    → e.what ≡ w
    → x ≡ happens m e.server w v msg
    → x ≡ step m e v msg
unfolding step
happened m e v msg q h = h ∙ ap (λ (w : What). happens m e.server w v msg) (sym q)

pub returns-in-Request-clause-effect : goal.returns-in-Request-clause-effect
returns-in-Request-clause-effect c = happened _ _ _ _ c.in-Request.is (rw c.ask.ensures at c.request.ensures.effect)

pub returns-in_err-request_cut-in-RequestCut-clause-effect : goal.returns-in_err-request_cut-in-RequestCut-clause-effect
returns-in_err-request_cut-in-RequestCut-clause-effect c =
    let told : c.from_residual.result ≡ Err c.in_err-request_cut-in-RequestCut.field-0.0 = search rules in
    rw told (happened _ _ _ _ c.in-RequestCut.is (rw c.ask-in-RequestCut.ensures at c.in_err-request_cut-in-RequestCut.ensures.effect))

pub returns-in_ok-request_cut-in-RequestCut-clause-effect : goal.returns-in_ok-request_cut-in-RequestCut-clause-effect
returns-in_ok-request_cut-in-RequestCut-clause-effect c =
    happened _ _ _ _ c.in-RequestCut.is (rw c.ask-in-RequestCut.ensures at c.in_ok-request_cut-in-RequestCut.ensures.effect)

pub returns-in_err-cut-in-Cut-clause-effect : goal.returns-in_err-cut-in-Cut-clause-effect
returns-in_err-cut-in-Cut-clause-effect c =
    let told : c.from_residual-in_err-cut-in-Cut.result ≡ Err c.in_err-cut-in-Cut.field-0.0 = search rules in
    rw told (happened _ _ _ _ c.in-Cut.is c.in_err-cut-in-Cut.ensures.effect)

pub returns-in_ok-cut-in-Cut-clause-effect : goal.returns-in_ok-cut-in-Cut-clause-effect
returns-in_ok-cut-in-Cut-clause-effect c = happened _ _ _ _ c.in-Cut.is c.in_ok-cut-in-Cut.ensures.effect

pub returns-in_err-update-in-Update-clause-effect : goal.returns-in_err-update-in-Update-clause-effect
returns-in_err-update-in-Update-clause-effect c =
    let told : c.from_residual-in_err-update-in-Update.result ≡ Err c.in_err-update-in-Update.field-0.0 = search rules in
    rw told (happened _ _ _ _ c.in-Update.is c.in_err-update-in-Update.ensures.effect)

pub returns-in_ok-update-in-Update-clause-effect : goal.returns-in_ok-update-in-Update-clause-effect
returns-in_ok-update-in-Update-clause-effect c = happened _ _ _ _ c.in-Update.is c.in_ok-update-in-Update.ensures.effect

pub returns-in_err-recovery-in-Recovery-clause-effect : goal.returns-in_err-recovery-in-Recovery-clause-effect
returns-in_err-recovery-in-Recovery-clause-effect c =
    let told : c.from_residual-in_err-recovery-in-Recovery.result ≡ Err c.in_err-recovery-in-Recovery.field-0.0 = search rules in
    rw told (happened _ _ _ _ c.in-Recovery.is c.in_err-recovery-in-Recovery.ensures.effect)

pub returns-in_ok-recovery-in-Recovery-clause-effect : goal.returns-in_ok-recovery-in-Recovery-clause-effect
returns-in_ok-recovery-in-Recovery-clause-effect c = happened _ _ _ _ c.in-Recovery.is c.in_ok-recovery-in-Recovery.ensures.effect
