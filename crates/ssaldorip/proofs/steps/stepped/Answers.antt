-- `steps::stepped` meets its contract: refused for a buffer or by the step, or done.
-- Assumes nothing.
use mathlib.Core.List.{[]}
use Rattle.std.proofs.Common.{sym, ◌∙◌, arith, rules}
use Rattle.memory.specs.Lent.{server}
use Rattle.ssaldorip.specs.Calls.{Lent, lent, no_reply}
use Rattle.ssaldorip.proofs.Told.{told_again}
use Rattle.ssaldorip.proofs.Called.{state_lacks, vector_lacks, lent_as, step_refused, step_done}
use Rattle.ssaldorip.proofs.steps.stepped.Goals as goal

pub returns-in_err-asked : goal.returns-in_err-asked
returns-in_err-asked c =
    let a = c.args in
    rw (told_again c.from_residual.result _ c.from_residual.ensures.1)
    (vector_lacks a.asked.now 0 _ no_reply _ _ (sym c.vector_in.ensures ∙ c.in_err-asked.was))

pub returns-in_err-state_of : goal.returns-in_err-state_of
returns-in_err-state_of c =
    let r = c.from_residual-in_err-state_of in
    rw (told_again r.result _ r.ensures.1) (state_lacks _ 0 _ no_reply _ _ (sym c.state_of.ensures ∙ c.in_err-state_of.was))

pub returns-in_err-step : goal.returns-in_err-step
returns-in_err-step c =
    let a = c.args in
    let l : Lent = lent a.state.now a.history.now a.image.now [] in
    let read = sym c.state_of.ensures ∙ c.in_ok-state_of.was in
    let carried = sym c.vector_in.ensures ∙ c.in_ok-asked.was in
    let r = c.from_residual-in_err-step in
    let is = rw c.in_err-step.was at c.step.ensures.effect in
    rw (told_again r.result _ r.ensures.1)
    (lent_as (search rules) (search rules) (step_refused a.server a.what a.asked.now a.message.now 0 no_reply l _ _ read carried _ (server c.step.new.m) is))

pub returns : goal.returns
returns c =
    let a = c.args in
    let l : Lent = lent a.state.now a.history.now a.image.now [] in
    let read = sym c.state_of.ensures ∙ c.in_ok-state_of.was in
    let carried = sym c.vector_in.ensures ∙ c.in_ok-asked.was in
    let is = rw c.in_ok-step.was at c.step.ensures.effect in
    rw c.put_state.ensures
    (lent_as (search rules) (search rules) (step_done a.server a.what a.asked.now a.message.now 0 no_reply l _ _ read carried _ (server c.step.new.m) is (omega arith)))
