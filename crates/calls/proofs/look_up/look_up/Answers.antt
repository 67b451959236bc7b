-- `look_up::look_up` meets its contract: the first refusal, or the part where the record stands.
-- Assumes nothing.
use mathlib.Core.Path.{◌≡◌, ◌∙◌}
use native.Mathlib.Nat.{add-sub_cancel_left}
use Rattle.rules.specs.Answer.{refusal_reply}
use Rattle.rules.specs.Calls.{found, look_up}
use borrow.Author.Rules.{rules}
use Rattle.calls.proofs.look_up.look_up.Goals as goal

pub returns-in_err-place-clause-reply : goal.returns-in_err-place-clause-reply
unfolding look_up
returns-in_err-place-clause-reply c =
    let told : found c.from_residual.result ≡ refusal_reply c.in_err-place.field-0.0 = search rules in
    told ∙ rw (← c.in_err-place.ensures.refusal)

pub returns-in_default-clause-reply : goal.returns-in_default-clause-reply
unfolding look_up
returns-in_default-clause-reply c =
    let nowhere = rw c.in_default.is at c.in_ok-place.ensures.place in
    rw (← c.in_ok-place.ensures.refusal, ← nowhere)

pub returns-clause-reply : goal.returns-clause-reply
unfolding look_up
returns-clause-reply c =
    let there = rw c.in-Some.is at c.in_ok-place.ensures.place in
    rw (add-sub_cancel_left, ← c.in_ok-place.ensures.refusal, ← there)
