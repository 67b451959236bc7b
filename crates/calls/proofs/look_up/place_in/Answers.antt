-- `look_up::place_in` meets its contract: in the checkpoint or else in the log.
-- Assumes nothing.
use Prim.Native.Nat.{ℕ, ◌≤◌, ◌<◌}
use mathlib.Core.List.{List}
use mathlib.Core.Option.{none, some}
use mathlib.Core.Path.{◌≡◌, ap, sym, subst, ◌∙◌}
use native.Mathlib.Omega.{arith}
use denote.Ref.{Bor}
use Rattle.rules.specs.Calls.{place_of, stands_at}
use Rattle.rules.specs.Image.{checkpoint, log}
use Rattle.rules.specs.Image.{image_size, log_most}
use Rattle.notes.specs.Message.{history_most}
use lib.ListN.{length}
use Rattle.calls.proofs.LookUp.{Accepted, accepted, kept-below, logged-below}
use Rattle.calls.proofs.look_up.place_in.Goals as goal
use Rattle.calls.proofs.look_up.place_in.Goals.{In_ok-headed, In-Some, In_default, In_default-find, In-Some-find}

-- the image is not refused
passed : (c : In_ok-headed) → Accepted c.args.image.now c.args.origin
passed c = accepted _ _ (sym c.in_ok-headed.ensures.refusal)

-- the records looked among are the checkpoint's of the image
kept : (c : In-Some) → place_of c.args.origin c.args.number (checkpoint c.args.image.now) ≡ some c.in-Some.k
kept c =
    sym
    (c.in-Some.ensures
    ∙ ap (place_of c.args.origin c.args.number) (c.checkpoint.ensures ∙ ap (λ (b : Bor (List ℕ)). checkpoint b.now) c.in_ok-headed.ensures.same))

not-kept : (c : In_default) → place_of c.args.origin c.args.number (checkpoint c.args.image.now) ≡ none
not-kept c =
    sym
    (c.in_default.ensures
    ∙ ap (place_of c.args.origin c.args.number) (c.checkpoint.ensures ∙ ap (λ (b : Bor (List ℕ)). checkpoint b.now) c.in_ok-headed.ensures.same))

logged : (c : In-Some-find) → place_of c.args.origin c.args.number (log c.args.image.now) ≡ some c.in-Some-find.k
logged c =
    sym
    (c.in-Some-find.ensures
    ∙ ap (place_of c.args.origin c.args.number) (c.log.ensures ∙ ap (λ (b : Bor (List ℕ)). log b.now) c.in_ok-headed.ensures.same))

not-logged : (c : In_default-find) → place_of c.args.origin c.args.number (log c.args.image.now) ≡ none
not-logged c =
    sym
    (c.in_default-find.ensures
    ∙ ap (place_of c.args.origin c.args.number) (c.log.ensures ∙ ap (λ (b : Bor (List ℕ)). log b.now) c.in_ok-headed.ensures.same))

few-kept : (c : In-Some) → (c.in-Some.k < history_most) × (image_size ≤ length c.args.image.now)
few-kept c =
    let a = accepted c.args.image.now c.args.origin (sym c.in_ok-headed.ensures.refusal) in
    (kept-below c.args.image.now c.args.origin c.args.number a.image c.in-Some.k (kept c), a.image.long)

few-logged : (c : In-Some-find) → (c.in-Some-find.k < log_most) × (image_size ≤ length c.args.image.now)
few-logged c =
    let a = accepted c.args.image.now c.args.origin (sym c.in_ok-headed.ensures.refusal) in
    (logged-below c.args.image.now c.args.origin c.args.number a.image c.in-Some-find.k (logged c), a.image.long)

pub find-requires : goal.find-requires
find-requires c =
    (passed (goal.at.find-requires c).In_ok-headed).origin

pub find-requires-2 : goal.find-requires-2
find-requires-2 c =
    (passed (goal.at.find-requires-2 c).In_ok-headed).origin

pub overflow_mul-result : goal.overflow_mul-result
overflow_mul-result c =
    omega (arith, (few-kept c).0)

pub overflow_add-result : goal.overflow_add-result
overflow_add-result c =
    omega (arith, (few-kept c).0)

pub returns-in-Some-clause-place : goal.returns-in-Some-clause-place
unfolding stands_at
returns-in-Some-clause-place c =
    rw (kept c)

pub returns-in-Some-clause-fits : goal.returns-in-Some-clause-fits
returns-in-Some-clause-fits c =
    let few = few-kept c in
    omega arith

pub returns-in_default-find-clause-place : goal.returns-in_default-find-clause-place
unfolding stands_at
returns-in_default-find-clause-place c =
    rw (not-kept (goal.at.returns-in_default-find-clause-place c).In_default, not-logged c)

pub overflow_mul-result-2 : goal.overflow_mul-result-2
overflow_mul-result-2 c =
    omega (arith, (few-logged c).0)

pub overflow_add-result-2 : goal.overflow_add-result-2
overflow_add-result-2 c =
    omega (arith, (few-logged c).0)

pub returns-clause-place : goal.returns-clause-place
unfolding stands_at
returns-clause-place c =
    rw (not-kept (goal.at.returns-clause-place c).In_default, logged c)

pub returns-clause-fits : goal.returns-clause-fits
returns-clause-fits c =
    let few = few-logged c in
    omega arith
