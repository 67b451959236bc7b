-- `start::start` meets its contract: each refusal where it stops, and then the fresh server.
-- Assumes nothing.
use mathlib.Core.Bool.{false}
use mathlib.Core.Path.{◌≡◌, sym, ◌∙◌}
use Rattle.rules.specs.Memory.{Memory}
use Rattle.rules.specs.Answer.{short}
use Rattle.rules.specs.Calls.{no_server}
use Rattle.laws.proofs.Passed.{long-enough}
use Rattle.calls.proofs.Starting.{start-9, start-1, start-done}
use Rattle.calls.proofs.start.start.Goals as goal
use Rattle.calls.proofs.start.start.Goals.{Else-too_short}

pub returns-then-too_short : goal.returns-then-too_short
returns-then-too_short c =
    let a = c.args in
    sym (start-9 a.n a.own a.history.now a.image.now (sym c.too_short.ensures ∙ c.if-too_short.true))

-- no buffer is too short
long : (c : Else-too_short) → short (no_server c.args.history.now c.args.image.now) ≡ false
long c = sym c.too_short.ensures ∙ c.if-too_short.false

pub returns-then-not-is_one_of : goal.returns-then-not-is_one_of
returns-then-not-is_one_of c =
    let a = c.args in
    sym
    (start-1 a.n a.own a.history.now a.image.now (long (goal.at.returns-then-not-is_one_of c).Else-too_short) (sym c.is_one_of.ensures ∙ c.if-not-is_one_of.true))

pub zero_first-requires : goal.zero_first-requires
zero_first-requires c =
    (long-enough (no_server c.args.history.now c.args.image.now) (long (goal.at.zero_first-requires c).Else-too_short)).0

pub put_fresh-requires : goal.put_fresh-requires
put_fresh-requires c =
    (long-enough (no_server c.args.history.now c.args.image.now) (long (goal.at.put_fresh-requires c).Else-too_short)).1

pub returns : goal.returns
returns c =
    let a = c.args in
    rw (c.blank.ensures, c.zero_first.ensures, c.put_fresh.ensures)
    (sym (start-done a.n a.own a.history.now a.image.now (long (goal.at.returns c).Else-too_short) (sym c.is_one_of.ensures ∙ c.if-not-is_one_of.false)))
