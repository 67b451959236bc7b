-- `sound::image_ok` meets its contract: each test decides where it stops.
-- Assumes nothing.
use mathlib.Core.List.{map}
use mathlib.Core.Path.{◌≡◌, ◌∙◌}
use native.Mathlib.Omega.{arith}
use lib.ListN.{length-drop}
use Rattle.std.proofs.lemmas.Grind.{common_steps}
use Rattle.notes.specs.Record.{decode}
use Rattle.notes.proofs.Lists.{rest}
use Rattle.rules.specs.Image.{checkpoint_at, checkpoint}
use Rattle.rules.specs.Sound.{is_first}
use Rattle.memory.specs.Forms.{image_test}
use Rattle.memory.proofs.Listed.{length-listed, length-lent}
use Rattle.memory.proofs.Tested.{length-checkpoint, kept-lent, first-shown}
use Rattle.memory.proofs.sound.image_ok.Goals as goal
use Rattle.memory.proofs.sound.image_ok.Goals.{After-is_first}

pub is_first-requires : goal.is_first-requires
is_first-requires c =
    let i = c.args.image.bytes.now in
    let s = c.requires.0 in
    rw (kept-lent i _ c.checkpoint-kept.ensures, rest checkpoint_at i)
    (omega (arith, length-drop checkpoint_at i, c.args.image.sized.long, c.args.image.sized.kept), omega (arith, s.long, c.requires.1, length-lent _ _ _ s.shown))

-- the checkpoint's records are the first of the history
first : (c : After-is_first) → c.is_first.result ≡ is_first (checkpoint c.args.image.bytes.now) (map decode c.args.history.now)
first c =
    let i = c.args.image.bytes.now in
    let s = c.requires.0 in
    (rw (kept-lent i _ c.checkpoint-kept.ensures, rest checkpoint_at i) at c.is_first.ensures)
    ∙ first-shown i c.args.m.history.now c.args.history.now _ s (omega (arith, c.requires.1, length-lent _ _ _ s.shown))

pub returns-then-from-past : goal.returns-then-from-past
unfolding image_test
returns-then-from-past c =
    let f = first (goal.at.returns-then-from-past c).After-is_first in
    let k = length-checkpoint c.args.image.bytes.now in
    let h = length-listed c.args.history.now in
    let l = length-listed c.log-log.result.now in
    rw (← c.log-log.ensures) (grind (arith, common_steps))

pub returns-else-from-past : goal.returns-else-from-past
unfolding image_test
returns-else-from-past c =
    let f = first (goal.at.returns-else-from-past c).After-is_first in
    let k = length-checkpoint c.args.image.bytes.now in
    let h = length-listed c.args.history.now in
    let l = length-listed c.log-log.result.now in
    rw (← c.log-log.ensures) (grind (arith, common_steps))
