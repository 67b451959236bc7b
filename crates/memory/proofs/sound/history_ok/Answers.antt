-- `sound::history_ok` meets its contract: the walk decides, and what it counted.
-- Assumes nothing.
use mathlib.Core.Path.{◌∙◌}
use native.Mathlib.Omega.{arith}
use Rattle.memory.proofs.Tested.{history-decides}
use Rattle.memory.proofs.sound.history_ok.Goals as goal

pub returns : goal.returns
returns c =
    let a = c.args in
    c.eq.ensures ∙ rw (c.walk_on.ensures, c.requires.1) (history-decides a.s.now _ (omega (arith, c.requires.0.held, c.requires.0.most)))
