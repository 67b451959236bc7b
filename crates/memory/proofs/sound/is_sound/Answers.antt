-- `sound::is_sound` meets its contract: up by the history and the image, down by the image alone.
-- Assumes nothing.
use mathlib.Core.Path.{sym, ◌∙◌}
use Rattle.memory.proofs.Tested.{sound-up, down-not, down-decides}
use Rattle.memory.proofs.sound.is_sound.Goals as goal

pub returns-then-s : goal.returns-then-s
returns-then-s c =
    let m = c.args.m in
    c.sound_up.ensures ∙ sound-up m.state.now m.history.now m.image.now c.if-s.true

pub returns-then-is_zero : goal.returns-then-is_zero
returns-then-is_zero c =
    let m = c.args.m in
    c.is_some.ensures
    ∙ c.suited.ensures.test
    ∙ down-decides m.state.now m.history.now m.image.now c.if-s.false (sym c.is_zero.ensures ∙ c.if-is_zero.true)

pub returns-else-is_zero : goal.returns-else-is_zero
returns-else-is_zero c =
    let m = c.args.m in
    c.if-is_zero.false ∙ sym (down-not m.state.now m.history.now m.image.now c.if-s.false (sym c.is_zero.ensures ∙ c.if-is_zero.false))
