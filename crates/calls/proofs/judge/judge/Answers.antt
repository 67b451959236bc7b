-- `judge::judge` meets its contract: what is refused first, or sound.
-- Assumes nothing.
use Rattle.calls.proofs.Judging.{judge-replies}
use Rattle.calls.proofs.judge.judge.Goals as goal

pub returns : goal.returns
returns c =
    judge-replies _ c.sound_head.result c.sound_head.ensures
