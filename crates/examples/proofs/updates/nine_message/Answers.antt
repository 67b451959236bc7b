-- `updates::nine_message` is safe: the message that it writes lies within the output.
-- Assumes nothing.
use mathlib.Core.Path.{sym}
use lib.Seq.{length-take-le}
use Rattle.examples.proofs.Within.{write-within}
use Rattle.examples.proofs.updates.nine_message.Goals as goal

pub slice_bounds-result-end : goal.slice_bounds-result-end
slice_bounds-result-end c = sym (length-take-le _ _ (write-within _ _ _ _ c.in_ok-len.len c.write.new.out c.in_ok-len.ensures))
