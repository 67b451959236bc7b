-- `tell::Teller::say` is safe: the line that it writes lies within the output.
-- Assumes nothing.
use mathlib.Core.Path.{sym}
use lib.Seq.{length-take-le}
use Rattle.text.proofs.Named.{line-within}
use Rattle.examples.proofs.tell.Teller.say.Goals as goal

pub slice_bounds-out-end : goal.slice_bounds-out-end
slice_bounds-out-end c = line-within _ _ _ c.in-Ok.len c.line.new.out c.in-Ok.ensures

pub slice_bounds-write_all-end : goal.slice_bounds-write_all-end
slice_bounds-write_all-end c = sym (length-take-le _ _ (line-within _ _ _ c.in-Ok.len c.line.new.out c.in-Ok.ensures))
