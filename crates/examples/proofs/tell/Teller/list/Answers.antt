-- `tell::Teller::list` is safe: the text that it writes lies within the output.
-- Assumes nothing.
use mathlib.Core.Path.{sym}
use lib.Seq.{length-take-le}
use Rattle.text.proofs.Lines.{listed-within}
use Rattle.examples.proofs.tell.Teller.list.Goals as goal

pub slice_bounds-out-end : goal.slice_bounds-out-end
slice_bounds-out-end c = listed-within _ _ c.in-Ok.len c.list.new.out c.in-Ok.ensures

pub slice_bounds-write_all-end : goal.slice_bounds-write_all-end
slice_bounds-write_all-end c = sym (length-take-le _ _ (listed-within _ _ c.in-Ok.len c.list.new.out c.in-Ok.ensures))
