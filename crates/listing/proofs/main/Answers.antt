-- `listing::main` is safe: the text that it writes lies within the output.
-- Assumes nothing.
use mathlib.Core.Path.{sym}
use lib.Seq.{length-take-le}
use Rattle.text.proofs.Lines.{listed-within}
use Rattle.listing.proofs.main.Goals as goal

pub slice_bounds-out-end : goal.slice_bounds-out-end
slice_bounds-out-end c = listed-within _ _ c.in-Ok.k c.list.new.out c.in-Ok.ensures

pub slice_bounds-write_all-end : goal.slice_bounds-write_all-end
slice_bounds-write_all-end c =
    sym (length-take-le c.in-Ok.k c.list.new.out (listed-within _ _ c.in-Ok.k c.list.new.out c.in-Ok.ensures))
