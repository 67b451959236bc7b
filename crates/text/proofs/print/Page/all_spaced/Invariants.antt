-- The numbers so far stand on the page, with a space before each.
-- Assumes nothing.
use mathlib.Core.List.{flat_map}
use lib.ListN.{take}
use Rattle.text.specs.Text.{spaced, Added}
use Rattle.text.proofs.print.Page.all_spaced.Given as goal

abbrev pub invariant-loop-x : goal.invariant-loop-x
invariant-loop-x l = Added l.initial.self (flat_map spaced (take l.x-index l.xs)) l.self
