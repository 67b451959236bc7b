-- The lines of the records so far stand on the page.
-- Assumes nothing.
use mathlib.Core.List.{flat_map}
use Rattle.text.specs.Text.{record_line, Added}
use Rattle.text.proofs.listing.put_records.Given as goal

abbrev pub invariant-loop-record : goal.invariant-loop-record
invariant-loop-record l = Added l.initial.page (flat_map (record_line l.n) l.yielded) l.page
