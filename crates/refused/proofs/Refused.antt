-- Wrong servers, and the example or script that refuses each.
-- Assumes nothing.
use mathlib.Core.Bool.{not}
use lib.Dec.{T}
use Rattle.notes.specs.Vector.{maximum}
use Rattle.rules.specs.Step.{Rule}
use Rattle.refused.specs.Wrong.{logs_nothing, only_replies, logs_the_first, takes_nothing, takes_the_whole_t, restores_nothing, drops_the_last, replays_all, leaves_the_rest, counts_first, clears_the_log_first, appends_what_is_cut, serves_always, refuses_reads, says_no_note, ranks_numbers_first, ranks_by_time, keeps_rw, makes_up_v, sound_first}
use Rattle.rules.proofs.Script.{Script, holds_by}
use Rattle.rules.proofs.Examples.{example1, example2, example4, example7of28, example8}
use Rattle.rules.proofs.Further.{logged, lent, ties, origins}
use Rattle.rules.proofs.Computed.{computed}

abbrev Refuses : Script → Rule → Type 0
Refuses script rule = T (not (holds_by rule script))

pub reads-refused : Refuses example1 refuses_reads
unfolding computed maximum refuses_reads
reads-refused = tt

pub no_note : Refuses example1 says_no_note
unfolding computed maximum says_no_note
no_note = tt

pub made_up : Refuses example1 makes_up_v
unfolding computed maximum makes_up_v
made_up = tt

pub takes-nothing : Refuses example2 takes_nothing
unfolding computed maximum takes_nothing
takes-nothing = tt

pub whole-t : Refuses example2 takes_the_whole_t
unfolding computed maximum takes_the_whole_t
whole-t = tt

pub read-always : Refuses example2 serves_always
unfolding computed maximum serves_always
read-always = tt

pub rest-not-zeroed : Refuses example2 leaves_the_rest
unfolding computed maximum leaves_the_rest
rest-not-zeroed = tt

pub keeps-rw : Refuses example4 keeps_rw
unfolding computed maximum keeps_rw
keeps-rw = tt

pub cut-appends : Refuses example7of28 appends_what_is_cut
unfolding computed maximum appends_what_is_cut
cut-appends = tt

pub count-first : Refuses example7of28 counts_first
unfolding computed maximum counts_first
count-first = tt

pub log-cleared-first : Refuses (example8 29 1 1 0) clears_the_log_first
unfolding computed maximum clears_the_log_first
log-cleared-first = tt

pub replay-all : Refuses (example8 29 1 1 0) replays_all
unfolding computed maximum replays_all
replay-all = tt

pub restores-nothing : Refuses logged restores_nothing
unfolding computed maximum restores_nothing
restores-nothing = tt

pub drops-the-last : Refuses logged drops_the_last
unfolding computed maximum drops_the_last
drops-the-last = tt

pub first-logged : Refuses logged logs_the_first
unfolding computed maximum logs_the_first
first-logged = tt

pub logs-nothing : Refuses logged logs_nothing
unfolding computed maximum logs_nothing
logs-nothing = tt

pub only-replies : Refuses logged only_replies
unfolding computed maximum only_replies
only-replies = tt

pub six-before-nine : Refuses lent sound_first
unfolding computed maximum sound_first
six-before-nine = tt

pub time-in-rank : Refuses ties ranks_by_time
unfolding computed maximum ranks_by_time
time-in-rank = tt

pub number-before-origin : Refuses origins ranks_numbers_first
unfolding computed maximum ranks_numbers_first
number-before-origin = tt
