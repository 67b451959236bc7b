-- Wrong servers: each is the step but for one thing. Examples and scripts refuse them (proofs/Refused), and demand 3 excludes those that
-- break it (proofs/Excluded).
-- Assumes nothing.
use Rattle.std.specs.Prelude.{ℕ, ◌*◌, ◌-◌, Bool, cond, true, List, [], ◌∷◌, ◌++◌, eqb, ltb, length, take, drop}
use Rattle.std.proofs.Math.Option.{Option, none, some}
use Rattle.notes.specs.Lists.{above}
use Rattle.notes.specs.Reply.{Reply}
use Rattle.notes.specs.Record.{record_size, record_bytes, number}
use Rattle.notes.specs.Vector.{zeros, maximum, sum}
use Rattle.rules.specs.declared.event.Request.TheVariants.{Read, Write}
use Rattle.rules.specs.declared.event.What.{What}
use Rattle.rules.specs.declared.event.What.TheVariants as what
use Rattle.notes.specs.declared.record.Record.{Record}
use Rattle.notes.specs.declared.vector.Vector.{Vector}
use Rattle.rules.specs.Writes.{keep}
use Rattle.rules.specs.Memory.{Memory, memory, blank, holding, noting, with_state, with_history, with_image, writes}
use Rattle.rules.specs.Image.{Store, count, log_field, log_count, checkpoint, log, store, stored}
use Rattle.rules.specs.Sound.{recovered_history, recover, sound}
use Rattle.rules.specs.declared.answer.Refusal.TheVariants.{Unsound, NotYet}
use Rattle.rules.specs.Answer.{Effect, refusal_reply, no_note_reply, replying}
use Rattle.rules.specs.Request.{is_write, due, performed, plan, value_of}
use Rattle.rules.specs.Step.{Rule, step}

abbrev is_done : Reply → Bool
is_done r = eqb r.number 0

-- another memory than the one that the rules leave, given that and the memory before
abbrev Other : Type 0
Other = Memory → Memory → Memory

abbrev as_it_is : Other
as_it_is before after = after

-- a step that is done leaves another memory
abbrev leaving : (What → Other) → Rule
leaving other m e v msg =
    let r = step m e v msg in
    record { reply = r.reply; vector = r.vector; after = cond (is_done r.reply) (other e.what m r.after) r.after }

-- .. after a write, an update, a recovery
abbrev instead : (write update recovery : Other) → What → Other
instead write update recovery (what.Request i q) before after = cond (is_write q) (write before after) after
instead write update recovery (what.RequestCut i q k) before after = after
instead write update recovery what.Cut before after = after
instead write update recovery what.Update before after = update before after
instead write update recovery what.Recovery before after = recovery before after

-- ---- writes

-- performs a write and does not log it
unfoldable pub logs_nothing : Rule
logs_nothing = leaving (instead (λ before after. with_image before.image after) as_it_is as_it_is)

-- replies to a write, and neither performs nor logs it
unfoldable pub only_replies : Rule
only_replies = leaving (instead (λ before after. before) as_it_is as_it_is)

-- logs its first write, and only replies to later ones
unfoldable pub logs_the_first : Rule
logs_the_first =
    leaving
    (instead (λ before after. cond (ltb 0 (log_count before.image)) (with_image before.image after) after) as_it_is as_it_is)

-- ---- updates

abbrev whole_t : Vector → List Record → Vector
whole_t v [] = v
whole_t v (r ∷ rs) = whole_t (maximum v r.stamp) rs

-- takes nothing
unfoldable pub takes_nothing : Rule
takes_nothing = leaving (instead as_it_is (λ before after. before) as_it_is)

-- raises V by the whole T of each write
unfoldable pub takes_the_whole_t : Rule
takes_the_whole_t =
    leaving
    (instead as_it_is
    (λ before after. let s = after.state in with_state (holding s.held (whole_t s.vector (writes after)) s) after)
    as_it_is)

-- ---- recoveries

-- restores nothing
unfoldable pub restores_nothing : Rule
restores_nothing =
    leaving (instead as_it_is as_it_is (λ before after. with_state (blank true before.state.n before.state.own) after))

-- restores all but the last record of the log
unfoldable pub drops_the_last : Rule
drops_the_last =
    leaving
    (instead as_it_is as_it_is
    (λ before after.
    let shorter = store before.image (count log_field (log_count before.image - 1)) in
    with_image before.image (recover (with_image shorter before))))

-- replays every log record
unfoldable pub replays_all : Rule
replays_all =
    leaving
    (instead as_it_is as_it_is
    (λ before after.
    let all = checkpoint before.image ++ log before.image in
    let s = after.state in
    memory (holding (length all) s.vector s) (recovered_history all before.history) before.image))

-- leaves the buffer's remaining bytes as they were
unfoldable pub leaves_the_rest : Rule
leaves_the_rest =
    leaving
    (instead as_it_is as_it_is
    (λ before after.
    let rs = writes after in
    with_history (record_bytes rs ++ drop (record_size * length rs) before.history) after))

-- ---- cuts amid the stores of a plan in another order, of a write and of a read

abbrev reordering : (write read : List Store → List Store) → What → Other
reordering write read (what.Request i q) before after = after
reordering write read (what.RequestCut i (Read cell) k) before after =
    with_image (stored before.image (take k (read (plan before i (Read cell))))) after
reordering write read (what.RequestCut i (Write cell value time) k) before after =
    with_image (stored before.image (take k (write (plan before i (Write cell value time))))) after
reordering write read what.Cut before after = after
reordering write read what.Update before after = after
reordering write read what.Recovery before after = after

abbrev in_order : List Store → List Store
in_order p = p

-- the last store before the others: the log count
abbrev last_first : List Store → List Store
last_first p = drop (length p - 1) p ++ take (length p - 1) p

-- counts a log record before its bytes are stored
unfoldable pub counts_first : Rule
counts_first = leaving (reordering last_first in_order)

-- clears the log before the checkpoint is counted
unfoldable pub clears_the_log_first : Rule
clears_the_log_first = leaving (reordering in_order last_first)

-- appends to the history what a cut keeps from being performed
abbrev appending : What → Other
appending (what.Request i q) before after = after
appending (what.RequestCut i q k) before after = with_history (performed before i q).history after
appending what.Cut before after = after
appending what.Update before after = after
appending what.Recovery before after = after

unfoldable pub appends_what_is_cut : Rule
appends_what_is_cut = leaving appending

-- ---- reads

-- serves a read always, however far it is behind
unfoldable pub serves_always : Rule
serves_always m e v msg = step m e zeros msg

-- a read that is done is answered otherwise: given the cell, the memory before and the outcome
abbrev answering : (ℕ → Memory → Effect → Effect) → What → Memory → Effect → Effect
answering other (what.Request i (Read cell)) before r = cond (is_done r.reply) (other cell before r) r
answering other (what.Request i (Write cell value time)) before r = r
answering other (what.RequestCut i q k) before r = r
answering other what.Cut before r = r
answering other what.Update before r = r
answering other what.Recovery before r = r

abbrev reads_otherwise : (ℕ → Memory → Effect → Effect) → Rule
reads_otherwise other m e v msg = answering other e.what m (step m e v msg)

-- refuses all reads
unfoldable pub refuses_reads : Rule
refuses_reads = reads_otherwise (λ cell before r. replying (refusal_reply NotYet) zeros before)

-- replies "no note" always
unfoldable pub says_no_note : Rule
says_no_note = reads_otherwise (λ cell before r. replying (no_note_reply r.vector) r.vector r.after)

-- a cell's winner by another rank
abbrev best_by : (Record → List ℕ) → Option Record → List Record → Option Record
best_by rank w [] = w
best_by rank none (r ∷ rs) = best_by rank (some r) rs
best_by rank (some w) (r ∷ rs) = best_by rank (some (cond (above (rank r) (rank w)) r w)) rs

abbrev ranks : (Record → List ℕ) → Rule
ranks rank =
    reads_otherwise
    (λ cell before r.
    replying (value_of (best_by rank none (keep (λ w. eqb w.cell cell) (writes r.after))) r.vector) r.vector r.after)

-- of equal sums the higher number wins, then the higher origin
unfoldable pub ranks_numbers_first : Rule
ranks_numbers_first = ranks (λ r. sum r.stamp ∷ number r ∷ r.origin.0 ∷ [])

-- phone time breaks a tie
unfoldable pub ranks_by_time : Rule
ranks_by_time = ranks (λ r. sum r.stamp ∷ r.time ∷ r.origin.0 ∷ number r ∷ [])

-- a checkpoint keeps RW
abbrev keeping : What → Other
keeping (what.Request i q) before after =
    cond (due before i q) (with_state (noting 0 before.state.rw 0 after.state) after) after
keeping (what.RequestCut i q k) before after = after
keeping what.Cut before after = after
keeping what.Update before after = after
keeping what.Recovery before after = after

unfoldable pub keeps_rw : Rule
keeps_rw = leaving keeping

-- ---- any

-- a made-up vector: V as it was before the step
unfoldable pub makes_up_v : Rule
makes_up_v m e v msg = let r = step m e v msg in replying r.reply m.state.vector r.after

-- 6 for a state comes before 9
unfoldable pub sound_first : Rule
sound_first m e v msg = cond (sound m) (step m e v msg) (replying (refusal_reply Unsound) zeros m)
