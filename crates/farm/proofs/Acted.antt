-- Worked runs, by computation: reads are served and refused by each choice, cuts fall amid the stores, and a server forgets what it has shown.
-- Assumes nothing.
use Prim.Native.Nat.{ℕ}
use mathlib.Core.Bool.{Bool, ◌&&◌}
use mathlib.Core.List.{List, [], ◌∷◌, ◌++◌, flat_map}
use lib.Dec.{T, eqb}
use lib.ListN.{length, replicate, take}
use Rattle.notes.specs.Message.{history_most, message_size}
use Rattle.notes.specs.Lists.{same}
use Rattle.notes.specs.Session.{chosen_of, after_read, after_write}
use Rattle.notes.specs.declared.session.Choice.TheVariants.{Reads, Writes, Both}
use Rattle.notes.specs.Vector.{maximum}
use Rattle.rules.specs.declared.event.Request.TheVariants.{Read, Write}
use Rattle.rules.specs.Writes.{server, same_records}
use Rattle.rules.specs.Memory.{phone}
use Rattle.rules.specs.Image.{history_size, image_size, checkpoint_count, log_count}
use Rattle.rules.specs.Calls.{start, message}
use Rattle.rules.specs.Step.{step}
use Rattle.rules.proofs.Computed.{computed}
use Rattle.rules.proofs.Script.{note}
use Rattle.farm.specs.Farm.{Choice, Record, Rule, Asked, Farm, new_farm, performed_by, Act, asks, serves, cut_serving, cuts, recovers, tells, takes, hears, reinstalls, asking, hearing, record_of, attempted, are_bytes, step_at, serve, serving, serving_cut, recover, recovering, telling, act, run}

-- the definitions opened all at once: where this is unfolded, a run is computed
unfoldable pub acted : Rule → Farm → List Act → Farm
unfolding computed new_farm start asking hearing record_of step_at serving serving_cut recover recovering are_bytes telling act run after_read after_write chosen_of maximum message flat_map
acted rule f acts = run rule f acts

-- N servers in zeroed buffers
abbrev pub new : ℕ → Farm
new n = new_farm n (λ j. replicate history_size 0) (λ j. replicate image_size 0)

-- a recovery is lent a history of other bytes: nothing in memory survives a cut
abbrev pub other : List ℕ
other = replicate history_size 255

abbrev pub comes_back : ℕ → Act
comes_back j = recovers (server j) other

-- phone 5 asks; the request, reply or update that was sent last has place 0
abbrev pub writes5 : ℕ → Act
writes5 value = asks (phone 5) (Write 300 value 900)

abbrev pub reads5 : Act
reads5 = asks (phone 5) (Read 300)

abbrev pub tell : ℕ → Act
tell j = tells (server j) (replicate (message_size history_most) 0)

-- what phone 5 would ask now
abbrev pub asked5 : Farm → Asked
asked5 f = asking f (phone 5) (Read 300)

-- the number that it would be answered at a server
abbrev answer : Farm → ℕ → ℕ
answer f j = (serve step f (server j) (asked5 f)).reply.number

-- the records of what a server has performed, and of what it began
abbrev did : Farm → ℕ → List Record
did f j = flat_map attempted (f.ledger.performed j)

abbrev began : Farm → ℕ → List Record
began f j = flat_map attempted (f.ledger.begun j)

-- ---- example 2, with phone 5 reading at server 1 and later at server 2

-- until server 2 has server 0's update, and then server 1's too
abbrev pub acts2 : List Act
acts2 =
    writes5 7
    ∷ serves 0 (server 1)
    ∷ reads5
    ∷ serves 0 (server 1)
    ∷ hears 0
    ∷ tell 1
    ∷ takes 0 (server 0)
    ∷ writes5 8
    ∷ serves 0 (server 0)
    ∷ cuts (server 0)
    ∷ comes_back 0
    ∷ tell 0
    ∷ takes 0 (server 2)
    ∷ []

abbrev pub late2 : List Act
late2 = acts2 ++ takes 1 (server 2) ∷ []

abbrev pub first2 : Record
first2 = note 1 7 (0 ∷ 1 ∷ 0 ∷ [])

abbrev second2 : Record
second2 = note 0 8 (1 ∷ 1 ∷ 0 ∷ [])

-- it is refused with 3, and later served; server 2 has then performed both writes
pub example2 :
    let early = run step (new 3) acts2 in
    let f = act step early (takes 1 (server 2)) in
    T
    (eqb (answer early 2) 3
    && eqb (answer f 2) 0
    && same (asked5 f).vector.counts (0 ∷ 1 ∷ 0 ∷ 0 ∷ 0 ∷ 0 ∷ 0 ∷ 0 ∷ [])
    && same_records (asked5 f).seen (first2 ∷ first2 ∷ [])
    && same_records (performed_by f (server 2)) (second2 ∷ first2 ∷ []))
unfolding acted
example2 = tt

-- ---- example 8: the read that takes the checkpoint is cut after 29 stores

abbrev pub acts8 : List Act
acts8 =
    writes5 7 ∷ serves 0 (server 0) ∷ reads5 ∷ serves 0 (server 0) ∷ hears 0 ∷ reads5 ∷ cut_serving 0 (server 0) 29 ∷ []

abbrev pub cut8 : Rule → Farm
cut8 rule = run rule (new 2) acts8

abbrev pub first8 : Record
first8 = note 0 7 (1 ∷ 0 ∷ [])

-- a write and a read were performed, a second read was begun
pub example8 :
    let f = cut8 step in
    T
    (eqb (checkpoint_count (f.servers 0).image) 1
    && eqb (log_count (f.servers 0).image) 1
    && eqb (length (f.ledger.performed 0)) 2
    && eqb (length (f.ledger.begun 0)) 3
    && same_records (did f 0) (first8 ∷ [])
    && same_records (performed_by (act step f (comes_back 0)) (server 0)) (first8 ∷ []))
unfolding acted
example8 = tt

-- ---- example 7: a write cut after 29 stores appears, though nobody was told that it was performed; and it stays, through a second cut

abbrev acts7 : List Act
acts7 = writes5 7 ∷ cut_serving 0 (server 0) 29 ∷ []

pub example7 :
    let f = run step (new 2) acts7 in
    let g = act step f (comes_back 0) in
    T
    (eqb (length (f.ledger.performed 0)) 0
    && same_records (began f 0) (first8 ∷ [])
    && same_records (performed_by g (server 0)) (first8 ∷ [])
    && same_records (performed_by (run step g (cuts (server 0) ∷ comes_back 0 ∷ [])) (server 0)) (first8 ∷ []))
unfolding acted
example7 = tt

-- ---- a server shows another's note, is cut and has forgotten it: the same phone is told "not yet", until the server is told again

abbrev shown : List Act
shown =
    writes5 7
    ∷ serves 0 (server 1)
    ∷ tell 1
    ∷ takes 0 (server 0)
    ∷ reads5
    ∷ serves 0 (server 0)
    ∷ hears 0
    ∷ cuts (server 0)
    ∷ comes_back 0
    ∷ []

abbrev shown2 : Record
shown2 = note 1 7 (0 ∷ 1 ∷ [])

pub forgotten :
    let f = run step (new 2) shown in
    T
    (same_records (asked5 f).seen (shown2 ∷ shown2 ∷ [])
    && same_records (performed_by f (server 0)) []
    && eqb (answer f 0) 3
    && eqb (answer (act step f (takes 0 (server 0))) 0) 0)
unfolding acted
forgotten = tt

-- ---- own writes: phone 5 begins a session of this choice, saves a note at server 0, hears the reply, and drives on to server 1

abbrev pub saved : Choice → List Act
saved c = reinstalls (phone 5) c ∷ writes5 7 ∷ serves 0 (server 0) ∷ hears 0 ∷ tell 0 ∷ []

-- until server 1 has server 0's update
abbrev pub saved_late : Choice → List Act
saved_late c = saved c ++ takes 0 (server 1) ∷ []

-- what the reply says of the cell: 0 for "no note", or 1 and the value
abbrev told : Farm → ℕ → List ℕ
told f j = take 2 (serve step f (server j) (asked5 f)).reply.values

-- before the update: under 1 server 1 shows the cell without the note, under 2 and 3 it says "not yet"; after it each finds the note
abbrev finds : Choice → ℕ → Bool
finds c k =
    let f = run step (new 2) (saved c) in
    let g = act step f (takes 0 (server 1)) in
    eqb (answer f 1) k && same_records (asked5 f).wrote (first8 ∷ []) && eqb (answer g 1) 0 && same (told g 1) (1 ∷ 7 ∷ [])

pub own-writes : T (finds Reads 0 && finds Writes 3 && finds Both 3)
unfolding acted
own-writes = tt

pub own-unfound : let f = run step (new 2) (saved Reads) in T (same (take 1 (told f 1)) (0 ∷ []))
unfolding acted
own-unfound = tt

-- ---- what was read: phone 5 reads phone 6's note at server 1, and drives on to server 0, which has not heard of it: under 1 and 3 it
-- says "not yet", under 2 it serves the read without the note

abbrev pub read6 : Choice → List Act
read6 c = reinstalls (phone 5) c ∷ asks (phone 6) (Write 300 7 900) ∷ serves 0 (server 1) ∷ reads5 ∷ serves 0 (server 1) ∷ hears 0 ∷ []

abbrev stays : Choice → ℕ → Bool
stays c k =
    let f = run step (new 2) (read6 c) in
    eqb (answer f 0) k && eqb (length (asked5 f).seen) 2 && eqb (length (performed_by f (server 0))) 0

pub by-choice : T (stays Reads 3 && stays Writes 0 && stays Both 3)
unfolding acted
by-choice = tt
