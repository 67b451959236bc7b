-- Sentences of document 01 that no marked example acts out, as scripts run by the same step.
-- Assumes nothing.
use Prim.Native.Nat.{ℕ}
use mathlib.Core.Bool.{true}
use mathlib.Core.List.{List, [], ◌∷◌}
use lib.Dec.{T}
use lib.ListN.{take, replicate}
use Rattle.notes.specs.Message.{message_of}
use Rattle.notes.specs.declared.record.Record.{Record}
use Rattle.rules.specs.declared.event.Request.TheVariants.{Read, Write}
use Rattle.rules.specs.declared.event.What.TheVariants as what
use Rattle.rules.specs.Writes.{server}
use Rattle.rules.specs.Memory.{phone, Memory, memory, blank, noting, no_reads}
use Rattle.rules.specs.Image.{fresh_image}
use Rattle.rules.specs.Calls.{fresh}
use Rattle.rules.proofs.Script.{Script, script_from, script, turn, Left, vec, Act, act, note, write_with, write5, read, write_cut, read_cut, cut, recover, take_bytes, take_from, wrote, value, done, refusal, reader, leaves, down, holds, AllHold}
use Rattle.rules.proofs.Computed.{computed}

abbrev nothing : Left
nothing = leaves [] 0 0 [] 0 []

-- every write is logged, not the first alone; a checkpoint frees the log's room, which is used again
abbrev pub logged : Script
logged =
    let a = note 0 7 (1 ∷ 0 ∷ []) in
    let b = note 0 8 (2 ∷ 0 ∷ []) in
    let d = note 0 9 (3 ∷ 0 ∷ []) in
    script 2
    (turn (write5 0 7) (wrote (1 ∷ 0 ∷ [])) (leaves (1 ∷ 0 ∷ []) 0 1 [] 1 (a ∷ []))
    ∷ turn (write5 0 8) (wrote (2 ∷ 0 ∷ [])) (leaves (2 ∷ 0 ∷ []) 0 2 [] 2 (a ∷ b ∷ []))
    ∷ turn (cut 0) done (down 0 2 (a ∷ b ∷ []))
    ∷ turn (recover 0) done (leaves (2 ∷ 0 ∷ []) 0 2 [] 2 (a ∷ b ∷ []))
    ∷ turn (read 0 5 []) (value 8 (2 ∷ 0 ∷ [])) (leaves (2 ∷ 0 ∷ []) 0 2 (reader 5 2 ∷ []) 2 (a ∷ b ∷ []))
    ∷ turn (read 0 5 []) (value 8 (2 ∷ 0 ∷ [])) (leaves (2 ∷ 0 ∷ []) 2 0 [] 0 (a ∷ b ∷ []))
    ∷ turn (write5 0 9) (wrote (3 ∷ 0 ∷ [])) (leaves (3 ∷ 0 ∷ []) 2 1 [] 1 (a ∷ b ∷ d ∷ []))
    ∷ turn (cut 0) done (down 2 1 (a ∷ b ∷ d ∷ []))
    ∷ turn (recover 0) done (leaves (3 ∷ 0 ∷ []) 2 1 [] 1 (a ∷ b ∷ d ∷ []))
    ∷ [])

-- 2, then 1, then 3, also for the vector of a write; cut counts are tested last; a refused read does not enter CR
abbrev pub order : Script
order =
    script 2
    (turn (recover 0) (refusal 2) nothing
    ∷ turn (act 0 (what.Request (phone 64) (Read 300)) (0 ∷ 9 ∷ [])) (refusal 1) nothing
    ∷ turn (act 0 (what.Request (phone 5) (Read 1024)) (0 ∷ 9 ∷ [])) (refusal 1) nothing
    ∷ turn (read 0 5 (0 ∷ 0 ∷ 1 ∷ [])) (refusal 1) nothing
    ∷ turn (write_with 0 7 (0 ∷ 0 ∷ 1 ∷ [])) (refusal 1) nothing
    ∷ turn (read 0 5 (0 ∷ 9 ∷ [])) (refusal 3) nothing
    ∷ turn (write_with 0 7 (0 ∷ 9 ∷ [])) (refusal 3) nothing
    ∷ turn (read_cut 0 5 (0 ∷ 9 ∷ []) 1) (refusal 3) nothing
    ∷ turn (read_cut 0 5 [] 1) (refusal 1) nothing
    ∷ turn (write_cut 0 7 30) (refusal 1) nothing
    ∷ turn (read_cut 0 5 [] 0) done (down 0 0 [])
    ∷ turn (cut 0) (refusal 2) (down 0 0 [])
    ∷ turn (act 0 (what.Request (phone 64) (Read 300)) (0 ∷ 9 ∷ [])) (refusal 2) (down 0 0 [])
    ∷ turn (take_bytes 0 []) (refusal 2) (down 0 0 [])
    ∷ turn (recover 0) done nothing
    -- 6: no message, the receiver's own, one of another N; then one without writes
    ∷ turn (take_bytes 0 []) (refusal 6) nothing
    ∷ turn (take_bytes 0 (message_of 2 (server 0) [])) (refusal 6) nothing
    ∷ turn (take_bytes 0 (message_of 3 (server 1) [])) (refusal 6) nothing
    ∷ turn (take_bytes 0 (message_of 2 (server 1) [])) done nothing
    ∷ [])

-- a server of 4 that has no writes but counts one, which is not sound, with buffers of these lengths
abbrev unsound : (own history image : ℕ) → Memory
unsound j h i =
    memory (noting 0 no_reads 1 (blank true 4 (server j))) (replicate h 0) (take i (fresh_image 4 (server j)))

-- 9, then 6 for the state, then 2, then 1: 0 and 1 are lent a buffer a byte too short and are not sound, 2 is not sound, and
-- the last is server 0 where 3 is meant; recoveries find all of them up, and phone 64 is none
abbrev pub lent : Script
lent =
    let wrong = leaves [] 0 0 [] 1 [] in
    script_from
    (unsound 0 7167 8976 ∷ unsound 1 7168 8975 ∷ unsound 2 7168 8976 ∷ fresh 4 (server 0) [] [] ∷ [])
    (turn (recover 0) (refusal 9) wrong
    ∷ turn (recover 1) (refusal 9) wrong
    ∷ turn (recover 2) (refusal 6) wrong
    ∷ turn (read 2 64 []) (refusal 6) wrong
    ∷ turn (recover 3) (refusal 2) nothing
    ∷ turn (cut 3) (refusal 1) nothing
    ∷ turn (read 3 5 (9 ∷ [])) (refusal 1) nothing
    ∷ turn (take_bytes 3 []) (refusal 1) nothing
    ∷ [])

-- a write with this phone, cell, origin and T
abbrev odd : (phone cell origin : ℕ) → List ℕ → Record
odd i c o t =
    record { origin = server o; phone = phone i; cell = c; value = 7; time = 900; stamp = vec t }

-- a message of server 1 of 2 with one write
abbrev brings : Record → Act
brings r = take_bytes 0 (message_of 2 (server 1) (r ∷ []))

-- well formed: number at least 1, every position at most 256, positions from N on zero, phone, cell and origin in range
abbrev pub malformed : Script
malformed =
    let a = odd 63 1023 1 (256 ∷ 1 ∷ []) in
    script 2
    (turn (brings (odd 5 300 1 (0 ∷ 0 ∷ []))) (refusal 6) nothing
    ∷ turn (brings (odd 5 300 1 (257 ∷ 1 ∷ []))) (refusal 6) nothing
    ∷ turn (brings (odd 5 300 1 (0 ∷ 1 ∷ 1 ∷ []))) (refusal 6) nothing
    ∷ turn (brings (odd 64 300 1 (0 ∷ 1 ∷ []))) (refusal 6) nothing
    ∷ turn (brings (odd 5 1024 1 (0 ∷ 1 ∷ []))) (refusal 6) nothing
    ∷ turn (brings (odd 5 300 2 (0 ∷ 1 ∷ 1 ∷ []))) (refusal 6) nothing
    ∷ turn (brings a) done (leaves (0 ∷ 1 ∷ []) 0 0 [] 0 (a ∷ []))
    ∷ [])

-- a write held is skipped uncompared; 7 or 8 by message order; V is raised at the origin only
abbrev pub updates : Script
updates =
    let a = note 0 7 (1 ∷ 0 ∷ 0 ∷ []) in
    let b = note 1 5 (9 ∷ 1 ∷ 9 ∷ []) in
    let d = note 1 6 (0 ∷ 2 ∷ 0 ∷ []) in
    let left = leaves (1 ∷ 0 ∷ 0 ∷ []) 0 1 [] 1 (a ∷ []) in
    script 3
    (turn (write5 0 7) (wrote (1 ∷ 0 ∷ 0 ∷ [])) left
    ∷ turn (take_bytes 0 (message_of 3 (server 1) (note 0 99 (1 ∷ 0 ∷ 0 ∷ []) ∷ []))) done left
    ∷ turn (take_bytes 0 (message_of 3 (server 1) (note 0 99 (2 ∷ 0 ∷ 0 ∷ []) ∷ d ∷ []))) (refusal 8) left
    ∷ turn (take_bytes 0 (message_of 3 (server 1) (d ∷ note 0 99 (2 ∷ 0 ∷ 0 ∷ []) ∷ []))) (refusal 7) left
    ∷ turn (take_bytes 0 (message_of 3 (server 1) (b ∷ d ∷ []))) done (leaves (1 ∷ 2 ∷ 0 ∷ []) 0 1 [] 1 (a ∷ b ∷ d ∷ []))
    ∷ [])

-- of equal sums and origins the higher number wins, whatever the phone times: T [1,1] at 900, then [2,0] at 0
abbrev pub ties : Script
ties =
    let a = note 1 7 (0 ∷ 1 ∷ []) in
    let b = note 0 8 (1 ∷ 1 ∷ []) in
    let d : Record = record { origin = server 0; phone = phone 6; cell = 300; value = 9; time = 0; stamp = vec (2 ∷ 0 ∷ []) } in
    script 2
    (turn (write5 1 7) (wrote (0 ∷ 1 ∷ [])) (leaves (0 ∷ 1 ∷ []) 0 1 [] 1 (a ∷ []))
    ∷ turn (take_from 0 1) done (leaves (0 ∷ 1 ∷ []) 0 0 [] 0 (a ∷ []))
    ∷ turn (write5 0 8) (wrote (1 ∷ 1 ∷ [])) (leaves (1 ∷ 1 ∷ []) 0 1 [] 1 (a ∷ b ∷ []))
    ∷ turn (cut 0) done (down 0 1 (a ∷ b ∷ []))
    ∷ turn (recover 0) done (leaves (1 ∷ 0 ∷ []) 0 1 [] 1 (b ∷ []))
    ∷ turn (act 0 (what.Request (phone 6) (Write 300 9 0)) []) (wrote (2 ∷ 0 ∷ [])) (leaves (2 ∷ 0 ∷ []) 0 2 [] 2 (b ∷ d ∷ []))
    ∷ turn (read 0 5 []) (value 9 (2 ∷ 0 ∷ [])) (leaves (2 ∷ 0 ∷ []) 0 2 (reader 5 2 ∷ []) 2 (b ∷ d ∷ []))
    ∷ [])

-- of equal sums the higher origin wins, whatever the numbers: T [1,1] of server 1, its first, and [2,0] of server 0, its second
abbrev pub origins : Script
origins =
    let a = note 0 7 (1 ∷ 0 ∷ []) in
    let b = note 1 8 (1 ∷ 1 ∷ []) in
    let d = note 0 9 (2 ∷ 0 ∷ []) in
    script 2
    (turn (write5 0 7) (wrote (1 ∷ 0 ∷ [])) (leaves (1 ∷ 0 ∷ []) 0 1 [] 1 (a ∷ []))
    ∷ turn (take_from 1 0) done (leaves (1 ∷ 0 ∷ []) 0 0 [] 0 (a ∷ []))
    ∷ turn (write5 1 8) (wrote (1 ∷ 1 ∷ [])) (leaves (1 ∷ 1 ∷ []) 0 1 [] 1 (a ∷ b ∷ []))
    ∷ turn (write5 0 9) (wrote (2 ∷ 0 ∷ [])) (leaves (2 ∷ 0 ∷ []) 0 2 [] 2 (a ∷ d ∷ []))
    ∷ turn (take_from 1 0) done (leaves (2 ∷ 1 ∷ []) 0 1 [] 1 (a ∷ b ∷ d ∷ []))
    ∷ turn (read 1 5 []) (value 8 (2 ∷ 1 ∷ [])) (leaves (2 ∷ 1 ∷ []) 0 1 (reader 5 1 ∷ []) 1 (a ∷ b ∷ d ∷ []))
    ∷ [])

logged-holds : T (holds logged)
unfolding computed
logged-holds = tt

order-holds : T (holds order)
unfolding computed
order-holds = tt

lent-holds : T (holds lent)
unfolding computed
lent-holds = tt

malformed-hold : T (holds malformed)
unfolding computed
malformed-hold = tt

updates-hold : T (holds updates)
unfolding computed
updates-hold = tt

ties-hold : T (holds ties)
unfolding computed
ties-hold = tt

origins-hold : T (holds origins)
unfolding computed
origins-hold = tt

pub further-hold : AllHold (logged ∷ order ∷ lent ∷ malformed ∷ updates ∷ ties ∷ origins ∷ [])
further-hold = (logged-holds, (order-holds, (lent-holds, (malformed-hold, (updates-hold, (ties-hold, (origins-hold, tt)))))))
