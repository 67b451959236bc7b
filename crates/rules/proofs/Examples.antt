-- The marked examples of document 01 as one table, run by the very step that the calls' contracts cite. N = 2 unless said.
-- Assumes nothing.
use Prim.Native.Nat.{ℕ}
use mathlib.Core.List.{List, [], ◌∷◌}
use lib.Dec.{T}
use Rattle.notes.specs.Message.{message_of}
use Rattle.rules.specs.Writes.{server}
use Rattle.rules.proofs.Script.{Script, script, turn, note, write5, read, write_cut, read_cut, cut, recover, take_bytes, take_from, wrote, value, no_note, done, refusal, reader, leaves, down, cut_amid, holds, AllHold}
use Rattle.rules.proofs.Computed.{computed}

-- 1. Fresh server 0, phone 5 writes cell 300: V = [1,0]. Read with [0,1]: refusal 3; with [1,0]: served.
abbrev pub example1 : Script
example1 =
    let a = note 0 7 (1 ∷ 0 ∷ []) in
    script 2
    (turn (write5 0 7) (wrote (1 ∷ 0 ∷ [])) (leaves (1 ∷ 0 ∷ []) 0 1 [] 1 (a ∷ []))
    ∷ turn (read 0 5 (0 ∷ 1 ∷ [])) (refusal 3) (leaves (1 ∷ 0 ∷ []) 0 1 [] 1 (a ∷ []))
    ∷ turn (read 0 5 (1 ∷ 0 ∷ [])) (value 7 (1 ∷ 0 ∷ [])) (leaves (1 ∷ 0 ∷ []) 0 1 (reader 5 1 ∷ []) 1 (a ∷ []))
    ∷ [])

-- 2. N = 3. Server 1 writes, T = [0,1,0]. Server 0 takes it, writes T = [1,1,0], is cut, recovers with [1,0,0]. Server 2 takes
-- server 0's update: [1,0,0]. A read with [0,1,0] there: 3. Then server 1's update: [1,1,0], served.
abbrev pub example2 : Script
example2 =
    let a = note 1 7 (0 ∷ 1 ∷ 0 ∷ []) in
    let b = note 0 8 (1 ∷ 1 ∷ 0 ∷ []) in
    script 3
    (turn (write5 1 7) (wrote (0 ∷ 1 ∷ 0 ∷ [])) (leaves (0 ∷ 1 ∷ 0 ∷ []) 0 1 [] 1 (a ∷ []))
    ∷ turn (take_from 0 1) done (leaves (0 ∷ 1 ∷ 0 ∷ []) 0 0 [] 0 (a ∷ []))
    ∷ turn (write5 0 8) (wrote (1 ∷ 1 ∷ 0 ∷ [])) (leaves (1 ∷ 1 ∷ 0 ∷ []) 0 1 [] 1 (a ∷ b ∷ []))
    ∷ turn (cut 0) done (down 0 1 (a ∷ b ∷ []))
    ∷ turn (recover 0) done (leaves (1 ∷ 0 ∷ 0 ∷ []) 0 1 [] 1 (b ∷ []))
    ∷ turn (take_from 2 0) done (leaves (1 ∷ 0 ∷ 0 ∷ []) 0 0 [] 0 (b ∷ []))
    ∷ turn (read 2 5 (0 ∷ 1 ∷ 0 ∷ [])) (refusal 3) (leaves (1 ∷ 0 ∷ 0 ∷ []) 0 0 [] 0 (b ∷ []))
    ∷ turn (take_from 2 1) done (leaves (1 ∷ 1 ∷ 0 ∷ []) 0 0 [] 0 (b ∷ a ∷ []))
    ∷ turn (read 2 5 (0 ∷ 1 ∷ 0 ∷ [])) (value 8 (1 ∷ 1 ∷ 0 ∷ [])) (leaves (1 ∷ 1 ∷ 0 ∷ []) 0 0 (reader 5 0 ∷ []) 0 (b ∷ a ∷ []))
    ∷ [])

-- 3. One cell, [1,0] from 0 and [0,1] from 1: server 1's wins.
abbrev pub example3 : Script
example3 =
    let a = note 0 7 (1 ∷ 0 ∷ []) in
    let b = note 1 8 (0 ∷ 1 ∷ []) in
    script 2
    (turn (write5 0 7) (wrote (1 ∷ 0 ∷ [])) (leaves (1 ∷ 0 ∷ []) 0 1 [] 1 (a ∷ []))
    ∷ turn (write5 1 8) (wrote (0 ∷ 1 ∷ [])) (leaves (0 ∷ 1 ∷ []) 0 1 [] 1 (b ∷ []))
    ∷ turn (take_from 0 1) done (leaves (1 ∷ 1 ∷ []) 0 1 [] 1 (a ∷ b ∷ []))
    ∷ turn (take_from 1 0) done (leaves (1 ∷ 1 ∷ []) 0 1 [] 1 (b ∷ a ∷ []))
    ∷ turn (read 0 5 []) (value 8 (1 ∷ 1 ∷ [])) (leaves (1 ∷ 1 ∷ []) 0 1 (reader 5 1 ∷ []) 1 (a ∷ b ∷ []))
    ∷ turn (read 1 5 []) (value 8 (1 ∷ 1 ∷ [])) (leaves (1 ∷ 1 ∷ []) 0 1 (reader 5 1 ∷ []) 1 (b ∷ a ∷ []))
    ∷ [])

-- 4. Write, read by 5, read by 5: checkpoint count 1, log 0, no phone in CR.
abbrev pub example4 : Script
example4 =
    let a = note 0 7 (1 ∷ 0 ∷ []) in
    script 2
    (turn (write5 0 7) (wrote (1 ∷ 0 ∷ [])) (leaves (1 ∷ 0 ∷ []) 0 1 [] 1 (a ∷ []))
    ∷ turn (read 0 5 []) (value 7 (1 ∷ 0 ∷ [])) (leaves (1 ∷ 0 ∷ []) 0 1 (reader 5 1 ∷ []) 1 (a ∷ []))
    ∷ turn (read 0 5 (1 ∷ 0 ∷ [])) (value 7 (1 ∷ 0 ∷ [])) (leaves (1 ∷ 0 ∷ []) 1 0 [] 0 (a ∷ []))
    ∷ [])

-- 5. Read by 5, write, read by 5: no checkpoint.
abbrev pub example5 : Script
example5 =
    let a = note 0 7 (1 ∷ 0 ∷ []) in
    script 2
    (turn (read 0 5 []) (no_note []) (leaves [] 0 0 (reader 5 0 ∷ []) 0 [])
    ∷ turn (write5 0 7) (wrote (1 ∷ 0 ∷ [])) (leaves (1 ∷ 0 ∷ []) 0 1 (reader 5 0 ∷ []) 1 (a ∷ []))
    ∷ turn (read 0 5 []) (value 7 (1 ∷ 0 ∷ [])) (leaves (1 ∷ 0 ∷ []) 0 1 (reader 5 0 ∷ []) 1 (a ∷ []))
    ∷ [])

-- 6. Two reads by 5, a write, first read by 6: no checkpoint.
abbrev pub example6 : Script
example6 =
    let a = note 0 7 (1 ∷ 0 ∷ []) in
    script 2
    (turn (read 0 5 []) (no_note []) (leaves [] 0 0 (reader 5 0 ∷ []) 0 [])
    ∷ turn (read 0 5 []) (no_note []) (leaves [] 0 0 (reader 5 0 ∷ []) 0 [])
    ∷ turn (write5 0 7) (wrote (1 ∷ 0 ∷ [])) (leaves (1 ∷ 0 ∷ []) 0 1 (reader 5 0 ∷ []) 1 (a ∷ []))
    ∷ turn (read 0 6 []) (value 7 (1 ∷ 0 ∷ [])) (leaves (1 ∷ 0 ∷ []) 0 1 (reader 5 0 ∷ reader 6 1 ∷ []) 1 (a ∷ []))
    ∷ [])

-- 7. First write cut after 28 stores: recovery gives [0,0]; after 29, [1,0].
abbrev pub example7of28 : Script
example7of28 =
    script 2 (turn (write_cut 0 7 28) done (down 0 0 []) ∷ turn (recover 0) done (leaves (0 ∷ 0 ∷ []) 0 0 [] 0 []) ∷ [])

abbrev pub example7of29 : Script
example7of29 =
    let a = note 0 7 (1 ∷ 0 ∷ []) in
    script 2
    (turn (write_cut 0 7 29) done (cut_amid 0 1 [] (a ∷ []))
    ∷ turn (recover 0) done (leaves (1 ∷ 0 ∷ []) 0 1 [] 1 (a ∷ []))
    ∷ [])

-- 8. Example 4's checkpoint cut after 28: counts 0 and 1; 29: 1 and 1; 30: 1 and 0. Each recovers one write.
abbrev pub example8 : (stores checkpoint log nwrites : ℕ) → Script
example8 k c l w =
    let a = note 0 7 (1 ∷ 0 ∷ []) in
    script 2
    (turn (write5 0 7) (wrote (1 ∷ 0 ∷ [])) (leaves (1 ∷ 0 ∷ []) 0 1 [] 1 (a ∷ []))
    ∷ turn (read 0 5 []) (value 7 (1 ∷ 0 ∷ [])) (leaves (1 ∷ 0 ∷ []) 0 1 (reader 5 1 ∷ []) 1 (a ∷ []))
    ∷ turn (read_cut 0 5 (1 ∷ 0 ∷ []) k) done (down c l (a ∷ []))
    ∷ turn (recover 0) done (leaves (1 ∷ 0 ∷ []) c l [] w (a ∷ []))
    ∷ [])

-- 9. Write number 2 of server 1 into a fresh server 0: 7.
abbrev pub example9 : Script
example9 =
    script 2
    (turn (take_bytes 0 (message_of 2 (server 1) (note 1 7 (0 ∷ 2 ∷ []) ∷ []))) (refusal 7) (leaves [] 0 0 [] 0 [])
    ∷ [])

abbrev pub table : List Script
table =
    example1
    ∷ example2
    ∷ example3
    ∷ example4
    ∷ example5
    ∷ example6
    ∷ example7of28
    ∷ example7of29
    ∷ example8 28 0 1 1
    ∷ example8 29 1 1 0
    ∷ example8 30 1 0 0
    ∷ example9
    ∷ []

-- each holds, by computation
example-1 : T (holds example1)
unfolding computed
example-1 = tt

example-2 : T (holds example2)
unfolding computed
example-2 = tt

example-3 : T (holds example3)
unfolding computed
example-3 = tt

example-4 : T (holds example4)
unfolding computed
example-4 = tt

example-5 : T (holds example5)
unfolding computed
example-5 = tt

example-6 : T (holds example6)
unfolding computed
example-6 = tt

example-7-28 : T (holds example7of28)
unfolding computed
example-7-28 = tt

example-7-29 : T (holds example7of29)
unfolding computed
example-7-29 = tt

example-8-28 : T (holds (example8 28 0 1 1))
unfolding computed
example-8-28 = tt

example-8-29 : T (holds (example8 29 1 1 0))
unfolding computed
example-8-29 = tt

example-8-30 : T (holds (example8 30 1 0 0))
unfolding computed
example-8-30 = tt

example-9 : T (holds example9)
unfolding computed
example-9 = tt

pub marked-examples-hold : AllHold table
marked-examples-hold =
    (example-1, (example-2, (example-3, (example-4, (example-5, (example-6, (example-7-28, (example-7-29, (example-8-28, (example-8-29, (example-8-30, (example-9, tt))))))))))))
