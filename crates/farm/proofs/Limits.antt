-- The limits, computed: 64 in the log is 5, 256 held is 4, and 3 and 7 come before 4.
-- Assumes nothing.
use Prim.Native.Nat.{ℕ, zero, suc, ◌+◌, ◌*◌}
use mathlib.Core.Bool.{true}
use mathlib.Core.List.{List, [], ◌∷◌, ◌++◌}
use lib.Dec.{T}
use lib.ListN.{replicate}
use Rattle.notes.specs.Record.{record_size, record_bytes}
use Rattle.notes.specs.Message.{message_of}
use Rattle.notes.specs.declared.record.Record.{Record}
use Rattle.rules.specs.Writes.{server}
use Rattle.rules.specs.Memory.{Memory, memory, no_reads}
use Rattle.rules.specs.Image.{history_size, header_of}
use Rattle.rules.proofs.Script.{turn, vec, note, write_with, write5, take_bytes, done, refusal, leaves, runs}
use Rattle.rules.proofs.Computed.{computed}

-- writes numbered from k on
abbrev row : (origin value : ℕ) → (ℕ → List ℕ) → ℕ → ℕ → List Record
row o x t k zero = []
row o x t k (suc n) = note o x (t k) ∷ row o x t (suc k) n

abbrev mine : ℕ → List Record
mine n = row 0 7 (λ k. k ∷ 0 ∷ []) 1 n

abbrev theirs : ℕ → ℕ → List Record
theirs k n = row 1 8 (λ k. 0 ∷ k ∷ []) k n

-- 64 own writes, all in the log, and n of server 1
abbrev full : ℕ → Memory
full n =
    memory
    (record { n = 2; own = server 0; up = true; held = 64 + n; vector = vec (64 ∷ n ∷ []); cr = 0; rw = no_reads; nwrites = 64 })
    (record_bytes (mine 64 ++ theirs 1 n) ++ replicate (record_size * 192) 0)
    (header_of 2 (server 0) 0 64 ++ replicate history_size 0 ++ record_bytes (mine 64))

-- 64 in the log: 5; 256 held: 4, even if the log is full
pub full-log : T (runs (full 0 ∷ []) (turn (write5 0 7) (refusal 5) (leaves (64 ∷ 0 ∷ []) 0 64 [] 64 (mine 64)) ∷ []))
unfolding computed
full-log = tt

-- 3 comes before 4 where the server is also behind, 7 where an update would also take the history past 256
pub full-history :
    let left = leaves (64 ∷ 192 ∷ []) 0 64 [] 64 (mine 64 ++ theirs 1 192) in
    T
    (runs (full 192 ∷ [])
    (turn (write_with 0 7 (0 ∷ 193 ∷ [])) (refusal 3) left
    ∷ turn (write5 0 7) (refusal 4) left
    ∷ turn (take_bytes 0 (message_of 2 (server 1) (theirs 193 1 ++ theirs 195 1))) (refusal 7) left
    ∷ turn (take_bytes 0 (message_of 2 (server 1) (theirs 193 1))) (refusal 4) left
    ∷ turn (take_bytes 0 (message_of 2 (server 1) (theirs 192 1))) done left
    ∷ []))
unfolding computed
full-history = tt
