-- A phone's session in its bytes, and the calls on it.
-- Assumes nothing.
use Rattle.std.specs.Prelude.{ℕ, cond, ◌||◌, List, [], ◌∷◌, ◌++◌, ltb, drop, length, Result, Ok, Err}
use Rattle.notes.specs.Bytes.{Field, field}
use Rattle.notes.specs.Vector.{vector_from, vector_bytes}
use Rattle.notes.specs.declared.vector.Vector.{Vector}
use Rattle.notes.specs.Message.{refusal_number}
use Rattle.notes.specs.declared.message.Refusal.{Refusal}
use Rattle.notes.specs.Session.{choice_number, choose, new_session, read_carries}
use Rattle.notes.specs.declared.session.Choice.{Choice}
use Rattle.notes.specs.declared.session.Session.{Session}
use Rattle.ssaldorip.specs.Calls.{vector_size, left, onto, put}

-- ---- the vector of reads, the vector of own writes, the choice

abbrev pub writes_at : ℕ
writes_at = vector_size

abbrev pub choice_field : Field
choice_field = record { at = 32; size = 1 }

abbrev pub session_size : ℕ
session_size = 33

abbrev pub session_in : Choice → List ℕ → Session
session_in c s = record { choice = c; reads = vector_from s; writes = vector_from (drop writes_at s) }

abbrev pub session_bytes : Session → List ℕ
session_bytes s = vector_bytes s.reads ++ vector_bytes s.writes ++ choice_number s.choice ∷ []

-- what a call goes on with where the choice is known; an unknown one is 1, and leaves the bytes
abbrev pub if_chosen : Result Choice Refusal → List ℕ → (Choice → ℕ × List ℕ) → ℕ × List ℕ
if_chosen (Ok c) b next = next c
if_chosen (Err r) b next = left (refusal_number r) b

-- ---- the calls

-- a new session: 9 for its bytes, then 1
unfoldable pub session_start : ℕ → List ℕ → ℕ × List ℕ
session_start k s =
    cond (ltb (length s) session_size) (left 9 s)
    (if_chosen (choose k) s (λ c. left 0 (onto (session_bytes (new_session c)) s)))

-- raised in its bytes by a reply's vector: 9 for either, then 1
unfoldable pub session_raise : (Session → Vector → Session) → List ℕ → List ℕ → ℕ × List ℕ
session_raise after s v =
    cond (ltb (length s) session_size || ltb (length v) vector_size) (left 9 s)
    (if_chosen (choose (field choice_field s)) s (λ c. left 0 (onto (session_bytes (after (session_in c s) (vector_from v))) s)))

-- what its next read carries: 9 for its bytes, then 1, then 9 for the output
unfoldable pub session_asks : List ℕ → List ℕ → ℕ × List ℕ
session_asks s out =
    cond (ltb (length s) session_size) (left 9 out)
    (if_chosen (choose (field choice_field s)) out (λ c. put (vector_bytes (read_carries (session_in c s))) out))
