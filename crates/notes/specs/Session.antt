-- The phone's session: its choice, what a request carries, and what a reply leaves.
-- Assumes nothing.
use Rattle.std.specs.Prelude.{ℕ, cond, eqb, Result, Ok, Err}
use Rattle.notes.specs.Vector.{zeros, maximum, Vector}
use Rattle.notes.specs.declared.message.Refusal.TheVariants.{OutOfRange}
use Rattle.notes.specs.declared.message.Refusal.{Refusal}
pub use Rattle.notes.specs.declared.session.Choice.{Choice}
pub use Rattle.notes.specs.declared.session.Choice.TheVariants.{Reads, Writes, Both}
pub use Rattle.notes.specs.declared.session.Session.{Session}

-- ---- a choice fixed per session: 1 reads that stay read, 2 own writes, 3 both

abbrev pub choice_number : Choice → ℕ
choice_number Reads = 1
choice_number Writes = 2
choice_number Both = 3

-- an unknown choice is 1
unfoldable pub choose : ℕ → Result Choice Refusal
choose k = cond (eqb k 1) (Ok Reads) (cond (eqb k 2) (Ok Writes) (cond (eqb k 3) (Ok Both) (Err OutOfRange)))

-- ---- the session: its choice, the vector that reads' replies raise (R), and the one that writes' replies raise

-- a new session begins at zero
abbrev pub new_session : Choice → Session
new_session c = record { choice = c; reads = zeros; writes = zeros }

-- a read carries the maximum of those chosen, a write zero
unfoldable pub chosen_of : Choice → Vector → Vector → Vector
chosen_of Reads r w = r
chosen_of Writes r w = w
chosen_of Both r w = maximum r w

abbrev pub read_carries : Session → Vector
read_carries s = chosen_of s.choice s.reads s.writes

abbrev pub write_carries : Session → Vector
write_carries s = zeros

-- both are always raised, whatever was chosen: by a read's reply the one, by a write's reply the other, to the maximum, position by
-- position
unfoldable pub after_read : Session → Vector → Session
after_read s v = record { choice = s.choice; reads = maximum s.reads v; writes = s.writes }

unfoldable pub after_write : Session → Vector → Session
after_write s v = record { choice = s.choice; reads = s.reads; writes = maximum s.writes v }
