-- A server's memory: its state, its history and its stored image; sets of phones as numbers.
-- Assumes nothing.
use Rattle.std.specs.Prelude.{ℕ, ◌/◌, ◌%◌, ◌^◌, Bool, false, List, map, eqb, get_or, set, replicate}
use Rattle.std.specs.Int.Bits.{bit_or}
use Rattle.notes.specs.Index.{phones}
use Rattle.notes.specs.Vector.{zeros}
use Rattle.notes.specs.Record.{records}
pub use Rattle.notes.specs.declared.index.PhoneId.{PhoneId}
use Rattle.rules.specs.Writes.{ServerId, Vector, Record, counting, keep}
use Rattle.rules.specs.declared.state.ReadTable.{ReadTable}
pub use Rattle.rules.specs.declared.state.State.{State}

-- ---- sets of phones: phone i is in the set where bit i is 1

abbrev pub phone : ℕ → PhoneId
phone i = record { 0 = i }

unfoldable pub phone_ids : List PhoneId
phone_ids = map phone (counting 0 phones)

unfoldable pub in_set : ℕ → PhoneId → Bool
in_set set i = eqb (set / 2 ^ i.0 % 2) 1

unfoldable pub with_phone : ℕ → PhoneId → ℕ
with_phone set i = bit_or set (2 ^ i.0)

-- the phones of a set, ascending
unfoldable pub members : ℕ → List PhoneId
members set = keep (in_set set) phone_ids

-- ---- the state

abbrev pub no_reads : ReadTable
no_reads = record { counts = replicate phones 0 }

-- the count at a phone; past the last it is zero
abbrev pub count_at : ReadTable → PhoneId → ℕ
count_at t i = get_or t.counts i.0 0

-- the table with another count at a phone; past the last nothing changes
abbrev pub with_count : ReadTable → PhoneId → ℕ → ReadTable
with_count t i k = record { counts = set t.counts i.0 k }

abbrev pub in_cr : State → PhoneId → Bool
in_cr s i = in_set s.cr i

abbrev pub rw_at : State → PhoneId → ℕ
rw_at s i = count_at s.rw i

-- RW with another count at a phone
abbrev pub rw_with : State → PhoneId → ℕ → ReadTable
rw_with s i k = with_count s.rw i k

-- all numbers zero but for N and own number
abbrev pub blank : Bool → ℕ → ServerId → State
blank up n own =
    record { n = n; own = own; up = up; held = 0; vector = zeros; cr = 0; rw = no_reads; nwrites = 0 }

-- down
abbrev pub down_of : State → State
down_of s = blank false s.n s.own

-- with another count of writes held, and another V
abbrev pub holding : ℕ → Vector → State → State
holding k v s =
    record { n = s.n; own = s.own; up = s.up; held = k; vector = v; cr = s.cr; rw = s.rw; nwrites = s.nwrites }

-- with another CR, RW and nWrites
abbrev pub noting : ℕ → ReadTable → ℕ → State → State
noting cr rw k s =
    record { n = s.n; own = s.own; up = s.up; held = s.held; vector = s.vector; cr = cr; rw = rw; nwrites = k }

-- ---- the memory: what a call finds, and what it leaves

pub record Memory : Type 0 where
  pub state : State
  pub history : List ℕ
  pub image : List ℕ

abbrev pub memory : State → List ℕ → List ℕ → Memory
memory s h i = record { state = s; history = h; image = i }

abbrev pub with_state : State → Memory → Memory
with_state s m = memory s m.history m.image

abbrev pub with_history : List ℕ → Memory → Memory
with_history h m = memory m.state h m.image

abbrev pub with_image : List ℕ → Memory → Memory
with_image i m = memory m.state m.history i

-- the writes that the history holds
abbrev pub writes : Memory → List Record
writes m = records m.state.held m.history
