-- Lists of writes: those of an origin, their numbers and how many they are, and a cell's winner.
-- Assumes nothing.
use Rattle.std.specs.Prelude.{ℕ, zero, suc, Bool, true, false, ◌&&◌, cond, List, [], ◌∷◌, map, eqb, length}
use Rattle.std.proofs.Math.Option.{Option, none, some}
use Rattle.notes.specs.Lists.{every, same}
use Rattle.notes.specs.Index.{servers}
use Rattle.notes.specs.Vector.{vector}
use Rattle.notes.specs.Record.{number, beats}
pub use Rattle.notes.specs.declared.index.ServerId.{ServerId}
pub use Rattle.notes.specs.declared.vector.Vector.{Vector}
pub use Rattle.notes.specs.declared.record.Record.{Record}

-- those of a list that pass a test, in order
abbrev pub keep_if : {A : Type 0} → Bool → A → List A → List A
keep_if true x xs = x ∷ xs
keep_if false x xs = xs

unfoldable pub keep : {A : Type 0} → (A → Bool) → List A → List A
keep p [] = []
keep p (x ∷ xs) = keep_if (p x) x (keep p xs)

-- k numbers from i on
unfoldable pub counting : ℕ → ℕ → List ℕ
counting i zero = []
counting i (suc k) = i ∷ counting (suc i) k

abbrev pub server : ℕ → ServerId
server k = record { 0 = k }

unfoldable pub server_ids : List ServerId
server_ids = map server (counting 0 servers)

-- ---- the writes of an origin

unfoldable pub writes_of : ServerId → List Record → List Record
writes_of o rs = keep (λ r. eqb r.origin.0 o.0) rs

abbrev pub count_of : ServerId → List Record → ℕ
count_of o rs = length (writes_of o rs)

-- the vector that writes give: at each position their count
unfoldable pub tally : List Record → Vector
tally rs = vector (map (λ o. count_of o rs) server_ids)

-- for each origin its numbers are 1, 2, 3 and so on in order
abbrev pub numbers_run : List Record → ServerId → Bool
numbers_run rs o = same (map number (writes_of o rs)) (counting 1 (count_of o rs))

unfoldable pub in_turn : List Record → Bool
in_turn rs = every (numbers_run rs) server_ids

-- ---- equal writes

abbrev pub numbers_of : Record → List ℕ
numbers_of r = r.origin.0 ∷ r.phone.0 ∷ r.cell ∷ r.value ∷ r.time ∷ r.stamp.counts

unfoldable pub same_records : List Record → List Record → Bool
same_records [] [] = true
same_records [] (b ∷ ys) = false
same_records (a ∷ xs) [] = false
same_records (a ∷ xs) (b ∷ ys) = same (numbers_of a) (numbers_of b) && same_records xs ys

-- ---- a cell's winner

-- the better of two; of equals the first
abbrev pub better : Option Record → Record → Option Record
better none r = some r
better (some w) r = some (cond (beats r w) r w)

unfoldable pub best : Option Record → List Record → Option Record
best w [] = w
best w (r ∷ rs) = best (better w r) rs

-- the winner among the cell's writes, or none
unfoldable pub winner : ℕ → List Record → Option Record
winner c rs = best none (keep (λ r. eqb r.cell c) rs)
