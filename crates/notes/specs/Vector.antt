-- Vectors: eight counts, one for each server.
-- Assumes nothing.
use Rattle.std.specs.Prelude.{ℕ, ◌+◌, max, Bool, ltb, eqb, get_or, set, drop, replicate}
use mathlib.Core.List.{List, foldr, zip_with, map, flat_map}
use Rattle.notes.specs.Lists.{every, any}
use Rattle.notes.specs.Bytes.{from_bytes, to_bytes, pieces}
use Rattle.notes.specs.Index.{servers, ServerId}
pub use Rattle.notes.specs.declared.vector.Vector.{Vector}

abbrev pub vector : List ℕ → Vector
vector l = record { counts = l }

abbrev pub zeros : Vector
zeros = vector (replicate servers 0)

-- the count at a server
abbrev pub at : Vector → ServerId → ℕ
at v s = get_or v.counts s.0 0

-- the count at a server raised to k
unfoldable pub raised : Vector → ServerId → ℕ → Vector
raised v s k = vector (set v.counts s.0 (max (at v s) k))

-- position by position the greater of two
unfoldable pub maximum : Vector → Vector → Vector
maximum v w = vector (zip_with max v.counts w.counts)

unfoldable pub sum : Vector → ℕ
sum v = foldr ◌+◌ 0 v.counts

-- v is below w at some position
unfoldable pub behind : Vector → Vector → Bool
behind v w = any (λ below. below) (zip_with ltb v.counts w.counts)

-- the positions from n on are zero
unfoldable pub zero_from : ℕ → Vector → Bool
zero_from n v = every (λ x. eqb x 0) (drop n v.counts)

-- a count has two bytes; so many counts stand one behind the other
abbrev pub count_size : ℕ
count_size = 2

abbrev pub counts_in : ℕ → List ℕ → List ℕ
counts_in k b = map from_bytes (pieces count_size k b)

abbrev pub count_bytes : List ℕ → List ℕ
count_bytes xs = flat_map (to_bytes count_size) xs

-- a vector is its counts
unfoldable pub vector_from : List ℕ → Vector
vector_from b = vector (counts_in servers b)

unfoldable pub vector_bytes : Vector → List ℕ
vector_bytes v = count_bytes v.counts
