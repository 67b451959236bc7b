-- Numbers as bytes, the lowest byte first, and bytes in pieces of one size.
-- Assumes nothing.
use Rattle.std.specs.Prelude.{ℕ, zero, suc, ◌+◌, ◌*◌, ◌/◌, ◌%◌, List, [], ◌∷◌, take, drop}

-- the number that bytes are
unfoldable pub from_bytes : List ℕ → ℕ
from_bytes [] = 0
from_bytes (b ∷ bs) = b + 256 * from_bytes bs

-- a number as w bytes
unfoldable pub to_bytes : ℕ → ℕ → List ℕ
to_bytes zero n = []
to_bytes (suc w) n = n % 256 ∷ to_bytes w (n / 256)

-- where a number stands: the place of its first byte, and how many bytes it has
pub record Field : Type 0 where
  pub at : ℕ
  pub size : ℕ

-- the number in a field; past the end of the bytes stand zeros
abbrev pub field : Field → List ℕ → ℕ
field f b = from_bytes (take f.size (drop f.at b))

-- k pieces of w bytes each, one behind the other
unfoldable pub pieces : ℕ → ℕ → List ℕ → List (List ℕ)
pieces w zero b = []
pieces w (suc k) b = take w b ∷ pieces w k (drop w b)
