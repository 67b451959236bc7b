-- Laws of records by their bytes, a list for each: how many, the parts, the one at an index, one more, and those of a buffer.
-- Assumes nothing.
use Prim.Native.Nat.{ℕ, ◌+◌, ◌-◌, ◌<◌, ◌≤◌}
use mathlib.Core.List.{List, [], ◌∷◌, ◌++◌, map}
use mathlib.Core.Path.{◌≡◌, ap, ◌∙◌}
use lib.ListN.{length, length-map, get_or, take, drop}
use lib.Seq.{take_all, get_or-drop}
use Rattle.std.proofs.lemmas.List.{take-map, drop-map, get_or-map, take_rest, drop_more, map_more, map_push, drop_all}
use Rattle.notes.specs.Bytes.{pieces}
use Rattle.notes.specs.Record.{record_size, decode, records}
use Rattle.notes.specs.declared.record.Record.{Record}
use Rattle.notes.proofs.Pieces.{length-pieces}

module _ (b : List (List ℕ)) where
  pub length-listed : length (map decode b) ≡ length b
  length-listed = length-map b decode

  pub take-listed : (k : ℕ) → take k (map decode b) ≡ map decode (take k b)
  take-listed k = take-map decode k b

  pub drop-listed : (k : ℕ) → drop k (map decode b) ≡ map decode (drop k b)
  drop-listed k = drop-map decode k b

  -- past the last there are none
  pub listed-all : (k : ℕ) → length b ≤ k → take k (map decode b) ≡ map decode b
  listed-all k h = take_all k (map decode b) (rw length-listed h)

  pub listed-done : (k : ℕ) → length b ≤ k → drop k (map decode b) ≡ []
  listed-done k h = drop_all k (map decode b) (rw length-listed h)

  -- one more at the end
  pub listed-push : (x : List ℕ) → map decode (b ++ x ∷ []) ≡ map decode b ++ decode x ∷ []
  listed-push x = map_push decode b x

  -- the bytes at an index of `&records[k..]`
  pub rest-at : (k i : ℕ) → get_or (take (length b - k) (drop k b)) i [] ≡ get_or b (k + i) []
  rest-at k i = rw (take_rest b k) (get_or-drop k b i [])

  module _ (k : ℕ) (h : k < length b) where
    -- the record at an index; what would stand past the end is d or e
    pub listed-at : (d : List ℕ) (e : Record) → get_or (map decode b) k e ≡ decode (get_or b k d)
    listed-at d e = get_or-map decode b k d e h

    -- it is the first of those from there on
    pub listed-rest : (d : List ℕ) → drop k (map decode b) ≡ decode (get_or b k d) ∷ drop (k + 1) (map decode b)
    listed-rest d = rw (drop-listed k, drop-listed (k + 1), drop_more b k d h)

    -- and the last of one more
    pub listed-more : (d : List ℕ) → take (k + 1) (map decode b) ≡ take k (map decode b) ++ decode (get_or b k d) ∷ []
    listed-more d = rw (take-listed k, take-listed (k + 1)) (map_more decode b k d h)

-- ---- the records of a buffer, as `first_records` lends them: so many pieces
module _ (r : List (List ℕ)) (k : ℕ) (b : List ℕ) (e : r ≡ pieces record_size k b) where
  pub listed-records : map decode r ≡ records k b
  unfolding records
  listed-records = ap (map decode) e

  pub length-lent : length r ≡ k
  length-lent = ap length e ∙ length-pieces record_size k b
