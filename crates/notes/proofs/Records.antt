-- Laws of records: a record and its bytes, both ways, and records one behind the other.
-- Assumes nothing.
use Prim.Native.Nat.{ℕ, zero, suc, ◌+◌, ◌*◌, ◌/◌, ◌%◌, ◌^◌, ◌<◌, ◌≤◌}
use mathlib.Core.Bool.{Bool, true, false, ◌&&◌, not, and-true, and-false}
use mathlib.Core.List.{List, [], ◌∷◌, ◌++◌, map, append-nil}
use mathlib.Core.Path.{◌≡◌, refl, ap, sym, ◌∙◌}
use native.Mathlib.Omega.{arith}
use borrow.Author.Tests.{ltb-true, ltb-false, lt-ltb, le-ltb, eq-eqb, ne_eqb}
use lib.Dec.{ltb, leb, eqb}
use lib.ListN.{length, get_or, take, drop, length-drop, length-map, get_or-map, replicate, length-replicate}
use lib.Seq.{get_or-drop, take-length, sets, sets-eq}
use Rattle.notes.specs.Lists.{every}
use Rattle.notes.specs.Index.{servers, phones}
use Rattle.notes.specs.Bytes.{field, from_bytes, to_bytes, pieces}
use Rattle.notes.specs.Vector.{behind, vector_bytes}
use Rattle.notes.specs.Record.{record_size, cells, in_range, well_formed, stamp_at, number, origin_field, phone_field, cell_field, decode, encode, records, record_bytes}
use Rattle.notes.specs.Forms.{limits_of}
use Rattle.notes.specs.declared.record.Record.{Record}
use Rattle.std.specs.List.{list_all}
use Rattle.std.proofs.lemmas.List.Folds.{list_all-map}
use Rattle.notes.proofs.Lists.{both, every-all, parts_join, sets-front}
use Rattle.notes.proofs.Numbers.{AllBelow, below-take, below-drop, from-below, one_byte, from-to, from-two, from-split, from_one, from-agree, part-back, byte-join}
use Rattle.notes.proofs.Pieces.{Each, each-also, length-pieces, piece-at, pieces-join, pieces-split, length-flat_map}
use Rattle.notes.proofs.Vectors.{vector-bytes, vector-from, length-vector_bytes, length-vector_from, counts-below, count-from, vector-agree, zeros-at, stamp-limits}

-- ---- a record and its bytes

-- each number fits its bytes
pub record Fits (r : Record) : Type 0 where
  pub origin : r.origin.0 < 256
  pub phone : r.phone.0 < 256
  pub cell : r.cell < 256 ^ 2
  pub value : r.value < 256 ^ 4
  pub time : r.time < 256 ^ 4
  pub eight : length r.stamp.counts ≡ servers
  pub stamp : AllBelow 65536 r.stamp.counts

pub decode-encode : (r : Record) → Fits r → decode (encode r) ≡ r
unfolding decode encode to_bytes
decode-encode r h =
    λ i. record {
      origin = record { 0 = one_byte r.origin.0 i };
      phone = record { 0 = one_byte r.phone.0 i };
      cell = from-to 2 r.cell h.cell i;
      value = from-to 4 r.value h.value i;
      time = from-to 4 r.time h.time i;
      stamp = vector-from r.stamp h.eight h.stamp i;
    }

pub length-encode : (r : Record) → length r.stamp.counts ≡ servers → length (encode r) ≡ record_size
unfolding encode to_bytes
length-encode r h = omega (arith, length-vector_bytes r.stamp h)

module _ (b : List ℕ) (l : length b ≡ record_size) (h : AllBelow 256 b) where
  -- the record of 28 bytes has these bytes
  pub encode-decode : encode (decode b) ≡ b
  unfolding encode decode
  encode-decode =
      rw (
        part-back 2 2 b (omega arith) h,
        part-back 4 4 b (omega arith) h,
        part-back 4 8 b (omega arith) h,
        vector-bytes (drop stamp_at b) (simp length-drop (omega arith)) (below-drop stamp_at b h),
        parts_join 2 4 4 2 b,
        byte-join 1 b (omega arith),
        byte-join 0 b (omega arith),
      )

-- the numbers of bytes fit their bytes
pub decode-fits : (b : List ℕ) → AllBelow 256 b → Fits (decode b)
unfolding decode
decode-fits b h =
    record {
      origin = from-below 1 b h;
      phone = from-below 1 (drop 1 b) (below-drop 1 b h);
      cell = from-below 2 (drop 2 b) (below-drop 2 b h);
      value = from-below 4 (drop 4 b) (below-drop 4 b h);
      time = from-below 4 (drop 8 b) (below-drop 8 b h);
      eight = length-vector_from (drop stamp_at b);
      stamp = counts-below (drop stamp_at b) (below-drop stamp_at b h);
    }

-- ---- records one behind the other
module _ (k : ℕ) (b : List ℕ) where
  pub length-records : length (records k b) ≡ k
  unfolding records
  length-records = length-map (pieces record_size k b) decode ∙ length-pieces record_size k b

  -- record j
  pub record-at : (j : ℕ) → j < k → get_or (records k b) j (decode []) ≡ decode (take record_size (drop (record_size * j) b))
  unfolding records
  record-at j h = get_or-map decode (pieces record_size k b) j [] ∙ ap decode (piece-at record_size k j b h)

  -- 28 k bytes are the bytes of the k records that they give
  pub bytes-of-records : length b ≡ record_size * k → AllBelow 256 b → record_bytes (records k b) ≡ b
  unfolding records record_bytes
  bytes-of-records l h = pieces-join record_size encode decode encode-decode k b l h

pub records-of-bytes : (rs : List Record) → Each Fits rs → records (length rs) (record_bytes rs) ≡ rs
unfolding records record_bytes
records-of-bytes rs h =
    pieces-split record_size encode decode Fits (λ r f. (length-encode r f.eight, decode-encode r f)) rs h

pub records-fit : (k : ℕ) (b : List ℕ) → AllBelow 256 b → Each Fits (records k b)
unfolding records pieces
records-fit zero b h = tt
records-fit (suc k) b h =
    (decode-fits (take record_size b) (below-take record_size b h), records-fit k (drop record_size b) (below-drop record_size b h))

-- records of eight counts each
pub length-record_bytes :
    (rs : List Record) → Each (λ r. length r.stamp.counts ≡ servers) rs → length (record_bytes rs) ≡ record_size * length rs
unfolding record_bytes
length-record_bytes rs h = length-flat_map record_size encode rs (each-also length-encode rs h)

pub eight-counts : (k : ℕ) (b : List ℕ) → Each (λ r. length r.stamp.counts ≡ servers) (records k b)
unfolding records pieces decode
eight-counts zero b = tt
eight-counts (suc k) b = (length-vector_from (drop stamp_at (take record_size b)), eight-counts k (drop record_size b))

-- ---- a record's first four bytes as one number
phone-test : (o p c : ℕ) → o < 256 → p < 256 → eqb ((o + 256 * p + 65536 * c) / 16384 % 4) 0 ≡ ltb p phones
phone-test o p c ho hp = go (ltb p phones) refl
  where
    above : (o + 256 * p + 65536 * c) / 16384 ≡ 4 * c + p / 64
    above = omega arith

    go : (t : Bool) → ltb p phones ≡ t → eqb ((o + 256 * p + 65536 * c) / 16384 % 4) 0 ≡ ltb p phones
    go true e = let k = ltb-true p phones e in rw (e, above) (eq-eqb ((4 * c + p / 64) % 4) 0 (omega arith))
    go false e = let k = ltb-false p phones e in rw (e, above) (ne_eqb ((4 * c + p / 64) % 4) 0 (λ q. omega arith))

module _ (b : List ℕ) (h : AllBelow 256 b) where
  head-is : from_bytes (take 4 (drop 0 b)) ≡ field origin_field b + 256 * field phone_field b + 65536 * field cell_field b
  head-is = omega (arith, from-split 2 2 0 b, from-two 0 b, from_one 0 b, from_one 1 b)

  pub origin-out : (n : ℕ) → n ≤ get_or b 0 0 → in_range n (decode b) ≡ false
  unfolding in_range decode
  origin-out n k = rw (le-ltb (field origin_field b) n (rw (from_one 0 b) k))

  pub cell_out : (n : ℕ) → cells * 65536 ≤ from_bytes (take 4 (drop 0 b)) → in_range n (decode b) ≡ false
  unfolding in_range decode
  cell_out n k =
      rw (
        le-ltb (field cell_field b) cells (omega (arith, head-is, from_one 0 b, from_one 1 b, h 0, h 1)),
        and-false,
      )

  pub phone-decides :
      (n : ℕ)
      → get_or b 0 0 < n
      → from_bytes (take 4 (drop 0 b)) < cells * 65536
      → in_range n (decode b) ≡ eqb (from_bytes (take 4 (drop 0 b)) / 16384 % 4) 0
  unfolding in_range decode
  phone-decides n k l =
      rw (
        lt-ltb (field origin_field b) n (rw (from_one 0 b) k),
        lt-ltb (field cell_field b) cells (omega (arith, head-is)),
        and-true,
        head-is,
        phone-test (field origin_field b) (field phone_field b) (field cell_field b) (rw (from_one 0 b) (h 0)) (rw (from_one 1 b) (h 1)),
      )

  -- the number, as it stands in the bytes
  pub number_at : get_or b 0 0 < servers → number (decode b) ≡ from_bytes (take 2 (drop (stamp_at + 2 * get_or b 0 0) b))
  unfolding decode
  number_at k = rw (from_one 0 b, count-from stamp_at b (get_or b 0 0) k)

-- ---- well formed, test by test
module _ (n : ℕ) (r : Record) where
  pub out_of_range : in_range n r ≡ false → well_formed n r ≡ false
  unfolding well_formed
  out_of_range e = rw e

  pub origin-below : in_range n r ≡ true → r.origin.0 < n
  unfolding in_range
  origin-below e =
      ltb-true r.origin.0 n (both (ltb r.origin.0 n) _ (both (ltb r.origin.0 n && ltb r.phone.0 phones) _ e).0).0

  module _ (l : length r.stamp.counts ≡ servers) where
    pub over-limits : behind (limits_of n) r.stamp ≡ true → well_formed n r ≡ false
    unfolding well_formed
    over-limits e = rw (stamp-limits n r.stamp l, e, and-false)

    pub number-decides : in_range n r ≡ true → behind (limits_of n) r.stamp ≡ false → well_formed n r ≡ leb 1 (number r)
    unfolding well_formed
    number-decides k e = rw (k, stamp-limits n r.stamp l, e, and-true)

-- every test, in the order in which they are made
pub well-formed-is :
    (n : ℕ) (r : Record)
    → length r.stamp.counts ≡ servers
    → well_formed n r ≡ (in_range n r && not (behind (limits_of n) r.stamp) && leb 1 (number r))
unfolding well_formed
well-formed-is n r l = rw (stamp-limits n r.stamp l) (swap (in_range n r) (leb 1 (number r)) (not (behind (limits_of n) r.stamp)))
  where
    swap : (a b c : Bool) → (a && b && c) ≡ (a && c && b)
    swap false b c = refl
    swap true true c = sym (and-true c)
    swap true false c = sym (and-false c)

-- ---- records in a row, tested one by one

-- as std's `all` tests the pieces that they are read from
pub all-pieces : (p : Record → Bool) (k : ℕ) (b : List ℕ) → list_all (λ x. p (decode x)) (pieces record_size k b) ≡ every p (records k b)
unfolding records
all-pieces p k b = sym (list_all-map p decode (pieces record_size k b)) ∙ every-all p (map decode (pieces record_size k b))

-- ---- bytes that agree, as where zeros stand past the end, give the same record
pub decode-agree : (a b : List ℕ) → ((i : ℕ) → get_or a i 0 ≡ get_or b i 0) → decode a ≡ decode b
unfolding decode
decode-agree a b e = rw (vector-agree a b e stamp_at) (simp (from-agree a b e))

padded : (b z : List ℕ) → ((i : ℕ) → get_or z i 0 ≡ 0) → (i : ℕ) → get_or (b ++ z) i 0 ≡ get_or b i 0
padded [] z h i = h i
padded (x ∷ b) z h zero = refl
padded (x ∷ b) z h (suc i) = padded b z h i

pub decode-padded : (b : List ℕ) (n : ℕ) → decode (take (length b) b ++ drop (length b) (replicate n 0)) ≡ decode b
decode-padded b n =
    rw take-length
    (decode-agree (b ++ drop (length b) (replicate n 0)) b
    (padded b (drop (length b) (replicate n 0)) (λ i. get_or-drop (length b) (replicate n 0) i 0 ∙ zeros-at n (length b + i))))

pub decode-set : (b : List ℕ) (n : ℕ) → length b ≤ n → decode (sets (replicate n 0) 0 b) ≡ decode b
decode-set b n h =
    rw (sets-front b (replicate n 0) (length b) refl (rw length-replicate h)) (rw take-length at (decode-padded b n))

-- ---- a record's bytes stored field by field
pub encode-stored :
    (r : Record) (l : List ℕ)
    → r.origin.0 < 256
    → r.phone.0 < 256
    → sets (sets (sets (sets (sets (sets l 0 (to_bytes 1 r.origin.0)) 1 (to_bytes 1 r.phone.0)) 2 (to_bytes 2 r.cell)) 4 (to_bytes 4 r.value)) 8 (to_bytes 4 r.time)) 12 (vector_bytes r.stamp) ≡ sets l 0 (encode r)
unfolding encode to_bytes
encode-stored r l o p =
    let e : r.origin.0 % 256 ≡ r.origin.0 = omega arith in
    let f : r.phone.0 % 256 ≡ r.phone.0 = omega arith in
    rw (e, f)

pub encode-filled : (r : Record) → length r.stamp.counts ≡ servers → sets (replicate record_size 0) 0 (encode r) ≡ encode r
encode-filled r l =
    let e : 0 + length (encode r) ≡ record_size = omega (arith, length-encode r l) in
    sets-eq (encode r) (replicate record_size 0) 0 (omega arith) ∙ rw (e, append-nil)
