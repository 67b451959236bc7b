-- Laws of records at their places in byte lists, and of a record read back.
-- Assumes nothing.
use Prim.Native.Nat.{ℕ, zero, suc, ◌+◌, ◌-◌, ◌*◌, ◌^◌, ◌<◌, ◌≤◌}
use mathlib.Core.List.{List, [], ◌∷◌, ◌++◌}
use mathlib.Core.Path.{◌≡◌, refl, ap, sym, ◌∙◌}
use native.Mathlib.Nat.{zero-add}
use native.Mathlib.Omega.{arith}
use borrow.Rule.Slice.PartMut.{put_mid}
use lib.ListN.{length, take, drop, set, replicate, length-drop}
use lib.Seq.{sets, length-take-le, take-nil, take_all, take-take, take_at, drop-drop, take-set-le, take-set-lt, drop-set-lt, drop-set-add}
use Rattle.notes.specs.Bytes.{to_bytes, pieces}
use Rattle.notes.specs.Index.{servers}
use Rattle.notes.specs.Record.{record_size, decode, encode, records, record_bytes}
use Rattle.notes.specs.declared.record.Record.{Record}
use Rattle.notes.proofs.Lists.{sets-front}
use Rattle.notes.proofs.Numbers.{AllBelow, one_byte, from-to}
use Rattle.notes.proofs.Pieces.{Each, each-also}
use Rattle.notes.proofs.Vectors.{vector-from}
use Rattle.notes.proofs.Records.{Fits, length-record_bytes, records-of-bytes}

-- ---- stores and the parts of a list

module _ {A : Type 0} where
  -- stores past a place leave what is before it
  pub take-sets : (vs l : List A) (n p : ℕ) → n ≤ p → take n (sets l p vs) ≡ take n l
  take-sets [] l n p h = refl
  take-sets (v ∷ vs) l n p h = take-sets vs (set l p v) n (suc p) (omega arith) ∙ take-set-le n l p v h

  -- stores before a place are stores in the part before it
  pub take-sets-in : (vs l : List A) (n p : ℕ) → p + length vs ≤ n → take n (sets l p vs) ≡ sets (take n l) p vs
  take-sets-in [] l n p h = refl
  take-sets-in (v ∷ vs) l n p h =
      take-sets-in vs (set l p v) n (suc p) (omega arith)
      ∙ ap (λ (t : List A). sets t (suc p) vs) (take-set-lt n l p v (omega arith))

  -- and leave what is past it
  pub drop-sets : (vs l : List A) (n p : ℕ) → p + length vs ≤ n → drop n (sets l p vs) ≡ drop n l
  drop-sets [] l n p h = refl
  drop-sets (v ∷ vs) l n p h =
      drop-sets vs (set l p v) n (suc p) (omega arith) ∙ drop-set-lt n l p v (omega arith)

  -- stores past a place are stores in the part past it
  pub drop-sets-in : (vs l : List A) (n p : ℕ) → drop n (sets l (n + p) vs) ≡ sets (drop n l) p vs
  drop-sets-in [] l n p = refl
  drop-sets-in (v ∷ vs) l n p =
      let e : suc (n + p) ≡ n + suc p = omega arith in
      rw e (drop-sets-in vs (set l (n + p) v) n (suc p) ∙ ap (λ (t : List A). sets t (suc p) vs) (drop-set-add n l p v))

  -- a part's rest
  drop-take : (m n : ℕ) (l : List A) → drop m (take n l) ≡ take (n - m) (drop m l)
  drop-take zero n l = let e : n - 0 ≡ n = omega arith in rw e
  drop-take (suc m) zero l = let e : 0 - suc m ≡ 0 = omega arith in rw e
  drop-take (suc m) (suc n) [] = let e : suc n - suc m ≡ n - m = omega arith in rw (e, take-nil)
  drop-take (suc m) (suc n) (x ∷ l) = let e : suc n - suc m ≡ n - m = omega arith in rw e (drop-take m n l)

  -- a part that lies in the front
  pub part_in : (w p n : ℕ) (l : List A) → p + w ≤ n → take w (drop p (take n l)) ≡ take w (drop p l)
  part_in w p n l h = rw (drop-take p n l, take-take w (n - p) (drop p l) (omega arith))

-- ---- records at their places

-- the first record, and those behind it
records-suc : (k : ℕ) (b : List ℕ) → records (suc k) b ≡ decode (take record_size b) ∷ records k (drop record_size b)
unfolding records pieces
records-suc k b = refl

records-zero : (b : List ℕ) → records 0 b ≡ []
unfolding records pieces
records-zero b = refl

-- records that end at or before a place are as they were
pub records-kept : (k d : ℕ) (b bs : List ℕ) → records k (sets b (record_size * k + d) bs) ≡ records k b
records-kept zero d b bs = rw (records-zero b) (records-zero _)
records-kept (suc k) d b bs =
    let e : record_size * suc k + d ≡ record_size + (record_size * k + d) = omega arith in
    rw (
      e,
      records-suc k b,
      records-suc k (sets b (record_size + (record_size * k + d)) bs),
      take-sets bs b record_size (record_size + (record_size * k + d)) (omega arith),
      drop-sets-in bs b record_size (record_size * k + d),
      records-kept k d (drop record_size b) bs,
    )

-- the same in an area that begins at a place
pub area-kept :
    (begin k p : ℕ) (b bs : List ℕ)
    → begin + record_size * k ≤ p
    → records k (drop begin (sets b p bs)) ≡ records k (drop begin b)
area-kept begin k p b bs h =
    let d = p - (begin + record_size * k) in
    let e : p ≡ begin + (record_size * k + d) = omega arith in
    rw (e, drop-sets-in bs b begin (record_size * k + d)) (records-kept k d (drop begin b) bs)

-- records in the front of some bytes
pub records-in : (k m : ℕ) (b : List ℕ) → record_size * k ≤ m → records k (take m b) ≡ records k b
records-in zero m b h = rw (records-zero b) (records-zero _)
records-in (suc k) m b h =
    rw (
      records-suc k b,
      records-suc k (take m b),
      take-take record_size m b (omega arith),
      drop-take record_size m b,
      records-in k (m - record_size) (drop record_size b) (omega arith),
    )

records-at-front : (k : ℕ) (b z : List ℕ) → length b ≡ record_size * k → records k (b ++ z) ≡ records k b
records-at-front k b z l =
    sym (records-in k (record_size * k) (b ++ z) (omega arith)) ∙ ap (records k) (take_at b z (record_size * k) l)

-- bytes of j records stored behind k
pub records-appended :
    (k j : ℕ) (b bs : List ℕ)
    → length bs ≡ record_size * j
    → record_size * (k + j) ≤ length b
    → records (k + j) (sets b (record_size * k) bs) ≡ records k b ++ records j bs
records-appended zero j b bs l h =
    let e : record_size * 0 ≡ 0 = omega arith in
    rw (e, zero-add, records-zero b, sets-front bs b (record_size * j) l (omega arith))
    (records-at-front j bs (drop (record_size * j) b) l)
records-appended (suc k) j b bs l h =
    let e : record_size * suc k ≡ record_size + record_size * k = omega arith in
    let f : suc k + j ≡ suc (k + j) = omega arith in
    rw (
      e,
      f,
      records-suc k b,
      records-suc (k + j) (sets b (record_size + record_size * k) bs),
      take-sets bs b record_size (record_size + record_size * k) (omega arith),
      drop-sets-in bs b record_size (record_size * k),
      records-appended k j (drop record_size b) bs l (rw length-drop (omega arith)),
    )

-- one record is its bytes
pub records-one : (bs : List ℕ) → length bs ≡ record_size → records 1 bs ≡ decode bs ∷ []
unfolding records pieces
records-one bs e = rw (take_all record_size bs (omega arith))

-- the bytes of records give the records, whatever follows
pub records-front : (rs : List Record) (z : List ℕ) → Each Fits rs → records (length rs) (record_bytes rs ++ z) ≡ rs
records-front rs z h =
    records-at-front (length rs) (record_bytes rs) z (length-record_bytes rs (each-also (λ r f. f.eight) rs h))
    ∙ records-of-bytes rs h

-- the first j of k records, and those behind them
pub records-take : (j k : ℕ) (b : List ℕ) → j ≤ k → take j (records k b) ≡ records j b
records-take zero k b h = sym (records-zero b)
records-take (suc j) zero b h = absurd (omega arith)
records-take (suc j) (suc k) b h = rw (records-suc k b, records-suc j b, records-take j k (drop record_size b) (omega arith))

pub records-drop : (j k : ℕ) (b : List ℕ) → drop j (records k b) ≡ records (k - j) (drop (record_size * j) b)
records-drop zero k b =
    let e : record_size * 0 ≡ 0 = omega arith in
    let f : k - 0 ≡ k = omega arith in
    rw (e, f)
records-drop (suc j) zero b =
    let e : 0 - suc j ≡ 0 = omega arith in
    rw (e, records-zero b) (sym (records-zero _))
records-drop (suc j) (suc k) b =
    let e : suc k - suc j ≡ k - j = omega arith in
    let f : record_size * suc j ≡ record_size + record_size * j = omega arith in
    rw (e, f, records-suc k b, ← drop-drop, records-drop j k (drop record_size b))

-- ---- a record of any value and time, read back

-- the same write but for value and time
pub record Like (a b : Record) : Type 0 where
  pub origin : a.origin ≡ b.origin
  pub phone : a.phone ≡ b.phone
  pub cell : a.cell ≡ b.cell
  pub stamp : a.stamp ≡ b.stamp

-- value and time lose what their bytes do not hold
pub decode-encoded :
    (r : Record)
    → r.cell < 256 ^ 2
    → length r.stamp.counts ≡ servers
    → AllBelow 65536 r.stamp.counts
    → Like (decode (encode r)) r
unfolding decode encode to_bytes
decode-encoded r c l h =
    record {
      origin = λ i. record { 0 = one_byte r.origin.0 i };
      phone = λ i. record { 0 = one_byte r.phone.0 i };
      cell = from-to 2 r.cell c;
      stamp = vector-from r.stamp l h;
    }

-- zeros over a part, as `fill(0)` of `b[p..p + k]` leaves the whole
pub zeroed :
    (p k : ℕ) (b zeros : List ℕ)
    → p + k ≤ length b
    → zeros ≡ replicate (length (take k (drop p b))) 0
    → put_mid p k b zeros ≡ take p b ++ (replicate k 0 ++ drop (p + k) b)
zeroed p k b zeros h e = rw (e, length-take-le k (drop p b) (rw length-drop (omega arith)), drop-drop)
