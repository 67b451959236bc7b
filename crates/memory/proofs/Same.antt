-- Equal tests: two that are true together, and records compared by their bytes.
-- Assumes nothing.
use Prim.Native.Nat.{ℕ, ◌+◌, ◌*◌, ◌≤◌, ◌<◌}
use mathlib.Core.Bool.{Bool, true, false, ◌&&◌, and-true, and_assoc}
use mathlib.Core.List.{List, [], ◌∷◌, ◌++◌}
use mathlib.Core.Path.{◌≡◌, refl, ap, sym, ◌∙◌}
use native.Mathlib.Omega.{arith}
use lib.Dec.{eqb}
use lib.ListN.{length, get_or, take}
use lib.Seq.{length-take-le, take_all}
use Rattle.std.specs.Str.{bytes_eq}
use Rattle.std.proofs.lemmas.Slice.Eq.{bytes_eq-Decides}
use Rattle.notes.specs.Lists.{same}
use Rattle.notes.specs.Record.{record_size, decode, encode, records, record_bytes}
use Rattle.notes.proofs.Lists.{same_refl, same_true, take_more}
use Rattle.notes.proofs.Numbers.{AllBelow, below-take}
use Rattle.notes.proofs.Records.{bytes-of-records, encode-decode}
use Rattle.rules.specs.Writes.{same_records}
use Rattle.laws.proofs.Places.{records-in}
use Rattle.laws.proofs.Writes.{same-records, records-same}

-- two tests that are true together are equal
pub same_truth : (a b : Bool) → (a ≡ true → b ≡ true) → (b ≡ true → a ≡ true) → a ≡ b
same_truth true b f g = sym (f refl)
same_truth false true f g = g refl
same_truth false false f g = refl

-- two tests of equal counts
pub counts_same : (a b : List ℕ) → bytes_eq a b ≡ same b a
counts_same a b =
    let by = bytes_eq-Decides a b in
    same_truth (bytes_eq a b) (same b a) (λ e. rw (by.0 e) (same_refl b)) (λ e. by.1 (sym (same_true b a e)))

-- a test of numbers one by one is the library's test of them all
pub same_eq : (a b : List ℕ) → same a b ≡ bytes_eq a b
same_eq a b =
    let by = bytes_eq-Decides a b in
    same_truth (same a b) (bytes_eq a b) (λ e. by.1 (same_true a b e)) (λ e. rw (by.0 e) (same_refl b))

-- ---- bytes passed, one more, and the end
same-snoc : (a b : List ℕ) (x y : ℕ) → length a ≡ length b → same (a ++ x ∷ []) (b ++ y ∷ []) ≡ (same a b && eqb x y)
unfolding same
same-snoc [] [] x y h = and-true (eqb x y)
same-snoc [] (z ∷ b) x y h = absurd (omega arith)
same-snoc (w ∷ a) [] x y h = absurd (omega arith)
same-snoc (w ∷ a) (z ∷ b) x y h = rw (same-snoc a b x y (omega arith), and_assoc)

module _ (a b : List ℕ) (l : length a ≡ length b) where
  pub same_none : same (take 0 a) (take 0 b) ≡ true
  unfolding same
  same_none = refl

  pub same_more :
      (i : ℕ)
      → i < length a
      → same (take (i + 1) a) (take (i + 1) b) ≡ (same (take i a) (take i b) && eqb (get_or a i 0) (get_or b i 0))
  same_more i h =
      rw (take_more a i 0 h, take_more b i 0 (omega arith))
      (same-snoc (take i a) (take i b) (get_or a i 0) (get_or b i 0) (rw (length-take-le i a (omega arith), length-take-le i b (omega arith))))

  pub same-all : (i : ℕ) → length a ≤ i → same (take i a) (take i b) ≡ same a b
  same-all i h = rw (take_all i a h, take_all i b (omega arith))

-- ---- records
-- the bytes of the records that stand at the front of some bytes
pub bytes-in : (k : ℕ) (a : List ℕ) → record_size * k ≤ length a → AllBelow 256 a → record_bytes (records k a) ≡ take (record_size * k) a
bytes-in k a l h =
    ap record_bytes (sym (records-in k (record_size * k) a (omega arith)))
    ∙ bytes-of-records k (take (record_size * k) a) (length-take-le (record_size * k) a l) (below-take (record_size * k) a h)

-- two records are equal where their bytes are
pub bytes_same :
    (x y : List ℕ)
    → length x ≡ record_size
    → length y ≡ record_size
    → AllBelow 256 x
    → AllBelow 256 y
    → bytes_eq x y ≡ same_records (decode x ∷ []) (decode y ∷ [])
bytes_same x y lx ly hx hy =
    let by = bytes_eq-Decides x y in
    same_truth (bytes_eq x y) (same_records (decode x ∷ []) (decode y ∷ []))
    (λ e. rw (by.0 e) (records-same (decode y ∷ [])))
    (λ e.
    let one : decode x ≡ decode y = (let all = same-records (decode x ∷ []) (decode y ∷ []) e in cc) in
    by.1 (sym (encode-decode x lx hx) ∙ ap encode one ∙ encode-decode y ly hy))

-- and so are so many of them
pub first_same :
    (k : ℕ) (a b : List ℕ)
    → record_size * k ≤ length a
    → record_size * k ≤ length b
    → AllBelow 256 a
    → AllBelow 256 b
    → bytes_eq (take (record_size * k) a) (take (record_size * k) b) ≡ same_records (records k a) (records k b)
first_same k a b la lb ha hb =
    let x = take (record_size * k) a in
    let y = take (record_size * k) b in
    let by = bytes_eq-Decides x y in
    same_truth (bytes_eq x y) (same_records (records k a) (records k b))
    (λ e. rw (again (by.0 e)) (records-same (records k b)))
    (λ e. by.1 (bytes e))
  where
    bytes : same_records (records k a) (records k b) ≡ true → take (record_size * k) a ≡ take (record_size * k) b
    bytes e =
        sym (bytes-in k a la ha)
        ∙ ap record_bytes (same-records (records k a) (records k b) e)
        ∙ bytes-in k b lb hb

    again : take (record_size * k) a ≡ take (record_size * k) b → records k a ≡ records k b
    again e =
        sym (records-in k (record_size * k) a (omega arith))
        ∙ ap (records k) e
        ∙ records-in k (record_size * k) b (omega arith)
