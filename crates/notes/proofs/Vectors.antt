-- Laws of vectors: each over every position and every N.
-- Assumes nothing.
use Prim.Native.Nat.{ℕ, zero, suc, ◌+◌, ◌*◌, ◌<◌, ◌≤◌, max}
use mathlib.Core.Bool.{Bool, true, false, ◌&&◌, ◌||◌, not, cond, and_assoc, and-false, or-true, false≢true}
use mathlib.Core.List.{List, [], ◌∷◌, ◌++◌, map, zip_with, flat_map, append-nil}
use mathlib.Core.Path.{◌≡◌, refl, ap, sym, ◌∙◌}
use native.Mathlib.Nat.{zero-add}
use native.Mathlib.Omega.{arith}
use borrow.Author.Tests.{ltb-true, ltb-false, lt-ltb, le-ltb, lt-leb, le-leb, eq-eqb, ne_eqb}
use lib.Dec.{ltb, leb, eqb, leb-suc-suc}
use lib.ListN.{length, get_or, take, drop, set, replicate, get_or-eq_default, get_or-map, length-map, length-take, length-append, length-replicate}
use lib.Seq.{drop-nil, get_or-set_same, get_or-set_other, get_or-take, drop-drop, length-take-le, ext_get_or, sets}
use Rattle.std.specs.List.{fold, zip, sum as sum_std}
use Rattle.notes.specs.Lists.{every, any}
use Rattle.notes.specs.Index.{servers}
use Rattle.notes.specs.Bytes.{from_bytes, to_bytes, pieces}
use Rattle.notes.specs.Vector.{vector, at, raised, maximum, sum, behind, zero_from, count_size, counts_in, vector_from, vector_bytes}
use Rattle.notes.specs.Record.{number_most, stamp_ok}
use Rattle.notes.specs.Forms.{limit_at, limits_of}
use Rattle.notes.specs.declared.index.ServerId.{ServerId}
use Rattle.notes.specs.declared.vector.Vector.{Vector}
use Rattle.notes.proofs.Lists.{neither, take_more, copied_more, copied-at, every-fold, any-fold, any-zip, sum-fold, sets-append, flat_map-append, length-zip_with, get_or-zip_with}
use Rattle.notes.proofs.Numbers.{AllBelow, below-drop, from-below, from-agree, from-to, to-from, length-to_bytes}
use Rattle.notes.proofs.Pieces.{Each, each_of, length-pieces, piece-at, pieces-join, pieces-split, length-flat_map}

-- ---- tests
not-or : (a b : Bool) → not (a || b) ≡ (not a && not b)
not-or true b = refl
not-or false b = refl

pub not-ltb : (m n : ℕ) → not (ltb n m) ≡ leb m n
not-ltb m n = go (ltb n m) refl
  where
    go : (t : Bool) → ltb n m ≡ t → not (ltb n m) ≡ leb m n
    go true e = rw (e, lt-leb m n (ltb-true n m e))
    go false e = rw (e, le-leb m n (ltb-false n m e))

zero-only : (x m : ℕ) → (leb x m && eqb x 0) ≡ not (ltb 0 x)
zero-only x m = go (ltb 0 x) refl
  where
    go : (t : Bool) → ltb 0 x ≡ t → (leb x m && eqb x 0) ≡ not (ltb 0 x)
    go true e =
        let h = ltb-true 0 x e in
        rw (e, ne_eqb x 0 (λ q. omega arith), and-false)
    go false e =
        let h = ltb-false 0 x e in
        rw (e, le-leb x m (omega arith), eq-eqb x 0 (omega arith))

-- (a and b) and (c and d) is (a and c) and (b and d)
and-swap : (a b c d : Bool) → (a && b && (c && d)) ≡ (a && c && (b && d))
and-swap true true c d = refl
and-swap true false c d = rw and-false
and-swap false b c d = refl

-- ---- T against the limits
within :
    (m : ℕ) (v : List ℕ) (n z : ℕ)
    → length v ≤ z
    → (every (λ x. leb x m) v && every (λ x. eqb x 0) (drop n v)) ≡ not (any (λ below. below) (zip_with ltb (take (length v) (replicate n m ++ replicate z 0)) v))
unfolding every any zip_with
within m [] n z h = rw drop-nil
within m (x ∷ v) zero zero h = absurd (omega arith)
within m (x ∷ v) zero (suc z) h = rw (not-or, ← within m v zero z (omega arith), ← zero-only x m, and-swap)
within m (x ∷ v) (suc n) z h = rw (not-or, not-ltb, ← within m v n z (omega arith), and_assoc)

pub stamp-limits : (n : ℕ) (v : Vector) → length v.counts ≡ servers → stamp_ok n v ≡ not (behind (limits_of n) v)
unfolding stamp_ok zero_from behind limits_of
stamp-limits n v l = within number_most v.counts n servers (omega arith) ∙ rw l

-- ---- a vector and its bytes
each_below : (n : ℕ) (l : List ℕ) → AllBelow n l → Each (λ x. x < n) l
each_below n [] h = tt
each_below n (x ∷ l) h = (h 0, each_below n l (λ i. h (suc i)))

pub vector-bytes : (b : List ℕ) → length b ≡ count_size * servers → AllBelow 256 b → vector_bytes (vector_from b) ≡ b
unfolding vector_bytes vector_from
vector-bytes b l h =
    pieces-join count_size (to_bytes count_size) from_bytes (λ x m k. to-from count_size x m k) servers b l h

pub vector-from : (v : Vector) → length v.counts ≡ servers → AllBelow 65536 v.counts → vector_from (vector_bytes v) ≡ v
unfolding vector_bytes vector_from
vector-from v l h =
    ap vector
    (ap (λ (k : ℕ). map from_bytes (pieces count_size k (vector_bytes v))) (sym l)
    ∙ pieces-split count_size (to_bytes count_size) from_bytes (λ x. x < 65536)
    (λ x k. (length-to_bytes count_size x, from-to count_size x k))
    v.counts
    (each_below 65536 v.counts h))

pub length-vector_bytes : (v : Vector) → length v.counts ≡ servers → length (vector_bytes v) ≡ count_size * servers
unfolding vector_bytes
length-vector_bytes v l = rw (length-flat_map count_size (to_bytes count_size) v.counts (each_of (length-to_bytes count_size) v.counts), l)

-- ---- so many counts in bytes
pub length-counts_in : (k : ℕ) (b : List ℕ) → length (counts_in k b) ≡ k
length-counts_in k b = length-map (pieces count_size k b) from_bytes ∙ length-pieces count_size k b

-- the count at a position, as it stands in the bytes from a place on
pub count-in :
    (k p : ℕ) (b : List ℕ) (i : ℕ)
    → i < k
    → get_or (counts_in k (drop p b)) i 0 ≡ from_bytes (take count_size (drop (p + count_size * i) b))
unfolding from_bytes
count-in k p b i h =
    get_or-map from_bytes (pieces count_size k (drop p b)) i []
    ∙ ap from_bytes (piece-at count_size k i (drop p b) h)
    ∙ rw drop-drop

pub length-vector_from : (b : List ℕ) → length (vector_from b).counts ≡ servers
unfolding vector_from
length-vector_from b = length-counts_in servers b

pub count-from :
    (k : ℕ) (b : List ℕ) (i : ℕ)
    → i < servers
    → get_or (vector_from (drop k b)).counts i 0 ≡ from_bytes (take count_size (drop (k + count_size * i) b))
unfolding vector_from
count-from k b i h = count-in servers k b i h

-- bytes that agree give the same counts
pub vector-agree :
    (a b : List ℕ)
    → ((i : ℕ) → get_or a i 0 ≡ get_or b i 0)
    → (k : ℕ)
    → vector_from (drop k a) ≡ vector_from (drop k b)
vector-agree a b e k =
    let la = length-vector_from (drop k a) in
    let lb = length-vector_from (drop k b) in
    ap vector
    (ext_get_or 0 (vector_from (drop k a)).counts (vector_from (drop k b)).counts (la ∙ sym lb)
    (λ i h. let j : i < servers = omega arith in count-from k a i j ∙ from-agree a b e count_size (k + count_size * i) ∙ sym (count-from k b i j)))

pub counts-below : (b : List ℕ) → AllBelow 256 b → AllBelow 65536 (vector_from b).counts
counts-below b h i = go (ltb i servers) refl
  where
    go : (t : Bool) → ltb i servers ≡ t → get_or (vector_from b).counts i 0 < 65536
    go true e =
        rw (count-from 0 b i (ltb-true i servers e)) (from-below count_size (drop (0 + count_size * i) b) (below-drop (0 + count_size * i) b h))
    go false e =
        rw (get_or-eq_default (vector_from b).counts 0 {n = i} (rw length-vector_from (ltb-false i servers e))) (omega arith)

-- ---- a count at a server, after each change
max-at : (v w : List ℕ) (i : ℕ) → length v ≡ length w → get_or (zip_with max v w) i 0 ≡ max (get_or v i 0) (get_or w i 0)
unfolding zip_with
max-at [] [] i l = refl
max-at [] (y ∷ w) i l = absurd (omega arith)
max-at (x ∷ v) [] i l = absurd (omega arith)
max-at (x ∷ v) (y ∷ w) zero l = refl
max-at (x ∷ v) (y ∷ w) (suc i) l = max-at v w i (omega arith)

pub at-maximum : (v w : Vector) → length v.counts ≡ length w.counts → (s : ServerId) → at (maximum v w) s ≡ max (at v s) (at w s)
unfolding maximum
at-maximum v w l s = max-at v.counts w.counts s.0 l

pub at-raised : (v : Vector) (s : ServerId) (k : ℕ) → s.0 < length v.counts → at (raised v s k) s ≡ max (at v s) k
unfolding raised
at-raised v s k h = get_or-set_same v.counts s.0 (max (at v s) k) 0 h

pub at-raised-other : (v : Vector) (s o : ServerId) (k : ℕ) → (o.0 ≡ s.0 → ⊥) → at (raised v s k) o ≡ at v o
unfolding raised
at-raised-other v s o k h = get_or-set_other v.counts s.0 o.0 (max (at v s) k) 0 h

-- ---- behind at some position: not so exactly if no count is below
none_below : (v w : List ℕ) → length v ≡ length w → any (λ below. below) (zip_with ltb v w) ≡ false → (i : ℕ) → get_or w i 0 ≤ get_or v i 0
unfolding any zip_with
none_below [] [] l e i = omega arith
none_below [] (y ∷ w) l e i = absurd (omega arith)
none_below (x ∷ v) [] l e i = absurd (omega arith)
none_below (x ∷ v) (y ∷ w) l e zero = ltb-false x y (neither (ltb x y) _ e).0
none_below (x ∷ v) (y ∷ w) l e (suc i) = none_below v w (omega arith) (neither (ltb x y) _ e).1 i

some_below : (v w : List ℕ) (i : ℕ) → length v ≡ length w → get_or v i 0 < get_or w i 0 → any (λ below. below) (zip_with ltb v w) ≡ true
unfolding any zip_with
some_below [] [] i l h = absurd (omega arith)
some_below [] (y ∷ w) i l h = absurd (omega arith)
some_below (x ∷ v) [] i l h = absurd (omega arith)
some_below (x ∷ v) (y ∷ w) zero l h = rw (lt-ltb x y h)
some_below (x ∷ v) (y ∷ w) (suc i) l h = rw (some_below v w i (omega arith) h, or-true)

below-some : (v w : List ℕ) → any (λ below. below) (zip_with ltb v w) ≡ true → (i : ℕ) × (get_or v i 0 < get_or w i 0)
unfolding any zip_with
below-some [] w e = absurd (false≢true e)
below-some (x ∷ v) [] e = absurd (false≢true e)
below-some (x ∷ v) (y ∷ w) e = go (ltb x y) refl (below-some v w) e
  where
    go :
        (t : Bool)
        → ltb x y ≡ t
        → (any (λ below. below) (zip_with ltb v w) ≡ true → (i : ℕ) × (get_or v i 0 < get_or w i 0))
        → (t || any (λ below. below) (zip_with ltb v w)) ≡ true
        → (i : ℕ) × (get_or (x ∷ v) i 0 < get_or (y ∷ w) i 0)
    go true q rest e = (0, ltb-true x y q)
    go false q rest e = let r = rest e in (suc r.0, r.1)

pub behind-some : (v w : Vector) → behind v w ≡ true → (s : ServerId) × (at v s < at w s)
unfolding behind
behind-some v w e = let r = below-some v.counts w.counts e in (record { 0 = r.0 }, r.1)

module _ (v w : Vector) (l : length v.counts ≡ length w.counts) where
  pub behind-false : behind v w ≡ false → (s : ServerId) → at w s ≤ at v s
  unfolding behind
  behind-false e s = none_below v.counts w.counts l e s.0

  pub behind-true : (s : ServerId) → at v s < at w s → behind v w ≡ true
  unfolding behind
  behind-true s h = some_below v.counts w.counts s.0 l h

-- ---- what loops over the positions need: one position more
module _ (v w : Vector) (lv : length v.counts ≡ servers) (lw : length w.counts ≡ servers) where
  pub maximum-more :
      (l : List ℕ) (i x : ℕ)
      → i < servers
      → l ≡ take i (maximum v w).counts ++ drop i v.counts
      → x ≡ max (get_or l i 0) (get_or w.counts i 0)
      → set l i x ≡ take (i + 1) (maximum v w).counts ++ drop (i + 1) v.counts
  unfolding maximum
  maximum-more l i x h e m =
      let n = length-zip_with max v.counts w.counts (lv ∙ sym lw) in
      let own = copied-at (zip_with max v.counts w.counts) v.counts i 0 (omega arith) (omega arith) in
      let both = sym (get_or-zip_with max v.counts w.counts i 0 0 0 (omega arith) (omega arith)) in
      rw (m, e, own, both) (copied_more (zip_with max v.counts w.counts) v.counts i 0 (omega arith) (omega arith))

  pub length-maximum : length (maximum v w).counts ≡ servers
  unfolding maximum
  length-maximum = length-zip_with max v.counts w.counts (lv ∙ sym lw) ∙ lv

-- ---- what chains over the positions give
pub behind-folded : (v w : Vector) → fold (λ b p. b || ltb p.0 p.1) false (zip v.counts w.counts) ≡ behind v w
unfolding behind
behind-folded v w = any-fold (λ p. ltb p.0 p.1) (zip v.counts w.counts) false ∙ any-zip ltb v.counts w.counts

pub zero-folded : (n : ℕ) (v : Vector) → fold (λ b x. b && eqb x 0) true (drop n v.counts) ≡ zero_from n v
unfolding zero_from
zero-folded n v = every-fold (λ x. eqb x 0) (drop n v.counts) true

pub sum-folded : (v : Vector) → sum_std v.counts ≡ sum v
unfolding sum
sum-folded v = sum-fold v.counts 0 ∙ zero-add _

-- ---- a vector's bytes stored one count after the other
module _ (l : List ℕ) (i : ℕ) (h : i < length l) where
  prefix-length : length (flat_map (to_bytes count_size) (take i l)) ≡ count_size * i
  prefix-length =
      rw (
        length-flat_map count_size (to_bytes count_size) (take i l) (each_of (length-to_bytes count_size) (take i l)),
        length-take-le i l (omega arith),
      )

  pub counts-stored :
      (out : List ℕ) (at : ℕ)
      → sets (sets out at (flat_map (to_bytes count_size) (take i l))) (at + count_size * i) (to_bytes count_size (get_or l i 0)) ≡ sets out at (flat_map (to_bytes count_size) (take (i + 1) l))
  unfolding flat_map
  counts-stored out at =
      rw (
        take_more l i 0 h,
        flat_map-append (to_bytes count_size) (take i l) (get_or l i 0 ∷ []),
        append-nil,
        sets-append out (flat_map (to_bytes count_size) (take i l)) (to_bytes count_size (get_or l i 0)) at,
        prefix-length,
      )

-- ---- the limits
pub zeros-at : (z i : ℕ) → ◌≡◌ {A = ℕ} (get_or (replicate z 0) i 0) 0
zeros-at zero i = refl
zeros-at (suc z) zero = refl
zeros-at (suc z) (suc i) = zeros-at z i

filled_at : (m n z i : ℕ) → get_or (replicate n m ++ replicate z 0) i 0 ≡ cond (ltb i n) m 0
filled_at m zero z i = rw (le-ltb i 0 (omega arith)) (zeros-at z i)
filled_at m (suc n) z zero = rw (lt-ltb 0 (suc n) (omega arith))
filled_at m (suc n) z (suc i) = rw (leb-suc-suc (suc i) n) (filled_at m n z i)

pub limit-at : (n i : ℕ) → i < servers → get_or (limits_of n).counts i 0 ≡ limit_at n i
unfolding limits_of
limit-at n i h = get_or-take servers (replicate n number_most ++ replicate servers 0) i 0 h ∙ filled_at number_most n servers i

pub length-limits : (n : ℕ) → length (limits_of n).counts ≡ servers
unfolding limits_of
length-limits n = rw (length-take, length-append, length-replicate) (omega arith)
