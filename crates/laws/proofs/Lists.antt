-- Laws of lists: those that pass a test, numbers in a row, and tests over them.
-- Assumes nothing.
use Prim.Native.Nat.{ℕ, zero, suc, ◌+◌, ◌-◌, ◌<◌, ◌≤◌}
use mathlib.Core.Bool.{Bool, true, false, not}
use mathlib.Core.List.{List, [], ◌∷◌, ◌++◌, map}
use mathlib.Core.Path.{◌≡◌, refl, ap, ◌∙◌}
use native.Mathlib.Nat.{add-zero}
use native.Mathlib.Omega.{arith}
use borrow.Author.Tests.{not-true, ltb-true, ltb-false}
use lib.Dec.{ltb}
use lib.ListN.{length, get_or, take, drop}
use Rattle.notes.specs.Lists.{every}
use Rattle.notes.proofs.Lists.{both}
use Rattle.rules.specs.Writes.{keep_if, keep, counting}

-- ---- those that pass a test
module _ {A : Type 0} (p : A → Bool) where
  pub keep_append : (a b : List A) → keep p (a ++ b) ≡ keep p a ++ keep p b
  unfolding keep
  keep_append [] b = refl
  keep_append (x ∷ a) b = rw (keep_append a b) (go (p x))
    where
      go : (t : Bool) → keep_if t x (keep p a ++ keep p b) ≡ keep_if t x (keep p a) ++ keep p b
      go true = refl
      go false = refl

  pub keep_all : (l : List A) → every p l ≡ true → keep p l ≡ l
  unfolding keep every
  keep_all [] h = refl
  keep_all (x ∷ l) h = let e = both (p x) _ h in rw (e.0, keep_all l e.1)

  pub keep-none : (l : List A) → every (λ x. not (p x)) l ≡ true → keep p l ≡ []
  unfolding keep every
  keep-none [] h = refl
  keep-none (x ∷ l) h =
      let e = both (not (p x)) _ h in
      rw (not-true (p x) e.0, keep-none l e.1)

  pub keep-passes : (l : List A) → every p (keep p l) ≡ true
  unfolding keep every
  keep-passes [] = refl
  keep-passes (x ∷ l) = go (p x) refl (keep-passes l)
    where
      go : (t : Bool) → p x ≡ t → every p (keep p l) ≡ true → every p (keep_if t x (keep p l)) ≡ true
      go true q h = rw (q, h)
      go false q h = h

  pub keep-few : (l : List A) → length (keep p l) ≤ length l
  unfolding keep
  keep-few [] = omega arith
  keep-few (x ∷ l) = go (p x) (keep-few l)
    where
      go : (t : Bool) → length (keep p l) ≤ length l → length (keep_if t x (keep p l)) ≤ suc (length l)
      go true h = omega arith
      go false h = omega arith

  -- what each of a list passes, each of a part passes
  pub every-keep : (q : A → Bool) (l : List A) → every q l ≡ true → every q (keep p l) ≡ true
  unfolding keep every
  every-keep q [] h = refl
  every-keep q (x ∷ l) h = let e = both (q x) _ h in go (p x) e.0 (every-keep q l e.1)
    where
      go : (t : Bool) → q x ≡ true → every q (keep p l) ≡ true → every q (keep_if t x (keep p l)) ≡ true
      go true e h = rw (e, h)
      go false e h = h

  pub every_take : (k : ℕ) (l : List A) → every p l ≡ true → every p (take k l) ≡ true
  unfolding every
  every_take zero l h = refl
  every_take (suc k) [] h = refl
  every_take (suc k) (x ∷ l) h = let e = both (p x) _ h in rw (e.0, every_take k l e.1)

  pub every_drop : (k : ℕ) (l : List A) → every p l ≡ true → every p (drop k l) ≡ true
  unfolding every
  every_drop zero l h = h
  every_drop (suc k) [] h = refl
  every_drop (suc k) (x ∷ l) h = every_drop k l (both (p x) _ h).1

  -- a test that is no stronger
  pub every-weaker : (q : A → Bool) → ((x : A) → p x ≡ true → q x ≡ true) → (l : List A) → every p l ≡ true → every q l ≡ true
  unfolding every
  every-weaker q w [] h = refl
  every-weaker q w (x ∷ l) h = let e = both (p x) _ h in rw (w x e.0, every-weaker q w l e.1)

  -- each passes where it stands
  pub every-each : (l : List A) (d : A) → ((i : ℕ) → i < length l → p (get_or l i d) ≡ true) → every p l ≡ true
  unfolding every
  every-each [] d e = refl
  every-each (x ∷ l) d e = rw (e 0 (omega arith), every-each l d (λ i h. e (suc i) (omega arith)))

-- ---- numbers in a row
pub length-counting : (i k : ℕ) → length (counting i k) ≡ k
unfolding counting
length-counting i zero = refl
length-counting i (suc k) = ap suc (length-counting (suc i) k)

pub counting-at : (i k j : ℕ) → j < k → get_or (counting i k) j 0 ≡ i + j
unfolding counting
counting-at i zero j h = absurd (omega arith)
counting-at i (suc k) zero h = omega arith
counting-at i (suc k) (suc j) h = omega (arith, counting-at (suc i) k j (omega arith))

pub counting_more : (i k : ℕ) → counting i (k + 1) ≡ counting i k ++ (i + k) ∷ []
unfolding counting
counting_more i zero = ap {B = List ℕ} (λ x. x ∷ []) (omega arith)
counting_more i (suc k) =
    let e : suc k + 1 ≡ suc (k + 1) = omega arith in
    let f : suc i + k ≡ i + suc k = omega arith in
    rw (e, counting_more (suc i) k, f)

pub counting-take : (i j k : ℕ) → j ≤ k → take j (counting i k) ≡ counting i j
unfolding counting
counting-take i zero k h = refl
counting-take i (suc j) zero h = absurd (omega arith)
counting-take i (suc j) (suc k) h = ap (λ (l : List ℕ). i ∷ l) (counting-take (suc i) j k (omega arith))

pub counting-drop : (i j k : ℕ) → drop j (counting i k) ≡ counting (i + j) (k - j)
unfolding counting
counting-drop i zero k = let e : k - 0 ≡ k = omega arith in rw (add-zero, e)
counting-drop i (suc j) zero = let e : 0 - suc j ≡ 0 = omega arith in rw e
counting-drop i (suc j) (suc k) =
    let e : suc i + j ≡ i + suc j = omega arith in
    let f : suc k - suc j ≡ k - j = omega arith in
    counting-drop (suc i) j k ∙ rw (e, f)

pub map-take : {A B : Type 0} (f : A → B) (k : ℕ) (l : List A) → map f (take k l) ≡ take k (map f l)
map-take f zero l = refl
map-take f (suc k) [] = refl
map-take {B} f (suc k) (x ∷ l) = ap (λ (r : List B). f x ∷ r) (map-take f k l)

pub map-drop : {A B : Type 0} (f : A → B) (k : ℕ) (l : List A) → map f (drop k l) ≡ drop k (map f l)
map-drop f zero l = refl
map-drop f (suc k) [] = refl
map-drop f (suc k) (x ∷ l) = map-drop f k l

-- ---- one of a list
pub map_at :
    {A B : Type 0} (f : A → B) (l : List A) (i : ℕ) (d : B) (e : A)
    → i < length l
    → get_or (map f l) i d ≡ f (get_or l i e)
map_at f [] i d e h = absurd (omega arith)
map_at f (x ∷ l) zero d e h = refl
map_at f (x ∷ l) (suc i) d e h = map_at f l i d e (omega arith)

-- ---- tests over a run of numbers
module _ {A : Type 0} (p : A → Bool) (f : ℕ → A) where
  -- if every number of the run passes, each does
  pub every-counting : (a k : ℕ) → every p (map f (counting a k)) ≡ true → (j : ℕ) → a ≤ j → j < a + k → p (f j) ≡ true
  unfolding every counting
  every-counting a zero e j h l = absurd (omega arith)
  every-counting a (suc k) e j h l = go (every-counting (suc a) k (both (p (f a)) _ e).1 j) (ltb a j) refl
    where
      go : (suc a ≤ j → j < suc a + k → p (f j) ≡ true) → (t : Bool) → ltb a j ≡ t → p (f j) ≡ true
      go rest true q = rest (ltb-true a j q) (omega arith)
      go rest false q =
          let m = ltb-false a j q in
          let s : j ≡ a = omega arith in
          rw s (both (p (f a)) _ e).0

  -- and the other way round
  pub counting-every : (a k : ℕ) → ((j : ℕ) → a ≤ j → j < a + k → p (f j) ≡ true) → every p (map f (counting a k)) ≡ true
  unfolding every counting
  counting-every a zero h = refl
  counting-every a (suc k) h =
      rw (h a (omega arith) (omega arith)) (counting-every (suc a) k (λ j l m. h j (omega arith) (omega arith)))
