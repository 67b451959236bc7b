-- Laws of lists that begin with others, of what stands in a list, and of a function changed at one number.
-- Assumes nothing.
use Prim.Native.Nat.{ℕ, zero, suc, ◌≤◌}
use mathlib.Core.Bool.{Bool, true, false}
use mathlib.Core.List.Memᴰ
use mathlib.Core.List.{List, [], ◌∷◌, ◌++◌, append_assoc, append-nil, Memᴰ, head-eq_of_cons-eq, tail-eq_of_cons-eq}
use mathlib.Core.Logic.{◌⊎◌, inl, inr}
use mathlib.Core.Option.{some, none-ne-some, some-injective}
use mathlib.Core.Path.{◌≡◌, refl, ap, sym, subst, ◌∙◌}
use native.Mathlib.Decide.{ℕ_discrete}
use native.Mathlib.Omega.{arith}
use borrow.Author.Tests.{eq-eqb, ne_eqb}
use lib.ListN.{length, take, drop, get_elem?, length-append, take-append-drop}
use Rattle.notes.specs.Lists.{every}
use Rattle.notes.proofs.Lists.{both}
use Rattle.notes.proofs.Pieces.{Each}
use Rattle.rules.specs.Writes.{keep, keep_if}
use Rattle.laws.proofs.Lists.{keep_append}
use Rattle.farm.specs.Farm.{changed}

module _ {A : Type 0} where
  -- `a` is the beginning of `b`
  abbrev pub Pre : List A → List A → Type 0
  Pre a b = (t : List A) × (a ++ t ≡ b)

  pub append-parts : (a b s t : List A) → length a ≡ length b → a ++ s ≡ b ++ t → (a ≡ b) × (s ≡ t)
  append-parts [] [] s t h e = (refl, e)
  append-parts [] (y ∷ ys) s t h e = absurd (omega arith)
  append-parts (x ∷ xs) [] s t h e = absurd (omega arith)
  append-parts (x ∷ xs) (y ∷ ys) s t h e =
      let r = append-parts xs ys s t (omega arith) (tail-eq_of_cons-eq e) in
      (λ i. head-eq_of_cons-eq e i ∷ r.0 i, r.1)

  pub pre-refl : (a : List A) → Pre a a
  pre-refl a = ([], append-nil a)

  pub pre-append : (a b : List A) → Pre a (a ++ b)
  pre-append a b = (b, refl)

  pub pre-take : (k : ℕ) (a : List A) → Pre (take k a) a
  pre-take k a = (drop k a, take-append-drop k a)

  pub pre-trans : (a b c : List A) → Pre a b → Pre b c → Pre a c
  pre-trans a b c p q =
      (p.0 ++ q.0, sym (append_assoc a p.0 q.0) ∙ ap (λ (l : List A). l ++ q.0) p.1 ∙ q.1)

  pub pre-length : (a b : List A) → Pre a b → length a ≤ length b
  pre-length a b p = omega (arith, ap length p.1, length-append a p.0)

  -- of two beginnings of one list the shorter is a beginning of the other
  pub pre-pre : (a b c : List A) → Pre a c → Pre b c → length a ≤ length b → Pre a b
  pre-pre [] b c p q h = (b, refl)
  pre-pre (x ∷ xs) [] c p q h = absurd (omega arith)
  pre-pre (x ∷ xs) (y ∷ ys) [] p q h = absurd (omega (arith, ap length p.1))
  pre-pre (x ∷ xs) (y ∷ ys) (z ∷ zs) p q h =
      let r = pre-pre xs ys zs (p.0, tail-eq_of_cons-eq p.1) (q.0, tail-eq_of_cons-eq q.1) (omega arith) in
      (r.0, λ i. (head-eq_of_cons-eq p.1 ∙ sym (head-eq_of_cons-eq q.1)) i ∷ r.1 i)

  -- one element more, where the longer list has it next
  pub pre-more : (a p q c : List A) (x : A) → Pre a c → p ++ x ∷ q ≡ c → length p ≡ length a → Pre (a ++ x ∷ []) c
  pre-more a p q c x h e l =
      (q, append_assoc a (x ∷ []) q ∙ ap (λ (z : List A). z ++ x ∷ q) (sym (append-parts p a (x ∷ q) h.0 l (e ∙ sym h.1)).0) ∙ e)

  pub pre-mem : (a b : List A) {x : A} → Pre a b → Memᴰ x a → Memᴰ x b
  pre-mem a b {x} p m = subst (Memᴰ x) p.1 (Memᴰ.append_left p.0 m)

  -- ---- what each element has
  pub each-mem : (P : A → Type 0) (l : List A) {x : A} → Each P l → Memᴰ x l → P x
  each-mem P [] h m = elim m [ ]
  each-mem P (y ∷ ys) h m = elim (Memᴰ.cases_cons m) [ inl e ↦ subst P (sym e) h.0 | inr r ↦ each-mem P ys h.1 r ]

  pub mem-each : (P : A → Type 0) (l : List A) → ((x : A) → Memᴰ x l → P x) → Each P l
  mem-each P [] f = tt
  mem-each P (x ∷ xs) f = (f x (Memᴰ.head refl), mem-each P xs (λ y m. f y (Memᴰ.tail m)))

  pub at_mem : (l : List A) (k : ℕ) (x : A) → get_elem? l k ≡ some x → Memᴰ x l
  at_mem [] k x e = absurd (none-ne-some x e)
  at_mem (y ∷ ys) zero x e = Memᴰ.head (sym (some-injective y x e))
  at_mem (y ∷ ys) (suc k) x e = Memᴰ.tail (at_mem ys k x e)

  -- ---- those that pass a test
  pub every-mem : (p : A → Bool) (l : List A) {x : A} → every p l ≡ true → Memᴰ x l → p x ≡ true
  unfolding every
  every-mem p [] h m = elim m [ ]
  every-mem p (y ∷ ys) h m =
      let b = both (p y) (every p ys) h in
      elim (Memᴰ.cases_cons m) [ inl e ↦ ap p e ∙ b.0 | inr r ↦ every-mem p ys b.1 r ]

  pub pre-keep : (p : A → Bool) (a b : List A) → Pre a b → Pre (keep p a) (keep p b)
  pre-keep p a b h = (keep p h.0, sym (keep_append p a h.0) ∙ ap (keep p) h.1)

  pub mem-keep : (p : A → Bool) (l : List A) {x : A} → p x ≡ true → Memᴰ x l → Memᴰ x (keep p l)
  unfolding keep
  mem-keep p [] h m = elim m [ ]
  mem-keep p (y ∷ ys) {x} h m =
      elim (Memᴰ.cases_cons m) [ inl e ↦ rw (ap p (sym e) ∙ h) (Memᴰ.head e) | inr r ↦ go (p y) (mem-keep p ys h r) ]
    where
      go : (t : Bool) → Memᴰ x (keep p ys) → Memᴰ x (keep_if t y (keep p ys))
      go true r = Memᴰ.tail r
      go false r = r

  abbrev Rest : (A → Bool) → List A → A → Type 0
  Rest p l x = Memᴰ x (keep p l) → Memᴰ x l × (p x ≡ true)

  pub keep-mem : (p : A → Bool) (l : List A) {x : A} → Memᴰ x (keep p l) → Memᴰ x l × (p x ≡ true)
  unfolding keep
  keep-mem p [] m = elim m [ ]
  keep-mem p (y ∷ ys) {x} m = go (p y) refl (λ r. keep-mem p ys r) m
    where
      later : Rest p ys x → Memᴰ x (keep p ys) → Memᴰ x (y ∷ ys) × (p x ≡ true)
      later f r = let k = f r in (Memᴰ.tail k.0, k.1)

      either : p y ≡ true → Rest p ys x → (x ≡ y) ⊎ Memᴰ x (keep p ys) → Memᴰ x (y ∷ ys) × (p x ≡ true)
      either e f (inl q) = (Memᴰ.head q, ap p q ∙ e)
      either e f (inr r) = later f r

      go : (t : Bool) → p y ≡ t → Rest p ys x → Memᴰ x (keep_if t y (keep p ys)) → Memᴰ x (y ∷ ys) × (p x ≡ true)
      go true e f r = either e f (Memᴰ.cases_cons r)
      go false e f r = later f r

  -- ---- another value at a number
  pub changed-same : (f : ℕ → A) (k : ℕ) (a : A) → changed f k a k ≡ a
  changed-same f k a = rw (eq-eqb k k refl)

  pub changed-other : (f : ℕ → A) (k : ℕ) (a : A) (i : ℕ) → (i ≡ k → ⊥) → changed f k a i ≡ f i
  changed-other f k a i n = rw (ne_eqb i k n)

  pub changed-each : (P : ℕ → A → Type 0) (f : ℕ → A) (k : ℕ) (a : A) → ((i : ℕ) → (i ≡ k → ⊥) → P i (f i)) → P k a → (i : ℕ) → P i (changed f k a i)
  changed-each P f k a h p i = go (ℕ_discrete i k)
    where
      go : Dec (i ≡ k) → P i (changed f k a i)
      go (yes e) = subst (λ (n : ℕ). P n (changed f k a n)) (sym e) (rw (changed-same f k a) p)
      go (no n) = rw (changed-other f k a i n) (h i n)
