-- Laws of loops that compare: a run of own records, one more, and the end; the first and the last of some writes.
-- Assumes nothing.
use Prim.Native.Nat.{ℕ, suc, ◌+◌, ◌-◌, ◌≤◌, ◌<◌}
use mathlib.Core.Bool.{Bool, true, false, ◌&&◌, and-false, and_assoc}
use mathlib.Core.List.{List, [], ◌∷◌, ◌++◌, append-nil, map}
use mathlib.Core.Path.{◌≡◌, refl, ap, sym, ◌∙◌}
use native.Mathlib.Numerals.{add-one}
use native.Mathlib.Omega.{arith}
use borrow.Author.Tests.{eq-eqb, ne_eqb}
use lib.Dec.{eqb}
use lib.ListN.{length, get_or, drop, length-append}
use lib.Seq.{drop-append-le, drop-nil, drop-length}
use Rattle.notes.specs.Record.{decode, number, well_formed}
use Rattle.notes.specs.declared.index.ServerId.{ServerId}
use Rattle.notes.specs.declared.record.Record.{Record}
use Rattle.notes.proofs.Numbers.{from_one}
use Rattle.rules.specs.Writes.{keep, writes_of, same_records}
use Rattle.rules.specs.Sound.{is_last}
use Rattle.laws.proofs.Writes.{writes_of-append, writes_of-here, writes_of-other}
use Rattle.memory.specs.Forms.{own_run}
use Rattle.memory.proofs.Listed.{listed-rest, listed-done, listed-push}
use Rattle.memory.proofs.Walks.{this, origin, origin-at}

-- ---- a run of own records
module _ (n : ℕ) (own : ServerId) (b : List (List ℕ)) where
  module _ (i : ℕ) (h : i < length b) where
    module _ (k : ℕ) where
      pub run-unformed : well_formed n (this n b i) ≡ false → own_run n own k (drop i (map decode b)) ≡ false
      unfolding own_run
      run-unformed e = rw (listed-rest b i h [], e)

      pub run-other : (origin n b i ≡ own.0 → ⊥) → own_run n own k (drop i (map decode b)) ≡ false
      unfolding own_run
      run-other e =
          rw (listed-rest b i h [], ne_eqb (this n b i).origin.0 own.0 (λ q. e (sym (origin-at n b i) ∙ q)), and-false)

      pub run-unnumbered : (number (this n b i) ≡ k + 1 → ⊥) → own_run n own k (drop i (map decode b)) ≡ false
      unfolding own_run
      run-unnumbered e = rw (listed-rest b i h [], ne_eqb (number (this n b i)) (k + 1) e, and-false)

      pub run_more :
          well_formed n (this n b i) ≡ true
          → origin n b i ≡ own.0
          → number (this n b i) ≡ k + 1
          → own_run n own k (drop i (map decode b)) ≡ own_run n own (k + 1) (drop (i + 1) (map decode b))
      unfolding own_run
      run_more w o e =
          rw (
            listed-rest b i h [],
            w,
            eq-eqb (this n b i).origin.0 own.0 (origin-at n b i ∙ o),
            eq-eqb (number (this n b i)) (k + 1) e,
          )
          (ap (λ (z : ℕ). own_run n own z (drop (i + 1) (map decode b))) (sym (add-one k)))

  pub run-all : (i k : ℕ) → length b ≤ i → own_run n own k (drop i (map decode b)) ≡ true
  unfolding own_run
  run-all i k h = rw (listed-done b i h)

-- ---- the last of some writes, from the end backwards
same_end : (a b : List Record) (x y : Record) → same_records (a ++ x ∷ []) (b ++ y ∷ []) ≡ (same_records a b && same_records (x ∷ []) (y ∷ []))
unfolding same_records
same_end [] [] x y = refl
same_end [] (z ∷ b) x y = rw (longer b, and-false)
  where
    longer : (b : List Record) → same_records [] (b ++ y ∷ []) ≡ false
    longer [] = refl
    longer (z ∷ b) = refl
same_end (w ∷ a) [] x y = rw (longer a, and-false)
  where
    longer : (a : List Record) → same_records (a ++ x ∷ []) [] ≡ false
    longer [] = refl
    longer (z ∷ a) = refl
same_end (w ∷ a) (z ∷ b) x y = rw (same_end a b x y, and_assoc)

-- one more on both sides
last-both : (a b : List Record) (x y : Record) → is_last (a ++ x ∷ []) (b ++ y ∷ []) ≡ (is_last a b && same_records (x ∷ []) (y ∷ []))
unfolding is_last
last-both a b x y =
    let e : length b + 1 - (length a + 1) ≡ length b - length a = omega arith in
    let l : length b - length a ≤ length b = omega arith in
    rw (length-append, length-append, e, drop-append-le (length b - length a) b (y ∷ []) l)
    (same_end a (drop (length b - length a) b) x y)

last_none : (b : List Record) → is_last [] b ≡ true
unfolding is_last same_records
last_none b = let e : length b - 0 ≡ length b = omega arith in rw (e, drop-length b)

none_last : (x : Record) (a : List Record) → is_last (x ∷ a) [] ≡ false
unfolding is_last same_records
none_last x a = rw (drop-nil (0 - suc (length a)))

-- whether the records of a log are the last of the own writes of a history
abbrev pub Last : ServerId → List (List ℕ) → List (List ℕ) → Bool
Last own log history = is_last (map decode log) (writes_of own (map decode history))

module _ (own : ServerId) where
  -- none is left to compare
  pub left-none : (log history : List (List ℕ)) → length log ≡ 0 → Last own log history ≡ true
  left-none [] history e = last_none (writes_of own (map decode history))
  left-none (x ∷ log) history e = absurd (omega arith)

  -- or none to compare with
  pub none_held : (log history : List (List ℕ)) → length history ≡ 0 → Last own log history ≡ eqb (length log) 0
  unfolding writes_of keep
  none_held [] [] e = last_none []
  none_held (y ∷ log) [] e = none_last (decode y) (map decode log) ∙ sym (ne_eqb (suc (length log)) 0 (λ q. omega arith))
  none_held log (x ∷ history) e = absurd (omega arith)

-- one more of the history
module _ (own : ServerId) (log history : List (List ℕ)) (x : List ℕ) where
  -- a write of another origin is passed
  pub left_other : (get_or x 0 0 ≡ own.0 → ⊥) → Last own log (history ++ x ∷ []) ≡ Last own log history
  unfolding decode
  left_other e =
      rw (
        listed-push history x,
        writes_of-append own (map decode history) (decode x ∷ []),
        writes_of-other own (decode x) (λ q. e (sym (from_one 0 x) ∙ q)),
        append-nil,
      )

  -- an own write is compared
  pub left-own :
      (y : List ℕ)
      → get_or x 0 0 ≡ own.0
      → Last own (log ++ y ∷ []) (history ++ x ∷ []) ≡ (Last own log history && same_records (decode y ∷ []) (decode x ∷ []))
  unfolding decode
  left-own y e =
      rw (
        listed-push history x,
        listed-push log y,
        writes_of-append own (map decode history) (decode x ∷ []),
        writes_of-here own (decode x) (from_one 0 x ∙ e),
        last-both (map decode log) (writes_of own (map decode history)) (decode y) (decode x),
      )
