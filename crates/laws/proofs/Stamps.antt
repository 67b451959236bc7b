-- The vector that writes give is the T of a well formed record.
-- Assumes nothing.
use Prim.Native.Nat.{ℕ, ◌+◌, ◌≤◌}
use mathlib.Core.Bool.{Bool, true, false, not}
use mathlib.Core.List.{List, []}
use mathlib.Core.Path.{◌≡◌, refl, ap, ◌∙◌}
use native.Mathlib.Omega.{arith}
use borrow.Author.Tests.{ltb-true, ltb-false, eq-eqb, ne_eqb, le-leb}
use lib.Dec.{ltb, leb, eqb}
use lib.ListN.{length, get_or, drop, get_or-eq_default}
use lib.Seq.{get_or-drop}
use Rattle.notes.specs.Lists.{every}
use Rattle.notes.specs.Index.{servers}
use Rattle.notes.specs.Vector.{zero_from}
use Rattle.notes.specs.Record.{number_most, stamp_ok}
use Rattle.notes.specs.declared.record.Record.{Record}
use Rattle.rules.specs.Writes.{server, writes_of, tally}
use Rattle.laws.proofs.Lists.{keep-none, every-weaker, every-each}
use Rattle.laws.proofs.Writes.{length-tally, at-tally, count_of-few}

-- origins below n
abbrev pub low : ℕ → Record → Bool
low n r = ltb r.origin.0 n

-- each position is a count of some of the writes, and zero past the origins
module _ (rs : List Record) where
  pub at-few : (i : ℕ) → get_or (tally rs).counts i 0 ≤ length rs
  at-few i = go (ltb i servers) refl
    where
      go : (t : Bool) → ltb i servers ≡ t → get_or (tally rs).counts i 0 ≤ length rs
      go true e = rw (at-tally rs (server i) (ltb-true i servers e)) (count_of-few (server i) rs)
      go false e =
          rw (get_or-eq_default (tally rs).counts 0 {n = i} (rw length-tally (ltb-false i servers e))) (omega arith)

  past-none : (n : ℕ) → every (low n) rs ≡ true → (i : ℕ) → n ≤ i → writes_of (server i) rs ≡ []
  unfolding writes_of
  past-none n h i k =
      keep-none (λ (r : Record). eqb r.origin.0 i) rs
      (every-weaker (low n) (λ r. not (eqb r.origin.0 i))
      (λ r e. let l = ltb-true r.origin.0 n e in rw (ne_eqb r.origin.0 i (λ q. omega arith)))
      rs
      h)

  past-zero : (n : ℕ) → every (low n) rs ≡ true → (i : ℕ) → n ≤ i → get_or (tally rs).counts i 0 ≡ 0
  past-zero n h i k = go (ltb i servers) refl
    where
      go : (t : Bool) → ltb i servers ≡ t → get_or (tally rs).counts i 0 ≡ 0
      go true e = at-tally rs (server i) (ltb-true i servers e) ∙ ap length (past-none n h i k)
      go false e = get_or-eq_default (tally rs).counts 0 {n = i} (rw length-tally (ltb-false i servers e))

  pub tally-stamp : (n : ℕ) → every (low n) rs ≡ true → length rs ≤ number_most → stamp_ok n (tally rs) ≡ true
  unfolding stamp_ok zero_from
  tally-stamp n h few =
      rw (every-each (λ x. leb x number_most) (tally rs).counts 0 (λ i k. le-leb (get_or (tally rs).counts i 0) number_most (omega (arith, at-few i))))
      (every-each (λ x. eqb x 0) (drop n (tally rs).counts) 0
      (λ i k. rw (get_or-drop n (tally rs).counts i 0) (eq-eqb _ 0 (past-zero n h (n + i) (omega arith)))))
