-- An up state is consistent exactly where the tests of it pass.
-- Assumes nothing.
use Prim.Native.Nat.{◌+◌, ◌<◌}
use mathlib.Core.Bool.{true}
use mathlib.Core.List.{List}
use mathlib.Core.Path.{◌≡◌, ap, sym, ◌∙◌}
use native.Mathlib.Omega.{arith}
use borrow.Author.Tests.{leb-true, le-leb, eqb-true, eq-eqb}
use lib.Dec.{leb, eqb}
use lib.ListN.{length, take}
use Rattle.notes.specs.Lists.{every, same}
use Rattle.notes.specs.Index.{servers}
use Rattle.notes.specs.Vector.{vector, at}
use Rattle.notes.specs.Record.{well_formed}
use Rattle.notes.specs.Message.{history_most}
use Rattle.notes.specs.declared.record.Record.{Record}
use Rattle.notes.specs.declared.vector.Vector.{Vector}
use Rattle.notes.proofs.Lists.{both, same_refl, same_true}
use Rattle.rules.specs.declared.state.State.{State}
use Rattle.rules.specs.Writes.{writes_of, count_of, tally, in_turn, same_records}
use Rattle.rules.specs.Sound.{v_counts, is_first, last, is_last, reads_ok, consistent}
use Rattle.laws.proofs.Writes.{in-turn, turn_in, same-records, records-same, at-tally, count_of-parts}
use Rattle.laws.proofs.Sound.{Facts, facts, facts-ok, kept-few, own-count}
use Rattle.memory.specs.Forms.{tail, history_test, image_test, up_test}
use Rattle.memory.proofs.Same.{same_truth}

module _ (s : State) (h c l : List Record) where
  -- where the checkpoint is the first of the history, the own writes are the checkpoint's and the tail's
  own-parts : c ≡ take (length c) h → count_of s.own h ≡ count_of s.own c + tail s.own c h
  own-parts e = count_of-parts s.own (length c) h ∙ rw (← e)

  module _ (own : s.own.0 < servers) where
    passes : Facts s h c l → up_test s h c l ≡ true
    unfolding up_test history_test image_test v_counts is_first is_last
    passes f =
        let parts = own-parts f.first in
        rw (
          le-leb s.held history_most f.few,
          f.formed,
          turn_in h f.turns,
          ap (λ (v : Vector). same v.counts (tally h).counts) f.counts ∙ same_refl (tally h).counts,
          le-leb (length c) (length h) (kept-few s h c l f),
          ap (same_records c) (sym f.first) ∙ records-same c,
          le-leb (tail s.own c h) (length l) (omega (arith, f.before)),
          eq-eqb s.nwrites (tail s.own c h) (omega (arith, f.writes, own-count s h c l f own)),
          ap (same_records l) (sym f.last) ∙ records-same l,
          f.reads,
        )

    says : up_test s h c l ≡ true → Facts s h c l
    unfolding up_test history_test image_test v_counts is_first is_last
    says e =
        let x1 = both _ (reads_ok s) e in
        let y = both (history_test s h) (image_test s h c l) x1.0 in
        let x2 = both _ (is_last l (writes_of s.own h)) y.1 in
        let x3 = both _ (eqb s.nwrites (tail s.own c h)) x2.0 in
        let x4 = both _ (leb (tail s.own c h) (length l)) x3.0 in
        let x5 = both (leb (length c) (length h)) (is_first c h) x4.0 in
        let x7 = both (leb s.held history_most) _ y.0 in
        let x8 = both _ (v_counts s h) x7.1 in
        let x9 = both (every (well_formed s.n) h) (in_turn h) x8.0 in
        let first : c ≡ take (length c) h = same-records c (take (length c) h) x5.1 in
        let counts : s.vector ≡ tally h = ap vector (same_true s.vector.counts (tally h).counts x8.1) in
        let parts = own-parts first in
        record {
          few = leb-true s.held history_most x7.0;
          formed = x9.0;
          turns = in-turn h x9.1;
          counts = counts;
          first = first;
          last = same-records l (last (length l) (writes_of s.own h)) x2.1;
          before = omega (arith, leb-true (tail s.own c h) (length l) x4.1);
          writes =
              omega (
                arith,
                eqb-true s.nwrites (tail s.own c h) x3.1,
                ap (λ (v : Vector). at v s.own) counts ∙ at-tally h s.own own,
              );
          reads = x1.1;
        }

    pub up-test : consistent s h c l ≡ up_test s h c l
    up-test =
        same_truth (consistent s h c l) (up_test s h c l) (λ e. passes (facts s h c l e)) (λ e. facts-ok s h c l (says e))
