-- What a consistent state says, sentence by sentence, and what each step makes of it.
-- Assumes nothing.
use Prim.Native.Nat.{ℕ, suc, ◌+◌, ◌-◌, ◌<◌, ◌≤◌}
use mathlib.Core.Bool.{Bool, true, false, ◌&&◌, cond, false≢true}
use mathlib.Core.List.{List, [], ◌∷◌, ◌++◌, map, append_assoc, append-nil}
use mathlib.Core.Option.{none, some-ne-none}
use mathlib.Core.Path.{◌≡◌, refl, ap, sym, ◌∙◌, subst}
use native.Mathlib.Decide.{ℕ_discrete}
use native.Mathlib.Nat.{add-zero, zero-add}
use native.Mathlib.Omega.{arith}
use borrow.Author.Tests.{leb-true, le-leb, eqb-true, eqb-false, eq-eqb}
use lib.Dec.{leb, ltb, eqb}
use lib.ListN.{length, take, drop, length-append, length-take, length-drop, take-append-drop}
use lib.Seq.{take-append-le, drop-append-le, take-length, drop-length, take-append_seam, drop-drop}
use Rattle.notes.specs.Lists.{every, same}
use Rattle.notes.specs.Index.{servers}
use Rattle.notes.specs.Vector.{vector, at, raised}
use Rattle.notes.specs.Record.{number, in_range, well_formed}
use Rattle.notes.specs.Message.{history_most}
use Rattle.notes.specs.declared.index.PhoneId.{PhoneId}
use Rattle.notes.specs.declared.index.ServerId.{ServerId}
use Rattle.notes.specs.declared.record.Record.{Record}
use Rattle.notes.specs.declared.vector.Vector.{Vector}
use Rattle.notes.proofs.Lists.{both, every_append, same_refl, same_true}
use Rattle.notes.proofs.Records.{origin-below}
use Rattle.rules.specs.declared.answer.Refusal.TheVariants.{Gap, OwnAhead}
use Rattle.rules.specs.declared.event.Request.{Request}
use Rattle.rules.specs.declared.event.Request.TheVariants.{Read, Write}
use Rattle.rules.specs.declared.state.ReadTable.{ReadTable}
use Rattle.rules.specs.declared.state.State.{State}
use Rattle.rules.specs.Writes.{keep, counting, writes_of, count_of, tally, in_turn, same_records}
use Rattle.rules.specs.Memory.{with_phone, in_cr, rw_with, holding, noting}
use Rattle.rules.specs.Sound.{later, recovered, raised_by, recovered_vector, recovered_state, v_counts, is_first, last, is_last, holds_before, writes_ok, reads_ok, consistent}
use Rattle.rules.specs.Request.{new_vector, cleared, noted}
use Rattle.rules.specs.Step.{Turn, skipped, appended, refuses, at_turn, vector_after, Taken, and_then, taken}
use Rattle.laws.proofs.Lists.{every_take, every_drop, every-keep, keep-passes}
use Rattle.laws.proofs.Writes.{InTurn, in-turn, turn_in, turn_more, same-records, records-same, at-tally, tally-more, count_of-take, writes_of-append, writes_of-here, writes_of-other, writes_of-take, writes_of-all, writes_of-none, count_of-parts, count_of-few, From, from-above, from-drop, raised-by, turn-first, same-server}

-- ---- the sentences

pub record Facts (s : State) (h c l : List Record) : Type 0 where
  pub few : s.held ≤ history_most
  pub formed : every (well_formed s.n) h ≡ true
  pub turns : InTurn h
  pub counts : s.vector ≡ tally h
  pub first : c ≡ take (length c) h
  pub last : l ≡ Rattle.rules.specs.Sound.last (length l) (writes_of s.own h)
  pub before : count_of s.own h - length l ≤ count_of s.own c
  pub writes : s.nwrites ≡ at s.vector s.own - count_of s.own c
  pub reads : reads_ok s ≡ true

module _ (s : State) (h c l : List Record) where
  pub facts : consistent s h c l ≡ true → Facts s h c l
  unfolding consistent v_counts is_first is_last holds_before writes_ok
  facts e =
      let x1 = both _ (reads_ok s) e in
      let x2 = both _ (writes_ok s c) x1.0 in
      let x3 = both _ (holds_before s.own c l h) x2.0 in
      let x4 = both _ (is_last l (writes_of s.own h)) x3.0 in
      let x5 = both _ (is_first c h) x4.0 in
      let x6 = both _ (v_counts s h) x5.0 in
      let x7 = both _ (in_turn h) x6.0 in
      let x8 = both (leb s.held history_most) (every (well_formed s.n) h) x7.0 in
      record {
        few = leb-true s.held history_most x8.0;
        formed = x8.1;
        turns = in-turn h x7.1;
        counts = ap vector (same_true s.vector.counts (tally h).counts x6.1);
        first = same-records c (take (length c) h) x5.1;
        last = same-records l (last (length l) (writes_of s.own h)) x4.1;
        before = leb-true (count_of s.own h - length l) (count_of s.own c) x3.1;
        writes = eqb-true s.nwrites (at s.vector s.own - count_of s.own c) x2.1;
        reads = x1.1;
      }

  pub facts-ok : Facts s h c l → consistent s h c l ≡ true
  unfolding consistent v_counts is_first is_last holds_before writes_ok
  facts-ok f =
      rw (
        le-leb s.held history_most f.few,
        f.formed,
        turn_in h f.turns,
        ap (λ (v : Vector). same v.counts (tally h).counts) f.counts ∙ same_refl (tally h).counts,
        ap (same_records c) (sym f.first) ∙ records-same c,
        ap (same_records l) (sym f.last) ∙ records-same l,
        le-leb (count_of s.own h - length l) (count_of s.own c) f.before,
        eq-eqb s.nwrites (at s.vector s.own - count_of s.own c) f.writes,
        f.reads,
      )

-- ---- what follows from them
module _ (s : State) (h c l : List Record) (f : Facts s h c l) where
  -- the checkpoint holds no more than the history, of each origin too
  pub kept-few : length c ≤ length h
  kept-few = omega (arith, ap length f.first, length-take (length c) h)

  pub kept-own : (o : ServerId) → count_of o c ≤ count_of o h
  kept-own o = omega (arith, ap (count_of o) f.first, count_of-take o (length c) h)

  module _ (own : s.own.0 < servers) where
    pub own-count : at s.vector s.own ≡ count_of s.own h
    own-count = ap (λ (v : Vector). at v s.own) f.counts ∙ at-tally h s.own own

    -- ---- a write of its own, at its turn
    pub new-vector : (r : Record) → r.origin ≡ s.own → new_vector s ≡ tally (h ++ r ∷ [])
    unfolding new_vector
    new-vector r o =
        ap (λ (k : ℕ). raised s.vector s.own (k + 1)) own-count
        ∙ ap (λ (v : Vector). raised v s.own (count_of s.own h + 1)) f.counts
        ∙ ap (λ (o : ServerId). raised (tally h) o (count_of o h + 1)) (sym o)
        ∙ sym (tally-more h r (rw o own))

    pub wrote :
        (r : Record)
        → r.origin ≡ s.own
        → number r ≡ count_of s.own h + 1
        → well_formed s.n r ≡ true
        → s.held < history_most
        → reads_ok (noting s.cr s.rw (s.nwrites + 1) (holding (s.held + 1) (new_vector s) s)) ≡ true
        → Facts (noting s.cr s.rw (s.nwrites + 1) (holding (s.held + 1) (new_vector s) s)) (h ++ r ∷ []) c (l ++ r ∷ [])
    unfolding every
    wrote r o n w few reads =
        record {
          few = omega arith;
          formed = rw (every_append (well_formed s.n) h (r ∷ []), f.formed, w);
          turns = turn_more h r f.turns (rw (ap (λ (o : ServerId). count_of o h) o) n);
          counts = new-vector r o;
          first = f.first ∙ sym (take-append-le (length c) h (r ∷ []) kept-few);
          last = logs;
          before = omega (arith, count, length-append l (r ∷ []), f.before);
          writes =
              omega (
                arith,
                ap (λ (v : Vector). at v s.own) (new-vector r o) ∙ at-tally (h ++ r ∷ []) s.own own,
                count,
                f.writes,
                own-count,
                kept-own s.own,
              );
          reads = reads;
        }
      where
        mine : writes_of s.own (h ++ r ∷ []) ≡ writes_of s.own h ++ r ∷ []
        mine =
            writes_of-append s.own h (r ∷ [])
            ∙ ap (λ (l : List Record). writes_of s.own h ++ l) (writes_of-here s.own r (ap (λ (o : ServerId). o.0) o))

        count : count_of s.own (h ++ r ∷ []) ≡ count_of s.own h + 1
        count = ap length mine ∙ length-append (writes_of s.own h) (r ∷ [])

        logs : l ++ r ∷ [] ≡ last (length (l ++ r ∷ [])) (writes_of s.own (h ++ r ∷ []))
        logs =
            let k : count_of s.own h + 1 - (length l + 1) ≡ count_of s.own h - length l = omega arith in
            rw (count, length-append, mine, k, drop-append-le (count_of s.own h - length l) (writes_of s.own h) (r ∷ []) (omega arith), ← f.last)

    -- ---- a write of another server, at its turn
    pub heard :
        (r : Record)
        → (r.origin.0 ≡ s.own.0 → ⊥)
        → r.origin.0 < servers
        → number r ≡ at s.vector r.origin + 1
        → well_formed s.n r ≡ true
        → s.held < history_most
        → Facts (holding (s.held + 1) (raised s.vector r.origin (number r)) s) (h ++ r ∷ []) c l
    unfolding every reads_ok
    heard r o low n w few =
        record {
          few = omega arith;
          formed = rw (every_append (well_formed s.n) h (r ∷ []), f.formed, w);
          turns = turn_more h r f.turns nth;
          counts = vector;
          first = f.first ∙ sym (take-append-le (length c) h (r ∷ []) kept-few);
          last = f.last ∙ ap (last (length l)) (sym mine);
          before = omega (arith, ap length mine, f.before);
          writes =
              omega (
                arith,
                ap (λ (v : Vector). at v s.own) vector ∙ at-tally (h ++ r ∷ []) s.own own,
                ap length mine,
                f.writes,
                own-count,
              );
          reads = f.reads;
        }
      where
        nth : number r ≡ count_of r.origin h + 1
        nth = omega (arith, n, ap (λ (v : Vector). at v r.origin) f.counts ∙ at-tally h r.origin low)

        mine : writes_of s.own (h ++ r ∷ []) ≡ writes_of s.own h
        mine = rw (writes_of-append s.own h (r ∷ []), writes_of-other s.own r o, append-nil)

        vector : raised s.vector r.origin (number r) ≡ tally (h ++ r ∷ [])
        vector =
            ap (raised s.vector r.origin) nth
            ∙ ap (λ (v : Vector). raised v r.origin (count_of r.origin h + 1)) f.counts
            ∙ sym (tally-more h r low)

    -- ---- a checkpoint: all of the history, with the log as it was, or empty
    pub kept-all : reads_ok (cleared s) ≡ true → Facts (cleared s) h h l
    unfolding cleared
    kept-all reads =
        record {
          few = f.few;
          formed = f.formed;
          turns = f.turns;
          counts = f.counts;
          first = sym (take-length h);
          last = f.last;
          before = omega arith;
          writes = omega (arith, own-count);
          reads = reads;
        }

  pub log-empty : count_of s.own h ≤ count_of s.own c → Facts s h c []
  log-empty k =
      record {
        few = f.few;
        formed = f.formed;
        turns = f.turns;
        counts = f.counts;
        first = f.first;
        last = let e : count_of s.own h - 0 ≡ count_of s.own h = omega arith in rw e (sym (drop-length (writes_of s.own h)));
        before = omega arith;
        writes = f.writes;
        reads = f.reads;
      }

  -- ---- a read noted
  renoted : (cr : ℕ) (rw : ReadTable) → reads_ok (noting cr rw s.nwrites s) ≡ true → Facts (noting cr rw s.nwrites s) h c l
  renoted cr rw reads =
      record {
        few = f.few;
        formed = f.formed;
        turns = f.turns;
        counts = f.counts;
        first = f.first;
        last = f.last;
        before = f.before;
        writes = f.writes;
        reads = reads;
      }

  pub noted-facts : (i : PhoneId) (q : Request) → reads_ok (noted s i q) ≡ true → Facts (noted s i q) h c l
  unfolding noted
  noted-facts i (Write cell value time) reads = f
  noted-facts i (Read cell) reads = go (in_cr s i) reads
    where
      go :
          (t : Bool)
          → reads_ok (cond t s (noting (with_phone s.cr i) (rw_with s i s.nwrites) s.nwrites s)) ≡ true
          → Facts (cond t s (noting (with_phone s.cr i) (rw_with s i s.nwrites) s.nwrites s)) h c l
      go true reads = f
      go false reads = renoted (with_phone s.cr i) (rw_with s i s.nwrites) reads

-- ---- a message's writes, in turn
pub record Next (own : ServerId) (v : Vector) (r : Record) : Type 0 where
  pub foreign : r.origin.0 ≡ own.0 → ⊥
  pub next : number r ≡ at v r.origin + 1

abbrev is_appended : Turn → Bool
is_appended skipped = false
is_appended appended = true
is_appended (refuses k) = false

turn-next : (own : ServerId) (v : Vector) (r : Record) → at_turn own v r ≡ appended → Next own v r
unfolding at_turn
turn-next own v r =
    go (leb (number r) (at v r.origin)) (eqb r.origin.0 own.0) (eqb (number r) (at v r.origin + 1)) refl refl
  where
    go :
        (a b d : Bool)
        → eqb r.origin.0 own.0 ≡ b
        → eqb (number r) (at v r.origin + 1) ≡ d
        → cond a skipped (cond b (refuses OwnAhead) (cond d appended (refuses Gap))) ≡ appended
        → Next own v r
    go true b d p q e = absurd (false≢true (ap is_appended e))
    go false true d p q e = absurd (false≢true (ap is_appended e))
    go false false true p q e = record { foreign = eqb-false r.origin.0 own.0 p; next = eqb-true (number r) (at v r.origin + 1) q }
    go false false false p q e = absurd (false≢true (ap is_appended e))

pub formed-origin : (n : ℕ) (r : Record) → well_formed n r ≡ true → r.origin.0 < n
unfolding well_formed
formed-origin n r w = origin-below n r (both (in_range n r) _ (both (in_range n r && leb 1 (number r)) _ w).0).0

-- what is claimed of the writes of a message
abbrev Taking : List Record → Type 0
Taking rs =
    (s : State) (h c l : List Record)
    → Facts s h c l
    → s.n ≤ servers
    → s.own.0 < servers
    → every (well_formed s.n) rs ≡ true
    → (taken s.own s.vector rs).refusal ≡ none
    → s.held + length (taken s.own s.vector rs).new ≤ history_most
    → Facts (holding (s.held + length (taken s.own s.vector rs).new) (taken s.own s.vector rs).vector s) (h ++ (taken s.own s.vector rs).new) c l

module _ (r : Record) (rs : List Record) (ih : Taking rs) (s : State) (h c l : List Record) (f : Facts s h c l) (n : s.n ≤ servers) (o : s.own.0 < servers) (w : well_formed s.n r ≡ true) (ws : every (well_formed s.n) rs ≡ true) where
  abbrev after : Turn → Taken
  after t = and_then t s.vector r (taken s.own (vector_after t s.vector r) rs)

  took_one :
      (t : Turn)
      → at_turn s.own s.vector r ≡ t
      → (after t).refusal ≡ none
      → s.held + length (after t).new ≤ history_most
      → Facts (holding (s.held + length (after t).new) (after t).vector s) (h ++ (after t).new) c l
  took_one skipped e k few = ih s h c l f n o ws k few
  took_one appended e k few =
      let x = turn-next s.own s.vector r e in
      let low : r.origin.0 < servers = omega (arith, formed-origin s.n r w) in
      let s' = holding (s.held + 1) (raised s.vector r.origin (number r)) s in
      let new = (taken s.own (raised s.vector r.origin (number r)) rs).new in
      let g = heard s h c l f o r x.foreign low x.next w (omega arith) in
      let m : s.held + 1 + length new ≡ s.held + suc (length new) = omega arith in
      rw (m, append_assoc) at (ih s' (h ++ r ∷ []) c l g n o ws k (omega arith))
  took_one (refuses x) e k few = absurd (some-ne-none x k)

pub took : (rs : List Record) → Taking rs
unfolding taken every
took [] s h c l f n o w k few = rw (append-nil, add-zero) f
took (r ∷ rs) s h c l f n o w k few =
    let e = both (well_formed s.n r) _ w in
    took_one r rs (took rs) s h c l f n o e.0 e.1 (at_turn s.own s.vector r) refl k few

-- ---- recovery from a checkpoint and a log that suit a history
module _ (s : State) (h c l : List Record) (f : Facts s h c l) (own : s.own.0 < servers) where
  abbrev mine : List Record
  mine = writes_of s.own h

  abbrev kept : ℕ
  kept = count_of s.own c

  run : From 0 mine
  run = f.turns s.own own

  -- the own writes that the checkpoint lacks
  abbrev missing : List Record
  missing = drop kept mine

  kept-mine : writes_of s.own c ≡ take kept mine
  kept-mine =
      ap (writes_of s.own) f.first
      ∙ writes_of-take s.own (length c) h
      ∙ ap (λ (c : List Record). take (count_of s.own c) (writes_of s.own h)) (sym f.first)

  later-missing : later s.own c l ≡ missing
  unfolding later
  later-missing =
      let d = count_of s.own h - length l in
      let e : d + (count_of s.own c - d) ≡ count_of s.own c = omega (arith, f.before) in
      ap (λ (k : ℕ). keep (λ r. ltb k (number r)) l) (at-tally c s.own own)
      ∙ ap (keep (λ r. ltb (count_of s.own c) (number r))) f.last
      ∙ from-above d (count_of s.own c) (drop d (writes_of s.own h)) (rw zero-add at (from-drop 0 d (writes_of s.own h) run))
      ∙ drop-drop (count_of s.own c - d) d (writes_of s.own h)
      ∙ rw e

  -- what is recovered: the checkpoint, and after it every own write that it lacks
  pub recovered-lacked : recovered s.own c l ≡ c ++ drop (count_of s.own c) (writes_of s.own h)
  unfolding recovered
  recovered-lacked = ap (λ (x : List Record). c ++ x) later-missing

  missing-own : every (λ r. eqb r.origin.0 s.own.0) missing ≡ true
  unfolding writes_of
  missing-own = every_drop _ kept (writes_of s.own h) (keep-passes (λ r. eqb r.origin.0 s.own.0) h)

  -- together they are the own writes again, and of other origins the checkpoint's
  pub own-again : writes_of s.own (c ++ missing) ≡ mine
  own-again =
      writes_of-append s.own c (drop kept mine)
      ∙ ap (λ (a : List Record). a ++ writes_of s.own (drop kept mine)) kept-mine
      ∙ ap (λ (b : List Record). take kept mine ++ b) (writes_of-all s.own (drop kept mine) missing-own)
      ∙ take-append-drop kept mine

  pub others-none : (o : ServerId) → (s.own.0 ≡ o.0 → ⊥) → writes_of o (c ++ missing) ≡ writes_of o c
  others-none o q =
      writes_of-append o c missing
      ∙ ap (λ (b : List Record). writes_of o c ++ b) (writes_of-none o s.own missing q missing-own)
      ∙ append-nil (writes_of o c)

  again-turns : InTurn (c ++ missing)
  again-turns o low = go (ℕ_discrete s.own.0 o.0)
    where
      go : Dec (s.own.0 ≡ o.0) → map number (writes_of o (c ++ missing)) ≡ counting 1 (count_of o (c ++ missing))
      go (yes e) =
          subst (λ o. map number (writes_of o (c ++ missing)) ≡ counting 1 (count_of o (c ++ missing))) (same-server s.own o e)
          (rw own-again run)
      go (no e) = rw (others-none o e, f.first) (turn-first h (length c) f.turns o low)

  again-few : length (c ++ missing) ≤ length h
  again-few =
      omega (
        arith,
        length-append c (drop kept mine),
        length-drop kept mine,
        ap length (take-append-drop (length c) h),
        length-append (take (length c) h) (drop (length c) h),
        ap length f.first,
        count_of-parts s.own (length c) h,
        ap (count_of s.own) f.first,
        count_of-few s.own (drop (length c) h),
      )

  again-formed : every (well_formed s.n) (c ++ missing) ≡ true
  unfolding writes_of
  again-formed =
      rw (
        every_append (well_formed s.n) c missing,
        every_drop (well_formed s.n) kept mine (every-keep (λ (r : Record). eqb r.origin.0 s.own.0) (well_formed s.n) h f.formed),
        f.first,
        every_take (well_formed s.n) (length c) h f.formed,
      )

  again-counts : raised_by s.own (tally c) missing ≡ tally (c ++ missing)
  again-counts = raised-by s.own c missing own missing-own (rw zero-add at (from-drop 0 kept mine run))

  -- the state that recovery makes is consistent
  pub woken :
      length h ≤ history_most
      → reads_ok (recovered_state s.n s.own c l) ≡ true
      → Facts (recovered_state s.n s.own c l) (recovered s.own c l) c l
  unfolding recovered_state recovered recovered_vector
  woken few reads =
      rw later-missing
      (record {
        few = omega (arith, again-few);
        formed = again-formed;
        turns = again-turns;
        counts = again-counts;
        first = sym (take-append_seam c missing);
        last = f.last ∙ ap (last (length l)) (sym own-again);
        before = omega (arith, ap length own-again, f.before);
        writes = refl;
        reads = rw later-missing at reads;
      })
