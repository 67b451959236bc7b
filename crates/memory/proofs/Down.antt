-- The state that recovery makes is consistent exactly where the tests of the checkpoint and the log pass.
-- Assumes nothing.
use Prim.Native.Nat.{ℕ, zero, suc, ◌+◌, ◌-◌, ◌<◌, ◌≤◌}
use mathlib.Core.Bool.{Bool, true, ◌&&◌}
use mathlib.Core.List.{List, [], ◌∷◌, ◌++◌, map, append-nil}
use mathlib.Core.Path.{◌≡◌, refl, ap, sym, ◌∙◌, subst}
use native.Mathlib.Decide.{ℕ_discrete}
use native.Mathlib.Nat.{add-zero, zero-add}
use native.Mathlib.Numerals.{add-one}
use native.Mathlib.Omega.{arith}
use borrow.Author.Tests.{leb-true, le-leb, eqb-true, eq-eqb}
use lib.Dec.{ltb, leb, eqb}
use lib.ListN.{length, get_or, take, drop, length-append, length-drop, take-append-drop}
use lib.Seq.{take-append_seam, drop-append_seam, drop-append-le}
use Rattle.notes.specs.Lists.{every}
use Rattle.notes.specs.Index.{servers, phones}
use Rattle.notes.specs.Vector.{zeros, at}
use Rattle.notes.specs.Record.{number, well_formed}
use Rattle.notes.specs.Message.{history_most}
use Rattle.notes.specs.declared.index.ServerId.{ServerId}
use Rattle.notes.specs.declared.record.Record.{Record}
use Rattle.notes.proofs.Lists.{both, every_append}
use Rattle.notes.proofs.Vectors.{zeros-at}
use Rattle.rules.specs.Writes.{keep, counting, writes_of, count_of, tally, in_turn, same_records}
use Rattle.rules.specs.Sound.{later, recovered, recovered_vector, recovered_state, last, is_last, consistent}
use Rattle.laws.proofs.Lists.{keep-passes, every-keep, every_drop, counting-at, map_at}
use Rattle.laws.proofs.Writes.{InTurn, in-turn, turn_in, turn-first, same-records, records-same, at-tally, writes_of-append, writes_of-all, writes_of-none, From, from-above, from-drop, raised-by, same-server}
use Rattle.laws.proofs.Phones.{no_reads}
use Rattle.laws.proofs.Sound.{Facts, facts, facts-ok}
use Rattle.memory.specs.Forms.{own_run, newest, added, log_test, down_test}
use Rattle.memory.proofs.Same.{same_truth}

-- ---- records of one origin whose numbers go on from k

-- the test of an origin, as writes_of makes it
abbrev pub is_own : ServerId → Record → Bool
is_own own r = eqb r.origin.0 own.0

pub record Run (n : ℕ) (own : ServerId) (k : ℕ) (rs : List Record) : Type 0 where
  pub numbers : From k rs
  pub formed : every (well_formed n) rs ≡ true
  pub mine : every (is_own own) rs ≡ true

pub run-numbers : (n : ℕ) (own : ServerId) (k : ℕ) (rs : List Record) → own_run n own k rs ≡ true → Run n own k rs
unfolding own_run every counting
run-numbers n own k [] e = record { numbers = refl; formed = refl; mine = refl }
run-numbers n own k (r ∷ rs) e =
    let x1 = both _ (own_run n own (suc k) rs) e in
    let x2 = both _ (eqb (number r) (k + 1)) x1.0 in
    let x3 = both (well_formed n r) (is_own own r) x2.0 in
    let rest = run-numbers n own (suc k) rs x1.1 in
    let head : number r ≡ suc k = eqb-true (number r) (k + 1) x2.1 ∙ add-one k in
    record {
      numbers = rw (head, rest.numbers);
      formed = rw (x3.0, rest.formed);
      mine = rw (x3.1, rest.mine);
    }

pub numbers-run : (n : ℕ) (own : ServerId) (k : ℕ) (rs : List Record) → Run n own k rs → own_run n own k rs ≡ true
unfolding own_run every counting
numbers-run n own k [] x = refl
numbers-run n own k (r ∷ rs) x =
    let f = both (well_formed n r) _ x.formed in
    let m = both (is_own own r) _ x.mine in
    let head : number r ≡ k + 1 = ap (λ (l : List ℕ). get_or l 0 0) x.numbers ∙ sym (add-one k) in
    let rest : Run n own (suc k) rs = record { numbers = ap (drop 1) x.numbers; formed = f.1; mine = m.1 } in
    rw (f.0, m.0, eq-eqb (number r) (k + 1) head, numbers-run n own (suc k) rs rest)

-- ---- the last record's number

pub newest-last :
    (own : ServerId) (l : List Record) (d : Record)
    → 0 < length l
    → newest own l ≡ at (get_or l (length l - 1) d).stamp own
unfolding newest
newest-last own l d h = ap (λ v. at v own) (map_at (λ r. r.stamp) l (length l - 1) zeros d (omega arith))

every-at : {A : Type 0} (p : A → Bool) (l : List A) (i : ℕ) (d : A) → every p l ≡ true → i < length l → p (get_or l i d) ≡ true
unfolding every
every-at p [] i d e h = absurd (omega arith)
every-at p (x ∷ l) zero d e h = (both (p x) _ e).0
every-at p (x ∷ l) (suc i) d e h = every-at p l i d (both (p x) _ e).1 (omega arith)

-- where each is own and their numbers go on from k, T at own of each is its number
numbered :
    (own : ServerId) (k : ℕ) (l : List Record) (i : ℕ) (d : Record)
    → From k l
    → every (is_own own) l ≡ true
    → i < length l
    → at (get_or l i d).stamp own ≡ suc k + i
numbered own k l i d f m h =
    let o = eqb-true (get_or l i d).origin.0 own.0 (every-at (is_own own) l i d m h) in
    ap (at (get_or l i d).stamp) (sym (same-server (get_or l i d).origin own o))
    ∙ sym (map_at number l i 0 d h)
    ∙ ap (λ (x : List ℕ). get_or x i 0) f
    ∙ counting-at (suc k) (length l) i h

-- so the newest is k and their count; past a j of at least k this holds of an empty list too
newest-past :
    (own : ServerId) (k j : ℕ) (l : List Record)
    → From k l
    → every (is_own own) l ≡ true
    → k ≤ j
    → newest own l - j ≡ k + length l - j
unfolding newest
newest-past own k j [] f m h = omega (arith, zeros-at servers own.0)
newest-past own k j (r ∷ l) f m h =
    let e = newest-last own (r ∷ l) r (omega arith) in
    omega (arith, numbered own k (r ∷ l) (length (r ∷ l) - 1) r f m (omega arith))

-- ---- runs that go on from each other
from-append : (k : ℕ) (a b : List Record) → From k a → From (k + length a) b → From k (a ++ b)
unfolding counting
from-append k [] b f g = rw add-zero at g
from-append k (r ∷ a) b f g =
    let e : k + suc (length a) ≡ suc k + length a = omega arith in
    let head : number r ≡ suc k = ap (λ (l : List ℕ). get_or l 0 0) f in
    rw (head, from-append (suc k) a b (ap (drop 1) f) (rw e at g))

-- ---- a log of two parts: the last of the checkpoint's own writes, and a run that goes on from them
record Parts (n : ℕ) (own : ServerId) (c a b : List Record) : Type 0 where
  pub formed : every (well_formed n) c ≡ true
  pub turns : InTurn c
  pub few : length c + length b ≤ history_most
  pub run : Run n own (count_of own c) b
  pub held : a ≡ last (length a) (writes_of own c)

module _ (n : ℕ) (own : ServerId) (c a b : List Record) (low : own.0 < servers) (p : Parts n own c a b) where
  abbrev kept : ℕ
  kept = count_of own c

  held-few : length a ≤ kept
  held-few = omega (arith, ap length p.held, length-drop (kept - length a) (writes_of own c))

  -- the own writes of the checkpoint and the run
  own-all : writes_of own (c ++ b) ≡ writes_of own c ++ b
  own-all = writes_of-append own c b ∙ ap (λ (x : List Record). writes_of own c ++ x) (writes_of-all own b p.run.mine)

  run-all : From 0 (writes_of own c ++ b)
  run-all = from-append 0 (writes_of own c) b (p.turns own low) (rw zero-add p.run.numbers)

  turns-all : InTurn (c ++ b)
  turns-all o h = go (ℕ_discrete own.0 o.0)
    where
      go : Dec (own.0 ≡ o.0) → map number (writes_of o (c ++ b)) ≡ counting 1 (count_of o (c ++ b))
      go (yes e) =
          subst (λ o. map number (writes_of o (c ++ b)) ≡ counting 1 (count_of o (c ++ b))) (same-server own o e)
          (rw own-all run-all)
      go (no e) = rw (writes_of-append o c b, writes_of-none o own b e p.run.mine, append-nil) (p.turns o h)

  -- the log is the last of them
  log-last : a ++ b ≡ drop (kept - length a) (writes_of own c ++ b)
  log-last =
      ap (λ (x : List Record). x ++ b) p.held
      ∙ sym (drop-append-le (kept - length a) (writes_of own c) b (omega arith))

  log-run : From (kept - length a) (a ++ b)
  log-run = rw (← log-last, zero-add) at (from-drop 0 (kept - length a) (writes_of own c ++ b) run-all)

  log-own : every (is_own own) (a ++ b) ≡ true
  unfolding writes_of
  log-own =
      rw (
        every_append (is_own own) a b,
        p.run.mine,
        p.held,
        every_drop (is_own own) (kept - length a) (writes_of own c) (keep-passes (is_own own) c),
      )

  -- so those numbered above the checkpoint's are the run
  later-run : later own c (a ++ b) ≡ b
  unfolding later
  later-run =
      let e : kept - (kept - length a) ≡ length a = omega (arith, held-few) in
      ap (λ (k : ℕ). keep (λ r. ltb k (number r)) (a ++ b)) (at-tally c own low)
      ∙ from-above (kept - length a) kept (a ++ b) log-run
      ∙ rw e (drop-append_seam a b)

  added-run : added own c (a ++ b) ≡ length b
  added-run =
      omega (arith, newest-past own (kept - length a) kept (a ++ b) log-run log-own (omega arith), length-append a b, held-few)

  -- what recovery makes of them is consistent, and they pass the tests
  parts-facts : Facts (recovered_state n own c (a ++ b)) (recovered own c (a ++ b)) c (a ++ b)
  unfolding recovered_state recovered recovered_vector
  parts-facts =
      let e : length (writes_of own c ++ b) - length (a ++ b) ≡ kept - length a =
      omega (arith, length-append (writes_of own c) b, length-append a b) in
      rw later-run
      (record {
        few = omega (arith, length-append c b, p.few);
        formed = rw (every_append (well_formed n) c b, p.formed, p.run.formed);
        turns = turns-all;
        counts = raised-by own c b low p.run.mine p.run.numbers;
        first = sym (take-append_seam c b);
        last = rw (own-all, e) log-last;
        before = omega (arith, ap length own-all, length-append (writes_of own c) b, length-append a b);
        writes = refl;
        reads = no_reads _ (λ i. zeros-at phones i.0);
      })

  parts-pass : down_test n own c (a ++ b) ≡ true
  unfolding down_test log_test is_last
  parts-pass =
      let e : length (a ++ b) - length b ≡ length a = omega (arith, length-append a b) in
      rw (
        p.formed,
        turn_in c p.turns,
        added-run,
        le-leb (length b) (length (a ++ b)) (omega (arith, length-append a b)),
        le-leb (length c + length b) history_most p.few,
        e,
        drop-append_seam a b,
        numbers-run n own kept b p.run,
        take-append_seam a b,
        ap (same_records a) (sym p.held) ∙ records-same a,
      )

-- ---- the parts, from the tests and from a consistent state
abbrev wakes : ℕ → ServerId → List Record → List Record → Bool
wakes n own c l = consistent (recovered_state n own c l) (recovered own c l) c l

module _ (n : ℕ) (own : ServerId) (c l : List Record) (low : own.0 < servers) where
  -- how many of the log's records the checkpoint holds
  abbrev before : ℕ
  before = length l - added own c l

  -- what the tests say of the counts
  pub tested-fits : down_test n own c l ≡ true → (added own c l ≤ length l) × (length c + added own c l ≤ history_most)
  unfolding down_test log_test
  tested-fits e =
      let y = both (every (well_formed n) c && in_turn c) (log_test n own c l) e in
      let x1 = both _ (is_last (take before l) (writes_of own c)) y.1 in
      let x2 = both _ (own_run n own (count_of own c) (drop before l)) x1.0 in
      let x3 = both (leb (added own c l) (length l)) (leb (length c + added own c l) history_most) x2.0 in
      (leb-true (added own c l) (length l) x3.0, leb-true (length c + added own c l) history_most x3.1)

  parts-tested : down_test n own c l ≡ true → Parts n own c (take before l) (drop before l)
  unfolding down_test log_test is_last
  parts-tested e =
      let y = both (every (well_formed n) c && in_turn c) (log_test n own c l) e in
      let x1 = both _ (is_last (take before l) (writes_of own c)) y.1 in
      let counts = leb (added own c l) (length l) && leb (length c + added own c l) history_most in
      let x2 = both counts (own_run n own (count_of own c) (drop before l)) x1.0 in
      let x5 = both (every (well_formed n) c) (in_turn c) y.0 in
      let fits = tested-fits e in
      record {
        formed = x5.0;
        turns = in-turn c x5.1;
        few = omega (arith, length-drop before l, fits.0, fits.1);
        run = run-numbers n own (count_of own c) (drop before l) x2.1;
        held = same-records (take before l) (last (length (take before l)) (writes_of own c)) x1.1;
      }

  -- what is recovered past the checkpoint goes on from it, and the rest of the log is the last of its own writes
  module _ (f : Facts (recovered_state n own c l) (recovered own c l) c l) where
    abbrev rs : List Record
    rs = recovered own c l

    abbrev new : List Record
    new = later own c l

    abbrev mine : List Record
    mine = writes_of own c ++ new

    abbrev past : ℕ
    past = length mine - length l

    new-own : every (is_own own) new ≡ true
    unfolding later recovered_state writes_of
    new-own =
        every-keep (λ r. ltb (at (tally c) own) (number r)) (is_own own) l
        (rw f.last (every_drop (is_own own) (count_of own rs - length l) (writes_of own rs) (keep-passes (is_own own) rs)))

    own-again : writes_of own (recovered own c l) ≡ mine
    unfolding recovered
    own-again = writes_of-append own c new ∙ ap (λ (x : List Record). writes_of own c ++ x) (writes_of-all own new new-own)

    past-few : past ≤ count_of own c
    unfolding recovered_state
    past-few = rw own-again at f.before

    log-again : l ≡ drop past (writes_of own c) ++ new
    unfolding recovered_state
    log-again = rw own-again at f.last ∙ drop-append-le past (writes_of own c) new past-few

    new-numbers : From (count_of own c) new
    unfolding recovered_state
    new-numbers =
        rw (zero-add, drop-append_seam (writes_of own c) new) at
        (from-drop 0 (count_of own c) mine (rw own-again at (f.turns own low)))

    parts-recovered : Parts n own c (drop past (writes_of own c)) new
    unfolding recovered recovered_state
    parts-recovered =
        let w = both (every (well_formed n) c) (every (well_formed n) new) (rw every_append at f.formed) in
        let e : count_of own c - length (drop past (writes_of own c)) ≡ past =
        omega (arith, length-drop past (writes_of own c), past-few) in
        record {
          formed = w.0;
          turns = rw (take-append_seam c new) at (turn-first (c ++ new) (length c) f.turns);
          few = omega (arith, length-append c new, f.few);
          run = record { numbers = new-numbers; formed = w.1; mine = new-own };
          held = rw e refl;
        }

  pub down-test : consistent (recovered_state n own c l) (recovered own c l) c l ≡ down_test n own c l
  down-test = same_truth (wakes n own c l) (down_test n own c l) there back
    where
      there : wakes n own c l ≡ true → down_test n own c l ≡ true
      there e =
          let f = facts (recovered_state n own c l) (recovered own c l) c l e in
          rw (log-again f) (parts-pass n own c (drop (past f) (writes_of own c)) (new f) low (parts-recovered f))

      back : down_test n own c l ≡ true → wakes n own c l ≡ true
      back e =
          subst (λ (l : List Record). wakes n own c l ≡ true) (take-append-drop before l)
          (facts-ok _ _ c _ (parts-facts n own c (take before l) (drop before l) low (parts-tested e)))

  -- where the tests pass, recovery appends the log's last records, which go on from the checkpoint's own writes
  module _ (e : down_test n own c l ≡ true) where
    pub tested-later : later own c l ≡ drop (length l - added own c l) l
    tested-later =
        subst (λ (x : List Record). later own c x ≡ drop before l) (take-append-drop before l)
        (later-run n own c (take before l) (drop before l) low (parts-tested e))

    pub tested-run : Run n own (count_of own c) (drop (length l - added own c l) l)
    tested-run = (parts-tested e).run
