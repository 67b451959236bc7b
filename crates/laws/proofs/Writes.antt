-- Laws of lists of writes: those of an origin, their numbers, and the vector that they give.
-- Assumes nothing.
use Prim.Native.Nat.{ℕ, suc, ◌+◌, ◌-◌, ◌<◌, ◌≤◌, max}
use mathlib.Core.Bool.{Bool, true, false, not}
use mathlib.Core.List.{List, [], ◌∷◌, ◌++◌, map, append_assoc, append-nil, map-append}
use mathlib.Core.Path.{◌≡◌, refl, ap, sym, ◌∙◌, subst}
use native.Mathlib.Decide.{ℕ_discrete}
use native.Mathlib.Nat.{add-zero, zero-add, suc-add}
use native.Mathlib.Omega.{arith}
use borrow.Author.Tests.{eqb-true, eq-eqb, ne_eqb, ltb-true, ltb-false}
use lib.Dec.{eqb, ltb}
use lib.ListN.{length, get_or, take, drop, length-append, length-drop, length-map, length-set, take-append-drop}
use lib.Seq.{take-append_seam, drop-nil, ext_get_or}
use Rattle.notes.specs.Lists.{every, same}
use Rattle.notes.specs.Index.{servers}
use Rattle.notes.specs.Vector.{vector, at, raised}
use Rattle.notes.specs.Record.{number}
use Rattle.notes.specs.declared.index.ServerId.{ServerId}
use Rattle.notes.specs.declared.record.Record.{Record}
use Rattle.notes.specs.declared.vector.Vector.{Vector}
use Rattle.notes.proofs.Lists.{both, same_refl, same_true}
use Rattle.notes.proofs.Vectors.{at-raised, at-raised-other}
use Rattle.rules.specs.Writes.{keep_if, keep, counting, server, server_ids, writes_of, count_of, tally, numbers_run, in_turn, numbers_of, same_records}
use Rattle.rules.specs.Sound.{raised_by}
use Rattle.laws.proofs.Lists.{keep_append, keep_all, keep-none, keep-few, every-weaker, length-counting, counting-at, counting_more, counting-take, counting-drop, map-take, map-drop, map_at, every-counting, counting-every}

-- ---- the writes of an origin
module _ (o : ServerId) where
  pub writes_of-append : (a b : List Record) → writes_of o (a ++ b) ≡ writes_of o a ++ writes_of o b
  unfolding writes_of
  writes_of-append a b = keep_append (λ r. eqb r.origin.0 o.0) a b

  pub count_of-append : (a b : List Record) → count_of o (a ++ b) ≡ count_of o a + count_of o b
  count_of-append a b = rw (writes_of-append a b, length-append)

  pub writes_of-here : (r : Record) → r.origin.0 ≡ o.0 → writes_of o (r ∷ []) ≡ r ∷ []
  unfolding writes_of keep
  writes_of-here r e = rw (eq-eqb r.origin.0 o.0 e)

  pub writes_of-other : (r : Record) → (r.origin.0 ≡ o.0 → ⊥) → writes_of o (r ∷ []) ≡ []
  unfolding writes_of keep
  writes_of-other r e = rw (ne_eqb r.origin.0 o.0 e)

  pub writes_of-all : (rs : List Record) → every (λ r. eqb r.origin.0 o.0) rs ≡ true → writes_of o rs ≡ rs
  unfolding writes_of
  writes_of-all rs h = keep_all (λ r. eqb r.origin.0 o.0) rs h

  pub writes_of-none :
      (p : ServerId) (rs : List Record)
      → (p.0 ≡ o.0 → ⊥)
      → every (λ r. eqb r.origin.0 p.0) rs ≡ true
      → writes_of o rs ≡ []
  unfolding writes_of
  writes_of-none p rs q h =
      keep-none (λ (r : Record). eqb r.origin.0 o.0) rs
      (every-weaker (λ (r : Record). eqb r.origin.0 p.0) (λ r. not (eqb r.origin.0 o.0))
      (λ r e. rw (ne_eqb r.origin.0 o.0 (λ z. q (sym (eqb-true r.origin.0 p.0 e) ∙ z))))
      rs
      h)

  pub count_of-few : (rs : List Record) → count_of o rs ≤ length rs
  unfolding writes_of
  count_of-few rs = keep-few (λ r. eqb r.origin.0 o.0) rs

  -- those of the first writes are the first of those
  pub writes_of-take : (k : ℕ) (h : List Record) → writes_of o (take k h) ≡ take (count_of o (take k h)) (writes_of o h)
  writes_of-take k h =
      sym
      (ap (λ (l : List Record). take (count_of o (take k h)) (writes_of o l)) (sym (take-append-drop k h))
      ∙ ap (take (count_of o (take k h))) (writes_of-append (take k h) (drop k h))
      ∙ take-append_seam (writes_of o (take k h)) (writes_of o (drop k h)))

  -- those of a list are those of its first writes and those past them
  pub count_of-parts : (k : ℕ) (h : List Record) → count_of o h ≡ count_of o (take k h) + count_of o (drop k h)
  count_of-parts k h = ap (count_of o) (sym (take-append-drop k h)) ∙ count_of-append (take k h) (drop k h)

  pub count_of-take : (k : ℕ) (h : List Record) → count_of o (take k h) ≤ count_of o h
  count_of-take k h = omega (arith, count_of-parts k h)

-- ---- the vector that writes give
pub length-tally : (rs : List Record) → length (tally rs).counts ≡ servers
unfolding tally server_ids
length-tally rs =
    length-map (map server (counting 0 servers)) (λ o. count_of o rs)
    ∙ length-map (counting 0 servers) server
    ∙ length-counting 0 servers

server-at : (i : ℕ) → i < servers → get_or server_ids i (server 0) ≡ server i
unfolding server_ids
server-at i h =
    let l = length-counting 0 servers in
    map_at server (counting 0 servers) i (server 0) 0 (omega arith)
    ∙ ap server (counting-at 0 servers i h ∙ zero-add i)

pub length-servers : length server_ids ≡ servers
unfolding server_ids
length-servers = length-map (counting 0 servers) server ∙ length-counting 0 servers

pub at-tally : (rs : List Record) (o : ServerId) → o.0 < servers → at (tally rs) o ≡ count_of o rs
unfolding tally
at-tally rs o h =
    map_at (λ o. count_of o rs) server_ids o.0 0 (server 0) (rw length-servers h)
    ∙ ap (λ o. count_of o rs) (server-at o.0 h)

-- vectors of eight counts are equal if each count is
pub vectors-equal :
    (v w : Vector)
    → length v.counts ≡ servers
    → length w.counts ≡ servers
    → ((o : ServerId) → o.0 < servers → at v o ≡ at w o)
    → v ≡ w
vectors-equal v w lv lw e =
    ap vector (ext_get_or 0 v.counts w.counts (lv ∙ sym lw) (λ i h. e (server i) (omega arith)))

pub same-server : (a b : ServerId) → a.0 ≡ b.0 → a ≡ b
same-server a b e = ap server e

-- one write more raises the count of its origin by one
pub tally-more :
    (rs : List Record) (r : Record)
    → r.origin.0 < servers
    → tally (rs ++ r ∷ []) ≡ raised (tally rs) r.origin (count_of r.origin rs + 1)
unfolding raised
tally-more rs r h =
    vectors-equal (tally (rs ++ r ∷ [])) more
    (length-tally (rs ++ r ∷ []))
    (length-set (tally rs).counts r.origin.0 (max (at (tally rs) r.origin) (count_of r.origin rs + 1)) ∙ length-tally rs)
    (λ o k. at-tally (rs ++ r ∷ []) o k ∙ count_of-append o rs (r ∷ []) ∙ go o k (ℕ_discrete r.origin.0 o.0))
  where
    more : Vector
    more = raised (tally rs) r.origin (count_of r.origin rs + 1)

    here : count_of r.origin rs + count_of r.origin (r ∷ []) ≡ at more r.origin
    here =
        rw (
          at-raised (tally rs) r.origin (count_of r.origin rs + 1) (rw length-tally h),
          at-tally rs r.origin h,
          writes_of-here r.origin r refl,
        )
        (omega arith)

    go : (o : ServerId) → o.0 < servers → Dec (r.origin.0 ≡ o.0) → count_of o rs + count_of o (r ∷ []) ≡ at more o
    go o k (yes e) = subst (λ o. count_of o rs + count_of o (r ∷ []) ≡ at more o) (same-server r.origin o e) here
    go o k (no e) =
        rw (
          at-raised-other (tally rs) r.origin o (count_of r.origin rs + 1) (λ q. e (sym q)),
          at-tally rs o k,
          writes_of-other o r e,
          add-zero,
        )

-- ---- numbers that run: 1, 2, 3 and so on for each origin
abbrev pub InTurn : List Record → Type 0
InTurn rs = (o : ServerId) → o.0 < servers → map number (writes_of o rs) ≡ counting 1 (count_of o rs)

module _ (rs : List Record) where
  pub in-turn : in_turn rs ≡ true → InTurn rs
  unfolding in_turn server_ids
  in-turn e o h =
      same_true (map number (writes_of o rs)) (counting 1 (count_of o rs))
      (every-counting (numbers_run rs) server 0 servers e o.0 (omega arith) (omega arith))

  pub turn_in : InTurn rs → in_turn rs ≡ true
  unfolding in_turn server_ids
  turn_in e =
      counting-every (numbers_run rs) server 0 servers
      (λ j a b. rw (e (server j) (omega arith)) (same_refl (counting 1 (count_of (server j) rs))))

  -- one write more, at its turn
  pub turn_more : (r : Record) → InTurn rs → number r ≡ count_of r.origin rs + 1 → InTurn (rs ++ r ∷ [])
  turn_more r t e o h = go (ℕ_discrete r.origin.0 o.0)
    where
      go : Dec (r.origin.0 ≡ o.0) → map number (writes_of o (rs ++ r ∷ [])) ≡ counting 1 (count_of o (rs ++ r ∷ []))
      go (yes q) =
          let c : number r ≡ 1 + count_of o rs = omega (arith, e, ap (λ o. count_of o rs) (same-server r.origin o q)) in
          rw (writes_of-append o rs (r ∷ []), writes_of-here o r q, map-append, t o h, c, length-append, counting_more)
      go (no q) = rw (writes_of-append o rs (r ∷ []), writes_of-other o r q, append-nil) (t o h)

  -- the first writes run too
  pub turn-first : (k : ℕ) → InTurn rs → InTurn (take k rs)
  turn-first k t o h =
      ap (map number) (writes_of-take o k rs)
      ∙ map-take number (count_of o (take k rs)) (writes_of o rs)
      ∙ ap (take (count_of o (take k rs))) (t o h)
      ∙ counting-take 1 (count_of o (take k rs)) (count_of o rs) (count_of-take o k rs)

-- writes numbered a + 1, a + 2 and so on
abbrev pub From : ℕ → List Record → Type 0
From a rs = map number rs ≡ counting (suc a) (length rs)

pub from-drop : (a k : ℕ) (rs : List Record) → From a rs → From (a + k) (drop k rs)
from-drop a k rs f =
    map-drop number k rs
    ∙ ap (drop k) f
    ∙ counting-drop (suc a) k (length rs)
    ∙ rw (suc-add, ← length-drop)

-- those numbered above k are those past the first k - a
pub from-above : (a k : ℕ) (rs : List Record) → From a rs → keep (λ r. ltb k (number r)) rs ≡ drop (k - a) rs
unfolding keep counting
from-above a k [] f = sym (drop-nil (k - a))
from-above a k (r ∷ rs) f =
    go (ltb k (suc a)) refl (from-above (suc a) k rs (ap (drop 1) f))
  where
    head : number r ≡ suc a
    head = ap (λ (l : List ℕ). get_or l 0 0) f

    go :
        (t : Bool)
        → ltb k (suc a) ≡ t
        → keep (λ r. ltb k (number r)) rs ≡ drop (k - suc a) rs
        → keep_if (ltb k (number r)) r (keep (λ r. ltb k (number r)) rs) ≡ drop (k - a) (r ∷ rs)
    go true q e =
        let l = ltb-true k (suc a) q in
        let z : k - suc a ≡ 0 = omega arith in
        let y : k - a ≡ 0 = omega arith in
        rw (head, q, e, z, y)
    go false q e =
        let l = ltb-false k (suc a) q in
        let y : k - a ≡ suc (k - suc a) = omega arith in
        rw (head, q, e, y)

-- V raised at own by writes that go on from its count
pub raised-by :
    (own : ServerId) (c rs : List Record)
    → own.0 < servers
    → every (λ r. eqb r.origin.0 own.0) rs ≡ true
    → From (count_of own c) rs
    → raised_by own (tally c) rs ≡ tally (c ++ rs)
unfolding raised_by every counting
raised-by own c [] h e f = rw append-nil
raised-by own c (r ∷ rs) h e f =
    let x = both (eqb r.origin.0 own.0) _ e in
    let o = same-server r.origin own (eqb-true r.origin.0 own.0 x.0) in
    let n : number r ≡ count_of own c + 1 = omega (arith, ap (λ (l : List ℕ). get_or l 0 0) f) in
    let m : tally (c ++ r ∷ []) ≡ raised (tally c) own (number r) =
    tally-more c r (rw o h) ∙ ap (λ (o : ServerId). raised (tally c) o (count_of o c + 1)) o ∙ ap (raised (tally c) own) (sym n) in
    let k : count_of own (c ++ r ∷ []) ≡ suc (count_of own c) =
    rw (count_of-append own c (r ∷ []), writes_of-here own r (ap (λ (o : ServerId). o.0) o)) (omega arith) in
    rw (← m, raised-by own (c ++ r ∷ []) rs h x.1 (rw k (ap (drop 1) f)), append_assoc)

-- ---- equal writes
abbrev record_from : List ℕ → Record
record_from l =
    record {
      origin = server (get_or l 0 0);
      phone = record { 0 = get_or l 1 0 };
      cell = get_or l 2 0;
      value = get_or l 3 0;
      time = get_or l 4 0;
      stamp = vector (drop 5 l);
    }

pub same-records : (a b : List Record) → same_records a b ≡ true → a ≡ b
unfolding same_records
same-records [] [] h = refl
same-records [] (y ∷ b) h = cc
same-records (x ∷ a) [] h = cc
same-records (x ∷ a) (y ∷ b) h =
    let e = both (same (numbers_of x) (numbers_of y)) _ h in
    let p : x ≡ y = ap record_from (same_true (numbers_of x) (numbers_of y) e.0) in
    let q = same-records a b e.1 in
    cc

pub records-same : (a : List Record) → same_records a a ≡ true
unfolding same_records
records-same [] = refl
records-same (x ∷ a) = rw (same_refl (numbers_of x), records-same a)
