-- Where a write stands among its origin's, what a vector means, and what an update's writes add to a history.
-- Assumes nothing.
use Prim.Native.Nat.{ℕ, ◌+◌, ◌≤◌, ◌<◌}
use mathlib.Core.Bool.{Bool, true, false, cond}
use mathlib.Core.List.Memᴰ
use mathlib.Core.List.{List, [], ◌∷◌, ◌++◌, append_assoc, append-nil, head-eq_of_cons-eq}
use mathlib.Core.Logic.{◌⊎◌, inl, inr}
use mathlib.Core.Path.{◌≡◌, refl, ap, sym, subst, ◌∙◌}
use native.Mathlib.Decide.{ℕ_discrete}
use native.Mathlib.Omega.{arith}
use borrow.Author.Tests.{leb-true, leb-false, eqb-true, eqb-false, eq-eqb}
use lib.Dec.{leb, eqb}
use lib.ListN.{length, get_or, length-append}
use lib.Seq.{drop-append_seam}
use Rattle.notes.specs.Lists.{every}
use Rattle.notes.specs.Index.{servers}
use Rattle.notes.specs.Vector.{at, raised}
use Rattle.notes.specs.Record.{number, well_formed}
use Rattle.notes.specs.declared.index.ServerId.{ServerId}
use Rattle.notes.specs.declared.record.Record.{Record}
use Rattle.notes.specs.declared.vector.Vector.{Vector}
use Rattle.notes.proofs.Lists.{every_append}
use Rattle.notes.proofs.Pieces.{Each}
use Rattle.rules.specs.declared.answer.Refusal.{Refusal}
use Rattle.rules.specs.declared.answer.Refusal.TheVariants.{Gap, OwnAhead}
use Rattle.rules.specs.Writes.{keep, counting, server, writes_of, count_of, tally}
use Rattle.rules.specs.Step.{Turn, skipped, appended, refuses, at_turn, vector_after, Taken, and_then, taken}
use Rattle.laws.proofs.Writes.{From, from-drop, at-tally, tally-more, same-server, writes_of-append, writes_of-here, writes_of-other}
use Rattle.laws.proofs.Sound.{Next, formed-origin}
use Rattle.farm.specs.Demand.{◌∈◌}
use Rattle.farm.proofs.Prefix.{Pre, append-parts, pre-refl, pre-pre, pre-more, pre-mem, mem-keep, keep-mem, every-mem}
use Rattle.farm.proofs.Held.{Numbered, Placed, Covered, Held}

-- ---- a write at its turn: skipped, or the next of another origin, or ahead
module _ (own : ServerId) (v : Vector) (r : Record) where
  pub turned :
      (P : Turn → Type 0)
      → (number r ≤ at v r.origin → P skipped)
      → (Next own v r → P appended)
      → ((k : Refusal) → at v r.origin < number r → (number r ≤ at v r.origin + 1 → r.origin.0 ≡ own.0) → P (refuses k))
      → P (at_turn own v r)
  unfolding at_turn
  turned P s a f =
      go (leb (number r) (at v r.origin)) (eqb r.origin.0 own.0) (eqb (number r) (at v r.origin + 1)) refl refl refl
    where
      go :
          (x y z : Bool)
          → leb (number r) (at v r.origin) ≡ x
          → eqb r.origin.0 own.0 ≡ y
          → eqb (number r) (at v r.origin + 1) ≡ z
          → P (cond x skipped (cond y (refuses OwnAhead) (cond z appended (refuses Gap))))
      go true y z p q e = s (leb-true (number r) (at v r.origin) p)
      go false true z p q e =
          f OwnAhead (leb-false (number r) (at v r.origin) p) (λ l. eqb-true r.origin.0 own.0 q)
      go false false true p q e =
          a (record { foreign = eqb-false r.origin.0 own.0 q; next = eqb-true (number r) (at v r.origin + 1) e })
      go false false false p q e =
          let l = leb-false (number r) (at v r.origin) p in
          f Gap l (λ m. absurd (eqb-false (number r) (at v r.origin + 1) e (omega arith)))

-- an update appends no own write
pub mine-stays : (own : ServerId) (v : Vector) (rs : List Record) → writes_of own (taken own v rs).new ≡ []
unfolding taken writes_of keep
mine-stays own v [] = refl
mine-stays own v (r ∷ rs) =
    turned own v r (λ t. writes_of own (and_then t v r (taken own (vector_after t v r) rs)).new ≡ [])
    (λ l. mine-stays own v rs)
    (λ x.
    let new = (taken own (raised v r.origin (number r)) rs).new in
    writes_of-append own (r ∷ []) new
    ∙ rw (writes_of-other own r x.foreign) (mine-stays own (raised v r.origin (number r)) rs))
    (λ k l o. refl)

-- with the vector that a history gives
module _ (own : ServerId) (g rs : List Record) (r : Record) (low : r.origin.0 < servers) where
  turned-tally :
      (P : Taken → Type 0)
      → (number r ≤ count_of r.origin g → P (taken own (tally g) rs))
      → (number r ≡ count_of r.origin g + 1 → P (and_then appended (tally g) r (taken own (tally (g ++ r ∷ [])) rs)))
      → ((k : Refusal)
      → count_of r.origin g < number r
      → (number r ≤ count_of r.origin g + 1 → r.origin.0 ≡ own.0)
      → P (and_then (refuses k) (tally g) r (taken own (tally g) rs)))
      → P (taken own (tally g) (r ∷ rs))
  unfolding taken
  turned-tally P s a f =
      turned own (tally g) r (λ t. P (and_then t (tally g) r (taken own (vector_after t (tally g) r) rs)))
      (λ l. s (rw here at l))
      (λ x.
      let e : number r ≡ count_of r.origin g + 1 = rw here at x.next in
      rw (e, ← tally-more g r low) (a e))
      (λ k l o. f k (rw here at l) (rw here at o))
    where
      here : at (tally g) r.origin ≡ count_of r.origin g
      here = at-tally g r.origin low

-- ---- the writes of a write's origin, and of others
pub writes_at :
    (r : Record) (d rest : List Record)
    → writes_of r.origin (d ++ r ∷ rest) ≡ writes_of r.origin d ++ r ∷ writes_of r.origin rest
writes_at r d rest =
    writes_of-append r.origin d (r ∷ rest)
    ∙ rw (writes_of-append r.origin (r ∷ []) rest, writes_of-here r.origin r refl)

-- one write more changes what holds of its origin only
one_more :
    (P : ServerId → List Record → Type 0) (r : Record) (g : List Record)
    → P r.origin (writes_of r.origin g ++ r ∷ [])
    → ((o : ServerId) → P o (writes_of o g))
    → (o : ServerId)
    → P o (writes_of o (g ++ r ∷ []))
unfolding writes_of keep
one_more P r g h k o = go (ℕ_discrete r.origin.0 o.0)
  where
    go : Dec (r.origin.0 ≡ o.0) → P o (writes_of o (g ++ r ∷ []))
    go (yes e) = subst (λ (o : ServerId). P o (writes_of o (g ++ r ∷ []))) (same-server r.origin o e) (rw (writes_at r g []) h)
    go (no e) = rw (writes_of-append o g (r ∷ []), writes_of-other o r e, append-nil) (k o)

from_next : (p q : List Record) (r : Record) → From 0 (p ++ r ∷ q) → number r ≡ length p + 1
unfolding counting
from_next p q r f =
    let e = rw drop-append_seam at (from-drop 0 (length p) (p ++ r ∷ q) f) in omega (arith, ap (λ (l : List ℕ). get_or l 0 0) e)

pub mem-split : (l : List Record) (x : Record) → x ∈ l → (p q : List Record) × (p ++ x ∷ q ≡ l)
mem-split [] x m = elim m [ ]
mem-split (y ∷ ys) x m = go (λ r. mem-split ys x r) (Memᴰ.cases_cons m)
  where
    go : (x ∈ ys → (p q : List Record) × (p ++ x ∷ q ≡ ys)) → (x ≡ y) ⊎ x ∈ ys → (p q : List Record) × (p ++ x ∷ q ≡ y ∷ ys)
    go later (inl e) = ([], ys, ap (λ (z : Record). z ∷ ys) e)
    go later (inr r) = let s = later r in (y ∷ s.0, s.1, ap (λ (z : List Record). y ∷ z) s.2)

-- where a write stands in its origin's list: as many are before it as its number says
record Place (c : List Record) (w : Record) : Type 0 where
  pub before : List Record
  pub after : List Record
  pub here : before ++ w ∷ after ≡ c
  pub place : number w ≡ length before + 1

module _ (n : ℕ) (c : Numbered) (few : n ≤ servers) (runs : (o : ℕ) → o < n → From 0 (c o)) where
  -- a write's number tells how many of its origin are before it, in the list and where it begins
  pub number_at : (o : ℕ) → o < n → (l p q : List Record) (r : Record) → Pre l (c o) → p ++ r ∷ q ≡ l → number r ≡ length p + 1
  number_at o low l p q r b e =
      from_next p (q ++ b.0) r
      (rw (sym (append_assoc p (r ∷ q) b.0) ∙ ap (λ (l : List Record). l ++ b.0) e ∙ b.1) (runs o low))

  placed_at : (w : Record) → Placed n c w → Place (c w.origin.0) w
  placed_at w p =
      let o = w.origin.0 in
      let s = mem-split (c o) w p.listed in
      record { before = s.0; after = s.1; here = s.2; place = number_at o p.low (c o) s.0 s.1 w (pre-refl (c o)) s.2 }

  -- an origin and a number name one write
  pub one_name : (w x : Record) → Placed n c w → Placed n c x → w.origin.0 ≡ x.origin.0 → number w ≡ number x → w ≡ x
  one_name w x k l o e =
      let a = placed_at w k in
      let b = placed_at x l in
      head-eq_of_cons-eq
      (append-parts a.before b.before _ _ (omega (arith, a.place, b.place)) (a.here ∙ ap c o ∙ sym b.here)).1

  pub held-placed : (h : List Record) → Held n c h → (w : Record) → w ∈ h → Placed n c w
  unfolding writes_of
  held-placed h k w m =
      let f = every-mem (well_formed n) h k.formed m in
      let o = w.origin.0 in
      let low = formed-origin n w f in
      record {
        formed = f;
        low = low;
        listed = pre-mem (writes_of (server o) h) (c o) (k.begins o low) (mem-keep _ h (eq-eqb o o refl) m);
      }

  -- ---- what a vector means: a write is among those that it counts exactly if it is in its origin's list, numbered at most as it says
  pub held-covered : (h : List Record) → Held n c h → (w : Record) → w ∈ h → Covered n c (tally h) w
  unfolding writes_of
  held-covered h k w m =
      let p = held-placed h k w m in
      let o = w.origin.0 in
      let s = mem-split (writes_of (server o) h) w (mem-keep _ h (eq-eqb o o refl) m) in
      let place = number_at o p.low (writes_of (server o) h) s.0 s.1 w (k.begins o p.low) s.2 in
      record {
        placed = p;
        counted = omega (arith, place, ap length s.2, length-append s.0 (w ∷ s.1), at-tally h w.origin (omega (arith, p.low)));
      }

  pub covered-held : (h : List Record) → Held n c h → (w : Record) → Covered n c (tally h) w → w ∈ h
  unfolding writes_of
  covered-held h k w v =
      let o = w.origin.0 in
      let low = v.placed.low in
      let s = placed_at w v.placed in
      let until = s.before ++ w ∷ [] in
      let p : Pre until (c o) = (s.after, append_assoc s.before (w ∷ []) s.after ∙ s.here) in
      let q =
      pre-pre until (writes_of (server o) h) (c o) p (k.begins o low)
      (omega (arith, length-append s.before (w ∷ []), s.place, v.counted, at-tally h w.origin (omega (arith, low)))) in
      (keep-mem _ h (pre-mem until (writes_of (server o) h) q (Memᴰ.append_right s.before (Memᴰ.head refl)))).0

  -- ---- an update's writes
  held_more :
      (g : List Record) (r : Record) → Held n c g → Placed n c r → number r ≡ count_of r.origin g + 1 → Held n c (g ++ r ∷ [])
  unfolding every
  held_more g r h k e =
      record {
        formed = rw (every_append (well_formed n) g (r ∷ []), h.formed, k.formed);
        begins = λ o. one_more (λ o l. o.0 < n → Pre l (c o.0)) r g (λ k. mine) (λ o k. h.begins o.0 k) (server o);
      }
    where
      mine : Pre (writes_of r.origin g ++ r ∷ []) (c r.origin.0)
      mine =
          let s = placed_at r k in
          pre-more (writes_of r.origin g) s.before s.after (c r.origin.0) r (h.begins r.origin.0 k.low) s.here
          (omega (arith, s.place))

  pub taken-held :
      (own : ServerId) (g rs : List Record) → Each (Placed n c) rs → Held n c g → Held n c (g ++ (taken own (tally g) rs).new)
  unfolding taken
  taken-held own g [] k h = rw append-nil h
  taken-held own g (r ∷ rs) k h =
      turned-tally own g rs r (omega (arith, k.0.low)) (λ t. Held n c (g ++ t.new))
      (λ e. taken-held own g rs k.1 h)
      (λ e. rw append_assoc at (taken-held own (g ++ r ∷ []) rs k.1 (held_more g r h k.0 e)))
      (λ x l o. rw append-nil h)
