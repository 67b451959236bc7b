-- Laws of the walk to a cell's winner: the cell's records kept, and the best of them.
-- Assumes nothing.
use Prim.Native.Nat.{ℕ}
use mathlib.Core.Bool.{Bool, true, false, cond}
use mathlib.Core.List.{List, [], ◌∷◌, map}
use mathlib.Core.Option.{Option, none, some}
use mathlib.Core.Path.{◌≡◌, refl, ap, sym, subst, ◌∙◌}
use denote.Param.Members.{Mut}
use denote.Ref.{Bor}
use lib.Dec.{eqb}
use Rattle.std.proofs.Common.{Some, None}
use Rattle.std.specs.Prelude.{Option as Maybe}
use Rattle.std.specs.Fn.{Called}
use Rattle.std.specs.Iterator.{ReducesItems, FoldTurn, Drains}
use Rattle.std.specs.List.{FoldsTo, filter}
use Rattle.std.proofs.lemmas.Iterator.{YieldsList, items_from_drains}
use Rattle.notes.specs.Record.{decode, beats}
use Rattle.notes.specs.declared.record.Record.{Record}
use Rattle.rules.specs.Writes.{keep_if, keep, best, winner}

-- what a reference to a record's bytes shows
abbrev pub shown : Bor (List ℕ) → Record
shown b = decode b.now

abbrev pub shown_by : Maybe (Bor (List ℕ)) → Option Record
shown_by None = none
shown_by (Some b) = some (shown b)

-- a test of records keeps bytes as it keeps what they are
kept : (p : Record → Bool) (l : List (List ℕ)) → map decode (filter (λ b. p (decode b)) l) ≡ keep p (map decode l)
unfolding keep
kept p [] = refl
kept p (b ∷ l) = go (p (decode b)) (kept p l)
  where
    go :
        (t : Bool)
        → map decode (filter (λ b. p (decode b)) l) ≡ keep p (map decode l)
        → map decode (cond t (b ∷ filter (λ b. p (decode b)) l) (filter (λ b. p (decode b)) l)) ≡ keep_if t (decode b) (keep p (map decode l))
    go true e = ap (λ l. decode b ∷ l) e
    go false e = e

decoded-now : (l : List (Bor (List ℕ))) → map shown l ≡ map decode (map (λ b. b.now) l)
decoded-now [] = refl
decoded-now (b ∷ l) = ap (λ l. shown b ∷ l) (decoded-now l)

-- over the cell's records as they come, the best is the winner
walked :
    {S : Type 0} {steps : S → Maybe (Bor (List ℕ)) → S → Type 0} {s : S} (c : ℕ) (l : List (List ℕ)) (xs : List (Bor (List ℕ)))
    → Drains steps s xs
    → YieldsList steps (λ b. b.now) s (filter (λ b. eqb (decode b).cell c) l)
    → best none (map shown xs) ≡ winner c (map decode l)
unfolding winner
walked c l xs h e =
    let items = items_from_drains xs (h.1.0, h.1.1, λ _. (h.0, h.1.2)) e in
    ap (best none) (decoded-now xs ∙ ap (map decode) items ∙ kept (λ r. eqb r.cell c) l)

-- a closure that gives the better of two, of equals the first
module _ {F : Type 0} (g : Mut F (Bor (List ℕ) × (Bor (List ℕ) × Unit {0})) (Bor (List ℕ))) (f : F) (turn : (a x r : Bor (List ℕ)) (q : F) → Called g f (a, (x, tt)) r q → (q ≡ f) × (shown r ≡ cond (beats (shown x) (shown a)) (shown x) (shown a))) where
  turns :
      (l : List (Bor (List ℕ))) (p q : F × Bor (List ℕ))
      → p.0 ≡ f
      → FoldsTo {P = F × Bor (List ℕ)} (FoldTurn g) p l q
      → some (shown q.1) ≡ best (some (shown p.1)) (map shown l)
  unfolding best
  turns [] p q e h = sym (ap (λ (w : F × Bor (List ℕ)). some (shown w.1)) h)
  turns (x ∷ l) p q e h =
      let t = turn p.1 x h.0.1 h.0.0 (subst (λ w. Called g w (p.1, (x, tt)) h.0.1 h.0.0) e h.1) in
      turns l h.0 q t.0 h.2 ∙ ap (λ (r : Record). best (some r) (map shown l)) t.1

  pub winner-walked :
      {S : Type 0} {steps : S → Maybe (Bor (List ℕ)) → S → Type 0} {s : S} (c : ℕ) (l : List (List ℕ)) (r : Maybe (Bor (List ℕ)))
      → ReducesItems steps g s f r
      → YieldsList steps (λ b. b.now) s (filter (λ b. eqb (decode b).cell c) l)
      → shown_by r ≡ winner c (map decode l)
  unfolding best
  winner-walked c l None h e = walked c l [] h e
  winner-walked c l (Some y) h e = turns h.1 (f, h.0) (h.2, y) refl h.4 ∙ walked c l (h.0 ∷ h.1) h.3 e
