-- What holds in every run: every server is sound, its history begins as the farm's lists do, and what was sent stands in them.
-- Assumes nothing.
use Prim.Native.Nat.{ℕ, ◌≤◌, ◌<◌}
use mathlib.Core.Bool.{false}
use mathlib.Core.List.Memᴰ
use mathlib.Core.List.{List, ◌++◌}
use mathlib.Core.Logic.{◌⊎◌, inl, inr}
use mathlib.Core.Path.{◌≡◌, ap, sym, subst, ◌∙◌}
use native.Mathlib.Decide.{ℕ_discrete}
use native.Mathlib.Omega.{arith}
use Rattle.notes.specs.declared.record.Record.{Record}
use Rattle.rules.specs.Writes.{server, writes_of}
use Rattle.rules.specs.Memory.{Memory}
use Rattle.rules.specs.Sound as soundness
use Rattle.laws.proofs.Writes.{From, writes_of-append}
use Rattle.farm.specs.Farm.{Asked, Farm, Ledger, changed}
use Rattle.farm.specs.Demand.{◌∈◌}
use Rattle.farm.specs.Beside.{Begun}
use Rattle.farm.proofs.Prefix.{Pre, pre-refl, pre-append, pre-trans, changed-same, changed-other, changed-each}
use Rattle.farm.proofs.Held.{Sane, keeps, Kept, Numbered, Grows, Held, held-grows}
use Rattle.farm.proofs.Known.{Flight, Listed, Deeds, listed-grows}
use Rattle.farm.proofs.Steps.{kept-formed, kept-runs, servers-few}

-- the servers, and the farm's lists: each keeps the first of every list, and of its own all
pub record Seats (n : ℕ) (c : Numbered) (m : ℕ → Memory) : Type 0 where
  pub sits : (j : ℕ) → j < n → Sane n (server j) (m j)
  pub nobody : (j : ℕ) → n ≤ j → soundness.sound (m j) ≡ false
  pub held : (j : ℕ) → j < n → Held n c (keeps (m j))
  pub mine : (j : ℕ) → j < n → writes_of (server j) (keeps (m j)) ≡ c j

pub record Inv (n : ℕ) (c : Numbered) (f : Farm) : Type 0 where
  pub seats : Seats n c f.servers
  pub flight : Flight n c f.phones f.sent
  pub deeds : Deeds n c f.sent.requests f.ledger

-- a farm that comes after one with these lists
pub record Onward (n : ℕ) (c : Numbered) (f : Farm) : Type 0 where
  pub lists : Numbered
  pub grows : Grows n c lists
  pub inv : Inv n lists f

-- ---- one server's memory becomes another that keeps all of its writes and some more
module _
    (n : ℕ)
    (c : Numbered)
    (m : ℕ → Memory)
    (i : Seats n c m)
    (j : ℕ)
    (low : j < n)
    (b : Memory)
    (sane : Sane n (server j) b)
    (added : List Record)
    (k : Kept (server j) (keeps (m j)) added (keeps b))
    (foreign : (o : ℕ) → o < n → (o ≡ j → ⊥) → Pre (writes_of (server o) (keeps (m j) ++ added)) (c o))
  where
    -- the lists, with what it adds of its own
    abbrev pub next : Numbered
    next = changed c j (c j ++ writes_of (server j) added)

    pub own : next j ≡ c j ++ writes_of (server j) added
    own = changed-same c j (c j ++ writes_of (server j) added)

    theirs : (o : ℕ) → (o ≡ j → ⊥) → next o ≡ c o
    theirs = changed-other c j (c j ++ writes_of (server j) added)

    pub grows : Grows n c next
    grows o l =
        changed-each (λ o x. Pre (c o) x) c j (c j ++ writes_of (server j) added) (λ o q. pre-refl (c o))
        (pre-append (c j) (writes_of (server j) added))
        o

    mine-next : writes_of (server j) (keeps b) ≡ next j
    mine-next =
        k.mine
        ∙ writes_of-append (server j) (keeps (m j)) added
        ∙ ap (λ (l : List Record). l ++ writes_of (server j) added) (i.mine j low)
        ∙ sym own

    held_next : Held n next (keeps b)
    held_next = record { formed = kept-formed n (server j) b sane; begins = λ o l. go o l (ℕ_discrete o j) }
      where
        go : (o : ℕ) → o < n → Dec (o ≡ j) → Pre (writes_of (server o) (keeps b)) (next o)
        go o l (yes e) =
            subst (λ (o : ℕ). Pre (writes_of (server o) (keeps b)) (next o)) (sym e)
            (subst (Pre (writes_of (server j) (keeps b))) mine-next (pre-refl (writes_of (server j) (keeps b))))
        go o l (no q) =
            rw (theirs o q)
            (pre-trans (writes_of (server o) (keeps b)) (writes_of (server o) (keeps (m j) ++ added)) (c o) (k.others (server o)) (foreign o l q))

    pub seats-next : Seats n next (changed m j b)
    seats-next =
        record {
          sits = changed-each (λ i x. i < n → Sane n (server i) x) m j b (λ o q. i.sits o) (λ l. sane);
          nobody = changed-each (λ i x. n ≤ i → soundness.sound x ≡ false) m j b (λ o q. i.nobody o) (λ l. absurd (omega arith));
          held = changed-each (λ i x. i < n → Held n next (keeps x)) m j b (λ o q l. held-grows n c next grows (keeps (m o)) (i.held o l)) (λ l. held_next);
          mine = changed-each (λ i x. i < n → writes_of (server i) (keeps x) ≡ next i) m j b (λ o q l. i.mine o l ∙ sym (theirs o q)) (λ l. mine-next);
        }

    -- what each server has done, where this one began what it added
    pub deeds-next :
        (qs : List Asked) (t u : Ledger)
        → Deeds n c qs t
        → ((o : ℕ) → (o ≡ j → ⊥) → (u.performed o ≡ t.performed o) × (u.begun o ≡ t.begun o))
        → Listed (next j) (u.performed j)
        → ((w : Record) → Begun qs (t.begun j) w → Begun qs (u.begun j) w)
        → ((w : Record) → w ∈ writes_of (server j) added → Begun qs (u.begun j) w)
        → Deeds n next qs u
    deeds-next qs t u x same did old new =
        record {
          performed = λ o l. performed' o l (ℕ_discrete o j);
          begun = λ o l w y. begun' o l w y (ℕ_discrete o j);
        }
      where
        performed' : (o : ℕ) → o < n → Dec (o ≡ j) → Listed (next o) (u.performed o)
        performed' o l (yes e) = subst (λ (o : ℕ). Listed (next o) (u.performed o)) (sym e) did
        performed' o l (no q) = rw (same o q).0 (listed-grows n c next grows o l (t.performed o) (x.performed o l))

        either : (w : Record) → (w ∈ c j) ⊎ (w ∈ writes_of (server j) added) → Begun qs (u.begun j) w
        either w (inl y) = old w (x.begun j low w y)
        either w (inr y) = new w y

        begun' : (o : ℕ) → o < n → (w : Record) → w ∈ next o → Dec (o ≡ j) → Begun qs (u.begun o) w
        begun' o l w y (yes e) =
            subst (λ (o : ℕ). Begun qs (u.begun o) w) (sym e)
            (either w (Memᴰ.append_cases (c j) (subst (λ (l : List Record). w ∈ l) (ap next e ∙ own) y)))
        begun' o l w y (no q) = rw (same o q).1 (x.begun o l w (subst (λ (l : List Record). w ∈ l) (theirs o q) y))

-- numbers run in each list
pub lists-run : (n : ℕ) (c : Numbered) (m : ℕ → Memory) → Seats n c m → (o : ℕ) → o < n → From 0 (c o)
lists-run n c m i o l =
    let s = i.sits o l in
    subst (From 0) (i.mine o l) (kept-runs n (server o) (m o) s (server o) (omega (arith, servers-few n (server o) (m o) s)))

-- nothing happened
pub still : (n : ℕ) (c : Numbered) (f : Farm) → Inv n c f → Onward n c f
still n c f i = record { lists = c; grows = λ o l. pre-refl (c o); inv = i }
