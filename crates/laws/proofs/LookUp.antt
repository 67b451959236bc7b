-- What a look-up finds: a record of the checkpoint or else of the log with that origin and number, or none.
-- Assumes nothing.
use Prim.Native.Nat.{ℕ, suc, ◌+◌, ◌*◌, ◌<◌}
use mathlib.Core.Bool.{Bool, true, false, true≢false}
use mathlib.Core.List.Memᴰ
use mathlib.Core.List.{List, [], ◌∷◌, ◌++◌, Memᴰ}
use mathlib.Core.Logic.{◌⊎◌, inl, inr}
use mathlib.Core.Option.{Option, none, some, map, some-injective, none-ne-some, some-ne-none}
use mathlib.Core.Path.{◌≡◌, refl, ap, sym, subst, ◌∙◌}
use native.Mathlib.Omega.{arith}
use lib.ListN.{length, get_or, take, drop}
use lib.Seq.{drop-drop}
use Rattle.notes.specs.Reply.{or_else}
use Rattle.notes.specs.Record.{record_size, decode, records}
use Rattle.notes.specs.declared.index.ServerId.{ServerId}
use Rattle.notes.specs.declared.record.Record.{Record}
use Rattle.notes.proofs.Records.{length-records, record-at}
use Rattle.rules.specs.Image.{checkpoint_at, log_at, checkpoint_count, log_count, checkpoint, log, checkpoint_place, log_place}
use Rattle.rules.specs.Calls.{is_numbered, or_later, place_of, stands_at, bytes_at}

module _ (o : ServerId) (k : ℕ) where
  -- ---- among records: the place of the first, or none
  none_among : (r : Record) (rs : List Record) → place_of o k rs ≡ none → Memᴰ r rs → is_numbered o k r ≡ false
  unfolding place_of
  none_among r rs e (Memᴰ.head {x = x} {xs = xs} p) = ap (is_numbered o k) p ∙ go (is_numbered o k x) refl e
    where
      go : (t : Bool) → is_numbered o k x ≡ t → or_later t (place_of o k xs) ≡ none → is_numbered o k x ≡ false
      go true q e = absurd (some-ne-none 0 e)
      go false q e = q
  none_among r rs e (Memᴰ.tail {x = x} {xs = xs} m) = none_among r xs (go (is_numbered o k x) (place_of o k xs) e) m
    where
      go : (t : Bool) (later : Option ℕ) → or_later t later ≡ none → later ≡ none
      go true later e = absurd (some-ne-none 0 e)
      go false none e = refl
      go false (some p) e = absurd (some-ne-none (suc p) e)

  place_none : (rs : List Record) → place_of o k rs ≡ none → (r : Record) → Memᴰ r rs → is_numbered o k r ≡ false
  place_none rs e r m = none_among r rs e m

  none-place : (rs : List Record) → ((r : Record) → Memᴰ r rs → is_numbered o k r ≡ false) → place_of o k rs ≡ none
  unfolding place_of
  none-place [] h = refl
  none-place (x ∷ xs) h = rw (h x (Memᴰ.head refl), none-place xs (λ r m. h r (Memᴰ.tail m)))

  -- otherwise the record at the place is so numbered
  abbrev Placed : List Record → Record → ℕ → Type 0
  Placed rs d p = (p < length rs) × Memᴰ (get_or rs p d) rs × (is_numbered o k (get_or rs p d) ≡ true)

  place-some : (rs : List Record) (d : Record) (p : ℕ) → place_of o k rs ≡ some p → Placed rs d p
  unfolding place_of
  place-some [] d p e = absurd (none-ne-some p e)
  place-some (x ∷ xs) d p e = go (is_numbered o k x) refl (place_of o k xs) (place-some xs d) e
    where
      go :
          (t : Bool)
          → is_numbered o k x ≡ t
          → (later : Option ℕ)
          → ((p : ℕ) → later ≡ some p → Placed xs d p)
          → or_later t later ≡ some p
          → Placed (x ∷ xs) d p
      go true q later rest e = subst (Placed (x ∷ xs) d) (some-injective 0 p e) (omega arith, Memᴰ.head refl, q)
      go false q none rest e = absurd (none-ne-some p e)
      go false q (some a) rest e =
          let r = rest a refl in
          subst (Placed (x ∷ xs) d) (some-injective (suc a) p e) (omega (arith, r.0), Memᴰ.tail r.1, r.2)

  module _ (i : List ℕ) where
    abbrev in-checkpoint : Option ℕ
    in-checkpoint = place_of o k (checkpoint i)

    abbrev in-log : Option ℕ
    in-log = place_of o k (log i)

    -- ---- none exactly if no record of checkpoint or log has that origin and number
    pub stands-none : stands_at i o k ≡ none → (r : Record) → Memᴰ r (checkpoint i ++ log i) → is_numbered o k r ≡ false
    unfolding stands_at
    stands-none e r m = go in-checkpoint in-log refl refl e (Memᴰ.append_cases (checkpoint i) m)
      where
        go :
            (a b : Option ℕ)
            → in-checkpoint ≡ a
            → in-log ≡ b
            → or_else (map checkpoint_place a) (map log_place b) ≡ none
            → Memᴰ r (checkpoint i) ⊎ Memᴰ r (log i)
            → is_numbered o k r ≡ false
        go (some a) b p q e m = absurd (some-ne-none (checkpoint_place a) e)
        go none (some b) p q e m = absurd (some-ne-none (log_place b) e)
        go none none p q e (inl m) = place_none (checkpoint i) p r m
        go none none p q e (inr m) = place_none (log i) q r m

    pub none-stands : ((r : Record) → Memᴰ r (checkpoint i ++ log i) → is_numbered o k r ≡ false) → stands_at i o k ≡ none
    unfolding stands_at
    none-stands h =
        rw (
          none-place (checkpoint i) (λ r m. h r (Memᴰ.append_left (log i) m)),
          none-place (log i) (λ r m. h r (Memᴰ.append_right (checkpoint i) m)),
        )

    -- ---- else the bytes of such a record, as they stand
    pub stands-some :
        (p : ℕ)
        → stands_at i o k ≡ some p
        → (r : Record) × Memᴰ r (checkpoint i ++ log i) × (is_numbered o k r ≡ true) × (decode (bytes_at i (some p)) ≡ r)
    unfolding stands_at checkpoint log
    stands-some p e = go in-checkpoint in-log refl refl e
      where
        there : (p : ℕ) → Type 0
        there p = (r : Record) × Memᴰ r (checkpoint i ++ log i) × (is_numbered o k r ≡ true) × (decode (take record_size (drop p i)) ≡ r)

        -- the record at a place of an area
        stands : (count from a : ℕ) → a < count → decode (take record_size (drop (from + record_size * a) i)) ≡ get_or (records count (drop from i)) a (decode [])
        stands count from a low = sym (record-at count (drop from i) a low ∙ rw drop-drop)

        go :
            (a b : Option ℕ)
            → in-checkpoint ≡ a
            → in-log ≡ b
            → or_else (map checkpoint_place a) (map log_place b) ≡ some p
            → there p
        go (some a) b x y e =
            let f = place-some (checkpoint i) (decode []) a x in
            let low : a < checkpoint_count i = rw length-records at f.0 in
            subst there (some-injective (checkpoint_place a) p e)
            (get_or (checkpoint i) a (decode []), Memᴰ.append_left (log i) f.1, f.2, stands (checkpoint_count i) checkpoint_at a low)
        go none (some b) x y e =
            let f = place-some (log i) (decode []) b y in
            let low : b < log_count i = rw length-records at f.0 in
            subst there (some-injective (log_place b) p e)
            (get_or (log i) b (decode []), Memᴰ.append_right (checkpoint i) f.1, f.2, stands (log_count i) log_at b low)
        go none none x y e = absurd (none-ne-some p e)

    -- ---- the checkpoint's before the log's
    pub stands-first :
        (r : Record)
        → Memᴰ r (checkpoint i)
        → is_numbered o k r ≡ true
        → (a : ℕ) × (a < checkpoint_count i) × (stands_at i o k ≡ some (checkpoint_place a))
    unfolding stands_at checkpoint
    stands-first r m e = go in-checkpoint refl
      where
        go : (a : Option ℕ) → in-checkpoint ≡ a → (a : ℕ) × (a < checkpoint_count i) × (or_else (map checkpoint_place in-checkpoint) (map log_place in-log) ≡ some (checkpoint_place a))
        go none x = absurd (true≢false (sym e ∙ place_none (checkpoint i) x r m))
        go (some a) x = (a, rw length-records at (place-some (checkpoint i) (decode []) a x).0, rw x)
