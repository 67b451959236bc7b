-- Where a write stands among records, and in an image; what a look-up refuses.
-- Assumes nothing.
use Prim.Native.Nat.{ℕ, suc, ◌+◌, ◌*◌, ◌≤◌, ◌<◌}
use mathlib.Core.Bool.{Bool, true, false, not}
use mathlib.Core.List.{List, [], ◌∷◌, map as list_map}
use Rattle.std.specs.List.{position_from}
use mathlib.Core.Option.{Option, none, some, map, some-ne-none}
use mathlib.Core.Path.{◌≡◌, refl, sym, ◌∙◌}
use native.Mathlib.Nat.{add-zero, zero-add}
use native.Mathlib.Numerals.{add-one}
use native.Mathlib.Omega.{arith}
use borrow.Author.Tests.{eq-eqb, ne_eqb, lt-ltb, le-ltb, ltb-true, ltb-false, not-false}
use lib.Dec.{ltb, eqb}
use lib.ListN.{length, get_or, take, drop, drop_of_length-le}
use lib.Seq.{drop-cons, drop-drop}
use Rattle.notes.specs.Reply.{given, or_else}
use Rattle.notes.specs.Index.{servers}
use Rattle.notes.specs.Record.{record_size, decode, records, number}
use Rattle.notes.specs.declared.index.ServerId.{ServerId}
use Rattle.notes.specs.declared.record.Record.{Record}
use Rattle.notes.proofs.Lists.{both}
use Rattle.notes.proofs.Numbers.{from_one}
use Rattle.notes.proofs.Records.{length-records, record-at}
use Rattle.rules.specs.declared.answer.Refusal.TheVariants.{OutOfRange, Unsound, TooShort}
use Rattle.rules.specs.Image.{history_size, log_most, image_size, image_n, image_own, checkpoint_count, log_count, header_ok, checkpoint_area, log_area, checkpoint, log, checkpoint_place, log_place}
use Rattle.rules.specs.Sound.{suits}
use Rattle.rules.specs.Calls.{is_numbered, or_later, place_of, reply_unless, look_up_refusal}
use Rattle.laws.proofs.Places.{part_in, records-in}
use Rattle.laws.proofs.Passed.{ungiven}
use Rattle.memory.specs.Forms.{Sized}
use Rattle.memory.proofs.Tested.{limits}
use Rattle.std.specs.Prelude.{Result, Ok, Err, Some, None, IfOk}
use Rattle.std.specs.Prelude.{Option as Maybe}
use Rattle.rules.specs.declared.answer.Refusal.{Refusal}
use Rattle.rules.specs.Answer.{verdict_refusal}
use Rattle.notes.specs.Message.{history_most}
use Rattle.calls.specs.Forms.{placed}
use Rattle.calls.specs.Place.{place_reply, found_reply}

module _ (o : ServerId) (n : ℕ) where
  -- the origin's byte decides, or else the number
  module _ (b : List ℕ) where
    pub other-origin : (get_or b 0 0 ≡ o.0 → ⊥) → is_numbered o n (decode b) ≡ false
    unfolding decode
    other-origin h = rw (from_one 0 b, ne_eqb (get_or b 0 0) o.0 h)

    pub number-decides : get_or b 0 0 ≡ o.0 → is_numbered o n (decode b) ≡ eqb (number (decode b)) n
    unfolding decode
    number-decides h = rw (from_one 0 b, eq-eqb (get_or b 0 0) o.0 h)

  -- what is found stands among the records looked at
  place-below : (l : List Record) (p : ℕ) → place_of o n l ≡ some p → p < length l
  unfolding place_of
  place-below [] p e = absurd (some-ne-none p (sym e))
  place-below (r ∷ l) p e = go (is_numbered o n r) (place_of o n l) (place-below l) e
    where
      go : (b : Bool) (x : Option ℕ) → ((j : ℕ) → x ≡ some j → j < length l) → or_later b x ≡ some p → p < suc (length l)
      go true x h e = let z : 0 ≡ p = cc in omega arith
      go false none h e = absurd (some-ne-none p (sym e))
      go false (some j) h e = let z : suc j ≡ p = cc in omega (arith, h j refl)

  module _ (k : ℕ) (b : List ℕ) where
    pub place-among : (p : ℕ) → place_of o n (records k b) ≡ some p → p < k
    place-among p e = rw length-records at (place-below (records k b) p e)

  -- ---- the first of the records with these bytes
  abbrev test : List ℕ → Bool
  test x = is_numbered o n (decode x)

  abbrev behind : ℕ → Option ℕ → Option ℕ
  behind j none = none
  behind j (some p) = some (j + p)

  placed-from : (i : ℕ) (b : List (List ℕ)) → placed (position_from test i b) ≡ behind i (place_of o n (list_map decode b))
  unfolding place_of
  placed-from i [] = refl
  placed-from i (x ∷ b) = go (test x) refl (placed-from (i + 1) b)
    where
      next : (r : Option ℕ) → behind (i + 1) r ≡ behind i (map suc r)
      next none = refl
      next (some p) = let q : i + 1 + p ≡ i + suc p = omega arith in rw q

      go :
          (t : Bool)
          → test x ≡ t
          → placed (position_from test (i + 1) b) ≡ behind (i + 1) (place_of o n (list_map decode b))
          → placed (position_from test i (x ∷ b)) ≡ behind i (or_later (test x) (place_of o n (list_map decode b)))
      go true e h = rw (e, add-zero)
      go false e h = rw e (h ∙ next (place_of o n (list_map decode b)))

  pub first-placed : (b : List (List ℕ)) → placed (position_from test 0 b) ≡ place_of o n (list_map decode b)
  first-placed b = placed-from 0 b ∙ go (place_of o n (list_map decode b))
    where
      go : (r : Option ℕ) → behind 0 r ≡ r
      go none = refl
      go (some p) = rw zero-add

-- ---- in an image

-- it suits its own N and own number, read as bytes
abbrev pub suited : List ℕ → Bool
suited i = suits (get_or i 0 0) (record { 0 = get_or i 1 0 }) i

is-suited : (i : List ℕ) → suits (image_n i) (image_own i) i ≡ suited i
is-suited i = rw (from_one 0 i, from_one 1 i)

-- what is known of an image that is not refused: its counts are not too great, and the origin is one of the eight
pub record Accepted (i : List ℕ) (o : ServerId) : Type 0 where
  pub image : Sized i
  pub origin : o.0 < servers

-- where a write stands there are so many records at the most
module _ (i : List ℕ) (o : ServerId) (n : ℕ) (s : Sized i) (k : ℕ) where
  pub kept-below : place_of o n (checkpoint i) ≡ some k → k < history_most
  unfolding checkpoint
  kept-below e = omega (arith, s.kept, place-among o n (checkpoint_count i) (checkpoint_area i) k e)

  pub logged-below : place_of o n (log i) ≡ some k → k < log_most
  unfolding log
  logged-below e = omega (arith, s.logged, place-among o n (log_count i) (log_area i) k e)

-- what is refused, or where it stands, is the reply
pub place-replied :
    (r : Result (Maybe ℕ) Refusal) (q : Option Refusal) (p : Option ℕ)
    → verdict_refusal r ≡ q
    → IfOk r (λ x. placed x ≡ p)
    → found_reply r ≡ reply_unless q (place_reply p)
place-replied (Ok (Some x)) q p e f = rw (← e, ← f)
place-replied (Ok None) q p e f = rw (← e, ← f)
place-replied (Err k) q p e f = rw (← e)

module _ (i : List ℕ) (o : ServerId) where
  -- ---- what a look-up refuses
  pub look-9 : length i < image_size → look_up_refusal i o ≡ some TooShort
  unfolding look_up_refusal
  look-9 h = rw (lt-ltb (length i) image_size h)

  module _ (long : image_size ≤ length i) where
    pub look-6 : suited i ≡ false → look_up_refusal i o ≡ some Unsound
    unfolding look_up_refusal
    look-6 e = rw (le-ltb (length i) image_size long, is-suited, e)

    module _ (ok : suited i ≡ true) where
      pub look-1 : get_or i 0 0 ≤ o.0 → look_up_refusal i o ≡ some OutOfRange
      unfolding look_up_refusal
      look-1 h = rw (le-ltb (length i) image_size long, is-suited, ok, from_one 0 i, le-ltb o.0 (get_or i 0 0) h)

      pub look-passed : o.0 < get_or i 0 0 → look_up_refusal i o ≡ none
      unfolding look_up_refusal
      look-passed h = rw (le-ltb (length i) image_size long, is-suited, ok, from_one 0 i, lt-ltb o.0 (get_or i 0 0) h)

  pub accepted : look_up_refusal i o ≡ none → Accepted i o
  unfolding look_up_refusal suits
  accepted e =
      let row3 = given (not (ltb o.0 (image_n i))) OutOfRange ∷ [] in
      let sound = suits (image_n i) (image_own i) i in
      let a = ungiven (ltb (length i) image_size) TooShort (given (not sound) Unsound ∷ row3) e in
      let b = ungiven (not sound) Unsound row3 a.1 in
      let c = ungiven (not (ltb o.0 (image_n i))) OutOfRange [] b.1 in
      let l = limits (image_n i) (image_own i) i (ltb-false (length i) image_size a.0) (both (header_ok (image_n i) (image_own i) i) _ (not-false _ b.0)).0 in
      record { image = l.image; origin = omega (arith, l.few, ltb-true o.0 (image_n i) (not-false _ c.0)) }
