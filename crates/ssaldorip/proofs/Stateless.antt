-- What the calls without a state answer: a place or a number.
-- Assumes nothing.
use Prim.Native.Nat.{ℕ, ◌≤◌, ◌<◌}
use mathlib.Core.List.{List, [], ◌∷◌}
use mathlib.Core.Option.{Option, none, some, map, some-ne-none}
use mathlib.Core.Path.{◌≡◌, refl, sym, ap, ◌∙◌}
use native.Mathlib.Omega.{arith}
use lib.ListN.{get_or}
use Rattle.std.specs.Prelude.{Result}
use Rattle.std.specs.Prelude.{Option as Maybe}
use Rattle.notes.specs.Reply.{Reply, done, or_else}
use Rattle.notes.specs.declared.index.ServerId.{ServerId}
use Rattle.rules.specs.declared.answer.Refusal.{Refusal}
use Rattle.rules.specs.Image.{image_size, checkpoint_at, checkpoint_count, log_count, checkpoint_place, log_place, checkpoint_area, log_area, checkpoint, log}
use Rattle.rules.specs.Calls.{place_of, stands_at, look_up_refusal, reply_unless}
use Rattle.calls.specs.Place.{place_reply, found_reply}
use Rattle.calls.proofs.LookUp.{Accepted, accepted, place-among}
use Rattle.ssaldorip.specs.Calls.{place_or_number}

-- ---- a look-up

-- a reply's first value, or its number where it has none
abbrev pub value_or : Reply → ℕ
value_or r = get_or r.values 0 r.number

place-or-number : (x : Option Refusal) (y : Option ℕ) → value_or (reply_unless x (place_reply y)) ≡ place_or_number x y
unfolding place_or_number
place-or-number (some k) y = refl
place-or-number none (some p) = refl
place-or-number none none = refl

pub found_is :
    (a : Result (Maybe ℕ) Refusal) (x : Option Refusal) (y : Option ℕ)
    → found_reply a ≡ reply_unless x (place_reply y)
    → value_or (found_reply a) ≡ place_or_number x y
found_is a x y e = ap value_or e ∙ place-or-number x y

module _ (i : List ℕ) (o : ServerId) (n p : ℕ) where
  -- a place is past the image's header, so it is no refusal's number
  pub stands-past : stands_at i o n ≡ some p → checkpoint_at ≤ p
  unfolding stands_at
  stands-past e = go (place_of o n (checkpoint i)) (place_of o n (log i)) e
    where
      go : (x y : Option ℕ) → or_else (map checkpoint_place x) (map log_place y) ≡ some p → checkpoint_at ≤ p
      go (some k) y e = let z : checkpoint_place k ≡ p = cc in omega arith
      go none (some k) e = let z : log_place k ≡ p = cc in omega arith
      go none none e = absurd (some-ne-none p (sym e))

  -- and within the image
  stands-within : look_up_refusal i o ≡ none → stands_at i o n ≡ some p → p < image_size
  unfolding stands_at checkpoint log
  stands-within r e =
      go
      (accepted i o r)
      (place_of o n (checkpoint i))
      (place_of o n (log i))
      (place-among o n (checkpoint_count i) (checkpoint_area i))
      (place-among o n (log_count i) (log_area i))
      e
    where
      go :
          Accepted i o
          → (x y : Option ℕ)
          → ((k : ℕ) → x ≡ some k → k < checkpoint_count i)
          → ((k : ℕ) → y ≡ some k → k < log_count i)
          → or_else (map checkpoint_place x) (map log_place y) ≡ some p
          → p < image_size
      go a (some k) y f g e = let z : checkpoint_place k ≡ p = cc in omega (arith, f k refl)
      go a none (some k) f g e = let z : log_place k ≡ p = cc in omega (arith, g k refl)
      go a none none f g e = absurd (some-ne-none p (sym e))

  pub place-within : done (p ∷ []) ≡ reply_unless (look_up_refusal i o) (place_reply (stands_at i o n)) → p < image_size
  place-within e = go (look_up_refusal i o) (stands_at i o n) stands-within (ap (λ (r : Reply). r.values) e)
    where
      go :
          (x : Option Refusal) (y : Option ℕ)
          → (x ≡ none → y ≡ some p → p < image_size)
          → p ∷ [] ≡ (reply_unless x (place_reply y)).values
          → p < image_size
      go (some k) y f e = let z : ◌≡◌ {A = ℕ} 0 1 = cc in absurd (omega arith)
      go none (some q) f e = f refl (cc)
      go none none f e = let z : ◌≡◌ {A = ℕ} 0 1 = cc in absurd (omega arith)
