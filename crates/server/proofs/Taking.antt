-- Laws of a message's writes in turn: one that is skipped, refused or appended, and the end.
-- Assumes nothing.
use Prim.Native.Nat.{ℕ, suc, ◌+◌, ◌-◌, ◌*◌, ◌≤◌, ◌<◌, max}
use mathlib.Core.Bool.{Bool, true, false, cond}
use mathlib.Core.List.{List, [], ◌∷◌, map, flat_map}
use mathlib.Core.Option.{Option, none, some, some-ne-none}
use mathlib.Core.Path.{◌≡◌, refl, ap, sym, ◌∙◌}
use native.Mathlib.Nat.{add-zero, zero-add}
use native.Mathlib.Omega.{arith}
use borrow.Author.Tests.{ltb-true, lt-ltb, le-leb, lt-leb, eq-eqb, ne_eqb}
use lib.Dec.{leb, eqb}
use lib.ListN.{length, get_or, drop, set}
use lib.Seq.{sets, length-sets}
use Rattle.notes.specs.Lists.{every}
use Rattle.notes.specs.Index.{servers}
use Rattle.notes.specs.Vector.{vector, at, raised}
use Rattle.notes.specs.Record.{record_size, stamp_at, decode, encode, number, well_formed, record_bytes}
use Rattle.notes.specs.declared.index.ServerId.{ServerId}
use Rattle.notes.specs.declared.record.Record.{Record}
use Rattle.notes.specs.declared.vector.Vector.{Vector}
use Rattle.notes.proofs.Lists.{both, sets-append}
use Rattle.notes.proofs.Numbers.{from_one}
use Rattle.notes.proofs.Records.{length-encode}
use Rattle.notes.proofs.Vectors.{length-vector_from}
use Rattle.rules.specs.declared.answer.Refusal.{Refusal}
use Rattle.rules.specs.declared.answer.Refusal.TheVariants.{Gap, OwnAhead}
use Rattle.rules.specs.Step.{Turn, skipped, appended, refuses, at_turn, vector_after, Taken, and_then, taken}
use Rattle.laws.proofs.Lists.{every_drop, every-weaker}
use Rattle.laws.proofs.Sound.{formed-origin}
use Rattle.memory.proofs.Listed.{listed-done, listed-rest}
use Rattle.server.specs.Forms.{origin_ok, Listed, ended, seen, ahead}

-- records well formed for some of the eight have origins of the eight
pub formed-origins : (n : ℕ) (rs : List Record) → n ≤ servers → every (well_formed n) rs ≡ true → every origin_ok rs ≡ true
formed-origins n rs few =
    every-weaker (well_formed n) origin_ok (λ r w. lt-ltb r.origin.0 servers (omega (arith, formed-origin n r w))) rs

-- a record's first byte is its origin
pub origin-is : (w : List ℕ) → (decode w).origin ≡ record { 0 = get_or w 0 0 }
unfolding decode
origin-is w = λ j. record { 0 = from_one 0 w j }

-- some new ones stand before what is seen
abbrev pub seen_behind : ℕ → Taken → Option Refusal × ℕ × Vector
seen_behind k t = ended t.refusal (k + length t.new) t.vector

pub none-taken : (t : Taken) → seen t ≡ seen_behind 0 t
none-taken t = rw zero-add

abbrev above : Vector → Record → Type 0
above v r = at v r.origin < number r

-- ---- one write
module _ (own : ServerId) (v : Vector) (r : Record) (rs : List Record) where
  skips : number r ≤ at v r.origin → taken own v (r ∷ rs) ≡ taken own v rs
  unfolding taken at_turn
  skips h = rw (le-leb (number r) (at v r.origin) h)

  module _ (h : above v r) (k : ℕ) where
    own-ahead : eqb r.origin.0 own.0 ≡ true → seen_behind k (taken own v (r ∷ rs)) ≡ ended (some OwnAhead) 0 v
    unfolding taken at_turn
    own-ahead e = rw (lt-leb (number r) (at v r.origin) h, e)

    module _ (other : eqb r.origin.0 own.0 ≡ false) where
      gap : (number r ≡ at v r.origin + 1 → ⊥) → seen_behind k (taken own v (r ∷ rs)) ≡ ended (some Gap) 0 v
      unfolding taken at_turn
      gap e =
          rw (
            lt-leb (number r) (at v r.origin) h,
            other,
            ne_eqb (number r) (at v r.origin + 1) e,
          )

      appends :
          number r ≡ at v r.origin + 1
          → seen_behind k (taken own v (r ∷ rs)) ≡ seen_behind (k + 1) (taken own (raised v r.origin (number r)) rs)
      unfolding taken at_turn
      appends e =
          let t = taken own (raised v r.origin (number r)) rs in
          let m : k + suc (length t.new) ≡ k + 1 + length t.new = omega arith in
          rw (
            lt-leb (number r) (at v r.origin) h,
            other,
            eq-eqb (number r) (at v r.origin + 1) e,
          )
          (ap (λ (n : ℕ). ended t.refusal n t.vector) m)

-- ---- record k of some
abbrev this : List (List ℕ) → ℕ → Record
this b k = decode (get_or b k [])

-- the byte that is its origin
abbrev byte : List (List ℕ) → ℕ → ℕ
byte b k = get_or (get_or b k []) 0 0

abbrev from : List (List ℕ) → ℕ → List Record
from b k = drop k (map decode b)

pub all-taken :
    (b : List (List ℕ)) (k : ℕ) → length b ≤ k → (v : Vector) (own : ServerId) (new : ℕ) → seen_behind new (taken own v (from b k)) ≡ ended none new v
unfolding taken
all-taken b k h v own new = rw (listed-done b k h, add-zero)

module _ (b : List (List ℕ)) (k : ℕ) (h : k < length b) where
  next : from b k ≡ this b k ∷ from b (k + 1)
  next = listed-rest b k h []

  -- its number can be read
  pub listed-item :
      Listed b
      → ((i : ℕ) → i < length b → length (get_or b i []) ≡ record_size)
      → (record_size ≤ length (get_or b k [])) × (byte b k < servers)
  unfolding every
  listed-item w long =
      let e = rw next at (every_drop origin_ok k (map decode b) w) in
      let o : (this b k).origin.0 ≡ byte b k = ap (λ (s : ServerId). s.0) (origin-is (get_or b k [])) in
      (omega (arith, long k h), omega (arith, ltb-true (this b k).origin.0 servers (both (origin_ok (this b k)) _ e).0))

  -- the count that V has of its origin, and its number
  module _
      (v : Vector) (known n : ℕ)
      (counted : known ≡ at v (record { 0 = byte b k }))
      (numbered : n ≡ number (this b k)) where
    known-is : known ≡ at v (this b k).origin
    known-is = counted ∙ ap (at v) (sym (origin-is (get_or b k [])))

    module _ (own : ServerId) where
      abbrev pub left : Taken
      left = taken own v (from b k)

      pub skips-at : n ≤ known → left ≡ taken own v (from b (k + 1))
      skips-at low = rw next (skips own v (this b k) (from b (k + 1)) (omega (arith, known-is, numbered)))

      module _ (high : known < n) (new : ℕ) where
        higher : above v (this b k)
        higher = omega (arith, known-is, numbered)

        pub own_at : eqb (byte b k) own.0 ≡ true → seen_behind new left ≡ ended (some OwnAhead) 0 v
        own_at e = rw next (own-ahead own v (this b k) (from b (k + 1)) higher new (rw origin-is e))

        module _ (other : eqb (byte b k) own.0 ≡ false) where
          differs : eqb (this b k).origin.0 own.0 ≡ false
          differs = rw origin-is other

          pub gap_at : (n - known ≡ 1 → ⊥) → seen_behind new left ≡ ended (some Gap) 0 v
          gap_at e = rw next (gap own v (this b k) (from b (k + 1)) higher new differs (λ q. e (omega (arith, known-is, numbered, q))))

          pub appends-at :
              n - known ≡ 1
              → seen_behind new left ≡ seen_behind (new + 1) (taken own (raised v (this b k).origin (number (this b k))) (from b (k + 1)))
          appends-at e = rw next (appends own v (this b k) (from b (k + 1)) higher new differs (omega (arith, known-is, numbered)))

-- ---- the bytes of new writes

-- where nothing is refused, the new writes are those above V at their turn
pub taken-ahead :
    (own : ServerId) (v : Vector) (rs : List Record) → (taken own v rs).refusal ≡ none → (taken own v rs).new ≡ ahead v rs
unfolding taken at_turn ahead
taken-ahead own v [] e = refl
taken-ahead own v (r ∷ rs) e =
    go (leb (number r) (at v r.origin)) (eqb r.origin.0 own.0) (eqb (number r) (at v r.origin + 1))
    (taken-ahead own v rs)
    (taken-ahead own (raised v r.origin (number r)) rs)
    e
  where
    turn : Bool → Bool → Bool → Turn
    turn low mine exact = cond low skipped (cond mine (refuses OwnAhead) (cond exact appended (refuses Gap)))

    As : Vector → Type 0
    As w = (taken own w rs).refusal ≡ none → (taken own w rs).new ≡ ahead w rs

    go :
        (low mine exact : Bool)
        → As v
        → As (raised v r.origin (number r))
        → (and_then (turn low mine exact) v r (taken own (vector_after (turn low mine exact) v r) rs)).refusal ≡ none
        → (and_then (turn low mine exact) v r (taken own (vector_after (turn low mine exact) v r) rs)).new ≡ cond low (ahead v rs) (r ∷ ahead (raised v r.origin (number r)) rs)
    go true mine exact a b e = a e
    go false true exact a b e = absurd (some-ne-none OwnAhead e)
    go false false true a b e = ap (λ (l : List Record). r ∷ l) (b e)
    go false false false a b e = absurd (some-ne-none Gap e)

-- a record stored, and the others behind it
stored_more :
    (w : List ℕ) (l : List ℕ) (end : ℕ) (rs : List Record)
    → sets l end (record_bytes (decode w ∷ rs)) ≡ sets (sets l end (encode (decode w))) (end + record_size) (record_bytes rs)
unfolding record_bytes flat_map decode
stored_more w l end rs =
    rw (sets-append l (encode (decode w)) (record_bytes rs) end, length-encode (decode w) (length-vector_from (drop stamp_at w)))

-- record by record: what is left to store gives the whole, and has room
module _ (b : List (List ℕ)) (whole : List ℕ) where
  pub record Copied (k : ℕ) (v : Vector) (l : List ℕ) (end : ℕ) : Type 0 where
    pub room : end + record_size * length (ahead v (from b k)) ≤ length l
    pub goes : sets l end (record_bytes (ahead v (from b k))) ≡ whole

  module _ (k : ℕ) (v : Vector) (l : List ℕ) (end : ℕ) (s : Copied k v l end) where
    pub copied_all : length b ≤ k → l ≡ whole
    unfolding ahead record_bytes flat_map
    copied_all h = rw (listed-done b k h) at s.goes

    module _ (h : k < length b) (n : ℕ) (numbered : n ≡ number (this b k)) where
      counted : at v (this b k).origin ≡ get_or v.counts (byte b k) 0
      counted = ap (at v) (origin-is (get_or b k []))

      pub copied-skips : n ≤ get_or v.counts (byte b k) 0 → Copied (k + 1) v l end
      unfolding ahead
      copied-skips low =
          let e : ahead v (from b k) ≡ ahead v (from b (k + 1)) =
          rw (next b k h, le-leb (number (this b k)) (at v (this b k).origin) (omega (arith, counted, numbered))) in
          record { room = rw e at s.room; goes = rw e at s.goes }

      module _ (high : get_or v.counts (byte b k) 0 < n) where
        -- V with the count of its origin at its number
        abbrev after : Vector
        after = vector (set v.counts (byte b k) n)

        raised_at : raised v (this b k).origin (number (this b k)) ≡ after
        unfolding raised
        raised_at =
            let m : max (at v (this b k).origin) (number (this b k)) ≡ n = omega (arith, counted, numbered) in
            rw m (ap (λ (x : ServerId). vector (set v.counts x.0 n)) (origin-is (get_or b k [])))

        ahead_more : ahead v (from b k) ≡ this b k ∷ ahead after (from b (k + 1))
        unfolding ahead
        ahead_more = rw (next b k h, lt-leb (number (this b k)) (at v (this b k).origin) (omega (arith, counted, numbered)), raised_at)

        pub copied-room : end + record_size ≤ length l
        copied-room = let q = rw ahead_more at s.room in omega arith

        pub copied_more : Copied (k + 1) (vector (set v.counts (byte b k) n)) (sets l end (encode (this b k))) (end + record_size)
        copied_more =
            let q = rw ahead_more at s.room in
            record {
              room = rw length-sets (omega arith);
              goes = sym (stored_more (get_or b k []) l end _) ∙ rw ahead_more at s.goes;
            }
