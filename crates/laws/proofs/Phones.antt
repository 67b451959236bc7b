-- Laws of CR and RW: which phones are in a set, and that every change of them keeps RW right.
-- Assumes nothing.
use Prim.Native.Nat.{ℕ, zero, suc, ◌+◌, ◌/◌, ◌%◌, ◌^◌, ◌<◌, ◌≤◌}
use mathlib.Core.Bool.{Bool, true, false, ◌||◌, cond, or-false, or-true}
use mathlib.Core.List.{List, [], ◌∷◌}
use mathlib.Core.Path.{◌≡◌, refl, ap, sym, ◌∙◌}
use native.Mathlib.Nat.{div-one, zero-div, mod-lt, pow-succ', mul-mod_right, mul-div_right}
use native.Mathlib.Numerals.{one-add}
use native.Mathlib.Omega.{arith}
use borrow.Author.Tests.{leb-true, le-leb, eqb-false, eq-eqb}
use lib.Bits.{bit_or, or_shr, or_mod}
use lib.Dec.{eqb, lit<, eqb-zero-suc, eqb-suc-zero, eqb-suc-suc}
use lib.ListN.{get_or, set}
use lib.Pow.{shr-shr}
use lib.Seq.{get_or-set_other}
use Rattle.notes.specs.Index.{phones}
use Rattle.notes.specs.declared.index.PhoneId.{PhoneId}
use Rattle.notes.specs.declared.index.ServerId.{ServerId}
use Rattle.notes.specs.declared.vector.Vector.{Vector}
use Rattle.notes.proofs.Lists.{both}
use Rattle.notes.proofs.Vectors.{zeros-at}
use Rattle.rules.specs.declared.event.Request.{Request}
use Rattle.rules.specs.declared.event.Request.TheVariants.{Read, Write}
use Rattle.rules.specs.declared.state.State.{State}
use Rattle.rules.specs.Memory.{phone, phone_ids, in_set, with_phone, in_cr, rw_at, rw_with, blank, holding, noting}
use Rattle.rules.specs.Sound.{rw_ok, reads_ok}
use Rattle.rules.specs.Request.{noted, cleared}
use Rattle.laws.proofs.Lists.{every-counting, counting-every}

-- ---- sets of phones

-- no phone is in the empty set
pub in-none : (i : PhoneId) → in_set 0 i ≡ false
unfolding in_set
in-none i = rw zero-div

-- phone i + 1 stands where i stands in half the number
in-half : (set i : ℕ) → in_set set (phone (suc i)) ≡ in_set (set / 2) (phone i)
unfolding in_set
in-half set i = ap (λ (x : ℕ). eqb (x % 2) 1) (ap (λ (k : ℕ). set / 2 ^ k) (sym (one-add i)) ∙ sym (shr-shr set 1 i))

-- of two digits, and so of each digit of two numbers, one or the other is 1
digit_or : (x y : ℕ) → x < 2 → y < 2 → eqb (bit_or x y) 1 ≡ (eqb x 1 || eqb y 1)
digit_or zero y h l = refl
digit_or (suc zero) zero h l = refl
digit_or (suc zero) (suc zero) h l = refl
digit_or (suc zero) (suc (suc y)) h l = absurd (omega arith)
digit_or (suc (suc x)) y h l = absurd (omega arith)

in-or : (a b : ℕ) (j : PhoneId) → in_set (bit_or a b) j ≡ (in_set a j || in_set b j)
unfolding in_set
in-or a b j =
    let x = a / 2 ^ j.0 in
    let y = b / 2 ^ j.0 in
    ap (λ (z : ℕ). eqb z 1) (ap (λ (z : ℕ). z % 2) (or_shr a b j.0) ∙ or_mod x y 1)
    ∙ digit_or (x % 2) (y % 2) (mod-lt x {m = 2} (lit< tt)) (mod-lt y {m = 2} (lit< tt))

-- a power of two is the set of one phone
in-power : (i j : ℕ) → in_set (2 ^ i) (phone j) ≡ eqb i j
unfolding in_set
in-power zero zero = refl
in-power zero (suc j) = in-half 1 j ∙ in-none (phone j) ∙ sym (eqb-zero-suc j)
in-power (suc i) zero = rw (div-one, pow-succ', mul-mod_right, eqb-suc-zero)
in-power (suc i) (suc j) =
    in-half (2 ^ suc i) j
    ∙ rw (pow-succ', mul-div_right (2 ^ i) {m = 2} (lit< tt), eqb-suc-suc) (in-power i j)

-- a phone put in is in, and every other stays as it was
pub in-with : (set : ℕ) (i j : PhoneId) → in_set (with_phone set i) j ≡ (in_set set j || eqb i.0 j.0)
unfolding with_phone
in-with set i j = in-or set (2 ^ i.0) j ∙ rw (in-power i.0 j.0)

-- ---- RW is at most nWrites, and zero outside CR

pub record Reads (s : State) : Type 0 where
  pub at : (i : PhoneId) → i.0 < phones → (rw_at s i ≤ s.nwrites) × ((in_cr s i || eqb (rw_at s i) 0) ≡ true)

-- what the test says, and that this is all that it says
module _ (s : State) where
  pub reads-facts : reads_ok s ≡ true → Reads s
  unfolding reads_ok phone_ids
  reads-facts e =
      record {
        at = λ i h.
            let f = both _ _ (every-counting (rw_ok s) phone 0 phones e i.0 (omega arith) (omega arith)) in
            (leb-true (rw_at s i) s.nwrites f.0, f.1);
      }

  pub reads-ok : Reads s → reads_ok s ≡ true
  unfolding reads_ok phone_ids
  reads-ok r =
      counting-every (rw_ok s) phone 0 phones
      (λ j l h. let f = r.at (phone j) (omega arith) in rw (le-leb (rw_at s (phone j)) s.nwrites f.0) f.1)

-- a state of no reads is right whatever CR is
pub no_reads : (s : State) → ((i : PhoneId) → rw_at s i ≡ 0) → reads_ok s ≡ true
no_reads s z =
    reads-ok s (record { at = λ i h. (omega (arith, z i), rw (eq-eqb (rw_at s i) 0 (z i), or-true)) })

pub reads-blank : (up : Bool) (n : ℕ) (own : ServerId) → reads_ok (blank up n own) ≡ true
reads-blank up n own = no_reads (blank up n own) (λ i. zeros-at phones i.0)

pub reads-cleared : (s : State) → reads_ok (cleared s) ≡ true
unfolding cleared
reads-cleared s = no_reads (cleared s) (λ i. zeros-at phones i.0)

-- a write raises nWrites
pub reads_more :
    (s : State) (k : ℕ) (v : Vector)
    → reads_ok s ≡ true
    → reads_ok (noting s.cr s.rw (s.nwrites + 1) (holding k v s)) ≡ true
reads_more s k v e =
    let r = reads-facts s e in
    reads-ok (noting s.cr s.rw (s.nwrites + 1) (holding k v s))
    (record { at = λ i h. let f = r.at i h in (omega (arith, f.0), f.1) })

-- a count stored at one place leaves each at most m, if it is so itself
set-most : (l : List ℕ) (i j k m : ℕ) → k ≤ m → get_or l j 0 ≤ m → get_or (set l i k) j 0 ≤ m
set-most [] i j k m h e = e
set-most (x ∷ l) zero zero k m h e = h
set-most (x ∷ l) zero (suc j) k m h e = e
set-most (x ∷ l) (suc i) zero k m h e = e
set-most (x ∷ l) (suc i) (suc j) k m h e = set-most l i j k m h e

-- a read adds its phone, with nWrites
abbrev with_reader : State → PhoneId → State
with_reader s i = noting (with_phone s.cr i) (rw_with s i s.nwrites) s.nwrites s

reads-added : (s : State) (i : PhoneId) → reads_ok s ≡ true → reads_ok (with_reader s i) ≡ true
reads-added s i e =
    reads-ok (with_reader s i)
    (record {
      at = λ j h.
          let f = (reads-facts s e).at j h in
          let most = set-most s.rw.counts i.0 j.0 s.nwrites s.nwrites (omega arith) f.0 in
          (most, rw in-with (go j (eqb i.0 j.0) refl f.1));
    })
  where
    go :
        (j : PhoneId) (t : Bool)
        → eqb i.0 j.0 ≡ t
        → (in_cr s j || eqb (rw_at s j) 0) ≡ true
        → (in_cr s j || eqb i.0 j.0 || eqb (rw_at (with_reader s i) j) 0) ≡ true
    go j true q f = rw (q, or-true)
    go j false q f =
        let other = get_or-set_other s.rw.counts i.0 j.0 s.nwrites 0 (λ k. eqb-false i.0 j.0 q (sym k)) in
        rw (q, or-false, other) f

-- so does the noting of a request: a write and a second read change nothing of it
pub reads-noted : (s : State) (i : PhoneId) (q : Request) → reads_ok s ≡ true → reads_ok (noted s i q) ≡ true
unfolding noted
reads-noted s i (Read cell) e = go (in_cr s i)
  where
    go : (t : Bool) → reads_ok (cond t s (with_reader s i)) ≡ true
    go true = e
    go false = reads-added s i e
reads-noted s i (Write cell value time) e = e
