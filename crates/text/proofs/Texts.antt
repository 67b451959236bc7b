-- Laws of text in an output: texts one behind the other.
-- Assumes nothing.
use Prim.Native.Nat.{ℕ, suc, ◌+◌, ◌*◌, ◌<◌, ◌≤◌}
use mathlib.Core.List.{List, [], ◌∷◌, ◌++◌, flat_map, append-nil}
use mathlib.Core.Path.{◌≡◌, refl, ap, sym, ◌∙◌}
use native.Mathlib.Nat.{zero-add, mul-le-mul_left}
use native.Mathlib.Numerals.{unary_clauses}
use native.Mathlib.Omega.{arith}
use borrow.Author.Tests.{lt-ltb, le-ltb}
use lib.Dec.{ltb}
use lib.ListN.{length, get_or, set, length-append}
use lib.Seq.{length-sets}
use denote.Param.Members.{Mut}
use denote.Ref.{MutBor}
use Rattle.notes.specs.Reply.{given}
use Rattle.notes.specs.Message.{filled, fill_unless}
use Rattle.notes.specs.declared.message.Refusal.TheVariants.{TooShort}
use Rattle.std.specs.Prelude.{Ok, Err}
use Rattle.notes.proofs.Lists.{flat_map-append, sets-append, sets-front}
use Rattle.std.specs.Array.{IsMapOf}
use Rattle.std.specs.Fn.{Called}
use Rattle.std.proofs.lemmas.Grind.{same_number_lists}
use Rattle.text.specs.Text.{spaced, Stored, Blank, Added, HasRoom}
use Rattle.text.specs.declared.print.Page.{Page}
use Rattle.text.proofs.Decimals.{length-spaced}

mul-more : (k m n : ℕ) → m < n → k * m + k ≤ k * n
mul-more k m n h = let most = simp unary_clauses at (mul-le-mul_left {m = suc m} {n = n} k h) in omega arith

module _ {out : List ℕ} {at : ℕ} {a : List ℕ} {mid : ℕ} {between : List ℕ} where
  -- a text, and another behind it
  pub then : {b : List ℕ} {end : ℕ} {after : List ℕ} → Stored out at a mid between → Stored between mid b end after → Stored out at (a ++ b) end after
  then {b} p q =
      record {
        ends = omega (arith, p.ends, q.ends, length-append a b);
        bytes = q.bytes ∙ rw (p.bytes, p.ends, sets-append out a b at);
      }

  pub same-room : Stored out at a mid between → length between ≡ length out
  same-room p = ap length p.bytes ∙ length-sets out at a

  -- a text of at most k bytes
  pub within : (k : ℕ) → length a ≤ k → Stored out at a mid between → (mid ≤ at + k) × (length between ≡ length out)
  within k h p = (omega (arith, p.ends), same-room p)

  -- the same text, said in another way
  pub same_text : {b : List ℕ} → a ≡ b → Stored out at a mid between → Stored out at b mid between
  same_text e p = record { ends = rw (← e) p.ends; bytes = rw (← e) p.bytes }

-- a single byte
pub one_byte : (out : List ℕ) (at x : ℕ) → Stored out at (x ∷ []) (at + 1) (set out at x)
one_byte out at x = record { ends = refl; bytes = refl }

-- nothing yet
no_text : (out : List ℕ) (at : ℕ) → Stored out at [] at out
no_text out at = record { ends = omega arith; bytes = refl }

-- ---- pages
module _ {p : Page} {a : List ℕ} {q : Page} where
  -- a text on a page, and another behind it
  pub added-then : {b : List ℕ} {r : Page} → Added p a q → Added q b r → Added p (a ++ b) r
  added-then x y = record { same = y.same ∙ x.same; stored = then x.stored y.stored }

  -- the room behind a text of at most k bytes
  pub room-after : (k j : ℕ) → length a ≤ k → Added p a q → HasRoom p (k + j) → HasRoom q j
  room-after k j h x room = let so-far = within k h x.stored in omega arith

  -- the same text, said in another way
  pub added-as : {b : List ℕ} → a ≡ b → Added p a q → Added p b q
  added-as e x = record { same = x.same; stored = same_text e x.stored }

module _ {out : MutBor (List ℕ)} {p : Page} (blank : Blank out p) where
  -- a page from its front has its output's room
  pub room-new : (k : ℕ) → k ≤ length out.now → HasRoom p k
  room-new k h = let l = ap length blank.bytes in let z = blank.at in omega arith

  -- what stands in the output once the page is let go
  pub page-stored : {a : List ℕ} {q : Page} {after : List ℕ} → after ≡ q.out.now → Added p a q → Stored out.now 0 a q.at after
  page-stored e x = record { ends = x.stored.ends ∙ rw blank.at refl; bytes = e ∙ x.stored.bytes ∙ rw (blank.bytes, blank.at) refl }

pub added-none : (p : Page) → Added p [] p
added-none p = record { same = refl; stored = no_text p.out.now p.at }

-- texts of a list's elements, each of at most k bytes
module _ {A : Type 0} (f : A → List ℕ) (k : ℕ) (few : (a : A) → length (f a) ≤ k) where
  pub each-room : (l : List A) → length (flat_map f l) ≤ k * length l
  unfolding flat_map
  each-room [] = omega arith
  each-room (a ∷ l) = rw length-append (omega (arith, few a, each-room l))

  -- room for one more, in what has room for n
  pub room-left : {p q : Page} (l : List A) (n : ℕ) → HasRoom p (k * n) → length l < n → Added p (flat_map f l) q → HasRoom q k
  room-left l n room more x =
      let here : k * length l + k ≤ k * n = mul-more k (length l) n more in
      room-after (k * length l) k (each-room l) x (omega arith)

  pub added-more : {p q r : Page} (l : List A) (a : A) → Added p (flat_map f l) q → Added q (f a) r → Added p (flat_map f (l ++ (a ∷ []))) r
  unfolding flat_map
  added-more l a x y = added-as (sym (rw (flat_map-append f l (a ∷ []), append-nil))) (added-then x y)

-- numbers with a space before each
pub numbers-room : (xs : List ℕ) → length (flat_map spaced xs) ≤ 11 * length xs
numbers-room xs = each-room spaced 11 length-spaced xs

-- what `map` makes of an array by a function that gives each number back
pub same_map :
    {F : Type 0} {g : Mut F (ℕ × Unit {0}) ℕ} {f : F} {xs ys : List ℕ} {n : ℕ}
    → IsMapOf g f xs ys n
    → length xs ≡ n
    → ((p q : F) (x y : ℕ) → Called g p (x, tt) y q → y ≡ x)
    → ys ≡ xs
same_map {xs = xs} {ys = ys} m long same =
    same_number_lists ys xs (m.long ∙ sym long)
    (λ k h. let e = m.at k 0 0 (omega (arith, m.long)) in same e.0 e.1 (get_or xs k 0) (get_or ys k 0) e.2)

-- ---- a text from the front of an output that has room for any
module _ (room : ℕ) (t out : List ℕ) where
  pub fill-short : length out < room → filled (Err TooShort) out ≡ fill_unless (given (ltb (length out) room) TooShort) t out
  fill-short h = rw (lt-ltb (length out) room h)

  pub fill_done :
      (end : ℕ) (after : List ℕ)
      → length t ≤ room
      → room ≤ length out
      → Stored out 0 t end after
      → filled (Ok end) after ≡ fill_unless (given (ltb (length out) room) TooShort) t out
  fill_done end after fits h s =
      rw (
        le-ltb (length out) room h,
        s.bytes,
        sets-front t out (length t) refl (omega arith),
        s.ends,
        zero-add,
      )
