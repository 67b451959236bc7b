-- Laws of the listing's lines.
-- Assumes nothing.
use Prim.Native.Nat.{ℕ, suc, ◌-◌, ◌*◌, ◌<◌, ◌≤◌}
use mathlib.Core.Bool.{Bool, true, false, cond}
use mathlib.Core.List.{List, [], ◌∷◌, ◌++◌, flat_map, append_assoc}
use mathlib.Core.Path.{◌≡◌, refl, ap, sym, ◌∙◌}
use native.Mathlib.Omega.{arith}
use lib.Dec.{ltb}
use lib.ListN.{length, get_or, take, drop, length-take, length-append}
use lib.Seq.{take_all}
use Rattle.notes.specs.Reply.{given}
use Rattle.notes.specs.Index.{servers}
use Rattle.notes.specs.Message.{message_n, message_sender, brought, message_ok, filled}
use Rattle.notes.specs.Record.{number}
use Rattle.notes.specs.declared.record.Record.{Record}
use Rattle.notes.proofs.Answers.{filled_within}
use Rattle.notes.proofs.Lists.{flat_map-append}
use Rattle.notes.proofs.Messages.{right-few, right-n}
use Rattle.text.specs.Text.{text, decimal, spaced, Stored, line, numbers_of, record_line, head_line, listing, head_room, line_room, listing_room, list}
use Rattle.notes.specs.declared.message.Refusal.TheVariants.{TooShort}
use Rattle.std.specs.Prelude.{Ok, Err}
use Rattle.text.proofs.Decimals.{length-decimal}
use Rattle.text.proofs.Texts.{numbers-room, each-room, fill-short, fill_done}

-- a line has at most eleven bytes for each of its numbers
line-room : (xs : List ℕ) → 1 ≤ length xs → length (line xs) ≤ 11 * length xs
unfolding line
line-room [] h = absurd (omega arith)
line-room (x ∷ xs) h = simp length-append (omega (arith, length-decimal x, numbers-room xs))

-- a line: the first number, and the others behind it
pub line_of :
    (xs : List ℕ)
    → 1 ≤ length xs
    → decimal (get_or xs 0 0) ++ flat_map spaced (take (length xs - 1) (drop 1 xs)) ++ text "\n" ≡ line xs
unfolding line
line_of [] h = absurd (omega arith)
line_of (x ∷ xs) h = rw (take_all (suc (length xs) - 1) xs (omega arith))

-- ---- a record's line, as it is stored: the first number, the five behind it, and T
pub record_stored :
    (n : ℕ) (r : Record)
    → decimal r.origin.0 ++ flat_map spaced (number r ∷ r.phone.0 ∷ r.cell ∷ r.value ∷ r.time ∷ []) ++ flat_map spaced (take n r.stamp.counts) ++ text "\n" ≡ record_line n r
unfolding line
record_stored n r =
    let five = number r ∷ r.phone.0 ∷ r.cell ∷ r.value ∷ r.time ∷ [] in
    let stamp = take n r.stamp.counts in
    let all : flat_map spaced five ++ flat_map spaced stamp ≡ flat_map spaced (five ++ stamp) = sym (flat_map-append spaced five stamp) in
    ap (λ (l : List ℕ). l ++ text "\n")
    (append_assoc (decimal r.origin.0) (flat_map spaced five) (flat_map spaced stamp) ∙ ap (λ (l : List ℕ). decimal r.origin.0 ++ l) all)

numbers-few : (n : ℕ) (r : Record) → n ≤ servers → length (numbers_of n r) ≤ 14
numbers-few n r h = simp length-take (omega arith)

pub record-room : (n : ℕ) → n ≤ servers → (r : Record) → length (record_line n r) ≤ line_room
record-room n h r = omega (arith, line-room (numbers_of n r) (omega arith), numbers-few n r h)

-- ---- room for any listing
pub head-room : (n s c : ℕ) → length (head_line n s c) ≤ head_room
unfolding head_line
head-room n s c = simp length-append (omega (arith, length-decimal n, length-decimal s, length-decimal c))

pub listing-room : (m : List ℕ) → length (listing m) ≤ listing_room
unfolding listing
listing-room m = go (message_ok m) refl
  where
    go :
        (t : Bool)
        → message_ok m ≡ t
        → length (cond t (head_line (message_n m) (message_sender m).0 (length (brought m)) ++ flat_map (record_line (message_n m)) (brought m)) (text "refused 6\n")) ≤ listing_room
    go true e =
        rw length-append
        (omega (
          arith,
          head-room (message_n m) (message_sender m).0 (length (brought m)),
          each-room (record_line (message_n m)) line_room (record-room (message_n m) (right-n m e)) (brought m),
          right-few m e,
        ))
    go false e = omega arith

-- ---- the call
pub listed-right :
    (m : List ℕ)
    → message_ok m ≡ true
    → head_line (message_n m) (message_sender m).0 (length (brought m)) ++ flat_map (record_line (message_n m)) (brought m) ≡ listing m
unfolding listing
listed-right m e = rw e

pub listed-wrong : (m : List ℕ) → message_ok m ≡ false → text "refused 6\n" ≡ listing m
unfolding listing
listed-wrong m e = rw e

pub list-short : (m out : List ℕ) → length out < listing_room → filled (Err TooShort) out ≡ list m out
unfolding list
list-short m out h = fill-short listing_room (listing m) out h

pub list_done :
    (m out : List ℕ) (end : ℕ) (after : List ℕ)
    → listing_room ≤ length out
    → Stored out 0 (listing m) end after
    → filled (Ok end) after ≡ list m out
unfolding list
list_done m out end after h s = fill_done listing_room (listing m) out end after (listing-room m) h s

-- the text lies within the output
pub listed-within : (m out : List ℕ) (k : ℕ) (after : List ℕ) → filled (Ok k) after ≡ list m out → k ≤ length after
unfolding list
listed-within m out k after e = filled_within (given (ltb (length out) listing_room) TooShort) (listing m) out k after e
