-- Text as bytes: numbers in decimal, a line of a name and numbers, the listing of a message.
-- Assumes nothing.
use Rattle.std.specs.Prelude.{ℕ, zero, suc, ◌+◌, ◌/◌, ◌%◌, ◌*◌, cond, ◌≡◌, ◌≤◌, ltb, length, take}
use denote.Ref.{MutBor}
use Prim.Native.Char.{code}
use Prim.Native.String.{String}
use Prim.Native.String as string
use mathlib.Core.List.{List, [], ◌∷◌, ◌++◌, flat_map}
use Rattle.std.proofs.lemmas.List.Edits.{sets}
use Rattle.notes.specs.Reply.{Filled, given}
use Rattle.notes.specs.Message.{fill_unless, history_most, message_n, message_sender, brought, message_ok}
use Rattle.notes.specs.declared.message.Refusal.TheVariants.{TooShort}
use Rattle.notes.specs.Index.{servers}
use Rattle.notes.specs.Record.{number}
use Rattle.notes.specs.declared.record.Record.{Record}
use Rattle.text.specs.declared.print.Page.{Page}

-- the bytes of a text, each of its characters below 128
abbrev pub text : String → List ℕ
text string.[] = []
text (string.◌∷◌ c s) = code c ∷ text s

abbrev pub digit : ℕ → ℕ
digit d = 48 + d

-- a number in decimal, of at most k + 1 digits
unfoldable pub decimal_in : ℕ → ℕ → List ℕ
decimal_in zero n = digit n ∷ []
decimal_in (suc k) n = cond (ltb n 10) (digit n ∷ []) (decimal_in k (n / 10) ++ (digit (n % 10) ∷ []))

-- a number of 32 bits has at most ten digits
abbrev pub digits_most : ℕ
digits_most = 10

abbrev pub decimal : ℕ → List ℕ
decimal n = decimal_in 9 n

abbrev pub spaced : ℕ → List ℕ
spaced n = text " " ++ decimal n

-- t stands in the output from a place on, up to its end; the other bytes are as they were
pub record Stored (out : List ℕ) (at : ℕ) (t : List ℕ) (end : ℕ) (after : List ℕ) : Type 0 where
  pub ends : end ≡ at + length t
  pub bytes : after ≡ sets out at t

-- a page holds an output and the place behind what stands in it; it has room for so many bytes more
abbrev pub HasRoom : Page → ℕ → Type 0
HasRoom page k = page.at + k ≤ length page.out.now

-- a page on which nothing stands yet
pub record Blank (out : MutBor (List ℕ)) (page : Page) : Type 0 where
  pub same : page.out.ghost_name ≡ out.ghost_name
  pub bytes : page.out.now ≡ out.now
  pub at : page.at ≡ 0

-- t is stored behind what stood on a page, in the same output
pub record Added (before : Page) (t : List ℕ) (after : Page) : Type 0 where
  pub same : after.out.ghost_name ≡ before.out.ghost_name
  pub stored : Stored before.out.now before.at t after.at after.out.now

-- ---- a line of a name and numbers

abbrev pub named : List ℕ → List ℕ → List ℕ
named name xs = name ++ flat_map spaced xs ++ text "\n"

-- room for a name of so many bytes and so many numbers
abbrev pub named_room : ℕ → ℕ → ℕ
named_room name count = name + (digits_most + 1) * count + 1

-- the line, into an output with room for any numbers
unfoldable pub named_line : List ℕ → List ℕ → List ℕ → Filled
named_line name xs out = fill_unless (given (ltb (length out) (named_room (length name) (length xs))) TooShort) (named name xs) out

-- ---- the listing of a message

-- numbers in a line, with a space between any two
unfoldable pub line : List ℕ → List ℕ
line [] = text "\n"
line (x ∷ xs) = decimal x ++ flat_map spaced xs ++ text "\n"

-- a record's line: origin, number, phone, cell, value, phone time, then N positions of T
abbrev pub numbers_of : ℕ → Record → List ℕ
numbers_of n r = r.origin.0 ∷ number r ∷ r.phone.0 ∷ r.cell ∷ r.value ∷ r.time ∷ take n r.stamp.counts

-- how many of them stand before T
abbrev pub before_stamp : ℕ
before_stamp = 6

abbrev pub record_line : ℕ → Record → List ℕ
record_line n r = line (numbers_of n r)

unfoldable pub head_line : ℕ → ℕ → ℕ → List ℕ
head_line n sender count =
    text "servers " ++ decimal n ++ (text " sender " ++ decimal sender) ++ (text " writes " ++ decimal count) ++ text "\n"

unfoldable pub listing : List ℕ → List ℕ
listing m =
    cond (message_ok m)
    (head_line (message_n m) (message_sender m).0 (length (brought m)) ++ flat_map (record_line (message_n m)) (brought m))
    (text "refused 6\n")

-- ---- the listing, into an output

-- room for any head line, record's line and listing
abbrev pub head_room : ℕ
head_room = length (text "servers  sender  writes \n") + 3 * digits_most

abbrev pub line_room : ℕ
line_room = (digits_most + 1) * (before_stamp + servers)

abbrev pub listing_room : ℕ
listing_room = head_room + line_room * history_most

-- the listing, into an output with room for any
unfoldable pub list : List ℕ → List ℕ → Filled
list m out = fill_unless (given (ltb (length out) listing_room) TooShort) (listing m) out
