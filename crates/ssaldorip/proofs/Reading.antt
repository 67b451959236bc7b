-- Laws of the calls that read a message: where reading begins, and a record copied.
-- Assumes nothing.
use Prim.Native.Nat.{ℕ, ◌≤◌}
use mathlib.Core.Bool.{Bool, true, false, cond}
use mathlib.Core.List.{List, [], ◌∷◌}
use mathlib.Core.Path.{◌≡◌, refl, ap}
use native.Mathlib.Omega.{arith}
use borrow.Author.Tests.{le-ltb}
use lib.ListN.{length, get_or}
use lib.Seq.{sets}
use Rattle.std.specs.Prelude.{Result, Ok, Err, Some}
use Rattle.std.specs.Result.{result_unwrap_or}
use Rattle.notes.specs.Reply.{Reply, done, refused}
use Rattle.notes.specs.Record.{record_size, encode}
use Rattle.notes.specs.Message.{header_size, message_ok, begin, begun, first_place, refusal_number, read_at, place_after}
use Rattle.notes.specs.declared.message.Refusal.{Refusal as Told}
use Rattle.notes.specs.declared.message.Refusal.TheVariants.{OutOfRange, Malformed, TooShort}
use Rattle.notes.specs.declared.record.Record.{Record}
use Rattle.notes.proofs.Lists.{sets-front}
use Rattle.ssaldorip.specs.Calls.{left, next}

-- where reading begins, or the message's end
never : (k : Told) → refusal_number k ≡ 0 → ⊥
never OutOfRange e = omega arith
never Malformed e = omega arith
never TooShort e = omega arith

pub first_told : (r : Result ℕ Told) (m : List ℕ) → begun r ≡ begin m → result_unwrap_or r (length m) ≡ first_place m
unfolding begin first_place
first_told r m e = go (message_ok m) r e
  where
    go :
        (b : Bool) (r : Result ℕ Told)
        → begun r ≡ cond b (done (cond b header_size (length m) ∷ [])) (refused 6)
        → result_unwrap_or r (length m) ≡ cond b header_size (length m)
    go true (Ok p) e = ap (λ (r : Reply). get_or r.values 0 0) e
    go true (Err k) e = absurd (never k (ap (λ (r : Reply). r.number) e))
    go false (Ok p) e = let z : ◌≡◌ {A = ℕ} 0 6 = ap (λ (r : Reply). r.number) e in absurd (omega arith)
    go false (Err k) e = refl

-- the record that was read, copied
pub next_found :
    (m : List ℕ) (at : ℕ) (out : List ℕ) (x : Record) (b : List ℕ)
    → record_size ≤ length out
    → read_at m at ≡ Some x
    → b ≡ encode x
    → length b ≡ record_size
    → left (place_after m at) (sets out 0 b) ≡ next m at out
unfolding next
next_found m at out x b room found wrote whole =
    rw (le-ltb (length out) record_size room, found, ← wrote, sets-front b out (length b) refl (omega arith))
