-- A message that was written lies within its output.
-- Assumes nothing.
use Prim.Native.Nat.{ℕ, ◌≤◌}
use mathlib.Core.List.{List}
use mathlib.Core.Option.{Option, none, some, map}
use mathlib.Core.Path.{◌≡◌, ap}
use native.Mathlib.Omega.{arith}
use lib.ListN.{length, get_or, drop, length-append}
use Rattle.std.specs.Prelude.{Ok}
use Rattle.notes.specs.Reply.{Filled, first, fill}
use Rattle.notes.specs.Message as notes
use Rattle.notes.specs.declared.index.ServerId.{ServerId}
use Rattle.notes.proofs.Answers.{filled_within}
use Rattle.rules.specs.Memory.{Memory}
use Rattle.rules.specs.Answer.{refusal_reply}
use Rattle.rules.specs.Calls as calls
use Rattle.rules.specs.declared.answer.Refusal.{Refusal}

-- a refusal has no values
fill-within :
    (r : Option Refusal) (bytes out : List ℕ) (k : ℕ) (after : List ℕ)
    → calls.message_filled (Ok k) after ≡ fill (map refusal_reply r) bytes out
    → k ≤ length after
fill-within (some r) bytes out k after e = let values = ap (λ (f : Filled). length f.reply.values) e in absurd (omega arith)
fill-within none bytes out k after e =
    let l = ap (λ (f : Filled). get_or f.reply.values 0 0) e in
    let o = ap (λ (f : Filled). length f.output) e in
    omega (arith, l, o, length-append bytes (drop (length bytes) out))

pub message-within :
    (m : Memory) (out : List ℕ) (k : ℕ) (after : List ℕ)
    → calls.message_filled (Ok k) after ≡ calls.message m out
    → k ≤ length after
unfolding calls.message
message-within m out k after e = fill-within (first (calls.message_refusals m out)) (calls.own_message m) out k after e

pub write-within :
    (n : ℕ) (sender : ServerId) (records out : List ℕ) (k : ℕ) (after : List ℕ)
    → notes.filled (Ok k) after ≡ notes.write n sender records out
    → k ≤ length after
unfolding notes.write
write-within n sender records out k after e =
    filled_within (notes.write_refusal n sender records out) (notes.message_of n sender (notes.records_in records)) out k after e
