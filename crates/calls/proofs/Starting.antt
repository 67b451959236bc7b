-- What starting anew answers and leaves.
-- Assumes nothing.
use Prim.Native.Nat.{ℕ}
use mathlib.Core.Bool.{true, false}
use mathlib.Core.List.{List, ◌++◌}
use mathlib.Core.Path.{◌≡◌}
use lib.ListN.{drop, replicate}
use Rattle.notes.specs.Index.{server_ok}
use Rattle.notes.specs.Vector.{zeros}
use Rattle.notes.specs.declared.index.ServerId.{ServerId}
use Rattle.rules.specs.declared.answer.Refusal.TheVariants.{OutOfRange, TooShort}
use Rattle.rules.specs.Image.{history_size, image_size, fresh_image}
use Rattle.rules.specs.Memory.{memory, blank}
use Rattle.rules.specs.Answer.{refusal_reply, replying, finished, short}
use Rattle.rules.specs.Calls.{fresh, no_server, start}

module _ (n : ℕ) (own : ServerId) (h i : List ℕ) where
  pub start-9 : short (no_server h i) ≡ true → start n own h i ≡ replying (refusal_reply TooShort) zeros (no_server h i)
  unfolding start
  start-9 e = rw e

  module _ (long : short (no_server h i) ≡ false) where
    pub start-1 : server_ok n own ≡ false → start n own h i ≡ replying (refusal_reply OutOfRange) zeros (no_server h i)
    unfolding start
    start-1 e = rw (long, e)

    pub start-done :
        server_ok n own ≡ true
        → let history = replicate history_size 0 ++ drop history_size h in
        start n own h i ≡ finished (memory (blank true n own) history (fresh_image n own ++ drop image_size i))
    unfolding start fresh
    start-done e = rw (long, e)
