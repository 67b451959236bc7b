-- The step: an event at a server, the vector that a request carries, the message that an update brings.
-- Assumes nothing.
use Rattle.std.specs.Prelude.{ℕ, ◌+◌, ◌*◌, Bool, ◌&&◌, not, cond, List, [], ◌∷◌, ◌++◌, leb, eqb, length}
use Rattle.std.proofs.Math.Option.{Option, none, some}
use Rattle.std.proofs.lemmas.List.Edits.{sets}
use Rattle.notes.specs.Reply.{given, first}
use Rattle.notes.specs.Vector.{at, raised}
use Rattle.notes.specs.Record.{record_size, number, record_bytes}
use Rattle.notes.specs.Message.{history_most, message_ok, message_n, message_sender, brought}
use Rattle.rules.specs.Writes.{Vector, Record, ServerId}
use Rattle.rules.specs.Answer.{Refusal, Unsound, HistoryFull, Gap, OwnAhead, Effect, finished, unless, head, is_down, here_refusals}
use Rattle.rules.specs.Memory.{Memory, with_state, with_history, holding, down_of}
use Rattle.rules.specs.declared.event.Event.{Event}
use Rattle.rules.specs.declared.event.What.{What}
use Rattle.rules.specs.declared.event.What.TheVariants as what
use Rattle.rules.specs.Sound.{recover}
use Rattle.rules.specs.Request.{request, request_cut}

-- ---- an update: a message's writes in turn

-- what becomes of a write at its turn
pub data Turn : Type 0 where
  skipped : Turn
  appended : Turn
  refuses : Refusal → Turn

-- numbered at most V[origin] it is skipped, uncompared; then one of the receiver's own origin is 8; one numbered
-- V[origin] + 1 is appended; above that it is 7
unfoldable pub at_turn : ServerId → Vector → Record → Turn
at_turn own v r =
    cond (leb (number r) (at v r.origin)) skipped
    (cond (eqb r.origin.0 own.0) (refuses OwnAhead)
    (cond (eqb (number r) (at v r.origin + 1)) appended (refuses Gap)))

-- V[origin] becomes the number of a write appended; V changes nowhere else
abbrev pub vector_after : Turn → Vector → Record → Vector
vector_after skipped v r = v
vector_after appended v r = raised v r.origin (number r)
vector_after (refuses k) v r = v

-- what a message's writes give: the new ones in message order, V after them, and the first refusal
pub record Taken : Type 0 where
  pub new : List Record
  pub vector : Vector
  pub refusal : Option Refusal

abbrev pub and_then : Turn → Vector → Record → Taken → Taken
and_then skipped v r rest = rest
and_then appended v r rest = record { new = r ∷ rest.new; vector = rest.vector; refusal = rest.refusal }
and_then (refuses k) v r rest = record { new = []; vector = v; refusal = some k }

unfoldable pub taken : ServerId → Vector → List Record → Taken
taken own v [] = record { new = []; vector = v; refusal = none }
taken own v (r ∷ rs) = let t = at_turn own v r in and_then t v r (taken own (vector_after t v r) rs)

abbrev pub taken_from : Memory → List ℕ → Taken
taken_from m msg = taken m.state.own m.state.vector (brought msg)

-- the new writes are appended; nothing is stored
unfoldable pub updated : Memory → Taken → Memory
updated m t =
    let s = m.state in
    with_state (holding (s.held + length t.new) t.vector s)
    (with_history (sets m.history (record_size * s.held) (record_bytes t.new)) m)

-- what an update refuses, in order

-- the message is right, of the server's own N, and from another server
abbrev pub suitable : Memory → List ℕ → Bool
suitable m msg = message_ok msg && eqb (message_n msg) m.state.n && not (eqb (message_sender msg).0 m.state.own.0)

-- before its writes are looked at
abbrev pub arrival_refusals : Memory → ServerId → List ℕ → List (Option Refusal)
arrival_refusals m j msg = head m (is_down m) ++ here_refusals m j ++ given (not (suitable m msg)) Unsound ∷ []

-- the first of its writes that is refused; then whether there is room for the new ones
abbrev pub taking_refusals : Memory → Taken → List (Option Refusal)
taking_refusals m t =
    t.refusal ∷ given (not (leb (m.state.held + length t.new) history_most)) HistoryFull ∷ []

unfoldable pub update_refusals : Memory → ServerId → List ℕ → List (Option Refusal)
update_refusals m j msg = arrival_refusals m j msg ++ taking_refusals m (taken_from m msg)

unfoldable pub update : Memory → ServerId → List ℕ → Effect
update m j msg = unless (first (update_refusals m j msg)) m (finished (updated m (taken_from m msg)))

-- ---- a plain cut, and a recovery

-- what they refuse, in order
unfoldable pub plain_refusals : Memory → Bool → ServerId → List (Option Refusal)
plain_refusals m wrong j = head m wrong ++ here_refusals m j

-- a plain cut stores nothing
unfoldable pub cut : Memory → ServerId → Effect
cut m j = unless (first (plain_refusals m (is_down m) j)) m (finished (with_state (down_of m.state) m))

unfoldable pub recovery : Memory → ServerId → Effect
recovery m j = unless (first (plain_refusals m m.state.up j)) m (finished (recover m))

-- ---- any event

abbrev pub happens : Memory → ServerId → What → Vector → List ℕ → Effect
happens m j (what.Request i q) v msg = request m j i q v
happens m j (what.RequestCut i q k) v msg = request_cut m j i q k v
happens m j what.Cut v msg = cut m j
happens m j what.Update v msg = update m j msg
happens m j what.Recovery v msg = recovery m j

unfoldable pub step : Memory → Event → Vector → List ℕ → Effect
step m e v msg = happens m e.server e.what v msg

-- what a server does with an event: `step`, or a wrong one that is held to the same examples and statements
abbrev pub Rule : Type 0
Rule = Memory → Event → Vector → List ℕ → Effect
