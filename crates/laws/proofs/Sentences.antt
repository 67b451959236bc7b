-- One sentence each over the step: who is told "not yet", 6 and 9, and that phone clocks choose nothing.
-- Assumes nothing.
use Prim.Native.Nat.{ℕ, ◌+◌, ◌<◌}
use mathlib.Core.Bool.{Bool, true, false, not, cond, true≢false}
use mathlib.Core.List.{List, [], ◌∷◌, ◌++◌, map}
use mathlib.Core.Option.{Option, none, some}
use mathlib.Core.Path.{◌≡◌, refl, ap, sym, ◌∙◌}
use native.Mathlib.Omega.{arith}
use borrow.Author.Tests.{eq-eqb}
use lib.Dec.{eqb, leb}
use lib.ListN.{length}
use Rattle.notes.specs.Index.{servers}
use Rattle.notes.specs.Reply.{given, first}
use Rattle.notes.specs.Message.{history_most, brought}
use Rattle.notes.specs.Record.{number}
use Rattle.notes.specs.Vector.{at, behind}
use Rattle.notes.specs.declared.index.PhoneId.{PhoneId}
use Rattle.notes.specs.declared.index.ServerId.{ServerId}
use Rattle.notes.specs.declared.record.Record.{Record}
use Rattle.notes.specs.declared.vector.Vector.{Vector}
use Rattle.notes.proofs.Pieces.{Each}
use Rattle.notes.proofs.Vectors.{behind-some, behind-true}
use Rattle.rules.specs.declared.answer.Refusal.{Refusal}
use Rattle.rules.specs.declared.answer.Refusal.TheVariants.{OutOfRange, NotUp, NotYet, HistoryFull, LogFull, Unsound, Gap, OwnAhead, TooShort}
use Rattle.rules.specs.declared.event.Event.{Event}
use Rattle.rules.specs.declared.event.Request.{Request}
use Rattle.rules.specs.declared.event.Request.TheVariants.{Read}
use Rattle.rules.specs.declared.state.State.{State}
use Rattle.rules.specs.Writes.{winner}
use Rattle.notes.specs.Record.{records}
use Rattle.rules.specs.declared.event.What.{What}
use Rattle.rules.specs.declared.event.What.TheVariants as what
use Rattle.rules.specs.Memory.{Memory, with_state, down_of, writes}
use Rattle.rules.specs.Answer.{Effect, refusal_number, finished, unless, short, head, is_down, elsewhere, here_refusals}
use Rattle.rules.specs.Sound.{recover, sound}
use Rattle.rules.specs.Request.{plan, served, cut_after, out_of_range, full_history, full_log, full_refusals, ask_refusals, request_refusals, count_refusals, request, request_cut, performed, reply_to, value_of}
use Rattle.rules.specs.Step.{skipped, appended, refuses, at_turn, vector_after, and_then, taken, taken_from, updated, suitable, taking_refusals, update_refusals, update, plain_refusals, cut, recovery, happens, step}
use Rattle.laws.proofs.Writes.{length-tally}
use Rattle.laws.proofs.Open.{opened}
use Rattle.laws.proofs.Passed.{long-enough}
use Rattle.laws.proofs.Outcomes.{done_none, served-number}
use Rattle.laws.proofs.Reading.{ready-is}
use Rattle.laws.proofs.Winner.{timeless, reply-time-free}

-- ---- a lent buffer too short is 9, whatever else is wrong; then an unsound memory is 6
module _ (m : Memory) (e : Event) (v : Vector) (msg : List ℕ) where
  pub short-nine : short m ≡ true → (step m e v msg).reply.number ≡ 9
  unfolding step request request_cut cut update recovery request_refusals plain_refusals update_refusals
  short-nine s = go e.what
    where
      go : (w : What) → (happens m e.server w v msg).reply.number ≡ 9
      go (what.Request i q) = rw s
      go (what.RequestCut i q k) = rw s
      go what.Cut = rw s
      go what.Update = rw s
      go what.Recovery = rw s

  pub unsound-six : short m ≡ false → sound m ≡ false → (step m e v msg).reply.number ≡ 6
  unfolding step request request_cut cut update recovery request_refusals plain_refusals update_refusals
  unsound-six s u = go e.what
    where
      go : (w : What) → (happens m e.server w v msg).reply.number ≡ 6
      go (what.Request i q) = rw (s, u)
      go (what.RequestCut i q k) = rw (s, u)
      go what.Cut = rw (s, u)
      go what.Update = rw (s, u)
      go what.Recovery = rw (s, u)

-- ---- and a sound one is told 6 of an unsuitable message only
abbrev is_six : Option Refusal → Bool
is_six none = false
is_six (some r) = eqb (refusal_number r) 6

abbrev Others : List (Option Refusal) → Type 0
Others rows = Each (λ r. is_six r ≡ false) rows

row_other : (b : Bool) (r : Refusal) → is_six (some r) ≡ false → is_six (given b r) ≡ false
row_other true r e = e
row_other false r e = refl

rows_other : (l : List (Option Refusal)) → Others l → is_six (first l) ≡ false
rows_other [] h = refl
rows_other (none ∷ l) h = rows_other l h.1
rows_other (some r ∷ l) h = h.0

six-row : (r : Option Refusal) (m : Memory) (e : Effect) → e.reply.number ≡ 0 → (unless r m e).reply.number ≡ 6 → is_six r ≡ true
six-row none m e z h = absurd (omega arith)
six-row (some r) m e z h = eq-eqb (refusal_number r) 6 h

-- a message's writes are refused with 7 or 8
taken-other : (own : ServerId) (v : Vector) (rs : List Record) → is_six (taken own v rs).refusal ≡ false
unfolding taken at_turn
taken-other own v [] = refl
taken-other own v (r ∷ rs) =
    go (leb (number r) (at v r.origin)) (eqb r.origin.0 own.0) (eqb (number r) (at v r.origin + 1)) (λ w. taken-other own w rs)
  where
    go :
        (x y z : Bool)
        → ((w : Vector) → is_six (taken own w rs).refusal ≡ false)
        → let t = cond x skipped (cond y (refuses OwnAhead) (cond z appended (refuses Gap))) in
        is_six (and_then t v r (taken own (vector_after t v r) rs)).refusal ≡ false
    go true y z rest = rest v
    go false true z rest = refl
    go false false true rest = rest _
    go false false false rest = refl

module _ (m : Memory) (ok : sound m ≡ true) where
  -- rows that begin with the head and have no 6 behind it
  not-six : (wrong : Bool) (rest : List (Option Refusal)) (e : Effect) → e.reply.number ≡ 0 → Others rest → (unless (first (head m wrong ++ rest)) m e).reply.number ≡ 6 → ⊥
  not-six wrong rest e z h six =
      let sounds : is_six (given (not (sound m)) Unsound) ≡ false = rw ok in
      true≢false
      (sym (six-row (first (head m wrong ++ rest)) m e z six)
      ∙ rows_other (head m wrong ++ rest) (row_other (short m) TooShort refl, (sounds, (row_other wrong NotUp refl, h))))

  request-other : (j : ServerId) (i : PhoneId) (q : Request) (v : Vector) (last : List (Option Refusal)) → Others last → Others (ask_refusals m j i q v ++ last)
  request-other j i q v last h = (
    row_other (out_of_range m j i q v) OutOfRange refl,
    (
      row_other (behind m.state.vector v) NotYet refl,
      (row_other (full_history m q) HistoryFull refl, (row_other (full_log m q) LogFull refl, h)),
    ),
  )

  here-other : (j : ServerId) (rest : List (Option Refusal)) → Others rest → Others (here_refusals m j ++ rest)
  here-other j rest h = (row_other (elsewhere m j) OutOfRange refl, h)

  update_other : (j : ServerId) (msg : List ℕ) → suitable m msg ≡ true → (update m j msg).reply.number ≡ 6 → ⊥
  unfolding update update_refusals
  update_other j msg s =
      let t = taken_from m msg in
      let suits : is_six (given (not (suitable m msg)) Unsound) ≡ false = rw s in
      not-six (is_down m) (here_refusals m j ++ given (not (suitable m msg)) Unsound ∷ taking_refusals m t) (finished (updated m t)) refl
      (here-other j (given (not (suitable m msg)) Unsound ∷ taking_refusals m t) (
        suits,
        (taken-other m.state.own m.state.vector (brought msg), (row_other (not (leb (m.state.held + length t.new) history_most)) HistoryFull refl, tt)),
      ))

  pub six-update : (e : Event) (v : Vector) (msg : List ℕ) → (step m e v msg).reply.number ≡ 6 → (e.what ≡ what.Update) × (suitable m msg ≡ false)
  unfolding step request request_cut cut recovery request_refusals plain_refusals cut_after
  six-update e v msg six = go e.what six
    where
      j : ServerId
      j = e.server

      unsuited : (b : Bool) → suitable m msg ≡ b → (update m j msg).reply.number ≡ 6 → suitable m msg ≡ false
      unsuited true p h = absurd (update_other j msg p h)
      unsuited false p h = p

      go : (w : What) → (happens m j w v msg).reply.number ≡ 6 → (w ≡ what.Update) × (suitable m msg ≡ false)
      go (what.Request i q) h =
          absurd (not-six (is_down m) (ask_refusals m j i q v) (served m i q) (served-number m i q) (request-other j i q v [] tt) h)
      go (what.RequestCut i q k) h =
          absurd
          (not-six (is_down m) (ask_refusals m j i q v ++ count_refusals m i q k) (cut_after m i q k) refl
          (request-other j i q v (count_refusals m i q k) (row_other (not (leb k (length (plan m i q)))) OutOfRange refl, tt))
          h)
      go what.Cut h =
          absurd (not-six (is_down m) (here_refusals m j) (finished (with_state (down_of m.state) m)) refl (here-other j [] tt) h)
      go what.Update h = (refl, unsuited (suitable m msg) refl h)
      go what.Recovery h = absurd (not-six m.state.up (here_refusals m j) (finished (recover m)) refl (here-other j [] tt) h)

-- ---- a valid request to a server that is up
pub record Valid (m : Memory) (j : ServerId) (i : PhoneId) (q : Request) (v : Vector) : Type 0 where
  pub long : short m ≡ false
  pub sound : Rattle.rules.specs.Sound.sound m ≡ true
  pub up : m.state.up ≡ true
  pub in_range : out_of_range m j i q v ≡ false

-- is told "not yet" exactly if the server is behind it at some position
module _ (m : Memory) (j : ServerId) (i : PhoneId) (q : Request) (v : Vector) (msg : List ℕ) (a : Valid m j i q v) where
  abbrev e : Event
  e = record { server = j; what = what.Request i q }

  abbrev told : Bool → ℕ
  told b = (unless (first (given b NotYet ∷ full_refusals m q)) m (served m i q)).reply.number

  answered : (step m e v msg).reply.number ≡ told (behind m.state.vector v)
  unfolding step request request_refusals
  answered = rw (a.long, a.sound, a.up, a.in_range)

  not_three : (b c : Bool) → (unless (first (given b HistoryFull ∷ given c LogFull ∷ [])) m (served m i q)).reply.number ≡ 3 → ⊥
  not_three true c h = omega (arith, h)
  not_three false true h = omega (arith, h)
  not_three false false h = omega (arith, h, served-number m i q)

  pub not-yet-behind : (step m e v msg).reply.number ≡ 3 → (s : ServerId) × (at m.state.vector s < at v s)
  not-yet-behind h = go (behind m.state.vector v) refl (sym answered ∙ h)
    where
      go : (b : Bool) → behind m.state.vector v ≡ b → told b ≡ 3 → (s : ServerId) × (at m.state.vector s < at v s)
      go true p h = behind-some m.state.vector v p
      go false p h = absurd (not_three (full_history m q) (full_log m q) h)

  pub behind-not-yet : length v.counts ≡ servers → (s : ServerId) → at m.state.vector s < at v s → (step m e v msg).reply.number ≡ 3
  behind-not-yet eight s l =
      let facts = (opened m (long-enough m a.long).1 a.up a.sound).facts in
      let same = ap (λ (w : Vector). length w.counts) facts.counts ∙ length-tally (writes m) ∙ sym eight in
      answered ∙ ap told (behind-true m.state.vector v same s l)

-- ---- phone clocks choose nothing: of two memories with one state and histories that differ in phone times only, a read that is
-- served is answered alike
read-reply : (m : Memory) (i : PhoneId) (cell : ℕ) → (served m i (Read cell)).reply ≡ value_of (winner cell (writes m)) m.state.vector
unfolding served performed reply_to
read-reply m i cell =
    let e = ready-is m i (Read cell) in
    ap (λ (t : State). value_of (winner cell (records t.held m.history)) t.vector) e

pub clocks-choose-nothing :
    (a b : Memory) (j : ServerId) (i : PhoneId) (cell : ℕ) (v : Vector) (msg : List ℕ)
    → let e : Event = record { server = j; what = what.Request i (Read cell) } in
    a.state ≡ b.state
    → map timeless (writes a) ≡ map timeless (writes b)
    → (step a e v msg).reply.number ≡ 0
    → (step b e v msg).reply.number ≡ 0
    → (step a e v msg).reply ≡ (step b e v msg).reply
unfolding step request
clocks-choose-nothing a b j i cell v msg state times x y =
    answers a x
    ∙ reply-time-free cell (writes a) (writes b) a.state.vector times
    ∙ ap (λ (s : State). value_of (winner cell (writes b)) s.vector) state
    ∙ sym (answers b y)
  where
    answers : (m : Memory) → (request m j i (Read cell) v).reply.number ≡ 0 → (request m j i (Read cell) v).reply ≡ value_of (winner cell (writes m)) m.state.vector
    answers m z =
        ap (λ r. (unless r m (served m i (Read cell))).reply) (done_none (first (request_refusals m j i (Read cell) v)) m (served m i (Read cell)) z)
        ∙ read-reply m i cell
