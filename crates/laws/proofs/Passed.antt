-- What is known where no refusal is given.
-- Assumes nothing.
use Prim.Native.Nat.{ℕ, ◌+◌, ◌≤◌, ◌<◌}
use mathlib.Core.Bool.{Bool, true, false, ◌&&◌, not, true≢false}
use mathlib.Core.List.{List, [], ◌∷◌, ◌++◌}
use mathlib.Core.Option.{Option, none, some, some-ne-none}
use mathlib.Core.Path.{◌≡◌, refl, sym, ◌∙◌}
use borrow.Author.Tests.{ltb-true, ltb-false, leb-true, leb-false, eqb-true, eqb-false, not-true, not-false}
use lib.Dec.{ltb, leb, eqb}
use lib.ListN.{length}
use Rattle.notes.specs.Reply.{given, first}
use Rattle.notes.specs.Index.{phones}
use Rattle.notes.specs.Vector.{zeros, behind, zero_from}
use Rattle.notes.specs.Record.{cells}
use Rattle.notes.specs.Message.{history_most, message_ok, message_n, message_sender}
use Rattle.notes.specs.declared.index.PhoneId.{PhoneId}
use Rattle.notes.specs.declared.index.ServerId.{ServerId}
use Rattle.notes.specs.declared.vector.Vector.{Vector}
use Rattle.notes.proofs.Answers.{first-append}
use Rattle.notes.proofs.Lists.{both, neither}
use Rattle.rules.specs.declared.answer.Refusal.{Refusal}
use Rattle.rules.specs.declared.answer.Refusal.TheVariants.{OutOfRange, NotUp, NotYet, HistoryFull, LogFull, Unsound, TooShort}
use Rattle.rules.specs.declared.event.Request.{Request}
use Rattle.rules.specs.Memory.{Memory}
use Rattle.rules.specs.Image.{history_size, image_size, log_most, log_count}
use Rattle.rules.specs.Sound.{sound}
use Rattle.rules.specs.Answer.{Effect, refusal_reply, replying, unless, short, head, is_down, elsewhere, here_refusals}
use Rattle.rules.specs.Request.{plan, cell_of, is_write, out_of_range, full_history, full_log, full_refusals, ask_refusals, request_refusals, count_refusals, cut_refusals}
use Rattle.rules.specs.Step.{taken_from, suitable, arrival_refusals, taking_refusals, update_refusals, plain_refusals}

-- ---- a list of refusals of which none is given
pub ungiven : {A : Type 0} (b : Bool) (r : A) (rest : List (Option A)) → first (given b r ∷ rest) ≡ none → (b ≡ false) × (first rest ≡ none)
ungiven true r rest e = absurd (some-ne-none r e)
ungiven false r rest e = (refl, e)

pub none_first : {A : Type 0} (x : Option A) (rest : List (Option A)) → first (x ∷ rest) ≡ none → (x ≡ none) × (first rest ≡ none)
none_first none rest e = (refl, e)
none_first (some r) rest e = absurd (some-ne-none r e)

none-append : {A : Type 0} (a b : List (Option A)) → first (a ++ b) ≡ none → (first a ≡ none) × (first b ≡ none)
none-append a b e = none_first (first a) b (sym (first-append a b) ∙ e)

-- a call refuses or not
pub unless-either :
    (P : Effect → Type 0) (r : Option Refusal) (m : Memory) (e : Effect)
    → ((k : Refusal) → P (replying (refusal_reply k) zeros m))
    → (r ≡ none → P e)
    → P (unless r m e)
unless-either P none m e h k = k refl
unless-either P (some r) m e h k = h r

-- a refusal changes nothing
pub unless-keeps :
    (P : Memory → Type 0) (r : Option Refusal) (m : Memory) (e : Effect)
    → P m
    → (r ≡ none → P e.after)
    → P (unless r m e).after
unless-keeps P r m e h k = unless-either (λ e. P e.after) r m e (λ x. h) k

-- no lent buffer is too short
pub long-enough : (m : Memory) → short m ≡ false → (history_size ≤ length m.history) × (image_size ≤ length m.image)
long-enough m e =
    let n = neither (ltb (length m.history) history_size) _ e in
    (ltb-false (length m.history) history_size n.0, ltb-false (length m.image) image_size n.1)

-- ---- the head that every call on a server has
pub record Head (m : Memory) : Type 0 where
  pub history : history_size ≤ length m.history
  pub image : image_size ≤ length m.image
  pub sound : Rattle.rules.specs.Sound.sound m ≡ true

module _ (m : Memory) (wrong : Bool) (rest : List (Option Refusal)) (e : first (head m wrong ++ rest) ≡ none) where
  rows : (short m ≡ false) × (not (sound m) ≡ false) × (wrong ≡ false) × (first rest ≡ none)
  rows =
      let third = given wrong NotUp ∷ rest in
      let a = ungiven (short m) TooShort (given (not (sound m)) Unsound ∷ third) e in
      let b = ungiven (not (sound m)) Unsound third a.1 in
      let c = ungiven wrong NotUp rest b.1 in
      (a.0, b.0, c.0, c.1)

  pub head-known : Head m
  head-known =
      let long = long-enough m rows.0 in
      record { history = long.0; image = long.1; sound = not-false (sound m) rows.1 }

  pub head-right : wrong ≡ false
  head-right = rows.2

  pub head-rest : first rest ≡ none
  head-rest = rows.3

-- ---- a request
pub record Granted (m : Memory) (j : ServerId) (i : PhoneId) (q : Request) (v : Vector) : Type 0 where
  pub head : Head m
  pub up : m.state.up ≡ true
  pub here : j.0 ≡ m.state.own.0
  pub phone : i.0 < phones
  pub cell : cell_of q < cells
  pub past : zero_from m.state.n v ≡ true
  pub ahead : behind m.state.vector v ≡ false
  pub room : is_write q ≡ true → m.state.held < history_most
  pub log_room : is_write q ≡ true → log_count m.image < log_most

room_of : (w : Bool) (a b : ℕ) → (w && leb a b) ≡ false → w ≡ true → b < a
room_of true a b e q = leb-false a b e
room_of false a b e q = absurd (true≢false (sym q))

pub granted :
    (m : Memory) (j : ServerId) (i : PhoneId) (q : Request) (v : Vector)
    → first (request_refusals m j i q v) ≡ none
    → Granted m j i q v
unfolding request_refusals
granted m j i q v e =
    let rows = ask_refusals m j i q v in
    let a = ungiven (out_of_range m j i q v) OutOfRange (given (behind m.state.vector v) NotYet ∷ full_refusals m q) (head-rest m (is_down m) rows e) in
    let b = ungiven (behind m.state.vector v) NotYet (full_refusals m q) a.1 in
    let c = ungiven (full_history m q) HistoryFull (given (full_log m q) LogFull ∷ []) b.1 in
    let d = ungiven (full_log m q) LogFull [] c.1 in
    let o3 = neither _ (not (zero_from m.state.n v)) a.0 in
    let o2 = neither _ (not (ltb (cell_of q) cells)) o3.0 in
    let o1 = neither (elsewhere m j) (not (ltb i.0 phones)) o2.0 in
    record {
      head = head-known m (is_down m) rows e;
      up = not-false m.state.up (head-right m (is_down m) rows e);
      here = eqb-true j.0 m.state.own.0 (not-false _ o1.0);
      phone = ltb-true i.0 phones (not-false _ o1.1);
      cell = ltb-true (cell_of q) cells (not-false _ o2.1);
      past = not-false _ o3.1;
      ahead = b.0;
      room = room_of (is_write q) history_most m.state.held c.0;
      log_room = room_of (is_write q) log_most (log_count m.image) d.0;
    }

-- what serving it, or cutting it, stands on, wherever it came from and whatever it carried
pub record Admitted (m : Memory) (i : PhoneId) (q : Request) : Type 0 where
  pub head : Head m
  pub up : m.state.up ≡ true
  pub phone : i.0 < phones
  pub room : is_write q ≡ true → m.state.held < history_most
  pub log_room : is_write q ≡ true → log_count m.image < log_most

pub admitted :
    (m : Memory) (j : ServerId) (i : PhoneId) (q : Request) (v : Vector)
    → first (request_refusals m j i q v) ≡ none
    → Admitted m i q
admitted m j i q v e =
    let a = granted m j i q v e in
    record { head = a.head; up = a.up; phone = a.phone; room = a.room; log_room = a.log_room }

-- cut: the count is at most the number of stores
pub granted-cut :
    (m : Memory) (j : ServerId) (i : PhoneId) (q : Request) (v : Vector) (k : ℕ)
    → first (cut_refusals m j i q k v) ≡ none
    → Granted m j i q v × (k ≤ length (plan m i q))
granted-cut m j i q v k e =
    let x = none-append (request_refusals m j i q v) (count_refusals m i q k) e in
    let y = ungiven (not (leb k (length (plan m i q)))) OutOfRange [] x.1 in
    (granted m j i q v x.0, leb-true k (length (plan m i q)) (not-false _ y.0))

-- ---- an update

-- before its writes are looked at
pub record Arrived (m : Memory) (j : ServerId) (msg : List ℕ) : Type 0 where
  pub head : Head m
  pub up : m.state.up ≡ true
  pub here : j.0 ≡ m.state.own.0
  pub right : message_ok msg ≡ true
  pub same_n : message_n msg ≡ m.state.n
  pub other : (message_sender msg).0 ≡ m.state.own.0 → ⊥

pub arrived :
    (m : Memory) (j : ServerId) (msg : List ℕ)
    → first (arrival_refusals m j msg) ≡ none
    → Arrived m j msg
arrived m j msg e =
    let rows = here_refusals m j ++ given (not (suitable m msg)) Unsound ∷ [] in
    let a = ungiven (elsewhere m j) OutOfRange (given (not (suitable m msg)) Unsound ∷ []) (head-rest m (is_down m) rows e) in
    let b = ungiven (not (suitable m msg)) Unsound [] a.1 in
    let s = both (message_ok msg && eqb (message_n msg) m.state.n) _ (not-false _ b.0) in
    let t = both (message_ok msg) _ s.0 in
    record {
      head = head-known m (is_down m) rows e;
      up = not-false m.state.up (head-right m (is_down m) rows e);
      here = eqb-true j.0 m.state.own.0 (not-false _ a.0);
      right = t.0;
      same_n = eqb-true (message_n msg) m.state.n t.1;
      other = eqb-false (message_sender msg).0 m.state.own.0 (not-true _ s.1);
    }

pub record Brought (m : Memory) (j : ServerId) (msg : List ℕ) : Type 0 where
  pub head : Head m
  pub up : m.state.up ≡ true
  pub here : j.0 ≡ m.state.own.0
  pub right : message_ok msg ≡ true
  pub same_n : message_n msg ≡ m.state.n
  pub other : (message_sender msg).0 ≡ m.state.own.0 → ⊥
  pub fits : (taken_from m msg).refusal ≡ none
  pub room : m.state.held + length (taken_from m msg).new ≤ history_most

pub brought-known :
    (m : Memory) (j : ServerId) (msg : List ℕ)
    → first (update_refusals m j msg) ≡ none
    → Brought m j msg
unfolding update_refusals
brought-known m j msg e =
    let x = none-append (arrival_refusals m j msg) (taking_refusals m (taken_from m msg)) e in
    let a = arrived m j msg x.0 in
    let full = not (leb (m.state.held + length (taken_from m msg).new) history_most) in
    let b = none_first (taken_from m msg).refusal (given full HistoryFull ∷ []) x.1 in
    let c = ungiven full HistoryFull [] b.1 in
    record {
      head = a.head;
      up = a.up;
      here = a.here;
      right = a.right;
      same_n = a.same_n;
      other = a.other;
      fits = b.0;
      room = leb-true (m.state.held + length (taken_from m msg).new) history_most (not-false _ c.0);
    }

-- ---- a cut or a recovery
pub record Plain (m : Memory) (wrong : Bool) (j : ServerId) : Type 0 where
  pub head : Head m
  pub right : wrong ≡ false
  pub here : j.0 ≡ m.state.own.0

pub plain : (m : Memory) (wrong : Bool) (j : ServerId) → first (plain_refusals m wrong j) ≡ none → Plain m wrong j
unfolding plain_refusals
plain m wrong j e =
    let a = ungiven (elsewhere m j) OutOfRange [] (head-rest m wrong (here_refusals m j) e) in
    record {
      head = head-known m wrong (here_refusals m j) e;
      right = head-right m wrong (here_refusals m j) e;
      here = eqb-true j.0 m.state.own.0 (not-false _ a.0);
    }
