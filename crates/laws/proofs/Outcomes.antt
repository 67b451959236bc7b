-- A step, case by case: it refuses and changes nothing, or it is one of five things of which more is known.
-- Assumes nothing.
use Prim.Native.Nat.{ℕ}
use mathlib.Core.Bool.{false, true≢false}
use mathlib.Core.List.{List}
use mathlib.Core.Option.{Option, none, some}
use mathlib.Core.Path.{◌≡◌, refl, sym, ◌∙◌}
use native.Mathlib.Omega.{arith}
use Rattle.notes.specs.Reply.{first}
use Rattle.notes.specs.Vector.{zeros}
use Rattle.notes.specs.declared.index.PhoneId.{PhoneId}
use Rattle.notes.specs.declared.index.ServerId.{ServerId}
use Rattle.notes.specs.declared.record.Record.{Record}
use Rattle.notes.specs.declared.vector.Vector.{Vector}
use Rattle.rules.specs.declared.answer.Refusal.{Refusal}
use Rattle.rules.specs.declared.answer.Refusal.TheVariants.{OutOfRange, NotUp, NotYet, HistoryFull, LogFull, Unsound, Gap, OwnAhead, TooShort}
use Rattle.rules.specs.declared.event.Event.{Event}
use Rattle.rules.specs.declared.event.Request.{Request}
use Rattle.rules.specs.declared.event.Request.TheVariants.{Read, Write}
use Rattle.rules.specs.declared.event.What.{What}
use Rattle.rules.specs.declared.event.What.TheVariants as what
use Rattle.rules.specs.Writes.{winner}
use Rattle.rules.specs.Memory.{Memory, with_state, down_of, writes}
use Rattle.rules.specs.Sound.{recover, sound}
use Rattle.rules.specs.Answer.{Effect, refusal_reply, replying, finished, unless, is_down}
use Rattle.rules.specs.Request.{value_of, reply_to, served, cut_after, request_refusals, cut_refusals, request, request_cut}
use Rattle.rules.specs.Step.{taken_from, updated, update_refusals, update, plain_refusals, cut, recovery, happens, step}
use Rattle.laws.proofs.Passed.{Head, Granted, Brought, Plain, unless-either, granted, granted-cut, brought-known, plain}

pub record Cases (m : Memory) (j : ServerId) (v : Vector) (msg : List ℕ) (P : Effect → Type 0) : Type 0 where
  pub refuses : (k : Refusal) → P (replying (refusal_reply k) zeros m)
  pub serves : (i : PhoneId) (q : Request) → Granted m j i q v → P (served m i q)
  pub cut_serving : (i : PhoneId) (q : Request) (k : ℕ) → Granted m j i q v → P (cut_after m i q k)
  pub cuts : Plain m (is_down m) j → P (finished (with_state (down_of m.state) m))
  pub takes : Brought m j msg → P (finished (updated m (taken_from m msg)))
  pub recovers : Plain m m.state.up j → P (finished (recover m))

pub step-cases :
    (m : Memory) (e : Event) (v : Vector) (msg : List ℕ) (P : Effect → Type 0) → Cases m e.server v msg P → P (step m e v msg)
unfolding step request request_cut cut update recovery
step-cases m e v msg P c = go e.what
  where
    j : ServerId
    j = e.server

    go : (w : What) → P (happens m j w v msg)
    go (what.Request i q) =
        unless-either P (first (request_refusals m j i q v)) m (served m i q) c.refuses (λ r. c.serves i q (granted m j i q v r))
    go (what.RequestCut i q k) =
        unless-either P (first (cut_refusals m j i q k v)) m (cut_after m i q k) c.refuses
        (λ r. c.cut_serving i q k (granted-cut m j i q v k r).0)
    go what.Cut =
        unless-either P (first (plain_refusals m (is_down m) j)) m (finished (with_state (down_of m.state) m)) c.refuses
        (λ r. c.cuts (plain m (is_down m) j r))
    go what.Update =
        unless-either P (first (update_refusals m j msg)) m (finished (updated m (taken_from m msg))) c.refuses
        (λ r. c.takes (brought-known m j msg r))
    go what.Recovery =
        unless-either P (first (plain_refusals m m.state.up j)) m (finished (recover m)) c.refuses
        (λ r. c.recovers (plain m m.state.up j r))

-- ---- refusals
pub refusal-number : (k : Refusal) → (refusal_reply k).number ≡ 0 → ⊥
refusal-number OutOfRange e = omega arith
refusal-number NotUp e = omega arith
refusal-number NotYet e = omega arith
refusal-number HistoryFull e = omega arith
refusal-number LogFull e = omega arith
refusal-number Unsound e = omega arith
refusal-number Gap e = omega arith
refusal-number OwnAhead e = omega arith
refusal-number TooShort e = omega arith

-- a call that is done was not refused
pub done_none : (r : Option Refusal) (m : Memory) (e : Effect) → (unless r m e).reply.number ≡ 0 → r ≡ none
done_none none m e h = refl
done_none (some r) m e h = absurd (refusal-number r h)

reply-number : (q : Request) (m : Memory) → (reply_to q m).number ≡ 0
unfolding reply_to
reply-number (Write cell value time) m = refl
reply-number (Read cell) m = go (winner cell (writes m))
  where
    go : (r : Option Record) → (value_of r m.state.vector).number ≡ 0
    go none = refl
    go (some r) = refl

pub served-number : (m : Memory) (i : PhoneId) (q : Request) → (served m i q).reply.number ≡ 0
unfolding served
served-number m i q = reply-number q _

module _ (m : Memory) where
  -- a refusal changes nothing
  pub refused-same :
      (e : Event) (v : Vector) (msg : List ℕ) → ((step m e v msg).reply.number ≡ 0 → ⊥) → (step m e v msg).after ≡ m
  unfolding served cut_after
  refused-same e v msg =
      step-cases m e v msg (λ x. (x.reply.number ≡ 0 → ⊥) → x.after ≡ m)
      (record {
        refuses = λ k r. refl;
        serves = λ i q a r. absurd (r (reply-number q _));
        cut_serving = λ i q k a r. absurd (r refl);
        cuts = λ a r. absurd (r refl);
        takes = λ a r. absurd (r refl);
        recovers = λ a r. absurd (r refl);
      })

  pub unsound-refused :
      sound m ≡ false
      → (e : Event) (v : Vector) (msg : List ℕ)
      → ((step m e v msg).after ≡ m) × ((step m e v msg).reply.number ≡ 0 → ⊥)
  unsound-refused f e v msg =
      step-cases m e v msg (λ x. (x.after ≡ m) × (x.reply.number ≡ 0 → ⊥))
      (record {
        refuses = λ k. (refl, refusal-number k);
        serves = λ i q a. absurd (never a.head);
        cut_serving = λ i q k a. absurd (never a.head);
        cuts = λ a. absurd (never a.head);
        takes = λ a. absurd (never a.head);
        recovers = λ a. absurd (never a.head);
      })
    where
      never : Head m → ⊥
      never h = true≢false (sym h.sound ∙ f)
