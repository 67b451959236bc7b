-- No server of a farm is told 6, but of its own message, and no message in flight is told 7 or 8.
-- Assumes nothing.
use Prim.Native.Nat.{ℕ, ◌+◌, ◌<◌}
use mathlib.Core.Bool.{Bool, true, false, cond, not}
use mathlib.Core.List.{List}
use mathlib.Core.Option.{none}
use mathlib.Core.Path.{◌≡◌, refl, ap, sym, ◌∙◌}
use native.Mathlib.Omega.{arith}
use borrow.Author.Tests.{eqb-true, eq-eqb}
use lib.Dec.{eqb, leb}
use lib.ListN.{length}
use Rattle.notes.specs.Message.{history_most, brought, message_n, message_sender}
use Rattle.notes.specs.Vector.{zeros}
use Rattle.notes.specs.declared.index.ServerId.{ServerId}
use Rattle.notes.specs.declared.vector.Vector.{Vector}
use Rattle.rules.specs.declared.event.What.TheVariants as what
use Rattle.rules.specs.Memory.{Memory}
use Rattle.rules.specs.Answer.{Effect}
use Rattle.rules.specs.Step.{taken, taken_from, suitable, update_refusals, update, step}
use Rattle.laws.proofs.Sentences.{six-update}
use Rattle.farm.specs.Farm.{Farm, step_at}
use Rattle.farm.specs.Demand.{◌∈◌, Reached}
use Rattle.farm.specs.Beside.{Welcome}
use Rattle.farm.proofs.Prefix.{each-mem}
use Rattle.farm.proofs.Held.{Sane, keeps, sane-long, sane-here}
use Rattle.farm.proofs.Known.{Genuine}
use Rattle.farm.proofs.Steps.{kept-vector}
use Rattle.farm.proofs.Gaps.{none-refused}
use Rattle.farm.proofs.Inv.{lists-run}
use Rattle.farm.proofs.Demands.{c, i, all-sound}

-- ---- an update in flight, at a server
module _ (n : ℕ) (f : Farm) (x : Reached step n f) (j : ServerId) (low : j.0 < n) (msg : List ℕ) (y : msg ∈ f.sent.updates) where
  abbrev m : Memory
  m = f.servers j.0

  abbrev e : Effect
  e = step_at step f j what.Update zeros msg

  s : Sane n j m
  s = (i n f x).seats.sits j.0 low

  g : Genuine n (c n f x) msg
  g = each-mem (Genuine n (c n f x)) f.sent.updates (i n f x).flight.updates y

  -- it fits unless it is the server's own
  fits : suitable m msg ≡ not (eqb (message_sender msg).0 j.0)
  fits =
      rw (
        g.right.0,
        eq-eqb (message_n msg) m.state.n (g.right.1 ∙ sym s.servers),
        ap (λ (o : ServerId). o.0) s.own,
      )

  in-turn : m.state.up ≡ true → (taken_from m msg).refusal ≡ none
  in-turn up =
      ap (λ (o : ServerId). (taken o m.state.vector (brought msg)).refusal) s.own
      ∙ ap (λ (v : Vector). (taken j v (brought msg)).refusal) (kept-vector n j m s up)
      ∙ none-refused n (c n f x) x.few (lists-run n (c n f x) f.servers (i n f x).seats) j (keeps m) (brought msg) low ((i n f x).seats.mine j.0 low) g.held

  -- what it is answered: 2, 6, 4 or nothing
  abbrev said : Bool → Bool → Bool → ℕ
  said up own room = cond up (cond own 6 (cond room 0 4)) 2

  answered : (b o r : Bool) → m.state.up ≡ b → eqb (message_sender msg).0 j.0 ≡ o → leb (m.state.held + length (taken_from m msg).new) history_most ≡ r → e.reply.number ≡ said b o r
  unfolding step_at step update update_refusals
  answered true true r p q k = rw (sane-long n j m s, s.sound, p, sane-here n j m s, fits, q)
  answered true false true p q k = rw (sane-long n j m s, s.sound, p, sane-here n j m s, fits, q, in-turn p, k)
  answered true false false p q k = rw (sane-long n j m s, s.sound, p, sane-here n j m s, fits, q, in-turn p, k)
  answered false o r p q k = rw (sane-long n j m s, s.sound, p)

  pub welcome : (e.reply.number ≡ 7 → ⊥) × (e.reply.number ≡ 8 → ⊥) × (e.reply.number ≡ 6 → (message_sender msg).0 ≡ j.0)
  welcome = go m.state.up (eqb (message_sender msg).0 j.0) (leb (m.state.held + length (taken_from m msg).new) history_most) refl refl refl
    where
      go :
          (b o r : Bool)
          → m.state.up ≡ b
          → eqb (message_sender msg).0 j.0 ≡ o
          → leb (m.state.held + length (taken_from m msg).new) history_most ≡ r
          → (e.reply.number ≡ 7 → ⊥) × (e.reply.number ≡ 8 → ⊥) × (e.reply.number ≡ 6 → (message_sender msg).0 ≡ j.0)
      go true true r p q k = let a = answered true true r p q k in (λ h. omega (arith, a, h), λ h. omega (arith, a, h), λ h. eqb-true (message_sender msg).0 j.0 q)
      go true false true p q k = let a = answered true false true p q k in (λ h. omega (arith, a, h), λ h. omega (arith, a, h), λ h. absurd (omega (arith, a, h)))
      go true false false p q k = let a = answered true false false p q k in (λ h. omega (arith, a, h), λ h. omega (arith, a, h), λ h. absurd (omega (arith, a, h)))
      go false o r p q k = let a = answered false o r p q k in (λ h. omega (arith, a, h), λ h. omega (arith, a, h), λ h. absurd (omega (arith, a, h)))

pub welcomed : (n : ℕ) (f : Farm) → Reached step n f → (j : ServerId) → j.0 < n → Welcome n f j
unfolding step_at step
welcomed n f x j low =
    record {
      not_six = λ w v msg other six. other (six-update (f.servers j.0) (all-sound n f x j low) (record { server = j; what = w }) v msg six).0;
      six_its_own = λ msg y. (welcome n f x j low msg y).2;
      not_seven = λ msg y. (welcome n f x j low msg y).0;
      not_eight = λ msg y. (welcome n f x j low msg y).1;
    }
