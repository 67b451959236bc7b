-- What holds in every run beside demand 3: nothing is made up, names are one, and what a read shows.
-- Assumes nothing.
use Prim.Native.Nat.{ℕ}
use mathlib.Core.Bool.{not, true≢false}
use mathlib.Core.List.{List}
use mathlib.Core.Option.{Option, none, some}
use mathlib.Core.Path.{◌≡◌, refl, ap, sym, subst, ◌∙◌}
use borrow.Author.Tests.{eq-eqb}
use lib.Dec.{eqb}
use Rattle.notes.specs.declared.record.Record.{Record}
use Rattle.rules.specs.declared.event.Request.TheVariants.{Read}
use Rattle.rules.specs.Writes.{winner}
use Rattle.rules.specs.Memory.{Memory, writes}
use Rattle.rules.specs.Answer.{Effect}
use Rattle.rules.specs.Request.{value_of, reply_to, served}
use Rattle.rules.specs.Step.{step}
use Rattle.laws.proofs.Winner.{winner-none, winner-some}
use Rattle.farm.specs.Farm.{Farm, performed_by, serve, serving, run}
use Rattle.farm.specs.Demand.{◌∈◌, Reached}
use Rattle.farm.specs.Beside.{Standing, in_history, in_message, NothingMadeUp, Shows, value, no_note, owed, ReadsShow, OneName}
use Rattle.farm.proofs.Prefix.{each-mem, every-mem, changed-same}
use Rattle.farm.proofs.Held.{Numbered, Placed, Held, placed-grows}
use Rattle.farm.proofs.Known.{Genuine}
use Rattle.farm.proofs.Steps.{keeps-up, servers-few}
use Rattle.farm.proofs.Taken.{one_name, held-placed}
use Rattle.farm.proofs.Inv.{lists-run, Inv}
use Rattle.farm.proofs.Serving.{done-is}
use Rattle.farm.proofs.Runs.{run-inv}
use Rattle.farm.proofs.Demands.{c, i, owed-found}

-- what stands anywhere stands in its origin's list
standing-placed : (n : ℕ) (c : Numbered) (f : Farm) → Inv n c f → (h : List Record) → Standing n f h → (w : Record) → w ∈ h → Placed n c w
standing-placed n c f i h (in_history j l up) w y =
    let m = f.servers j.0 in
    held-placed n c (servers-few n j m (i.seats.sits j.0 l)) (lists-run n c f.servers i.seats) (writes m)
    (subst (Held n c) (keeps-up m up) (i.seats.held j.0 l))
    w
    y
standing-placed n c f i h (in_message msg z) w y =
    each-mem (Placed n c) h (each-mem (Genuine n c) f.sent.updates i.flight.updates z).placed y

module _ (n : ℕ) (f : Farm) (x : Reached step n f) where
  pub nothing-made-up : NothingMadeUp n f
  nothing-made-up h s w y =
      let p = standing-placed n (c n f x) f (i n f x) h s w y in (i n f x).deeds.begun w.origin.0 p.low w p.listed

  pub names-one : OneName n f
  names-one acts h g sh sg w y wh yg =
      let k = run-inv n (c n f x) f (i n f x) acts in
      one_name n k.lists x.few (lists-run n k.lists (run step f acts).servers k.inv.seats) w y
      (placed-grows n (c n f x) k.lists k.grows w (standing-placed n (c n f x) f (i n f x) h sh w wh))
      (standing-placed n k.lists (run step f acts) k.inv g sg y yg)

  pub reads-show : ReadsShow step n f
  unfolding serving served reply_to
  reads-show q cell j y e done =
      subst (λ (h : List Record). Shows q cell h a) (sym leaves) (go (winner cell (writes a.after)) refl)
    where
      m : Memory
      m = f.servers j.0

      a : Effect
      a = serve step f j q

      leaves : performed_by (serving step f j q) j ≡ writes a.after
      leaves = ap writes (changed-same f.servers j.0 a.after)

      -- every write that it must find is there
      found : (w : Record) → w ∈ owed q → w ∈ writes a.after
      found w s = subst (λ (h : List Record). w ∈ h) leaves (owed-found n f x q cell j y e refl done w s)

      is : a ≡ served m q.phone (Read cell)
      is = done-is n (c n f x) f (i n f x) j q done ∙ ap (served m q.phone) e

      reply : a.reply ≡ value_of (winner cell (writes a.after)) a.vector
      reply = ap (λ (z : Effect). z.reply) is ∙ sym (ap (λ (z : Effect). value_of (winner cell (writes z.after)) z.vector) is)

      go : (o : Option Record) → winner cell (writes a.after) ≡ o → Shows q cell (writes a.after) a
      go none z =
          no_note (reply ∙ ap (λ o. value_of o a.vector) z)
          (λ w s here.
          true≢false
          (sym (every-mem (λ r. not (eqb r.cell cell)) (writes a.after) (winner-none cell (writes a.after) z) (found w s))
          ∙ ap not (eq-eqb w.cell cell here)))
      go (some r) z =
          let k = winner-some cell (writes a.after) r z in
          value r k.0 k.1 (reply ∙ ap (λ o. value_of o a.vector) z) (λ w s here. k.2 w (found w s) here)
