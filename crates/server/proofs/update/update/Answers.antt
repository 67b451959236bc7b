-- `update::update` meets its contract: what is refused, or the new writes behind those held.
-- Assumes nothing.
use Prim.Native.Nat.{◌-◌, ◌≤◌}
use mathlib.Core.List.{map}
use mathlib.Core.Option.{none}
use mathlib.Core.Path.{◌≡◌, sym, ap, ◌∙◌}
use native.Mathlib.Omega.{arith}
use borrow.Author.Rules.{rules}
use Rattle.std.specs.Prelude.{Ok, Err}
use Rattle.notes.specs.Message.{history_most, brought}
use Rattle.notes.specs.Record.{decode}
use Rattle.notes.specs.Reply.{first}
use Rattle.rules.specs.Memory.{Memory}
use Rattle.rules.specs.Step.{taken_from, arrival_refusals}
use Rattle.memory.specs.Lent.{server}
use Rattle.server.specs.Forms.{takes_of, seen}
use Rattle.server.proofs.Updating.{brought-records, arrived-few, arrived-long, arrived-origins, update-refused, update-stopped, update-full, took-room, took-fits, update-done, update_same}
use Rattle.server.proofs.update.update.Goals as goal
use Rattle.server.proofs.update.update.Goals.{In_ok-arrival, In_ok-found, After-first_records-records, then-found-ne0, else-found-ne0}

-- nothing is refused before the writes
arrived : (c : In_ok-arrival) → none ≡ first (arrival_refusals (server c.args.m.now) c.args.at c.args.message.now)
arrived c = c.in_ok-arrival.ensures ∙ ap (λ (m : Memory). first (arrival_refusals m c.args.at c.args.message.now)) c.lent.ensures

-- the records are the writes
writes : (c : After-first_records-records) → map decode c.first_records-records.result.now ≡ brought c.args.message.now
writes c = brought-records c.args.message.now _ c.first_records-records.ensures

-- and what taking them gave
gave : (c : In_ok-found) → takes_of (Ok c.in_ok-found.found) ≡ seen (taken_from (server c.args.m.now) c.args.message.now)
gave c = rw (brought-records c.args.message.now _ c.first_records-records.ensures) at c.in_ok-found.ensures

pub returns-in_err-arrival-clause-effect : goal.returns-in_err-arrival-clause-effect
returns-in_err-arrival-clause-effect c =
    let told : c.from_residual.result ≡ Err c.in_err-arrival.field-0.0 = search rules in
    rw told
    (sym
    (update-refused (server c.args.m.now) c.args.at c.args.message.now _
    (c.in_err-arrival.ensures ∙ ap (λ (m : Memory). first (arrival_refusals m c.args.at c.args.message.now)) c.lent.ensures)))

pub slice_bounds-body-count : goal.slice_bounds-body-count
slice_bounds-body-count c =
    arrived-long (server c.args.m.now) c.args.at c.args.message.now (arrived (goal.at.slice_bounds-body-count c).In_ok-arrival)

pub slice_bounds-body-start : goal.slice_bounds-body-start
slice_bounds-body-start c =
    arrived-long (server c.args.m.now) c.args.at c.args.message.now (arrived (goal.at.slice_bounds-body-start c).In_ok-arrival)

pub in_turn-requires : goal.in_turn-requires
in_turn-requires c =
    let here = goal.at.in_turn-requires c in
    rw (writes here.After-first_records-records) (arrived-origins (server c.args.m.now) c.args.at c.args.message.now (arrived here.In_ok-arrival))

pub returns-in_err-found-clause-effect : goal.returns-in_err-found-clause-effect
returns-in_err-found-clause-effect c =
    let here = goal.at.returns-in_err-found-clause-effect c in
    let told : c.from_residual-in_err-found.result ≡ Err c.in_err-found.field-0.0 = search rules in
    rw told
    (sym
    (update-stopped (server c.args.m.now) c.args.at c.args.message.now (arrived here.In_ok-arrival) _
    (rw (writes here.After-first_records-records) at c.in_err-found.ensures)))

pub overflow_sub-held : goal.overflow_sub-held
overflow_sub-held c =
    let few = arrived-few (server c.args.m.now) c.args.at c.args.message.now (arrived (goal.at.overflow_sub-held c).In_ok-arrival) in
    omega (arith, few, c.from-held.ensures)

pub returns-then-held-found-clause-effect : goal.returns-then-held-found-clause-effect
returns-then-held-found-clause-effect c =
    let here = goal.at.returns-then-held-found-clause-effect c in
    sym
    (update-full (server c.args.m.now) c.args.at c.args.message.now (arrived here.In_ok-arrival) _ (gave here.In_ok-found)
    (omega (arith, c.from-held.ensures)))

pub append-requires : goal.append-requires
append-requires c =
    let here = goal.at.append-requires c in
    let m = server c.args.m.now in
    let ok = arrived here.In_ok-arrival in
    rw (writes here.After-first_records-records, c.from-held.ensures) (
      arrived-origins m c.args.at c.args.message.now ok,
      took-fits m c.args.at c.args.message.now ok _ (gave here.In_ok-found) (omega (arith, c.from-held.ensures)),
    )

pub taken-m-requires : goal.taken-m-requires
taken-m-requires c =
    let here = goal.at.taken-m-requires c in
    took-room (server c.args.m.now) c.args.at c.args.message.now (arrived here.In_ok-arrival) _ (gave here.In_ok-found)
    (omega (arith, c.from-held.ensures))

pub returns-clause-effect : goal.returns-clause-effect
returns-clause-effect c =
    let here = goal.at.returns-clause-effect c in
    let m = server c.args.m.now in
    let ok = arrived here.In_ok-arrival in
    let room : c.in_ok-found.found.new ≤ history_most - m.state.held = omega (arith, c.from-held.ensures) in
    elim c.if-found-ne0.branch [
      | then-found-ne0 w ↦
          rw (c.taken-m.ensures, w.m-is, w.append.ensures, writes here.After-first_records-records, c.from-held.ensures)
          (sym (update-done m c.args.at c.args.message.now ok _ (gave here.In_ok-found) room))
      | else-found-ne0 w ↦
          rw (c.taken-m.ensures, w.m-is)
          (sym (update_same m c.args.at c.args.message.now ok _ (gave here.In_ok-found) room w.if-found-ne0.false))
    ]
