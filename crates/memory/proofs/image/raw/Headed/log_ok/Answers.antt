-- `image::Headed::log_ok` meets its contract: each test decides where it stops.
-- Assumes nothing.
use Prim.Native.Nat.{◌-◌}
use mathlib.Core.Bool.{◌&&◌}
use mathlib.Core.List.{map}
use mathlib.Core.Path.{◌≡◌, sym, ap, ◌∙◌}
use native.Mathlib.Omega.{arith}
use lib.ListN.{length}
use Rattle.std.proofs.lemmas.Grind.{common_steps}
use Rattle.notes.specs.Record.{decode}
use Rattle.rules.specs.Image.{checkpoint, log}
use Rattle.rules.specs.Sound.{is_last}
use Rattle.rules.specs.Writes.{writes_of}
use Rattle.memory.specs.Forms.{added, log_test}
use Rattle.memory.proofs.Listed.{length-listed, take-listed, drop-listed}
use Rattle.memory.proofs.Tested.{length-log, log-long, log-many, log-decides, kept-few}
use Rattle.memory.proofs.image.raw.Headed.log_ok.Goals as goal
use Rattle.memory.proofs.image.raw.Headed.log_ok.Goals.{After-from-added, After-own_run}

-- how many records the code counts, and how many of the log's the checkpoint lacks
kept : (c : After-from-added) → length c.checkpoint-checkpoint.result.now ≡ length (checkpoint c.args.self.bytes.now)
kept c = sym (length-listed c.checkpoint-checkpoint.result.now) ∙ ap length c.checkpoint-checkpoint.ensures

logged : (c : After-from-added) → length c.log-log.result.now ≡ length (log c.args.self.bytes.now)
logged c = sym (length-listed c.log-log.result.now) ∙ ap length c.log-log.ensures

lacked : (c : After-from-added) → added c.args.own (checkpoint c.args.self.bytes.now) (log c.args.self.bytes.now) ≡ c.from-added.result
lacked c = sym (c.from-added.ensures ∙ rw (c.newest.ensures, c.requires.1) at c.saturating_sub.ensures)

pub returns-then-log-added : goal.returns-then-log-added
returns-then-log-added c =
    let a = c.args in
    let c0 = checkpoint a.self.bytes.now in
    let l0 = log a.self.bytes.now in
    let d = (goal.at.returns-then-log-added c).After-from-added in
    let k = kept d in
    let l = logged d in
    let long = log-long a.n a.own c0 l0 c.from-added.result (lacked d) in
    let many = log-many a.n a.own c0 l0 c.from-added.result (lacked d) in
    grind (arith, common_steps)

pub own_run-requires : goal.own_run-requires
own_run-requires c =
    let a = c.args in
    let i = c.requires.0.image in
    let logged = logged (goal.at.own_run-requires c).After-from-added in (
      omega (arith, c.split_at.ensures.back_len, logged, length-log a.self.bytes.now, i.logged),
      rw c.requires.1 (kept-few a.n a.own a.self.bytes.now i.kept),
    )

-- the parts of the log are tested
tested :
    (c : After-own_run)
    → let a = c.args in
    log_test a.n a.own (checkpoint a.self.bytes.now) (log a.self.bytes.now)
    ≡ (c.own_run.result && is_last (map decode c.split_at.result.0.now) (writes_of a.own (map decode c.checkpoint-checkpoint.result.now)))
tested c =
    let a = c.args in
    let b = c.log-log.result.now in
    let t = c.from-added.result in
    let s = c.split_at.ensures in
    let k = length-listed c.checkpoint-checkpoint.result.now in
    let l = length-listed b in
    let lacking : added a.own (map decode c.checkpoint-checkpoint.result.now) (map decode b) ≡ t = rw (c.log-log.ensures, c.checkpoint-checkpoint.ensures) (sym (c.from-added.ensures ∙ rw (c.newest.ensures, c.requires.1) at c.saturating_sub.ensures)) in
    rw (← c.log-log.ensures, ← c.checkpoint-checkpoint.ensures)
    (log-decides a.n a.own (map decode c.checkpoint-checkpoint.result.now) (map decode b) t lacking (omega arith) (omega arith)
    ∙ rw (l, drop-listed b (length b - t), take-listed b (length b - t), ← s.front, ← s.back, c.checkpoint-checkpoint.ensures, ← c.requires.1, c.own_run.ensures, c.of.ensures))

pub returns-then-own_run : goal.returns-then-own_run
returns-then-own_run c =
    c.is_last.ensures ∙ sym (tested (goal.at.returns-then-own_run c).After-own_run ∙ rw c.if-own_run.true)

pub returns-else-own_run : goal.returns-else-own_run
returns-else-own_run c =
    c.if-own_run.false ∙ sym (tested (goal.at.returns-else-own_run c).After-own_run ∙ rw c.if-own_run.false)
