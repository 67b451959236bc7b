-- `sound::sound_up` meets its contract: each test decides where it stops.
-- Assumes nothing.
use Prim.Native.Nat.{ℕ, ◌≤◌, ◌+◌}
use mathlib.Core.Bool.{true, false}
use mathlib.Core.List.{List, map}
use mathlib.Core.Path.{◌≡◌, sym, ap, ◌∙◌}
use native.Mathlib.Omega.{arith}
use lib.ListN.{length, length-take}
use lib.Seq.{length-take-le}
use denote.Ref.{Bor}
use Rattle.notes.specs.Bytes.{pieces}
use Rattle.notes.specs.Record.{record_size, decode, records}
use Rattle.rules.specs.Image.{checkpoint}
use Rattle.memory.specs.Forms.{Limits, Held, Shown, tail, history_test}
use Rattle.memory.specs.declared.image.Image.{Image}
use Rattle.notes.proofs.Pieces.{length-pieces}
use Rattle.memory.proofs.Listed.{listed-records, length-lent}
use Rattle.memory.proofs.Tested.{limits, history-many, history-stops, counted-past, image-many, up-not, up-no-history, up-no-image, up-decides}
use Rattle.memory.proofs.sound.sound_up.Goals as goal
use Rattle.memory.proofs.sound.sound_up.Goals.{In-Some, After-first_records-history, After-at-2, then-held-gt-WRITES_MOST-via-then-held-gt-WRITES_MOST, then-held-gt-WRITES_MOST-via-else-held-gt-WRITES_MOST+then-held-kept}

pub returns-in_default : goal.returns-in_default
returns-in_default c =
    let m = c.args.m in
    sym (up-not m.state.now m.history.now m.image.now (sym c.in_default.ensures.test))

-- where the header is right, its image is this one
this : (c : In-Some) → c.in-Some.image.bytes.now ≡ c.args.m.image.now
this c = ap (λ (b : Bor (List ℕ)). b.now) c.in-Some.ensures.same

limited : (c : In-Some) → Limits c.args.m.state.now.n c.args.m.state.now.own c.args.m.image.now
limited c = limits c.args.m.state.now.n c.args.m.state.now.own c.args.m.image.now c.requires.1 (sym c.in-Some.ensures.test)

pub returns-then-held-gt-WRITES_MOST : goal.returns-then-held-gt-WRITES_MOST
unfolding records
returns-then-held-gt-WRITES_MOST c =
    let m = c.args.m in
    let s = m.state.now in
    let low = (limited (goal.at.returns-then-held-gt-WRITES_MOST c).In-Some).low in
    let kept = ap (λ (i : Image). i.checkpoint) c.counts-kept.ensures in
    let held = length-pieces record_size s.held m.history.now in
    sym
    (elim c.then-held-gt-WRITES_MOST.branch [
      | then-held-gt-WRITES_MOST-via-then-held-gt-WRITES_MOST w ↦ up-no-history s m.history.now m.image.now low
          (history-many s (records s.held m.history.now) (omega (arith, w.if-held-gt-WRITES_MOST.true, c.from-held.ensures)))
      | then-held-gt-WRITES_MOST-via-else-held-gt-WRITES_MOST+then-held-kept w ↦ up-no-image s m.history.now m.image.now low
          (image-many s (pieces record_size s.held m.history.now) m.image.now (omega (arith, w.if-held-kept.true, c.from-held.ensures, kept)))
    ])

-- the history's records, as they are lent
lent : (c : After-first_records-history) → map decode c.first_records-history.result.now ≡ records c.args.m.state.now.held c.args.m.history.now
lent c =
    let m = c.args.m in
    listed-records c.first_records-history.result.now m.state.now.held m.history.now (rw c.from-held.ensures at c.first_records-history.ensures)

held : (c : After-first_records-history) → Held c.args.m.state.now c.first_records-history.result.now
held c =
    let m = c.args.m in
    let l = length-lent c.first_records-history.result.now m.state.now.held m.history.now (rw c.from-held.ensures at c.first_records-history.ensures) in
    let limits = limits m.state.now.n m.state.now.own m.image.now c.requires.1 (sym c.in-Some.ensures.test) in
    record { held = l; most = omega (arith, c.if-held-gt-WRITES_MOST.false, c.from-held.ensures); few = limits.few }

shown : (c : After-first_records-history) → Shown c.args.m.state.now.held c.args.m.history.now c.first_records-history.result.now
shown c =
    let m = c.args.m in
    record { long = omega (arith, c.requires.0, (held c).most, (held c).held); shown = rw c.from-held.ensures at c.first_records-history.ensures }

-- the checkpoint's count is not above theirs
fits : (c : After-first_records-history) → c.counts-kept.result.checkpoint ≤ length c.first_records-history.result.now
fits c = omega (arith, c.if-held-kept.false, c.from-held.ensures, (held c).held)

pub slice_bounds-walk-end : goal.slice_bounds-walk-end
slice_bounds-walk-end c =
    let d = (goal.at.slice_bounds-walk-end c).After-first_records-history in
    sym (length-take-le c.counts-kept.result.checkpoint c.first_records-history.result.now (fits d))

pub walk-requires : goal.walk-requires
walk-requires c =
    let h = held (goal.at.walk-requires c).After-first_records-history in
    (omega (arith, length-take c.counts-kept.result.checkpoint c.first_records-history.result.now, h.most), h.few)

pub returns-in_default-walk : goal.returns-in_default-walk
returns-in_default-walk c =
    let m = c.args.m in
    let s = m.state.now in
    let g = goal.at.returns-in_default-walk c in
    let kept = ap (λ (i : Image). i.checkpoint) c.counts-kept.ensures in
    let stops = history-stops s c.first_records-history.result.now m.image.now (rw kept at (sym c.in_default-walk.ensures)) in
    sym (up-no-history s m.history.now m.image.now (limited g.In-Some).low (rw (lent g.After-first_records-history) at stops))

pub of-requires : goal.of-requires
of-requires c = (limited (goal.at.of-requires c).In-Some).few

pub history_ok-requires : goal.history_ok-requires
history_ok-requires c =
    let d = (goal.at.history_ok-requires c).After-first_records-history in
    (held d, c.of.ensures, omega (arith, fits d), rw c.of.ensures (sym c.in-Some-walk.ensures))

pub returns-then-not-history_ok : goal.returns-then-not-history_ok
returns-then-not-history_ok c =
    let m = c.args.m in
    let g = goal.at.returns-then-not-history_ok c in
    let not : history_test m.state.now (map decode c.first_records-history.result.now) ≡ false = sym c.history_ok.ensures ∙ c.if-not-history_ok.true in
    sym (up-no-history m.state.now m.history.now m.image.now (limited g.In-Some).low (rw (lent g.After-first_records-history) at not))

-- what V counts at own, and what the walk counted there
counted :
    (c : After-at-2)
    → let m = c.args.m in
    c.at.result ≡ c.at-2.result + tail m.state.now.own (checkpoint m.image.now) (map decode c.first_records-history.result.now)
counted c =
    let m = c.args.m in
    let s = m.state.now in
    let r = c.first_records-history.result.now in
    let kept = ap (λ (i : Image). i.checkpoint) c.counts-kept.ensures in
    let l = limits s.n s.own m.image.now c.requires.1 (sym c.in-Some.ensures.test) in
    c.at.ensures
    ∙ counted-past s r m.image.now c.in-Some-walk.counted l.low (rw kept at (sym c.in-Some-walk.ensures)) (sym c.history_ok.ensures ∙ c.if-not-history_ok.false)
    ∙ ap (λ (k : ℕ). k + tail s.own (checkpoint m.image.now) (map decode r)) (sym c.at-2.ensures)

pub overflow_sub-at : goal.overflow_sub-at
overflow_sub-at c = omega (arith, counted (goal.at.overflow_sub-at c).After-at-2)

pub image_ok-requires : goal.image_ok-requires
image_ok-requires c =
    let g = goal.at.image_ok-requires c in
    let d = g.After-first_records-history in
    let kept = ap (λ (i : Image). i.checkpoint) c.counts-kept.ensures in
    rw (this g.In-Some) (shown d, omega (arith, fits d, kept), omega (arith, counted g.After-at-2, c.from-past.ensures))

-- where the history is right, its image decides
pub returns-then-image_ok : goal.returns-then-image_ok
returns-then-image_ok c =
    let m = c.args.m in
    let g = goal.at.returns-then-image_ok c in
    let e = lent g.After-first_records-history in
    let header = sym c.in-Some.ensures.test in
    let history : history_test m.state.now (map decode c.first_records-history.result.now) ≡ true = sym c.history_ok.ensures ∙ c.if-not-history_ok.false in
    let image = sym c.image_ok.ensures ∙ c.if-image_ok.true in
    c.reads_ok.ensures
    ∙ up-decides m.state.now m.history.now m.image.now (limited g.In-Some).low header (rw e at history) (rw (this g.In-Some, e) at image)

pub returns-else-image_ok : goal.returns-else-image_ok
returns-else-image_ok c =
    let m = c.args.m in
    let g = goal.at.returns-else-image_ok c in
    let image = sym c.image_ok.ensures ∙ c.if-image_ok.false in
    c.if-image_ok.false
    ∙ sym (up-no-image m.state.now m.history.now m.image.now (limited g.In-Some).low (rw (this g.In-Some, lent g.After-first_records-history) at image))
