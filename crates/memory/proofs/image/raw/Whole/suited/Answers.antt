-- `image::Whole::suited` meets its contract: the header, the checkpoint, then the log.
-- Assumes nothing.
use Prim.Native.Nat.{ℕ}
use mathlib.Core.List.{List}
use mathlib.Core.Path.{◌≡◌, sym, ap, ◌∙◌}
use native.Mathlib.Omega.{arith}
use lib.ListN.{length}
use denote.Ref.{Bor}
use Rattle.std.specs.Prelude.{Some}
use Rattle.rules.specs.Image.{checkpoint}
use Rattle.rules.specs.Sound.{suits}
use Rattle.memory.specs.Forms.{Limits, walk_of}
use Rattle.memory.proofs.Listed.{length-listed}
use Rattle.memory.proofs.Tested.{limits, length-checkpoint, suits-not, suits-unwalked, suits-walked, walked-own}
use Rattle.memory.proofs.image.raw.Whole.suited.Goals as goal
use Rattle.memory.proofs.image.raw.Whole.suited.Goals.{In_ok-image, After-log_ok}

pub returns-in_err-image-clause-test : goal.returns-in_err-image-clause-test
returns-in_err-image-clause-test c =
    let a = c.args in
    rw c.from_residual.ensures (sym (suits-not a.n a.own a.self.bytes.now (sym c.in_err-image.ensures.test)))

-- where the header is right, its image is this one
limited : (c : In_ok-image) → Limits c.args.n c.args.own c.args.self.bytes.now
limited c = limits c.args.n c.args.own c.args.self.bytes.now c.args.self.long (sym c.in_ok-image.ensures.test)

this : (c : In_ok-image) → c.in_ok-image.image.bytes.now ≡ c.args.self.bytes.now
this c = ap (λ (b : Bor (List ℕ)). b.now) c.in_ok-image.ensures.same

pub walk-requires : goal.walk-requires
walk-requires c =
    let b = c.checkpoint.result.now in
    let d = (goal.at.walk-requires c).In_ok-image in
    let l = limited d in
    (omega (arith, length-listed b, ap length c.checkpoint.ensures, length-checkpoint c.in_ok-image.image.bytes.now, c.in_ok-image.image.sized.kept), l.few)

pub returns-in_err-tally-clause-test : goal.returns-in_err-tally-clause-test
returns-in_err-tally-clause-test c =
    let a = c.args in
    let d = (goal.at.returns-in_err-tally-clause-test c).In_ok-image in
    let l = limited d in
    rw c.from_residual-in_err-tally.ensures
    (sym (suits-unwalked a.n a.own a.self.bytes.now l.low (rw (c.checkpoint.ensures, this d) at (sym c.in_err-tally.ensures))))

pub log_ok-requires : goal.log_ok-requires
log_ok-requires c =
    let a = c.args in
    let d = (goal.at.log_ok-requires c).In_ok-image in
    let l = limited d in
    let e : walk_of a.n (checkpoint a.self.bytes.now) ≡ Some c.in_ok-tally.tally = rw (c.checkpoint.ensures, this d) at (sym c.in_ok-tally.ensures) in
    rw (this d) (l, c.at.ensures ∙ walked-own a.n a.own a.self.bytes.now l.low c.in_ok-tally.tally e)

decided : (c : After-log_ok) → c.log_ok.result ≡ suits c.args.n c.args.own c.args.self.bytes.now
decided c =
    let a = c.args in
    let i = a.self.bytes.now in
    let header = sym c.in_ok-image.ensures.test in
    let l = limits a.n a.own i a.self.long header in
    let same = ap (λ (b : Bor (List ℕ)). b.now) c.in_ok-image.ensures.same in
    let e : walk_of a.n (checkpoint i) ≡ Some c.in_ok-tally.tally = rw (c.checkpoint.ensures, same) at (sym c.in_ok-tally.ensures) in
    rw same at c.log_ok.ensures ∙ suits-walked a.n a.own i l.low c.in_ok-tally.tally e header

pub returns-then-log_ok-clause-test : goal.returns-then-log_ok-clause-test
returns-then-log_ok-clause-test c =
    sym c.if-log_ok.true ∙ decided (goal.at.returns-then-log_ok-clause-test c).After-log_ok

pub returns-else-log_ok-clause-test : goal.returns-else-log_ok-clause-test
returns-else-log_ok-clause-test c =
    sym c.if-log_ok.false ∙ decided (goal.at.returns-else-log_ok-clause-test c).After-log_ok
