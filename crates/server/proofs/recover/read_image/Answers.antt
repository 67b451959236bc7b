-- `recover::read_image` meets its contract: the checkpoint walks, and the log's last number says how many it lacks.
-- Assumes nothing.
use mathlib.Core.Path.{◌≡◌, sym, ap, ◌∙◌}
use native.Mathlib.Omega.{arith}
use Rattle.std.specs.Prelude.{Some}
use Rattle.notes.specs.Vector.{at}
use Rattle.notes.specs.declared.vector.Vector.{Vector}
use Rattle.memory.specs.Lent.{looked_at}
use Rattle.rules.specs.Image.{checkpoint}
use Rattle.rules.specs.Writes.{count_of, tally}
use Rattle.laws.proofs.Writes.{at-tally}
use Rattle.server.proofs.Recovering.{suited, suited-counts, kept-many, logged-many}
use Rattle.server.proofs.recover.read_image.Goals as goal

pub invariant_of-image : goal.invariant_of-image
invariant_of-image c = record { sized = (suited (looked_at c.args.m) c.requires).image }

pub walk-requires : goal.walk-requires
walk-requires c =
    let m = looked_at c.args.m in
    let l = suited m c.requires in
    (omega (arith, l.image.kept, kept-many m.image _ c.checkpoint-checkpoint.ensures), l.few)

pub unreachable-requires : goal.unreachable-requires
unreachable-requires c =
    let m = looked_at c.args.m in
    c.in_default.not-Some (tally (checkpoint m.image))
    (rw c.checkpoint-checkpoint.ensures at c.walk.ensures ∙ suited-counts m c.requires)

pub newest-requires : goal.newest-requires
newest-requires c = (suited (looked_at c.args.m) c.requires).low

pub returns : goal.returns
returns c =
    let m = looked_at c.args.m in
    let own = m.state.own in
    let walked : Some c.in-Some.vector ≡ Some (tally (checkpoint m.image)) =
    sym c.in-Some.is ∙ rw c.checkpoint-checkpoint.ensures at c.walk.ensures ∙ suited-counts m c.requires in
    let vector : c.in-Some.vector ≡ tally (checkpoint m.image) = cc in
    let kept : c.at.result ≡ count_of own (checkpoint m.image) =
    c.at.ensures ∙ ap (λ (v : Vector). at v own) vector ∙ at-tally (checkpoint m.image) own (suited m c.requires).low in
    record {
      counts = rw (kept-many m.image _ c.checkpoint-checkpoint.ensures, logged-many m.image _ c.log.ensures);
      vector = vector;
      lacked = c.saturating_sub.ensures ∙ rw (c.newest.ensures, kept);
    }
