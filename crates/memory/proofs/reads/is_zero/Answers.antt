-- `reads::is_zero` meets its contract: each number is tested, and each count of RW.
-- Assumes nothing.
use mathlib.Core.Path.{◌≡◌, ◌∙◌}
use native.Mathlib.Omega.{arith}
use Rattle.std.proofs.Common.{◌&&◌, true, eqb, rules, tests}
use Rattle.std.proofs.lemmas.Grind.{common_steps}
use Rattle.std.proofs.lemmas.Iterator.{YieldsList-from_slice}
use Rattle.std.proofs.lemmas.Iterator.Consumers.{fold_from_yields_List}
use Rattle.notes.specs.Lists.{every}
use Rattle.notes.specs.Vector.{zero_from}
use Rattle.notes.proofs.Lists.{every-fold}
use Rattle.rules.specs.Sound.{is_zero}
use Rattle.memory.proofs.reads.is_zero.Goals as goal
use Rattle.memory.proofs.reads.is_zero.Goals.{After-fold-no_reads}

no-reads : (c : After-fold-no_reads) → c.fold-no_reads.result ≡ every (λ x. eqb x 0) c.args.s.now.rw.counts
no-reads c =
    let counts = c.args.s.now.rw.counts in
    fold_from_yields_List _ (λ zero x. zero && eqb x 0) true _ c.fold-no_reads.ensures.ran (YieldsList-from_slice counts cc) (λ b x r q k. search (rules, tests))
    ∙ every-fold (λ x. eqb x 0) counts true

pub returns-then-no_reads : goal.returns-then-no_reads
unfolding is_zero zero_from
returns-then-no_reads c =
    let e = no-reads (goal.at.returns-then-no_reads c).After-fold-no_reads in
    grind (arith, common_steps)

pub returns-else-no_reads : goal.returns-else-no_reads
unfolding is_zero zero_from
returns-else-no_reads c =
    let e = no-reads (goal.at.returns-else-no_reads c).After-fold-no_reads in
    grind (arith, common_steps)
