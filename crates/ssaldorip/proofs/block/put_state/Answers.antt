-- `block::put_state` meets its contract: number by number.
-- Assumes nothing.
use Rattle.std.proofs.Common.{◌∙◌, rules}
use Rattle.ssaldorip.proofs.Stored.{state-stored}
use Rattle.ssaldorip.proofs.block.put_state.Goals as goal

pub returns : goal.returns
returns c =
    let s = c.args.s.now in
    c.put_counts-2.ensures
    ∙ rw (c.put-7.ensures, c.put_counts.ensures, c.put-6.ensures, c.put-5.ensures, c.put-4.ensures, c.put-3.ensures, c.from.ensures, c.put-2.ensures, c.put.ensures)
    (state-stored s (search rules) (search rules) (search rules) (search rules) c.args.b.now c.requires)
