-- `block::state_of` meets its contract: right or not.
-- Assumes nothing.
use Rattle.std.proofs.Common.{sym, ◌∙◌}
use borrow.Author.Tests.{le-ltb}
use lib.ListN.{length}
use Rattle.ssaldorip.specs.Calls.{block_size, state_of}
use Rattle.ssaldorip.proofs.block.state_of.Goals as goal

pub returns-then-not-block_ok : goal.returns-then-not-block_ok
unfolding state_of
returns-then-not-block_ok c =
    rw (le-ltb (length c.args.b.now) block_size c.if-b-lt-LEN.false, c.blank.ensures, sym c.block_ok.ensures ∙ c.if-not-block_ok.true)

pub returns : goal.returns
unfolding state_of
returns c =
    rw (le-ltb (length c.args.b.now) block_size c.if-b-lt-LEN.false, c.state_in.ensures, sym c.block_ok.ensures ∙ c.if-not-block_ok.false)
