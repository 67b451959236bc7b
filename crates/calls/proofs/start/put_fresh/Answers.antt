-- `start::put_fresh` meets its contract: zeros, and over them the header number by number.
-- Assumes nothing.
use mathlib.Core.Path.{◌∙◌}
use lib.ListN.{drop}
use Rattle.rules.specs.Image.{image_size}
use Rattle.memory.proofs.Header.{fresh-stored}
use borrow.Author.Rules.{rules}
use Rattle.calls.proofs.start.put_fresh.Goals as goal

pub returns : goal.returns
returns c =
    c.put-5.ensures
    ∙ rw (
      c.put-4.ensures,
      c.put-3.ensures,
      c.put-2.ensures,
      c.put.ensures,
      c.zero_first.ensures,
    )
    (fresh-stored c.args.n c.args.own (drop image_size c.args.image.now) (search rules) (search rules))
