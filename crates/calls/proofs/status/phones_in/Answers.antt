-- `status::phones_in` meets its contract: the number's ones, and the zeros below the lowest.
-- Assumes nothing.
use Rattle.laws.proofs.Status.{members-count, members-none, members-first}
use borrow.Author.Rules.{rules}
use Rattle.calls.proofs.status.phones_in.Goals as goal

pub returns-then-lowest-ge-COUNT : goal.returns-then-lowest-ge-COUNT
returns-then-lowest-ge-COUNT c =
    rw (members-none c.args.cr c.if-lowest-ge-COUNT.true)

pub returns : goal.returns
returns c =
    rw (members-count c.args.cr (search rules), members-first c.args.cr c.if-lowest-ge-COUNT.false)
