-- `stores::store_write` meets its contract: cut before the count or not.
-- Assumes nothing.
use mathlib.Core.Path.{◌≡◌, ◌∙◌}
use native.Mathlib.Omega.{arith}
use lib.ListN.{length}
use Rattle.notes.specs.Record.{record_size}
use Rattle.requests.proofs.Storing.{write-whole}
use borrow.Author.Rules.{rules}
use Rattle.requests.proofs.stores.store_write.Goals as goal

pub returns : goal.returns
returns c =
    let size : length c.args.bytes.now ≡ record_size = search rules in
    let a = c.args in
    c.put_count.ensures
    ∙ rw c.store_bytes.ensures
    (write-whole a.image.now a.bytes.now a.logged a.k size (omega arith))
