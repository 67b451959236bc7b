-- `request::stores_of` meets its contract: those of a read, or of a write.
-- Assumes nothing.
use mathlib.Core.Path.{sym, ap, ◌∙◌, subst}
use lib.ListN.{length}
use Rattle.memory.specs.Lent.{looked_at}
use Rattle.rules.specs.Memory.{Memory}
use Rattle.rules.specs.Request.{plan}
use Rattle.rules.specs.declared.event.Request.{Request}
use Rattle.laws.proofs.Passed.{Admitted}
use Rattle.requests.proofs.Served.{room}
use Rattle.requests.proofs.Written.{write-stores}
use Rattle.requests.proofs.request.stores_of.Goals as goal

pub read_stores-requires : goal.read_stores-requires
read_stores-requires c =
    (room (looked_at c.args.m) c.args.phone c.args.q c.requires, c.requires.phone)

pub returns-in-Write : goal.returns-in-Write
returns-in-Write c =
    let found : Memory = looked_at c.args.m in
    let is = c.in-Write.is in
    sym
    (ap (λ (q : Request). length (plan found c.args.phone q)) is
    ∙ write-stores found c.args.phone _ _ _ (subst (Admitted found c.args.phone) is c.requires))
