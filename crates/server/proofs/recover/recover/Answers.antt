-- `recover::recover` meets its contract: what the image says, then the bytes and the state that it gives.
-- Assumes nothing.
use mathlib.Core.Path.{◌≡◌, ap, subst}
use native.Mathlib.Omega.{arith}
use Rattle.rules.specs.Memory.{Memory}
use Rattle.memory.specs.Lent.{server}
use Rattle.server.specs.Forms.{Told}
use Rattle.server.proofs.Recovering.{told-recovers, told-few, recover-made}
use Rattle.server.proofs.recover.recover.Goals as goal
use Rattle.server.proofs.recover.recover.Goals.{After-read_image-found, After-lent-2}

-- the image says it of the server, which was lent
told : (c : After-read_image-found) → Told (server c.args.m.now) c.read_image-found.result
told c = subst (λ (m : Memory). Told m c.read_image-found.result) c.lent.ensures c.read_image-found.ensures

-- the image that is lent a second time is the same
image-stays : (c : After-lent-2) → c.lent-2.result.image.now ≡ c.args.m.now.image.now
image-stays c = ap (λ (m : Memory). m.image) c.lent-2.ensures

pub put_recovered-requires : goal.put_recovered-requires
put_recovered-requires c =
    rw (c.from.ensures, c.take-history.ensures.value, image-stays (goal.at.put_recovered-requires c).After-lent-2)
    (told-recovers (server c.args.m.now) c.requires _ (told (goal.at.put_recovered-requires c).After-read_image-found))

pub overflow_cast-held : goal.overflow_cast-held
overflow_cast-held c =
    let r = told-recovers (server c.args.m.now) c.requires _ (told (goal.at.overflow_cast-held c).After-read_image-found) in
    omega (arith, r.few)

pub overflow_add-held : goal.overflow_add-held
overflow_add-held c =
    let r = told-recovers (server c.args.m.now) c.requires _ (told (goal.at.overflow_add-held c).After-read_image-found) in
    omega (arith, r.few)

pub overflow_add-own : goal.overflow_add-own
overflow_add-own c =
    let few = told-few (server c.args.m.now) c.requires _ (told (goal.at.overflow_add-own c).After-read_image-found) in
    omega (arith, few, c.at.ensures)

pub returns-clause-effect : goal.returns-clause-effect
returns-clause-effect c =
    let t = told (goal.at.returns-clause-effect c).After-read_image-found in
    rw (c.woken-m.ensures, c.raised.ensures, c.at.ensures, c.put_recovered.ensures, c.from.ensures, c.take-history.ensures.value, image-stays (goal.at.returns-clause-effect c).After-lent-2)
    (recover-made (server c.args.m.now) c.requires _ t)
