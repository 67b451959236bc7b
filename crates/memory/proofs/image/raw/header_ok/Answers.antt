-- `image::raw::header_ok` meets its contract: each number of the header is tested.
-- Assumes nothing.
use native.Mathlib.Omega.{arith}
use Rattle.std.proofs.lemmas.Grind.{common_steps}
use Rattle.memory.specs.Forms.{header_test}
use Rattle.memory.proofs.Header.{header-test}
use Rattle.memory.proofs.image.raw.header_ok.Goals as goal

pub returns-then-from-eq-LEN : goal.returns-then-from-eq-LEN
unfolding header_test
returns-then-from-eq-LEN c =
    let a = c.args in
    rw (← header-test a.n a.own a.bytes.now (λ i. (c.type_inv.bytes i).fits) (omega (arith, c.requires)))
    (grind (arith, common_steps))

pub returns-else-from-eq-LEN : goal.returns-else-from-eq-LEN
unfolding header_test
returns-else-from-eq-LEN c =
    let a = c.args in
    rw (← header-test a.n a.own a.bytes.now (λ i. (c.type_inv.bytes i).fits) (omega (arith, c.requires)))
    (grind (arith, common_steps))
