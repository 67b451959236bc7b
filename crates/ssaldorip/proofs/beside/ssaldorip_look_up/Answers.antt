-- `beside::ssaldorip_look_up` meets its contract: what was found is answered by its first value, or its number.
-- Assumes nothing.
use Rattle.std.proofs.Common.{◌∙◌, arith, Ok, Err, Some, None}
use Rattle.ssaldorip.proofs.Stateless.{found_is, place-within}
use Rattle.ssaldorip.proofs.beside.ssaldorip_look_up.Goals as goal

pub overflow_cast-result : goal.overflow_cast-result
overflow_cast-result c =
    let told = rw (c.in-Ok-Some.is, c.in-Ok-Some.field-0-is) at c.stands_at.ensures in
    omega (arith, place-within _ _ _ _ told)

pub returns-in-Ok-Some : goal.returns-in-Ok-Some
returns-in-Ok-Some c =
    found_is (Ok (Some _)) _ _ (rw (c.in-Ok-Some.is, c.in-Ok-Some.field-0-is) at c.stands_at.ensures)

pub returns-in-Ok-None : goal.returns-in-Ok-None
returns-in-Ok-None c =
    found_is (Ok None) _ _ (rw (c.in-Ok-None.is, c.in-Ok-None.field-0-is) at c.stands_at.ensures)

pub returns-in-Err : goal.returns-in-Err
returns-in-Err c = c.code.ensures ∙ found_is (Err _) _ _ (rw c.in-Err.is at c.stands_at.ensures)
