-- `look_up::looked_in` meets its contract: what is refused, row by row, or the image.
-- Assumes nothing.
use mathlib.Core.Path.{sym}
use Rattle.calls.proofs.LookUp.{look-9, look-6, look-1, look-passed}
use Rattle.calls.proofs.look_up.looked_in.Goals as goal

pub returns-then-image-lt-LEN-clause-refusal : goal.returns-then-image-lt-LEN-clause-refusal
returns-then-image-lt-LEN-clause-refusal c =
    sym (look-9 c.args.image.now c.args.origin c.if-image-lt-LEN.true)

pub returns-in_default-clause-refusal : goal.returns-in_default-clause-refusal
returns-in_default-clause-refusal c =
    sym (look-6 c.args.image.now c.args.origin c.if-image-lt-LEN.false (sym c.in_default.ensures.test))

pub returns-then-n-origin-clause-refusal : goal.returns-then-n-origin-clause-refusal
returns-then-n-origin-clause-refusal c =
    sym (look-1 c.args.image.now c.args.origin c.if-image-lt-LEN.false (sym c.in-Some.ensures.test) c.if-n-origin.true)

pub returns-clause-refusal : goal.returns-clause-refusal
returns-clause-refusal c =
    sym (look-passed c.args.image.now c.args.origin c.if-image-lt-LEN.false (sym c.in-Some.ensures.test) c.if-n-origin.false)
