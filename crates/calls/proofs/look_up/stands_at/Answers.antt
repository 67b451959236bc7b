-- `look_up::stands_at` meets its contract: the first refusal, or the place.
-- Assumes nothing.
use Rattle.calls.proofs.LookUp.{place-replied}
use Rattle.calls.proofs.look_up.stands_at.Goals as goal

pub returns : goal.returns
returns c =
    place-replied c.place_in.result _ _ c.place_in.ensures.refusal c.place_in.ensures.place
