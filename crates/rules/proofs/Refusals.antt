-- A refusal of the calls on messages and sessions keeps its number among the refusals.
-- Assumes nothing.
use mathlib.Core.Path.{◌≡◌, refl}
use Rattle.notes.specs.declared.message.Refusal.{Refusal as Told}
use Rattle.notes.specs.declared.message.Refusal.TheVariants.{OutOfRange, Malformed, TooShort}
use Rattle.notes.specs.Message as message
use Rattle.rules.specs.Answer.{refusal_number, of_message}

pub same-number : (k : Told) → refusal_number (of_message k) ≡ message.refusal_number k
same-number OutOfRange = refl
same-number Malformed = refl
same-number TooShort = refl
