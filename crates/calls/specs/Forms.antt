-- What a look-up's parts find, in the form that loops need. No public call is stated by it.
-- Assumes nothing.
use Rattle.std.specs.Prelude.{ℕ, Some, None}
use Rattle.std.specs.Prelude.{Option as Maybe}
use Rattle.std.proofs.Math.Option.{Option, none, some}

abbrev pub placed : Maybe ℕ → Option ℕ
placed (Some p) = some p
placed None = none
