-- What a call is lent, as a memory.
-- Assumes nothing.
use Rattle.std.specs.Prelude.{◌≡◌}
use Rattle.rules.specs.Memory.{Memory, memory}
pub use Rattle.memory.specs.declared.lent.Lent.{Lent}
pub use Rattle.memory.specs.declared.lent.Server.{Server}

-- the memory that a call looks at
abbrev pub looked_at : Lent → Memory
looked_at l = memory l.state.now l.history.now l.image.now

-- the memory that a step changes
abbrev pub server : Server → Memory
server s = memory s.state s.history.now s.image.now

-- a server's buffers are the program's, before and after
pub record Stays (before after : Server) : Type 0 where
  pub history : after.history.ghost_name ≡ before.history.ghost_name
  pub image : after.image.ghost_name ≡ before.image.ghost_name
