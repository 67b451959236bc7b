-- The numbers of servers and of phones.
-- Assumes nothing.
use Rattle.std.specs.Prelude.{ℕ, Bool, ◌&&◌, ltb, leb}
pub use Rattle.notes.specs.declared.index.ServerId.{ServerId}
pub use Rattle.notes.specs.declared.index.PhoneId.{PhoneId}

-- the most servers that a farm has, and the phones that there are
abbrev pub servers : ℕ
servers = 8

abbrev pub phones : ℕ
phones = 64

-- N is 1 to 8, and a server's number is below it
unfoldable pub server_ok : ℕ → ServerId → Bool
server_ok n s = leb 1 n && leb n servers && ltb s.0 n
