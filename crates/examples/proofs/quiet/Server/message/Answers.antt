-- `quiet::Server::message` is safe: the message that is written lies within the output.
-- Assumes nothing.
use mathlib.Core.Path.{sym}
use lib.Seq.{length-take-le}
use Rattle.examples.proofs.Within.{message-within}
use Rattle.examples.proofs.quiet.Server.message.Goals as goal

pub slice_bounds-result-end : goal.slice_bounds-result-end
slice_bounds-result-end c = sym (length-take-le _ _ (message-within _ _ c.in_ok-len.len c.message.new.out c.in_ok-len.ensures))
