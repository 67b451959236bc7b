-- Any two outcomes that meet a call's statement are equal, about the very clauses of its contract.
-- Assumes nothing.
use Prim.Native.Nat.{ℕ}
use mathlib.Core.List.{List}
use mathlib.Core.Path.{◌≡◌, sym, ap, ◌∙◌}
use Rattle.notes.proofs.Unique.{One}
use Rattle.ssaldorip.specs.Calls.{Called, called, lent}
use Rattle.ssaldorip.proofs.beside.ssaldorip_look_up.Reads as look-up
use Rattle.ssaldorip.proofs.messages.ssaldorip_message_check.Reads as message-check
use Rattle.ssaldorip.proofs.messages.ssaldorip_message_write.Reads as message-write
use Rattle.ssaldorip.proofs.messages.ssaldorip_message_first.Reads as message-first
use Rattle.ssaldorip.proofs.messages.ssaldorip_message_next.Reads as message-next
use Rattle.ssaldorip.proofs.sessions.ssaldorip_session_start.Reads as session-start
use Rattle.ssaldorip.proofs.sessions.ssaldorip_session_raise.Reads as session-raise
use Rattle.ssaldorip.proofs.sessions.ssaldorip_session_raise_written.Reads as session-raise-written
use Rattle.ssaldorip.proofs.sessions.ssaldorip_session_asks.Reads as session-asks
use Rattle.ssaldorip.proofs.beside.ssaldorip_judge.Reads as judge
use Rattle.ssaldorip.proofs.beside.ssaldorip_start.Reads as start
use Rattle.ssaldorip.proofs.beside.ssaldorip_status.Reads as status
use Rattle.ssaldorip.proofs.beside.ssaldorip_message.Reads as message
use Rattle.ssaldorip.proofs.steps.ssaldorip_update.Reads as update
use Rattle.ssaldorip.proofs.serve.ssaldorip_read.Reads as read
use Rattle.ssaldorip.proofs.serve.ssaldorip_write.Reads as write
use Rattle.ssaldorip.proofs.steps.ssaldorip_cut.Reads as cut
use Rattle.ssaldorip.proofs.steps.ssaldorip_recover.Reads as recover
use Rattle.ssaldorip.proofs.steps.ssaldorip_read_cut.Reads as read-cut
use Rattle.ssaldorip.proofs.steps.ssaldorip_write_cut.Reads as write-cut
use Rattle.ssaldorip.proofs.version.ssaldorip_version.Reads as version

-- ---- calls that only answer
pub ssaldorip-version-one : One version.Post (λ k r s. r)
ssaldorip-version-one k a x y s t p q = p ∙ sym q

pub ssaldorip-judge-one : One judge.Post (λ k r s. r)
ssaldorip-judge-one k a x y s t p q = p ∙ sym q

pub ssaldorip-look-up-one : One look-up.Post (λ k r s. r)
ssaldorip-look-up-one k a x y s t p q = p ∙ sym q

pub ssaldorip-message-check-one : One message-check.Post (λ k r s. r)
ssaldorip-message-check-one k a x y s t p q = p ∙ sym q

-- with each byte of the output
pub ssaldorip-message-write-one : One {O = ℕ × List ℕ} message-write.Post (λ k r s. (r, s.1.1.1.0.now))
ssaldorip-message-write-one k a x y s t p q = p ∙ sym q

pub ssaldorip-message-first-one : One message-first.Post (λ k r s. r)
ssaldorip-message-first-one k a x y s t p q = p ∙ sym q

-- with each byte of the record
pub ssaldorip-message-next-one : One {O = ℕ × List ℕ} message-next.Post (λ k r s. (r, s.1.1.0.now))
ssaldorip-message-next-one k a x y s t p q = p ∙ sym q

-- with each byte of the session
pub ssaldorip-session-start-one : One {O = ℕ × List ℕ} session-start.Post (λ k r s. (r, s.1.0.now))
ssaldorip-session-start-one k a x y s t p q = p ∙ sym q

pub ssaldorip-session-raise-one : One {O = ℕ × List ℕ} session-raise.Post (λ k r s. (r, s.0.now))
ssaldorip-session-raise-one k a x y s t p q = p ∙ sym q

pub ssaldorip-session-raise-written-one : One {O = ℕ × List ℕ} session-raise-written.Post (λ k r s. (r, s.0.now))
ssaldorip-session-raise-written-one k a x y s t p q = p ∙ sym q

-- with each byte of the output
pub ssaldorip-session-asks-one : One {O = ℕ × List ℕ} session-asks.Post (λ k r s. (r, s.1.0.now))
ssaldorip-session-asks-one k a x y s t p q = p ∙ sym q

-- ---- reports: with each byte of the output
pub ssaldorip-status-one : One {O = ℕ × List ℕ} status.Post (λ k r s. (r, s.1.1.1.0.now))
ssaldorip-status-one k a x y s t p q = p ∙ sym q

pub ssaldorip-message-one : One {O = ℕ × List ℕ} message.Post (λ k r s. (r, s.1.1.1.0.now))
ssaldorip-message-one k a x y s t p q = p ∙ sym q

-- ---- steps: with each byte of state, history and image

abbrev Seen : Type 0
Seen = ℕ × List ℕ × List ℕ × List ℕ

abbrev seen : Called → Seen
seen c = (c.number, c.lent.state, c.lent.history, c.lent.image)

equal : {x y d : Called} → x ≡ d → y ≡ d → seen x ≡ seen y
equal p q = ap seen (p ∙ sym q)

pub ssaldorip-start-one : One {O = Seen} start.Post (λ k r s. (r, s.1.1.0.now, s.1.1.1.0.now, s.1.1.1.1.0.now))
ssaldorip-start-one k a x y s t p q = equal p q

pub ssaldorip-update-one : One {O = Seen} update.Post (λ k r s. (r, s.0.now, s.1.0.now, s.1.1.0.now))
ssaldorip-update-one k a x y s t p q = equal p q

pub ssaldorip-cut-one : One {O = Seen} cut.Post (λ k r s. (r, s.0.now, s.1.0.now, s.1.1.0.now))
ssaldorip-cut-one k a x y s t p q = equal p q

pub ssaldorip-recover-one : One {O = Seen} recover.Post (λ k r s. (r, s.0.now, s.1.0.now, s.1.1.0.now))
ssaldorip-recover-one k a x y s t p q = equal p q

pub ssaldorip-read-cut-one : One {O = Seen} read-cut.Post (λ k r s. (r, s.0.now, s.1.0.now, s.1.1.0.now))
ssaldorip-read-cut-one k a x y s t p q = equal p q

pub ssaldorip-write-cut-one : One {O = Seen} write-cut.Post (λ k r s. (r, s.0.now, s.1.0.now, s.1.1.0.now))
ssaldorip-write-cut-one k a x y s t p q = equal p q

-- ---- with each byte of the reply too: the whole of what is called
pub ssaldorip-read-one : One {O = Called} read.Post (λ k r s. called r (lent s.0.now s.1.0.now s.1.1.0.now s.1.1.1.1.1.1.1.0.now))
ssaldorip-read-one k a x y s t p q = p ∙ sym q

pub ssaldorip-write-one : One {O = Called} write.Post (λ k r s. called r (lent s.0.now s.1.0.now s.1.1.0.now s.1.1.1.1.1.1.1.1.1.0.now))
ssaldorip-write-one k a x y s t p q = p ∙ sym q
