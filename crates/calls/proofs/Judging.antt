-- What judging answers.
-- Assumes nothing.
use mathlib.Core.Path.{◌≡◌, refl}
use Rattle.std.specs.Prelude.{Result, Ok, Err}
use Rattle.notes.specs.Reply.{first}
use Rattle.rules.specs.declared.answer.Refusal.{Refusal}
use Rattle.rules.specs.Memory.{Memory}
use Rattle.rules.specs.Answer.{verdict_refusal, verdict_reply, done_reply, judged}
use Rattle.rules.specs.Calls.{reply_unless, judge}

-- a verdict's reply is its refusal, or done
verdict-replies : {A : Type 0} (v : Result A Refusal) → verdict_reply v ≡ reply_unless (verdict_refusal v) done_reply
verdict-replies (Ok a) = refl
verdict-replies (Err r) = refl

pub judge-replies :
    {A : Type 0} (m : Memory) (v : Result A Refusal) → verdict_refusal v ≡ first (judged m) → verdict_reply v ≡ judge m
unfolding judge
judge-replies m v e = rw (verdict-replies v, e)
