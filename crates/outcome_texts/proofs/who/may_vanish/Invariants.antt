use Rattle.outcome_texts.proofs.Common.{may_vanish, take, texts_in, ◌≡◌}
use Rattle.outcome_texts.proofs.who.may_vanish.Given as goal

-- so far one of the lines lets the client vanish, or none
abbrev pub invariant-texts : goal.invariant-texts
invariant-texts l = l.found ≡ may_vanish (texts_in (take l.text-index l.texts)) l.client
