use Rattle.buffer_holds.proofs.Common.{IsBlank, List, Option, Owner, ap, false≢true, is_some, option_map, subst, sym, unwrap_or, ℕ, ◌∙◌}
use Rattle.std.proofs.Common.{refl}
use Rattle.buffer_holds.proofs.rows.blank_at.Goals as goal

-- it stands there
pub returns-then-is_blank-clause-found : goal.returns-then-is_blank-clause-found
returns-then-is_blank-clause-found c = (c.in-Some.page.now, sym c.in-Some.ensures.entry, c.if-is_blank.ensures.0 refl)

-- no other page does
pub returns-then-is_blank-clause-each : goal.returns-then-is_blank-clause-each
returns-then-is_blank-clause-each c = λ owner stands.
    ap (λ (o : Option (Owner × List (Option ℕ))). option_map (λ (e : Owner × List (Option ℕ)). e.0) o) (c.in-Some.ensures.entry ∙ stands.1)

-- one that is not blank stands there
pub returns-else-is_blank-clause-each : goal.returns-else-is_blank-clause-each
returns-else-is_blank-clause-each c = λ owner stands.
    let page = ap (λ (o : Option (Owner × List (Option ℕ))). (unwrap_or o (owner, stands.0)).1) (c.in-Some.ensures.entry ∙ stands.1) in
    absurd (false≢true (c.if-is_blank.ensures.1 (subst IsBlank (sym page) stands.2)))

-- or none
pub returns-in-None-clause-each : goal.returns-in-None-clause-each
returns-in-None-clause-each c = λ owner stands. absurd (false≢true (ap is_some (c.in-None.ensures.entry ∙ stands.1)))
