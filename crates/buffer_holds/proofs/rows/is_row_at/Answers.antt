use Rattle.std.proofs.Common.{◌≡◌, sym, subst, ap, ◌∙◌, true, Some}
use Rattle.buffer_holds.proofs.PageNames.{derived_owner, same_owner-one}
use Rattle.buffer_holds.proofs.rows.is_row_at.Goals as goal

-- it stands there
pub returns-in-Some : goal.returns-in-Some
returns-in-Some c = λ is.
    let key = c.in-Some.key.now in
    let value = c.in-Some.field-0-1.now in
    let this : key ≡ c.args.owner =
    same_owner-one key c.args.owner (subst (λ test. test key c.args.owner ≡ true) derived_owner (sym c.eq.ensures ∙ is)) in
    (value, sym c.in-Some.ensures.entry ∙ ap (λ k. Some (k, value)) this)
