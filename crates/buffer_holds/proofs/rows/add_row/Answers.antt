use Rattle.buffer_holds.proofs.Common.{IsOk, Some, Updates, arith, insert_entry, ◌≡◌}
use Rattle.buffer_holds.specs.contracts.names.OwnerPartialEq.TheImpl.{eq-value as derived}
use Rattle.buffer_holds.proofs.Outcomes.{at_ok}
use Rattle.buffer_holds.proofs.Written.{page_added, page_last}
use Rattle.buffer_holds.proofs.rows.add_row.Goals as goal

-- there is room for the page
pub returns-clause-added : goal.returns-clause-added
returns-clause-added c =
    let rows = c.args.rows.now in
    let new = c.insert.new.self in
    let page = c.take_spare-page.result in
    let done : IsOk c.insert.result = c.insert.ensures.succeeds (omega (arith, c.requires.room)) in
    page_added rows new c.args.owner c.requires.none page
    (at_ok (new.entries ≡ insert_entry derived.it rows.entries c.args.owner page) c.insert.result done c.insert.ensures.entries)
    (at_ok (Updates derived.it rows new c.args.owner (Some page)) c.insert.result done c.insert.ensures.updates)
    c.insert.ensures.unique _ c.take_spare-page.ensures.blank

-- it stands at the end
pub returns-clause-stands : goal.returns-clause-stands
returns-clause-stands c =
    let rows = c.args.rows.now in
    let new = c.insert.new.self in
    let page = c.take_spare-page.result in
    let done : IsOk c.insert.result = c.insert.ensures.succeeds (omega (arith, c.requires.room)) in
    page_last rows new c.args.owner c.requires.none page
    (at_ok (new.entries ≡ insert_entry derived.it rows.entries c.args.owner page) c.insert.result done c.insert.ensures.entries)
    (at_ok (Updates derived.it rows new c.args.owner (Some page)) c.insert.result done c.insert.ensures.updates)
    c.insert.ensures.unique c.len-place.result (omega (arith, c.len-place.ensures.len))
