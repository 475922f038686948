use Rattle.buffer_holds.proofs.Common.{IsOk, Some, Sum, Updates, ap, arith, insert_entry, refl, unwrap_or, ◌≡◌}
use Rattle.buffer_holds.specs.contracts.names.PartPartialEq.TheImpl.{eq-value as derived}
use Rattle.buffer_holds.proofs.Outcomes.{at_ok}
use Rattle.buffer_holds.proofs.Written.{sum_added, sum_last}
use Rattle.buffer_holds.proofs.sums.add_sum.Goals as goal

-- there is room for the sum, whose pages are blank
pub returns-clause-added : goal.returns-clause-added
returns-clause-added c =
    let sums = c.args.sums.now in
    let new = c.insert.new.self in
    let sum : Sum = record { clients = 1; totals = c.take_spare-totals.result; moving = c.take_spare-moving.result } in
    let done : IsOk c.insert.result = c.insert.ensures.succeeds (omega (arith, c.requires.room)) in
    sum_added sums new c.args.part c.requires.none sum
    (at_ok (new.entries ≡ insert_entry derived.it sums.entries c.args.part sum) c.insert.result done c.insert.ensures.entries)
    (at_ok (Updates derived.it sums new c.args.part (Some sum)) c.insert.result done c.insert.ensures.updates)
    c.insert.ensures.unique _ _ _ refl (λ at. ap (λ o. unwrap_or o 0) (c.take_spare-totals.ensures.blank at))
    (λ at. ap (λ o. unwrap_or o 0) (c.take_spare-moving.ensures.blank at))

-- it stands at the end
pub returns-clause-stands : goal.returns-clause-stands
returns-clause-stands c =
    let sums = c.args.sums.now in
    let new = c.insert.new.self in
    let sum : Sum = record { clients = 1; totals = c.take_spare-totals.result; moving = c.take_spare-moving.result } in
    let done : IsOk c.insert.result = c.insert.ensures.succeeds (omega (arith, c.requires.room)) in
    sum_last sums new c.args.part c.requires.none sum
    (at_ok (new.entries ≡ insert_entry derived.it sums.entries c.args.part sum) c.insert.result done c.insert.ensures.entries)
    (at_ok (Updates derived.it sums new c.args.part (Some sum)) c.insert.result done c.insert.ensures.updates)
    c.insert.ensures.unique c.len-place.result (omega (arith, c.len-place.ensures.len))
