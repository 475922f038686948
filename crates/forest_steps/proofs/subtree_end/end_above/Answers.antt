-- Nothing changes where something holds the unit; else the highest that nothing holds but the one below ends, as it is forced to.
use Rattle.forest_steps.proofs.Common.{◌≡◌, [], ◌∷◌, List, true, false, inl, inr, refl, ap}
use Rattle.forest_steps.proofs.Common.{sym, ◌∙◌, Unit, unit_at, table_len, is_held_by, climbed}
use Rattle.forest_steps.proofs.mid_event.EndAbove.{ended_led, held_led, may_end}
use Rattle.forest_steps.proofs.mid_event.AfterLosses.{head_row, lent_there}
use Rattle.std.proofs.Common.{not, rules}
use Rattle.forest_steps.proofs.subtree_end.end_above.Goals as goal

pub returns-then-is_held_by-clause-led : goal.returns-then-is_held_by-clause-led
returns-then-is_held_by-clause-led c handles ss pending ok left =
    let some : is_held_by (unit_at c.args.nodes.now.units.items c.args.head.slot) ≡ true =
    ap is_held_by (sym (c.unit_in.ensures ∙ ap (λ us. unit_at us c.args.head.slot) c.deref.ensures.value))
    ∙ (sym c.is_held_by.ensures ∙ c.if-is_held_by.true) in
    held_led ok left some _

pub returns-then-is_none-clause-led : goal.returns-then-is_none-clause-led
returns-then-is_none-clause-led c handles ss pending ok left =
    let row = head_row c.args.nodes.now.table c.requires.named c.args.entry.now.keys.items c.args.head left in
    absurd (lent_there _ (c.get.ensures ∙ row.1) (c.is_none.ensures ∙ ap not c.if-is_none.true))

pub returns-clause-led : goal.returns-clause-led
returns-clause-led c handles ss pending ok left =
    let t = c.args.nodes.now.table in
    let us : List Unit = c.args.nodes.now.units.items in
    let none : is_held_by (unit_at us c.args.head.slot) ≡ false =
    ap is_held_by (sym (c.unit_in.ensures ∙ ap (λ l. unit_at l c.args.head.slot) c.deref.ensures.value))
    ∙ (sym c.is_held_by.ensures ∙ c.if-is_held_by.false) in
    let is : c.highest-top.result ≡ climbed (table_len t) t us c.args.head =
    c.highest-top.ensures.climbed ∙ ap (λ l. climbed (table_len t) t l c.args.head) c.deref-2.ensures.value in
    ended_led ok left none _ is
    (c.remove_subtree.ensures.went ss (c.args.head ∷ []) pending ok (may_end ok left none _ is))

pub returns-then-is_held_by-clause-ended : goal.returns-then-is_held_by-clause-ended
returns-then-is_held_by-clause-ended c ss pending ok left = inl refl

pub returns-then-is_none-clause-ended : goal.returns-then-is_none-clause-ended
returns-then-is_none-clause-ended c ss pending ok left = inl refl

pub returns-clause-ended : goal.returns-clause-ended
returns-clause-ended c ss pending ok left =
    let t = c.args.nodes.now.table in
    let us : List Unit = c.args.nodes.now.units.items in
    let none : is_held_by (unit_at us c.args.head.slot) ≡ false =
    ap is_held_by (sym (c.unit_in.ensures ∙ ap (λ l. unit_at l c.args.head.slot) c.deref.ensures.value))
    ∙ (sym c.is_held_by.ensures ∙ c.if-is_held_by.false) in
    let is : c.highest-top.result ≡ climbed (table_len t) t us c.args.head =
    c.highest-top.ensures.climbed ∙ ap (λ l. climbed (table_len t) t l c.args.head) c.deref-2.ensures.value in
    let went = c.remove_subtree.ensures.went ss (c.args.head ∷ []) pending ok (may_end ok left none _ is) in
    inr (c.highest-top.result, went.nodes)

pub remove_subtree-requires-clause-there : goal.remove_subtree-requires-clause-there
remove_subtree-requires-clause-there c = search rules

pub overflow_cast-head : goal.overflow_cast-head
overflow_cast-head c = search rules

pub remove_subtree-requires-clause-named : goal.remove_subtree-requires-clause-named
remove_subtree-requires-clause-named c = search rules

pub remove_subtree-requires-clause-room : goal.remove_subtree-requires-clause-room
remove_subtree-requires-clause-room c = search rules

pub returns-clause-kept : goal.returns-clause-kept
returns-clause-kept c = search rules

pub returns-clause-room : goal.returns-clause-room
returns-clause-room c = search rules

pub returns-clause-there : goal.returns-clause-there
returns-clause-there c = search rules

pub returns-then-is_held_by-clause-kept : goal.returns-then-is_held_by-clause-kept
returns-then-is_held_by-clause-kept c = search rules

pub returns-then-is_held_by-clause-room : goal.returns-then-is_held_by-clause-room
returns-then-is_held_by-clause-room c = search rules

pub returns-then-is_held_by-clause-there : goal.returns-then-is_held_by-clause-there
returns-then-is_held_by-clause-there c = search rules
