-- The entry is the one at its place.
use Rattle.forest_store.proofs.Common.{◌<◌, Some, sym, ap, ◌∙◌, length, rules, slice_get-get_or}
use Rattle.forest_store.proofs.rows.Entries.{none_in, place_is, placed, read_through}
use Rattle.forest_store.proofs.entry.entry_of.Goals as goal

pub bounds-entries-at : goal.bounds-entries-at
bounds-entries-at c = (place_is c.args.id c.args.entries.now c.in-Some.at (sym c.place_of.ensures ∙ c.in-Some.is)).within

pub offset_bounds-entries-at : goal.offset_bounds-entries-at
offset_bounds-entries-at c =
    let within : c.in-Some.at < length c.args.entries.now =
    (place_is c.args.id c.args.entries.now c.in-Some.at (sym c.place_of.ensures ∙ c.in-Some.is)).within in
    search rules

pub returns-in-Some : goal.returns-in-Some
returns-in-Some c =
    let es = c.args.entries.now in
    let at = c.in-Some.at in
    let told = sym c.place_of.ensures ∙ c.in-Some.is in
    ap Some (read_through es at c.get.ensures c.index-entries-at.is)
    ∙ (sym (slice_get-get_or es at c.get.result.now (place_is c.args.id es at told).within) ∙ placed c.args.id es at told)

pub returns-in-None : goal.returns-in-None
returns-in-None c = sym (none_in c.args.id c.args.entries.now (sym c.place_of.ensures ∙ c.in-None.is))
