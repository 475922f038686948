use Rattle.core_state.proofs.Common.{rules, ◌∙◌}
use Rattle.std.proofs.lemmas.List.Sorted.{answers_always}
use Rattle.core_state.proofs.joined.Rows.{search_places}
use Rattle.core_state.proofs.clients.searched_place.Goals as goal

-- the closure gives a client's id, and the ids rise
pub returns : goal.returns
returns c =
    let facts = c.binary_search_by_key.ensures in
    let by_id = facts.position (λ client. client.id) (answers_always _ _ _ (λ f a r g called. search rules)) in
    c.ok.ensures.value ∙ search_places c.args.client c.args.clients.now _ c.requires facts.bound by_id
