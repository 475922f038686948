use Rattle.lifetime_core.proofs.Common.{State, [], ap, collection_at, collection_shown, recalling, ◌∙◌}
use Rattle.std.specs.Option.{option_map_or}
use Rattle.forest_store.specs.Forest.{Collection}
use Rattle.lifetime_core.proofs.machine.Core.held_of.Goals as goal

pub returns-clause-shown : goal.returns-clause-shown
returns-clause-shown c gone history shows =
    c.held_of.ensures
    ∙ ap (λ (t : State). option_map_or (λ (d : Collection). d.held) (collection_at t.forest c.args.collection) []) c.self.view_is
    ∙ collection_shown (recalling gone c.args.self.now) history shows (λ o. option_map_or (λ (d : Collection). d.held) o [])
    c.args.collection
