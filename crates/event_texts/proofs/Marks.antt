-- What stands behind a mark.
use Rattle.event_texts.proofs.Common.{Buffers, HeldBuffer, IfSome, List, None, Option, Some, ap, option_and_then, option_map, placed_in}
use Rattle.event_texts.proofs.Common.{◌∙◌, ◌≡◌}
use Rattle.forest_store.specs.declared.snapshot.Snapshot.{Snapshot}
use Rattle.event_facts.specs.Events.{snapshot_held}

-- the buffers that are found are those that are there
pub placed_is : {P : Type 0} (given : P → Buffers) (pages : P → List HeldBuffer) (found : Option P) (scene : Option Snapshot) →
    option_map given found ≡ option_and_then (λ (s : Snapshot). s.buffers) scene → IfSome found (λ p. pages p ≡ snapshot_held scene) →
    option_map (λ p. (given p, pages p)) found ≡ placed_in scene
placed_is given pages None scene is held = ap (option_map (λ (b : Buffers). (b, snapshot_held scene))) is
placed_is given pages (Some p) scene is held =
    ap (λ (ps : List HeldBuffer). Some (given p, ps)) held ∙ ap (option_map (λ (b : Buffers). (b, snapshot_held scene))) is
