-- No key stands twice, so there are no more than there are nodes.
use Rattle.forest_steps.proofs.Common.{get_or, NodeKey, Table, parent_at, Node, row_at, Below, Top, Within, Result, Ok, Err, IsSome}
use Rattle.std.proofs.Common.{OnOk, IsOk}
use Rattle.std.proofs.lemmas.List.Elements.{Contains-get_or}
use Rattle.node_table.proofs.Depths.{there-above}
use Rattle.failure_domains.proofs.Rooms.{keys_fit}
use Rattle.forest_steps.proofs.ready_units.find_ready_below.Goals as goal

-- what is said of a success
of_success : {T E P : Type 0} (r : Result T E) → IsOk r → OnOk r P → P
of_success (Ok v) ok told = told
of_success (Err e) ok told = cc

-- what lies below is there
there : (t : Table Node) (stopped : _) (top : NodeKey) → IsSome (row_at t top) → (key : NodeKey) →
    Within (parent_at t) stopped top key → IsSome (row_at t key)
there t stopped top is _ Top = is
there t stopped top is _ (Below over key reach goes up) = there-above _ _ up

pub returns-clause-few : goal.returns-clause-few
returns-clause-few c =
    let t = c.args.table.now in
    let ks = c.walk_within.new.keys.items in
    let ok : IsOk c.walk_within.result = c.walk_within.ensures.room c.requires.room in
    keys_fit t ks (of_success _ ok c.walk_within.ensures.once) (λ i d within. there t _ _ c.requires.there _
    (((of_success _ ok c.walk_within.ensures.keys) (get_or ks i d)).0 (Contains-get_or ks i d within)))
