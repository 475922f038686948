-- The effect is made, what nothing holds then ends, and what is due has its turn.
use Rattle.forest_steps.proofs.Common.{◌≡◌, ◌∙◌, sym, subst, refl, List, [], ◌∷◌, Option, Some, None}
use Rattle.forest_steps.proofs.Common.{NodeKey, total, Table, node_at, Effect, Entry, Node, Unit, CollectionRow}
use Rattle.forest_steps.proofs.Common.{EffectCounts, AfterEffect, EffectMade, MidEvent, AreCountsThen, KeepsCounts}
use Rattle.forest_steps.proofs.mid_event.Changing.{affected_on, still_played}
use Rattle.forest_steps.proofs.mid_event.NextThere.{none_bare}
use Rattle.forest_steps.proofs.mid_event.Playing.{played_affected, played_none, still_left}
use Rattle.std.proofs.Common.{rules}
use Rattle.forest_steps.proofs.propagation.apply_effect.Goals as goal

-- an effect that changes no count is all that is made
pub returns-in_default-clause-out : goal.returns-in_default-clause-out
returns-in_default-clause-out c ss n at here own under waits =
    let t = c.args.nodes.now.table in
    let now = c.make_effect.new.nodes.table in
    let key = c.args.made.now.key in
    let effect = c.args.made.now.effect in
    let keeps : KeepsCounts effect = rw c.in_default.is at c.requires.may.worked in
    still_played at own under (c.make_effect.ensures.affected ss n at here own under.store) here (c.make_effect.ensures.becomes n at)
    (c.make_effect.ensures.writes n at) (total c.args.holds.now) None keeps refl

-- the effect was made on the node of the unit that was counted
counted_on : (t mid : Table Node) (us after : List Unit) (ss : List CollectionRow) (e e1 : Entry) (key : NodeKey) (effect : Effect)
    (counts : Option EffectCounts) (c : EffectCounts) → counts ≡ Some c → AreCountsThen t us e key effect counts → (n : Node) →
    node_at t key ≡ Some n → n.collection ≡ e.id → MidEvent t us ss e [] [] → EffectMade t mid after ss e e1 key effect n.head →
    AfterEffect t mid after ss e e1 key effect c.head
counted_on t mid us after ss e e1 key effect counts c is worked n at own under made =
    let told : AreCountsThen t us e key effect (Some c) = subst (AreCountsThen t us e key effect) is worked in
    subst (AfterEffect t mid after ss e e1 key effect) (sym (told n at).head) (affected_on at own under made)

pub returns-in-Some-given-clause-out : goal.returns-in-Some-given-clause-out
returns-in-Some-given-clause-out c ss n at here own under waits =
    let head = c.in-Some.counts.head in
    let done = counted_on _ _ _ _ ss _ _ _ _ _ _ c.in-Some.is c.requires.may.worked n at own under
    (c.make_effect.ensures.affected ss n at here own under.store) in
    let left = still_left done in
    played_affected done (c.end_above.ensures.led (total c.args.holds.now) ss (head ∷ []) done.under left)
    (c.end_above.ensures.ended ss (head ∷ []) done.under left) waits _ _ _
    (λ pending there no_wait same. c.allocate_ready.ensures.out ss pending there no_wait (same ∙ c.in-Some-given.is))

pub returns-in_default-given-clause-out : goal.returns-in_default-given-clause-out
returns-in_default-given-clause-out c ss n at here own under waits =
    let head = c.in-Some.counts.head in
    let handles = total c.args.holds.now in
    let vs = c.end_above.new.nodes.units.items in
    let e2 = c.end_above.new.entry in
    let done = counted_on _ _ _ _ ss _ _ _ _ _ _ c.in-Some.is c.requires.may.worked n at own under
    (c.make_effect.ensures.affected ss n at here own under.store) in
    let left = still_left done in
    played_affected done
    (c.end_above.ensures.led handles ss (head ∷ []) done.under left) (c.end_above.ensures.ended ss (head ∷ []) done.under left) waits
    _ vs e2 (λ pending there no_wait same. played_none _ (none_bare pending no_wait (same ∙ c.in_default-given.is)))

pub make_effect-requires-clause-may : goal.make_effect-requires-clause-may
make_effect-requires-clause-may c = search rules

pub end_above-requires-clause-named : goal.end_above-requires-clause-named
end_above-requires-clause-named c = search rules

pub allocate_ready-requires-clause-named : goal.allocate_ready-requires-clause-named
allocate_ready-requires-clause-named c = search rules

pub returns-in_default-given-clause-named : goal.returns-in_default-given-clause-named
returns-in_default-given-clause-named c = search rules

pub allocate_ready-requires-clause-few : goal.allocate_ready-requires-clause-few
allocate_ready-requires-clause-few c = search rules

pub allocate_ready-requires-clause-room : goal.allocate_ready-requires-clause-room
allocate_ready-requires-clause-room c = search rules

pub end_above-requires-clause-room : goal.end_above-requires-clause-room
end_above-requires-clause-room c = search rules

pub make_effect-requires-clause-named : goal.make_effect-requires-clause-named
make_effect-requires-clause-named c = search rules

pub returns-in_default-clause-len : goal.returns-in_default-clause-len
returns-in_default-clause-len c = search rules

pub returns-in_default-clause-named : goal.returns-in_default-clause-named
returns-in_default-clause-named c = search rules

pub returns-in_default-clause-room : goal.returns-in_default-clause-room
returns-in_default-clause-room c = search rules

pub returns-in_default-given-clause-len : goal.returns-in_default-given-clause-len
returns-in_default-given-clause-len c = search rules

pub returns-in_default-given-clause-room : goal.returns-in_default-given-clause-room
returns-in_default-given-clause-room c = search rules
