-- The nodes that fall by a call, whether they are told or not.
use Rattle.actor_plays.proofs.Common.{AreStages, AreTold, Call, Fell, Global, GoneNode, IfSome, List, Makes, Moment, None, Option, Play}
use Rattle.actor_plays.proofs.Common.{Position, Reply, Some, State, Vec, [], falls_at, flat_map, map, position_at, refl, ℕ, ◌++◌, ◌∷◌}
use Rattle.sm_names.specs.declared.keys.Interval.{Interval}
use Rattle.sm_names.specs.Answers.{new_key}
use Rattle.sm_names.specs.Marks.{Mark}
use Rattle.buffer_holds.specs.Counts.{total}
use Rattle.forest_store.specs.Forest.{Collection, beside}
use Rattle.forest_store.specs.Settling.{Handles, Settles, collection_or_new, made}
use Rattle.core_state.specs.Steps.{Work, Worked, work_of}
use Rattle.forced_marks.specs.Marks.{SettlesBy, Stage, StagesIn, changed_by, own_stage, stages}
use Rattle.forced_marks.specs.Moments.{stage_of as stage_told}

-- Each forced step makes its mark.
pub marks_there : (pool : ℕ) (handles : Handles) (others : List Interval) (c after : Collection) → Settles pool handles others c after →
    (marks : List Mark) × SettlesBy pool handles others c marks after
marks_there pool handles others _ _ (Settles.Rests c none) = ([], SettlesBy.Rests c none)
marks_there pool handles others _ _ (Settles.Forces c after mark some on) =
    let more = marks_there pool handles others (made pool others mark c) after on in
    (mark ∷ more.0, SettlesBy.Forces c after mark more.0 some more.1)

-- By whether the event changes a collection: it has stages.
pub stages_there : (old new : State) (client : ℕ) (call : Call) (reply : Reply) → Makes old new (client, call, reply) →
    (marks : List Stage) × AreStages old new client call reply marks
stages_there old new client call reply makes = by (work_of old client call reply) makes.after.work
  where
    -- by what is changed
    by : (o : Option Work) → Worked old (total new.holds) o (new_key reply) makes.after.worked →
        (marks : List Stage) × StagesIn old (total new.holds) reply o marks
    by None worked = ([], refl)
    by (Some w) worked =
        let others : List Interval = beside old.forest w.collection in
        let more = marks_there old.pool (total new.holds) others (changed_by old reply w) worked.after worked.settles in (
          own_stage w.change (collection_or_new old.forest w.collection) ++ stages old.pool others (changed_by old reply w) more.0,
          (worked.after, record { marks = more.0; settles = more.1; gained = refl }),
        )

-- So there is what falls by a call, whatever fell before.
pub fell_untold : (old new : Play) (client : ℕ) (call : Call) (reply : Reply) → Makes old.core new.core (client, call, reply) →
    (before : List GoneNode) → (after : List GoneNode) × Fell (position_at before old) (position_at after new) client call reply
fell_untold old new client call reply makes before =
    let there = stages_there old.core new.core client call reply makes in
    (before ++ flat_map falls_at there.0, record { marks = there.0; are = there.1; falls = refl })

-- What is told is what falls.
pub fell_told : (old new : Position) (client : ℕ) (call : Call) (reply : Reply) (moments : Option (Vec Moment Global)) →
    IfSome moments (λ ms. AreStages old.core new.core client call reply (map stage_told ms.items)) →
    AreTold moments old.falls new.falls → Fell old new client call reply
fell_told old new client call reply None are told = absurd told
fell_told old new client call reply (Some ms) are told = record { marks = map stage_told ms.items; are = are; falls = told }
