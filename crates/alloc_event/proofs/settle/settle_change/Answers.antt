-- The collection is looked up, and the change is made at its place.
use Rattle.alloc_event.proofs.Common.{Bool, Change, Entry, Handles, Holdings, IsOutcomeAt, IsReadyAt, List, Node, Some, Table, Unit}
use Rattle.alloc_event.proofs.Common.{place_in, sym, ℕ, ◌∙◌, ◌≡◌}
use Rattle.forest_store.specs.Outcomes.{IsReady}
use Rattle.forest_steps.specs.StoreSteps.{IsOutcomeOf}
use Rattle.forest_steps.proofs.mid_event.Stepping.{is_there}
use Rattle.alloc_event.proofs.settle.settle_change.Goals as goal

-- the change is of this kind, and may be made at the place
at_place : (t : Table Node) (es : List Entry) (us : List Unit) (id at : ℕ) (change kind : Change) → place_in id es ≡ Some at →
    change ≡ kind → IsReady t es us id change → IsReadyAt t es us at kind
at_place t es us id at change kind told is ready =
    record { id = id; place = told; ready = rw is at ready }

-- what came of it there came of it
of_place : {made : Bool} {handles : Handles} {pool after : Holdings} {t now : Table Node} {es behind : List Entry} {us : List Unit}
    (id at : ℕ) (change kind : Change) → place_in id es ≡ Some at → change ≡ kind →
    IsOutcomeAt made handles pool after t now es behind us at kind → IsOutcomeOf made handles pool after t now es behind us id change
of_place {made} {handles} {pool} {after} {t} {now} {es} {behind} id at change kind told is outcome = record {
  outcome = rw is (outcome.outcome id told);
  units = outcome.units;
}

pub unreachable-requires : goal.unreachable-requires
unreachable-requires c =
    is_there
    c.requires.birth c.requires.ready (sym (rw c.deref.ensures.value at c.place_of.ensures) ∙ c.in_default.is)

pub settle_effect-requires-clause-ready : goal.settle_effect-requires-clause-ready
settle_effect-requires-clause-ready c =
    at_place _ _ _ _ _ _ _ (sym (rw c.deref.ensures.value at c.place_of.ensures) ∙ c.in-Some.is) c.in-Effect.is c.requires.ready

pub settle_loss-requires-clause-ready : goal.settle_loss-requires-clause-ready
settle_loss-requires-clause-ready c =
    at_place _ _ _ _ _ _ _ (sym (rw c.deref.ensures.value at c.place_of.ensures) ∙ c.in-Some.is) c.in-Loss.is c.requires.ready

pub settle_nothing-requires-clause-ready : goal.settle_nothing-requires-clause-ready
settle_nothing-requires-clause-ready c =
    at_place _ _ _ _ _ _ _ (sym (rw c.deref.ensures.value at c.place_of.ensures) ∙ c.in-Some.is) c.in-Nothing.is c.requires.ready

pub returns-in-Effect : goal.returns-in-Effect
returns-in-Effect c = of_place _ _ _ _ (sym (rw c.deref.ensures.value at c.place_of.ensures)
    ∙ c.in-Some.is) c.in-Effect.is c.settle_effect.ensures

pub returns-in-Loss : goal.returns-in-Loss
returns-in-Loss c = of_place _ _ _ _ (sym (rw c.deref.ensures.value at c.place_of.ensures)
    ∙ c.in-Some.is) c.in-Loss.is c.settle_loss.ensures

pub returns-in-Nothing : goal.returns-in-Nothing
returns-in-Nothing c = of_place _ _ _ _ (sym (rw c.deref.ensures.value at c.place_of.ensures)
    ∙ c.in-Some.is) c.in-Nothing.is c.settle_nothing.ensures
