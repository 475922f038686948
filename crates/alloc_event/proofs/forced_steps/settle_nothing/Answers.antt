-- Nothing is left to be done, or the collection is closed.
use Rattle.alloc_event.proofs.Common.{Change, Closes, Entry, Handles, Holdings, IsOutcomeAt, IsReadyAt, List, MayClose, Node, Some, Table}
use Rattle.alloc_event.proofs.Common.{Unit, get_or, place_in, place_is, refl, true, ℕ, ◌≡◌}
use Rattle.forest_steps.proofs.mid_event.Stepping.{ready_at, closes_now, entry_there, outcome_closed}
use Rattle.alloc_event.proofs.forced_steps.settle_nothing.Goals as goal

module _ (handles : Handles) {t : Table Node} {us : List Unit} {es : List Entry} {at : ℕ} (may : IsReadyAt t es us at Change.Nothing) where
  -- the entry at the place
  e : (x : Entry) × (x ≡ get_or es at x)
  e = entry_there es at ((place_is _ es at may.place).within)

  -- nothing of the nodes is left to be done
  may_finish : MayClose handles t us es at
  may_finish = closes_now _ e.0 may.place e.1 may.ready refl

  -- once the last steps are made, all is
  outcome : (pool left : Holdings) (now : Table Node) (behind : List Entry) (last : List Unit) →
      ((id : ℕ) → place_in id es ≡ Some at → Closes handles pool left t now es behind last id) → left.size ≡ pool.size →
      IsOutcomeAt true handles pool left t now es behind last at Change.Nothing
  outcome pool left now behind last closes size = record {
    outcome = λ id told. outcome_closed _ e.0 told e.1 (ready_at may id told) refl refl (closes id told) size;
    units = (closes may.id may.place).units;
  }

pub is_finished-requires-clause-may : goal.is_finished-requires-clause-may
is_finished-requires-clause-may c = may_finish _ c.requires.ready

pub finish_event-requires-clause-may : goal.finish_event-requires-clause-may
finish_event-requires-clause-may c = may_finish _ c.requires.ready

pub returns-then-is_finished : goal.returns-then-is_finished
returns-then-is_finished c =
    outcome _ c.requires.ready _ _ _ _ _ (c.is_finished.ensures.finished c.if-is_finished.true) refl

pub returns : goal.returns
returns c = outcome _ c.requires.ready _ _ _ _ _ c.finish_event.ensures.closes c.finish_event.ensures.size
