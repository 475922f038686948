-- The marks that are told are those that the history forces.
use Rattle.forced_marks.proofs.Common.{Bool, Bound, Collection, Counts, Grows, Handles, Interval, List, Mark, NodeKey, SettlesBy, Some}
use Rattle.forced_marks.proofs.Common.{Timeline, [], counts_on, forced_matches, laid_on, made, next_forced, settled, subst, sym, ℕ, ◌∙◌}
use Rattle.forced_marks.proofs.Common.{◌∷◌, ◌≡◌}
use Rattle.sm_names.specs.Timelines.{Settles, Rests, Forces}
use Rattle.history_laws.proofs.GrowthLaws.{grows_forced}
use Rattle.history_laws.proofs.LifeLaws.{whole}
use Rattle.history_laws.proofs.SettledLaws.{Settles-one, settled_rests, forced_no_event}
use Rattle.history_laws.proofs.WholeLaws.{IsWhole}
use Rattle.forest_store.proofs.tallies.Slots.{made_id}
use Rattle.core_state.proofs.theorem.Follows.{Matches}
use Rattle.core_state.proofs.forced.ForcedStep.{step_matches}
use Rattle.forced_marks.specs.Marks.{Rests as RestsBy, Forces as ForcesBy}

module _ (pool : ℕ) (limits : Bound) (handles : Handles) (keep : NodeKey → Bool) (others : List Interval) where
  -- each step that is told is one of the history
  told_settles : (marks : Timeline) (c : Collection) (ms : List Mark) (after : Collection) → Grows pool limits [] marks →
      Counts handles marks → Matches pool keep marks others c → SettlesBy pool handles others c ms after →
      Settles pool c.id marks (laid_on ms marks)
  told_settles marks c _ _ grown counts m (RestsBy _ none) =
      Rests marks (sym (forced_matches pool limits keep marks others c grown m handles counts) ∙ none)
  told_settles marks c _ _ grown counts m (ForcesBy _ after mark ms some next) =
      let forces : next_forced pool c.id marks ≡ Some mark =
      sym (forced_matches pool limits keep marks others c grown m handles counts) ∙ some in
      let on : Settles pool (made pool others mark c).id (mark ∷ marks) (laid_on ms (mark ∷ marks)) =
      told_settles (mark ∷ marks) (made pool others mark c) ms after (grows_forced pool limits [] c.id marks mark grown forces)
      (counts_on handles marks mark (forced_no_event pool c.id marks mark forces) counts)
      (step_matches pool limits keep marks others c grown m mark forces) next in
      Forces marks (laid_on ms (mark ∷ marks)) mark forces
      (subst (λ (k : ℕ). Settles pool k (mark ∷ marks) (laid_on ms (mark ∷ marks))) (made_id pool others mark c) on)

  -- so where a collection is as the marks make it, the marks that are told are all that it forces, in order
  pub told_is_forced : (marks : Timeline) (c : Collection) (ms : List Mark) (after : Collection) → Grows pool limits [] marks →
      Counts handles marks → Matches pool keep marks others c → SettlesBy pool handles others c ms after →
      settled pool c.id marks ≡ laid_on ms marks
  told_is_forced marks c ms after grown counts m s =
      let w : IsWhole marks = whole pool limits marks grown in
      sym (Settles-one pool c.id marks (laid_on ms marks) (settled pool c.id marks) (told_settles marks c ms after grown counts m s)
      (settled_rests pool c.id marks w.sound).1)
