-- A unit that was given its buffers stays so.
use Rattle.event_laws.proofs.Common.{Allocates, Answers, Bound, Called, Ends, Grows, Loses, NodeKey, Stays, Timeline, allocated, ap}
use Rattle.event_laws.proofs.Common.{birth_at, births, comes, events, list_any, or_right, same_key, true, was_born, ℕ, ◌+◌, ◌∙◌, ◌∷◌, ◌≡◌}
use Rattle.sm_names.specs.Births.{head}
use Rattle.sm_names.specs.Losses.{is_allocation}
use Rattle.history_laws.proofs.BirthLaws.{head_old}
use Rattle.history_laws.proofs.LifeLaws.{born_old}

module _ (pool : ℕ) (limits : Bound) (start : Timeline) (node : NodeKey) where
  -- so is it as the marks go on
  born_on : was_born (births start) node ≡ true → (marks : Timeline) → Grows pool limits start marks → was_born (births marks) node ≡ true
  born_on born _ Stays = born
  born_on born _ (Answers before client reply call g answer) =
      born_old (birth_at (events before + 1) (Called client reply call)) (births before) node (born_on born before g)
  born_on born _ (Loses before origin cause g on) = born_on born before g
  born_on born _ (Allocates before collection top g e) = born_on born before g
  born_on born _ (Ends before collection top g e) = born_on born before g

  -- and its unit is allocated still
  pub allocated_on : was_born (births start) node ≡ true → allocated start node ≡ true → (marks : Timeline) →
      Grows pool limits start marks → allocated marks node ≡ true
  allocated_on born h _ Stays = h
  allocated_on born h _ (Answers before client reply call g answer) =
      let heads : head (births (Called client reply call ∷ before)) node ≡ head (births before) node =
      head_old (birth_at (events before + 1) (Called client reply call)) (births before) node (born_on born before g) (λ b e.
      (comes limits before client (events before + 1) reply call b answer e).fresh) in
      ap (λ (k : NodeKey). list_any (is_allocation k) before) heads ∙ allocated_on born h before g
  allocated_on born h _ (Loses before origin cause g on) = allocated_on born h before g
  allocated_on born h _ (Allocates before collection top g e) =
      or_right (same_key top (head (births before) node)) _ (allocated_on born h before g)
  allocated_on born h _ (Ends before collection top g e) = allocated_on born h before g
