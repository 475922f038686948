-- What is seen of a core's state is what is seen of the marks.
use Rattle.core_state.proofs.Common.{Bound, Grows, IsAfter, State, Timeline, [], ap, free_pages, views_of, ℕ, ◌-◌, ◌≡◌}
use Rattle.core_state.proofs.views.Held.{held_pages_are}

module _ (s : State) (marks : Timeline) (shown : IsAfter s marks) (limits : Bound) (grown : Grows s.pool limits [] marks) where
  -- the free pages of the state are those of the marks
  pub free_is : (views_of s).free ≡ free_pages s.pool marks
  free_is = ap (λ (n : ℕ). s.pool - n) (held_pages_are s marks shown limits grown)
