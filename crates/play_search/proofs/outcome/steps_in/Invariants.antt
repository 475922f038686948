use Rattle.play_search.proofs.Common.{map, take, ℕ, ◌≡◌}
use Rattle.sm_names.specs.declared.messages.Reply.{Reply}
use Rattle.play_search.proofs.outcome.steps_in.Given as goal

-- so far the places of these
abbrev pub invariant-made : goal.invariant-made
invariant-made l = l.places.items ≡ map (λ (m : ℕ × Reply). m.0) (take l.at-index l.made)
