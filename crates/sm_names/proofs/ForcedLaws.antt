-- When nothing is forced. Whether a step applies is not a matter of the pool.
use Rattle.std.proofs.Common.{ℕ, ◌≡◌, refl, false, not, ◌&&◌, List, [], ◌∷◌, Option, Some, None}
use Rattle.std.specs.Option.{option_map_or, option_and_then}
use Rattle.sm_names.specs.declared.keys.Interval.{Interval}
use Rattle.sm_names.specs.Forced.{Standing, forced, ending, abandoned, initial_allocation, initial_failure, logical_allocation, outcome}
use Rattle.sm_names.specs.Marks.{Mark}
use Rattle.sm_names.specs.Members.{Member, root_left, is_ready, asked}
use Rattle.sm_names.specs.Words.{first_some, when}
use Rattle.sm_names.proofs.ListLaws.{when-None}

-- nothing is forced, whatever pages are held
pub record AtRest (s : Standing) : Type 0 where
  pub none_ends : ending s ≡ None
  pub none_abandoned : abandoned s ≡ None
  pub none_waits : option_map_or (λ (root : Member). not root.allocated && is_ready root.key s.members) (root_left s.members) false ≡ false
  pub no_head : logical_allocation s ≡ None

-- none of four
first_none : (a b c d : Option Mark) → first_some (a ∷ b ∷ c ∷ d ∷ []) ≡ None → (a ≡ None) × (b ≡ None) × (c ≡ None) × (d ≡ None)
first_none None None None None h = (refl, refl, refl, refl)
first_none None None None (Some m) h = cc
first_none None None (Some m) d h = cc
first_none None (Some m) c d h = cc
first_none (Some m) b c d h = cc

-- where nothing is forced, all these facts hold
pub at_rest : (pool : ℕ) (s : Standing) → forced pool s ≡ None → AtRest s
at_rest pool s h =
    let n = first_none (ending s) (abandoned s) (initial_allocation pool s) (logical_allocation s) h in
    record { none_ends = n.0; none_abandoned = n.1; none_waits = from (root_left s.members) n.2; no_head = n.3 }
  where
    -- by cases on the root: with none nothing waits, and one that waits would give a mark
    from : (o : Option Member) → option_and_then (λ root.
        when (not root.allocated && is_ready root.key s.members) (outcome root.key (initial_failure pool s (asked s.members)))) o ≡ None →
        option_map_or (λ (root : Member). not root.allocated && is_ready root.key s.members) o false ≡ false
    from None h = refl
    from (Some root) h =
        when-None (not root.allocated && is_ready root.key s.members) (outcome root.key (initial_failure pool s (asked s.members))) h

-- and where they hold, nothing is forced
pub none_forced : (pool : ℕ) (s : Standing) → AtRest s → forced pool s ≡ None
none_forced pool s r = rw (r.none_ends, r.none_abandoned, from (root_left s.members) r.none_waits, r.no_head) refl
  where
    -- by cases on the root: where it does not wait, no mark is given
    from : (o : Option Member) → option_map_or (λ (root : Member). not root.allocated && is_ready root.key s.members) o false ≡ false →
        option_and_then (λ root. when (not root.allocated && is_ready root.key s.members)
        (outcome root.key (initial_failure pool s (asked s.members)))) o ≡ None
    from None h = refl
    from (Some root) h = rw h refl

-- what rests does so for any held pages
pub rests_with : (s : Standing) (held : List Interval) → AtRest s → AtRest (record s { held = held })
rests_with s held r = record { none_ends = r.none_ends; none_abandoned = r.none_abandoned; none_waits = r.none_waits; no_head = r.no_head }
