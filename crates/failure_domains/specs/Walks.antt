-- The two walks of a failure, up and then down. No public clause cites this module.
use Rattle.std.specs.Prelude.{◌≡◌, ◌≢◌, ℕ, suc, ◌+◌, ◌<◌, ◌≤◌, Bool, false, List, ◌∷◌, Option, Some, All, AllPairs, length, take, slice_index_or}
use Rattle.std.specs.List.{flat_map}
use Rattle.sm_names.specs.declared.keys.NodeKey.{NodeKey}

-- this many links that don't block, one after the other, lead from the origin up to the node
pub data Climb (parent : NodeKey → Option NodeKey) (blocked : NodeKey → Bool) (origin : NodeKey)
    : NodeKey → ℕ → Type 0 where
  Start : Climb parent blocked origin origin 0
  Step : (below above : NodeKey) (steps : ℕ) → Climb parent blocked origin below steps → blocked below ≡ false →
      parent below ≡ Some above → Climb parent blocked origin above (suc steps)

-- the list of a walk down from the top, after this many of its keys were taken
pub record IsWalk (children : NodeKey → List NodeKey) (depth : NodeKey → ℕ)
    (top : NodeKey) (taken : ℕ) (keys : List NodeKey) : Type 0 where
  -- the children of each key that was taken were appended
  pub layers : keys ≡ top ∷ flat_map children (take taken keys)
  pub within : taken ≤ length keys
  pub once : AllPairs (λ (a b : NodeKey). a ≢ b) keys
  -- no key lies above the top, and each place lies at most one layer below the place before
  pub low : All (λ key. depth top ≤ depth key) keys
  pub high : (place : ℕ) (d : NodeKey) → place < length keys → depth (slice_index_or keys place d) ≤ depth top + place
