-- What the counts of a unit tell of what holds it.
use Rattle.forest_store.proofs.Common.{◌≡◌, ℕ, ◌<◌, nat_lt, Bool, true, not, ◌&&◌, ◌||◌, ◌⊎◌, List, [], ◌∷◌, arith, list_any}
use Rattle.forest_store.proofs.Common.{NodeKey, same_key, times, In-list_any, In-any, Node, lives_in, ltb-true, heads_below}
use Rattle.forest_store.proofs.tallies.Holding.{hangs_in, holds_unit}

-- some pass where the count is not 0
pub some_pass : (test : Node → Bool) (ns : List Node) → 0 < times test ns → list_any test ns ≡ true
some_pass test [] few = absurd (omega arith)
some_pass test (n ∷ ns) few = grind (arith, some_pass test ns)

-- a live node holds its unit
pub lives_held : (nodes : List Node) (head : NodeKey) → 0 < times (lives_in head) nodes → list_any (holds_unit nodes head) nodes ≡ true
lives_held nodes head some =
    let x = In-list_any (lives_in head) nodes (some_pass (lives_in head) nodes some) in
    In-any (holds_unit nodes head) nodes x.0 x.1 (lives_hold x.0.gone x.0.released (same_key x.0.head head) (x.0.attached && hangs_in nodes
    head x.0) x.2)
  where
    -- by arithmetic of switches: a live node of the unit holds it
    lives_hold : (g r s b : Bool) → ((not g && not r) && s) ≡ true → (not g && ((s && not r) || b)) ≡ true
    lives_hold g r s b h = grind arith

-- a head right below a unit holds it
pub below_held : (nodes : List Node) (head : NodeKey) → 0 < times (heads_below nodes head) nodes →
    list_any (holds_unit nodes head) nodes ≡ true
below_held nodes head some =
    let x = In-list_any (heads_below nodes head) nodes (some_pass (heads_below nodes head) nodes some) in
    In-any (holds_unit nodes head) nodes x.0 x.1 (heads_hold x.0.gone (same_key x.0.head head && not x.0.released)
    (x.0.attached && hangs_in nodes head x.0) x.2)
  where
    -- by arithmetic of switches: a head below that is not gone holds it
    heads_hold : (g a b : Bool) → (not g && b) ≡ true → (not g && (a || b)) ≡ true
    heads_hold g a b h = grind arith

-- a live node, or a unit right below
pub either_holds : (live below : ℕ) → (nat_lt 0 live || nat_lt 0 below) ≡ true → (0 < live) ⊎ (0 < below)
either_holds live below h = grind (arith, ltb-true)
