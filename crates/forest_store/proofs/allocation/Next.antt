-- Attached units that become ready are what is allocated next, and nothing after them.
use Rattle.forest_store.proofs.Common.{◌≡◌, Bool, true, false, not, ◌&&◌, ◌||◌, List, list_any, option_map_or}
use Rattle.forest_store.proofs.Common.{NodeKey, same_key, In, same_key-true, Node, Collection, is_of, IsSound, arith}
use Rattle.forest_store.proofs.quiescence.Steps.{all-In}

-- the node's parent is in a unit with one of these heads
abbrev pub hangs_in_some : List Node → List NodeKey → Node → Bool
hangs_in_some nodes hs n = option_map_or (λ p. list_any (λ (q : Node). is_of p q && list_any (same_key q.head) hs) nodes) n.parent false

-- an attached node heads its unit
pub head_own : (c : Collection) → IsSound c → (n : Node) → In n c.nodes → n.attached ≡ true → n.head ≡ n.key
head_own c sound n on attached = same_key-true _ _ (by _ _ _ attached (all-In _ _ n on sound.heads))
  where
    -- by arithmetic of switches
    by : (none attached own : Bool) → attached ≡ true → (not (none || attached) || own) ≡ true → own ≡ true
    by none attached own e h = grind arith
