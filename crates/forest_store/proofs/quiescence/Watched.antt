-- A collection with a strong live node: nothing is forced in it, and no buffer is home.
use Rattle.forest_store.proofs.Common.{◌≡◌, ℕ, zero, suc, true, ◌==◌, nat_lt, List, Some, arith, lt-ltb, find, list_any, Table}
use Rattle.forest_store.proofs.Common.{Entry, Node, strong_count, has_strong, AreCounted, IsCounted, is_strong, In-find}
use Rattle.forest_store.proofs.tables.Hanging.{all_at}
use Rattle.forest_store.proofs.quiescence.Calming.{count_none, count_some}

-- what holds of each entry holds of the one that is found
pub found_counted : (t : Table Node) (id : ℕ) (es : List Entry) (e : Entry) → AreCounted t es →
    find (λ (x : Entry). x.id == id) es ≡ Some e → IsCounted t e
found_counted t id es e all found = all_at _ _ all e (In-find _ _ e found).0

-- a count that is not 0 has a strong live node
pub strong_lives : (nodes : List Node) (count : ℕ) → nat_lt 0 count ≡ true → count ≡ strong_count nodes → has_strong nodes ≡ true
strong_lives nodes zero some is = cc
strong_lives nodes (suc n) some is = count_some is_strong nodes (λ none. absurd (omega arith))

-- and the count tells whether there is one
pub strong_told : (nodes : List Node) (count : ℕ) → count ≡ strong_count nodes → nat_lt 0 count ≡ list_any is_strong nodes
strong_told nodes count is = grind (arith, count_none, lt-ltb, strong_lives)
