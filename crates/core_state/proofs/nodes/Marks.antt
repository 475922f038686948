-- What a mark makes of the nodes of a collection.
use Rattle.core_state.proofs.Common.{Allocated, Birth, Bool, Cause, Ended, Fault, In, In-filter, IsWhole, List, Loss, Mark, Node, NodeKey}
use Rattle.core_state.proofs.Common.{None, Option, Some, Timeline, after_allocation, after_end, after_loss, ap, births, births_in}
use Rattle.core_state.proofs.Common.{both_ways, cond, ended, false, false_if, fault, given_buffers, gone, gone_stays, inl, inr, is_taken}
use Rattle.core_state.proofs.Common.{is_under, lost, map, member_of, node_after, not, option_map_or, reaches, refl, sym, true, ℕ, ◌&&◌}
use Rattle.core_state.proofs.Common.{◌||◌, ◌∙◌, ◌∷◌, ◌≡◌, ◌⊎◌}
use Rattle.sm_names.specs.Births.{is_at_or_below}
use Rattle.core_state.proofs.nodes.Ancestors.{Keeps, kept_in, nodes_kept, kept_births}
use Rattle.core_state.proofs.lists.Maps.{map-map_In}
use Rattle.core_state.proofs.nodes.Members.{of_collection, member_kept, taken_kept}

-- ---- which nodes are kept

-- what keeps all that is not gone does so after one more mark
pub keeps_on : (keep : NodeKey → Bool) (marks : Timeline) (mark : Mark) → Keeps keep marks → Keeps keep (mark ∷ marks)
keeps_on keep marks mark keeps node here =
    keeps node (false_if (gone marks node) (λ e. both_ways (gone (mark ∷ marks) node) (gone_stays mark marks node e) here))

-- a birth that is kept is one of the collection
kept_of : (keep : NodeKey → Bool) (marks : Timeline) (collection : ℕ) (b : Birth) → In b (kept_in keep marks collection) →
    In b (births marks) × (b.collection ≡ collection)
kept_of keep marks collection b on =
    of_collection marks collection b (In-filter (λ (x : Birth). keep x.node) (births_in marks collection) b on).0

-- ---- an allocation

-- an allocation makes of each kept node what it makes of it in the history
pub nodes_allocated : (keep : NodeKey → Bool) (marks : Timeline) (collection : ℕ) (head : NodeKey) →
    nodes_kept keep (Allocated head ∷ marks) collection ≡ after_allocation head (nodes_kept keep marks collection)
nodes_allocated keep marks collection head =
    kept_births keep (Allocated head ∷ marks) collection
    ∙ (map-map_In (node_after marks) (node_after (Allocated head ∷ marks)) (given_buffers head) (kept_in keep marks collection) (λ b on.
    refl)
    ∙ ap (map (given_buffers head)) (sym (kept_births keep marks collection)))

-- ---- a loss

-- a node is lost alike by tests that agree if it is not gone
lost_alike : (n : Node) (f : Fault) (r t g : Bool) (o : Option Fault) → (g ≡ true) ⊎ (t ≡ r) →
    record n { gone = r || g; fault = option_map_or Some (cond (r && not g) (Some f) None) o }
    ≡ record n { gone = t || g; fault = cond (t && not g) (Some f) o }
lost_alike n f true true true o h = refl
lost_alike n f true false true o h = refl
lost_alike n f false true true o h = refl
lost_alike n f false false true o h = refl
lost_alike n f true true false o h = refl
lost_alike n f false false false o h = refl
lost_alike n f true false false o (inl e) = cc
lost_alike n f true false false o (inr e) = cc
lost_alike n f false true false o (inl e) = cc
lost_alike n f false true false o (inr e) = cc

-- where one may agree, unless the node is gone
unless_gone : (g : Bool) (t r : Bool) → (g ≡ false → t ≡ r) → (g ≡ true) ⊎ (t ≡ r)
unless_gone true t r same = inl refl
unless_gone false t r same = inr (same refl)

-- a loss at a node that is not gone makes of each kept node what it makes of it in the history
pub nodes_lost : (keep : NodeKey → Bool) (marks : Timeline) (collection : ℕ) → IsWhole marks → Keeps keep marks →
    (b : Birth) → In b (births marks) → b.collection ≡ collection → gone marks b.node ≡ false → (cause : Cause) →
    nodes_kept keep (Loss b.node cause ∷ marks) collection ≡ after_loss (record { cause = cause; origin = b.node })
    (nodes_kept keep marks collection)
nodes_lost keep marks collection w keeps b on ours here cause =
    let kept : List Node = nodes_kept keep marks collection in
    let f : Fault = record { cause = cause; origin = b.node } in
    kept_births keep (Loss b.node cause ∷ marks) collection
    ∙ (map-map_In (node_after marks) (node_after (Loss b.node cause ∷ marks)) (lost (is_taken kept b.node) f)
    (kept_in keep marks collection)
    (λ c there.
    let t = kept_of keep marks collection c there in
    lost_alike (node_after marks c) f (reaches marks b.node c.node) (is_taken kept b.node (node_after marks c)) (gone marks c.node)
    (fault marks c.node)
    (unless_gone (gone marks c.node) (is_taken kept b.node (node_after marks c)) (reaches marks b.node c.node) (λ free.
    taken_kept keep marks collection w keeps b on ours here c t.0 t.1 free)))
    ∙ ap (map (lost (is_taken kept b.node) f)) (sym (kept_births keep marks collection)))

-- ---- an end

-- a node ends alike by tests that agree if it is not gone
ended_alike : (n : Node) (r t g : Bool) → (g ≡ true) ⊎ (t ≡ r) → record n { gone = r || g } ≡ record n { gone = t || g }
ended_alike n true true g h = refl
ended_alike n false false g h = refl
ended_alike n true false true h = refl
ended_alike n false true true h = refl
ended_alike n true false false (inl e) = cc
ended_alike n true false false (inr e) = cc
ended_alike n false true false (inl e) = cc
ended_alike n false true false (inr e) = cc

-- an end makes of each kept node what it makes of it in the history
pub nodes_ended : (keep : NodeKey → Bool) (marks : Timeline) (collection : ℕ) → IsWhole marks → Keeps keep marks → (top : NodeKey) →
    nodes_kept keep (Ended top ∷ marks) collection ≡ after_end top (nodes_kept keep marks collection)
nodes_ended keep marks collection w keeps top =
    let kept : List Node = nodes_kept keep marks collection in
    kept_births keep (Ended top ∷ marks) collection
    ∙ (map-map_In (node_after marks) (node_after (Ended top ∷ marks)) (ended kept top) (kept_in keep marks collection)
    (λ c there.
    let t = kept_of keep marks collection c there in
    ended_alike (node_after marks c) (is_at_or_below (births marks) top c.node) (is_under top (member_of kept (node_after marks c)))
    (gone marks c.node)
    (unless_gone (gone marks c.node) (is_under top (member_of kept (node_after marks c))) (is_at_or_below (births marks) top c.node)
    (λ free. ap (is_under top) (member_kept keep marks collection w keeps c t.0 t.1 free))))
    ∙ ap (map (ended kept top)) (sym (kept_births keep marks collection)))

-- ---- the same of all nodes
