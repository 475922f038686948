-- Where nothing was forced, a newborn that comes last among the nodes forces nothing.
use Rattle.forest_store.proofs.Common.{◌≡◌, refl, ap, ◌∙◌, Bool, true, false, ◌&&◌, ◌||◌, not, List, [], ◌∷◌, ◌++◌, Option, Some}
use Rattle.forest_store.proofs.Common.{None, list_any, find, option_map_or, option_and_then, NodeKey, Buffers, Cause, same_key, when}
use Rattle.forest_store.proofs.Common.{In, same_key-refl, same_key-true, filter-append, list_any-append, Standing, ending, abandoned}
use Rattle.forest_store.proofs.Common.{logical_allocation, logical_failure, outcome, is_allocated, is_deserted, is_next_head, Mark}
use Rattle.forest_store.proofs.Common.{Loss, Ended, Member, is_live, is_ready, is_root, root_left, some_live, some_strong_live}
use Rattle.forest_store.proofs.Common.{subtree, unit, demands, reserved, AtRest, map-None, option_map, arith, and-false, or-false}
use Rattle.forest_store.proofs.Common.{or-true, find-append, list_all-append, option_or, find-none, none-find, common_steps}
use Rattle.forest_store.proofs.lists.Elements.{none_less}

-- ---- tests

-- a test that asks that two others fail
no_more : (u g a b : Bool) → (u && (not g && not (a || b))) ≡ true → (u && (not g && not a)) ≡ true
no_more u g a b h = grind arith

-- a test that asks for two others at its end
more_asked : (a g l p r s : Bool) → (a && (not g && (not l && (p && (r && s))))) ≡ true → (a && (not g && (not l && (p && r)))) ≡ true
more_asked a g l p r s h = grind arith

-- what the newborn is among these
pub record IsNewborn (ms : List Member) (m : Member) : Type 0 where
  pub live : is_live m ≡ true
  pub asks_nothing : m.constraints ≡ None
  -- as a root or attached it heads its own unit, and a root has no buffers
  pub heads : (is_root m || m.attached) ≡ true → m.head ≡ m.key
  pub waits : is_root m ≡ true → m.allocated ≡ false
  pub childless : (n : Member) → In n ms → n.parent ≡ Some m.key → ⊥

module _ (ms : List Member) (m : Member) (newborn : IsNewborn ms m) where
  -- the nodes with the newborn
  abbrev more : List Member
  more = ms ++ m ∷ []

  -- it is live at its own place
  lives_here : some_live (subtree m.key (m ∷ [])) ≡ true
  lives_here = rw (same_key-refl m.key, newborn.live) refl

  -- some node below another is live, as far as some was
  live_more : (key : NodeKey) → some_live (subtree key more) ≡ (some_live (subtree key ms) || some_live (subtree key (m ∷ [])))
  live_more key = ap some_live (filter-append _ ms _) ∙ list_any-append is_live (subtree key ms) (subtree key (m ∷ []))

  -- a unit is ready, as far as it was
  ready_more : (key : NodeKey) → is_ready key more ≡ (is_ready key ms && is_ready key (m ∷ []))
  ready_more key = grind (arith, filter-append, list_all-append)

  -- some strong node is live, as far as some was
  strong_more : some_strong_live more ≡ (some_strong_live ms || some_strong_live (m ∷ []))
  strong_more = list_any-append _ ms _

  -- a root that is left stays the root
  root_more : root_left more ≡ option_or (root_left ms) (root_left (m ∷ []))
  root_more = find-append _ ms _

  -- ---- ends

  -- no other is deserted that was not
  deserted_less : (x : Member) → is_deserted more x ≡ true → is_deserted ms x ≡ true
  deserted_less x h = no_more _ _ _ _ (rw (live_more x.key) at h)

  -- nor is the newborn
  not_deserted : is_deserted more m ≡ false
  not_deserted = rw (live_more m.key, lives_here) (simp (or-true, and-false))

  -- so none is, where none was
  none_deserted : list_any (is_deserted ms) ms ≡ false → list_any (is_deserted more) more ≡ false
  none_deserted none = grind (arith, list_any-append, none_less, deserted_less, not_deserted)

  -- ---- heads of units

  -- a node is in an allocated unit as it was, but for the newborn
  allocated_more : (key : NodeKey) → same_key m.key key ≡ false → is_allocated more key ≡ is_allocated ms key
  allocated_more key other = list_any-append _ ms _ ∙ rw other (simp (and-false, or-false))

  -- so is the parent of a node that was there
  parent_more : (x : Member) → In x ms → (o : Option NodeKey) → x.parent ≡ o →
      option_map_or (is_allocated more) o false ≡ option_map_or (is_allocated ms) o false
  parent_more x on o is = grind (arith, allocated_more, same_key-true)

  -- no other is the next head that was not
  next_less : (x : Member) → In x ms → is_next_head more x ≡ true → is_next_head ms x ≡ true
  next_less x on h =
      more_asked x.attached x.gone x.allocated (option_map_or (is_allocated ms) x.parent false) (is_ready x.key ms)
      (is_ready x.key (m ∷ [])) (rw (parent_more x on _ refl, ready_more x.key) at h)

  -- nor is the newborn
  not_next : is_next_head more m ≡ false
  not_next = grind (arith, common_steps, and-false)

  -- so none is, where none was
  none_next : list_any (is_next_head ms) ms ≡ false → list_any (is_next_head more) more ≡ false
  none_next none = grind (arith, list_any-append, none_less, next_less, not_next)

-- the loss of a root with buffers that neither a strong node nor a strong handle keeps
abbrev loss_of : Bool → Bool → Member → Option Mark
loss_of strong open_handle root = when (root.allocated && (not strong && not open_handle)) (Loss root.key Cause.NoStrong)

-- the root waits for nothing but its buffers
abbrev is_due : List Member → Member → Bool
is_due ms root = not root.allocated && is_ready root.key ms

-- what becomes of the unit with this head
abbrev becomes : List Member → Buffers → Member → Mark
becomes ms buffers head = outcome head.key (logical_failure (demands (unit head.key ms)) (reserved ms) buffers)

module _ (s : Standing) (m : Member) (newborn : IsNewborn s.members m) (rest : AtRest s) where
  -- the collection with the newborn
  abbrev with_it : Standing
  with_it = record s { members = s.members ++ m ∷ [] }

  -- no node ends
  none_ends : ending with_it ≡ None
  none_ends =
      let was : find (is_deserted s.members) s.members ≡ None = map-None _ _ rest.none_ends in
      let none : list_any (is_deserted s.members) s.members ≡ false = none-find (is_deserted s.members) s.members was in
      ap (option_map (λ (top : Member). Ended top.key))
      (find-none (is_deserted with_it.members) with_it.members (none_deserted _ m newborn none))

  -- no root is abandoned
  abandons_none : abandoned with_it ≡ None
  abandons_none = rw (root_more s.members m newborn, strong_more s.members m newborn) (from (root_left s.members) rest.none_abandoned)
    where
      less : (l a b o : Bool) (mark : Mark) → when (l && (not a && not o)) mark ≡ None → when (l && (not (a || b) && not o)) mark ≡ None
      less l a b o mark h = grind arith

      from : (o : Option Member) → option_and_then (loss_of (some_strong_live s.members) s.strong_open) o ≡ None →
          option_and_then (loss_of (some_strong_live s.members || some_strong_live (m ∷ [])) s.strong_open)
          (option_or o (root_left (m ∷ []))) ≡ None
      from o h = grind arith

  -- the root unit waits, or has its buffers
  none_waits : option_map_or (is_due with_it.members) (root_left with_it.members) false ≡ false
  none_waits = rw (root_more s.members m newborn) (from (root_left s.members) rest.none_waits)
    where
      less : (l a b : Bool) → (not l && a) ≡ false → (not l && (a && b)) ≡ false
      less l a b h = grind arith

      from : (o : Option Member) → option_map_or (is_due s.members) o false ≡ false →
          option_map_or (is_due with_it.members) (option_or o (root_left (m ∷ []))) false ≡ false
      from o h = grind (arith, ready_more, and-false, less)

  -- no attached unit is next
  no_head : logical_allocation with_it ≡ None
  no_head = from _ rest.no_head
    where
      from : (o : Option Buffers) →
          option_and_then (λ buffers. option_map (becomes s.members buffers) (find (is_next_head s.members) s.members)) o ≡ None →
          option_and_then (λ buffers. option_map (becomes with_it.members buffers) (find (is_next_head with_it.members) with_it.members))
          o ≡ None
      from o h = grind (arith, map-None, find-none, none_next, none-find)

  -- so the collection rests with the newborn
  pub rests_with : AtRest with_it
  rests_with = record { none_ends = none_ends; none_abandoned = abandons_none; none_waits = none_waits; no_head = no_head }
