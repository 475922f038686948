-- How a collection of a state follows a history.
use Rattle.core_state.proofs.Common.{Birth, Bool, Bound, BufferName, Buffers, Collection, Failure, Grows, Handles, HeldBuffer, In}
use Rattle.core_state.proofs.Common.{In-filter, In-find, Interval, IsWhole, List, MAX_BUFFERS, Member, NodeKey, None, Option, Some}
use Rattle.core_state.proofs.Common.{Standing, Strength, Timeline, [], abandoned, and_left, ap, asked, both_ways, buffers_of, either_way}
use Rattle.core_state.proofs.Common.{eqb-true, filter, filter-all, first_some, forced, given_root, held, held_after, home}
use Rattle.core_state.proofs.Common.{initial_failure, inl, inr, is_none, is_root, is_some, left_of, list_any, map, member_birth, members}
use Rattle.core_state.proofs.Common.{members_of, names, nat_lt, next_forced, none_if, not, open_total, option_and_then, option_map_or}
use Rattle.core_state.proofs.Common.{pages_in, pages_of, placed, placed_given, places, places_same, refl, root_left, some_strong_live}
use Rattle.core_state.proofs.Common.{standing, still_out, sym, true, when, whole, ℕ, ◌&&◌, ◌++◌, ◌==◌, ◌∙◌, ◌∷◌, ◌≡◌}
use Rattle.sm_names.specs.Changes.{without_gone}
use Rattle.sm_names.specs.Forced.{ending, initial_allocation, logical_allocation, outcome}
use Rattle.sm_names.specs.Members.{is_ready}
use Rattle.history_laws.proofs.ForgetLaws.{is_left, next-left}
use Rattle.forest_store.specs.Settling.{standing as standing_in}
use Rattle.core_state.proofs.collections.MarksApart.{is_beside, pages_beside}
use Rattle.core_state.proofs.nodes.Ancestors.{Keeps, nodes_kept}
use Rattle.core_state.proofs.nodes.Members.{members_kept}

-- the handles are those that are open after the marks
abbrev pub Counts : Handles → Timeline → Type 0
Counts handles marks = (buffer : BufferName) (strength : Strength) → handles buffer strength ≡ open_total marks buffer strength

-- the collection, beside the pages of the others, is as the marks make it, but that nodes that are gone may be forgotten, and
-- that pages of buffers that are home may still be there
pub record Matches (pool : ℕ) (keep : NodeKey → Bool) (marks : Timeline) (others : List Interval) (c : Collection) : Type 0 where
  -- no node is forgotten that is not gone
  pub keeps : Keeps keep marks
  pub nodes : c.nodes ≡ nodes_kept keep marks c.id
  pub buffers : c.buffers ≡ buffers_of marks c.id
  -- the pages are of its own buffers
  pub own : (h : HeldBuffer) → In h c.held → h.buffer.collection ≡ c.id
  -- there are none before it is given buffers
  pub none : c.buffers ≡ None → c.held ≡ []
  -- those of buffers that are not home are held
  pub held : still_out marks c.held ≡ held_after pool marks c.id
  -- the others' pages, in whatever order
  pub beside : (test : Interval → Bool) → list_any test others ≡ list_any test (pages_beside pool marks c.id)

-- ---- what is forced is a matter of pages only before there are buffers

module _ (pool : ℕ) (s : Standing) (other : List Interval) where
  -- the root unit is allocated or fails as before
  initial_held : (s.buffers ≡ None → (test : Interval → Bool) → list_any test s.held ≡ list_any test other) →
      (is_some s.buffers ≡ true → (root : Member) → root_left s.members ≡ Some root → root.allocated ≡ true) →
      initial_allocation pool s ≡ initial_allocation pool (record s { held = other })
  initial_held same given = from s.buffers refl
    where
      -- a collection with buffers has an allocated root, so neither side allocates it
      at_root : (o : Option Member) → root_left s.members ≡ o → is_some s.buffers ≡ true →
          option_and_then (λ root. when (not root.allocated && is_ready root.key s.members)
          (outcome root.key (initial_failure pool s (asked s.members)))) o
          ≡ option_and_then (λ root. when (not root.allocated && is_ready root.key s.members)
          (outcome root.key (initial_failure pool (record s { held = other }) (asked s.members)))) o
      at_root None e there = refl
      at_root (Some root) e there = rw (given there root e) refl

      -- the two allocations agree, whether or not the collection has buffers
      from : (o : Option Buffers) → s.buffers ≡ o → initial_allocation pool s ≡ initial_allocation pool (record s { held = other })
      from None e =
          let want : Buffers = asked s.members in
          let room : places pool (pages_of want.size) want.count s.held ≡ places pool (pages_of want.size) want.count other =
          places_same pool (pages_of want.size) want.count s.held other (same e) in
          λ i. option_and_then (λ root. when (not root.allocated && is_ready root.key s.members) (outcome root.key (first_some (
          when (not (some_strong_live s.members)) Failure.NoStrong
          ∷ when (want.count == 0) Failure.NoBuffers
          ∷ when (nat_lt MAX_BUFFERS want.count) Failure.TooManyBuffers
          ∷ when (is_none (room i)) Failure.PoolFull
          ∷ [])))) (root_left s.members)
      from (Some b) e = at_root (root_left s.members) refl (ap is_some e)

  -- so whichever pages are held, the same mark is forced
  pub forced_held : (s.buffers ≡ None → (test : Interval → Bool) → list_any test s.held ≡ list_any test other) →
      (is_some s.buffers ≡ true → (root : Member) → root_left s.members ≡ Some root → root.allocated ≡ true) →
      forced pool s ≡ forced pool (record s { held = other })
  forced_held same given = λ i. first_some (ending s ∷ abandoned s ∷ initial_held same given i ∷ logical_allocation s ∷ [])

-- ---- the same mark is forced

module _ (pool : ℕ) (limits : Bound) (keep : NodeKey → Bool) (marks : Timeline) (others : List Interval) (c : Collection)
    (grown : Grows pool limits [] marks)
    (m : Matches pool keep marks others c) where
  -- the history's collection without the nodes that are gone
  abbrev before : Standing
  before = without_gone (standing pool marks c.id)

  -- the nodes that are not gone are read as they stand
  pub members_match : members_of c.nodes ≡ left_of (members marks c.id)
  members_match = ap members_of m.nodes ∙ members_kept keep marks c.id (whole pool limits marks grown) m.keeps

  -- without buffers all pages are those of the others
  pub pages_match : buffers_of marks c.id ≡ None → (test : Interval → Bool) →
      list_any test (map (λ (h : HeldBuffer). h.pages) (held pool marks)) ≡ list_any test (pages_in c ++ others)
  pages_match none test =
      let all : filter (is_beside c.id) (held pool marks) ≡ held pool marks = filter-all (is_beside c.id) (held pool marks) away in
      let empty : c.held ≡ [] = m.none (m.buffers ∙ none) in
      ap (λ (hs : List HeldBuffer). list_any test (map (λ (h : HeldBuffer). h.pages) hs)) (sym all)
      ∙ (sym (m.beside test) ∙ ap (λ (hs : List HeldBuffer). list_any test (map (λ (h : HeldBuffer). h.pages) hs ++ others)) (sym empty))
    where
      away : (h : HeldBuffer) → In h (held pool marks) → is_beside c.id h ≡ true
      away h on =
          let p = In-filter (λ (h : HeldBuffer). not (home marks h.buffer)) (placed pool marks) h on in
          elim (either_way (h.buffer.collection == c.id)) [
            | inl e ↦
                both_ways (is_some (buffers_of marks h.buffer.collection)) (placed_given pool marks h p.0)
                (ap (λ (k : ℕ). is_some (buffers_of marks k)) (eqb-true h.buffer.collection c.id e) ∙ ap is_some none)
            | inr e ↦ ap not e
          ]

  -- the root of a collection with buffers is allocated
  root_allocated : is_some before.buffers ≡ true → (root : Member) → root_left before.members ≡ Some root → root.allocated ≡ true
  root_allocated there root e =
      let f = In-find (λ m. is_root m && not m.gone) (left_of (members marks c.id)) root e in
      let r = member_birth marks c.id root (In-filter is_left (members marks c.id) root f.0).0 in
      let b : Birth = r.0 in
      let top : b.parent ≡ None = none_if b.parent (ap is_root (sym r.2) ∙ and_left (is_root root) (not root.gone) f.1) in
      ap (λ (m : Member). m.allocated) r.2
      ∙ given_root pool limits marks grown b r.1 top (ap (λ (k : ℕ). is_some (buffers_of marks k)) (eqb-true b.collection c.id r.3)
      ∙ there)

  module _ (handles : Handles) (counts : Counts handles marks) where
    -- the collections stand alike but for the pages
    stands : standing_in handles others c ≡ record before { held = pages_in c ++ others }
    stands = λ i. record {
      members = members_match i;
      buffers = m.buffers i;
      strong_open = list_any (λ b. nat_lt 0 (counts b Strength.Strong i)) (option_map_or (λ (b : Buffers). names c.id b.count) (m.buffers i)
          []);
      held = pages_in c ++ others;
    }

    -- the state forces what the history forces
    pub forced_matches : forced pool (standing_in handles others c) ≡ next_forced pool c.id marks
    forced_matches =
        let w : IsWhole marks = whole pool limits marks grown in
        ap (forced pool) stands
        ∙ (sym (forced_held pool before (pages_in c ++ others) pages_match root_allocated)
        ∙ next-left pool c.id marks w.sound w.below)
