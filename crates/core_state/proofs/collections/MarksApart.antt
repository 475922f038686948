-- A mark at a node of one collection leaves the others as they stood.
use Rattle.core_state.proofs.Common.{Allocated, Bool, BufferName, Called, Ended, HeldBuffer, In, In-filter, Interval, IsWhole, List, Loss}
use Rattle.core_state.proofs.Common.{Mark, Some, Strength, Timeline, ap, birth_of_collection, births, births_in, both_ways, buffers_of}
use Rattle.core_state.proofs.Common.{collection_in, either_way, eqb-true, false, fault, filter, filter-In, filter-append, filter-less}
use Rattle.core_state.proofs.Common.{filter-none, filter-swap, held, held_after, home, inl, inr, is_doomed, is_initial, is_some}
use Rattle.core_state.proofs.Common.{layout_at, map, map-In, member, members, node_after, nodes_after, not, not-true, of_ours, open_total}
use Rattle.core_state.proofs.Common.{placed, refl, some_strong_live, sym, true, ℕ, ◌&&◌, ◌++◌, ◌==◌, ◌∙◌, ◌∷◌, ◌≡◌}
use Rattle.history_laws.proofs.IsolationLaws.{fault_loss, not_initial, members_loss, members_end, members_allocation, buffers_allocation}
use Rattle.history_laws.proofs.LayoutLaws.{layout_given}
use Rattle.sm_names.proofs.ListLaws.{map-at}
use Rattle.history_laws.proofs.SumLaws.{swap_eq}

-- the mark is no event, and is at a node of the collection
abbrev pub IsIn : Timeline → ℕ → Mark → Type 0
IsIn marks collection (Called client reply call) = ⊥
IsIn marks collection (Loss origin cause) = collection_in (births marks) origin ≡ Some collection
IsIn marks collection (Allocated head) = collection_in (births marks) head ≡ Some collection
IsIn marks collection (Ended top) = collection_in (births marks) top ≡ Some collection

-- the buffer is of another collection
abbrev pub is_beside : ℕ → HeldBuffer → Bool
is_beside collection h = not (h.buffer.collection == collection)

-- the pages of buffers of the other collections
abbrev pub pages_beside : ℕ → Timeline → ℕ → List Interval
pages_beside pool marks collection = map (λ (h : HeldBuffer). h.pages) (filter (is_beside collection) (held pool marks))

module _ (marks : Timeline) (ours : ℕ) (w : IsWhole marks) where
  -- how the nodes of another stand
  pub members_apart : (mark : Mark) → IsIn marks ours mark → (theirs : ℕ) → (ours == theirs) ≡ false →
      members (mark ∷ marks) theirs ≡ members marks theirs
  members_apart (Called client reply call) at theirs other = absurd at
  members_apart (Loss origin cause) at theirs other = members_loss marks ours theirs w other origin cause at
  members_apart (Allocated head) at theirs other = members_allocation marks ours theirs w other head at
  members_apart (Ended top) at theirs other = members_end marks ours theirs w other top at

  -- what another was given
  pub buffers_apart : (mark : Mark) → IsIn marks ours mark → (theirs : ℕ) → (ours == theirs) ≡ false →
      buffers_of (mark ∷ marks) theirs ≡ buffers_of marks theirs
  buffers_apart (Called client reply call) at theirs other = absurd at
  buffers_apart (Loss origin cause) at theirs other = refl
  buffers_apart (Allocated head) at theirs other = buffers_allocation marks ours theirs w other head at
  buffers_apart (Ended top) at theirs other = refl

  -- the handles
  pub open_apart : (mark : Mark) → IsIn marks ours mark → (buffer : BufferName) (strength : Strength) →
      open_total (mark ∷ marks) buffer strength ≡ open_total marks buffer strength
  open_apart (Called client reply call) at buffer strength = absurd at
  open_apart (Loss origin cause) at buffer strength = refl
  open_apart (Allocated head) at buffer strength = refl
  open_apart (Ended top) at buffer strength = refl

  -- which of its buffers are home
  pub home_apart : (mark : Mark) → IsIn marks ours mark → (buffer : BufferName) → (ours == buffer.collection) ≡ false →
      home (mark ∷ marks) buffer ≡ home marks buffer
  home_apart mark at buffer other =
      λ i. (is_some (buffers_apart mark at buffer.collection other i)
      && is_doomed (open_apart mark at buffer Strength.Strong i) (some_strong_live (members_apart mark at buffer.collection other i)))
      && open_apart mark at buffer Strength.Weak i == 0

  -- its nodes
  pub nodes_apart : (mark : Mark) → IsIn marks ours mark → (theirs : ℕ) → (ours == theirs) ≡ false →
      nodes_after (mark ∷ marks) theirs ≡ nodes_after marks theirs
  nodes_apart (Called client reply call) at theirs other = absurd at
  nodes_apart (Loss origin cause) at theirs other =
      map-In (node_after (Loss origin cause ∷ marks)) (node_after marks) (births_in marks theirs)
      (λ b on.
      let t = birth_of_collection marks theirs b on in
      let same : member (Loss origin cause ∷ marks) b ≡ member marks b =
      map-at (member (Loss origin cause ∷ marks)) (member marks) (births_in marks theirs) (members_loss marks ours theirs w other origin
      cause at) b on in
      let fails : fault (Loss origin cause ∷ marks) b.node ≡ fault marks b.node =
      fault_loss marks ours theirs w other origin cause at b.node (of_ours marks theirs w b t.0 t.1) in
      λ i. record (node_after marks b) { gone = (same i).gone; fault = fails i })
  nodes_apart (Allocated head) at theirs other =
      map-In (node_after (Allocated head ∷ marks)) (node_after marks) (births_in marks theirs)
      (λ b on.
      let same : member (Allocated head ∷ marks) b ≡ member marks b =
      map-at (member (Allocated head ∷ marks)) (member marks) (births_in marks theirs) (members_allocation marks ours theirs w other head
      at) b on in
      λ i. record (node_after marks b) { allocated = (same i).allocated })
  nodes_apart (Ended top) at theirs other =
      map-In (node_after (Ended top ∷ marks)) (node_after marks) (births_in marks theirs)
      (λ b on.
      let same : member (Ended top ∷ marks) b ≡ member marks b =
      map-at (member (Ended top ∷ marks)) (member marks) (births_in marks theirs) (members_end marks ours theirs w other top at) b on in
      λ i. record (node_after marks b) { gone = (same i).gone })

  -- no buffer that is laid out is of another
  pub laid_in : (pool : ℕ) (out : List Interval) (mark : Mark) → IsIn marks ours mark → (h : HeldBuffer) →
      In h (layout_at pool marks out mark) → is_beside ours h ≡ false
  laid_in pool out (Called client reply call) at h on = absurd at
  laid_in pool out (Loss origin cause) at h on = absurd on
  laid_in pool out (Ended top) at h on = absurd on
  laid_in pool out (Allocated head) at h on =
      elim (either_way (h.buffer.collection == ours)) [
        | inl e ↦ ap not e
        | inr e ↦
            both_ways (is_initial marks h.buffer.collection (Allocated head)) (layout_given pool marks out (Allocated head) h on)
            (not_initial marks ours h.buffer.collection w (swap_eq h.buffer.collection ours e) head at)
      ]

  -- the pages of the others
  pub beside_apart : (pool : ℕ) (mark : Mark) → IsIn marks ours mark →
      filter (is_beside ours) (held pool (mark ∷ marks)) ≡ filter (is_beside ours) (held pool marks)
  beside_apart pool mark at =
      let out : List Interval = map (λ (h : HeldBuffer). h.pages) (held pool marks) in
      let laid : List HeldBuffer = layout_at pool marks out mark in
      let before : HeldBuffer → Bool = λ h. not (home marks h.buffer) in
      let after : HeldBuffer → Bool = λ h. not (home (mark ∷ marks) h.buffer) in
      let theirs : List HeldBuffer = filter (is_beside ours) (placed pool marks) in
      filter-swap (is_beside ours) after (laid ++ placed pool marks)
      ∙ (ap (filter after) (filter-append (is_beside ours) laid (placed pool marks)
      ∙ ap (λ (l : List HeldBuffer). l ++ theirs) (filter-none (is_beside ours) laid (laid_in pool out mark at)))
      ∙ (filter-In after before theirs (λ h on.
      ap not (home_apart mark at h.buffer (swap_eq h.buffer.collection ours (not-true (h.buffer.collection == ours)
      (In-filter (is_beside ours) (placed pool marks) h on).1))))
      ∙ filter-swap before (is_beside ours) (placed pool marks)))

  -- the pages of another
  pub held_apart : (pool : ℕ) (mark : Mark) → IsIn marks ours mark → (theirs : ℕ) → (ours == theirs) ≡ false →
      held_after pool (mark ∷ marks) theirs ≡ held_after pool marks theirs
  held_apart pool mark at theirs other =
      filter-less of_theirs (is_beside ours) (held pool (mark ∷ marks)) besides
      ∙ (ap (filter of_theirs) (beside_apart pool mark at) ∙ sym (filter-less of_theirs (is_beside ours) (held pool marks) besides))
    where
      of_theirs : HeldBuffer → Bool
      of_theirs h = h.buffer.collection == theirs

      besides : (h : HeldBuffer) → (h.buffer.collection == theirs) ≡ true → is_beside ours h ≡ true
      besides h e = ap not (ap (λ (k : ℕ). k == ours) (eqb-true h.buffer.collection theirs e) ∙ swap_eq ours theirs other)
