-- What a core tells of what a client has is what each history that it shows says.
use Rattle.core_vanish.proofs.Common.{BufferName, Entry, Grows, HasAmong, HasVanished, HeldBuffer, HoldsAmong, In-any, In-list_any, List}
use Rattle.core_vanish.proofs.Common.{Node, NodeKey, None, OpenEnd, Option, Some, State, Strength, Strong, Timeline, Weak, [], all_nodes}
use Rattle.core_vanish.proofs.Common.{and_both, and_left, and_right, ap, arith, counted, either_way, eqb-true, false, false_if}
use Rattle.core_vanish.proofs.Common.{has_joined, held, held_by_page, holds_end, inl, inr, is_some, is_some-find, legal_grows, list_any}
use Rattle.core_vanish.proofs.Common.{not, open_of, open_total, option_map_or, readings, readings_of, refl, same_buffer}
use Rattle.core_vanish.proofs.Common.{stranger_has_none, sym, timeline, true, ℕ, ◌&&◌, ◌<◌, ◌==◌, ◌∙◌, ◌≡◌, ◌≤◌}
use Rattle.std.specs.Option.{option_and_then}
use Rattle.sm_names.specs.Answers.{Readings}
use Rattle.sm_names.specs.Handles.{buffer_names, doomed, home}
use Rattle.history_laws.proofs.CountLaws.{client-le-total}
use Rattle.history_laws.proofs.DoomLaws.{IsDoomed, doomed_parts}
use Rattle.history_laws.proofs.HeldLaws.{stands_held}
use Rattle.event_laws.proofs.HandleBufferLaws.{has_named}
use Rattle.forest_store.specs.Forest.{all_held, node_at}
use Rattle.forest_store.specs.Nodes.{is_of}
use Rattle.core_state.specs.Reads.{open_end_in}
use Rattle.core_state.specs.Shown.{Shows}
use Rattle.core_state.proofs.lists.ByNumber.{mixed_sorted}
use Rattle.core_state.proofs.lists.Reorderings.{In-mixed_back}
use Rattle.core_state.proofs.views.Held.{mixed_held}
use Rattle.core_state.proofs.views.Readings.{readings_are}

module _ (s : State) (history : List Entry) (shows : Shows s history) (client : ℕ) where
  -- the timeline of the history that the state shows
  abbrev marks : Timeline
  marks = timeline s.pool history

  -- the state shows a legal history, so the timeline grows from no marks
  grown : Grows s.pool s.limits [] (timeline s.pool history)
  grown = legal_grows s.pool s.limits history shows.legal

  -- which ends the client holds
  pub holds_read : (key : NodeKey) → holds_end (readings_of s) client key ≡ holds_end (readings (timeline s.pool history)) client key
  holds_read key = ap (λ (r : Readings). holds_end r client key) (readings_are s marks shows.shown s.limits grown)

  -- each of them is that of a kept node
  pub holds_among : HoldsAmong client (all_nodes s.forest) (timeline s.pool history)
  holds_among key h =
      sym (is_some-find (is_of key) (all_nodes s.forest)) ∙ there (node_at s.forest key) (holds_read key ∙ h)
    where
      there : (o : Option Node) → option_map_or (λ (e : OpenEnd). e.holder == client && not e.in_transit)
          (option_and_then (open_end_in s) o) false ≡ true → is_some o ≡ true
      there None k = cc
      there (Some n) k = refl

  -- a client with an open handle has joined
  has_joined_if : (buffer : BufferName) (strength : Strength) → 0 < open_of (timeline s.pool history) client buffer strength →
      has_joined (timeline s.pool history) client ≡ true
  has_joined_if buffer strength some = elim (either_way (has_joined marks client)) [
    | inl joined ↦ joined
    | inr stranger ↦
        let none : open_of marks client buffer strength ≡ 0 =
        stranger_has_none s.pool s.limits marks grown client buffer strength stranger in
        absurd (omega (arith, none, some))
  ]

  -- a buffer on which it has one is not home
  not_home : (buffer : BufferName) (strength : Strength) → 0 < open_of (timeline s.pool history) client buffer strength →
      home (timeline s.pool history) buffer ≡ false
  not_home buffer strength some = false_if (home marks buffer) (λ h. absurd (from strength some
      (client-le-total marks (counted s.pool s.limits marks grown) client buffer strength (has_joined_if buffer strength some)) h))
    where
      from : (strength : Strength) → 0 < open_of (timeline s.pool history) client buffer strength →
          open_of (timeline s.pool history) client buffer strength ≤ open_total (timeline s.pool history) buffer strength →
          home (timeline s.pool history) buffer ≡ true → ⊥
      from Strong some few h =
          let d : IsDoomed marks buffer = doomed_parts marks buffer (and_left (doomed marks buffer) _ h) in
          let none : open_total marks buffer Strength.Strong ≡ 0 = d.none_open in
          omega (arith, some, few, none)
      from Weak some few h =
          let none : open_total marks buffer Strength.Weak ≡ 0 =
          eqb-true (open_total marks buffer Strength.Weak) 0 (and_right (doomed marks buffer) _ h) in
          omega (arith, some, few, none)

  -- so it is a held one
  pub has_among : HasAmong client (held_by_page s.forest) (timeline s.pool history)
  has_among buffer strength some =
      let names : list_any (λ name. same_buffer name buffer) (buffer_names marks buffer.collection) ≡ true =
      has_named s.pool s.limits marks grown client buffer strength some in
      let away : not (home marks buffer) ≡ true = ap not (not_home buffer strength some) in
      let there : list_any (λ (h : HeldBuffer). same_buffer h.buffer buffer) (held s.pool marks) ≡ true =
      stands_held s.pool s.limits marks grown buffer ∙ and_both _ (not (home marks buffer)) names away in
      let one = In-list_any (λ (h : HeldBuffer). same_buffer h.buffer buffer) (held s.pool marks) there in
      let kept = In-mixed_back (held s.pool marks) (all_held s.forest) one.0 (mixed_held s marks shows.shown s.limits grown) one.1 in
      In-any (λ (h : HeldBuffer). same_buffer h.buffer buffer) (held_by_page s.forest) one.0
      (In-mixed_back (all_held s.forest) (held_by_page s.forest) one.0
      (mixed_sorted (λ (h : HeldBuffer). h.pages.start) (all_held s.forest)) kept) one.2

-- a client that has vanished, as the history tells, has vanished as the state reads
pub as_read : (s : State) (history : List Entry) (shows : Shows s history) (client : ℕ) →
    HasVanished (readings (timeline s.pool history)) client → HasVanished (readings_of s) client
as_read s history shows client v =
    let same = readings_are s (timeline s.pool history) shows.shown s.limits (legal_grows s.pool s.limits history shows.legal) in
    record {
      shut = ap (λ (r : Readings). r.is_shut client) same ∙ v.shut;
      parcels = ap (λ (r : Readings). r.waiting client) same ∙ v.parcels;
      ends = λ key. holds_read s history shows client key ∙ v.ends key;
      handles = λ buffer strength. ap (λ (r : Readings). r.open_of client buffer strength) same ∙ v.handles buffer strength;
    }
