-- Which nodes are seen as live, and how others failed.
use Rattle.core_state.proofs.Common.{Birth, Bool, Bound, Call, Called, Grows, In, In-reverse, In-was_born, IsAfter, List, Mark, Node}
use Rattle.core_state.proofs.Common.{NodeKey, None, Option, Reply, Some, State, Timeline, [], ap, arith, birth_at, birth_is, birth_of}
use Rattle.core_state.proofs.Common.{births, both_ways, cond, cons_option, events, false, false≢true, fault, fault_gone, fault_in, filter}
use Rattle.core_state.proofs.Common.{filter-In, gone, inl, inr, is_event, is_kept, is_live_in, is_some, is_some-find, live, live_keys}
use Rattle.core_state.proofs.Common.{live_nodes, map, map-map, node_after, node_at, none_or_some, not, option_map_or, ordered, refl}
use Rattle.core_state.proofs.Common.{released, reverse, same_key, sorted_by, spent, sym, true, was_born, ℕ, ◌&&◌, ◌+◌, ◌||◌, ◌∙◌, ◌∷◌}
use Rattle.core_state.proofs.Common.{◌≡◌, ◌≤◌}
use Rattle.history_laws.proofs.GoneLaws.{live_born, not_live}
use Rattle.history_laws.proofs.LifeLaws.{In_new}
use Rattle.core_state.proofs.lists.Sorted.{sorted_by-map}
use Rattle.core_state.proofs.lists.Maps.{filter-map, filter-filter, filter-reverse}
use Rattle.core_state.proofs.lists.Reorderings.{Mixed, mixed_filter}
use Rattle.core_state.proofs.views.Nodes.{kept_births, kept_by_collection, all_nodes_are, mixed_births, node_kept, node_forgotten}
use Rattle.core_state.proofs.views.Nodes.{node_unknown}
use Rattle.core_state.proofs.lists.ByNumber.{AreFalling, falling_filter, falling_numbered, sorted_falling, sorted-mixed}

-- ---- births come one after another

-- the birth at a mark is of the event that it is given
event_of_birth : (event : ℕ) (mark : Mark) (b : Birth) → birth_at event mark ≡ Some b → (b.event ≡ event) × (is_event mark ≡ true)
event_of_birth event (Called client (Reply.Token key collection) Call.OpenRoot) b e =
    (ap (λ (o : Option Birth). option_map_or (λ (x : Birth). x.event) o event) (sym e), refl)
event_of_birth event (Called client (Reply.Token key collection) (Call.Duplicate parent)) b e =
    (ap (λ (o : Option Birth). option_map_or (λ (x : Birth). x.event) o event) (sym e), refl)
event_of_birth event (Called client (Reply.Token key collection) (Call.AttachToken parent)) b e =
    (ap (λ (o : Option Birth). option_map_or (λ (x : Birth). x.event) o event) (sym e), refl)
event_of_birth event _ b e = absurd (false≢true (ap is_some e))

-- no birth is of an event to come
birth_early : (marks : Timeline) (b : Birth) → In b (births marks) → b.event ≤ events marks
birth_early [] b on = absurd on
birth_early (mark ∷ before) b on =
    elim (In_new (birth_at (events before + 1) mark) (births before) b on) [
      | inl e ↦ let r = event_of_birth (events before + 1) mark b e in rw r.1 (omega (arith, r.0))
      | inr there ↦
          let early : b.event ≤ events before = birth_early before b there in
          elim (is_event mark) as (λ (is : Bool). b.event ≤ cond is (events before + 1) (events before))
          [ true ↦ omega arith | false ↦ early ]
    ]

-- so the events of births fall, from the newest on
pub births_fall : (marks : Timeline) → AreFalling (λ (b : Birth). b.event) (births marks)
births_fall [] = tt
births_fall (mark ∷ before) = from (births_fall before) (birth_at (events before + 1) mark) refl
  where
    -- by cases: the newest birth is of this event, and the others are older
    from : AreFalling (λ (b : Birth). b.event) (births before) → (o : Option Birth) → birth_at (events before + 1) mark ≡ o →
        AreFalling (λ (b : Birth). b.event) (cons_option o (births before))
    from old None e = old
    from old (Some b) e =
        let is : b.event ≡ events before + 1 = (event_of_birth (events before + 1) mark b e).0 in
        ((λ c on. let early : c.event ≤ events before = birth_early before c on in omega arith), old)

-- ---- the live nodes

-- the node is neither gone nor released
abbrev pub is_here : Timeline → Birth → Bool
is_here marks b = not (gone marks b.node) && not (released marks b.node)

module _ (s : State) (marks : Timeline) (shown : IsAfter s marks) (limits : Bound) (grown : Grows s.pool limits [] marks) where
  -- a node is live in the state exactly if it is live
  pub live_is : (key : NodeKey) → is_live_in s key ≡ live marks key
  live_is key = from (birth_of marks key) (is_kept marks key) refl refl
    where
      -- the two tests agree, whether the node is unborn, kept or forgotten
      from : (o : Option Birth) (k : Bool) → birth_of marks key ≡ o → is_kept marks key ≡ k →
          option_map_or (λ (n : Node). not n.gone && not n.released) (node_at s.forest key) false ≡ live marks key
      from None k e h = rw (node_unknown s marks shown limits grown key e, e) refl
      from (Some b) true e h =
          let here = birth_is marks key b e in
          rw (node_kept s marks shown limits grown key b e h, here.1, e) refl
      from (Some b) false e h =
          rw (node_forgotten s marks shown limits grown key h) (sym (not_live marks key (gone_of (gone marks key) (spent marks key) h)))
        where
          gone_of : (g s : Bool) → (not g || not s) ≡ false → g ≡ true
          gone_of true s h = refl
          gone_of false s h = cc

  -- a kept node is seen with the fault by which it failed
  pub fault_is : (key : NodeKey) → fault_in s key ≡ cond (is_kept marks key) (fault marks key) None
  fault_is key = from (birth_of marks key) (is_kept marks key) refl refl
    where
      unborn : birth_of marks key ≡ None → fault marks key ≡ None
      unborn e = elim (none_or_some (fault marks key)) [
        | inl none ↦ none
        | inr some ↦
            let born : was_born (births marks) key ≡ true =
            (ordered s.pool limits marks grown).gone_born key (fault_gone marks key some.0 some.1) in
            let not_born : was_born (births marks) key ≡ false =
            sym (is_some-find (λ (b : Birth). same_key b.node key) (births marks)) ∙ ap is_some e in
            both_ways (was_born (births marks) key) born not_born
      ]

      from : (o : Option Birth) (k : Bool) → birth_of marks key ≡ o → is_kept marks key ≡ k →
          option_map_or (λ (n : Node). n.fault) (node_at s.forest key) None ≡ cond (is_kept marks key) (fault marks key) None
      from None true e h = rw (node_unknown s marks shown limits grown key e, h) (sym (unborn e))
      from None false e h = rw (node_unknown s marks shown limits grown key e, h) refl
      from (Some b) true e h =
          let here = birth_is marks key b e in
          rw (node_kept s marks shown limits grown key b e h, here.1, h) refl
      from (Some b) false e h = rw (node_forgotten s marks shown limits grown key h, h) refl

  -- the live births are kept
  live_kept : filter (is_here marks) (kept_births marks) ≡ filter (is_here marks) (births marks)
  live_kept =
      filter-filter (is_here marks) (λ (b : Birth). is_kept marks b.node) (births marks)
      ∙ filter-In (λ (b : Birth). is_kept marks b.node && is_here marks b) (is_here marks) (births marks) (λ b on.
      both (gone marks b.node) (spent marks b.node) (released marks b.node))
    where
      both : (g s r : Bool) → ((not g || not s) && (not g && not r)) ≡ (not g && not r)
      both true true r = refl
      both true false r = refl
      both false s r = refl

  -- and those of nodes that are live
  live_births : filter (is_here marks) (reverse (births marks)) ≡ filter (λ (b : Birth). live marks b.node) (reverse (births marks))
  live_births = filter-In (is_here marks) (λ (b : Birth). live marks b.node) (reverse (births marks))
      (λ b on. sym (live_born marks b.node (In-was_born (births marks) b (In-reverse (births marks) b on))))

  -- sorted by event they stand in the order of birth
  sorted_births : sorted_by (λ (b : Birth). b.event) (filter (is_here marks) (kept_by_collection marks)) ≡ filter (λ (b : Birth).
      live marks b.node) (reverse (births marks))
  sorted_births =
      let here : List Birth = filter (is_here marks) (births marks) in
      let falls : AreFalling (λ (b : Birth). b.event) here =
      falling_filter (λ (b : Birth). b.event) (is_here marks) (births marks) (births_fall marks) in
      let numbered = falling_numbered (λ (b : Birth). b.event) here falls in
      let mixed : Mixed here (filter (is_here marks) (kept_by_collection marks)) =
      rw (← live_kept) (mixed_filter (is_here marks) (kept_births marks) (kept_by_collection marks) (mixed_births s marks shown limits
      grown)) in
      sorted-mixed (λ (b : Birth). b.event) here (filter (is_here marks) (kept_by_collection marks)) mixed numbered
      ∙ (sorted_falling (λ (b : Birth). b.event) here falls ∙ (sym (filter-reverse (is_here marks) (births marks)) ∙ live_births))

  -- so the live nodes of the state are those of the marks, by birth
  pub live_keys_are : live_keys s.forest ≡ live_nodes marks
  live_keys_are =
      let of_live : Node → Bool = λ (n : Node). not n.gone && not n.released in
      ap (λ (nodes : List Node). map (λ (n : Node). n.key) (sorted_by (λ (n : Node). n.event) (filter of_live nodes)))
      (all_nodes_are s marks shown)
      ∙ (ap (λ (nodes : List Node). map (λ (n : Node). n.key) (sorted_by (λ (n : Node). n.event) nodes))
      (filter-map of_live (node_after marks) (kept_by_collection marks))
      ∙ (ap (map (λ (n : Node). n.key)) (sorted_by-map (λ (n : Node).
      n.event) (node_after marks) (filter (is_here marks) (kept_by_collection marks)))
      ∙ (map-map (λ (n : Node). n.key) (node_after marks) (sorted_by (λ (b : Birth).
      b.event) (filter (is_here marks) (kept_by_collection marks)))
      ∙ ap (map (λ (b : Birth). b.node)) sorted_births)))
