-- What is told of the nodes that the marks of a collection take.
use Rattle.fate_laws.proofs.Common.{Birth, Bool, Bound, Cause, Collection, Counts, End, Ended, Fault, GoneNode, Grows, Interval, List}
use Rattle.fate_laws.proofs.Common.{Loss, Mark, Matches, Node, NodeKey, None, Option, Some, Timeline, [], ap, append-nil, append_assoc}
use Rattle.fate_laws.proofs.Common.{birth_is, birth_of, births, both_ways, collection_in, cond, counts_on, either_way, eqb-true, falls_at}
use Rattle.fate_laws.proofs.Common.{falls_by, false, fault, fault_fallen, filter, flat_map, gone, inl, inr, laid_on, list_any, map}
use Rattle.fate_laws.proofs.Common.{map-Some, node_after, not, option_map_or, placed_in, refl, same_key, stages, subst, sym, true, whole}
use Rattle.fate_laws.proofs.Common.{ℕ, ◌&&◌, ◌++◌, ◌∙◌, ◌∷◌, ◌≡◌}
use Rattle.std.proofs.Common.{reverse}
use Rattle.sm_names.specs.Births.{is_at_or_below}
use Rattle.sm_names.specs.Forced.{forced}
use Rattle.sm_names.specs.Losses.{reaches}
use Rattle.sm_names.specs.Members.{births_in, is_under}
use Rattle.sm_names.specs.Timelines.{next_forced}
use Rattle.sm_names.proofs.ListLaws.{In, In-any, In-filter, In-filter-back, In-map, filter-In, map-map}
use Rattle.sm_names.proofs.SamenessLaws.{same_key-refl, or_first, none_or_some}
use Rattle.history_laws.proofs.GoneLaws.{fault_gone}
use Rattle.history_laws.proofs.GrowthLaws.{grows_forced}
use Rattle.history_laws.proofs.IsolationLaws.{of_ours, reaches_in}
use Rattle.history_laws.proofs.SettledLaws.{Why, No_live, Fails, Initial, Logical, forced_no_event, forced_why}
use Rattle.history_laws.proofs.WholeLaws.{IsWhole, line_collection}
use Rattle.forest_store.specs.Nodes.{above_among, after_loss}
use Rattle.forest_store.specs.Settling.{Handles, made}
use Rattle.core_state.proofs.ends.NotRead.{placed_node, placed_nodes, lost_placed, made_placed, standing_placed}
use Rattle.core_state.proofs.forced.ForcedStep.{step_matches}
use Rattle.core_state.proofs.lists.Maps.{filter-map, map-reverse}
use Rattle.core_state.proofs.nodes.Ancestors.{Keeps, kept_in, nodes_kept, kept_births}
use Rattle.core_state.proofs.nodes.Marks.{nodes_lost}
use Rattle.core_state.proofs.nodes.Members.{in_order, member_kept, of_collection}
use Rattle.core_state.proofs.theorem.Follows.{forced_matches}
use Rattle.event_facts.specs.Facts.{is_lost_with}
use Rattle.forced_marks.specs.Marks.{SettlesBy, Rests, Forces}
use Rattle.actor_plays.specs.Fates.{end_told, fall_told}
use Rattle.fate_laws.proofs.Fell.{AreToldOf, fell, told_of_births, told_on}

-- wherever ends are, the line above a node is the same
above_placed : (place : NodeKey → End → End) (ns : List Node) (key : NodeKey) →
    above_among (placed_nodes place ns) key ≡ above_among ns key
above_placed place [] key = refl
above_placed place (n ∷ older) key =
    λ i. cond (same_key n.key key) (up n.parent (above_placed place older) i) (above_placed place older key i)
  where
    -- the parent's line
    up : (o : Option NodeKey) → ((p : NodeKey) → above_among (placed_nodes place older) p ≡ above_among older p) →
        option_map_or (λ p. p ∷ above_among (placed_nodes place older) p) o [] ≡ option_map_or (λ p. p ∷ above_among older p) o []
    up None on = refl
    up (Some p) on = ap (λ (l : List NodeKey). p ∷ l) (on p)

-- ---- one mark of a collection, of whose nodes these are kept

module _ (keep : NodeKey → Bool) (place : NodeKey → End → End) (id : ℕ) (marks : Timeline) (w : IsWhole marks) where
  -- the births of the collection that are kept
  abbrev bs : List Birth
  bs = kept_in keep marks id

  -- one of them is the node's
  abbrev is_listed : NodeKey → Bool
  is_listed key = list_any (λ (b : Birth). same_key b.node key) bs

  -- that of a kept node of the collection is
  listed : (key : NodeKey) → collection_in (births marks) key ≡ Some id → keep key ≡ true → is_listed key ≡ true
  listed key of kept =
      let t = map-Some (λ (b : Birth). b.collection) (birth_of marks key) id of in
      let b : Birth = t.0 in
      let there = birth_is marks key b t.1 in
      In-any (λ (b : Birth). same_key b.node key) bs b
      (In-filter-back (λ (x : Birth). keep x.node) (births_in marks id) b (in_order marks id b there.0 t.2) (ap keep there.1 ∙ kept))
      (ap (λ (k : NodeKey). same_key k key) there.1 ∙ same_key-refl key)

  -- what does not pass is not told
  nothing : (x : Bool) (o : Option (Option Fault)) → cond (x && false) o None ≡ None
  nothing true o = refl
  nothing false o = refl

  -- a loss
  pub lost_told : (origin : NodeKey) (cause : Cause) (ns : List Node) → ((key : NodeKey) → gone marks key ≡ false → keep key ≡ true) →
      collection_in (births marks) origin ≡ Some id →
      placed_nodes place (after_loss (record { cause = cause; origin = origin }) ns) ≡ nodes_kept keep (Loss origin cause ∷ marks) id →
      (key : NodeKey) → gone marks key ≡ false →
      fault_fallen (falls_by (Loss origin cause) ns) key ≡ fell (Loss origin cause ∷ marks) key
  lost_told origin cause ns keeps of are key here =
      ap (λ (l : List GoneNode). fault_fallen l key)
      (sym (ap (map fall_told) (filter-map (λ (n : Node). n.gone) (placed_node place) fallen)
      ∙ map-map fall_told (placed_node place) (filter (λ (n : Node). n.gone) fallen))
      ∙ ap (λ (l : List Node). map fall_told (filter (λ (n : Node). n.gone) l)) (are ∙ kept_births keep later id))
      ∙ (told_of_births bs (node_after later) (λ (n : Node). n.gone) fall_told (gone later) (fault later) (λ b. refl) (λ b. refl) key
      ∙ by (gone later key) refl)
    where
      -- the marks with it
      later : Timeline
      later = Loss origin cause ∷ marks

      -- the nodes behind it
      fallen : List Node
      fallen = after_loss (record { cause = cause; origin = origin }) ns

      -- a node that it reaches is of the collection, and kept
      by : (g : Bool) → gone later key ≡ g → cond (is_listed key && gone later key) (Some (fault later key)) None ≡ fell later key
      by true e =
          let reached : reaches marks origin key ≡ true = or_first (reaches marks origin key) (gone marks key) e here in
          rw (listed key (reaches_in marks origin key w reached ∙ of) (keeps key here), e) refl
      by false e = rw e (nothing (is_listed key) (Some (fault later key)))

  -- an end
  ended_told : (top : NodeKey) (ns : List Node) → Keeps keep marks → collection_in (births marks) top ≡ Some id →
      placed_nodes place ns ≡ nodes_kept keep marks id → (key : NodeKey) → gone marks key ≡ false →
      fault_fallen (falls_by (Ended top) ns) key ≡ fell (Ended top ∷ marks) key
  ended_told top ns keeps of are key here =
      ap (λ (l : List GoneNode). fault_fallen l key) (
      ap (map end_told) (sym (λ i. filter (λ (n : Node). not n.gone && list_any (same_key top) (n.key ∷ line n.key i)) ns))
      ∙ (sym (ap (map end_told) (filter-map (is_lost_with (placed_nodes place ns) top) (placed_node place) ns)
      ∙ map-map end_told (placed_node place) (filter (λ (n : Node). is_lost_with (placed_nodes place ns) top (placed_node place n)) ns))
      ∙ (ap (λ (l : List Node). map end_told (filter (is_lost_with l top) l)) are
      ∙ (ap (map end_told) (filter-In (is_lost_with kept top) (λ (n : Node). passes n.key) kept alike)
      ∙ ap (λ (l : List Node). map end_told (filter (λ (n : Node). passes n.key) l)) (kept_births keep marks id)))))
      ∙ (told_of_births bs (node_after marks) (λ (n : Node). passes n.key) end_told passes (λ k. None) (λ b. refl) (λ b. refl) key
      ∙ by (is_at_or_below (births marks) top key) refl)
    where
      -- the marks with it
      later : Timeline
      later = Ended top ∷ marks

      -- the nodes that are kept
      kept : List Node
      kept = nodes_kept keep marks id

      -- the line above a node
      line : (k : NodeKey) → above_among (reverse (placed_nodes place ns)) k ≡ above_among (reverse ns) k
      line k = ap (λ (l : List Node). above_among l k) (sym (map-reverse (placed_node place) ns)) ∙ above_placed place (reverse ns) k

      -- the node ends
      passes : NodeKey → Bool
      passes k = not (gone marks k) && is_at_or_below (births marks) top k

      -- a kept node that is not gone is read as it stands
      alike : (n : Node) → In n kept → is_lost_with kept top n ≡ passes n.key
      alike n there =
          let r = In-map (node_after marks) bs n (subst (In n) (kept_births keep marks id) there) in
          let b : Birth = r.0 in
          let t = of_collection marks id b (In-filter (λ (x : Birth). keep x.node) (births_in marks id) b r.1).0 in
          subst (λ (x : Node). is_lost_with kept top x ≡ passes x.key) (sym r.2) (elim (either_way (gone marks b.node)) [
            | inl e ↦ rw e refl
            | inr e ↦ rw e (ap (is_under top) (member_kept keep marks id w keeps b t.0 t.1 e))
          ])

      -- a node that was not gone has no fault
      unfaulted : fault marks key ≡ None
      unfaulted = elim (none_or_some (fault marks key)) [
        | inl none ↦ none
        | inr some ↦ both_ways (gone marks key) (fault_gone marks key some.0 some.1) here
      ]

      -- a node below is of the collection, and kept
      by : (x : Bool) → is_at_or_below (births marks) top key ≡ x →
          cond (is_listed key && passes key) (Some None) None ≡ fell later key
      by true e = rw (
        listed key (line_collection (births marks) w.sound w.together top key e ∙ of) (keeps key here),
        e,
        here,
        unfaulted,
      ) refl
      by false e = rw (e, here) (nothing (is_listed key) (Some None))

-- ---- the marks that are forced

module _ (pool : ℕ) (limits : Bound) (handles : Handles) (keep : NodeKey → Bool) (place : NodeKey → End → End)
    (others : List Interval) where
  -- one of them
  forced_told : (marks : Timeline) (c : Collection) → Grows pool limits [] marks → Matches pool keep marks others (placed_in place c) →
      (mark : Mark) → next_forced pool c.id marks ≡ Some mark → (key : NodeKey) → gone marks key ≡ false →
      fault_fallen (falls_by mark c.nodes) key ≡ fell (mark ∷ marks) key
  forced_told marks c grown m mark e key here = by_why mark (forced_why pool c.id marks mark e)
    where
      -- the history hangs together
      w : IsWhole marks
      w = whole pool limits marks grown

      -- by why it is forced: an allocation takes no node
      by_why : (mark : Mark) → Why pool c.id marks mark → fault_fallen (falls_by mark c.nodes) key ≡ fell (mark ∷ marks) key
      by_why _ (No_live b on ours free none) =
          ended_told keep place c.id marks w b.node c.nodes m.keeps (of_ours marks c.id w b on ours) m.nodes key here
      by_why _ (Fails b cause on ours free) =
          let f : Fault = record { cause = cause; origin = b.node } in
          lost_told keep place c.id marks w b.node cause c.nodes m.keeps (of_ours marks c.id w b on ours)
          (sym (lost_placed place f c.nodes) ∙ (ap (after_loss f) m.nodes
          ∙ sym (nodes_lost keep marks c.id w m.keeps b on (eqb-true b.collection c.id ours) free cause))) key here
      by_why _ (Initial b on ours root free waits found fits) = rw here refl
      by_why _ (Logical b on ours child free waits attached) = rw here refl

  -- so all are
  pub settles_told : (marks : Timeline) (c : Collection) (ms : List Mark) (after : Collection) → Grows pool limits [] marks →
      Counts handles marks → Matches pool keep marks others (placed_in place c) → SettlesBy pool handles others c ms after →
      (falls : List GoneNode) → AreToldOf falls marks →
      AreToldOf (falls ++ flat_map falls_at (stages pool others c ms)) (laid_on ms marks)
  settles_told marks c _ _ grown counts m (Rests _ none) falls told =
      subst (λ (l : List GoneNode). AreToldOf l marks) (sym (append-nil falls)) told
  settles_told marks c _ _ grown counts m (Forces _ after mark ms some next) falls told =
      let forces : next_forced pool c.id marks ≡ Some mark =
      sym (forced_matches pool limits keep marks others (placed_in place c) grown m handles counts)
      ∙ (ap (forced pool) (standing_placed place handles others c) ∙ some) in
      let taken : List GoneNode = falls_by mark c.nodes in
      let on : AreToldOf ((falls ++ taken) ++ flat_map falls_at (stages pool others (made pool others mark c) ms)) (laid_on ms (mark
      ∷ marks)) =
      settles_told (mark ∷ marks) (made pool others mark c) ms after (grows_forced pool limits [] c.id marks mark grown forces)
      (counts_on handles marks mark (forced_no_event pool c.id marks mark forces) counts)
      (subst (Matches pool keep (mark ∷ marks) others) (made_placed place pool others mark c)
      (step_matches pool limits keep marks others (placed_in place c) grown m mark forces)) next (falls ++ taken)
      (told_on falls taken mark marks told (forced_told marks c grown m mark forces)) in
      subst (λ (l : List GoneNode). AreToldOf l (laid_on ms (mark ∷ marks)))
      (append_assoc falls taken (flat_map falls_at (stages pool others (made pool others mark c) ms))) on
