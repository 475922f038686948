-- The nodes that fall by an event, and those at which failures began, are nodes that the core gave keys.
use Rattle.alike_plays.proofs.Common.{Allocated, Bool, Called, Change, Collection, Ended, Fault, GoneNode, Handles, In, In-append}
use Rattle.alike_plays.proofs.Common.{In-filter, In-find, In-map, Interval, KnownGone, List, Loss, Mark, Node, NodeKey, None, Option}
use Rattle.alike_plays.proofs.Common.{SettlesBy, Some, [], after_loss, ap, both_ways, changed, cond, end_told, fall_told, falls_at}
use Rattle.alike_plays.proofs.Common.{falls_by, false, filter, flat_map, inl, inr, is_birth, is_under, made, map, member_of, none_or_some}
use Rattle.alike_plays.proofs.Common.{not, option_map_or, own_stage, refl, same_key-true, some-injective, stages, subst, sym, true, ℕ}
use Rattle.alike_plays.proofs.Common.{◌&&◌, ◌++◌, ◌∙◌, ◌∷◌, ◌≡◌, ◌⊎◌}
use Rattle.sm_names.specs.Changes.{highest}
use Rattle.sm_names.proofs.SamenessLaws.{and_left}
use Rattle.forest_store.specs.declared.change.Effect.{Effect}
use Rattle.forest_store.specs.Nodes.{affected, ended, given_buffers, is_of, is_taken, lost, members_of, new_child, node_of}
use Rattle.forest_store.specs.Settling.{is_root_of}

module _ (Key : NodeKey → Type 0) where
  -- the key of the node, and that of the node at which its failure began
  pub record KnownNode (n : Node) : Type 0 where
    pub key : Key n.key
    pub fault : (f : Fault) → n.fault ≡ Some f → Key f.origin

  -- of all of these
  abbrev pub AllKnown : List Node → Type 0
  AllKnown nodes = (n : Node) → In n nodes → KnownNode n

  -- Node by node, where each keeps its key and its fault.
  map_known : (f : Node → Node) → ((n : Node) → (f n).key ≡ n.key) → ((n : Node) → (f n).fault ≡ n.fault) → (nodes : List Node) →
      AllKnown nodes → AllKnown (map f nodes)
  map_known f keys faults nodes known n there =
      let m = In-map f nodes n there in
      let old = known m.0 m.1 in
      record {
        key = subst Key (sym (ap (λ (x : Node). x.key) m.2 ∙ keys m.0)) old.key;
        fault = λ g is. old.fault g (sym (faults m.0) ∙ (sym (ap (λ (x : Node). x.fault) m.2) ∙ is));
      }

  -- A loss takes nodes only if its origin is among them.
  origin_known : (nodes : List Node) (origin : NodeKey) (n : Node) → AllKnown nodes → is_taken nodes origin n ≡ true → Key origin
  origin_known nodes origin n known taken = by (none_or_some (node_of nodes origin))
    where
      -- by whether it is
      by : (node_of nodes origin ≡ None) ⊎ ((x : Node) × (node_of nodes origin ≡ Some x)) → Key origin
      by (inl none) = both_ways (is_taken nodes origin n) taken (ap (λ (o : Option Node). option_map_or
          (λ (x : Node). is_under (highest (members_of nodes) (member_of nodes x)) (member_of nodes n)) o false) none)
      by (inr found) =
          let at = In-find (is_of origin) nodes found.0 found.1 in
          subst Key (same_key-true found.0.key origin at.1) (known found.0 at.0).key

  -- Node by node: it has the new fault, or its own.
  loss_known : (fault : Fault) (nodes : List Node) → AllKnown nodes → AllKnown (after_loss fault nodes)
  loss_known fault nodes known n there =
      let m = In-map (lost (is_taken nodes fault.origin) fault) nodes n there in
      let old = known m.0 m.1 in
      record {
        key = subst (λ (x : Node). Key x.key) (sym m.2) old.key;
        fault = λ g is. by m.0 old.fault (is_taken nodes fault.origin m.0 && not m.0.gone) refl g (sym (ap (λ (x : Node). x.fault) m.2) ∙ is);
      }
    where
      -- by whether it is taken now
      by : (m : Node) → ((f : Fault) → m.fault ≡ Some f → Key f.origin) → (b : Bool) →
          is_taken nodes fault.origin m && not m.gone ≡ b → (f : Fault) → cond b (Some fault) m.fault ≡ Some f → Key f.origin
      by m old true taken f is = subst (λ (x : Fault). Key x.origin) (some-injective fault f is)
          (origin_known nodes fault.origin m known (and_left (is_taken nodes fault.origin m) (not m.gone) taken))
      by m old false other f is = old f is

  -- By the mark.
  made_known : (pool : ℕ) (others : List Interval) (mark : Mark) (c : Collection) → AllKnown c.nodes →
      AllKnown (made pool others mark c).nodes
  made_known pool others (Called client reply call) c known = known
  made_known pool others (Loss origin cause) c known = loss_known (record { cause = cause; origin = origin }) c.nodes known
  made_known pool others (Ended top) c known = map_known (ended c.nodes top) (λ n. refl) (λ n. refl) c.nodes known
  made_known pool others (Allocated head) c known = by (is_root_of c head) refl
    where
      -- by cases: buffers are laid out or not
      by : (b : Bool) → is_root_of c head ≡ b → AllKnown (made pool others (Allocated head) c).nodes
      by true root = rw root (map_known (given_buffers head) (λ n. refl) (λ n. refl) c.nodes known)
      by false other = rw other (map_known (given_buffers head) (λ n. refl) (λ n. refl) c.nodes known)

  -- One more.
  more_known : (nodes : List Node) (x : Node) → Key x.key → x.fault ≡ None → AllKnown nodes → AllKnown (nodes ++ x ∷ [])
  more_known nodes x key none known n there = elim (In-append nodes (x ∷ []) n there) [
    | inl old ↦ known n old
    | inr (inl is) ↦ record {
      key = subst (λ (y : Node). Key y.key) (sym is) key;
      fault = λ f has. let no : None ≡ Some f = sym none ∙ (sym (ap (λ (y : Node). y.fault) is) ∙ has) in cc;
    }
    | inr (inr other) ↦ absurd other
  ]

  -- By the change: a birth adds a node with the new key.
  pub changed_known : (change : Change) (key : NodeKey) (c : Collection) → (is_birth change ≡ true → Key key) → AllKnown c.nodes →
      AllKnown (changed change key c).nodes
  changed_known (Change.Birth None attached client event) key c new known = more_known c.nodes _ (new refl) refl known
  changed_known (Change.Birth (Some above) attached client event) key c new known = by (node_of c.nodes above)
    where
      -- by cases on the parent
      by : (o : Option Node) →
          AllKnown (option_map_or (λ n. record c { nodes = c.nodes ++ new_child attached key event client n ∷ [] }) o c).nodes
      by None = known
      by (Some n) = more_known c.nodes (new_child attached key event client n) (new refl) refl known
  changed_known (Change.Effect on effect) key c new known =
      map_known (affected on effect) (its_key effect) (its_fault effect) c.nodes known
    where
      -- by the effect: it leaves the key
      its_key : (e : Effect) (n : Node) → (affected on e n).key ≡ n.key
      its_key Effect.Bound n = refl
      its_key _ n = refl

      -- and the fault
      its_fault : (e : Effect) (n : Node) → (affected on e n).fault ≡ n.fault
      its_fault Effect.Bound n = refl
      its_fault _ n = refl
  changed_known (Change.Loss origin cause) key c new known = loss_known (record { cause = cause; origin = origin }) c.nodes known
  changed_known Change.Nothing key c new known = known

  -- ---- nodes that fall

  -- By the mark.
  falls_known : (mark : Mark) (nodes : List Node) → AllKnown nodes → (g : GoneNode) → In g (falls_by mark nodes) → KnownGone Key g
  falls_known (Loss origin cause) nodes known g there =
      let fault : Fault = record { cause = cause; origin = origin } in
      let m = In-map fall_told (filter (λ (n : Node). n.gone) (after_loss fault nodes)) g there in
      let old = loss_known fault nodes known m.0 (In-filter (λ (n : Node). n.gone) (after_loss fault nodes) m.0 m.1).0 in
      subst (KnownGone Key) (sym m.2) (record { key = old.key; origin = old.fault })
  falls_known (Ended top) nodes known g there =
      let m = In-map end_told (filter _ nodes) g there in
      subst (KnownGone Key) (sym m.2) (record { key = (known m.0 (In-filter _ nodes m.0 m.1).0).key; origin = λ f is. cc })
  falls_known (Allocated head) nodes known g there = absurd there
  falls_known (Called client reply call) nodes known g there = absurd there

  -- Mark by mark.
  pub settles_known : (pool : ℕ) (handles : Handles) (others : List Interval) (c last : Collection) (marks : List Mark) →
      AllKnown c.nodes → SettlesBy pool handles others c marks last → (g : GoneNode) →
      In g (flat_map falls_at (stages pool others c marks)) → KnownGone Key g
  settles_known pool handles others c _ _ known (SettlesBy.Rests _ none) g there = absurd there
  settles_known pool handles others c _ _ known (SettlesBy.Forces _ last mark marks some next) g there =
      elim (In-append (falls_by mark c.nodes) (flat_map falls_at (stages pool others (made pool others mark c) marks)) g there) [
        | inl now ↦ falls_known mark c.nodes known g now
        | inr on ↦ settles_known pool handles others (made pool others mark c) last marks (made_known pool others mark c known) next g on
      ]

  -- By the change: only a loss is a mark.
  pub own_known : (change : Change) (c : Collection) → AllKnown c.nodes → (g : GoneNode) →
      In g (flat_map falls_at (own_stage change c)) → KnownGone Key g
  own_known (Change.Birth parent attached client event) c known g there = absurd there
  own_known (Change.Effect on effect) c known g there = absurd there
  own_known (Change.Loss origin cause) c known g there =
      elim (In-append (falls_by (Loss origin cause) c.nodes) [] g there) [
        | inl now ↦ falls_known (Loss origin cause) c.nodes known g now
        | inr none ↦ absurd none
      ]
  own_known Change.Nothing c known g there = absurd there
