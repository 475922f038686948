-- How an event begins in the collection that it changes.
use Rattle.core_state.proofs.Common.{Answers, Birth, Bool, Bound, Call, Called, Cause, Change, Collection, Comes, Effect, EndPlace, Grows}
use Rattle.core_state.proofs.Common.{In, In_old, IsAfter, IsAnswer, List, Loss, Mark, Node, NodeKey, None, Option, Reply, Some, State}
use Rattle.core_state.proofs.Common.{Timeline, Work, [], affected, after_loss, ap, arith, at_node, beside, birth_at, birth_is, births}
use Rattle.core_state.proofs.Common.{changed, collection_after, collection_of, collection_or_new, cons_option, end_by, events, false}
use Rattle.core_state.proofs.Common.{fault, gone, inl, inr, is_kept, is_kept_collection, map, map-Some, map-map, map-same, new_child}
use Rattle.core_state.proofs.Common.{new_key, new_root, no_key, node_after, node_at, node_of, not, option_map_or, or_right, own_loss}
use Rattle.core_state.proofs.Common.{place_of, readings, refl, spent, subst, sym, true, unwrap_or, whole, with_nodes, ℕ, ◌++◌, ◌+◌, ◌<◌}
use Rattle.core_state.proofs.Common.{◌∙◌, ◌∷◌, ◌≡◌, ◌⊎◌}
use Rattle.forest_store.specs.Nodes.{after_effect}
use Rattle.core_state.proofs.nodes.Called.{said}
use Rattle.core_state.proofs.forced.CallStep.{matches_called, kept_answered, kept_born, homes_elsewhere, follows_placed}
use Rattle.core_state.proofs.collections.Elsewhere.{came, born_in}
use Rattle.core_state.proofs.ends.NotRead.{placed_node, placed_in, lost_placed}
use Rattle.core_state.proofs.theorem.Follows.{Matches}
use Rattle.core_state.proofs.nodes.Members.{node_found}
use Rattle.core_state.proofs.nodes.Newborn.{new_root_is, child_stands, attached_stands}
use Rattle.core_state.proofs.views.Nodes.{node_there}
use Rattle.core_state.proofs.collections.Roots.{collection_of_kept}
use Rattle.core_state.proofs.forced.Starting.{follows, there_or_new, new_or_there}
use Rattle.core_state.proofs.forced.ForcedStep.{loss_matches}
use Rattle.core_state.proofs.forced.Work.{Starts}

-- where no end is put elsewhere, all nodes stay
none_moved : (o : Option EndPlace) → o ≡ None → (ns : List Node) → map (placed_node (place_of o)) ns ≡ ns
none_moved None e ns = map-same (placed_node (place_of None)) ns (λ n on. refl)
none_moved (Some place) e ns = cc

module _ (s : State) (marks : Timeline) (shown : IsAfter s marks) (limits : Bound) (grown : Grows s.pool limits [] marks) where
  -- what is known of a node that is found
  pub record IsFound (key : NodeKey) (change : Node → Change) (work : Work) : Type 0 where
    pub birth : Birth
    pub there : In birth (births marks)
    pub is : birth.node ≡ key
    pub kept : is_kept_collection marks birth.collection ≡ true
    pub work_is : work ≡ record { collection = birth.collection; change = change (node_after marks birth) }

  -- the work on it is done in its collection
  pub at_found : (key : NodeKey) (change : Node → Change) (work : Work) → at_node s.forest key change ≡ Some work → IsFound key change work
  at_found key change work e =
      let t = map-Some (λ (n : Node). record { collection = n.collection; change = change n }) (node_at s.forest key) work e in
      let r = node_there s marks shown limits grown key t.0 t.1 in
      let on : In r.0 (births marks) = (birth_is marks key r.0 r.1).0 in
      record {
        birth = r.0;
        there = on;
        is = r.2;
        kept = collection_of_kept marks r.0 on (ap (is_kept marks) r.2 ∙ r.3);
        work_is = sym t.2 ∙ ap (λ (n : Node). record { collection = n.collection; change = change n }) r.4;
      }

  module _ (client : ℕ) (reply : Reply) (call : Call) (answer : IsAnswer limits (readings marks) client call reply) where
    -- the marks with that of the call
    abbrev called : Timeline
    called = Called client reply call ∷ marks

    -- the collection of the call has a node that was born, and is kept
    module _ (b : Birth) (on : In b (births marks)) (of : collection_of (Called client reply call ∷ marks) call reply ≡ Some b.collection)
        (kept : is_kept_collection marks b.collection ≡ true) where
      -- its birth is among those after the call
      born_still : In b (births (Called client reply call ∷ marks))
      born_still = In_old (birth_at (events marks + 1) (Called client reply call)) (births marks) b on

      -- it was there
      there_now : collection_or_new s.forest b.collection ≡ collection_after s.pool marks b.collection
      there_now = there_or_new s marks shown limits grown b.collection kept

      -- the call takes effect on one of its nodes
      pub effect_starts : (key : NodeKey) (effect : Effect) → ((n : Node) → said call reply n ≡ affected key effect n) →
          own_loss marks call reply ≡ None → birth_at 0 (Called client reply call) ≡ None →
          Starts s marks shown limits grown client reply call answer
          (record { collection = b.collection; change = Change.Effect key effect })
      effect_starts key effect says no_loss none =
          let place = place_of (end_by client call reply) in
          let c : Collection = collection_after s.pool marks b.collection in
          let homes = homes_elsewhere s marks shown limits grown client reply call answer b.collection of in
          record {
            of = of;
            birth = b;
            born = born_still;
            ours = refl;
            start = with_nodes (after_effect key effect) c;
            start_is = ap (with_nodes (after_effect key effect)) there_now;
            same_id = refl;
            begins = subst (λ (o : Option Mark). Matches s.pool (is_kept marks) (cons_option o called) (beside s.forest b.collection)
                (placed_in place (with_nodes (after_effect key effect) c))) (sym no_loss)
                (matches_called s marks shown limits grown client reply call answer b.collection homes
                (map (placed_node place) (map (affected key effect) c.nodes))
                (map-map (placed_node place) (affected key effect) c.nodes
                ∙ ((λ i. map (λ n. placed_node place (sym (says n) i)) c.nodes)
                ∙ kept_answered s marks shown limits grown client reply call answer none b.collection)));
          }

      module _ (none : birth_at 0 (Called client reply call) ≡ None) (nothing : (n : Node) → said call reply n ≡ n) where
        -- the nodes stay as they were, but for an end
        follows_so : Matches s.pool (is_kept marks) (Called client reply call ∷ marks) (beside s.forest b.collection)
            (placed_in (place_of (end_by client call reply)) (collection_after s.pool marks b.collection))
        follows_so = follows_placed s marks shown limits grown client reply call answer none nothing b.collection
            (homes_elsewhere s marks shown limits grown client reply call answer b.collection of)

        -- the call loses the node
        pub loss_starts : (cause : Cause) → gone marks b.node ≡ false → own_loss marks call reply ≡ Some (Loss b.node cause) →
            Starts s marks shown limits grown client reply call answer
            (record { collection = b.collection; change = Change.Loss b.node cause })
        loss_starts cause free loss =
            let place = place_of (end_by client call reply) in
            let c : Collection = collection_after s.pool marks b.collection in
            let before : Collection = placed_in place c in
            let others = beside s.forest b.collection in
            let grown_called : Grows s.pool limits [] called = Answers marks client reply call grown answer in
            let lost : Matches s.pool (is_kept marks) (Loss b.node cause ∷ called) others
            (with_nodes (after_loss (record { cause = cause; origin = b.node })) before) =
            loss_matches s.pool limits (is_kept marks) called others before grown_called follows_so b born_still refl free cause in
            let after : Collection = with_nodes (after_loss (record { cause = cause; origin = b.node })) c in
            let same : with_nodes (after_loss (record { cause = cause; origin = b.node })) before ≡ placed_in place after =
            λ i. record c { nodes = lost_placed place (record { cause = cause; origin = b.node }) c.nodes i } in
            record {
              of = of;
              birth = b;
              born = born_still;
              ours = refl;
              start = after;
              start_is = ap (with_nodes (after_loss (record { cause = cause; origin = b.node }))) there_now;
              same_id = refl;
              begins = subst (λ (o : Option Mark). Matches s.pool (is_kept marks) (cons_option o called) others (placed_in place after))
                  (sym loss)
                  (subst (λ (d : Collection). Matches s.pool (is_kept marks) (Loss b.node cause ∷ called) others d) same lost);
            }

        -- the call changes no node, but for an end
        pub nothing_starts : own_loss marks call reply ≡ None →
            Starts s marks shown limits grown client reply call answer (record { collection = b.collection; change = Change.Nothing })
        nothing_starts no_loss = record {
          of = of;
          birth = b;
          born = born_still;
          ours = refl;
          start = collection_after s.pool marks b.collection;
          start_is = there_now;
          same_id = refl;
          begins = subst
              (λ (o : Option Mark). Matches s.pool (is_kept marks) (cons_option o called) (beside s.forest b.collection)
              (placed_in (place_of (end_by client call reply)) (collection_after s.pool marks b.collection)))
              (sym no_loss) follows_so;
        }

    -- a birth
    born_starts : (b : Birth) → birth_at (events marks + 1) (Called client reply call) ≡ Some b → end_by client call reply ≡ None →
        own_loss marks call reply ≡ None → (change : Change) →
        changed change (unwrap_or (new_key reply) no_key) (collection_or_new s.forest b.collection)
        ≡ record (collection_after s.pool marks
        b.collection) {
          nodes =
              (collection_after s.pool marks b.collection).nodes ++ node_after (Called client reply call ∷ marks) b ∷ [];
        } →
        Starts s marks shown limits grown client reply call answer (record { collection = b.collection; change = change })
    born_starts b born stays no_loss change start_is =
        let of : collection_of called call reply ≡ Some b.collection = born_in s.pool limits marks grown client reply call answer b born in
        let homes = homes_elsewhere s marks shown limits grown client reply call answer b.collection of in
        let c : Collection = collection_after s.pool marks b.collection in
        let ns : List Node = c.nodes ++ node_after called b ∷ [] in
        let place = place_of (end_by client call reply) in
        record {
          of = of;
          birth = b;
          born = subst (λ (o : Option Birth). In b (cons_option o (births marks))) (sym born) (inl refl);
          ours = refl;
          start = record c { nodes = ns };
          start_is = start_is;
          same_id = refl;
          begins = subst (λ (o : Option Mark). Matches s.pool (is_kept marks) (cons_option o called) (beside s.forest b.collection)
              (placed_in place (record c { nodes = ns }))) (sym no_loss)
              (matches_called s marks shown limits grown client reply call answer b.collection homes (map (placed_node place) ns)
              (none_moved (end_by client call reply) stays ns ∙ kept_born s marks shown limits grown client reply call answer b born));
        }

  -- the birth of a root
  abbrev root_birth : ℕ → NodeKey → ℕ → Birth
  root_birth client key collection =
      record { node = key; parent = None; attached = false; collection = collection; event = events marks + 1; client = client }

  -- a root is born
  pub root_starts : (client : ℕ) (key : NodeKey) (collection : ℕ) (answer : IsAnswer limits (readings marks) client Call.OpenRoot
      (Reply.Token key collection)) →
      Starts s marks shown limits grown client (Reply.Token key collection) Call.OpenRoot answer
      (record { collection = collection; change = Change.Birth None false client (s.events + 1) })
  root_starts client key collection answer =
      let b : Birth = root_birth client key collection in
      let k : Comes marks client (Reply.Token key collection) Call.OpenRoot b =
      came s.pool limits marks grown client (Reply.Token key collection) Call.OpenRoot answer b refl in
      let c : Collection = collection_after s.pool marks collection in
      let is : new_root key collection (s.events + 1) client ≡ node_after (Called client (Reply.Token key collection) Call.OpenRoot ∷ marks)
      b =
      ap (λ (e : ℕ). new_root key collection (e + 1) client) shown.events
      ∙ sym (new_root_is s.pool limits marks grown client key collection k.fresh) in
      born_starts client (Reply.Token key collection) Call.OpenRoot answer b refl refl refl (Change.Birth None false client (s.events + 1))
      (ap (changed (Change.Birth None false client (s.events + 1)) key) (new_or_there s marks shown limits grown collection (later k.from))
      ∙ ap (λ (n : Node). record c { nodes = c.nodes ++ n ∷ [] }) is)
    where
      later : ((◌≡◌ {A = Option NodeKey} None None) × (collection ≡ events marks + 1)) ⊎ ((p : Birth) × In p (births marks) ×
          (◌≡◌ {A = Option NodeKey} None (Some p.node)) × (collection ≡ p.collection) × (spent marks p.node ≡ false) ×
          (fault marks p.node ≡ None)) →
          events marks < collection
      later (inl r) = let is : collection ≡ events marks + 1 = r.1 in omega (arith, is)
      later (inr r) = let no : None ≡ Some r.0.node = r.2 in absurd (cc)

  -- the birth of a child
  abbrev child_birth : ℕ → NodeKey → ℕ → Bool → NodeKey → Birth
  child_birth client key collection attached above =
      record { node = key; parent = Some above; attached = attached; collection = collection; event = events marks + 1; client = client }

  -- what a birth below the node makes of its collection
  child_changed : (client : ℕ) (key : NodeKey) (collection : ℕ) (attached : Bool) (above : NodeKey) (p : Birth) → In p (births marks) →
      p.node ≡ above → collection ≡ p.collection → spent marks p.node ≡ false →
      changed (Change.Birth (Some above) attached client (s.events + 1)) key (collection_or_new s.forest collection)
      ≡ record (collection_after s.pool marks
      collection) {
        nodes = (collection_after s.pool marks collection).nodes ++ new_child attached key (s.events + 1) client
            (node_after marks p) ∷ [];
      }
  child_changed client key collection attached above p on is ours unspent =
      let kept : is_kept marks p.node ≡ true = or_right (not (gone marks p.node)) _ (ap not unspent) in
      let c : Collection = collection_after s.pool marks collection in
      let f : Matches s.pool (is_kept marks) marks (beside s.forest collection) c = follows s marks shown limits grown collection in
      let there : collection_or_new s.forest collection ≡ c =
      there_or_new s marks shown limits grown collection (ap (is_kept_collection marks) ours ∙ collection_of_kept marks p on kept) in
      let found : node_of c.nodes above ≡ Some (node_after marks p) =
      ap (node_of c.nodes) (sym is) ∙ (ap (λ (ns : List Node). node_of ns p.node) f.nodes
      ∙ node_found (is_kept marks) marks collection (whole s.pool limits marks grown) f.keeps p on (sym ours) kept) in
      ap (changed (Change.Birth (Some above) attached client (s.events + 1)) key) there
      ∙ ap (λ (o : Option Node). option_map_or (λ n. record c { nodes = c.nodes ++ new_child attached key (s.events + 1) client n ∷ [] }) o
      c) found

  -- the node below which one is born
  record Bears (collection : ℕ) (above : NodeKey) : Type 0 where
    parent : Birth
    there : In parent (births marks)
    is : parent.node ≡ above
    ours : collection ≡ parent.collection
    unspent : spent marks parent.node ≡ false

  -- it is there
  bears : (client : ℕ) (reply : Reply) (call : Call) (b : Birth) (above : NodeKey) → Comes marks client reply call b →
      b.parent ≡ Some above → Bears b.collection above
  bears client reply call b above k up = elim k.from [
    | inl r ↦ let no : None ≡ Some above = sym r.0 ∙ up in absurd (cc)
    | inr r ↦
        let same : Some r.0.node ≡ Some above = sym r.2 ∙ up in
        let is : r.0.node ≡ above = cc in
        record { parent = r.0; there = r.1; is = is; ours = r.3; unspent = r.4 }
  ]

  -- a child is born
  pub child_starts : (client : ℕ) (key : NodeKey) (collection : ℕ) (above : NodeKey) (answer : IsAnswer limits (readings marks) client
      (Call.Duplicate above) (Reply.Token key collection)) →
      Starts s marks shown limits grown client (Reply.Token key collection) (Call.Duplicate above) answer
      (record { collection = collection; change = Change.Birth (Some above) false client (s.events + 1) })
  child_starts client key collection above answer =
      let reply : Reply = Reply.Token key collection in
      let b : Birth = child_birth client key collection false above in
      let k : Comes marks client reply (Call.Duplicate above) b =
      came s.pool limits marks grown client reply (Call.Duplicate above) answer b refl in
      let p : Bears collection above = bears client reply (Call.Duplicate above) b above k refl in
      let c : Collection = collection_after s.pool marks collection in
      let is : new_child false key (s.events + 1) client (node_after marks p.parent) ≡ node_after
      (Called client reply (Call.Duplicate above) ∷ marks) b =
      ap (λ (e : ℕ). new_child false key (e + 1) client (node_after marks p.parent)) shown.events
      ∙ sym (child_stands s.pool limits marks grown client key collection k.fresh p.parent above p.is p.ours) in
      born_starts client reply (Call.Duplicate above) answer b refl refl refl (Change.Birth (Some above) false client (s.events + 1))
      (child_changed client key collection false above p.parent p.there p.is p.ours p.unspent
      ∙ ap (λ (n : Node). record c { nodes = c.nodes ++ n ∷ [] }) is)

  -- an attached child is born
  pub attached_starts : (client : ℕ) (key : NodeKey) (collection : ℕ) (above : NodeKey) (answer : IsAnswer limits (readings marks) client
      (Call.AttachToken above) (Reply.Token key collection)) →
      Starts s marks shown limits grown client (Reply.Token key collection) (Call.AttachToken above) answer
      (record { collection = collection; change = Change.Birth (Some above) true client (s.events + 1) })
  attached_starts client key collection above answer =
      let reply : Reply = Reply.Token key collection in
      let b : Birth = child_birth client key collection true above in
      let k : Comes marks client reply (Call.AttachToken above) b =
      came s.pool limits marks grown client reply (Call.AttachToken above) answer b refl in
      let p : Bears collection above = bears client reply (Call.AttachToken above) b above k refl in
      let c : Collection = collection_after s.pool marks collection in
      let is : new_child true key (s.events + 1) client (node_after marks p.parent) ≡ node_after
      (Called client reply (Call.AttachToken above) ∷ marks) b =
      ap (λ (e : ℕ). new_child true key (e + 1) client (node_after marks p.parent)) shown.events
      ∙ sym (attached_stands s.pool limits marks grown client key collection k.fresh p.parent above p.is p.ours) in
      born_starts client reply (Call.AttachToken above) answer b refl refl refl (Change.Birth (Some above) true client (s.events + 1))
      (child_changed client key collection true above p.parent p.there p.is p.ours p.unspent
      ∙ ap (λ (n : Node). record c { nodes = c.nodes ++ n ∷ [] }) is)
