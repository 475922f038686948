-- That no node that the core keeps is missing from the picture state, nor from a picture.
use Rattle.picture_model.proofs.Common.{Birth, Bool, Call, Called, Event, Family, In-find, List, Moment, Node, NodeKey, None, Option}
use Rattle.picture_model.proofs.Common.{Reply, Some, State, Timeline, TreeLists, [], ap, arith, birth_at, births, collection_at, eq-eqb}
use Rattle.picture_model.proofs.Common.{false, filter, find, is_kept, is_of, is_shown, is_some, known_after, known_in, laid_on, list_any}
use Rattle.picture_model.proofs.Common.{lists_of, map, mark_told, node_at, option_map_or, refl, same_key, subst, sym, tree_in, trees_of}
use Rattle.picture_model.proofs.Common.{true, ℕ, ◌&&◌, ◌++◌, ◌+◌, ◌==◌, ◌||◌, ◌∙◌, ◌∷◌, ◌≡◌, ◌⊎◌}
use Rattle.std.proofs.Common.{⊎_elim, cond}
use Rattle.std.proofs.lemmas.Bool.Decides.{nat_tests}
use Rattle.std.specs.Prelude.{Vec}
use Rattle.std.specs.declared.alloc.Global.{Global}
use Rattle.std.specs.Map.{lookup}
use Rattle.std.specs.Ordering.{is_eq, nat_cmp}
use Rattle.sm_names.proofs.ListLaws.{list_any-map}
use Rattle.sm_names.specs.Births.{birth_of}
use Rattle.sm_names.specs.Marks.{Entry, events}
use Rattle.sm_names.specs.Timelines.{timeline}
use Rattle.history_laws.proofs.HistoryLaws.{timeline-push}
use Rattle.core_state.specs.Shown.{Shows, node_after}
use Rattle.core_state.proofs.collections.Roots.{collection_of_kept}
use Rattle.core_state.proofs.views.Nodes.{collection_kept, node_kept, node_there, node_unknown}
use Rattle.core_state.proofs.views.Shown.{grown}
use Rattle.event_texts.specs.EventLines.{IsEventOf}
use Rattle.picture_model.specs.declared.picture_state.PictureState.{PictureState}
use Rattle.picture_model.specs.PictureStates.{KnowsKept}
use Rattle.picture_model.specs.declared.picture.Tree.{Tree}
use Rattle.picture_model.specs.Shown.{ShowsKept}
use Rattle.picture_model.proofs.Known.{birth_from, births_laid, born_told, kept_before, known_more, known_new, seen_any}

module _ (old s : State) (history : List Entry) (client : ℕ) (call : Call) (e : Event) (shows : Shows old history)
    (is : IsEventOf old client call e) (pool : s.pool ≡ old.pool) (shows_s : Shows s (history ++ (client, call, e.reply) ∷ [])) where
  -- the marks before the event
  abbrev marks : Timeline
  marks = timeline old.pool history

  -- the marks after the event
  abbrev later : Timeline
  later = timeline s.pool (history ++ (client, call, e.reply) ∷ [])

  -- the marks of the event are laid on those before
  laid : later ≡ laid_on (map (λ (m : Moment). mark_told m.mark) e.moments.items) (Called client e.reply call ∷ marks)
  laid = ap (λ (n : ℕ). timeline n (history ++ (client, call, e.reply) ∷ [])) pool
      ∙ timeline-push old.pool history (client, call, e.reply) ∙ is.marks history shows

  -- each kept node is known, since it was kept before, or the reply tells of it
  pub knows-after : (before picture_state : PictureState) (named : Option ℕ) → KnowsKept old before →
      ((id : ℕ) → known_in picture_state id ≡ known_after s named e id (known_in before id)) → KnowsKept s picture_state
  knows-after before picture_state named knows is_known = record {
    known = λ key n there.
        let found = node_there s later shows_s.shown s.limits (grown s (history ++ (client, call, e.reply) ∷ []) shows_s) key n there in
        ap (λ (nodes : List Node). list_any (is_of key) nodes) (is_known n.collection)
        ∙ known key n there found.0 found.1 found.2 found.3 found.4;
  }
    where
      -- the births behind the event: those before it, and that of its call, if it made a node
      born : (key : NodeKey) (b : Birth) → birth_of later key ≡ Some b →
          (birth_at (events marks + 1) (Called client e.reply call) ≡ Some b) ⊎ (birth_of marks key ≡ Some b)
      born key b of = birth_from (birth_at (events marks + 1) (Called client e.reply call)) (births marks) key b
          (sym (ap (λ (bs : List Birth). find (λ (x : Birth). same_key x.node key) bs)
          (ap births laid ∙ births_laid e.moments.items (Called client e.reply call ∷ marks))) ∙ of)

      known : (key : NodeKey) (n : Node) → node_at s.forest key ≡ Some n → (b : Birth) → birth_of later key ≡ Some b → b.node ≡ key →
          is_kept later key ≡ true → n ≡ node_after later b →
          list_any (is_of key) (known_after s named e n.collection (known_in before n.collection)) ≡ true
      known key n there b of its kept made = ⊎_elim
          (λ new.
          let told : e.reply ≡ Reply.Token b.node b.collection = born_told (events marks + 1) client e.reply call b new in
          known_new s named e (known_in before n.collection) key n.collection n
          (told ∙ (λ i. Reply.Token (its i) ((ap (λ (m : Node). m.collection) (sym made)) i))) there)
          (λ was.
          let kept_then : is_kept marks key ≡ true =
          kept_before (map (λ (m : Moment). mark_told m.mark) e.moments.items) client e.reply call marks key
          (subst (λ (t : Timeline). is_kept t key ≡ true) laid kept) in
          let there_then : node_at old.forest key ≡ Some (node_after marks b) =
          node_kept old marks shows.shown old.limits (grown old history shows) key b was kept_then in
          known_more s named e n.collection (known_in before n.collection) key
          (ap (λ (id : ℕ). list_any (is_of key) (known_in before id)) (ap (λ (m : Node). m.collection) made)
          ∙ knows.known key (node_after marks b) there_then))
          (born key b of)

-- ---- pictures

-- the collection of a kept node is kept
kept-collection : (s : State) (history : List Entry) (shows : Shows s history) (key : NodeKey) (n : Node) → node_at s.forest key ≡ Some n →
    is_some (collection_at s.forest n.collection) ≡ true
kept-collection s history shows key n there =
    let marks : Timeline = timeline s.pool history in
    let found = node_there s marks shows.shown s.limits (grown s history shows) key n there in
    let on = (In-find (λ (b : Birth). same_key b.node key) (births marks) found.0 found.1).0 in
    let kept : is_kept marks found.0.node ≡ true = ap (is_kept marks) found.2 ∙ found.3 in
    ap (λ (id : ℕ). is_some (collection_at s.forest id)) (ap (λ (m : Node). m.collection) found.4)
    ∙ ap is_some (collection_kept s marks shows.shown s.limits (grown s history shows) found.0.collection
    (collection_of_kept marks found.0 on kept))

-- numbers that tie are one
same-number : (a b : ℕ) → is_eq (nat_cmp a b) ≡ true → a ≡ b
same-number a b h = grind (arith, nat_tests)

-- the tree shows the node with this key, which is of this collection
abbrev pub has : ℕ → NodeKey → TreeLists → Bool
has id key t = t.id == id && list_any (is_of key) t.nodes

module _ (s : State) (event : Option Event) (id : ℕ) (key : NodeKey) (kept : is_some (collection_at s.forest id) ≡ true) where
  -- a node that the picture state knows in a kept collection is shown
  pub shown-known : (families : List Family) → list_any (is_of key) (option_map_or (λ (v : Vec Node Global). v.items)
      (lookup (λ k. is_eq (nat_cmp id k)) families) []) ≡ true → list_any (has id key) (trees_of s event families) ≡ true
  shown-known [] known = known
  shown-known (f ∷ families) known = by (λ more. shown-known families more) (is_eq (nat_cmp id f.0)) refl known
    where
      tree : TreeLists
      tree = tree_in s event f.0 f.1.items

      rest : List TreeLists
      rest = filter (is_shown s) (map (λ (g : Family). tree_in s event g.0 g.1.items) families)

      -- one more tree hides none
      hidden : (t : Bool) → list_any (has id key) rest ≡ true → list_any (has id key) (cond t (tree ∷ rest) rest) ≡ true
      hidden true h = or_more (has id key tree) h
        where
          or_more : (b : Bool) → list_any (has id key) rest ≡ true → (b || list_any (has id key) rest) ≡ true
          or_more true h = refl
          or_more false h = h
      hidden false h = h

      by : (list_any (is_of key) (option_map_or (λ (v : Vec Node Global). v.items) (lookup (λ k. is_eq (nat_cmp id k)) families) [])
          ≡ true →
          list_any (has id key) (trees_of s event families) ≡ true) →
          (t : Bool) → is_eq (nat_cmp id f.0) ≡ t → list_any (is_of key) (option_map_or (λ (v : Vec Node Global). v.items)
          (cond t (Some f.1) (lookup (λ k. is_eq (nat_cmp id k)) families)) []) ≡ true →
          list_any (has id key) (trees_of s event (f ∷ families)) ≡ true
      by on false other h = hidden (is_shown s tree) (on h)
      by on true same h =
          let its : f.0 ≡ id = sym (same-number id f.0 same) in
          let there : is_shown s tree ≡ true = rw its (rw kept refl) in
          let here : has id key tree ≡ true = rw (eq-eqb f.0 id its) (seen_any s key f.1.items ∙ h) in
          rw there (rw here refl)

-- what is shown of trees is shown by the trees themselves
shown-lists : (id : ℕ) (key : NodeKey) (trees : List Tree) → list_any (has id key) (map lists_of trees) ≡ true →
    list_any (λ (t : Tree). t.id == id && list_any (is_of key) t.nodes.items) trees ≡ true
shown-lists id key trees h =
    sym (list_any-map (has id key) (λ (t : Tree). t.id == id && list_any (is_of key) t.nodes.items) lists_of trees (λ t on. refl)) ∙ h

-- the trees show each kept node, where the picture state knows it
pub shows-kept : (s : State) (history : List Entry) (event : Option Event) (picture_state : PictureState) (trees : List Tree) →
    Shows s history →
    KnowsKept s picture_state → map lists_of trees ≡ trees_of s event picture_state.families.entries → ShowsKept s trees
shows-kept s history event picture_state trees shows knows are = record {
  shown = λ key n there. shown-lists n.collection key trees
      (ap (list_any (has n.collection key)) are
      ∙ shown-known s event n.collection key (kept-collection s history shows key n there) picture_state.families.entries
      (knows.known key n there));
}

-- nothing is kept where nothing happened
pub knows-none : (s : State) (picture_state : PictureState) → Shows s [] → KnowsKept s picture_state
knows-none s picture_state shows = record {
  known = λ key n there.
      let clash : None ≡ Some n = sym (node_unknown s [] shows.shown s.limits (grown s [] shows) key refl) ∙ there in absurd (cc);
}
