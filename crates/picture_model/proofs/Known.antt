-- That the picture state knows each node that the core keeps.
use Rattle.picture_model.proofs.Common.{Birth, Bool, Call, Called, Event, In-find, List, Moment, Node, NodeKey, None, Option, Reply, Some}
use Rattle.picture_model.proofs.Common.{State, Timeline, [], ap, birth_at, births, eq-eqb, false, find, is_kept, is_of, known_after}
use Rattle.picture_model.proofs.Common.{laid_on, list_any, map, mark_told, marked_in, node_at, not, option_map_or, refl, refreshed}
use Rattle.picture_model.proofs.Common.{same_key, seen_again, seen_in, subst, sym, true, with_told, ℕ, ◌&&◌, ◌++◌, ◌+◌, ◌==◌, ◌||◌, ◌∙◌}
use Rattle.picture_model.proofs.Common.{◌∷◌, ◌≡◌, ◌⊎◌}
use Rattle.std.proofs.Common.{inl, inr, if◌then◌else◌}
use Rattle.std.proofs.lemmas.List.Folds.{list_any-append}
use Rattle.std.specs.List.{cons_option}
use Rattle.sm_names.proofs.SamenessLaws.{same_key-refl, same_key-true}
use Rattle.sm_names.specs.Ends.{spends, spent}
use Rattle.sm_names.specs.Losses.{gone, takes}
use Rattle.sm_names.specs.Marks.{Mark}
use Rattle.forest_store.specs.declared.node.End.{End}
use Rattle.forest_store.specs.Forest.{all_nodes}
use Rattle.forest_store.specs.Nodes.{is_spent, node_of}
use Rattle.forced_marks.specs.declared.decision.Forced.{Forced}
use Rattle.picture_model.specs.PictureStates.{forgotten, walked, with_named}

-- ---- which nodes are kept

-- what was lost before is lost later
less : (t g p s : Bool) → (not (t || g) || not (p || s)) ≡ true → (not g || not s) ≡ true
less t false p s h = refl
less t true p false h = refl
less true true true true h = h
less true true false true h = h
less false true true true h = h
less false true false true h = h

-- a node that is kept behind a mark was kept before it
kept_one : (mark : Mark) (marks : Timeline) (key : NodeKey) → is_kept (mark ∷ marks) key ≡ true → is_kept marks key ≡ true
kept_one mark marks key h = less (takes marks mark key) (gone marks key) (spends key mark) (spent marks key) h

-- the same of more marks, one after another
pub kept_laid : (ms : List Mark) (marks : Timeline) (key : NodeKey) → is_kept (laid_on ms marks) key ≡ true → is_kept marks key ≡ true
kept_laid [] marks key h = h
kept_laid (m ∷ ms) marks key h = kept_one m marks key (kept_laid ms (m ∷ marks) key h)

-- the same of the marks of an event
pub kept_before : (ms : List Mark) (client : ℕ) (reply : Reply) (call : Call) (marks : Timeline) (key : NodeKey) →
    is_kept (laid_on ms (Called client reply call ∷ marks)) key ≡ true → is_kept marks key ≡ true
kept_before ms client reply call marks key h =
    kept_one (Called client reply call) marks key (kept_laid ms (Called client reply call ∷ marks) key h)

-- ---- which nodes were born

-- a forced mark makes no node
births_forced : (f : Forced) (marks : Timeline) → births (mark_told f ∷ marks) ≡ births marks
births_forced (Forced.Loss fault) marks = refl
births_forced (Forced.Allocated head) marks = refl
births_forced (Forced.Ended top) marks = refl

-- nor do more of them
pub births_laid : (ms : List Moment) (marks : Timeline) → births (laid_on (map (λ (m : Moment). mark_told m.mark) ms) marks) ≡ births marks
births_laid [] marks = refl
births_laid (m ∷ ms) marks = births_laid ms (mark_told m.mark ∷ marks) ∙ births_forced m.mark marks

-- a node that is found among births and one more is that one, or found among the others
pub birth_from : (o : Option Birth) (bs : List Birth) (key : NodeKey) (b : Birth) →
    find (λ (x : Birth). same_key x.node key) (cons_option o bs) ≡ Some b →
    (o ≡ Some b) ⊎ (find (λ (x : Birth). same_key x.node key) bs ≡ Some b)
birth_from None bs key b h = inr h
birth_from (Some new) bs key b h = by (same_key new.node key) h
  where
    -- by cases: it is the new birth, or one of the others
    by : (t : Bool) → (if t then Some new else find (λ (x : Birth). same_key x.node key) bs) ≡ Some b →
        (◌≡◌ {A = Option Birth} (Some new) (Some b)) ⊎ (find (λ (x : Birth). same_key x.node key) bs ≡ Some b)
    by true e = inl e
    by false e = inr e

-- the reply tells of the node that the call makes
pub born_told : (n client : ℕ) (reply : Reply) (call : Call) (b : Birth) → birth_at n (Called client reply call) ≡ Some b →
    reply ≡ Reply.Token b.node b.collection
born_told n client (Reply.Token key collection) Call.OpenRoot b h =
    ap (λ (o : Option Birth). option_map_or (λ (x : Birth). Reply.Token x.node x.collection) o Reply.Done) h
born_told n client (Reply.Token key collection) (Call.Duplicate parent) b h =
    ap (λ (o : Option Birth). option_map_or (λ (x : Birth). Reply.Token x.node x.collection) o Reply.Done) h
born_told n client (Reply.Token key collection) (Call.AttachToken parent) b h =
    ap (λ (o : Option Birth). option_map_or (λ (x : Birth). Reply.Token x.node x.collection) o Reply.Done) h
born_told n client _ _ b h = absurd (cc)

-- ---- which nodes the picture state knows

-- nodes that keep their keys are found by them
any_map : (f : Node → Node) → ((n : Node) → (f n).key ≡ n.key) → (key : NodeKey) (nodes : List Node) →
    list_any (is_of key) (map f nodes) ≡ list_any (is_of key) nodes
any_map f same key [] = refl
any_map f same key (n ∷ nodes) = λ i. same_key (same n i) key || any_map f same key nodes i

-- a node that is found has the key
found_key : (nodes : List Node) (key : NodeKey) (n : Node) → node_of nodes key ≡ Some n → n.key ≡ key
found_key nodes key n h = same_key-true n.key key (In-find (is_of key) nodes n h).1

-- the node of a key, or one that has it, has the key
key_or : (nodes : List Node) (key : NodeKey) (n : Node) → n.key ≡ key → (option_map_or (λ (m : Node). m) (node_of nodes key) n).key ≡ key
key_or nodes key n is = by (node_of nodes key) refl
  where
    -- by cases: a node that is found has the key by which it was looked up
    by : (o : Option Node) → node_of nodes key ≡ o → (option_map_or (λ (m : Node). m) o n).key ≡ key
    by None e = is
    by (Some m) e = found_key nodes key m e

-- a node keeps its key as it is seen again
seen_again_key : (s : State) (later : List Node) (n : Node) → (seen_again s later n).key ≡ n.key
seen_again_key s later n = by (n.gone && is_spent n.end)
  where
    -- by cases: the node is as it was, or as the state has it
    by : (t : Bool) → (if t then n else option_map_or (λ (m : Node). m) (node_at s.forest n.key) (forgotten later n)).key ≡ n.key
    by true = refl
    by false = key_or (all_nodes s.forest) n.key (forgotten later n) (key_or later n.key n refl)

-- what was known is known with one more
seen_more : (n : Node) (nodes : List Node) (key : NodeKey) → list_any (is_of key) nodes ≡ true →
    list_any (is_of key) (nodes ++ n ∷ []) ≡ true
seen_more n nodes key h = list_any-append (is_of key) nodes (n ∷ []) ∙ ap (λ (t : Bool). t || list_any (is_of key) (n ∷ [])) h

-- and that one is
seen_self : (n : Node) (nodes : List Node) → list_any (is_of n.key) (nodes ++ n ∷ []) ≡ true
seen_self n nodes = list_any-append (is_of n.key) nodes (n ∷ [])
    ∙ ap (λ (t : Bool). list_any (is_of n.key) nodes || (t || false)) (same_key-refl n.key) ∙ or_last (list_any (is_of n.key) nodes)
  where
    -- by cases on the switch
    or_last : (t : Bool) → (t || true) ≡ true
    or_last true = refl
    or_last false = refl

module _ (s : State) where
  -- what was known is known with the node of the reply
  named_more : (new : NodeKey) (collection id : ℕ) (nodes : List Node) (key : NodeKey) → list_any (is_of key) nodes ≡ true →
      list_any (is_of key) (with_named s new collection id nodes) ≡ true
  named_more new collection id nodes key h = by (collection == id) (node_at s.forest new)
    where
      by : (t : Bool) (o : Option Node) →
          list_any (is_of key) (if t then option_map_or (λ n. nodes ++ n ∷ []) o nodes else nodes) ≡ true
      by true None = h
      by true (Some n) = seen_more n nodes key h
      by false o = h

  -- by cases on the reply: only a token names a new node
  told_more : (reply : Reply) (id : ℕ) (nodes : List Node) (key : NodeKey) → list_any (is_of key) nodes ≡ true →
      list_any (is_of key) (with_told s reply id nodes) ≡ true
  told_more (Reply.Token new collection) id nodes key h = named_more new collection id nodes key h
  told_more _ id nodes key h = h

  -- what was known is known as it is seen again
  refreshed_more : (named : Option ℕ) (ms : List Moment) (id : ℕ) (nodes : List Node) (key : NodeKey) →
      list_any (is_of key) nodes ≡ true → list_any (is_of key) (refreshed s named ms id nodes) ≡ true
  refreshed_more named ms id nodes key h = by (option_map_or (λ other. other == id) named false)
    where
      by : (t : Bool) → list_any (is_of key) (if t then map (seen_again s (walked ms)) nodes else nodes) ≡ true
      by true = any_map (seen_again s (walked ms)) (seen_again_key s (walked ms)) key nodes ∙ h
      by false = h

  -- what was known is known behind the event
  pub known_more : (named : Option ℕ) (e : Event) (id : ℕ) (nodes : List Node) (key : NodeKey) → list_any (is_of key) nodes ≡ true →
      list_any (is_of key) (known_after s named e id nodes) ≡ true
  known_more named e id nodes key h =
      told_more e.reply id (refreshed s (marked_in named e.moments.items) e.moments.items id nodes) key
      (refreshed_more (marked_in named e.moments.items) e.moments.items id nodes key h)

  -- the node that the event made is known, if it is kept
  pub known_new : (named : Option ℕ) (e : Event) (nodes : List Node) (key : NodeKey) (collection : ℕ) (n : Node) →
      e.reply ≡ Reply.Token key collection → node_at s.forest key ≡ Some n →
      list_any (is_of key) (known_after s named e collection nodes) ≡ true
  known_new named e nodes key collection n is there =
      subst (λ (reply : Reply). list_any (is_of key) (with_told s reply collection
      (refreshed s (marked_in named e.moments.items) e.moments.items collection nodes)) ≡ true)
      (sym is) (by (collection == collection) (eq-eqb collection collection refl))
    where
      known : List Node
      known = refreshed s (marked_in named e.moments.items) e.moments.items collection nodes

      by : (t : Bool) → t ≡ true →
          list_any (is_of key) (if t then option_map_or (λ m. known ++ m ∷ []) (node_at s.forest key) known else known) ≡ true
      by false e = absurd (cc)
      by true e = rw there (subst (λ (k : NodeKey). list_any (is_of k) (known ++ n ∷ []) ≡ true)
          (found_key (all_nodes s.forest) key n there) (seen_self n known))

-- a node that is seen has the key of the one that was known
seen_key : (s : State) (n : Node) → (seen_in s n).key ≡ n.key
seen_key s n = key_or (all_nodes s.forest) n.key (record n { gone = true; end = End.Spent }) refl

-- so a node is seen where it is known
pub seen_any : (s : State) (key : NodeKey) (nodes : List Node) → list_any (is_of key) (map (seen_in s) nodes) ≡ list_any (is_of key) nodes
seen_any s key nodes = any_map (seen_in s) (seen_key s) key nodes
