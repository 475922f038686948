-- Which trackers wait, by the entries and the firings.
use Rattle.core_likeness.proofs.Common.{Attached, Birth, Bool, Call, Called, Entry, Fired, In, In-any, In-list_any, List, NodeKey, None}
use Rattle.core_likeness.proofs.Common.{Option, Reply, Some, Timeline, Tracked, [], after, ap, arith, birth_at, births, born_by}
use Rattle.core_likeness.proofs.Common.{collection_of_node, cond, cons_option, entry_mark, eq-eqb, eqb-true, events, false, false_if}
use Rattle.core_likeness.proofs.Common.{filter, get_or, inl, inr, is_none, kept-after, legal_grows, length, list_any, map, map-append}
use Rattle.core_likeness.proofs.Common.{not, refl, reverse, same_key, subst, suc, sym, take, take_more, timeline, tracked, tracked_at}
use Rattle.core_likeness.proofs.Common.{tracked_of, true, unwrap_or, ℕ, ◌++◌, ◌+◌, ◌<◌, ◌==◌, ◌∙◌, ◌∷◌, ◌≡◌}
use Rattle.std.specs.List.{AllPairs, find, flat_map}
use Rattle.std.specs.Option.{option_map, option_map_or}
use Rattle.sm_names.specs.Births.{birth_of}
use Rattle.sm_names.specs.Bounds.{Bound}
use Rattle.sm_names.specs.Legality.{IsLegal}
use Rattle.sm_names.specs.Trackers.{fired, fired_at, fired_in, fires_at, moments}
use Rattle.sm_names.specs.Words.{last_match}
use Rattle.sm_names.proofs.ListLaws.{In-behind, In-filter, In-filter-back, In-front, In-map, In-map-back, In-reverse, In-reverse-back}
use Rattle.sm_names.proofs.ListLaws.{filter-In}
use Rattle.sm_names.proofs.SamenessLaws.{none_or_some}
use Rattle.history_laws.proofs.HistoryLaws.{timeline-push}
use Rattle.event_laws.specs.Waiting.{unfired_trackers}
use Rattle.event_laws.proofs.MomentLaws.{last_match-kept, tracked_after}
use Rattle.event_laws.proofs.NumberLaws.{AreNumbered, IsBefore, numbered}
use Rattle.core_likeness.proofs.Calls.{reverse-cons}
use Rattle.alike_cores.proofs.Known.{In-flat}
use Rattle.history_laws.proofs.SettledLaws.{same_births}

-- ---- births

-- the collection of the birth, if it is that of the node
abbrev born_of : NodeKey → Option Birth → Option ℕ
born_of key None = None
born_of key (Some b) = cond (same_key b.node key) (Some b.collection) None

-- By the call and the reply.
born-told : (key : NodeKey) (event client : ℕ) (reply : Reply) (call : Call) →
    born_of key (birth_at event (Called client reply call)) ≡ born_by key call reply
born-told key event client (Reply.Token made collection) Call.OpenRoot = refl
born-told key event client (Reply.Token made collection) (Call.Duplicate parent) = refl
born-told key event client (Reply.Token made collection) (Call.AttachToken parent) = refl
born-told key event client reply Call.OpenRoot = refl
born-told key event client reply (Call.Duplicate parent) = refl
born-told key event client reply (Call.AttachToken parent) = refl
born-told key event client reply call = refl

-- An event adds what its own mark does.
births-after : (pool : ℕ) (marks : Timeline) (entry : Entry) → births (after pool marks entry) ≡ births (entry_mark entry ∷ marks)
births-after pool marks entry =
    kept-after (λ m. births m ≡ births (entry_mark entry ∷ marks)) (λ m mark quiet e. same_births m mark quiet ∙ e) pool marks entry refl

-- A node is of the collection that the newest event told which made it.
pub collection-next : (pool : ℕ) (marks : Timeline) (entry : Entry) (key : NodeKey) →
    collection_of_node (after pool marks entry) key
    ≡ unwrap_or (born_by key entry.1 entry.2) (collection_of_node marks key)
collection-next pool marks entry key =
    ap (λ (bs : List Birth). option_map_or (λ (b : Birth). b.collection) (find (λ b. same_key b.node key) bs) 0) (births-after pool
    marks entry)
    ∙ (from (birth_at (events marks + 1) (entry_mark entry))
    ∙ ap (λ (o : Option ℕ). unwrap_or o (collection_of_node marks key))
    (born-told key (events marks + 1) entry.0 entry.2 entry.1))
  where
    -- by whether a node was made, and which
    from : (o : Option Birth) →
        option_map_or (λ (b : Birth). b.collection) (find (λ b. same_key b.node key) (cons_option o (births marks))) 0
        ≡ unwrap_or (born_of key o) (collection_of_node marks key)
    from None = refl
    from (Some b) = here (same_key b.node key)
      where
        here : (is : Bool) → option_map_or (λ (b : Birth). b.collection) (cond is (Some b) (birth_of marks key)) 0
            ≡ unwrap_or (cond is (Some b.collection) None) (collection_of_node marks key)
        here true = refl
        here false = refl

-- So it is as the entries go on.
pub collection-more : (pool : ℕ) (history : List Entry) (i : ℕ) (d : Entry) → i < length history → (key : NodeKey) →
    collection_of_node (timeline pool (take (i + 1) history)) key
    ≡ unwrap_or (born_by key (get_or history i d).1 (get_or history i d).2) (collection_of_node (timeline pool (take i history)) key)
collection-more pool history i d within key =
    ap (λ (h : List Entry). collection_of_node (timeline pool h) key) (take_more history i d within)
    ∙ (ap (λ (m : Timeline). collection_of_node m key) (timeline-push pool (take i history) (get_or history i d))
    ∙ collection-next pool (timeline pool (take i history)) (get_or history i d) key)

-- And so are the trackers.
pub tracked-more : (pool : ℕ) (history : List Entry) (i : ℕ) (d : Entry) → i < length history →
    reverse (tracked (timeline pool (take (i + 1) history))) ≡ reverse (tracked (timeline pool (take i history)))
    ++ cons_option (tracked_at (timeline pool (take i history)) (entry_mark (get_or history i d))) []
tracked-more pool history i d within =
    ap (λ (h : List Entry). reverse (tracked (timeline pool h))) (take_more history i d within)
    ∙ (ap (λ (m : Timeline). reverse (tracked m)) (timeline-push pool (take i history) (get_or history i d))
    ∙ (ap reverse (tracked_after pool (timeline pool (take i history)) (get_or history i d))
    ∙ reverse-cons (tracked_at (timeline pool (take i history)) (entry_mark (get_or history i d))) (tracked (timeline pool (take i
    history)))))

-- One more comes last, or none.
pub attached-more : (pool : ℕ) (history : List Entry) (i : ℕ) (d : Entry) → i < length history → (all : List Attached) (o : Option
    Attached) →
    map tracked_of all ≡ reverse (tracked (timeline pool (take i history))) →
    option_map tracked_of o ≡ tracked_at (timeline pool (take i history)) (entry_mark (get_or history i d)) →
    map tracked_of (all ++ cons_option o []) ≡ reverse (tracked (timeline pool (take (i + 1) history)))
attached-more pool history i d within all o so new =
    map-append tracked_of all (cons_option o [])
    ∙ (ap (λ (l : List Tracked). l ++ map tracked_of (cons_option o [])) so
    ∙ (ap (λ (l : List Tracked). reverse (tracked (timeline pool (take i history))) ++ l) (told o)
    ∙ (ap (λ (p : Option Tracked). reverse (tracked (timeline pool (take i history))) ++ cons_option p []) new
    ∙ sym (tracked-more pool history i d within))))
  where
    -- by whether there is one
    told : (o : Option Attached) → map tracked_of (cons_option o []) ≡ cons_option (option_map tracked_of o) []
    told None = refl
    told (Some a) = refl

-- ---- firings

-- An element stands somewhere.
at : {A : Type 0} (xs : List A) (x : A) → In x xs → (k : ℕ) × (k < length xs) × ((d : A) → get_or xs k d ≡ x)
at [] x there = absurd there
at (y ∷ ys) x (inl is) = (0, omega arith, λ d. sym is)
at (y ∷ ys) x (inr on) = let more = at ys x on in (suc more.0, let l : more.0 < length ys = more.1 in omega (arith, l), more.2)

-- By the places.
rising-one : (xs : List Tracked) → AllPairs IsBefore xs → (t u : Tracked) → In t xs → In u xs → t.id ≡ u.id → t ≡ u
rising-one xs rising t u there here same =
    let i = at xs t there in
    let j = at xs u here in
    by i.0 j.0 i.1 j.1 i.2 j.2
  where
    -- the one does not stand before the other
    before : (m n : ℕ) → n < length xs → ((d : Tracked) → get_or xs m d ≡ t) → ((d : Tracked) → get_or xs n d ≡ u) → m < n → ⊥
    before m n within is are less =
        let l : t.id < u.id = subst (λ (x : Tracked). x.id < u.id) (is t) (subst (λ (x : Tracked). (get_or xs m t).id < x.id) (are
        t) (rising m n t less within)) in
        omega (arith, l, same)

    -- nor the other before the one
    behind : (m n : ℕ) → m < length xs → ((d : Tracked) → get_or xs m d ≡ t) → ((d : Tracked) → get_or xs n d ≡ u) → n < m → ⊥
    behind m n within is are less =
        let l : u.id < t.id = subst (λ (x : Tracked). x.id < t.id) (are t) (subst (λ (x : Tracked). (get_or xs n t).id < x.id) (is
        t) (rising n m t less within)) in
        omega (arith, l, same)

    -- so they stand at one place
    by : (m n : ℕ) → m < length xs → n < length xs → ((d : Tracked) → get_or xs m d ≡ t) → ((d : Tracked) → get_or xs n d ≡ u) → t ≡ u
    by m n lm ln is are =
        let no : (m < n) → ⊥ = before m n ln is are in
        let nor : (n < m) → ⊥ = behind m n lm is are in
        let one : m ≡ n = omega (arith, no, nor) in
        sym (is t) ∙ (ap (λ (k : ℕ). get_or xs k t) one ∙ are t)

-- An element of a part is one of all.
In-flat-back : {A B : Type 0} (f : A → List B) (xs : List A) (x : A) (y : B) → In x xs → In y (f x) → In y (flat_map f xs)
In-flat-back f [] x y there on = absurd there
In-flat-back {B = B} f (z ∷ zs) x y (inl is) on = In-front (f z) (flat_map f zs) y (subst (λ (w : _). In y (f w)) is on)
In-flat-back f (z ∷ zs) x y (inr there) on = In-behind (f z) (flat_map f zs) y (In-flat-back f zs x y there on)

module _ (marks : Timeline) (one : AreNumbered marks) (t : Tracked) (there : In t (tracked marks)) where
  -- Where it has not fired, no firing is its.
  quiet : fired_at marks t ≡ None → list_any (λ (f : Fired). f.tracker == t.id) (fired marks) ≡ false
  quiet none = false_if (list_any (λ (f : Fired). f.tracker == t.id) (fired marks)) (λ h.
      let f = In-list_any (λ (f : Fired). f.tracker == t.id) (fired marks) h in
      let part = In-flat (λ moment. fired_in marks (events moment)) (reverse (moments marks)) f.0 f.1 in
      let u = In-map (λ (t : Tracked). record { tracker = t.id; event = events part.0 })
      (filter (λ t. option_map_or (λ e. e == events part.0) (fired_at marks t) false) (reverse (tracked marks))) f.0 part.2 in
      let kept = In-filter (λ t. option_map_or (λ e. e == events part.0) (fired_at marks t) false) (reverse (tracked marks)) u.0 u.1 in
      let same : u.0.id ≡ t.id = sym (ap (λ (g : Fired). g.tracker) u.2) ∙ eqb-true f.0.tracker t.id f.2 in
      let is : u.0 ≡ t = rising-one (reverse (tracked marks)) one.rising u.0 t kept.0 (In-reverse-back (tracked marks) t there) same in
      let never : fired_at marks u.0 ≡ None = ap (fired_at marks) is ∙ none in
      let no : false ≡ true = sym (ap (λ (o : Option ℕ). option_map_or (λ e. e == events part.0) o false) never) ∙ kept.1 in
      cc)

  -- Where it has, one is.
  loud : (event : ℕ) → fired_at marks t ≡ Some event → list_any (λ (f : Fired). f.tracker == t.id) (fired marks) ≡ true
  loud event at = from (last_match (fires_at t) (moments marks)) refl at
    where
      from : (o : Option Timeline) → last_match (fires_at t) (moments marks) ≡ o → option_map events o ≡ Some event →
          list_any (λ (f : Fired). f.tracker == t.id) (fired marks) ≡ true
      from None is h = cc
      from (Some m) is h =
          let on : In m (moments marks) = last_match-kept (λ x. In x (moments marks)) (fires_at t) (moments marks) (λ x here h.
          here) m is in
          let its : fired_at marks t ≡ Some (events m) = ap (option_map events) is in
          let passes : option_map_or (λ e. e == events m) (fired_at marks t) false ≡ true =
          ap (λ (o : Option ℕ). option_map_or (λ e. e == events m) o false) its ∙ eq-eqb (events m) (events m) refl in
          In-any (λ (f : Fired). f.tracker == t.id) (fired marks) (record { tracker = t.id; event = events m })
          (In-flat-back (λ moment. fired_in marks (events moment)) (reverse (moments marks)) m (record {
            tracker = t.id;
            event =
                events m;
          })
          (In-reverse-back (moments marks) m on)
          (In-map-back (λ (t : Tracked). record { tracker = t.id; event = events m })
          (filter (λ t. option_map_or (λ e. e == events m) (fired_at marks t) false) (reverse (tracked marks))) t
          (In-filter-back (λ t. option_map_or (λ e. e == events m) (fired_at marks t) false) (reverse (tracked marks)) t
          (In-reverse-back (tracked marks) t there) passes)))
          (eq-eqb t.id t.id refl)

  -- So it waits where no firing is its.
  waits : not (list_any (λ (f : Fired). f.tracker == t.id) (fired marks)) ≡ is_none (fired_at marks t)
  waits = elim (none_or_some (fired_at marks t)) [
    | inl none ↦ ap not (quiet none) ∙ sym (ap is_none none)
    | inr some ↦ ap not (loud some.0 some.1) ∙ sym (ap is_none some.1)
  ]

-- Those whose firing is not there wait.
pub unfired-told : (pool : ℕ) (limits : Bound) (history : List Entry) → IsLegal pool limits history →
    filter (λ (t : Tracked). not (list_any (λ (f : Fired). f.tracker == t.id) (fired (timeline pool history)))) (reverse (tracked
    (timeline pool history)))
    ≡ unfired_trackers (timeline pool history)
unfired-told pool limits history legal =
    filter-In (λ (t : Tracked). not (list_any (λ (f : Fired). f.tracker == t.id) (fired (timeline pool history))))
    (λ t. is_none (fired_at (timeline pool history) t)) (reverse (tracked (timeline pool history)))
    (λ t there. waits (timeline pool history) (numbered pool limits (timeline pool history) (legal_grows pool limits history legal)) t
    (In-reverse (tracked (timeline pool history)) t there))
