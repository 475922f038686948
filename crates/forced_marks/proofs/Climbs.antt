-- What climbs from live nodes come to is what has a live node at or below it.
use Rattle.forced_marks.proofs.Common.{Bool, In-any, In-list_any, In-reverse, In-reverse-back, List, Node, NodeKey, None, Option, Some}
use Rattle.forced_marks.proofs.Common.{[], above_among, and_left, and_right, ap, are_distinct, both_tests, both_ways, climbs_into}
use Rattle.forced_marks.proofs.Common.{either_way, false, if◌then◌else◌, inl, inr, is_below, is_of, list_any, not, not-true}
use Rattle.forced_marks.proofs.Common.{option_map_or, or_cases, or_left, or_none_left, or_none_right, or_right, refl, reverse, same_key}
use Rattle.forced_marks.proofs.Common.{same_key-refl, same_key-swap, same_key-true, sym, true, ◌||◌, ◌∙◌, ◌∷◌, ◌≡◌, ◌⊎◌}
use Rattle.sm_names.proofs.ListLaws.{In}
use Rattle.sm_names.proofs.SamenessLaws.{and_both}
use Rattle.forest_store.specs.Questions.{is_live_node, lives_below}
use Rattle.forced_marks.specs.KeySets.{climbed_past}
use mathlib.Core.List.{reverse_aux}

-- a climb from the one key, through these, the newest first, reaches the other
abbrev passes : List Node → NodeKey → NodeKey → Bool
passes xs at key = list_any (same_key key) (at ∷ above_among xs at)

-- the same from the node's own key, where the older ones are these
abbrev passes_from : List Node → Node → NodeKey → Bool
passes_from older n key =
    same_key key n.key || list_any (same_key key) (option_map_or (λ parent. parent ∷ above_among older parent) n.parent [])

-- a climb ends at its own key where no node is left
passes_own : (key : NodeKey) → passes [] key key ≡ true
passes_own key = or_left (same_key key key) false (same_key-refl key)

-- a climb from the newest node's own key reaches its parent
passes_here : (older : List Node) (n : Node) (key : NodeKey) → passes (n ∷ older) n.key key ≡ passes_from older n key
passes_here older n key = rw (same_key-refl n.key) refl

-- one from another key passes the node by
passes_by : (older : List Node) (n : Node) (at key : NodeKey) → same_key n.key at ≡ false → passes (n ∷ older) at key ≡ passes older at key
passes_by older n at key other = rw other refl

-- climbs stay where they stand
stays : (n : Node) (stood : NodeKey → Bool) (key : NodeKey) → stood key ≡ true → climbed_past n stood key ≡ true
stays n stood key h = from (is_live_node n || stood n.key)
  where
    -- since a climb stands there already
    own : (same_key n.key key || (option_map_or (λ parent. same_key parent key) n.parent false || stood key)) ≡ true
    own = or_right _ _ (or_right _ _ h)

    -- by cases on whether it goes on
    from : (c : Bool) → (if c then (same_key n.key key || (option_map_or (λ parent. same_key parent key) n.parent false || stood key))
        else stood key) ≡ true
    from true = own
    from false = h

-- one that goes on from the node stands at its own key
at_own : (n : Node) (stood : NodeKey → Bool) → (is_live_node n || stood n.key) ≡ true → climbed_past n stood n.key ≡ true
at_own n stood goes = rw goes (or_left _ _ (same_key-refl n.key))

-- and at its parent
at_parent : (n : Node) (stood : NodeKey → Bool) (parent : NodeKey) → (is_live_node n || stood n.key) ≡ true → n.parent ≡ Some parent →
    climbed_past n stood parent ≡ true
at_parent n stood parent goes is = rw (goes, is) (or_right _ _ (or_left _ _ (same_key-refl parent)))

-- what climbs through these come to, where they stand so
abbrev Reaching : List Node → (NodeKey → Bool) → NodeKey → Type 0
Reaching xs stood key = (at : NodeKey) → stood at ≡ true → passes xs at key ≡ true → climbs_into xs stood key ≡ true

-- what a climb that goes on from the node passes is come to
reached_from : (older : List Node) (n : Node) (stood : NodeKey → Bool) (key : NodeKey) → (is_live_node n || stood n.key) ≡ true →
    Reaching older (climbed_past n stood) key → (o : Option NodeKey) → n.parent ≡ o →
    (same_key key n.key || list_any (same_key key) (option_map_or (λ parent. parent ∷ above_among older parent) o [])) ≡ true →
    climbs_into older (climbed_past n stood) key ≡ true
reached_from older n stood key goes on None is passed =
    let own : same_key key n.key ≡ true = elim (or_cases (same_key key n.key) false passed) [ inl e ↦ e | inr bad ↦ cc ] in
    on n.key (at_own n stood goes) (or_left (same_key key n.key) (list_any (same_key key) (above_among older n.key)) own)
reached_from older n stood key goes on (Some parent) is passed =
    elim (or_cases (same_key key n.key) (list_any (same_key key) (parent ∷ above_among older parent)) passed) [
      | inl own ↦ on n.key (at_own n stood goes) (or_left (same_key key n.key) (list_any (same_key key) (above_among older n.key)) own)
      | inr more ↦ on parent (at_parent n stood parent goes is) more
    ]

-- what a climb passes is come to
reached : (xs : List Node) (stood : NodeKey → Bool) (key : NodeKey) → Reaching xs stood key
reached [] stood key at stands passed =
    let is : key ≡ at = same_key-true key at (elim (or_cases (same_key key at) false passed) [ inl e ↦ e | inr bad ↦ cc ]) in
    ap stood is ∙ stands
reached (n ∷ older) stood key at stands passed =
    elim (either_way (same_key n.key at)) [
      | inl e ↦
          let is : n.key ≡ at = same_key-true n.key at e in
          reached_from older n stood key (or_right (is_live_node n) (stood n.key) (ap stood is ∙ stands))
          (reached older (climbed_past n stood) key) n.parent refl
          (sym (passes_here older n key) ∙ ap (λ (k : NodeKey). passes (n ∷ older) k key) is ∙ passed)
      | inr e ↦ reached older (climbed_past n stood) key at (stays n stood at stands) (sym (passes_by older n at key e) ∙ passed)
    ]

-- no key of these lies above one that none of them has
above_none : (older : List Node) (key : NodeKey) → list_any (is_of key) older ≡ false → above_among older key ≡ []
above_none [] key none = refl
above_none (n ∷ older) key none =
    let other : same_key n.key key ≡ false = or_none_left (is_of key n) (list_any (is_of key) older) none in
    rw other (above_none older key (or_none_right (is_of key n) (list_any (is_of key) older) none))

-- where no key stands twice, none of the older ones has the newest's
alone : (n : Node) (older : List Node) → are_distinct (n ∷ older) ≡ true → list_any (is_of n.key) older ≡ false
alone n older distinct =
    not-true (list_any (is_of n.key) older) (and_left (not (list_any (is_of n.key) older)) (are_distinct older) distinct)

-- and the older ones have none twice
rest_distinct : (n : Node) (older : List Node) → are_distinct (n ∷ older) ≡ true → are_distinct older ≡ true
rest_distinct n older distinct = and_right (not (list_any (is_of n.key) older)) (are_distinct older) distinct

-- a climb from an older node passes the newest by
older_by : (n m : Node) (older : List Node) → are_distinct (n ∷ older) ≡ true → In m older → same_key n.key m.key ≡ false
older_by n m older distinct on =
    elim (either_way (same_key n.key m.key)) [
      | inl e ↦
          let some : list_any (is_of n.key) older ≡ true = In-any (is_of n.key) older m on (same_key-swap m.key n.key ∙ e) in
          let none : list_any (is_of n.key) older ≡ false = alone n older distinct in
          cc
      | inr e ↦ e
    ]

-- what a climb from a live node passes is come to
from_live : (xs : List Node) (stood : NodeKey → Bool) (m : Node) (key : NodeKey) →
    are_distinct xs ≡ true → In m xs → is_live_node m ≡ true →
    passes xs m.key key ≡ true → climbs_into xs stood key ≡ true
from_live [] stood m key distinct on live passed = absurd on
from_live (n ∷ older) stood m key distinct (inl is) live passed =
    reached_from older n stood key (or_left (is_live_node n) (stood n.key) (ap is_live_node (sym is) ∙ live))
    (reached older (climbed_past n stood) key) n.parent refl
    (sym (passes_here older n key) ∙ ap (λ (x : Node). passes (n ∷ older) x.key key) (sym is) ∙ passed)
from_live (n ∷ older) stood m key distinct (inr on) live passed =
    from_live older (climbed_past n stood) m key (rest_distinct n older distinct) on live
    (sym (passes_by older n m.key key (older_by n m older distinct on)) ∙ passed)

-- why a key is come to: a climb from where one stood passes it, or one from a live node
abbrev Comes : List Node → (NodeKey → Bool) → NodeKey → Type 0
Comes xs stood key = ((at : NodeKey) × (stood at ≡ true) × (passes xs at key ≡ true))
    ⊎ ((m : Node) × In m xs × (is_live_node m ≡ true) × (passes xs m.key key ≡ true))

-- a climb that goes on from the newest node
starts : (n : Node) (older : List Node) (stood : NodeKey → Bool) (key : NodeKey) → (is_live_node n || stood n.key) ≡ true →
    passes_from older n key ≡ true → Comes (n ∷ older) stood key
starts n older stood key goes passed =
    elim (or_cases (is_live_node n) (stood n.key) goes) [
      | inl live ↦ inr (n, inl refl, live, passes_here older n key ∙ passed)
      | inr stands ↦ inl (n.key, stands, passes_here older n key ∙ passed)
    ]

-- a key that is come to from where a climb stands behind the newest node
from_stood : (n : Node) (older : List Node) (stood : NodeKey → Bool) (at key : NodeKey) → are_distinct (n ∷ older) ≡ true →
    passes older at key ≡ true → (c : Bool) → (is_live_node n || stood n.key) ≡ c →
    (if c then (same_key n.key at || (option_map_or (λ parent. same_key parent at) n.parent false || stood at)) else stood at) ≡ true →
    Comes (n ∷ older) stood key
from_stood n older stood at key distinct passed c goes stands = by (either_way (same_key n.key at))
  where
    -- the climb starts at the node itself
    own : same_key n.key at ≡ true → (is_live_node n || stood n.key) ≡ true → Comes (n ∷ older) stood key
    own e on =
        let is : n.key ≡ at = same_key-true n.key at e in
        let up : above_among older at ≡ [] = ap (above_among older) (sym is) ∙ above_none older n.key (alone n older distinct) in
        let end : (same_key key at || false) ≡ true = ap (λ (l : List NodeKey). same_key key at || list_any (same_key key) l) (sym up)
        ∙ passed in
        starts n older stood key on
        (or_left (same_key key n.key) _ (ap (same_key key) is
        ∙ elim (or_cases (same_key key at) false end) [ inl same ↦ same | inr bad ↦ cc ]))

    -- by cases: the climb starts at the node's parent
    parent_of : (o : Option NodeKey) → n.parent ≡ o → option_map_or (λ parent. same_key parent at) o false ≡ true →
        (is_live_node n || stood n.key) ≡ true → Comes (n ∷ older) stood key
    parent_of None is bad on = absurd (both_ways false bad refl)
    parent_of (Some parent) is same on =
        let here : parent ≡ at = same_key-true parent at same in
        starts n older stood key on
        (rw is (or_right (same_key key n.key) _ (ap (λ k. passes older k key) here ∙ passed)))

    -- the climb stands there already
    stood_at : same_key n.key at ≡ false → stood at ≡ true → Comes (n ∷ older) stood key
    stood_at e s = inl (at, s, passes_by older n at key e ∙ passed)

    -- by cases: the climb of the newest node comes to its parent, or another stands there
    other : same_key n.key at ≡ false → (b : Bool) → c ≡ b →
        (if b then (same_key n.key at || (option_map_or (λ parent. same_key parent at) n.parent false || stood at)) else stood at) ≡ true →
        Comes (n ∷ older) stood key
    other e false is s = stood_at e s
    other e true is s = elim (or_cases (same_key n.key at) (option_map_or (λ parent. same_key parent at) n.parent false || stood at) s) [
      | inl bad ↦ absurd (both_ways (same_key n.key at) bad e)
      | inr more ↦ elim (or_cases (option_map_or (λ parent. same_key parent at) n.parent false) (stood at) more) [
        | inl same ↦ parent_of n.parent refl same (goes ∙ is)
        | inr s ↦ stood_at e s
      ]
    ]

    -- by cases: the newest node is live, or another climb stands there
    here : same_key n.key at ≡ true → (b : Bool) → c ≡ b →
        (if b then (same_key n.key at || (option_map_or (λ parent. same_key parent at) n.parent false || stood at)) else stood at) ≡ true →
        Comes (n ∷ older) stood key
    here e true is s = own e (goes ∙ is)
    here e false is s = own e (or_right (is_live_node n) (stood n.key) (ap stood (same_key-true n.key at e) ∙ s))

    -- by cases on whether the key is that of the newest node
    by : (same_key n.key at ≡ true) ⊎ (same_key n.key at ≡ false) → Comes (n ∷ older) stood key
    by (inl e) = here e c refl stands
    by (inr e) = other e c refl stands

-- nothing else is come to
only : (xs : List Node) (stood : NodeKey → Bool) (key : NodeKey) → are_distinct xs ≡ true → climbs_into xs stood key ≡ true →
    Comes xs stood key
only [] stood key distinct h = inl (key, h, passes_own key)
only (n ∷ older) stood key distinct h =
    elim (only older (climbed_past n stood) key (rest_distinct n older distinct) h) [
      | inl c ↦ from_stood n older stood c.0 key distinct c.2 (is_live_node n || stood n.key) refl c.1
      | inr c ↦ inr (c.0, inr c.1, c.2, passes_by older n c.0.key key (older_by n c.0 older distinct c.1) ∙ c.3)
    ]

-- keys of these are none of those
abbrev AreApart : List Node → List Node → Type 0
AreApart xs ys = (m : Node) → In m xs → list_any (is_of m.key) ys ≡ false

-- nodes that are turned round onto others have no key twice
distinct_onto : (xs ys : List Node) → are_distinct xs ≡ true → are_distinct ys ≡ true → AreApart xs ys →
    are_distinct (reverse_aux xs ys) ≡ true
distinct_onto [] ys dx dy apart = dy
distinct_onto (x ∷ xs) ys dx dy apart =
    distinct_onto xs (x ∷ ys) (rest_distinct x xs dx) (rw (apart x (inl refl)) dy)
    (λ m on. rw (apart m (inr on), older_by x m xs dx on) refl)

-- what climbs from all live nodes come to has a live node at or below it
pub busy_is : (nodes : List Node) (key : NodeKey) → are_distinct nodes ≡ true →
    climbs_into (reverse nodes) (λ _. false) key ≡ list_any (lives_below nodes key) nodes
busy_is nodes key distinct = both_tests _ _ there back
  where
    -- since turning a list round keeps keys apart
    turned : are_distinct (reverse nodes) ≡ true
    turned = distinct_onto nodes [] distinct refl (λ m on. refl)

    -- by cases: no climb stood there, or one started at a live node below
    there : climbs_into (reverse nodes) (λ _. false) key ≡ true → list_any (lives_below nodes key) nodes ≡ true
    there h = elim (only (reverse nodes) (λ _. false) key turned h) [
      | inl c ↦ absurd (both_ways false c.1 refl)
      | inr c ↦ In-any (lives_below nodes key) nodes c.0 (In-reverse nodes c.0 c.1)
          (and_both (is_live_node c.0) (is_below nodes key c.0.key) c.2 c.3)
    ]

    -- since the climb of a live node comes to all above it
    back : list_any (lives_below nodes key) nodes ≡ true → climbs_into (reverse nodes) (λ _. false) key ≡ true
    back h =
        let x = In-list_any (lives_below nodes key) nodes h in
        from_live (reverse nodes) (λ _. false) x.0 key turned (In-reverse-back nodes x.0 x.1)
        (and_left (is_live_node x.0) (is_below nodes key x.0.key) x.2)
        (and_right (is_live_node x.0) (is_below nodes key x.0.key) x.2)
