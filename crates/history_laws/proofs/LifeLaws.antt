-- What holds of the nodes of each timeline that grows from nothing.
use Rattle.history_laws.proofs.Common.{Allocated, AreSound, Birth, Bool, Bound, Call, Called, Down, Ended, In, In-filter-back, In-find}
use Rattle.history_laws.proofs.Common.{In-map-back, In-reverse-back, IsAnswer, IsChain, List, Loss, NodeKey, None, Option, Origin, Reach}
use Rattle.history_laws.proofs.Common.{Reply, Some, Timeline, Up, [], ancestors, ap, arith, birth_at, births, births_in, blocked}
use Rattle.history_laws.proofs.Common.{collection_in, cons_option, either_way, events, false, fault, find, gone, head, inl, inr}
use Rattle.history_laws.proofs.Common.{is_at_or_below, is_some, is_some-find, list_any, map-Some, member, members, none_or_some, or_right}
use Rattle.history_laws.proofs.Common.{reaches, readings, refl, same_key, same_key-true, spent, sym, true, was_born, ℕ, ◌+◌, ◌==◌, ◌||◌}
use Rattle.history_laws.proofs.Common.{◌∙◌, ◌∷◌, ◌≡◌, ◌≤◌, ◌⊎◌}
use Rattle.history_laws.proofs.GrowthLaws.{Grows, Stays, Answers, Loses, Allocates, Ends}
use Rattle.history_laws.proofs.BirthLaws.{Comes, comes}
use Rattle.history_laws.proofs.ReachLaws.{parent_in, parent_born, reached_sound, ancestors_chain}
use Rattle.history_laws.proofs.SettledLaws.{In-was_born, Why, No_live, forced_why, find_birth}
use Rattle.history_laws.proofs.WholeLaws.{IsWhole, whole-called, whole-mark, whole_nothing, forced_leaves, parent_collection}

-- ---- lists

-- what was added to the list is the new element or an old one
pub In_new : {A : Type 0} (o : Option A) (xs : List A) (x : A) → In x (cons_option o xs) → (o ≡ Some x) ⊎ In x xs
In_new None xs x h = inr h
In_new (Some y) xs x (inl is) = inl (ap Some (sym is))
In_new (Some y) xs x (inr on) = inr on

-- an old element is there still
pub In_old : {A : Type 0} (o : Option A) (xs : List A) (x : A) → In x xs → In x (cons_option o xs)
In_old None xs x h = h
In_old (Some y) xs x h = inr h

-- a node that was born was born still
pub born_old : (o : Option Birth) (bs : List Birth) (key : NodeKey) → was_born bs key ≡ true → was_born (cons_option o bs) key ≡ true
born_old None bs key h = h
born_old (Some b) bs key h = or_right (same_key b.node key) _ h

-- a node of the collection is among those that stand in it
pub members_on : (marks : Timeline) (collection : ℕ) (b : Birth) → In b (births marks) → b.collection == collection ≡ true →
    In (member marks b) (members marks collection)
members_on marks collection b on ours =
    In-map-back (member marks) (births_in marks collection) b
    (In-reverse-back _ b (In-filter-back (λ (c : Birth). c.collection == collection) (births marks) b on ours))

-- ---- which nodes are born, and where

-- a node with a parent was born
child_born : (bs : List Birth) (node p : NodeKey) → parent_in bs node ≡ Some p → was_born bs node ≡ true
child_born bs node p up = elim (none_or_some (find (λ (b : Birth). same_key b.node node) bs)) [
  | inl e ↦ let no : None ≡ Some p = rw e at up in cc
  | inr some ↦ sym (is_some-find (λ (b : Birth). same_key b.node node) bs) ∙ ap is_some some.1
]

-- the reach of a node that was born was born
reach_born : (bs : List Birth) (blocks : NodeKey → Bool) (origin node : NodeKey) → AreSound bs → was_born bs origin ≡ true →
    Reach (parent_in bs) blocks origin node → was_born bs node ≡ true
reach_born bs blocks origin _ sound born Origin = born
reach_born bs blocks origin _ sound born (Up child above r free up) = parent_born bs child above sound up
reach_born bs blocks origin _ sound born (Down above child r up) = child_born bs child above up

-- a node at or below one that was born was born
below_born : (bs : List Birth) (top node : NodeKey) → AreSound bs → was_born bs top ≡ true → is_at_or_below bs top node ≡ true →
    was_born bs node ≡ true
below_born bs top node sound born h =
    from (ancestors bs node) (ancestors_chain (parent_in bs) bs (λ k _. refl) sound node refl) h
  where
    -- by cases on the ancestors: the node is the top one, or it has a parent and so was born
    from : (above : List NodeKey) → IsChain (parent_in bs) node above → (same_key top node || list_any (same_key top) above) ≡ true →
        was_born bs node ≡ true
    from [] chain h = elim (either_way (same_key top node)) [
      | inl e ↦ ap (was_born bs) (sym (same_key-true top node e)) ∙ born
      | inr e ↦ let no : false ≡ true = rw e at h in cc
    ]
    from (p ∷ above) chain h = child_born bs node p chain.0

-- a parent is among the births, in the child's collection
parent_is : (marks : Timeline) → IsWhole marks → (b : Birth) → In b (births marks) → (p : NodeKey) → b.parent ≡ Some p →
    (q : Birth) × In q (births marks) × (q.node ≡ p) × (q.collection ≡ b.collection)
parent_is marks w b on p up =
    let bs : List Birth = births marks in
    let up' : parent_in bs b.node ≡ Some p = rw (find_birth bs b w.sound on) up in
    let here : collection_in bs b.node ≡ Some b.collection = rw (find_birth bs b w.sound on) refl in
    let there : collection_in bs p ≡ Some b.collection = sym (parent_collection bs w.sound w.together b.node p up') ∙ here in
    let t = map-Some (λ (x : Birth). x.collection) (find (λ (x : Birth). same_key x.node p) bs) b.collection there in
    let f = In-find (λ (x : Birth). same_key x.node p) bs t.0 t.1 in
    (t.0, f.0, same_key-true t.0.node p f.1, t.2)

-- ---- what is preserved

-- a timeline that grows from nothing is whole
pub whole : (pool : ℕ) (limits : Bound) (marks : Timeline) → Grows pool limits [] marks → IsWhole marks
whole pool limits _ Stays = whole_nothing
whole pool limits _ (Answers before client reply call g answer) =
    whole-called limits before (client, call, reply) answer (whole pool limits before g)
whole pool limits _ (Loses before origin cause g born) = whole-mark before (Loss origin cause) refl tt (whole pool limits before g)
whole pool limits _ (Allocates before collection head g e) = whole-mark before (Allocated head) refl tt (whole pool limits before g)
whole pool limits _ (Ends before collection top g e) =
    let w : IsWhole before = whole pool limits before g in
    whole-mark before (Ended top) refl (forced_leaves pool collection before w (Ended top) e) w

record IsRooted (marks : Timeline) : Type 0 where
  pub early : (b : Birth) → In b (births marks) → b.collection ≤ events marks
  pub roots : (b c : Birth) → In b (births marks) → In c (births marks) → b.parent ≡ None → c.parent ≡ None → b.collection ≡ c.collection →
      b ≡ c
  pub gone_born : (k : NodeKey) → gone marks k ≡ true → was_born (births marks) k ≡ true

module _ (limits : Bound) (before : Timeline) (client : ℕ) (reply : Reply) (call : Call) (answer : IsAnswer limits (readings before) client
    call reply) (old : IsRooted before) where
  -- what the call bears
  abbrev new : Option Birth
  new = birth_at (events before + 1) (Called client reply call)

  -- what holds at the birth
  came : (b : Birth) → new ≡ Some b → Comes before client reply call b
  came b e = comes limits before client (events before + 1) reply call b answer e

  -- its collection was made by an event
  call_early : (b : Birth) → In b (cons_option new (births before)) → b.collection ≤ events before + 1
  call_early b on = elim (In_new new (births before) b on) [
    | inl e ↦ elim (came b e).from [
      | inl r ↦ let x : b.collection ≡ events before + 1 = r.1 in omega arith
      | inr r ↦ let x : b.collection ≡ r.0.collection = r.3 in let y : r.0.collection ≤ events before = old.early r.0 r.1 in omega arith
    ]
    | inr on ↦ let y : b.collection ≤ events before = old.early b on in omega arith
  ]

  -- a root that is new is of a new collection
  other_root : {P : Type 0} (b c : Birth) → new ≡ Some b → In c (births before) → b.parent ≡ None → b.collection ≡ c.collection → P
  other_root b c e on root same = elim (came b e).from [
    | inl r ↦ let x : b.collection ≡ events before + 1 =
        r.1 in let y : c.collection ≤ events before = old.early c on in absurd (omega arith)
    | inr r ↦ let x : None ≡ Some r.0.node = sym root ∙ r.2 in absurd (cc)
  ]

  -- a collection has one root still
  call_roots : (b c : Birth) → In b (cons_option new (births before)) → In c (cons_option new (births before)) → b.parent ≡ None →
      c.parent ≡ None → b.collection ≡ c.collection → b ≡ c
  call_roots b c on there root root' same = elim (In_new new (births before) b on) [
    | inl e ↦ elim (In_new new (births before) c there) [
      | inl f ↦ let x : Some b ≡ Some c = sym e ∙ f in cc
      | inr there ↦ other_root b c e there root same
    ]
    | inr on ↦ elim (In_new new (births before) c there) [
      | inl f ↦ other_root c b f on root' (sym same)
      | inr there ↦ old.roots b c on there root root' same
    ]
  ]

  -- so a call keeps all three
  rooted_call : IsRooted (Called client reply call ∷ before)
  rooted_call = record { early = call_early; roots = call_roots; gone_born = λ k h. born_old new (births before) k (old.gone_born k h) }

-- what a mark takes was born
taken_born : (bs : List Birth) (taken before : Bool) (k : NodeKey) → (taken || before) ≡ true → (taken ≡ true → was_born bs k ≡ true) →
    (before ≡ true → was_born bs k ≡ true) → was_born bs k ≡ true
taken_born bs true before k h takes old = takes refl
taken_born bs false before k h takes old = old h

-- a node that ends was born
end_born : (pool collection : ℕ) (marks : Timeline) (top : NodeKey) → Why pool collection marks (Ended top) →
    was_born (births marks) top ≡ true
end_born pool collection marks _ (No_live b on ours free none) = In-was_born (births marks) b on

-- each mark keeps them
rooted : (pool : ℕ) (limits : Bound) (marks : Timeline) → Grows pool limits [] marks → IsRooted marks
rooted pool limits _ Stays = record { early = λ b on. absurd on; roots = λ b c on there root root' same. absurd on; gone_born = λ k h. cc }
rooted pool limits _ (Answers before client reply call g answer) =
    rooted_call limits before client reply call answer (rooted pool limits before g)
rooted pool limits _ (Loses before origin cause g born) =
    let old : IsRooted before = rooted pool limits before g in
    let sound : AreSound (births before) = (whole pool limits before g).sound in
    record {
      early = old.early;
      roots = old.roots;
      gone_born = λ k h. taken_born (births before) (reaches before origin k) (gone before k) k h
          (λ e. reach_born (births before) (blocked before) origin k sound born (reached_sound (births before) sound (blocked before) origin
          k e))
          (old.gone_born k);
    }
rooted pool limits _ (Allocates before collection head g e) =
    let old : IsRooted before = rooted pool limits before g in
    record { early = old.early; roots = old.roots; gone_born = old.gone_born }
rooted pool limits _ (Ends before collection top g e) =
    let old : IsRooted before = rooted pool limits before g in
    record {
      early = old.early;
      roots = old.roots;
      gone_born = λ k h. taken_born (births before) (is_at_or_below (births before) top k) (gone before k) k h
          (below_born (births before) top k (whole pool limits before g).sound (end_born pool collection before top
          (forced_why pool collection before (Ended top) e)))
          (old.gone_born k);
    }

-- all that is known of the nodes
pub record IsOrdered (marks : Timeline) : Type 0 where
  pub sound : AreSound (births marks)
  -- a collection was made by an event
  pub early : (b : Birth) → In b (births marks) → b.collection ≤ events marks
  -- a parent is of the same collection
  pub parents : (b : Birth) → In b (births marks) → (p : NodeKey) → b.parent ≡ Some p → (q : Birth) × In q (births marks) × (q.node ≡ p) ×
      (q.collection ≡ b.collection)
  -- a collection has one root
  pub roots : (b c : Birth) → In b (births marks) → In c (births marks) → b.parent ≡ None → c.parent ≡ None → b.collection ≡ c.collection →
      b ≡ c
  pub gone_born : (k : NodeKey) → gone marks k ≡ true → was_born (births marks) k ≡ true
  -- a mark that takes a node takes all below it
  pub gone_down : (b : Birth) → In b (births marks) → (p : NodeKey) → b.parent ≡ Some p → gone marks p ≡ true → gone marks b.node ≡ true
  -- a node that went with no fault had its end spent
  pub ended_spent : (k : NodeKey) → gone marks k ≡ true → fault marks k ≡ None → spent marks k ≡ true

-- all of it, after each timeline that grows from nothing
pub ordered : (pool : ℕ) (limits : Bound) (marks : Timeline) → Grows pool limits [] marks → IsOrdered marks
ordered pool limits marks g =
    let w : IsWhole marks = whole pool limits marks g in
    let r : IsRooted marks = rooted pool limits marks g in
    record {
      sound = w.sound;
      early = r.early;
      parents = parent_is marks w;
      roots = r.roots;
      gone_born = r.gone_born;
      gone_down = λ b on p up h. w.below b.node p (rw (find_birth (births marks) b w.sound on) up) h;
      ended_spent = λ k h f. elim (either_way (spent marks k)) [
        | inl e ↦ e
        | inr e ↦ let no : false ≡ true = ap is_some (sym f) ∙ w.failed k h e in cc
      ];
    }
