-- A Take is never answered with an empty set.
use Rattle.core_state.proofs.Common.{Allocated, Allocates, Answers, AreTogether, Birth, Bool, Bound, BufferName, Buffers, Call, Called}
use Rattle.core_state.proofs.Common.{Cause, Ends, Entry, Failure, Grows, In, In-any, In-find, In-list_any, In-map, Initial, IsAnswer}
use Rattle.core_state.proofs.Common.{IsOrdered, List, Logical, Loses, Loss, MAX_BUFFERS, Mark, Member, NodeKey, None, Option, Reply, Some}
use Rattle.core_state.proofs.Common.{Standing, Stays, Strength, Timeline, Why, [], abandoned, allocated, and-false, and_left, and_right}
use Rattle.core_state.proofs.Common.{ap, arith, asked, birth_of, births, bit_at, bit_at-zero, bit_of_set, both_ways, buffer_names}
use Rattle.core_state.proofs.Common.{buffers_of, collection_in, cond, doomed, either_way, eq-eqb, eqb-true, every_rests, false, false_if}
use Rattle.core_state.proofs.Common.{fault, filter, find, find_birth, first_some, forced_why, given_root, gone, initial_failure, inl, inr}
use Rattle.core_state.proofs.Common.{is_none, is_root, is_some, is_some-find, list_any, lt-ltb, ltb-true, map-Some, member, member_birth}
use Rattle.core_state.proofs.Common.{members, named, named_below, names, nat_lt, next_forced, none_if, none_key, none_or_some, not, one}
use Rattle.core_state.proofs.Common.{open_end, open_total, opens, option_map_or, ordered, pages_of, places, range_with_len, readings}
use Rattle.core_state.proofs.Common.{refl, root_left, same_buffer, same_buffer-refl, same_key, same_key-true, same_strength, set_of}
use Rattle.core_state.proofs.Common.{some_strong_live, spent, standing, strength_of, subst, suc, sym, timeline, took_effect_all, true}
use Rattle.core_state.proofs.Common.{weak, when, whole, zero, ℕ, ◌&&◌, ◌++◌, ◌<◌, ◌==◌, ◌∙◌, ◌∷◌, ◌≡◌, ◌⊎◌}
use Rattle.sm_names.specs.Legality.{AreAnswers}
use Rattle.history_laws.proofs.CountLaws.{anyone}
use Rattle.history_laws.proofs.GrowthLaws.{grows_history, AreAnswers-append}
use Rattle.history_laws.proofs.LifeLaws.{members_on}
use Rattle.sm_names.proofs.ForcedLaws.{at_rest}
use Rattle.sm_names.proofs.SamenessLaws.{not_none, same_strength-refl}
use Rattle.history_laws.proofs.TakeLaws.{took}
use Rattle.core_state.proofs.collections.Roots.{HasRoot, has_root}

-- ---- a collection is given one buffer at least

-- where nothing stands against it, there is one
second_false : (a b c d : Bool) (x y z w : Failure) → first_some (when a x ∷ when b y ∷ when c z ∷ when d w ∷ []) ≡ None → b ≡ false
second_false true b c d x y z w h = cc
second_false false true c d x y z w h = cc
second_false false false c d x y z w h = refl

-- what is not nothing is more
above_nothing : (n : ℕ) → (n == 0) ≡ false → 0 < n
above_nothing zero h = cc
above_nothing (suc n) h = omega arith

-- each collection was given one buffer at least
abbrev HaveSome : Timeline → Type 0
HaveSome marks = (c : ℕ) (w : Buffers) → buffers_of marks c ≡ Some w → 0 < w.count

module _ (pool : ℕ) (limits : Bound) where
  -- an allocation gives some
  some_after : (before : Timeline) (collection : ℕ) (head : NodeKey) → Grows pool limits [] before →
      Why pool collection before (Allocated head) → HaveSome before → HaveSome (Allocated head ∷ before)
  some_after before collection _ g (Initial b on ours root free waits found fits) old c w h =
      let is : birth_of before b.node ≡ Some b = find_birth (births before) b (ordered pool limits before g).sound on in
      elim (either_way (b.collection == c)) [
        | inl e ↦
            let same : collection ≡ c = sym (eqb-true b.collection collection ours) ∙ eqb-true b.collection c e in
            let v : Buffers = asked (members before c) in
            let told : Some (asked (members before c)) ≡ Some w = rw (is, root, e) at h in
            let fits' : initial_failure pool (standing pool before c) (asked (members before c)) ≡ None =
            subst (λ (k : ℕ). initial_failure pool (standing pool before k) (asked (members before k)) ≡ None) same fits in
            let none : (v.count == 0) ≡ false =
            second_false (not (some_strong_live (members before c))) (v.count == 0) (nat_lt MAX_BUFFERS v.count)
            (is_none (places pool (pages_of v.size) v.count (standing pool before c).held)) Failure.NoStrong Failure.NoBuffers
            Failure.TooManyBuffers Failure.PoolFull fits' in
            let is_it : asked (members before c) ≡ w = cc in
            subst (λ (x : Buffers). 0 < x.count) is_it (above_nothing v.count none)
        | inr e ↦ old c w (rw (is, root, e) at h)
      ]
  some_after before collection _ g (Logical b on ours child free waits attached) old c w h =
      let is : birth_of before b.node ≡ Some b = find_birth (births before) b (ordered pool limits before g).sound on in
      let up : is_none b.parent ≡ false = not_none b.parent child in
      old c w (rw (is, up) at h)

  -- so each has some
  pub have_some : (marks : Timeline) → Grows pool limits [] marks → HaveSome marks
  have_some _ Stays c w h = cc
  have_some _ (Loses before origin cause g born) c w h = have_some before g c w h
  have_some _ (Ends before collection top g e) c w h = have_some before g c w h
  have_some _ (Answers before client reply call g answer) c w h = have_some before g c w h
  have_some _ (Allocates before collection head g e) c w h =
      some_after before collection head g (forced_why pool collection before (Allocated head) e) (have_some before g) c w h

-- ---- a node that is not gone has a root that is not gone

-- if the root is gone, so is each node of its collection
module _ (marks : Timeline) (ord : IsOrdered marks) (root : Birth) (there : In root (births marks)) (top : root.parent ≡ None)
    (taken : gone marks root.node ≡ true) where
  -- each node of a gone root's collection is gone, by induction from the oldest birth
  gone_with_root : (bs : List Birth) → ((b : Birth) → In b bs → In b (births marks)) → AreTogether bs → (b : Birth) → In b bs →
      root.collection ≡ b.collection → gone marks b.node ≡ true
  gone_with_root [] among together b on same = absurd on
  gone_with_root (c ∷ older) among together b (inr on) same = gone_with_root older (λ q far. among q (inr far)) together.1 b on same
  gone_with_root (c ∷ older) among together b (inl here) same =
      subst (λ (x : Birth). gone marks x.node ≡ true) (sym here)
      (below (λ q on. gone_with_root older (λ x far. among x (inr far)) together.1 q on) c.parent refl)
    where
      ours : root.collection ≡ c.collection
      ours = same ∙ ap (λ (x : Birth). x.collection) here

      below : ((q : Birth) → In q older → root.collection ≡ q.collection → gone marks q.node ≡ true) → (o : Option NodeKey) → c.parent ≡ o →
          gone marks c.node ≡ true
      below above None up =
          let is : root ≡ c = ord.roots root c there (among c (inl refl)) top up ours in
          subst (λ (x : Birth). gone marks x.node ≡ true) is taken
      below above (Some p) up =
          let in_it : collection_in older p ≡ Some c.collection = rw up at together.0 in
          let m = map-Some (λ (x : Birth). x.collection) (find (λ x. same_key x.node p) older) c.collection in_it in
          let f = In-find (λ x. same_key x.node p) older m.0 m.1 in
          let parent_gone : gone marks m.0.node ≡ true = above m.0 f.0 (ours ∙ sym m.2) in
          let is : m.0.node ≡ p = same_key-true m.0.node p f.1 in
          ord.gone_down c (among c (inl refl)) p up (subst (λ (k : NodeKey). gone marks k ≡ true) is parent_gone)

-- ---- a buffer that is kept

-- what is not abandoned is kept by a strong node or a strong handle
kept_by : (l a k : Bool) (x : Mark) → l ≡ true → when (l && (not a && not k)) x ≡ None → (a ≡ true) ⊎ (k ≡ true)
kept_by true true k x is h = inl refl
kept_by true false true x is h = inr refl
kept_by true false false x is h = cc
kept_by false a k x is h = cc

-- a buffer beside a strong live node is not doomed
by_node : (g z a : Bool) → a ≡ true → (g && (z && not a)) ≡ false
by_node true true true is = refl
by_node true false true is = refl
by_node false z true is = refl
by_node g z false is = cc

-- nor is one on which a strong handle is open
by_handle : (g a : Bool) (n : ℕ) → nat_lt 0 n ≡ true → (g && (n == 0 && not a)) ≡ false
by_handle g a n is =
    let more : 0 < n = ltb-true 0 n is in
    let some : (n == 0) ≡ false = false_if (n == 0) (λ h. let none : n ≡ 0 = eqb-true n 0 h in omega (arith, more)) in
    rw some (and-false g)

module _ (pool : ℕ) (limits : Bound) (marks : Timeline) (grown : Grows pool limits [] marks) (rest : (c : ℕ) →
    next_forced pool c marks ≡ None) where
  -- the root of a node that is not gone is left
  root_is_left : (b : Birth) → In b (births marks) → gone marks b.node ≡ false → is_some (root_left (members marks b.collection)) ≡ true
  root_is_left b on here =
      let r : HasRoot (births marks) b.collection = has_root (births marks) (whole pool limits marks grown).together b on in
      let stays : gone marks r.root.node ≡ false = false_if (gone marks r.root.node) (λ h.
      both_ways (gone marks b.node) (gone_with_root marks (ordered pool limits marks grown) r.root r.there r.is_root h (births marks)
      (λ x far. far) (whole pool limits marks grown).together b on r.ours) here) in
      let test : (is_none r.root.parent && not (gone marks r.root.node)) ≡ true = rw (r.is_root, stays) refl in
      is_some-find (λ (m : Member). is_root m && not m.gone) (members marks b.collection)
      ∙ In-any (λ (m : Member). is_root m && not m.gone) (members marks b.collection) (member marks r.root)
      (members_on marks b.collection r.root r.there (eq-eqb r.root.collection b.collection r.ours)) test

  -- the root of a collection that was given buffers is allocated
  root_allocated : (c : ℕ) (m : Member) → is_some (buffers_of marks c) ≡ true → root_left (members marks c) ≡ Some m → m.allocated ≡ true
  root_allocated c m given e =
      let f = In-find (λ m. is_root m && not m.gone) (members marks c) m e in
      let r = member_birth marks c m f.0 in
      let top : r.0.parent ≡ None = none_if r.0.parent (ap is_root (sym r.2) ∙ and_left (is_root m) (not m.gone) f.1) in
      ap (λ (m : Member). m.allocated) r.2
      ∙ given_root pool limits marks grown r.0 r.1 top (ap (λ (k : ℕ). is_some (buffers_of marks k)) (eqb-true r.0.collection c r.3)
      ∙ given)

  -- a strong node or a strong handle keeps such a collection as long as a node of it is not gone
  kept : (b : Birth) → In b (births marks) → gone marks b.node ≡ false → is_some (buffers_of marks b.collection) ≡ true →
      (some_strong_live (members marks b.collection) ≡ true) ⊎ ((standing pool marks b.collection).strong_open ≡ true)
  kept b on here given =
      let s : Standing = standing pool marks b.collection in
      elim (none_or_some (root_left (members marks b.collection))) [
        | inl e ↦ both_ways (is_some (root_left (members marks b.collection))) (root_is_left b on here) (ap is_some e)
        | inr found ↦
            let none : abandoned s ≡ None = (at_rest pool s (rest b.collection)).none_abandoned in
            let left : when (found.0.allocated && (not (some_strong_live s.members) && not s.strong_open))
            (Loss found.0.key Cause.NoStrong) ≡ None = rw found.1 at none in
            kept_by found.0.allocated (some_strong_live s.members) s.strong_open (Loss found.0.key Cause.NoStrong)
            (root_allocated b.collection found.0 given found.1) left
      ]

  -- so one of its buffers is not doomed
  one_kept : (b : Birth) → In b (births marks) → gone marks b.node ≡ false → (w : Buffers) → buffers_of marks b.collection ≡ Some w →
      (i : ℕ) × (nat_lt i w.count ≡ true) × (doomed marks (record { collection = b.collection; index = i }) ≡ false)
  one_kept b on here w given =
      elim (kept b on here (ap is_some given)) [
        | inl strong ↦ (0, lt-ltb 0 w.count (have_some pool limits marks grown b.collection w given), by_node _ _ _ strong)
        | inr handle ↦ with_handle handle
      ]
    where
      with_handle : (standing pool marks b.collection).strong_open ≡ true → (i : ℕ) × (nat_lt i w.count ≡ true) ×
          (doomed marks (record { collection = b.collection; index = i }) ≡ false)
      with_handle some =
          let named : list_any (λ (x : BufferName). nat_lt 0 (open_total marks x Strength.Strong)) (names b.collection w.count) ≡ true =
          rw given at some in
          let t = In-list_any (λ (x : BufferName). nat_lt 0 (open_total marks x Strength.Strong)) (names b.collection w.count) named in
          let m = In-map (λ i. record { collection = b.collection; index = i }) (range_with_len 0 w.count) t.0 t.1 in
          let it : list_any (λ x. same_buffer x t.0) (names b.collection w.count) ≡ true =
          In-any (λ x. same_buffer x t.0) (names b.collection w.count) t.0 t.1 (same_buffer-refl t.0) in
          let low : nat_lt t.0.index w.count ≡ true =
          and_right (b.collection == t.0.collection) _ (sym (named_below b.collection w.count t.0) ∙ it) in
          let stays : doomed marks t.0 ≡ false = by_handle _ _ (open_total marks t.0 Strength.Strong) t.2 in
          (m.0, ap (λ (x : BufferName). nat_lt x.index w.count) (sym m.2) ∙ low, ap (doomed marks) (sym m.2) ∙ stays)

  -- ---- what a Take answers

  module _ (bound : Bound) (client collection : ℕ) (taken : Strength) (set : ℕ) (key : NodeKey) (answer : IsAnswer bound (readings marks)
      client (Call.Take key) (Reply.Taken collection taken set)) where
    -- the Take of the node
    abbrev call : Call
    call = Call.Take key

    -- the reply that names the collection, the strength and the set of buffers opened
    abbrev reply : Reply
    reply = Reply.Taken collection taken set

    -- the node's unit was given buffers
    given_some : (b : Birth) (strength : Strength) (other : ℕ) (a : Bool) (o : Option Buffers) →
        reply ≡ option_map_or (λ x. Reply.Taken b.collection strength other) (cond a o None) Reply.Pending →
        ((w : Buffers) × (o ≡ Some w)) × (collection ≡ b.collection)
    given_some b strength other true None e = cc
    given_some b strength other true (Some w) e = let same : collection ≡ b.collection = cc in ((w, refl), same)
    given_some b strength other false None e = cc
    given_some b strength other false (Some w) e = cc

    -- some bit of the set is 1
    pub some_taken : (i : ℕ) × (bit_at set i ≡ 1)
    some_taken =
        let t = took_effect_all bound (readings marks) client none_key call reply refl refl answer.told in
        let n = named bound marks client none_key call reply key t refl in
        let b : Birth = n.birth in
        let told : reply ≡ option_map_or (λ x.
        Reply.Taken b.collection (strength_of (weak marks b.node)) (set_of (open_end marks b).to_open)) (open_end marks b).buffers
        Reply.Pending =
        rw (n.unspent, n.found) at t.answered in
        let g = given_some b _ _ (allocated marks b.node) (buffers_of marks b.collection) told in
        let here : gone marks b.node ≡ false = false_if (gone marks b.node) (λ h.
        both_ways (spent marks key) (ord_spent (subst (λ (k : NodeKey). gone marks k ≡ true) n.is h) n.unfailed) n.unspent) in
        let o = one_kept b n.there here g.0.0 g.0.1 in
        let set_is : set ≡ set_of (filter passes (buffer_names marks b.collection)) =
        (took bound marks client collection taken set call answer).set_is
        ∙ ap (λ c. set_of (filter passes (buffer_names marks c))) g.1 in
        (o.0, ap (λ m. bit_at m o.0) set_is ∙ in_set b.collection g.0.0 g.0.1 o.0 o.1 o.2)
      where
        passes : BufferName → Bool
        passes name = not (doomed marks name)

        ord_spent : gone marks key ≡ true → fault marks key ≡ None → spent marks key ≡ true
        ord_spent = (ordered pool limits marks grown).ended_spent key

        in_set : (c : ℕ) (w : Buffers) → buffers_of marks c ≡ Some w → (i : ℕ) → nat_lt i w.count ≡ true →
            doomed marks (record { collection = c; index = i }) ≡ false →
            bit_at (set_of (filter (λ name. not (doomed marks name)) (buffer_names marks c))) i ≡ 1
        in_set c w given i low stays =
            rw given (bit_of_set (λ name. not (doomed marks name)) c w.count i ∙ ap one (λ j. low j && not (stays j)))

    -- so it is not empty
    pub not_empty : 0 < set
    not_empty = above_nothing set (false_if (set == 0) (λ h.
        let none : set ≡ 0 = eqb-true set 0 h in
        let off : bit_at set some_taken.0 ≡ 0 = ap (λ m. bit_at m some_taken.0) none ∙ bit_at-zero some_taken.0 in
        let no : 1 ≡ 0 = sym some_taken.1 ∙ off in
        cc))

    -- and a handle is opened on some buffer
    pub some_opened : (buffer : BufferName) × (opens anyone buffer taken (Called client reply call) ≡ true)
    some_opened =
        let s : same_strength taken taken ≡ true = same_strength-refl taken in
        let c : (collection == collection) ≡ true = eq-eqb collection collection refl in
        let b : (bit_at set some_taken.0 == 1) ≡ true = eq-eqb (bit_at set some_taken.0) 1 some_taken.1 in
        (record { collection = collection; index = some_taken.0 }, λ i. c i && (s i && b i))

-- ---- in a history

-- the answer before which this history was, and that nothing was forced then
pub record Stood (pool : ℕ) (limits : Bound) (history : List Entry) (entry : Entry) : Type 0 where
  pub grown : Grows pool limits [] (timeline pool history)
  pub rest : (c : ℕ) → next_forced pool c (timeline pool history) ≡ None
  pub answer : IsAnswer limits (readings (timeline pool history)) entry.0 entry.1 entry.2

-- so it stood before each event of a legal history
pub stood : (pool : ℕ) (limits : Bound) (before more : List Entry) (entry : Entry) → AreAnswers pool limits [] (before ++ entry ∷ more) →
    Stood pool limits before entry
stood pool limits before more entry answers =
    let r = AreAnswers-append pool limits [] before (entry ∷ more) answers in
    record { grown = grows_history pool limits [] [] before Stays r.0; rest = every_rests pool limits before r.0; answer = r.1.0 }
