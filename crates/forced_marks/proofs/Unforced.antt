-- A change that forces nothing: its collection rested before, and rests after it.
use Rattle.forced_marks.proofs.Common.{Birth, Bool, BufferName, Buffers, Call, Called, Cause, Change, Collection, Counts, Decision}
use Rattle.forced_marks.proofs.Common.{Effect, Entry, Follows, Grows, HandleCounts, Handles, IfSome, In-any, In-filter, In-list_any}
use Rattle.forced_marks.proofs.Common.{In-map, List, Loses, MayChange, Node, NodeKey, None, Option, Reply, Some, StagesIn, State}
use Rattle.forced_marks.proofs.Common.{Strength, Timeline, Work, [], affected, ap, arith, beside, births, both_ways, changed, changed_by}
use Rattle.forced_marks.proofs.Common.{collection_at, collection_or_new, decided, either_way, every_rests, false, find, forced}
use Rattle.forced_marks.proofs.Common.{forced_made, forced_matches, has_collection, if◌then◌else◌, inl, inr, is_birth, is_kept, is_none}
use Rattle.forced_marks.proofs.Common.{is_of, is_root_left, is_some, legal_grows, list_any, list_any-append, lt-ltb, ltb-true, map}
use Rattle.forced_marks.proofs.Common.{mark_of, nat_le, nat_lt, new_child, node_of, not, option_map_or, own_stage, pages_in, refl}
use Rattle.forced_marks.proofs.Common.{same_key, same_key-refl, some-injective, standing, subst, sym, timeline, total, true, unwrap_or}
use Rattle.forced_marks.proofs.Common.{when, with_birth, with_nodes, work_of, ℕ, ◌&&◌, ◌++◌, ◌+◌, ◌-◌, ◌<◌, ◌∙◌, ◌∷◌, ◌≡◌, ◌≤◌, ◌⊎◌}
use Rattle.std.proofs.lemmas.List.Folds.{find-append}
use Rattle.std.specs.Option.{option_and_then, option_map, option_or}
use Rattle.sm_names.specs.declared.tracking.Fired.{Fired}
use Rattle.sm_names.specs.Answers.{new_key}
use Rattle.sm_names.specs.Handles.{drops, opens}
use Rattle.sm_names.specs.Members.{births_in}
use Rattle.sm_names.specs.Words.{first_some}
use Rattle.sm_names.proofs.ListLaws.{In}
use Rattle.sm_names.proofs.SamenessLaws.{map-None}
use Rattle.history_laws.proofs.IsolationLaws.{birth_of_collection}
use Rattle.history_laws.proofs.LifeLaws.{ordered}
use Rattle.forest_store.specs.Calm.{IsQuiescent}
use Rattle.forest_store.specs.CollectionRows.{is_strong}
use Rattle.forest_store.specs.Decisions.{has_strong}
use Rattle.forest_store.specs.Forest.{given}
use Rattle.forest_store.specs.Nodes.{is_unkept, new_root}
use Rattle.forest_store.specs.Settling.{Settled, buffer_names, no_key}
use Rattle.forest_store.proofs.changes.Effecting.{plain_affected}
use Rattle.forest_store.proofs.newborns.Calmness.{births_calm}
use Rattle.forest_store.proofs.newborns.NothingForced.{HaveOthers}
use Rattle.forest_store.proofs.quiescence.Calming.{IsPlain, any_map, calm_map, calm_none, decided_parts, find_map, none_calm}
use Rattle.forest_store.proofs.quiescence.Resting.{still_decided}
use Rattle.forest_steps.specs.NodeEffects.{KeepsCounts, keeps_counts}
use Rattle.forest_steps.proofs.mid_event.Counted.{counts_kept}
use Rattle.core_state.specs.Shown.{ShowsBut, collection_after, node_after, recalling}
use Rattle.core_state.specs.Steps.{Worked}
use Rattle.core_state.proofs.forced.Fits.{fresh_key}
use Rattle.core_state.proofs.forced.Starting.{follows}
use Rattle.core_state.proofs.theorem.OfHistory.{sound_of}
use Rattle.core_state.proofs.views.Nodes.{collection_there}
use Rattle.forced_marks.specs.Marks.{Rests, forces_nothing}

-- ---- what may be abandoned

-- the root is not abandoned: a strong node is live, or it has no buffers, or a strong handle is open
abbrev HasKeeper : List Node → Bool → Type 0
HasKeeper nodes strong_open =
    (has_strong nodes ≡ true)
    ⊎ ((option_map_or (λ (root : Node). root.allocated) (find is_root_left nodes) false && not strong_open) ≡ false)

-- so it is where nothing is decided
keeper_if : (strong strong_open : Bool) (o : Option Node) →
    option_and_then (λ (root : Node). when (root.allocated && (not strong && not strong_open)) (Loses root.key Cause.NoStrong)) o ≡ None →
    (strong ≡ true) ⊎ ((option_map_or (λ (root : Node). root.allocated) o false && not strong_open) ≡ false)
keeper_if true strong_open o none = inl refl
keeper_if false strong_open None none = inr refl
keeper_if false strong_open (Some root) none = elim (either_way (root.allocated && not strong_open)) [
  | inl e ↦ let no : Some (Loses root.key Cause.NoStrong) ≡ None = rw e at none in cc
  | inr e ↦ inr e
]

-- and it stays so where no strong node leaves, the root gets no buffers, and no handle is dropped
keeper_stays : (strong more allocated given before now : Bool) → (strong ≡ true → more ≡ true) →
    (allocated ≡ false → given ≡ false) → (before ≡ true → now ≡ true) →
    (strong ≡ true) ⊎ ((allocated && not before) ≡ false) → (more ≡ true) ⊎ ((given && not now) ≡ false)
keeper_stays strong more allocated given before now stays none opens (inl e) = inl (stays e)
keeper_stays strong more allocated given before true stays none opens (inr e) = inr (grind arith)
keeper_stays strong more allocated given true false stays none opens (inr e) = let no : false ≡ true = opens refl in cc
keeper_stays strong more true given false false stays none opens (inr e) = cc
keeper_stays strong more false given false false stays none opens (inr e) = inr (rw (none refl) refl)

-- the second of four is none, if none of them is
second_none : (a b c d : Option Decision) → first_some (a ∷ b ∷ c ∷ d ∷ []) ≡ None → b ≡ None
second_none a b c d h = grind arith

-- so a collection in which nothing is decided has a keeper
kept_by : (nodes : List Node) (buffers : Option Buffers) (strong_open : Bool) → decided nodes buffers strong_open ≡ None →
    HasKeeper nodes strong_open
kept_by nodes buffers strong_open none =
    keeper_if (has_strong nodes) strong_open (find is_root_left nodes) (second_none _ _ _ _ none)

-- whether the root is allocated
abbrev is_given : Option Node → Bool
is_given o = option_map_or (λ (root : Node). root.allocated) o false

-- ---- an effect that changes no count

module _ (key : NodeKey) (effect : Effect) (keeps : keeps_counts effect ≡ true) (c : Collection) (before now : Bool)
    (opens : before ≡ true → now ≡ true) (none : decided c.nodes c.buffers before ≡ None) where
  -- it changes none
  kept : KeepsCounts effect
  kept = counts_kept effect keeps

  -- nor what a step reads
  plain : (n : Node) → IsPlain (affected key effect n) n
  plain = plain_affected key effect kept.plain

  -- the root is as it was
  root_is : is_given (find is_root_left (map (affected key effect) c.nodes)) ≡ is_given (find is_root_left c.nodes)
  root_is =
      ap is_given (find_map _ _ (affected key effect) c.nodes (λ n. λ i. is_none ((plain n).parent i) && not ((plain n).gone i)))
      ∙ from (find is_root_left c.nodes)
    where
      from : (o : Option Node) → is_given (option_map (affected key effect) o) ≡ is_given o
      from None = refl
      from (Some n) = (plain n).allocated

  -- so nothing is decided
  effect_rests : decided (map (affected key effect) c.nodes) c.buffers now ≡ None
  effect_rests = still_decided (map (affected key effect) c.nodes) c.buffers now
      (none_calm (with_nodes (map (affected key effect)) c) (calm_map c _ plain (calm_none c (decided_parts _ _ before none))))
      (keeper_stays (has_strong c.nodes) (has_strong (map (affected key effect) c.nodes)) (is_given (find is_root_left c.nodes))
      (is_given (find is_root_left (map (affected key effect) c.nodes))) before now
      (λ e. any_map is_strong is_strong (affected key effect) c.nodes (kept.strong key) ∙ e) (λ e. root_is ∙ e) opens
      (kept_by c.nodes c.buffers before none))

-- ---- a birth

module _ (c : Collection) (before now : Bool) (opens : before ≡ true → now ≡ true) (none : decided c.nodes c.buffers before ≡ None)
    (attached : Bool) (client event : ℕ) (key : NodeKey) (fresh : list_any (is_of key) c.nodes ≡ false) (others : HaveOthers c.nodes key)
  where
    -- the collection is calm
    calm : IsQuiescent c
    calm = calm_none c (decided_parts _ _ before none)

    -- a root is without buffers
    root_rests : c.nodes ≡ [] → decided (with_birth None attached client event key c).nodes c.buffers now ≡ None
    root_rests empty = still_decided (c.nodes ++ new_root key c.id event client ∷ []) c.buffers now
        (none_calm (with_birth None attached client event key c) (births_calm c calm None attached client event key fresh others))
        (inr (ap (λ (ns : List Node). is_given (find is_root_left (ns ++ new_root key c.id event client ∷ [])) && not now) empty))

    -- a child is no root
    child_rests : (above : NodeKey) → decided (with_birth (Some above) attached client event key c).nodes
        (with_birth (Some above) attached client event key c).buffers now ≡ None
    child_rests above = still_decided (with_birth (Some above) attached client event key c).nodes
        (with_birth (Some above) attached client event key c).buffers now
        (none_calm (with_birth (Some above) attached client event key c)
        (births_calm c calm (Some above) attached client event key fresh others))
        (from (node_of c.nodes above))
      where
        -- by cases: a find past a child is none
        past : (o : Option Node) → is_given o ≡ false → is_given (option_or o None) ≡ false
        past None e = refl
        past (Some n) e = e

        -- by cases: without the node above nothing is born
        from : (o : Option Node) →
            HasKeeper (option_map_or (λ n. record c { nodes = c.nodes ++ new_child attached key event client n ∷ [] }) o c).nodes now
        from None = keeper_stays (has_strong c.nodes) (has_strong c.nodes) (is_given (find is_root_left c.nodes))
            (is_given (find is_root_left c.nodes)) before now (λ e. e) (λ e. e) opens (kept_by c.nodes c.buffers before none)
        from (Some n) = keeper_stays (has_strong c.nodes) (has_strong (c.nodes ++ new_child attached key event client n ∷ []))
            (is_given (find is_root_left c.nodes))
            (is_given (find is_root_left (c.nodes ++ new_child attached key event client n ∷ []))) before now
            (λ e. list_any-append is_strong c.nodes (new_child attached key event client n ∷ []) ∙ rw e refl)
            (λ e. ap is_given (find-append is_root_left c.nodes (new_child attached key event client n ∷ []))
            ∙ past (find is_root_left c.nodes) e) opens (kept_by c.nodes c.buffers before none)

-- ---- handles

-- what is open stays open where the counts do not fall
still_open : (old new : Handles) → ((buffer : BufferName) → old buffer Strength.Strong ≤ new buffer Strength.Strong) →
    (names : List BufferName) → list_any (λ b. nat_lt 0 (old b Strength.Strong)) names ≡ true →
    list_any (λ b. nat_lt 0 (new b Strength.Strong)) names ≡ true
still_open old new more names some =
    let x = In-list_any (λ b. nat_lt 0 (old b Strength.Strong)) names some in
    let was : 0 < old x.0 Strength.Strong = ltb-true 0 (old x.0 Strength.Strong) x.2 in
    let grows : old x.0 Strength.Strong ≤ new x.0 Strength.Strong = more x.0 in
    In-any (λ b. nat_lt 0 (new b Strength.Strong)) names x.0 x.1 (lt-ltb 0 (new x.0 Strength.Strong) (omega (arith, was, grows)))

-- a drop is no change that forces nothing
drops_none : (s : State) (client : ℕ) (reply : Reply) (call : Call) (w : Work) → work_of s client call reply ≡ Some w →
    forces_nothing w.change ≡ true → (buffer : BufferName) (strength : Strength) →
    drops (λ c. true) buffer strength (Called client reply call) ≡ false
drops_none s client Reply.Done (Call.DropHandle name dropped) w is still buffer strength =
    from (nat_le 2 (total s.holds name dropped)) (collection_at s.forest name.collection) is
  where
    -- by cases: a drop changes nothing, or its collection by nothing
    from : (b : Bool) (o : Option Collection) →
        (if b then None else option_map (λ (c : Collection). record { collection = name.collection; change = Change.Nothing }) o) ≡ Some w →
        drops (λ c. true) buffer strength (Called client Reply.Done (Call.DropHandle name dropped)) ≡ false
    from true o e = cc
    from false None e = cc
    from false (Some c) e = let no : false ≡ true = ap (λ (x : Work). forces_nothing x.change)
        (some-injective (record { collection = name.collection; change = Change.Nothing }) w e) ∙ still in cc
drops_none s client Reply.Done call w is still buffer strength = refl
drops_none s client reply call w is still buffer strength = refl

-- ---- the event

module _ (old new : State) (gone : List Fired) (history : List Entry) (client : ℕ) (call : Call) (reply : Reply)
    (shows : ShowsBut gone old history) (after : Follows old new client call reply) (w : Work)
    (is : work_of old client call reply ≡ Some w) (may : MayChange old.forest w.collection w.change)
    (still : forces_nothing w.change ≡ true) where
  -- the marks before the event
  abbrev marks : Timeline
  marks = timeline old.pool history

  -- they grow
  grown : Grows old.pool old.limits [] (timeline old.pool history)
  grown = legal_grows old.pool old.limits history shows.legal

  -- the collection before the event
  abbrev c0 : Collection
  c0 = collection_or_new old.forest w.collection

  -- whether a strong handle is open on its buffers, where so many are
  abbrev opened : Handles → Bool
  opened handles = list_any (λ b. nat_lt 0 (handles b Strength.Strong)) (buffer_names c0)

  -- nothing is decided in it
  rested : decided c0.nodes c0.buffers (opened (total old.holds)) ≡ None
  rested = from (collection_at old.forest w.collection) refl
    where
      new_one : Option Collection → Collection
      new_one o = unwrap_or o (record { id = w.collection; nodes = []; buffers = None; held = [] })

      from : (o : Option Collection) → collection_at old.forest w.collection ≡ o → decided (new_one o).nodes (new_one o).buffers
          (list_any (λ b. nat_lt 0 (total old.holds b Strength.Strong)) (buffer_names (new_one o))) ≡ None
      from None e = refl
      from (Some c) e =
          let there = collection_there (recalling gone old) marks shows.shown old.limits grown w.collection c e in
          let counts : Counts (total old.holds) marks =
          λ buffer strength. ap (λ (h : HandleCounts). h.total buffer strength) shows.shown.handles in
          let none : forced old.pool (standing (total old.holds) (beside old.forest w.collection) c) ≡ None =
          ap (λ (x : Collection). forced old.pool (standing (total old.holds) (beside old.forest w.collection) x)) there.1
          ∙ (forced_matches old.pool old.limits (is_kept marks) marks (beside old.forest w.collection)
          (collection_after old.pool marks w.collection) grown
          (follows (recalling gone old) marks shows.shown old.limits grown w.collection) (total old.holds) counts
          ∙ every_rests old.pool old.limits history shows.legal.answers w.collection) in
          map-None _ _ (sym (forced_made (total old.holds) old.pool (beside old.forest w.collection) c) ∙ none)

  -- no count of handles falls
  grows : (buffer : BufferName) → total old.holds buffer Strength.Strong ≤ total new.holds buffer Strength.Strong
  grows buffer =
      let count : ℕ = total old.holds buffer Strength.Strong in
      let more : ℕ = if opens (λ c. true) buffer Strength.Strong (Called client reply call) then 1 else 0 in
      let by : total new.holds buffer Strength.Strong ≡ (count + more) - 0 =
      ap (λ (h : HandleCounts). h.total buffer Strength.Strong) after.handles
      ∙ ap (λ (b : Bool). (count + more) - (if b then 1 else 0)) (drops_none old client reply call w is still buffer Strength.Strong) in
      omega (arith, by)

  -- the work was done
  settled : Settled old.pool (total new.holds) old.forest after.worked w.collection w.change (new_key reply)
  settled = subst (λ (o : Option Work). Worked old (total new.holds) o (new_key reply) after.worked) is after.work

  -- a key that a node gets was given to none
  fresh_given : is_birth w.change ≡ true → given old.forest (unwrap_or (new_key reply) no_key) ≡ false
  fresh_given birth = from (new_key reply) (settled.told ∙ birth) settled.fresh
    where
      from : (o : Option NodeKey) → is_some o ≡ true → IfSome o (λ k. given old.forest k ≡ false) →
          given old.forest (unwrap_or o no_key) ≡ false
      from None some fresh = cc
      from (Some k) some fresh = fresh

  -- nor is it a parent's
  none_below : (key : NodeKey) → given old.forest key ≡ false → HaveOthers c0.nodes key
  none_below key fresh n on here up = from (collection_at old.forest w.collection) refl on
    where
      from : (o : Option Collection) → collection_at old.forest w.collection ≡ o →
          In n (unwrap_or o (record { id = w.collection; nodes = []; buffers = None; held = [] })).nodes → ⊥
      from None e there = absurd there
      from (Some c) e there =
          let is : c ≡ collection_after old.pool marks w.collection =
          (collection_there (recalling gone old) marks shows.shown old.limits grown w.collection c e).1 in
          let m = In-map (node_after marks) (births_in marks w.collection) n
          (In-filter (λ x. not (is_unkept x)) _ n (subst (λ (x : Collection). In n x.nodes) is there)).0 in
          let q = (ordered old.pool old.limits marks grown).parents m.0 (birth_of_collection marks w.collection m.0 m.1).0 key
          (ap (λ (x : Node). x.parent) (sym m.2) ∙ up) in
          both_ways (given old.forest key)
          (shows.shown.given key (In-any (λ (b : Birth). same_key b.node key) (births marks) q.0 q.1
          (ap (λ (k : NodeKey). same_key k key) q.2 ∙ same_key-refl key))) fresh

  -- a root's collection is new
  empty_new : not (has_collection old.forest w.collection) ≡ true → c0.nodes ≡ []
  empty_new none = from (collection_at old.forest w.collection) none
    where
      from : (o : Option Collection) → not (is_some o) ≡ true →
          (unwrap_or o (record { id = w.collection; nodes = []; buffers = None; held = [] })).nodes ≡ []
      from None e = refl
      from (Some c) e = cc

  -- nothing is decided once it is changed
  changed_rests : (change : Change) → w.change ≡ change → let c : Collection = changed change (unwrap_or (new_key reply) no_key) c0 in
      decided c.nodes c.buffers (opened (total new.holds)) ≡ None
  changed_rests (Change.Birth parent attached client event) e =
      let key : NodeKey = unwrap_or (new_key reply) no_key in
      let new_to_all : given old.forest key ≡ false = fresh_given (ap is_birth e) in
      let fresh : list_any (is_of key) c0.nodes ≡ false =
      fresh_key old.forest (sound_of (recalling gone old) marks shows.shown old.limits grown) w.collection key new_to_all in
      by parent (subst (λ (x : Change). MayChange old.forest w.collection x) e may) fresh (none_below key new_to_all)
    where
      by : (parent : Option NodeKey) → MayChange old.forest w.collection (Change.Birth parent attached client event) →
          list_any (is_of (unwrap_or (new_key reply) no_key)) c0.nodes ≡ false →
          HaveOthers c0.nodes (unwrap_or (new_key reply) no_key) →
          let c : Collection = with_birth parent attached client event (unwrap_or (new_key reply) no_key) c0 in
          decided c.nodes c.buffers (opened (total new.holds)) ≡ None
      by None fits fresh others = root_rests c0 _ _ (still_open (total old.holds) (total new.holds) grows (buffer_names c0)) rested
          attached client event _ fresh others (empty_new fits.named)
      by (Some above) fits fresh others =
          child_rests c0 _ _ (still_open (total old.holds) (total new.holds) grows (buffer_names c0)) rested
          attached client event _ fresh others above
  changed_rests (Change.Effect key effect) e =
      effect_rests key effect (ap forces_nothing (sym e) ∙ still) c0 _ _
      (still_open (total old.holds) (total new.holds) grows (buffer_names c0)) rested
  changed_rests (Change.Loss origin cause) e = let no : false ≡ true = ap forces_nothing (sym e) ∙ still in cc
  changed_rests Change.Nothing e = let no : false ≡ true = ap forces_nothing (sym e) ∙ still in cc

  -- its buffers are the same
  names_same : (change : Change) → w.change ≡ change →
      buffer_names (changed change (unwrap_or (new_key reply) no_key) c0) ≡ buffer_names c0
  names_same (Change.Birth None attached client event) e = refl
  names_same (Change.Birth (Some above) attached client event) e = from (node_of c0.nodes above)
    where
      from : (o : Option Node) → buffer_names (option_map_or
          (λ n. record c0 { nodes = c0.nodes ++ new_child attached (unwrap_or (new_key reply) no_key) event client n ∷ [] }) o c0)
          ≡ buffer_names c0
      from None = refl
      from (Some n) = refl
  names_same (Change.Effect key effect) e = refl
  names_same (Change.Loss origin cause) e = refl
  names_same Change.Nothing e = refl

  -- the change is no mark itself
  own_none : (change : Change) → forces_nothing change ≡ true → own_stage change c0 ++ [] ≡ []
  own_none (Change.Birth parent attached client event) e = refl
  own_none (Change.Effect key effect) e = refl
  own_none (Change.Loss origin cause) e = cc
  own_none Change.Nothing e = refl

  -- nothing is forced
  none_forced : forced old.pool (standing (total new.holds) (beside old.forest w.collection) (changed_by old reply w)) ≡ None
  none_forced =
      let c : Collection = changed_by old reply w in
      forced_made (total new.holds) old.pool (beside old.forest w.collection) c
      ∙ ap (option_map (mark_of old.pool (pages_in c ++ beside old.forest w.collection)))
      (ap (λ (names : List BufferName). decided c.nodes c.buffers (list_any (λ b. nat_lt 0 (total new.holds b Strength.Strong)) names))
      (names_same w.change refl) ∙ changed_rests w.change refl)

  -- so the event has no stage
  pub unforced : StagesIn old (total new.holds) reply (Some w) []
  unforced = (
    changed_by old reply w,
    record {
      marks = [];
      settles = Rests (changed_by old reply w) none_forced;
      gained = sym (own_none w.change still);
    },
  )
