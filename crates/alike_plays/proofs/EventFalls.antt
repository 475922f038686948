-- The nodes that an event takes, in cores that are alike.
use Rattle.alike_plays.proofs.Common.{AreAlikeCores, AreStages, Call, Collection, CountsAlike, Entry, Follows, GoneNode, In, In-append}
use Rattle.alike_plays.proofs.Common.{In-find, KeepsIds, KeepsKeys, KnownGone, List, Makes, NodeKey, None, Option, Reply, SamePages}
use Rattle.alike_plays.proofs.Common.{Shows, Some, State, [], ap, call_renamed, change_renamed, changed, collection_renamed, falls_at}
use Rattle.alike_plays.proofs.Common.{false, flat_map, flat_map-append, given, gone_renamed, inl, inr, is_birth, keys_stay, map}
use Rattle.alike_plays.proofs.Common.{map-append, new_key, no_key, none_or_some, option_map, option_map_or, or_left, own_stage}
use Rattle.alike_plays.proofs.Common.{reply_renamed, same_key, same_key-refl, some-injective, sound_apart, stages, subst, sym, total}
use Rattle.alike_plays.proofs.Common.{true, undated, ℕ, ◌++◌, ◌==◌, ◌||◌, ◌∙◌, ◌≡◌, ◌⊎◌}
use Rattle.std.specs.Option.{unwrap_or}
use Rattle.sm_names.proofs.SamenessLaws.{some_is}
use Rattle.forest_store.specs.Forest.{beside, collection_at}
use Rattle.forest_store.specs.Settling.{collection_or_new}
use Rattle.core_state.specs.Steps.{Work, Worked, work_of}
use Rattle.core_state.specs.Whole.{IsSound}
use Rattle.forced_marks.specs.Marks.{SettlesInStages, Stage, StagesIn, changed_by}
use Rattle.alike_cores.proofs.Events.{new_key-renamed}
use Rattle.alike_cores.proofs.Known.{collection_known}
use Rattle.alike_cores.proofs.Settling.{beside-alike}
use Rattle.alike_cores.proofs.Worked.{start}
use Rattle.alike_cores.proofs.Working.{start-alike, work-alike, work_renamed, work_undated}
use Rattle.alike_plays.proofs.Falling.{own-alike, settles-alike}
use Rattle.alike_plays.proofs.FallsKnown.{AllKnown, changed_known, own_known, settles_known}

-- ---- alike cores

module _ (to : NodeKey → NodeKey) (id number : ℕ → ℕ) (keeps : KeepsKeys to) (kept : KeepsIds id) (s t later again : State)
    (alike : AreAlikeCores to id number s t) (s_sound : IsSound s.forest) (t_sound : IsSound t.forest)
    (counts : CountsAlike id (total later.holds) (total again.holds)) (client : ℕ) (call : Call) (reply : Reply)
    (one : Follows s later client call reply)
    (other : Follows t again client (call_renamed to id call) (reply_renamed to id number reply)) where
  -- the reply of the second
  abbrev told : Reply
  told = reply_renamed to id number reply

  -- By what is changed: the same nodes fall.
  by_work : (o p : Option Work) → option_map work_undated p ≡ option_map (work_renamed to id) o →
      Worked s (total later.holds) o (new_key reply) one.worked →
      Worked t (total again.holds) p (option_map to (new_key reply)) other.worked → (marks more : List Stage) →
      StagesIn s (total later.holds) reply o marks → StagesIn t (total again.holds) told p more →
      flat_map falls_at more ≡ map (gone_renamed to) (flat_map falls_at marks)
  by_work None None same w v marks more is is_too =
      ap (flat_map falls_at) is_too ∙ sym (ap (λ (ms : List Stage). map (gone_renamed to) (flat_map falls_at ms)) is)
  by_work None (Some v) same worked worked_too marks more is is_too = cc
  by_work (Some w) None same worked worked_too marks more is is_too = cc
  by_work (Some w) (Some v) same worked worked_too marks more is is_too =
      ap (flat_map falls_at) there.gained
      ∙ (flat_map-append falls_at (own_stage v.change d) (stages s.pool (beside t.forest v.collection) (changed_by t told v) there.marks)
      ∙ ((λ i. own-alike to id keeps c d starts w.change v.change changes i
      ++ settles-alike to id keeps s.pool (total later.holds) (total again.holds) counts (beside s.forest w.collection)
      (beside t.forest v.collection) pages (changed_by s reply w) (changed_by t told v) is.0 is_too.0 is.1.marks there.marks behind
      is.1.settles there.settles i)
      ∙ (sym (map-append (gone_renamed to) (flat_map falls_at (own_stage w.change c))
      (flat_map falls_at (stages s.pool (beside s.forest w.collection) (changed_by s reply w) is.1.marks)))
      ∙ sym (ap (map (gone_renamed to)) (ap (flat_map falls_at) is.1.gained
      ∙ flat_map-append falls_at (own_stage w.change c)
      (stages s.pool (beside s.forest w.collection) (changed_by s reply w) is.1.marks))))))
    where
      -- the change is the renamed one
      work : work_undated v ≡ work_renamed to id w
      work = some-injective (work_undated v) (work_renamed to id w) same

      -- and its kind
      changes : change_renamed (λ key. key) v.change ≡ change_renamed to w.change
      changes = ap (λ (x : Work). x.change) work

      -- the collections to which it is made
      c : Collection
      c = collection_or_new s.forest w.collection

      -- and the other
      d : Collection
      d = collection_or_new t.forest v.collection

      -- are alike
      starts : collection_renamed to id c ≡ undated d
      starts = start-alike to id number keeps kept s t alike (sound_apart s.forest s_sound) w.collection
          ∙ ap (λ (j : ℕ). undated (collection_or_new t.forest j)) (sym (ap (λ (x : Work). x.collection) work))

      -- and so they are behind it
      behind : collection_renamed to id (changed_by s reply w) ≡ undated (changed_by t told v)
      behind = start to id number keeps kept s t alike s_sound t_sound (total later.holds) (total again.holds) counts s.forest t.forest
          w v work (new_key reply) worked.told worked_too.told
          ∙ ap (λ (o : Option NodeKey). undated (changed v.change (unwrap_or o no_key) d)) (sym (new_key-renamed to id number reply))

      -- the other collections hold the same pages
      pages : SamePages (beside s.forest w.collection) (beside t.forest v.collection)
      pages = subst (λ (j : ℕ). SamePages (beside s.forest w.collection) (beside t.forest j)) (sym (ap (λ (x : Work). x.collection) work))
          (beside-alike to id kept s.forest.collections t.forest.collections alike.collections w.collection)

      -- in the same pool
      there : SettlesInStages s.pool (total again.holds) (beside t.forest v.collection) (changed_by t told v) is_too.0
          (own_stage v.change d) more
      there = subst (λ (pool : ℕ). SettlesInStages pool (total again.holds) (beside t.forest v.collection) (changed_by t told v) is_too.0
          (own_stage v.change d) more) alike.pool is_too.1

  -- So the nodes that fall are the renamed ones.
  pub event_falls : (marks more : List Stage) → AreStages s later client call reply marks →
      AreStages t again client (call_renamed to id call) told more →
      flat_map falls_at more ≡ map (gone_renamed to) (flat_map falls_at marks)
  event_falls marks more is is_too =
      by_work (work_of s client call reply) (work_of t client (call_renamed to id call) told)
      (work-alike to id number keeps kept s t alike (sound_apart s.forest s_sound) client call reply) one.work
      (subst (λ (key : Option NodeKey). Worked t (total again.holds) (work_of t client (call_renamed to id call) told) key other.worked)
      (new_key-renamed to id number reply) other.work)
      marks more is is_too

-- ---- names that are known

module _ (s later : State) (history : List Entry) (shows : Shows s history) (client : ℕ) (call : Call) (reply : Reply)
    (makes : Makes s later (client, call, reply)) where
  -- the later core gave the key
  abbrev IsKey : NodeKey → Type 0
  IsKey key = given later.forest key ≡ true

  -- What stands in a collection is known; a new one has no node.
  start_known : (i : ℕ) → AllKnown IsKey (collection_or_new s.forest i).nodes
  start_known i = by (none_or_some (collection_at s.forest i))
    where
      -- by cases on the collection
      by : (collection_at s.forest i ≡ None) ⊎ ((c : Collection) × (collection_at s.forest i ≡ Some c)) →
          AllKnown IsKey (collection_or_new s.forest i).nodes
      by (inl none) n there = absurd (subst (λ (o : Option Collection).
          In n (unwrap_or o (record { id = i; nodes = []; buffers = None; held = [] })).nodes) none there)
      by (inr found) n there =
          let old = (collection_known s history shows found.0
          (In-find (λ (c : Collection). c.id == i) s.forest.collections found.0 found.1).0).nodes n
          (subst (λ (o : Option Collection). In n (unwrap_or o (record { id = i; nodes = []; buffers = None; held = [] })).nodes) found.1
          there) in
          record {
            key = keys_stay s later client call reply makes n.key old.key;
            fault = λ f is. keys_stay s later client call reply makes f.origin (old.fault f is);
          }

  -- By what is changed: the nodes that fall are known.
  known_by : (o : Option Work) → Worked s (total later.holds) o (new_key reply) makes.after.worked → (marks : List Stage) →
      StagesIn s (total later.holds) reply o marks → (g : GoneNode) → In g (flat_map falls_at marks) → KnownGone IsKey g
  known_by None worked marks is g there = absurd (subst (λ (ms : List Stage). In g (flat_map falls_at ms)) is there)
  known_by (Some w) worked marks is g there =
      elim (In-append (flat_map falls_at (own_stage w.change (collection_or_new s.forest w.collection))) (flat_map falls_at later_marks) g
      (subst (In g) (ap (flat_map falls_at) is.1.gained
      ∙ flat_map-append falls_at (own_stage w.change (collection_or_new s.forest w.collection)) later_marks) there)) [
        | inl own ↦ own_known IsKey w.change (collection_or_new s.forest w.collection) (start_known w.collection) g own
        | inr on ↦ settles_known IsKey s.pool (total later.holds) (beside s.forest w.collection) (changed_by s reply w) is.0 is.1.marks
            (changed_known IsKey w.change (unwrap_or (new_key reply) no_key) (collection_or_new s.forest w.collection) new
            (start_known w.collection)) is.1.settles g on
      ]
    where
      -- the marks that are forced
      later_marks : List Stage
      later_marks = stages s.pool (beside s.forest w.collection) (changed_by s reply w) is.1.marks

      -- the key of a new node is given
      new : is_birth w.change ≡ true → IsKey (unwrap_or (new_key reply) no_key)
      new birth =
          let k = some_is (new_key reply) (worked.told ∙ birth) in
          subst (λ (o : Option NodeKey). IsKey (unwrap_or o no_key)) (sym k.1) (makes.after.keys.keys k.0
          ∙ (worked.keys k.0 ∙ (ap (λ (o : Option NodeKey). option_map_or (λ (x : NodeKey). same_key x k.0) o false || given s.forest k.0) k.1
          ∙ or_left (same_key k.0 k.0) (given s.forest k.0) (same_key-refl k.0))))

  -- So those are that an event takes.
  pub event_known : (marks : List Stage) → AreStages s later client call reply marks → (g : GoneNode) →
      In g (flat_map falls_at marks) → KnownGone IsKey g
  event_known marks is g there = known_by (work_of s client call reply) makes.after.work marks is g there
