-- The collections once an event's change and all that it forces are made, in cores that are alike.
use Rattle.alike_cores.proofs.Common.{AreAlikeCores, AreOnce, Change, Collection, CountsAlike, Forest, Handles, IfSome, In, In-find}
use Rattle.alike_cores.proofs.Common.{IsSound, KeepsIds, KeepsKeys, List, Mixed, Node, NodeKey, None, Option, Rise, Settles, Some, State}
use Rattle.alike_cores.proofs.Common.{Work, Worked, [], ap, both_ways, change_renamed, changed, collection_at, collection_or_new}
use Rattle.alike_cores.proofs.Common.{collection_renamed, eqb-true, false, given, given_back, ids, inl, inr, is_birth, map, none_or_some}
use Rattle.alike_cores.proofs.Common.{option_map, put, refl, some-injective, subst, sym, true, undated, unwrap_or, ℕ, ◌==◌, ◌∙◌, ◌≡◌, ◌⊎◌}
use Rattle.std.proofs.Common.{is_some}
use Rattle.forest_store.specs.Forest.{beside}
use Rattle.forest_store.specs.Settling.{Settled, no_key}
use Rattle.core_state.proofs.collections.ById.{put_from, put_rises, put_there}
use Rattle.alike_cores.proofs.Changing.{changed-renamed, given-renamed}
use Rattle.alike_cores.proofs.Finding.{AreApart, one_collection, sound_apart}
use Rattle.alike_cores.proofs.Nodes.{any_key, changed_id, settles_id, settles_keep, starts}
use Rattle.alike_cores.proofs.Settling.{SamePages, beside-alike, put-alike, settled-alike}
use Rattle.alike_cores.proofs.Working.{start-alike, work_renamed, work_undated}

-- ---- collections stay apart

module _ (pool : ℕ) (handles : Handles) (f worked : Forest) (sound : IsSound f) (i : ℕ) (change : Change) (key : Option NodeKey)
    (settled : Settled pool handles f worked i change key) where
  -- the collection that is changed
  abbrev before : Collection
  before = collection_or_new f i

  -- and as it is put
  abbrev after : Collection
  after = given_back handles settled.after

  -- By cases: it is found by the id, or is new with it.
  before_id : before.id ≡ i
  before_id = by (none_or_some (collection_at f i))
    where
      -- by cases on the collection
      by : (collection_at f i ≡ None) ⊎ ((c : Collection) × (collection_at f i ≡ Some c)) → before.id ≡ i
      by (inl none) = rw none refl
      by (inr found) = rw found.1
          (eqb-true found.0.id i (In-find (λ (c : Collection). c.id == i) f.collections found.0 found.1).1)

  -- A new one has no node.
  before_in : (n : Node) → In n before.nodes → In before f.collections
  before_in n there = by (none_or_some (collection_at f i))
    where
      -- restates the hypothesis with the collection as it is then
      new : collection_at f i ≡ None → ⊥
      new none = subst (λ (o : Option Collection). In n (unwrap_or o (record { id = i; nodes = []; buffers = None; held = [] })).nodes)
          none there

      -- by cases on the collection
      by : (collection_at f i ≡ None) ⊎ ((c : Collection) × (collection_at f i ≡ Some c)) → In before f.collections
      by (inl none) = absurd (new none)
      by (inr found) = rw found.1 (In-find (λ (c : Collection). c.id == i) f.collections found.0 found.1).0

  -- The id stays.
  after_id : after.id ≡ i
  after_id =
      settles_id pool handles (beside f i) (changed change (unwrap_or key no_key) before) settled.after settled.settles
      ∙ (changed_id change (unwrap_or key no_key) before ∙ before_id)

  -- A new key is that of no node that there was, since each of these was given.
  unused : is_birth change ≡ true → (c : Collection) (n : Node) → In c f.collections → In n c.nodes → n.key ≡ unwrap_or key no_key → ⊥
  unused birth c n c_in n_in = by key settled.told settled.fresh
    where
      -- by cases on the key: a birth has one
      by : (o : Option NodeKey) → is_some o ≡ is_birth change → IfSome o (λ k. given f k ≡ false) → n.key ≡ unwrap_or o no_key → ⊥
      by None told fresh is = both_ways true refl (sym (told ∙ birth))
      by (Some k) told fresh is =
          both_ways (given f k) (subst (λ (j : NodeKey). given f j ≡ true) is ((sound.fit c c_in n n_in).key)) fresh

  -- no key stands twice in the collection that is put
  after_once : AreOnce after.nodes
  after_once =
      (settles_keep pool handles (beside f i) (changed change (unwrap_or key no_key) before) settled.after settled.settles).once
      ((starts change (unwrap_or key no_key) before).once (λ birth n there. unused birth before n (before_in n there) there) (λ n m n_in.
      sound.once before (before_in n n_in) n m n_in))

  -- A node of another collection has another key than each of this one.
  after_apart : (n m : Node) (d : Collection) → In n after.nodes → In d f.collections → In m d.nodes → n.key ≡ m.key → d.id ≡ i
  after_apart n m d n_in d_in m_in same = by ((starts change (unwrap_or key no_key) before).from kept.0 kept.1)
    where
      -- it stems from a node behind the change
      kept : (x : Node) × In x (changed change (unwrap_or key no_key) before).nodes × (x.key ≡ n.key)
      kept = (settles_keep pool handles (beside f i) (changed change (unwrap_or key no_key) before) settled.after settled.settles).from
          n n_in

      -- which is new, or one from before
      by : ((is_birth change ≡ true) × (kept.0.key ≡ unwrap_or key no_key)) ⊎ ((x : Node) × In x before.nodes × (x.key ≡ kept.0.key)) →
          d.id ≡ i
      by (inl new) = absurd (unused new.0 d m d_in m_in (sym same ∙ (sym kept.2 ∙ new.1)))
      by (inr old) =
          sym (sound.apart before d (before_in old.0 old.1) d_in old.0 m old.1 m_in (old.2 ∙ (kept.2 ∙ same)))
          ∙ before_id

  -- the collections with the one that is put
  abbrev all : List Collection
  all = put after f.collections

  -- they stand by their ids
  all_rise : Rise (ids all)
  all_rise = put_rises after f.collections sound.rising

  -- One of them that has the id is the one that is put.
  is_after : (d : Collection) → In d all → d.id ≡ i → d ≡ after
  is_after d d_in is = one_collection all all_rise d after d_in (put_there after f.collections) (is ∙ sym after_id)

  -- no two of them have one id, and no two nodes one key
  pub worked_apart : AreApart worked.collections
  worked_apart = subst AreApart (sym settled.collections) (record {
    ids = one_collection all all_rise;
    keys = λ c d c_in d_in n m n_in m_in same.
        both c d c_in d_in n m n_in m_in same (put_from after f.collections c c_in) (put_from after f.collections d d_in);
  })
    where
      -- by which of the two is the one that is put
      both : (c d : Collection) → In c all → In d all → (n m : Node) → In n c.nodes → In m d.nodes → n.key ≡ m.key →
          (c ≡ after) ⊎ In c f.collections → (d ≡ after) ⊎ In d f.collections → n ≡ m
      both c d c_in d_in n m n_in m_in same (inl a) (inl b) =
          after_once n m (subst (λ (x : Collection). In n x.nodes) a n_in) (subst (λ (x : Collection). In m x.nodes) b m_in) same
      both c d c_in d_in n m n_in m_in same (inl a) (inr b) =
          let here = subst (λ (x : Collection). In n x.nodes) a n_in in
          let is : d ≡ after = is_after d d_in (after_apart n m d here b m_in same) in
          after_once n m here (subst (λ (x : Collection). In m x.nodes) is m_in) same
      both c d c_in d_in n m n_in m_in same (inr a) (inl b) =
          let here = subst (λ (x : Collection). In m x.nodes) b m_in in
          let is : c ≡ after = is_after c c_in (after_apart m n c here a n_in (sym same)) in
          after_once n m (subst (λ (x : Collection). In n x.nodes) is n_in) here same
      both c d c_in d_in n m n_in m_in same (inr a) (inr b) = (sound_apart f sound).keys c d a b n m n_in m_in same

-- ---- collections stay alike

-- the collections are alike, and no key and no id stands twice
pub record AreWorked (to : NodeKey → NodeKey) (id : ℕ → ℕ) (cs ds : List Collection) : Type 0 where
  pub alike : Mixed (map (collection_renamed to id) cs) (map undated ds)
  pub apart : AreApart cs

module _ (to : NodeKey → NodeKey) (id number : ℕ → ℕ) (keeps : KeepsKeys to) (kept : KeepsIds id) (s t : State)
    (alike : AreAlikeCores to id number s t) (s_sound : IsSound s.forest) (t_sound : IsSound t.forest) (before after : Handles)
    (counts : CountsAlike id before after) (left right : Forest) where
  -- the collections of the first are apart
  abbrev s_apart : AreApart s.forest.collections
  s_apart = sound_apart s.forest s_sound

  -- By the key: a birth has the new one, and no other change reads it.
  pub start : (w v : Work) → work_undated v ≡ work_renamed to id w → (key : Option NodeKey) → is_some key ≡ is_birth w.change →
      is_some (option_map to key) ≡ is_birth v.change →
      collection_renamed to id (changed w.change (unwrap_or key no_key) (collection_or_new s.forest w.collection))
      ≡ undated (changed v.change (unwrap_or (option_map to key) no_key) (collection_or_new t.forest v.collection))
  start w v same key told again =
      sym (changed-renamed to id keeps w.change (unwrap_or key no_key) (collection_or_new s.forest w.collection))
      ∙ (with_key key told again
      ∙ changed-renamed (λ k. k) (λ j. j) (λ a b. refl) v.change (unwrap_or (option_map to key) no_key)
      (collection_or_new t.forest v.collection))
    where
      -- the changes are alike
      changes : change_renamed to w.change ≡ change_renamed (λ k. k) v.change
      changes = sym (ap (λ (x : Work). x.change) same)

      -- and so are the collections
      collections : collection_renamed to id (collection_or_new s.forest w.collection) ≡ undated (collection_or_new t.forest v.collection)
      collections = start-alike to id number keeps kept s t alike s_apart w.collection
          ∙ ap (λ (j : ℕ). undated (collection_or_new t.forest j)) (sym (ap (λ (x : Work). x.collection) same))

      -- a renamed change is a birth if the change is
      birth_kept : (c : Change) → is_birth (change_renamed (λ k. k) c) ≡ is_birth c
      birth_kept (Change.Birth parent attached client event) = refl
      birth_kept _ = refl

      -- by cases on the key
      with_key : (o : Option NodeKey) → is_some o ≡ is_birth w.change → is_some (option_map to o) ≡ is_birth v.change →
          changed (change_renamed to w.change) (to (unwrap_or o no_key))
          (collection_renamed to id (collection_or_new s.forest w.collection))
          ≡ changed (change_renamed (λ k. k) v.change) (unwrap_or (option_map to o) no_key)
          (undated (collection_or_new t.forest v.collection))
      with_key (Some k) told again = λ i. changed (changes i) (to k) (collections i)
      with_key None told again =
          (λ i. changed (changes i) (to no_key) (collections i))
          ∙ any_key (change_renamed (λ k. k) v.change) (to no_key) no_key (undated (collection_or_new t.forest v.collection))
          (birth_kept v.change ∙ sym again)

  -- What is put is alike, since it settles from what is alike beside the same pages.
  put_alike : (w v : Work) → work_undated v ≡ work_renamed to id w → (key : Option NodeKey) →
      (one : Settled s.pool before s.forest left w.collection w.change key) →
      (other : Settled t.pool after t.forest right v.collection v.change (option_map to key)) →
      collection_renamed to id (given_back before one.after) ≡ undated (given_back after other.after)
  put_alike w v same key one other =
      sym (given-renamed to id keeps before after counts one.after)
      ∙ (ap (given_back after) (settled-alike to id keeps s.pool before after counts (beside s.forest w.collection)
      (beside t.forest v.collection) pages (changed w.change (unwrap_or key no_key) (collection_or_new s.forest w.collection))
      (changed v.change (unwrap_or (option_map to key) no_key) (collection_or_new t.forest v.collection)) one.after other.after
      (start w v same key one.told other.told) one.settles
      (subst (λ (pool : ℕ). Settles pool after (beside t.forest v.collection)
      (changed v.change (unwrap_or (option_map to key) no_key) (collection_or_new t.forest v.collection)) other.after)
      alike.pool other.settles))
      ∙ given-renamed (λ k. k) (λ j. j) (λ a b. refl) after after (λ b strength. refl) other.after)
    where
      -- the pages of the other collections
      pages : SamePages (beside s.forest w.collection) (beside t.forest v.collection)
      pages = subst (λ (j : ℕ). SamePages (beside s.forest w.collection) (beside t.forest j)) (sym (ap (λ (x : Work). x.collection) same))
          (beside-alike to id kept s.forest.collections t.forest.collections alike.collections w.collection)

  -- By what is changed: nothing, or one collection.
  pub worked-alike : (o p : Option Work) → option_map work_undated p ≡ option_map (work_renamed to id) o → (key : Option NodeKey) →
      Worked s before o key left → Worked t after p (option_map to key) right → AreWorked to id left.collections right.collections
  worked-alike None None same key one other = record {
    alike = subst (λ (f : Forest). Mixed (map (collection_renamed to id) f.collections) (map undated right.collections)) (sym one)
        (subst (λ (f : Forest). Mixed (map (collection_renamed to id) s.forest.collections) (map undated f.collections)) (sym other)
        alike.collections);
    apart = subst (λ (f : Forest). AreApart f.collections) (sym one) s_apart;
  }
  worked-alike None (Some v) same key one other = cc
  worked-alike (Some w) None same key one other = cc
  worked-alike (Some w) (Some v) same key one other = record {
    alike = subst (λ (cs : List Collection). Mixed (map (collection_renamed to id) cs) (map undated right.collections))
        (sym one.collections)
        (subst (λ (ds : List Collection). Mixed (map (collection_renamed to id) (put (given_back before one.after) s.forest.collections))
        (map undated ds)) (sym other.collections)
        (put-alike to id kept (given_back before one.after) (given_back after other.after)
        (put_alike w v (some-injective (work_undated v) (work_renamed to id w) same) key one other)
        s.forest.collections t.forest.collections s_sound.rising t_sound.rising alike.collections));
    apart = worked_apart s.pool before s.forest left s_sound w.collection w.change key one;
  }
