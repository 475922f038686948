-- Which names a core knows behind an event: those from before, and those that the reply tells.
use Rattle.alike_cores.proofs.Common.{Bool, Call, Client, Collection, Entry, Fault, Forest, In, In-find, List, Makes, Node, NodeKey, None}
use Rattle.alike_cores.proofs.Common.{OpenEnd, Option, Parcel, Reply, Shows, Some, State, Work, Worked, [], ap, arith, birth_by, cond}
use Rattle.alike_cores.proofs.Common.{end_in, false, false≢true, flat_map, given, is_spent, joined_client, key_told, makes_node, new_key}
use Rattle.alike_cores.proofs.Common.{node_at, open_end_in, open_end_of, option_map_or, or_right, readings_of, refl, same_key}
use Rattle.alike_cores.proofs.Common.{same_key-refl, some-injective, subst, sym, total, true, work_of, ℕ, ◌+◌, ◌==◌, ◌∙◌, ◌≡◌, ◌≤◌}
use Rattle.sm_names.proofs.SamenessLaws.{and_then-Some, or_left}
use Rattle.core_state.specs.Kinds.{fits_call}
use Rattle.core_state.proofs.answers.Kinds.{reply-fits, token-made}
use Rattle.alike_cores.proofs.Known.{In-flat, KnownParcel, collection_known, parcel_known}
use Rattle.alike_cores.proofs.Told.{Tells, answer_told}

module _ (s later : State) (client : ℕ) (call : Call) (reply : Reply) (makes : Makes s later (client, call, reply)) where
  -- By the work: the forest has the keys from before, and one more if a node is born.
  pub keys_stay : (key : NodeKey) → given s.forest key ≡ true → given later.forest key ≡ true
  keys_stay key old = makes.after.keys.keys key ∙ by (work_of s client call reply) makes.after.work
    where
      -- by cases on the work
      by : (o : Option Work) → Worked s (total later.holds) o (new_key reply) makes.after.worked → given makes.after.worked key ≡ true
      by None same = ap (λ (f : Forest). given f key) same ∙ old
      by (Some w) settled =
          settled.keys key ∙ or_right (option_map_or (λ new. same_key new key) (new_key reply) false) (given s.forest key) old

  -- The key of the new node is given: only three calls are answered by one.
  pub new_there : (key : NodeKey) (collection : ℕ) → reply ≡ Reply.Token key collection → given later.forest key ≡ true
  new_there key collection is = makes.after.keys.keys key ∙ by call
      (subst (λ (r : Reply). Worked s (total later.holds) (work_of s client call r) (new_key r) makes.after.worked) is makes.after.work)
      (sym (token-made call) ∙ (ap (fits_call call) (sym is)
      ∙ reply-fits s.limits (readings_of s) client (key_told reply) call reply makes.answer.told))
    where
      -- by the call
      by : (c : Call) → Worked s (total later.holds) (birth_by s client c collection) (Some key) makes.after.worked → makes_node c ≡ true →
          given makes.after.worked key ≡ true
      by Call.OpenRoot settled made = settled.keys key ∙ or_left (same_key key key) (given s.forest key) (same_key-refl key)
      by (Call.Duplicate above) settled made = settled.keys key ∙ or_left (same_key key key) (given s.forest key) (same_key-refl key)
      by (Call.AttachToken above) settled made = settled.keys key ∙ or_left (same_key key key) (given s.forest key) (same_key-refl key)
      by _ same made = absurd (false≢true made)

  -- There is one event more.
  pub events_stay : (i : ℕ) → i ≤ s.events → i ≤ later.events
  events_stay i old = let more : later.events ≡ s.events + 1 = makes.after.events in omega arith

  -- its number is known then
  next_there : s.events + 1 ≤ later.events
  next_there = let more : later.events ≡ s.events + 1 = makes.after.events in omega arith

  module _ (history : List Entry) (shows : Shows s history) where
    -- a key is given behind the event
    abbrev pub IsGiven : NodeKey → Type 0
    IsGiven key = given later.forest key ≡ true

    -- a number is that of an event up to this one
    abbrev pub IsPast : ℕ → Type 0
    IsPast id = id ≤ later.events

    -- An end is that of a kept node, all of whose names are known.
    ends_known : (key : NodeKey) (e : OpenEnd) → end_in s key ≡ Some e →
        IsPast e.collection × ((f : Fault) → e.fault ≡ Some f → IsGiven f.origin)
    ends_known key e is =
        let found = and_then-Some (open_end_in s) (node_at s.forest key) e is in
        let there = In-find (λ (n : Node). same_key n.key key) (flat_map (λ (c : Collection). c.nodes) s.forest.collections) found.0
        found.1 in
        let c = In-flat (λ (c : Collection). c.nodes) s.forest.collections found.0 there.0 in
        let known = (collection_known s history shows c.0 c.1).nodes found.0 c.2 in
        by found.0 (is_spent found.0.end) found.2 (events_stay found.0.collection known.collection)
        (λ f has. keys_stay f.origin (known.fault f has))
      where
        -- by cases: a spent end is none
        by : (n : Node) (spent : Bool) → cond spent None (Some (open_end_of s n)) ≡ Some e → IsPast n.collection →
            ((f : Fault) → n.fault ≡ Some f → IsGiven f.origin) → IsPast e.collection × ((f : Fault) → e.fault ≡ Some f → IsGiven f.origin)
        by n true none id faults = cc
        by n false same id faults = subst (λ (x : OpenEnd). IsPast x.collection × ((f : Fault) → x.fault ≡ Some f → IsGiven f.origin))
            (some-injective (open_end_of s n) e same) (id, faults)

    -- So are those of a parcel that waits.
    parcels_known : (to : ℕ) (p : Parcel) → In p (option_map_or (λ (c : Client). c.waiting) (joined_client s to) []) →
        KnownParcel IsGiven IsPast p
    parcels_known to p there = by (joined_client s to) refl there
      where
        -- names that were known are known
        on : (q : Parcel) → KnownParcel (λ k. given s.forest k ≡ true) (λ i. i ≤ s.events) q → KnownParcel IsGiven IsPast q
        on (Parcel.End key) known = keys_stay key known
        on (Parcel.Handle buffer strength) known = events_stay buffer.collection known

        -- by cases on the client
        by : (o : Option Client) → joined_client s to ≡ o → In p (option_map_or (λ (c : Client). c.waiting) o []) →
            KnownParcel IsGiven IsPast p
        by None is none = absurd none
        by (Some c) is there =
            on p (parcel_known s history shows c (In-find (λ (x : Client). x.id == to) s.clients c is).0 p there)

    -- A reply tells names that the core knows behind it.
    pub reply_known : Tells IsGiven IsGiven IsPast IsPast reply
    reply_known = by reply refl (subst (Tells (λ k. Unit {0}) IsGiven IsPast IsPast) (sym makes.answer.told)
        (answer_told (λ k. Unit {0}) IsGiven IsPast IsPast (readings_of s) ends_known parcels_known next_there next_there (key_told reply)
        tt s.limits client call))
      where
        -- by the reply: only one tells of a new node
        by : (r : Reply) → reply ≡ r → Tells (λ k. Unit {0}) IsGiven IsPast IsPast r → Tells IsGiven IsGiven IsPast IsPast r
        by (Reply.Token key collection) is told = (new_there key collection is, told.1)
        by _ is told = told
