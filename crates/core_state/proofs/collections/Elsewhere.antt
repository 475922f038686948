-- An event leaves each collection but its own as it was.
use Rattle.core_state.proofs.Common.{Answers, Birth, Bool, Bound, BufferName, Call, Called, Cause, Comes, End, EndPlace, Grows, HasEnd}
use Rattle.core_state.proofs.Common.{HeldBuffer, In, In-filter, In-was_born, In_old, IsAnswer, IsWhole, Loss, Mark, NodeKey, None, Option}
use Rattle.core_state.proofs.Common.{Reply, Some, Strength, Timeline, [], after, ancestors, ap, birth_at, birth_is, birth_of}
use Rattle.core_state.proofs.Common.{birth_of_collection, births, births_in, both_ways, buffers_of, collection_after, collection_of}
use Rattle.core_state.proofs.Common.{comes, cons_option, end_by, eq-eqb, eqb-true, events, false, false_if, filter, filter-In}
use Rattle.core_state.proofs.Common.{filter-swap, find_birth, first_some, grows_lost, held_after, home, inl, inr, is_doomed, is_some}
use Rattle.core_state.proofs.Common.{is_unkept, key_of, map, map-In, member, members, node_after, nodes_after, none_or_some, not}
use Rattle.core_state.proofs.Common.{not_refused_end, of_ours, open_total, option_and_then, option_map, option_map_or, other_key}
use Rattle.core_state.proofs.Common.{own_loss, placed, readings, refl, same_key, same_key-true, settled, some_strong_live, subst, sym}
use Rattle.core_state.proofs.Common.{true, was_born, whole, ℕ, ◌&&◌, ◌+◌, ◌==◌, ◌∙◌, ◌∷◌, ◌≡◌}
use Rattle.sm_names.specs.Timelines.{buffer_of, opened_by}
use Rattle.history_laws.proofs.BirthLaws.{ancestors_old}
use Rattle.history_laws.proofs.GrowthLaws.{own_loss_origin}
use Rattle.core_state.proofs.nodes.Answered.{nodes-answered, answered_other, said_other, no_birth}
use Rattle.core_state.proofs.collections.MarksApart.{IsIn}
use Rattle.core_state.proofs.nodes.Called.{answered, rest_called}
use Rattle.core_state.proofs.ends.NotRead.{placed_node}
use Rattle.core_state.proofs.handles.Counts.{open_elsewhere}
use Rattle.core_state.proofs.collections.ForcedApart.{SameBeside, same_beside_mark, settled_beside}
use Rattle.core_state.proofs.lists.Maps.{map-map_In}
use Rattle.core_state.proofs.nodes.Newborn.{old_node, nodes-elsewhere, births-elsewhere, births-none}

-- ---- the call

module _ (pool : ℕ) (limits : Bound) (marks : Timeline) (grown : Grows pool limits [] marks) (client : ℕ) (reply : Reply) (call : Call)
    (answer : IsAnswer limits (readings marks) client call reply) where
  -- the marks with that of the call
  abbrev called : Timeline
  called = Called client reply call ∷ marks

  -- what it bears
  abbrev new : Option Birth
  new = birth_at (events marks + 1) (Called client reply call)

  -- the marks grow with it
  pub grown_called : Grows pool limits [] (Called client reply call ∷ marks)
  grown_called = Answers marks client reply call grown answer

  -- how what it bears comes about
  pub came : (b : Birth) → birth_at (events marks + 1) (Called client reply call) ≡ Some b → Comes marks client reply call b
  came b e = comes limits marks client (events marks + 1) reply call b answer e

  -- a node that the call names tells its collection
  pub named_in : (b : Birth) → In b (births marks) → key_of call ≡ Some b.node →
      collection_of (Called client reply call ∷ marks) call reply ≡ Some b.collection
  named_in b on is =
      let there : In b (births called) = In_old new (births marks) b on in
      let now : birth_of called b.node ≡ Some b = find_birth (births called) b (whole pool limits called grown_called).sound there in
      let k : option_and_then (birth_of called) (key_of call) ≡ Some b = ap (option_and_then (birth_of called)) is ∙ now in
      ap (λ (o : Option Birth). first_some (option_map (λ (x : Birth). x.collection) o ∷ option_map (λ (x : BufferName).
      x.collection) (buffer_of call) ∷ opened_by call reply ∷ [])) k

  -- so does the root that it makes
  root_in : (event : ℕ) (reply : Reply) (call : Call) (b : Birth) → birth_at event (Called client reply call) ≡ Some b → b.parent ≡ None →
      collection_of (Called client reply call ∷ marks) call reply ≡ Some b.collection
  root_in event (Reply.Token key collection) Call.OpenRoot b h root = ap (option_map (λ (c : Birth). c.collection)) h
  root_in event (Reply.Token key collection) (Call.Duplicate parent) b h root =
      let no : Some parent ≡ None = ap (option_and_then (λ (c : Birth). c.parent)) h ∙ root in cc
  root_in event (Reply.Token key collection) (Call.AttachToken parent) b h root =
      let no : Some parent ≡ None = ap (option_and_then (λ (c : Birth). c.parent)) h ∙ root in cc
  root_in event reply call b h root = cc

  -- a node that is born is of the call's collection
  pub born_in : (b : Birth) → birth_at (events marks + 1) (Called client reply call) ≡ Some b →
      collection_of (Called client reply call ∷ marks) call reply ≡ Some b.collection
  born_in b e = elim (came b e).from [
    | inl r ↦ root_in (events marks + 1) reply call b e r.0
    | inr r ↦ named_in r.0 r.1 ((came b e).below ∙ r.2) ∙ ap Some (sym r.3)
  ]

  module _ (theirs : ℕ) (away : collection_of (Called client reply call ∷ marks) call reply ≡ Some theirs → ⊥) where
    -- the collection of the call is not theirs
    pub not_theirs : (c : ℕ) → collection_of (Called client reply call ∷ marks) call reply ≡ Some c → (c == theirs) ≡ false
    not_theirs c of = false_if (c == theirs) (λ e. away (of ∙ ap Some (eqb-true c theirs e)))

    -- no birth is theirs
    births_called : births_in (Called client reply call ∷ marks) theirs ≡ births_in marks theirs
    births_called = elim (none_or_some new) [
      | inl e ↦ births-none marks (Called client reply call) theirs e
      | inr some ↦
          births-elsewhere marks (Called client reply call) some.0 theirs some.1 (not_theirs some.0.collection (born_in some.0 some.1))
    ]

    -- none of their nodes is named
    unnamed : (b : Birth) → In b (births_in marks theirs) → (key : NodeKey) → key_of call ≡ Some key → same_key key b.node ≡ false
    unnamed b on key is =
        let t = birth_of_collection marks theirs b on in
        false_if (same_key key b.node) (λ e. both_ways (b.collection == theirs) t.1 (not_theirs b.collection (named_in b t.0 (is
        ∙ ap Some (same_key-true key b.node e)))))

    -- so each stays, but for its end
    rest_stays : (b : Birth) → In b (births_in marks theirs) →
        record (node_after (Called client reply call ∷ marks) b) { end = End.Spent } ≡ record (node_after marks b) { end = End.Spent }
    rest_stays b on = elim (none_or_some new) [
      | inl e ↦
          rest_called marks client b (λ key end. End.Spent) reply call (no_birth (events marks + 1) 0 (Called client reply call) e)
          ∙ ap (placed_node (λ key end. End.Spent)) (said_other reply call (node_after marks b) (unnamed b on))
      | inr some ↦
          let born : was_born (births marks) b.node ≡ true = In-was_born (births marks) b (birth_of_collection marks theirs b on).0 in
          ap (placed_node (λ key end. End.Spent)) (old_node marks client reply call some.0 b some.1 (other_key (births marks) b.node
          some.0.node born (came some.0 some.1).fresh))
    ]

    -- and stands as it stood
    member_called : (b : Birth) → In b (births_in marks theirs) → member (Called client reply call ∷ marks) b ≡ member marks b
    member_called b on =
        let n = rest_stays b on in
        let born : was_born (births marks) b.node ≡ true = In-was_born (births marks) b (birth_of_collection marks theirs b on).0 in
        let lines : ancestors (births called) b.node ≡ ancestors (births marks) b.node =
        ancestors_old new (births marks) b.node born (λ c e. (came c e).fresh) in
        λ i. record {
          key = b.node;
          parent = b.parent;
          above = lines i;
          attached = b.attached;
          head = (n i).head;
          allocated = (n i).allocated;
          gone = (n i).gone;
          released = (n i).released;
          dispensable = (n i).dispensable;
          weak = (n i).weak;
          constraints = (n i).constraints;
        }

    -- so do all of them
    members_called : members (Called client reply call ∷ marks) theirs ≡ members marks theirs
    members_called = ap (map (member called)) births_called ∙ map-In (member called) (member marks) (births_in marks theirs) member_called

    -- which of their buffers are home
    pub home_called : (buffer : BufferName) → buffer.collection ≡ theirs →
        home (Called client reply call ∷ marks) buffer ≡ home marks buffer
    home_called buffer is =
        let count : (strength : Strength) → open_total called buffer strength ≡ open_total marks buffer strength =
        open_elsewhere pool limits marks grown client reply call answer buffer (λ of. away (of ∙ ap Some is)) in
        let strong : members called buffer.collection ≡ members marks buffer.collection =
        subst (λ (k : ℕ). members called k ≡ members marks k) (sym is) members_called in
        λ i. (is_some (buffers_of marks buffer.collection) && is_doomed (count Strength.Strong i) (some_strong_live (strong i))) && count
        Strength.Weak i == 0

    -- and what they hold
    pub held_called : held_after pool (Called client reply call ∷ marks) theirs ≡ held_after pool marks theirs
    held_called =
        let ours : HeldBuffer → Bool = λ h. h.buffer.collection == theirs in
        let now : HeldBuffer → Bool = λ h. not (home called h.buffer) in
        let before : HeldBuffer → Bool = λ h. not (home marks h.buffer) in
        filter-swap ours now (placed pool marks)
        ∙ (filter-In now before (filter ours (placed pool marks)) (λ h on.
        ap not (home_called h.buffer (eqb-true h.buffer.collection theirs (In-filter ours (placed pool marks) h on).1)))
        ∙ filter-swap before ours (placed pool marks))

    module _ (ends_here : (p : EndPlace) → end_by client call reply ≡ Some p → key_of call ≡ Some p.key) where
      -- their nodes stay
      pub nodes_called : nodes_after (Called client reply call ∷ marks) theirs ≡ nodes_after marks theirs
      nodes_called = elim (none_or_some new) [
        | inl e ↦
            let none : birth_at 0 (Called client reply call) ≡ None = no_birth (events marks + 1) 0 (Called client reply call) e in
            nodes-answered pool limits marks grown client reply call answer none theirs
            ∙ sym (map-map_In (node_after marks) (node_after marks) (answered client call reply) (births_in marks theirs)
            (λ b on. sym (answered_other client call reply (node_after marks b) (unnamed b on) (λ p e.
            unnamed b on p.key (ends_here p e)))))
        | inr some ↦ nodes-elsewhere marks client reply call some.0 some.1 (came some.0 some.1).fresh theirs (not_theirs some.0.collection
            (born_in some.0 some.1))
      ]

      -- so the collection stays
      pub collection_called : collection_after pool (Called client reply call ∷ marks) theirs ≡ collection_after pool marks theirs
      collection_called = λ i. record {
        id = theirs;
        nodes = filter (λ n. not (is_unkept n)) (nodes_called i);
        buffers = buffers_of marks theirs;
        held = held_called i;
      }

-- the call got its caller the end of a node
abbrev pub collects_end : Call → Reply → Bool
collects_end Call.Collect (Reply.Collected key kind collection) = true
collects_end _ _ = false

-- each other call moves no end but that of the node that it names
pub ends_named : (client : ℕ) (call : Call) (reply : Reply) → collects_end call reply ≡ false → (p : EndPlace) →
    end_by client call reply ≡ Some p → key_of call ≡ Some p.key
ends_named client (Call.Close key) Reply.Done other p e = ap (option_map (λ (q : EndPlace). q.key)) e
ends_named client (Call.Release key) Reply.Done other p e = ap (option_map (λ (q : EndPlace). q.key)) e
ends_named client (Call.Release key) (Reply.PeerClosed cause origin) other p e = ap (option_map (λ (q : EndPlace). q.key)) e
ends_named client (Call.Give key to) Reply.Done other p e = ap (option_map (λ (q : EndPlace). q.key)) e
ends_named client Call.Collect (Reply.Collected key kind collection) other p e = cc
ends_named client call reply other p e = cc

-- ---- what follows it

-- where the other collections are as they were, each is the same
collection_beside : (pool ours theirs : ℕ) (earlier later : Timeline) → SameBeside pool ours earlier later → (ours == theirs) ≡ false →
    collection_after pool later theirs ≡ collection_after pool earlier theirs
collection_beside pool ours theirs earlier later s other = λ i. record {
  id = theirs;
  nodes = filter (λ n. not (is_unkept n)) (s.nodes theirs other i);
  buffers = s.buffers theirs other i;
  held = s.pages theirs other i;
}

module _ (pool : ℕ) (limits : Bound) (marks : Timeline) (grown : Grows pool limits [] marks) (client : ℕ) (reply : Reply) (call : Call)
    (answer : IsAnswer limits (readings marks) client call reply) where
  -- the marks with the loss that the call makes itself
  abbrev pub lost : Timeline
  lost = cons_option (own_loss marks call reply) (Called client reply call ∷ marks)

  -- a node that the call loses is one that it names and that is there
  record LosesOwn (mark : Mark) : Type 0 where
    birth : Birth
    there : In birth (births marks)
    cause : Cause
    is : mark ≡ Loss birth.node cause
    names : key_of call ≡ Some birth.node

  -- so it is with each loss of its own
  loses_own : (mark : Mark) → own_loss marks call reply ≡ Some mark → LosesOwn mark
  loses_own mark e =
      let t = own_loss_origin pool limits [] marks call reply mark e in
      let end : HasEnd marks t.0 = not_refused_end limits marks client call reply t.0 answer t.4 t.3 in
      let b = birth_is marks t.0 end.birth end.is in
      record {
        birth = end.birth;
        there = b.0;
        cause = t.1;
        is = t.2 ∙ ap (λ (k : NodeKey). Loss k t.1) (sym b.1);
        names = t.3 ∙ ap Some (sym b.1);
      }

  module _ (theirs : ℕ) (away : collection_of (Called client reply call ∷ marks) call reply ≡ Some theirs → ⊥)
      (ends_here : (p : EndPlace) → end_by client call reply ≡ Some p → key_of call ≡ Some p.key) where
    -- the loss leaves them
    lost_elsewhere : (o : Option Mark) → own_loss marks call reply ≡ o →
        collection_after pool (cons_option o (Called client reply call ∷ marks)) theirs ≡ collection_after pool marks theirs
    lost_elsewhere None e = collection_called pool limits marks grown client reply call answer theirs away ends_here
    lost_elsewhere (Some mark) e =
        let l : LosesOwn mark = loses_own mark e in
        let b : Birth = l.birth in
        let called : Timeline = Called client reply call ∷ marks in
        let w : IsWhole called = whole pool limits called (grown_called pool limits marks grown client reply call answer) in
        let on : In b (births called) = In_old (birth_at (events marks + 1) (Called client reply call)) (births marks) b l.there in
        let at : IsIn called b.collection (Loss b.node l.cause) =
        of_ours called b.collection w b on (eq-eqb b.collection b.collection refl) in
        let other : (b.collection == theirs) ≡ false =
        not_theirs pool limits marks grown client reply call answer theirs away b.collection (named_in pool limits marks grown client reply
        call answer b l.there l.names) in
        rw l.is
        (collection_beside pool b.collection theirs called (Loss b.node l.cause ∷ called) (same_beside_mark pool b.collection called
        (Loss b.node l.cause) w at) other
        ∙ collection_called pool limits marks grown client reply call answer theirs away ends_here)

    -- so does all that the event forces
    pub collection_elsewhere : collection_after pool (after pool marks (client, call, reply)) theirs ≡ collection_after pool marks theirs
    collection_elsewhere = from (collection_of (Called client reply call ∷ marks) call reply) (not_theirs pool limits marks grown client
        reply call answer theirs away)
      where
        from : (o : Option ℕ) → ((c : ℕ) → o ≡ Some c → (c == theirs) ≡ false) →
            collection_after pool (option_map_or (λ collection.
            settled pool collection (cons_option (own_loss marks call reply) (Called client reply call ∷ marks))) o
            (cons_option (own_loss marks call reply) (Called client reply call ∷ marks))) theirs
            ≡ collection_after pool marks theirs
        from None other = lost_elsewhere (own_loss marks call reply) refl
        from (Some ours) other =
            collection_beside pool ours theirs lost (settled pool ours lost) (settled_beside pool limits ours lost
            (grows_lost pool limits [] marks (client, call, reply) grown answer)) (other ours refl)
            ∙ lost_elsewhere (own_loss marks call reply) refl
