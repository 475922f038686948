-- The births of a legal history are sound.
use Rattle.history_laws.proofs.Common.{AreAnswers, AreSound, Birth, Bool, Bound, Call, Called, Cause, Entry, IfSome, In, IsAnswer, List}
use Rattle.history_laws.proofs.Common.{Loss, Mark, Misuse, NodeKey, None, Option, Reply, Some, Timeline, [], after, answer, ap, birth_at}
use Rattle.history_laws.proofs.Common.{births, collection_of, cons_option, events, false, false≢true, fault, fold, inl, inr, is_event}
use Rattle.history_laws.proofs.Common.{is_some, key_of, length, next_forced, none_or_some, option_map, option_map_or, own_loss, readings}
use Rattle.history_laws.proofs.Common.{refl, settled, settled_within, spent, subst, suc, sym, true, was_born, when, zero, ℕ, ◌*◌, ◌+◌}
use Rattle.history_laws.proofs.Common.{◌∙◌, ◌∷◌, ◌≡◌, ◌⊎◌}
use Rattle.history_laws.proofs.BirthLaws.{Comes, comes}
use Rattle.history_laws.proofs.SettledLaws.{In-was_born, Changes, forced_changes, same_births}

-- forced marks are no births
births-settled_within : (pool collection most : ℕ) (marks : Timeline) → AreSound (births marks) →
    births (settled_within pool collection most marks) ≡ births marks
births-settled_within pool collection zero marks sound = refl
births-settled_within pool collection (suc most) marks sound =
    elim (none_or_some (next_forced pool collection marks)) [
      | inl e ↦ rw e refl
      | inr some ↦
          let c : Changes marks some.0 = forced_changes pool collection marks sound some.0 some.1 in
          let same : births (some.0 ∷ marks) ≡ births marks = same_births marks some.0 c.no_event in
          rw some.1 (births-settled_within pool collection most (some.0 ∷ marks) (subst AreSound (sym same) sound) ∙ same)
    ]

-- a mark that is no event is none under a test either
is_no_event : (b : Bool) (mark other : Mark) → is_event other ≡ false → when b other ≡ Some mark → is_event mark ≡ false
is_no_event true mark other h e = let is : other ≡ mark = cc in rw (← is) h
is_no_event false mark other h e = cc

-- the loss by a misuse is no event
misused_no_event : (o : Option NodeKey) (misuse : Misuse) (mark : Mark) →
    option_map (λ key. Loss key (Cause.Misused misuse)) o ≡ Some mark → is_event mark ≡ false
misused_no_event None misuse mark e = cc
misused_no_event (Some key) misuse mark e = let is : Loss key (Cause.Misused misuse) ≡ mark = cc in rw (← is) refl

-- the loss that a call makes itself is no call
pub own_loss_no_event : (before : Timeline) (call : Call) (reply : Reply) (mark : Mark) → own_loss before call reply ≡ Some mark →
    is_event mark ≡ false
own_loss_no_event before (Call.Close key) Reply.Done mark e = is_no_event _ mark (Loss key Cause.Lost) refl e
own_loss_no_event before call (Reply.Misused misuse) mark e = misused_no_event (key_of call) misuse mark e
own_loss_no_event before _ _ mark e = absurd (false≢true (ap is_some e))

-- so it leaves the births as they were
own_loss_same : (before marks : Timeline) (call : Call) (reply : Reply) →
    births (cons_option (own_loss before call reply) marks) ≡ births marks
own_loss_same before marks call reply = from (own_loss before call reply) (λ mark e. own_loss_no_event before call reply mark e)
  where
    -- by cases: a loss is no event, so it brings no birth
    from : (o : Option Mark) → ((mark : Mark) → o ≡ Some mark → is_event mark ≡ false) → births (cons_option o marks) ≡ births marks
    from None h = refl
    from (Some mark) h = same_births marks mark (h mark refl)

-- the births after one more event are those after its mark
pub births-after : (pool : ℕ) (marks : Timeline) (entry : Entry) → AreSound (births (Called entry.0 entry.2 entry.1 ∷ marks)) →
    births (after pool marks entry) ≡ births (Called entry.0 entry.2 entry.1 ∷ marks)
births-after pool marks entry sound =
    settles (collection_of called entry.1 entry.2) ∙ same
  where
    -- the marks after the event's own
    called : Timeline
    called = Called entry.0 entry.2 entry.1 ∷ marks

    -- and after the loss that it causes, if it causes one
    lost : Timeline
    lost = cons_option (own_loss marks entry.1 entry.2) (Called entry.0 entry.2 entry.1 ∷ marks)

    -- since a loss brings no birth
    same : births (cons_option (own_loss marks entry.1 entry.2) (Called entry.0 entry.2 entry.1 ∷ marks)) ≡ births
        (Called entry.0 entry.2 entry.1 ∷ marks)
    same = own_loss_same marks (Called entry.0 entry.2 entry.1 ∷ marks) entry.1 entry.2

    -- by cases: where the event has a collection its forced steps bring no births, and elsewhere there are none
    settles : (o : Option ℕ) → births (option_map_or (λ collection.
        settled pool collection (cons_option (own_loss marks entry.1 entry.2) (Called entry.0 entry.2 entry.1 ∷ marks))) o
        (cons_option (own_loss marks entry.1 entry.2) (Called entry.0 entry.2 entry.1 ∷ marks))) ≡
        births (cons_option (own_loss marks entry.1 entry.2) (Called entry.0 entry.2 entry.1 ∷ marks))
    settles None = refl
    settles (Some collection) =
        births-settled_within pool collection
        (2 * length (births (cons_option (own_loss marks entry.1 entry.2) (Called entry.0 entry.2 entry.1 ∷ marks))))
        (cons_option (own_loss marks entry.1 entry.2) (Called entry.0 entry.2 entry.1 ∷ marks)) (subst AreSound (sym same) sound)

-- one more answer keeps births sound
pub sound_called : (limits : Bound) (marks : Timeline) (entry : Entry) → IsAnswer limits (readings marks) entry.0 entry.1 entry.2 →
    AreSound (births marks) → AreSound (births (Called entry.0 entry.2 entry.1 ∷ marks))
sound_called limits marks entry answer sound = with_birth (birth_at (events marks + 1) (Called entry.0 entry.2 entry.1)) refl
  where
    -- by cases: it has no parent, or the birth of its parent is among the births
    parent_born_before : (b : Birth) → ((b.parent ≡ None) × (b.collection ≡ events marks + 1)) ⊎ ((p : Birth) × In p (births marks) ×
        (b.parent ≡ Some p.node) × (b.collection ≡ p.collection) × (spent marks p.node ≡ false) × (fault marks p.node ≡ None)) →
        IfSome b.parent (λ parent. was_born (births marks) parent ≡ true)
    parent_born_before b (inl r) = rw r.0 tt
    parent_born_before b (inr r) = rw r.2 (In-was_born (births marks) r.0 r.1)

    -- by cases: where a node is born it is new and its parent was born before, and the older births are sound
    with_birth : (o : Option Birth) → birth_at (events marks + 1) (Called entry.0 entry.2 entry.1) ≡ o →
        AreSound (cons_option o (births marks))
    with_birth None e = sound
    with_birth (Some b) e =
        let k : Comes marks entry.0 entry.2 entry.1 b = comes limits marks entry.0 (events marks + 1) entry.2 entry.1 b answer e in
        (k.fresh, parent_born_before b k.from, sound)

-- and so do the marks that it forces
pub sound_after : (pool : ℕ) (limits : Bound) (marks : Timeline) (entry : Entry) →
    IsAnswer limits (readings marks) entry.0 entry.1 entry.2 → AreSound (births marks) → AreSound (births (after pool marks entry))
sound_after pool limits marks entry answer sound =
    let called : AreSound (births (Called entry.0 entry.2 entry.1 ∷ marks)) = sound_called limits marks entry answer sound in
    subst AreSound (sym (births-after pool marks entry called)) called

-- so they are in a legal history
pub sound_history : (pool : ℕ) (limits : Bound) (marks : Timeline) (history : List Entry) → AreAnswers pool limits marks history →
    AreSound (births marks) → AreSound (births (fold (after pool) marks history))
sound_history pool limits marks [] answers sound = sound
sound_history pool limits marks (entry ∷ entries) answers sound =
    sound_history pool limits (after pool marks entry) entries answers.1 (sound_after pool limits marks entry answers.0 sound)
