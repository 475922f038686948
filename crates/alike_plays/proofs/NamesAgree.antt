-- Only the names that actors know make a difference.
use Rattle.alike_plays.proofs.Common.{ActorObject, AreAlikeKnown, AreAlikeStages, In, In-filter, Known, KnownActor, KnownObject}
use Rattle.alike_plays.proofs.Common.{KnownReply, KnownStage, Leave, NamesAgree, NodeKey, NodePlace, None, Option, Reply, Some, Stage, ap}
use Rattle.alike_plays.proofs.Common.{leave_renamed, made_of, made_renamed, object_renamed, option_map, place_renamed, refl}
use Rattle.alike_plays.proofs.Common.{reply_renamed, subst, sym, tells_made, ℕ, ◌∙◌, ◌≡◌}
use Rattle.sm_names.proofs.ListLaws.{In-map-back, map-In}

module _ (to again : NodeKey → NodeKey) (id later number next : ℕ → ℕ) (Key Other : NodeKey → Type 0)
    (Id Next Num Count : ℕ → Type 0) (agree : NamesAgree to again id later number next Key Other Id Next Num Count) where
  -- By the object.
  object-agrees : (o : ActorObject) → KnownObject Key Id o → KnownObject Other Next (object_renamed to id o) →
      object_renamed again later o ≡ object_renamed to id o
  object-agrees (ActorObject.Token key collection) known new =
      λ i. ActorObject.Token (agree.keys key known.0 new.0 i) (agree.ids collection known.1 new.1 i)
  object-agrees (ActorObject.Collection key collection) known new =
      λ i. ActorObject.Collection (agree.keys key known.0 new.0 i) (agree.ids collection known.1 new.1 i)
  object-agrees (ActorObject.Handle buffer strength) known new =
      λ i. ActorObject.Handle (record buffer { collection = agree.ids buffer.collection known new i }) strength

  -- By the reply.
  reply-agrees : (r : Reply) → KnownReply Key Id Num r → KnownReply Other Next Count (reply_renamed to id number r) →
      reply_renamed again later next r ≡ reply_renamed to id number r
  reply-agrees (Reply.Joined client) known new = ap Reply.Joined (agree.numbers client known new)
  reply-agrees (Reply.Token key collection) known new =
      λ i. Reply.Token (agree.keys key known.0 new.0 i) (agree.ids collection known.1 new.1 i)
  reply-agrees (Reply.Collected key kind collection) known new =
      λ i. Reply.Collected (agree.keys key known.0 new.0 i) kind (agree.ids collection known.1 new.1 i)
  reply-agrees (Reply.CollectedHandle buffer strength) known new =
      λ i. Reply.CollectedHandle (record buffer { collection = agree.ids buffer.collection known new i }) strength
  reply-agrees (Reply.Taken collection strength set) known new = λ i. Reply.Taken (agree.ids collection known new i) strength set
  reply-agrees (Reply.Tracker tracker) known new = ap Reply.Tracker (agree.numbers tracker known new)
  reply-agrees (Reply.PeerClosed cause origin) known new = ap (Reply.PeerClosed cause) (agree.keys origin known new)
  reply-agrees _ known new = refl

  -- Part by part of what the actors know.
  known-agree : (one other : Known) → AreAlikeKnown to id number one other → KnownActor Key Id Num one →
      KnownActor Other Next Count other → AreAlikeKnown again later next one other
  known-agree one other alike old new = record {
    nodes = λ label. alike.nodes label ∙ place label (one.nodes label) refl;
    trackers = λ label. alike.trackers label ∙ tracker label (one.trackers label) refl;
    objects = alike.objects ∙ sym (map-In (option_map (object_renamed again later)) (option_map (object_renamed to id)) one.objects slot);
    spots = agree.far_keys one.spots other.spots alike.spots old.spots new.spots;
    handles = λ strength. agree.far_ids (one.handles strength) (other.handles strength) (alike.handles strength) (old.handles strength)
        (new.handles strength);
  }
    where
      -- by what the label stands for
      place : (label : ℕ) (o : Option NodePlace) → one.nodes label ≡ o →
          option_map (place_renamed to id) (one.nodes label) ≡ option_map (place_renamed again later) (one.nodes label)
      place label None is = rw is refl
      place label (Some p) is =
          let here = old.nodes label p is in
          let there = new.nodes label (place_renamed to id p) (alike.nodes label ∙ ap (option_map (place_renamed to id)) is) in
          rw is (λ i. Some (sym (agree.keys p.0 here.0 there.0) i, sym (agree.ids p.1 here.1 there.1) i))

      -- by what the label stands for
      tracker : (label : ℕ) (o : Option ℕ) → one.trackers label ≡ o →
          option_map number (one.trackers label) ≡ option_map next (one.trackers label)
      tracker label None is = rw is refl
      tracker label (Some n) is =
          rw is (ap Some (sym (agree.numbers n (old.trackers label n is)
          (new.trackers label (number n) (alike.trackers label ∙ ap (option_map number) is)))))

      -- by what lies in the slot
      slot : (t : Option ActorObject) → In t one.objects →
          option_map (object_renamed again later) t ≡ option_map (object_renamed to id) t
      slot None there = refl
      slot (Some o) there = ap Some (object-agrees o (old.objects o there) (new.objects (object_renamed to id o)
          (subst (In (Some (object_renamed to id o))) (sym alike.objects)
          (In-map-back (option_map (object_renamed to id)) one.objects (Some o) there))))

  -- And of how far they are.
  pub stages-agree : (one other : Stage) → AreAlikeStages to id number one other → KnownStage Key Id Num one →
      KnownStage Other Next Count other → AreAlikeStages again later next one other
  stages-agree one other alike old new = record {
    at = alike.at;
    known = known-agree one.known other.known alike.known old.known new.known;
    made = alike.made ∙ sym (map-In (made_renamed again later next) (made_renamed to id number) (made_of one.made) (λ m there i. (
      m.0,
      reply-agrees m.1 (old.made m (In-filter (λ (x : ℕ × Reply). tells_made x.1) one.made m there).0)
          (new.made (made_renamed to id number m)
          (In-filter (λ (x : ℕ × Reply). tells_made x.1) other.made (made_renamed to id number m)
          (subst (In (made_renamed to id number m)) (sym alike.made)
          (In-map-back (made_renamed to id number) (made_of one.made) m there))).0)
          i,
    )));
    vanish = alike.vanish ∙ leaves one.vanish refl;
  }
    where
      -- by cases on whether it leaves
      leaves : (o : Option Leave) → one.vanish ≡ o →
          option_map (leave_renamed to id) one.vanish ≡ option_map (leave_renamed again later) one.vanish
      leaves None is = rw is refl
      leaves (Some l) is =
          let there = alike.vanish ∙ ap (option_map (leave_renamed to id)) is in
          rw is (λ i. Some (record l {
            collected = sym (map-In (object_renamed again later) (object_renamed to id) l.collected (λ o o_in.
                object-agrees o (old.vanish l is o o_in)
                (new.vanish (leave_renamed to id l) there (object_renamed to id o)
                (In-map-back (object_renamed to id) l.collected o o_in))))
                i;
          }))
