-- Plays that are alike to alike plays are alike, and so are two starts.
use Rattle.alike_plays.proofs.Common.{ActorObject, AreAlikeAll, AreAlikeKnown, AreAlikePlays, AreAlikeStages, Known, Leave, List, NodeKey}
use Rattle.alike_plays.proofs.Common.{Option, Position, Reply, Stage, [], ap, fall_renamed, fault_fallen, fault_renamed, leave_renamed}
use Rattle.alike_plays.proofs.Common.{made_of, made_renamed, map, object_renamed, option_map, place_renamed, refl, reply_renamed, ℕ, ◌∙◌}
use Rattle.alike_plays.proofs.Common.{◌∷◌, ◌≡◌}
use Rattle.alike_cores.proofs.Composing.{alike-alike, twice-option, twice-map}

module _ (to more : NodeKey → NodeKey) (id on number next : ℕ → ℕ) where
  -- one after the other
  abbrev keys : NodeKey → NodeKey
  keys key = more (to key)

  -- and so
  abbrev ids : ℕ → ℕ
  ids i = on (id i)

  -- and so
  abbrev numbers : ℕ → ℕ
  numbers n = next (number n)

  -- By the object.
  twice-object : (o : ActorObject) → object_renamed more on (object_renamed to id o) ≡ object_renamed keys ids o
  twice-object (ActorObject.Token key collection) = refl
  twice-object (ActorObject.Collection key collection) = refl
  twice-object (ActorObject.Handle buffer strength) = refl

  -- By what lies there.
  twice-slot : (o : Option ActorObject) →
      option_map (object_renamed more on) (option_map (object_renamed to id) o) ≡ option_map (object_renamed keys ids) o
  twice-slot = twice-option (object_renamed to id) (object_renamed more on) (object_renamed keys ids) twice-object

  -- By the reply.
  twice-reply : (r : Reply) → reply_renamed more on next (reply_renamed to id number r) ≡ reply_renamed keys ids numbers r
  twice-reply (Reply.Joined client) = refl
  twice-reply _ = refl

  -- Reply by reply.
  twice-made : (m : ℕ × Reply) → made_renamed more on next (made_renamed to id number m) ≡ made_renamed keys ids numbers m
  twice-made m = λ i. (m.0, twice-reply m.1 i)

  -- Object by object.
  twice-leave : (l : Leave) → leave_renamed more on (leave_renamed to id l) ≡ leave_renamed keys ids l
  twice-leave l = λ i. record l {
    collected = twice-map (object_renamed to id) (object_renamed more on) (object_renamed keys ids) twice-object l.collected i;
  }

  -- Part by part.
  known-composed : (one other third : Known) → AreAlikeKnown to id number one other → AreAlikeKnown more on next other third →
      AreAlikeKnown keys ids numbers one third
  known-composed one other third first then = record {
    nodes = λ label. then.nodes label ∙ (ap (option_map (place_renamed more on)) (first.nodes label)
        ∙ twice-option (place_renamed to id) (place_renamed more on) (place_renamed keys ids) (λ p. refl) (one.nodes label));
    trackers = λ label. then.trackers label ∙ (ap (option_map next) (first.trackers label)
        ∙ twice-option number next numbers (λ n. refl) (one.trackers label));
    objects = then.objects ∙ (ap (map (option_map (object_renamed more on))) first.objects
        ∙ twice-map (option_map (object_renamed to id)) (option_map (object_renamed more on)) (option_map (object_renamed keys ids))
        twice-slot one.objects);
    spots = λ key. then.spots (to key) ∙ first.spots key;
    handles = λ strength b. then.handles strength (record b { collection = id b.collection }) ∙ first.handles strength b;
  }

  -- And so of how far they are.
  stage-composed : (one other third : Stage) → AreAlikeStages to id number one other → AreAlikeStages more on next other third →
      AreAlikeStages keys ids numbers one third
  stage-composed one other third first then = record {
    at = then.at ∙ first.at;
    known = known-composed one.known other.known third.known first.known then.known;
    made = then.made ∙ (ap (map (made_renamed more on next)) first.made
        ∙ twice-map (made_renamed to id number) (made_renamed more on next) (made_renamed keys ids numbers) twice-made (made_of one.made));
    vanish = then.vanish ∙ (ap (option_map (leave_renamed more on)) first.vanish
        ∙ twice-option (leave_renamed to id) (leave_renamed more on) (leave_renamed keys ids) twice-leave one.vanish);
  }

  -- Actor by actor.
  all-composed : (ones others thirds : List Stage) → AreAlikeAll to id number ones others → AreAlikeAll more on next others thirds →
      AreAlikeAll keys ids numbers ones thirds
  all-composed [] [] [] first then = tt
  all-composed [] [] (c ∷ cs) first then = absurd then
  all-composed [] (b ∷ bs) thirds first then = absurd first
  all-composed (a ∷ rest) [] thirds first then = absurd first
  all-composed (a ∷ rest) (b ∷ bs) [] first then = absurd then
  all-composed (a ∷ rest) (b ∷ bs) (c ∷ cs) first then =
      (stage-composed a b c first.0 then.0, all-composed rest bs cs first.1 then.1)

-- Being alike composes.
pub plays-composed : (one other third : Position) → AreAlikePlays one other → AreAlikePlays other third → AreAlikePlays one third
plays-composed one other third first then = record {
  to = λ key. then.to (first.to key);
  id = λ i. then.id (first.id i);
  number = λ n. then.number (first.number n);
  keeps = λ a b. then.keeps (first.to a) (first.to b) ∙ first.keeps a b;
  kept = λ a b. then.kept (first.id a) (first.id b) ∙ first.kept a b;
  counted = λ a b. then.counted (first.number a) (first.number b) ∙ first.counted a b;
  cores = alike-alike first.to then.to first.id then.id first.number then.number one.core other.core third.core first.cores then.cores;
  stages = all-composed first.to then.to first.id then.id first.number then.number one.stages other.stages third.stages first.stages
      then.stages;
  fallen = λ key. then.fallen (first.to key) ∙ (ap (option_map (fall_renamed then.to)) (first.fallen key)
      ∙ twice-option (fall_renamed first.to) (fall_renamed then.to) (fall_renamed (λ k. then.to (first.to k)))
      (twice-option (fault_renamed first.to) (fault_renamed then.to) (fault_renamed (λ k. then.to (first.to k))) (λ f. refl))
      (fault_fallen one.falls key));
}
