use Rattle.client_vanish.proofs.Common.{All, All-head, All-tail, GivesUp, HeldObject, [], ap, both, held_in, object_of, owner_of, subst}
use Rattle.client_vanish.proofs.Common.{sym, top_first, ◌∙◌, ◌∷◌, ◌≡◌}
use Rattle.client_vanish.specs.Stacks.{kept_objects}
use Rattle.client_vanish.proofs.VanishingLaws.{kept_same, parts_more, parts_none}
use Rattle.client_vanish.proofs.ObjectLaws.{both_none, room_less, room_put, sorted_single, top_pop}
use Rattle.client_vanish.proofs.vanishing.give_up_all.Goals as goal

pub loop-object-init : goal.loop-object-init
loop-object-init g c = record {
  parts = parts_none c.args.client.now (top_first c.args.stack.now.items) (held_in c.args.kept.now) c.requires.none;
  owner = c.requires.owner;
  room = c.requires.room;
}

pub give_up-requires : goal.give_up-requires
give_up-requires g c =
    let top = top_pop c.loop-object.stack.items c.pop.new.self.items c.in-Some.object c.in-Some.ensures.items in
    let owner : HeldObject → Type 0 = λ t. owner_of t ≡ c.loop-object.client.id in
    All-head owner (object_of c.in-Some.object) (top_first c.pop.new.self.items) (subst (All owner) top c.loop-object.invariant.owner)

pub loop-object-preserved-in-Ok-None : goal.loop-object-preserved-in-Ok-None
loop-object-preserved-in-Ok-None g c =
    let so = c.loop-object.invariant in
    let top = top_pop c.loop-object.stack.items c.pop.new.self.items c.in-Some.object c.in-Some.ensures.items in
    let owner : HeldObject → Type 0 = λ t. owner_of t ≡ c.loop-object.client.id in
    let one = subst (λ o. GivesUp c.loop-object.client c.give_up.new.client (object_of c.in-Some.object) (kept_objects o))
    c.in-Ok-None.field-0-is c.in-Ok-None.ensures in
    let left = All-tail owner (object_of c.in-Some.object) (top_first c.pop.new.self.items) (subst (All owner) top so.owner) in
    record {
      parts = parts_more c.args.client.now c.loop-object.client c.give_up.new.client (top_first c.args.stack.now.items)
          (top_first c.loop-object.stack.items) (top_first c.pop.new.self.items) (object_of c.in-Some.object) []
          (held_in c.loop-object.kept) (held_in c.loop-object.kept) so.parts top one (sym (both_none (held_in c.loop-object.kept)));
      owner = subst (λ n. All (λ t. owner_of t ≡ n) (top_first c.pop.new.self.items)) (sym one.made.id) left;
      room = room_less c.loop-object.kept (object_of c.in-Some.object) (top_first c.loop-object.stack.items)
          (top_first c.pop.new.self.items)
          top so.room;
    }

pub loop-object-preserved : goal.loop-object-preserved
loop-object-preserved g c =
    let so = c.loop-object.invariant in
    let top = top_pop c.loop-object.stack.items c.pop.new.self.items c.in-Some.object c.in-Some.ensures.items in
    let owner : HeldObject → Type 0 = λ t. owner_of t ≡ c.loop-object.client.id in
    let one = subst (λ o. GivesUp c.loop-object.client c.give_up.new.client (object_of c.in-Some.object) (kept_objects o))
    c.in-Ok-Some.field-0-is c.in-Ok-Some.ensures in
    let same = kept_same c.loop-object.client c.give_up.new.client (object_of c.in-Some.object) (object_of c.in-Ok-Some.object) one in
    let left = All-tail owner (object_of c.in-Some.object) (top_first c.pop.new.self.items) (subst (All owner) top so.owner) in
    record {
      parts = parts_more c.args.client.now c.loop-object.client c.give_up.new.client (top_first c.args.stack.now.items)
          (top_first c.loop-object.stack.items) (top_first c.pop.new.self.items) (object_of c.in-Some.object)
          (object_of c.in-Ok-Some.object ∷ []) (held_in c.loop-object.kept) (held_in c.put.new.held) so.parts top one
          (c.put.ensures.put ∙ ap (both (held_in c.loop-object.kept)) (sym (sorted_single (object_of c.in-Ok-Some.object))));
      owner = subst (λ n. All (λ t. owner_of t ≡ n) (top_first c.pop.new.self.items)) (sym one.made.id) left;
      room = room_put c.loop-object.kept c.put.new.held (object_of c.in-Some.object) (object_of c.in-Ok-Some.object)
          (top_first c.loop-object.stack.items) (top_first c.pop.new.self.items) top so.room same c.put.ensures.put
          c.put.ensures.tokens c.put.ensures.collections c.put.ensures.handles;
    }
