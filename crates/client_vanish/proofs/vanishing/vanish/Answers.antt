use Rattle.client_vanish.proofs.Common.{All, AllHeldBy, CollectsFor, IsGone, ap, arith, held_in, inr, length, map, object_of, owner_of}
use Rattle.client_vanish.proofs.Common.{subst, sym, top_first, ◌∙◌, ◌≡◌}
use Rattle.std.proofs.Common.{is_ok}
use Rattle.client_vanish.proofs.BackLaws.{broken_own}
use Rattle.client_vanish.proofs.VanishingLaws.{goes, gone, owners, room_all, shut_only, stacked, top_none}
use Rattle.client_vanish.proofs.vanishing.vanish.Goals as goal

pub returns-in-Err-room_for-clause-fault : goal.returns-in-Err-room_for-clause-fault
returns-in-Err-room_for-clause-fault g c =
    inr (shut_only c.args.client c.shut.new.self c.in-Ok.reply (held_in c.args.held) (held_in c.room_for.new.held) c.in-Ok.ensures
    c.room_for.ensures.same)

pub returns-in-Err-room_for-clause-own : goal.returns-in-Err-room_for-clause-own
returns-in-Err-room_for-clause-own g c =
    broken_own c.args.client c.shut.new.self (held_in c.args.held) (held_in c.room_for.new.held) c.requires
    (returns-in-Err-room_for-clause-fault g c)

pub give_up_if-parted-requires-clause-owner : goal.give_up_if-parted-requires-clause-owner
give_up_if-parted-requires-clause-owner g c =
    let ends = map object_of c.collect_all-collected.new.ends.items in
    let handles = map object_of c.collect_all-collected.new.handles.items in
    let made = c.collect_all-collected.ensures.made in
    let id : c.shut.new.self.id ≡ c.args.client.id = c.in-Ok.ensures.id in
    let is = c.stack_all-stack.ensures.objects ∙ ap (stacked ends handles) c.room_for.ensures.same in
    let all = owners c.shut.new.self.id made.told ends handles (held_in c.args.held)
    (subst (λ n. AllHeldBy n (held_in c.args.held)) (sym id)
    c.requires) made.collects.ends_are made.collects.handles_are in
    let now : c.shut.new.self.id ≡ c.collect_all-collected.new.client.id = sym made.collects.made.id in
    subst (λ n. All (λ t. owner_of t ≡ n) (top_first c.stack_all-stack.result.items)) now
    (subst (All (λ t. owner_of t ≡ c.shut.new.self.id)) (sym is) all)

pub give_up_if-parted-requires-clause-room : goal.give_up_if-parted-requires-clause-room
give_up_if-parted-requires-clause-room g c =
    let ends = map object_of c.collect_all-collected.new.ends.items in
    let handles = map object_of c.collect_all-collected.new.handles.items in
    let made = c.collect_all-collected.ensures.made in
    let room = c.in-Ok-room_for.ensures.room in
    let stack = c.stack_all-stack.ensures in
    room_all c.room_for.new.held c.stack_all-stack.new.held c.shut.new.self.id c.parcels_told.result made.told ends handles
    (top_first c.stack_all-stack.result.items) made.within made.collects.ends_are made.collects.handles_are
    stack.objects stack.none room.tokens room.collections room.for_handles stack.tokens stack.collections stack.handles

pub returns-in-Ok-parted-clause-gone : goal.returns-in-Ok-parted-clause-gone
returns-in-Ok-parted-clause-gone g c =
    let ends = map object_of c.collect_all-collected.new.ends.items in
    let handles = map object_of c.collect_all-collected.new.handles.items in
    let is = c.stack_all-stack.ensures.objects ∙ ap (stacked ends handles) c.room_for.ensures.same in
    let far = c.collect_all-collected.new.client in
    let collects = subst (λ n. CollectsFor (is_ok c.collect_all-collected.result) n c.shut.new.self far ends handles) c.parcels_told.ensures
    c.collect_all-collected.ensures.made in
    let none : length c.give_up_if-parted.new.stack.items ≡ 0 = omega (
      arith,
      c.in-Ok-parted.ensures.all.0,
      c.give_up_if-parted.new.stack.ok.0,
    ) in
    let over = gone c.args.client c.shut.new.self far c.give_up_if-parted.new.client c.in-Ok.reply (is_ok
    c.collect_all-collected.result) ends
    handles (top_first c.stack_all-stack.result.items)
    (top_first c.give_up_if-parted.new.stack.items) (held_in c.args.held) (held_in c.give_up_if-parted.new.kept) c.in-Ok.ensures collects
    c.give_up_if-parted.ensures.parts is (top_none c.give_up_if-parted.new.stack.items none)
    c.in-Ok-parted.ensures.all.1 in
    subst (λ w. IsGone c.args.client w.client (held_in c.args.held) w.refused) (sym c.new.ensures) over

pub returns-in-Err-parted-clause-fault : goal.returns-in-Err-parted-clause-fault
returns-in-Err-parted-clause-fault g c =
    let ends = map object_of c.collect_all-collected.new.ends.items in
    let handles = map object_of c.collect_all-collected.new.handles.items in
    let is = c.stack_all-stack.ensures.objects ∙ ap (stacked ends handles) c.room_for.ensures.same in
    let far = c.collect_all-collected.new.client in
    let collects = subst (λ n. CollectsFor (is_ok c.collect_all-collected.result) n c.shut.new.self far ends handles) c.parcels_told.ensures
    c.collect_all-collected.ensures.made in
    inr (goes c.args.client c.shut.new.self far c.give_up_if-parted.new.client c.in-Ok.reply (is_ok c.collect_all-collected.result) ends
    handles (top_first c.stack_all-stack.result.items)
    (top_first c.give_up_if-parted.new.stack.items) (held_in c.args.held) (held_in c.give_up_if-parted.new.kept) (held_in
    c.put_all.new.held)
    c.in-Ok.ensures collects c.give_up_if-parted.ensures.parts is c.put_all.ensures)

pub returns-in-Err-parted-clause-own : goal.returns-in-Err-parted-clause-own
returns-in-Err-parted-clause-own g c =
    broken_own c.args.client c.give_up_if-parted.new.client (held_in c.args.held) (held_in c.put_all.new.held) c.requires
    (returns-in-Err-parted-clause-fault g c)
