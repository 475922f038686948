-- What calls do to what an actor holds.
use Rattle.client_actors.proofs.Common.{ActorObject, All, All-cons, All-nil, Bool, Call, Did, Grip, List, MAX_BUFFERS, MadeOr, NewObjects}
use Rattle.client_actors.proofs.Common.{None, Option, ParcelContent, Reply, Seen, Why, [], ap, bit_at, false, handle_seen, handles_from}
use Rattle.client_actors.proofs.Common.{if◌then◌else◌, indices_in, map, new_objects, refl, spends_object, suc, sym, there, true, zero, ℕ}
use Rattle.client_actors.proofs.Common.{◌+◌, ◌==◌, ◌∙◌, ◌∷◌, ◌≡◌}
use Rattle.std.specs.List.{filter, range_with_len}
use Rattle.sm_names.specs.declared.keys.NodeKey.{NodeKey}
use Rattle.client_ends.specs.Taking.{Took, grip_at, grips_at}
use Rattle.actor_scripts.specs.ActorStates.{handles_of_set}
use Rattle.client_actors.specs.ObjectCalls.{may_spend}

module _ (old new : Seen) (key : NodeKey) (handles : List Grip) (took : Took old new key handles) where
  -- the handles that a Take opens from this index on
  abbrev pub seen_at : ℕ → ℕ → List ActorObject
  seen_at index count =
      map handle_seen (map (grip_at old.id took.taken) (filter (λ i. bit_at took.taken.set i == 1) (range_with_len index count)))

  -- one more
  pub seen_more : (index count : ℕ) (bit : Bool) → (bit_at took.taken.set index == 1) ≡ bit →
      seen_at (index + 1) count ≡ handles_from took.taken.collection took.taken.strength took.taken.set (index + 1) count →
      seen_at index (suc count) ≡ handles_from took.taken.collection took.taken.strength took.taken.set index (suc count)
  unfolding handles_from
  seen_more index count true is so = rw is (ap (λ l. handle_seen (grip_at old.id took.taken index) ∷ l) so)
  seen_more index count false is so = rw is so

  -- they are those that its reply gives
  pub seen_from : (index count : ℕ) → seen_at index count ≡ handles_from took.taken.collection took.taken.strength took.taken.set index
      count
  unfolding handles_from
  seen_from index zero = refl
  seen_from index (suc count) = seen_more index count (bit_at took.taken.set index == 1) refl (seen_from (index + 1) count)

  -- all of them
  pub seen_all : map handle_seen (grips_at old.id took.taken (indices_in took.taken.set)) ≡ handles_of_set took.taken.collection
      took.taken.strength took.taken.set
  unfolding indices_in
  seen_all = seen_from 0 MAX_BUFFERS

  -- and they are the client's
  pub grips_owned : (indices : List ℕ) → All (λ (h : Grip). h.client ≡ old.id) (grips_at old.id took.taken indices)
  grips_owned [] = All-nil (λ (h : Grip). h.client ≡ old.id)
  grips_owned (i ∷ is) = All-cons (λ (h : Grip). h.client ≡ old.id) (grip_at old.id took.taken i) (grips_at old.id took.taken is) refl
      (grips_owned is)

-- a call that did not spend what it might have spent gives nothing
unspent : (on : Option ActorObject) (call : Call) (reply : Reply) → may_spend call ≡ true →
    spends_object call reply ≡ false → new_objects on call reply ≡ []
unspent on (Call.Bind key) Reply.Done may not = cc
unspent on (Call.Bind key) _ may not = refl
unspent on (Call.Give key to) reply may not = refl
unspent on (Call.Close key) reply may not = refl
unspent on (Call.Release key) reply may not = refl
unspent on (Call.DropHandle buffer strength) reply may not = refl
unspent on (Call.GiveHandle buffer strength to) reply may not = refl
unspent on _ reply may not = cc

-- what was not spent is where it was
pub kept_back : {E S W : Type 0} (old new : Seen) (call : Call) (on on' : Option (ParcelContent E S W)) (reply : Reply) →
    may_spend call ≡ true →
    MadeOr (spends_object call) old new call (Why.Reply reply) → on' ≡ on →
    Did {E = E} {S = S} {W = W} old new call (there on) (there on') NewObjects.Nothing
kept_back old new call on on' reply may so same = record {
  reply = reply;
  made = so.0;
  left = ap there same ∙ ap (λ (b : Bool). if b then None else there on) (sym so.1);
  objects = sym (unspent (there on) call reply may so.1);
  owned = tt;
}
