-- Events made one after another.
use Rattle.std.proofs.Common.{refl, ap, sym, ◌∙◌, List, [], ◌∷◌, ◌++◌, append_assoc, append-nil, length-append, arith}
use Rattle.sm_names.specs.declared.messages.Call.{Call}
use Rattle.sm_names.specs.declared.messages.Reply.{Reply}
use Rattle.event_laws.specs.declared.own.Own.{Own}
use Rattle.client_ends.specs.Clients.{Made, MadeAll, Seen, calls_of, replies_of}
use Rattle.std.proofs.lemmas.List.{map-append}

-- no event
pub made_none : (s : Seen) → MadeAll s s [] []
made_none s = record {
  id = refl;
  share = omega arith;
  added = [];
  own = sym (append-nil s.own);
  calls = refl;
  replies = refl;
}

-- one
pub made_one : (old new : Seen) (call : Call) (reply : Reply) → Made old new call reply → MadeAll old new (call ∷ []) (reply ∷ [])
made_one old new call reply made = record {
  id = made.id;
  share = made.share;
  added = record { event = made.told.event; call = call; reply = reply } ∷ [];
  own = made.told.next;
  calls = refl;
  replies = refl;
}

-- some, and then others
pub made_then : (old mid new : Seen) (calls others : List Call) (replies further : List Reply) →
    MadeAll old mid calls replies → MadeAll mid new others further → MadeAll old new (calls ++ others) (replies ++ further)
made_then old mid new calls others replies further a b = record {
  id = b.id ∙ a.id;
  share = omega (arith, a.share, b.share, length-append calls others);
  added = a.added ++ b.added;
  own = b.own ∙ (ap (λ (l : List Own). l ++ b.added) a.own ∙ append_assoc old.own a.added b.added);
  calls = map-append (λ (o : Own). o.call) a.added b.added ∙ (ap (λ (l : List Call). l ++ calls_of b.added) a.calls
      ∙ ap (λ (l : List Call). calls ++ l) b.calls);
  replies = map-append (λ (o : Own). o.reply) a.added b.added ∙ (ap (λ (l : List Reply). l ++ replies_of b.added) a.replies
      ∙ ap (λ (l : List Reply). replies ++ l) b.replies);
}

-- some, and then one more
pub made_more : (old mid new : Seen) (calls : List Call) (call : Call) (replies : List Reply) (reply : Reply) →
    MadeAll old mid calls replies → Made mid new call reply → MadeAll old new (calls ++ call ∷ []) (replies ++ reply ∷ [])
made_more old mid new calls call replies reply a made =
    made_then old mid new calls (call ∷ []) replies (reply ∷ []) a (made_one mid new call reply made)
