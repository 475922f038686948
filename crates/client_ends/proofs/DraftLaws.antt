-- The calls of a draft, made one after another.
use Rattle.std.proofs.Common.{ℕ, ◌≡◌, ap, sym, ◌∙◌, subst, List, [], ◌∷◌, ◌++◌, append_assoc, append-nil}
use Rattle.std.proofs.lemmas.Grind.{flat_map-append}
use Rattle.std.proofs.lemmas.List.{map-append}
use Rattle.std.specs.List.{flat_map}
use Rattle.sm_names.specs.declared.keys.NodeKey.{NodeKey}
use Rattle.sm_names.specs.declared.messages.Call.{Call}
use Rattle.sm_names.specs.declared.messages.Reply.{Reply}
use Rattle.client_ends.specs.declared.draft.Drafted.{Drafted}
use Rattle.client_ends.specs.Clients.{MadeAll, Seen, Tag}
use Rattle.client_ends.specs.Drafts.{DraftStopped, Sketch, DraftSynced, DraftSyncedPart}
use Rattle.client_ends.specs.Drafts.{DraftSyncedFirst, DraftSyncedNext, drafted_call, drafted_calls, token_told}
use Rattle.client_ends.proofs.MadeLaws.{made_more, made_none}

-- one more drafted call is one more call
pub calls_push : (key : NodeKey) (ds : List Drafted) (d : Drafted) →
    drafted_calls key (ds ++ d ∷ []) ≡ drafted_calls key ds ++ drafted_call key d ∷ []
calls_push key ds d = map-append (drafted_call key) ds (d ∷ [])

-- some, and then one more
pub went_on : (old mid new : Seen) (calls : List Call) (call : Call) (before after : List Reply) (ends further : List Tag) →
    DraftSynced old mid calls before ends → DraftSyncedNext mid new call before after ends further →
    DraftSynced old new (calls ++ call ∷ []) after further
went_on old mid new calls call before after ends further synced on =
    let f : ℕ → Reply → List Tag = token_told in
    let id : mid.id ≡ old.id = synced.made.id in
    let one : f mid.id on.reply ≡ flat_map (f old.id) (on.reply ∷ []) =
    ap (λ (i : ℕ). f i on.reply) id ∙ sym (append-nil (f old.id on.reply)) in
    let ends_are : ends ++ f mid.id on.reply ≡ flat_map (f old.id) (before ++ on.reply ∷ []) =
    ap (λ (l : List Tag). l ++ f mid.id on.reply) synced.tokens
    ∙ (ap (λ (l : List Tag). flat_map (f old.id) before ++ l) one ∙ sym (flat_map-append (f old.id) before (on.reply ∷ []))) in
    record {
      made = subst (λ (r : List Reply). MadeAll old new (calls ++ call ∷ []) r) (sym on.replies)
          (made_more old mid new calls call before on.reply synced.made on.made);
      tokens = on.tokens ∙ (ends_are ∙ ap (λ (r : List Reply). flat_map (f old.id) r) (sym on.replies));
    }

-- as far, and then the first of what was left
pub far_on : (old mid new : Seen) (key : NodeKey) (all : List Call) (drafted left : List Drafted) (before after : List Reply)
    (ends further : List Tag) →
    DraftSyncedPart old mid all (drafted_calls key drafted) before ends →
    DraftSyncedFirst mid new key drafted left before after ends further →
    DraftSyncedPart old new all (drafted_calls key left) after further
far_on old mid new key all drafted left before after ends further far on = record {
  calls = far.calls ++ drafted_call key on.first ∷ [];
  first = append_assoc far.calls (drafted_call key on.first ∷ []) (drafted_calls key left)
      ∙ (ap (λ (l : List Drafted). far.calls ++ drafted_calls key l) (sym on.more) ∙ far.first);
  synced = went_on old mid new far.calls (drafted_call key on.first) before after ends further far.synced on.synced;
}

-- so far that none is left, and then one more
pub went_all : (old mid new : Seen) (key : NodeKey) (all : List Call) (call : Call) (left : List Drafted) (before after : List Reply)
    (ends further : List Tag) →
    DraftSyncedPart old mid all (drafted_calls key left) before ends → left ≡ [] → DraftSyncedNext mid new call before after ends further →
    DraftSynced old new (all ++ call ∷ []) after further
went_all old mid new key all call left before after ends further far none on =
    let whole : far.calls ≡ all =
    sym (append-nil far.calls) ∙ (ap (λ (l : List Drafted). far.calls ++ drafted_calls key l) (sym none) ∙ far.first) in
    subst (λ (l : List Call). DraftSynced old new (l ++ call ∷ []) after further) whole
    (went_on old mid new far.calls call before after ends further far.synced on)

-- nothing of a draft
pub stopped_none : (s : Seen) (draft rest : Sketch) (replies : List Reply) (ends : List Tag) → rest ≡ draft → replies ≡ [] → ends ≡ [] →
    DraftStopped s s draft rest replies ends
stopped_none s draft rest replies ends same no_reply no_end = record {
  token = ap (λ (d : Sketch). d.token) same;
  far = record {
    calls = [];
    first = ap (λ (d : Sketch). d.calls) same;
    synced = record {
      made = subst (λ (r : List Reply). MadeAll s s [] r) (sym no_reply) (made_none s);
      tokens = no_end ∙ ap (λ (r : List Reply). flat_map (token_told s.id) r) (sym no_reply);
    };
  };
}
