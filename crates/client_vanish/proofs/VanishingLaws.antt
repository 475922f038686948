-- A client that vanishes gives up one object after another.
use Rattle.client_vanish.proofs.Common.{All, All-append, All-cons, All-nil, AllHeldBy, Bool, Call, Collection, CollectsFor, CollectsMany}
use Rattle.client_vanish.proofs.Common.{GivesUp, GivesUpSome, Goes, Handle, HasRoomFor, Held, HeldObject, Holds, IsGone, List}
use Rattle.client_vanish.proofs.Common.{ParcelContent, Reply, Seen, Token, [], ap, append-nil, append_assoc, arith, both}
use Rattle.client_vanish.proofs.Common.{collections_among, end_told, false, flat_map, handle_told, handles_among, held_in, inl, inr}
use Rattle.client_vanish.proofs.Common.{is_done, kept_of, length, length-append, map, owner_of, refl, sorted, subst, sym, tokens_among}
use Rattle.client_vanish.proofs.Common.{top_first, true, vanishing_call, ℕ, ◌++◌, ◌+◌, ◌∙◌, ◌∷◌, ◌≡◌, ◌≤◌}
use Rattle.std.proofs.Common.{◌⊎◌, replicate}
use Rattle.std.specs.Prelude.{vec_capacity, vec_len}
use Rattle.std.proofs.lemmas.List.Elements.{All-map}
use Rattle.sm_names.specs.declared.keys.Kind.{Kind}
use Rattle.std.proofs.lemmas.List.{map-append, length-map, replicate-append-replicate}
use Rattle.event_laws.specs.declared.own.Own.{Own}
use Rattle.client_ends.specs.Clients.{Made, MadeAll, calls_of, replies_of}
use Rattle.client_ends.proofs.MadeLaws.{made_more, made_none, made_one, made_then}
use Rattle.client_vanish.specs.Vanishings.{all_objects, held_end, parcels_told}
use Rattle.client_vanish.specs.Stacks.{CollectsOne, GivesUpIf}
use Rattle.client_vanish.proofs.ObjectLaws.{both_none, flat-append, flat_collections, flat_handles, flat_tokens, no_collection_h}
use Rattle.client_vanish.proofs.ObjectLaws.{no_collection_t, no_handle_c, no_handle_t, no_token_c, no_token_h, sorted-append}

-- ---- collecting

-- the last of some equal calls can stand behind the others as well as in front of them
replicate_push : (n : ℕ) (c : Call) → replicate (n + 1) c ≡ replicate n c ++ c ∷ []
replicate_push n c = sym (replicate-append-replicate n 1 c)

-- one more
pub collects_more : (old mid new : Seen) (told : List Reply) (ends handles ends' handles' : List HeldObject) →
    CollectsMany old mid told ends handles → (one : CollectsOne mid new ends ends' handles handles') →
    CollectsMany old new (told ++ one.reply ∷ []) ends' handles'
collects_more old mid new told ends handles ends' handles' so one = record {
  made =
      let calls : replicate (length (told ++ one.reply ∷ [])) Call.Collect ≡ replicate (length told) Call.Collect ++ Call.Collect ∷ [] =
      ap (λ n. replicate n Call.Collect) (length-append told (one.reply ∷ [])) ∙ replicate_push (length told) Call.Collect in
      subst (λ cs. MadeAll old new cs (told ++ one.reply ∷ [])) (sym calls) (made_more old mid new (replicate (length told) Call.Collect)
      Call.Collect told one.reply so.made one.made);
  ends_are = one.end ∙ grown (λ n. end_told n) ends so.ends_are;
  handles_are = one.handle ∙ grown (λ n. handle_told n) handles so.handles_are;
}
  where
    -- by joining what the last reply adds
    grown : (f : ℕ → Reply → List HeldObject) (objects : List HeldObject) → objects ≡ flat_map (f old.id) told →
        objects ++ f mid.id one.reply ≡ flat_map (f old.id) (told ++ one.reply ∷ [])
    grown f objects are =
        ap (λ n. objects ++ f n one.reply) so.made.id
        ∙ (ap (λ l. l ++ f old.id one.reply) are
        ∙ (ap (λ l. flat_map (f old.id) told ++ l) (sym (append-nil (f old.id one.reply)))
        ∙ sym (flat-append (f old.id) told (one.reply ∷ []))))

-- ---- vanishing

-- with nothing yet
abbrev pub parts_none : (s : Seen) (all : List HeldObject) (kept : Holds) → kept ≡ sorted [] → GivesUpSome s s all all kept
parts_none s all kept none = record { answers = []; parted = []; made = made_none s; all_is = refl; kept_is = none }

-- each answer is to one call
pub as_many : (old new : Seen) (calls : List Call) (answers : List Reply) → MadeAll old new calls answers → length calls ≡ length answers
as_many old new calls answers made =
    let asked : length (calls_of made.added) ≡ length made.added = length-map made.added (λ (o : Own). o.call) in
    let told : length (replies_of made.added) ≡ length made.added = length-map made.added (λ (o : Own). o.reply) in
    sym (ap length made.calls) ∙ (asked ∙ (sym told ∙ ap length made.replies))

-- what is kept of one more
kept_push : (objects : List HeldObject) (answers : List Reply) (object : HeldObject) (answer : Reply) → length objects ≡ length answers →
    kept_of (objects ++ object ∷ []) (answers ++ answer ∷ []) ≡ kept_of objects answers ++ kept_of (object ∷ []) (answer ∷ [])
kept_push [] [] object answer many = refl
kept_push [] (a ∷ answers) object answer many = absurd (omega (arith, many))
kept_push (t ∷ objects) [] object answer many = absurd (omega (arith, many))
kept_push (t ∷ objects) (a ∷ answers) object answer many =
    either (kept_push objects answers object answer (omega (arith, many))) (is_done a) refl
  where
    -- by cases: an object whose answer is Done is left out
    either : kept_of (objects ++ object ∷ []) (answers ++ answer ∷ []) ≡ kept_of objects answers ++ kept_of (object ∷ []) (answer ∷ []) →
        (b : Bool) → is_done a ≡ b →
        kept_of (t ∷ (objects ++ object ∷ [])) (a ∷ (answers ++ answer ∷ [])) ≡ kept_of (t ∷ objects) (a ∷ answers) ++ kept_of (object ∷ [])
        (answer ∷ [])
    either more true done = rw done more
    either more false not_done = rw not_done (ap (λ l. t ∷ l) more)

-- with one more
pub parts_more : (old mid new : Seen) (all left later : List HeldObject) (object : HeldObject) (ks : List HeldObject) (kept kept' : Holds) →
    GivesUpSome old mid all left kept → left ≡ object ∷ later → GivesUp mid new object ks →
    kept' ≡ both kept (sorted ks) → GivesUpSome old new all later kept'
parts_more old mid new all left later object ks kept kept' so on one grown =
    let many : length so.parted ≡ length so.answers =
    sym (length-map so.parted vanishing_call) ∙ as_many old mid (map vanishing_call so.parted) so.answers so.made in
    record {
      answers = so.answers ++ one.answer ∷ [];
      parted = so.parted ++ object ∷ [];
      made =
          let calls : map vanishing_call (so.parted ++ object ∷ []) ≡ map vanishing_call so.parted ++ vanishing_call object ∷ [] =
          map-append vanishing_call so.parted (object ∷ []) in
          subst (λ cs. MadeAll old new cs (so.answers ++ one.answer ∷ [])) (sym calls) (made_more old mid new (map vanishing_call so.parted)
          (vanishing_call object) so.answers one.answer so.made one.made);
      all_is = so.all_is ∙ (ap (λ l. so.parted ++ l) on ∙ sym (append_assoc so.parted (object ∷ []) later));
      kept_is = grown
          ∙ (ap (λ h. both h (sorted ks)) so.kept_is
          ∙ (ap (λ l. both (sorted (kept_of so.parted so.answers)) (sorted l)) one.kept_is
          ∙ (sym (sorted-append (kept_of so.parted so.answers) (kept_of (object ∷ []) (one.answer ∷ [])))
          ∙ ap sorted (sym (kept_push so.parted so.answers object one.answer many)))));
    }

-- with one that was answered Done
pub parted_done : (old new : Seen) (object : HeldObject) (call : Call) → vanishing_call object ≡ call → Made old new call Reply.Done →
    GivesUp old new object []
parted_done old new object call is made = record {
  answer = Reply.Done;
  made = subst (λ (c : Call). Made old new c Reply.Done) (sym is) made;
  kept_is = refl;
}

-- what is kept of one object is that object
pub kept_same : (old new : Seen) (x y : HeldObject) → GivesUp old new x (y ∷ []) → y ≡ x
kept_same old new x y one = either (is_done one.answer) refl
  where
    -- by cases: an object whose answer is Done is not kept
    either : (b : Bool) → is_done one.answer ≡ b → y ≡ x
    either true done =
        let none : y ∷ [] ≡ [] = one.kept_is ∙ rw done refl in cc
    either false other =
        let same : y ∷ [] ≡ x ∷ [] = one.kept_is ∙ rw other refl in cc

-- ---- all together

-- what is held, by kind
pub sorted_held : (held : Holds) → sorted (map Token held.tokens ++ (map Collection held.collections ++ map Handle held.handles)) ≡ held
sorted_held held = λ i. record {
  tokens = tokens i;
  collections = collections i;
  handles = handles i;
}
  where
    -- by the rule for an append, twice
    three : {A : Type 0} (f : HeldObject → List A) (a b c : List A) → flat_map f (map Token held.tokens) ≡ a →
        flat_map f (map Collection held.collections) ≡ b → flat_map f (map Handle held.handles) ≡ c →
        flat_map f (map Token held.tokens ++ (map Collection held.collections ++ map Handle held.handles)) ≡ a ++ (b ++ c)
    three f a b c x y z =
        flat-append f (map Token held.tokens) (map Collection held.collections ++ map Handle held.handles)
        ∙ (ap (λ l. l ++ flat_map f (map Collection held.collections ++ map Handle held.handles)) x
        ∙ ap (λ l. a ++ l) (flat-append f (map Collection held.collections) (map Handle held.handles)
        ∙ (ap (λ l. l ++ flat_map f (map Handle held.handles)) y ∙ ap (λ l. b ++ l) z)))

    -- by the lemma above: the other kinds have no tokens
    tokens : flat_map tokens_among (map Token held.tokens ++ (map Collection held.collections ++ map Handle held.handles)) ≡ held.tokens
    tokens = three tokens_among held.tokens [] [] (flat_tokens held.tokens) (no_token_c held.collections) (no_token_h held.handles)
        ∙ append-nil held.tokens

    -- by the lemma above: the other kinds have no collections
    collections : flat_map collections_among (map Token held.tokens ++ (map Collection held.collections ++ map Handle
        held.handles)) ≡ held.collections
    collections = three collections_among [] held.collections [] (no_collection_t held.tokens) (flat_collections held.collections)
        (no_collection_h held.handles) ∙ append-nil held.collections

    -- by the lemma above: the other kinds have no handles
    handles : flat_map handles_among (map Token held.tokens ++ (map Collection held.collections ++ map Handle held.handles)) ≡ held.handles
    handles = three handles_among [] [] held.handles (no_handle_t held.tokens) (no_handle_c held.collections) (flat_handles held.handles)

-- all that there is, with what was collected
abbrev pub stacked : List HeldObject → List HeldObject → Holds → List HeldObject
stacked ends handles held = ends ++ (map Token held.tokens ++ (map Collection held.collections ++ (handles ++ map Handle held.handles)))

-- the stack lists all objects that a vanishing client closes: those of the replies and those that were held
pub told_all : (old mid : Seen) → mid.id ≡ old.id → (told : List Reply) (ends handles : List HeldObject) (held : Holds) →
    ends ≡ flat_map (end_told mid.id) told → handles ≡ flat_map (handle_told mid.id) told →
    all_objects old.id told held ≡ stacked ends handles held
told_all old mid same told ends handles held ends_are handles_are =
    sym (ap (λ e. stacked e handles held) (ends_are ∙ ap (λ n. flat_map (end_told n) told) same)
    ∙ ap (λ h. stacked (flat_map (end_told old.id) told) h held) (handles_are ∙ ap (λ n. flat_map (handle_told n) told) same))

-- either the first condition holds, or leave is given and the second condition follows from it
pub in_turn : (may : Bool) (P Q : Type 0) → P ⊎ (may ≡ true) → (may ≡ true → Q) → P ⊎ Q
in_turn may P Q (inl p) whole = inl p
in_turn may P Q (inr so) whole = inr (whole so)

-- a client that made its Shut, this many Collects, and gave up some
abbrev pub goes : (old mid far new : Seen) (shut : Reply) (may : Bool) (ends handles all left : List HeldObject) (held kept back : Holds) →
    Made old mid Call.Shut shut →
    CollectsFor may (parcels_told shut) mid far ends handles → GivesUpIf may far new all left kept → all ≡ stacked ends handles held →
    back ≡ both kept (sorted left) → Goes old new held back
goes old mid far new shut may ends handles all left held kept back made collects part is back_is = record {
  shut = shut;
  told = collects.told;
  answers = part.parts.answers;
  parted = part.parts.parted;
  left = left;
  made = made_then old mid new (Call.Shut ∷ []) (replicate (length collects.told) Call.Collect ++ map vanishing_call part.parts.parted)
      (shut ∷ []) (collects.told ++ part.parts.answers) (made_one old mid Call.Shut shut made)
      (made_then mid far new (replicate (length collects.told) Call.Collect) (map vanishing_call part.parts.parted) collects.told
      part.parts.answers collects.collects.made part.parts.made);
  counted = collects.within;
  all = told_all old mid made.id collects.told ends handles held collects.collects.ends_are collects.collects.handles_are
      ∙ (sym is ∙ part.parts.all_is);
  turn = in_turn may (part.parts.parted ≡ []) (length collects.told ≡ parcels_told shut) part.turn collects.whole;
  back_is = back_is ∙ (ap (λ k. both k (sorted left)) part.parts.kept_is
      ∙ sym (sorted-append (kept_of part.parts.parted part.parts.answers) left));
}

-- one that is gone
pub gone : (old mid far new : Seen) (shut : Reply) (may : Bool) (ends handles all left : List HeldObject) (held kept : Holds) →
    Made old mid Call.Shut shut →
    CollectsFor may (parcels_told shut) mid far ends handles → GivesUpIf may far new all left kept → all ≡ stacked ends handles held →
    left ≡ [] → may ≡ true → IsGone old new held kept
gone old mid far new shut may ends handles all left held kept made collects part is none may_so = record {
  goes = goes old mid far new shut may ends handles all left held kept kept made collects part is (sym (both_none kept)
      ∙ ap (λ l. both kept (sorted l)) (sym none));
  collected = collects.whole may_so;
  done = none;
}

-- one that was stopped after its Shut, before its first Collect
pub shut_only : (old new : Seen) (shut : Reply) (held back : Holds) → Made old new Call.Shut shut → back ≡ held → Goes old new held back
shut_only old new shut held back made same = record {
  shut = shut;
  told = [];
  answers = [];
  parted = [];
  left = all_objects old.id [] held;
  made = made_one old new Call.Shut shut made;
  counted = omega arith;
  all = refl;
  turn = inl refl;
  back_is = same ∙ sym (sorted_held held);
}

-- ---- what was collected, and its holder

-- an end that a reply tells of is the client's
end_owner : (client : ℕ) (reply : Reply) → All (λ t. owner_of t ≡ client) (end_told client reply)
end_owner client (Reply.Collected key Kind.Token collection) =
    All-cons (λ t. owner_of t ≡ client) (held_end Kind.Token (record { client = client; key = key; collection = collection })) [] refl
    (All-nil (λ t. owner_of t ≡ client))
end_owner client (Reply.Collected key Kind.Collection collection) =
    All-cons (λ t. owner_of t ≡ client) (held_end Kind.Collection (record { client = client; key = key; collection = collection })) [] refl
    (All-nil (λ t. owner_of t ≡ client))
end_owner client _ = All-nil (λ t. owner_of t ≡ client)

-- so is a handle
handle_owner : (client : ℕ) (reply : Reply) → All (λ t. owner_of t ≡ client) (handle_told client reply)
handle_owner client (Reply.CollectedHandle buffer strength) =
    All-cons (λ t. owner_of t ≡ client) (Handle (record { client = client; buffer = buffer; strength = strength })) [] refl (All-nil (λ t.
    owner_of t ≡ client))
handle_owner client _ = All-nil (λ t. owner_of t ≡ client)

-- the client owns all that the replies tell of where it owns what each of them tells of
flat_owner : (client : ℕ) (f : Reply → List HeldObject) → ((r : Reply) → All (λ t. owner_of t ≡ client) (f r)) → (told : List Reply) →
    All (λ t. owner_of t ≡ client) (flat_map f told)
flat_owner client f each [] = All-nil (λ t. owner_of t ≡ client)
flat_owner client f each (r ∷ rs) = All-append (λ t. owner_of t ≡ client) (f r) (flat_map f rs) (each r) (flat_owner client f each rs)

-- so all that there is is
pub owners : (client : ℕ) (told : List Reply) (ends handles : List HeldObject) (held : Holds) → AllHeldBy client held →
    ends ≡ flat_map (end_told client) told → handles ≡ flat_map (handle_told client) told →
    All (λ t. owner_of t ≡ client) (stacked ends handles held)
owners client told ends handles held of ends_are handles_are =
    let P : HeldObject → Type 0 = λ t. owner_of t ≡ client in
    let first : All P ends = subst (All P) (sym ends_are) (flat_owner client (end_told client) (end_owner client) told) in
    let later : All P handles = subst (All P) (sym handles_are) (flat_owner client (handle_told client) (handle_owner client) told) in
    All-append P ends (map Token held.tokens ++ (map Collection held.collections ++ (handles ++ map Handle held.handles))) first
    (All-append P (map Token held.tokens) (map Collection held.collections ++ (handles ++ map Handle held.handles))
    (All-map P Token held.tokens of.tokens)
    (All-append P (map Collection held.collections) (handles ++ map Handle held.handles) (All-map P Collection held.collections
    of.collections)
    (All-append P handles (map Handle held.handles) later (All-map P Handle held.handles of.handles))))

-- a reply tells of one object at most, of its kind
end_no_handle : (n : ℕ) (r : Reply) → flat_map handles_among (end_told n r) ≡ []
end_no_handle n (Reply.Collected key Kind.Token collection) = refl
end_no_handle n (Reply.Collected key Kind.Collection collection) = refl
end_no_handle n _ = refl

-- a handle that a reply tells of is no token
handle_no_token : (n : ℕ) (r : Reply) → flat_map tokens_among (handle_told n r) ≡ []
handle_no_token n (Reply.CollectedHandle buffer strength) = refl
handle_no_token n _ = refl

-- a handle that a reply tells of is no collection
handle_no_collection : (n : ℕ) (r : Reply) → flat_map collections_among (handle_told n r) ≡ []
handle_no_collection n (Reply.CollectedHandle buffer strength) = refl
handle_no_collection n _ = refl

-- a reply tells of one end at most, so of one token at most
end_one_token : (n : ℕ) (r : Reply) → length (flat_map tokens_among (end_told n r)) ≤ 1
end_one_token n (Reply.Collected key Kind.Token collection) = omega arith
end_one_token n (Reply.Collected key Kind.Collection collection) = omega arith
end_one_token n _ = omega arith

-- a reply tells of one end at most, so of one collection at most
end_one_collection : (n : ℕ) (r : Reply) → length (flat_map collections_among (end_told n r)) ≤ 1
end_one_collection n (Reply.Collected key Kind.Token collection) = omega arith
end_one_collection n (Reply.Collected key Kind.Collection collection) = omega arith
end_one_collection n _ = omega arith

-- a reply tells of one handle at most
handle_one_handle : (n : ℕ) (r : Reply) → length (flat_map handles_among (handle_told n r)) ≤ 1
handle_one_handle n (Reply.CollectedHandle buffer strength) = omega arith
handle_one_handle n _ = omega arith

-- so do replies
no_more : {A : Type 0} (f : HeldObject → List A) (g : Reply → List HeldObject) →
    ((r : Reply) → length (flat_map f (g r)) ≤ 1) → (told : List Reply) →
    length (flat_map f (flat_map g told)) ≤ length told
no_more f g each [] = omega arith
no_more f g each (r ∷ rs) =
    omega (
      arith,
      ap length (flat-append f (g r) (flat_map g rs)),
      length-append (flat_map f (g r)) (flat_map f (flat_map g rs)),
      each r,
      no_more f g each rs,
    )

-- replies bring no object of a kind where each of them brings none
none_of : {A : Type 0} (f : HeldObject → List A) (g : Reply → List HeldObject) →
    ((r : Reply) → flat_map f (g r) ≡ []) → (told : List Reply) →
    flat_map f (flat_map g told) ≡ []
none_of f g each [] = refl
none_of f g each (r ∷ rs) = flat-append f (g r) (flat_map g rs) ∙ (ap (λ l. l ++ flat_map f (flat_map g rs)) (each r) ∙ none_of f g each rs)

-- how many of one kind there are in all
many_of : {A : Type 0} (f : HeldObject → List A) (ends handles : List HeldObject) (held : Holds) →
    length (flat_map f (stacked ends handles held))
    ≡ length (flat_map f ends) + (length (flat_map f (map Token held.tokens)) + (length
    (flat_map f (map Collection held.collections)) + (length (flat_map f handles) + length (flat_map f (map Handle held.handles)))))
many_of f ends handles held =
    let two = λ (a b : List HeldObject). ap length (flat-append f a b) ∙ length-append (flat_map f a) (flat_map f b) in
    omega (
      arith,
      two ends (map Token held.tokens ++ (map Collection held.collections ++ (handles ++ map Handle held.handles))),
      two (map Token held.tokens) (map Collection held.collections ++ (handles ++ map Handle held.handles)),
      two (map Collection held.collections) (handles ++ map Handle held.handles),
      two handles (map Handle held.handles),
    )

-- and there is room for them
pub room_all : {E S W : Type 0} (before after : Held E S W) (n waiting : ℕ) (told : List Reply) (ends handles all : List HeldObject) →
    length told ≤ waiting → ends ≡ flat_map (end_told n) told → handles ≡ flat_map (handle_told n) told →
    all ≡ stacked ends handles (held_in before) → held_in after ≡ sorted [] → vec_len before.tokens + waiting ≤ vec_capacity before.tokens →
    vec_len before.collections + waiting ≤ vec_capacity before.collections →
    vec_len before.handles + waiting ≤ vec_capacity before.handles → vec_capacity after.tokens ≡ vec_capacity before.tokens →
    vec_capacity after.collections ≡ vec_capacity before.collections →
    vec_capacity after.handles ≡ vec_capacity before.handles → HasRoomFor after all
room_all before after n waiting told ends handles all few ends_are handles_are is none t c h same_t same_c same_h =
    let held : Holds = held_in before in
    record {
      tokens = omega (
        arith,
        few,
        t,
        same_t,
        before.tokens.ok.0,
        after.tokens.ok.0,
        ap (λ x. length x.tokens) none,
        ap (λ l. length (flat_map tokens_among l)) is,
        many_of tokens_among ends handles held,
        ap (λ l. length (flat_map tokens_among l)) ends_are,
        no_more tokens_among (end_told n) (end_one_token n) told,
        ap length (flat_tokens held.tokens),
        ap length (no_token_c held.collections),
        ap length (no_token_h held.handles),
        ap (λ l. length (flat_map tokens_among l)) handles_are,
        ap length (none_of tokens_among (handle_told n) (handle_no_token n) told),
      );
      collections = omega (
        arith,
        few,
        c,
        same_c,
        before.collections.ok.0,
        after.collections.ok.0,
        ap (λ x. length x.collections) none,
        ap (λ l. length (flat_map collections_among l)) is,
        many_of collections_among ends handles held,
        ap (λ l. length (flat_map collections_among l)) ends_are,
        no_more collections_among (end_told n) (end_one_collection n) told,
        ap length (no_collection_t held.tokens),
        ap length (flat_collections held.collections),
        ap length (no_collection_h held.handles),
        ap (λ l. length (flat_map collections_among l)) handles_are,
        ap length (none_of collections_among (handle_told n) (handle_no_collection n) told),
      );
      handles = omega (
        arith,
        few,
        h,
        same_h,
        before.handles.ok.0,
        after.handles.ok.0,
        ap (λ x. length x.handles) none,
        ap (λ l. length (flat_map handles_among l)) is,
        many_of handles_among ends handles held,
        ap (λ l. length (flat_map handles_among l)) ends_are,
        ap length (none_of handles_among (end_told n) (end_no_handle n) told),
        ap length (no_handle_t held.tokens),
        ap length (no_handle_c held.collections),
        ap length (flat_handles held.handles),
        ap (λ l. length (flat_map handles_among l)) handles_are,
        no_more handles_among (handle_told n) (handle_one_handle n) told,
      );
    }

-- an empty stack
pub top_none : {E S W : Type 0} (items : List (ParcelContent E S W)) → length items ≡ 0 → top_first items ≡ []
top_none [] none = refl
top_none (e ∷ es) none = absurd (omega (arith, none))
