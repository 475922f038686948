-- What is told of the nodes that an event takes.
use Rattle.fate_laws.proofs.Common.{Birth, Bound, Call, Called, Cause, Collection, Counts, End, Entry, GoneNode, Grows, Interval}
use Rattle.fate_laws.proofs.Common.{IsAnswer, List, Loss, Mark, Matches, NodeKey, None, Option, Reply, Shows, Some, State, Timeline, []}
use Rattle.fate_laws.proofs.Common.{after, ap, append-nil, append_assoc, birth_of, births, collection_in, counts_on, falls_at, falls_by}
use Rattle.fate_laws.proofs.Common.{false, flat_map, gone, is_kept, is_some-find, laid_on, legal_grows, option_map, placed_in, readings}
use Rattle.fate_laws.proofs.Common.{refl, same_key, stages, subst, sym, timeline, true, was_born, whole, ℕ, ◌++◌, ◌∙◌, ◌∷◌, ◌≡◌}
use Rattle.std.proofs.lemmas.Grind.{flat_map-append}
use Rattle.std.specs.List.{cons_option}
use Rattle.std.specs.Option.{option_and_then, unwrap_or}
use Rattle.sm_names.specs.declared.keys.BufferName.{BufferName}
use Rattle.sm_names.specs.Answers.{new_key}
use Rattle.sm_names.specs.Timelines.{buffer_of, collection_of, key_of, opened_by, own_loss}
use Rattle.sm_names.specs.Words.{first_some}
use Rattle.sm_names.proofs.SamenessLaws.{some_is}
use Rattle.history_laws.proofs.GrowthLaws.{Stays, Answers, Loses, Allocates, Ends, grows_lost, own_loss_origin}
use Rattle.history_laws.proofs.LegalLaws.{own_loss_no_event}
use Rattle.buffer_holds.specs.Counts.{total}
use Rattle.forest_store.specs.declared.change.Change.{Change}
use Rattle.forest_store.specs.Forest.{beside}
use Rattle.forest_store.specs.Settling.{changed, collection_or_new, no_key}
use Rattle.core_state.specs.Reads.{readings_of}
use Rattle.core_state.specs.State.{HandleCounts}
use Rattle.core_state.specs.Steps.{Follows, Work, end_by, handles_by, place_of, work_of}
use Rattle.core_state.proofs.answers.Changes.{starts}
use Rattle.core_state.proofs.handles.Counts.{handles_called}
use Rattle.core_state.proofs.views.SameAnswers.{answer_is}
use Rattle.forced_marks.specs.Marks.{AreStages, Stage, StagesIn, changed_by, own_mark, own_stage}
use Rattle.forced_marks.proofs.EventTold.{told_of_none, told_of_work}
use Rattle.forced_marks.proofs.OwnMark.{own_is}
use Rattle.fate_laws.proofs.Fell.{AreToldOf, told_on}
use Rattle.fate_laws.proofs.Forced.{lost_told, settles_told}

-- the last loss is of a node that was born
origin_born : (pool : ℕ) (limits : Bound) (marks before : Timeline) (origin : NodeKey) (cause : Cause) → Grows pool limits [] marks →
    marks ≡ Loss origin cause ∷ before → was_born (births before) origin ≡ true
origin_born pool limits _ before origin cause Stays e = cc
origin_born pool limits _ before origin cause (Answers b client reply call g answer) e = cc
origin_born pool limits _ before origin cause (Allocates b collection head g f) e = cc
origin_born pool limits _ before origin cause (Ends b collection top g f) e = cc
origin_born pool limits _ before origin cause (Loses b o c g born) e =
    let same : b ≡ before = cc in
    let is : o ≡ origin = cc in
    subst (λ (ms : Timeline). was_born (births ms) origin ≡ true) same (subst (λ (k : NodeKey). was_born (births b) k ≡ true) is born)

module _ (old new : State) (history : List Entry) (client : ℕ) (call : Call) (reply : Reply) (shows : Shows old history)
    (told : IsAnswer old.limits (readings_of old) client call reply) (follows : Follows old new client call reply) where
  -- the marks before the event
  abbrev marks : Timeline
  marks = timeline old.pool history

  -- with its own
  abbrev called : Timeline
  called = Called client reply call ∷ marks

  -- and the loss that the call makes itself
  abbrev lost : Timeline
  lost = cons_option (own_loss marks call reply) called

  -- they grow
  grown : Grows old.pool old.limits [] marks
  grown = legal_grows old.pool old.limits history shows.legal

  -- the call is answered as the history has it
  answer : IsAnswer old.limits (readings (timeline old.pool history)) client call reply
  answer = answer_is old marks shows.shown old.limits grown old.limits client call reply told

  -- they grow on
  grown_lost : Grows old.pool old.limits [] (cons_option (own_loss (timeline old.pool history) call reply)
      (Called client reply call ∷ timeline old.pool history))
  grown_lost = grows_lost old.pool old.limits [] marks (client, call, reply) grown answer

  -- the handles that are open then
  counts : Counts (total new.holds) (Called client reply call ∷ timeline old.pool history)
  counts buffer strength = ap (λ (h : HandleCounts). h.total buffer strength)
      (follows.handles ∙ (ap (handles_by (Called client reply call)) shows.shown.handles
      ∙ sym (handles_called old.pool old.limits marks grown client reply call answer)))

  -- and behind the loss
  counts_lost : (o : Option Mark) → own_loss (timeline old.pool history) call reply ≡ o →
      Counts (total new.holds) (cons_option o (Called client reply call ∷ timeline old.pool history))
  counts_lost None e = counts
  counts_lost (Some mark) e = counts_on (total new.holds) called mark (own_loss_no_event marks call reply mark e) counts

  -- the node that the call loses is of the collection of the event
  origin_in : (id : ℕ) (origin : NodeKey) (cause : Cause) → own_loss (timeline old.pool history) call reply ≡ Some (Loss origin cause) →
      collection_of (Called client reply call ∷ timeline old.pool history) call reply ≡ Some id →
      collection_in (births (Called client reply call ∷ timeline old.pool history)) origin ≡ Some id
  origin_in id origin cause e of =
      let o = own_loss_origin old.pool old.limits [] marks call reply (Loss origin cause) e in
      let is : o.0 ≡ origin = cc in
      let named : key_of call ≡ Some origin = o.3 ∙ ap Some is in
      let born : was_born (births called) origin ≡ true = origin_born old.pool old.limits lost called origin cause grown_lost
      (ap (λ (l : Option Mark). cons_option l called) e) in
      let b = some_is (birth_of called origin) (is_some-find (λ (b : Birth). same_key b.node origin) (births called) ∙ born) in
      let here : collection_in (births called) origin ≡ Some b.0.collection = ap (option_map (λ (b : Birth). b.collection)) b.1 in
      here ∙ (sym (ap (λ (l : Option ℕ). first_some (l ∷ option_map (λ (b : BufferName). b.collection) (buffer_of call)
      ∷ opened_by call reply ∷ []))
      (ap (λ (l : Option NodeKey). option_map (λ (b : Birth). b.collection) (option_and_then (birth_of called) l)) named ∙ here)) ∙ of)

  -- a node that is not gone is kept
  keeps : (key : NodeKey) → gone (timeline old.pool history) key ≡ false → is_kept (timeline old.pool history) key ≡ true
  keeps key here = rw here refl

  -- the mark that the change itself is
  own_told : (change : Change) (c : Collection) (key : NodeKey) (others : List Interval) →
      own_loss (timeline old.pool history) call reply ≡ own_mark change →
      Matches old.pool (is_kept (timeline old.pool history))
      (cons_option (own_mark change) (Called client reply call ∷ timeline old.pool history)) others
      (placed_in (place_of (end_by client call reply)) (changed change key c)) →
      collection_of (Called client reply call ∷ timeline old.pool history) call reply ≡ Some (changed change key c).id →
      (falls : List GoneNode) → AreToldOf falls (timeline old.pool history) →
      AreToldOf (falls ++ flat_map falls_at (own_stage change c))
      (cons_option (own_mark change) (Called client reply call ∷ timeline old.pool history))
  own_told (Change.Loss origin cause) c key others e m of falls are =
      subst (λ (l : List GoneNode). AreToldOf (falls ++ l) (Loss origin cause ∷ called)) (sym (append-nil (falls_by (Loss origin
      cause) c.nodes)))
      (told_on falls (falls_by (Loss origin cause) c.nodes) (Loss origin cause) called are
      (lost_told (is_kept marks) (place_of (end_by client call reply)) c.id called
      (whole old.pool old.limits called (Answers marks client reply call grown answer)) origin cause c.nodes keeps
      (origin_in c.id origin cause e of) m.nodes))
  own_told (Change.Birth parent attached by event) c key others e m of falls are =
      subst (λ (l : List GoneNode). AreToldOf l called) (sym (append-nil falls)) are
  own_told (Change.Effect on effect) c key others e m of falls are =
      subst (λ (l : List GoneNode). AreToldOf l called) (sym (append-nil falls)) are
  own_told Change.Nothing c key others e m of falls are = subst (λ (l : List GoneNode). AreToldOf l called) (sym (append-nil falls)) are

  -- what is changed, and then what is forced
  work_told : (w : Work) → work_of old client call reply ≡ Some w → (st : List Stage) →
      StagesIn old (total new.holds) reply (Some w) st → (falls : List GoneNode) → AreToldOf falls (timeline old.pool history) →
      AreToldOf (falls ++ flat_map falls_at st) (after old.pool (timeline old.pool history) (client, call, reply))
  work_told w e st is falls are =
      let by = is.1 in
      let c : Collection = collection_or_new old.forest w.collection in
      let key : NodeKey = unwrap_or (new_key reply) no_key in
      let later : Collection = changed_by old reply w in
      let others : List Interval = beside old.forest w.collection in
      let place : NodeKey → End → End = place_of (end_by client call reply) in
      let s = starts old marks shows.shown old.limits grown client reply call answer w e in
      let own : own_loss marks call reply ≡ own_mark w.change = own_is old marks shows.shown old.limits grown client reply call w e in
      let begins : Matches old.pool (is_kept marks) lost others (placed_in place later) =
      subst (λ (d : Collection). Matches old.pool (is_kept marks) lost others (placed_in place d)) (sym s.start_is) s.begins in
      let of : collection_of called call reply ≡ Some later.id =
      s.of ∙ ap Some (sym (ap (λ (d : Collection). d.id) s.start_is ∙ s.same_id)) in
      let first : AreToldOf (falls ++ flat_map falls_at (own_stage w.change c)) lost =
      subst (λ (o : Option Mark). AreToldOf (falls ++ flat_map falls_at (own_stage w.change c)) (cons_option o called)) (sym own)
      (own_told w.change c key others own
      (subst (λ (o : Option Mark). Matches old.pool (is_kept marks) (cons_option o called) others (placed_in place later)) own begins)
      of falls are) in
      let all : AreToldOf ((falls ++ flat_map falls_at (own_stage w.change c)) ++ flat_map falls_at (stages old.pool others later by.marks))
      (laid_on by.marks lost) =
      settles_told old.pool old.limits (total new.holds) (is_kept marks) place others lost later by.marks is.0 grown_lost
      (counts_lost (own_loss marks call reply) refl) begins by.settles
      (falls ++ flat_map falls_at (own_stage w.change c)) first in
      let parts : (falls ++ flat_map falls_at (own_stage w.change c)) ++ flat_map falls_at (stages old.pool others later by.marks)
      ≡ falls ++ flat_map falls_at st =
      append_assoc falls (flat_map falls_at (own_stage w.change c)) (flat_map falls_at (stages old.pool others later by.marks))
      ∙ ap (λ (l : List GoneNode). falls ++ l)
      (sym (ap (flat_map falls_at) by.gained
      ∙ flat_map-append falls_at (own_stage w.change c) (stages old.pool others later by.marks))) in
      subst (λ (l : List GoneNode). AreToldOf l (after old.pool marks (client, call, reply))) parts
      (subst (AreToldOf ((falls ++ flat_map falls_at (own_stage w.change c))
      ++ flat_map falls_at (stages old.pool others later by.marks)))
      (sym (told_of_work old new history client call reply shows told follows w e by.marks is.0 by.settles)) all)

  -- So the nodes that fell before, and those that the event takes, are those that fell with it.
  pub event_told : (st : List Stage) → AreStages old new client call reply st → (falls : List GoneNode) →
      AreToldOf falls (timeline old.pool history) →
      AreToldOf (falls ++ flat_map falls_at st) (after old.pool (timeline old.pool history) (client, call, reply))
  event_told st is falls are = by (work_of old client call reply) refl is
    where
      -- an event that changes no collection takes none
      by : (o : Option Work) → work_of old client call reply ≡ o → StagesIn old (total new.holds) reply o st →
          AreToldOf (falls ++ flat_map falls_at st) (after old.pool (timeline old.pool history) (client, call, reply))
      by None e none =
          subst (λ (l : List Stage). AreToldOf (falls ++ flat_map falls_at l) (after old.pool marks (client, call, reply))) (sym none)
          (subst (λ (l : List GoneNode). AreToldOf l (after old.pool marks (client, call, reply))) (sym (append-nil falls))
          (subst (AreToldOf falls) (sym (told_of_none old new history client call reply shows told follows e)) are))
      by (Some w) e some = work_told w e st some falls are
