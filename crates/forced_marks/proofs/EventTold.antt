-- The marks that are told of an event are those that the history has for it.
use Rattle.forced_marks.proofs.Common.{Call, Called, Collection, Counts, Entry, Follows, Grows, HandleCounts, Handles, Interval, List}
use Rattle.forced_marks.proofs.Common.{Mark, NodeKey, None, Option, Reply, SettlesBy, Some, Stage, StagesIn, State, Timeline, Work, []}
use Rattle.forced_marks.proofs.Common.{ap, beside, changed_by, collection_or_new, cons_option, counts_on, every_rests, forced, is_kept}
use Rattle.forced_marks.proofs.Common.{laid_on, legal_grows, made, map, next_forced, option_map_or, own_loss, own_mark, refl, settled}
use Rattle.forced_marks.proofs.Common.{subst, sym, timeline, total, work_of, ℕ, ◌∙◌, ◌∷◌, ◌≡◌}
use Rattle.sm_names.specs.Answers.{IsAnswer}
use Rattle.sm_names.specs.Reading.{readings}
use Rattle.sm_names.specs.Timelines.{after}
use Rattle.history_laws.proofs.GrowthLaws.{grows_lost}
use Rattle.history_laws.proofs.LegalLaws.{own_loss_no_event}
use Rattle.forest_store.specs.declared.node.End.{End}
use Rattle.core_state.specs.Reads.{readings_of}
use Rattle.core_state.specs.Shown.{Shows}
use Rattle.core_state.specs.Steps.{end_by, handles_by, place_of}
use Rattle.core_state.proofs.answers.Changes.{idle, starts}
use Rattle.core_state.proofs.ends.NotRead.{placed_in, standing_placed, made_placed}
use Rattle.core_state.proofs.forced.NothingForced.{idle_after}
use Rattle.core_state.proofs.handles.Counts.{handles_called}
use Rattle.core_state.proofs.views.SameAnswers.{answer_is}
use Rattle.forced_marks.specs.Marks.{AreStages, Rests, Forces}
use Rattle.forced_marks.proofs.OwnMark.{laid_own, own_is}
use Rattle.forced_marks.proofs.Staged.{marks_staged}
use Rattle.forced_marks.proofs.Tied.{told_is_forced}

-- wherever the ends are, the same marks are told
told_placed : (place : NodeKey → End → End) (pool : ℕ) (handles : Handles) (others : List Interval) (c : Collection) (ms : List Mark)
    (after : Collection) →
    SettlesBy pool handles others c ms after → SettlesBy pool handles others (placed_in place c) ms (placed_in place after)
told_placed place pool handles others c _ _ (Rests _ none) =
    Rests (placed_in place c) (ap (forced pool) (standing_placed place handles others c) ∙ none)
told_placed place pool handles others c _ _ (Forces _ after mark ms some next) =
    Forces (placed_in place c) (placed_in place after) mark ms (ap (forced pool) (standing_placed place handles others c) ∙ some)
    (subst (λ (d : Collection). SettlesBy pool handles others d ms (placed_in place after)) (sym (made_placed place pool others mark c))
    (told_placed place pool handles others (made pool others mark c) ms after next))

module _ (old new : State) (history : List Entry) (client : ℕ) (call : Call) (reply : Reply) (shows : Shows old history)
    (told : IsAnswer old.limits (readings_of old) client call reply) (follows : Follows old new client call reply) where
  -- the marks before the event
  abbrev marks : Timeline
  marks = timeline old.pool history

  -- with its own
  abbrev called : Timeline
  called = Called client reply call ∷ marks

  -- they grow
  grown : Grows old.pool old.limits [] marks
  grown = legal_grows old.pool old.limits history shows.legal

  -- the call is answered as the history has it
  answer : IsAnswer old.limits (readings (timeline old.pool history)) client call reply
  answer = answer_is old marks shows.shown old.limits grown old.limits client call reply told

  -- the handles that are open then
  counts : Counts (total new.holds) (Called client reply call ∷ timeline old.pool history)
  counts buffer strength = ap (λ (h : HandleCounts). h.total buffer strength)
      (follows.handles ∙ (ap (handles_by (Called client reply call)) shows.shown.handles
      ∙ sym (handles_called old.pool old.limits marks grown client reply call answer)))

  -- and after a loss of its own
  counts_lost : Counts (total new.holds) (cons_option (own_loss (timeline old.pool history) call reply)
      (Called client reply call ∷ timeline old.pool history))
  counts_lost = from (own_loss marks call reply) refl
    where
      from : (o : Option Mark) → own_loss marks call reply ≡ o → Counts (total new.holds) (cons_option o called)
      from None e = counts
      from (Some mark) e = counts_on (total new.holds) called mark (own_loss_no_event marks call reply mark e) counts

  -- where the event changes a collection, these are all its marks
  pub told_of_work : (w : Work) → work_of old client call reply ≡ Some w → (ms : List Mark) (left : Collection) →
      SettlesBy old.pool (total new.holds) (beside old.forest w.collection) (changed_by old reply w) ms left →
      after old.pool (timeline old.pool history) (client, call, reply)
      ≡ laid_on ms (cons_option (own_loss (timeline old.pool history) call reply) (Called client reply call ∷ timeline old.pool history))
  told_of_work w e ms left by =
      let st = starts old marks shows.shown old.limits grown client reply call answer w e in
      let lost : Timeline = cons_option (own_loss marks call reply) called in
      let place : NodeKey → End → End = place_of (end_by client call reply) in
      let is : after old.pool marks (client, call, reply) ≡ settled old.pool st.start.id lost =
      ap (λ (o : Option ℕ). option_map_or (λ collection. settled old.pool collection lost) o lost) st.of
      ∙ ap (λ (n : ℕ). settled old.pool n lost) (sym st.same_id) in
      is ∙ told_is_forced old.pool old.limits (total new.holds) (is_kept marks) (beside old.forest w.collection) lost
      (placed_in place st.start) ms (placed_in place left)
      (grows_lost old.pool old.limits [] marks (client, call, reply) grown answer) counts_lost st.begins
      (told_placed place old.pool (total new.holds) (beside old.forest w.collection) st.start ms left
      (subst (λ (c : Collection). SettlesBy old.pool (total new.holds) (beside old.forest w.collection) c ms left) st.start_is by))

  -- and any other event has no mark but its own
  pub told_of_none : work_of old client call reply ≡ None →
      after old.pool (timeline old.pool history) (client, call, reply) ≡ Called client reply call ∷ timeline old.pool history
  told_of_none none =
      let rests : (collection : ℕ) → next_forced old.pool collection marks ≡ None =
      every_rests old.pool old.limits history shows.legal.answers in
      idle_after old marks shows.shown old.limits grown client reply call answer
      (idle old marks shows.shown old.limits grown client reply call answer none) rests

  -- so the stages of the event have these marks
  stages_of_work : (w : Work) → work_of old client call reply ≡ Some w → (st : List Stage) →
      StagesIn old (total new.holds) reply (Some w) st →
      after old.pool (timeline old.pool history) (client, call, reply)
      ≡ laid_on (map (λ (x : Stage). x.mark) st) (Called client reply call ∷ timeline old.pool history)
  stages_of_work w e st is =
      let by = is.1 in
      let own : own_loss marks call reply ≡ own_mark w.change = own_is old marks shows.shown old.limits grown client reply call w e in
      told_of_work w e by.marks is.0 by.settles
      ∙ (ap (λ (o : Option Mark). laid_on by.marks (cons_option o called)) own
      ∙ (laid_own (own_mark w.change) by.marks called
      ∙ ap (λ (ms : List Mark). laid_on ms called)
      (sym (ap (map (λ (x : Stage). x.mark)) by.gained
      ∙ marks_staged old.pool (beside old.forest w.collection) w.change (collection_or_new old.forest w.collection)
      (changed_by old reply w) by.marks))))

  -- whatever it changes
  pub told_of_stages : (st : List Stage) → AreStages old new client call reply st →
      after old.pool (timeline old.pool history) (client, call, reply)
      ≡ laid_on (map (λ (x : Stage). x.mark) st) (Called client reply call ∷ timeline old.pool history)
  told_of_stages st are = from (work_of old client call reply) refl are
    where
      from : (o : Option Work) → work_of old client call reply ≡ o → StagesIn old (total new.holds) reply o st →
          after old.pool (timeline old.pool history) (client, call, reply)
          ≡ laid_on (map (λ (x : Stage). x.mark) st) (Called client reply call ∷ timeline old.pool history)
      from None e none =
          told_of_none e ∙ ap (λ (xs : List Stage). laid_on (map (λ (x : Stage). x.mark) xs) called) (sym none)
      from (Some w) e is = stages_of_work w e st is
