-- The events in which nodes failed, one event more.
use Rattle.std.proofs.Common.{◌≡◌, ℕ, ◌==◌, Bool, if◌then◌else◌, List, [], ◌∷◌, ◌++◌, length}
use Rattle.std.proofs.Common.{length-append, append_assoc, append-nil, refl, sym, ap, ◌∙◌}
use Rattle.std.proofs.lemmas.Bool.{eq-eqb}
use Rattle.sm_names.specs.Marks.{Entry}
use Rattle.sm_names.specs.Timelines.{timeline}
use Rattle.script_labels.specs.declared.act.Act.{Act}
use Rattle.sm_script.specs.Scenes.{ActGives, Scene}
use Rattle.event_texts.specs.declared.event_writer.EventWriter.{EventWriter}
use Rattle.event_texts.specs.Failing.{failing_behind, failing_events, failing_with, failures}
use Rattle.script_explain.specs.Progress.{failing_since}

-- one more event comes last, by induction on those before it
behind-more : (pool : ℕ) (before later : List Entry) (e : Entry) →
    failing_behind pool before (later ++ e ∷ []) ≡ failing_behind pool before later ++ failing_with pool (before ++ later) e
behind-more pool before [] e =
    append-nil (failing_with pool before e) ∙ ap (λ (b : List Entry). failing_with pool b e) (sym (append-nil before))
behind-more pool before (x ∷ later) e =
    let one = failing_with pool before x in
    let rest = failing_behind pool (before ++ x ∷ []) later in
    ap (λ (back : List ℕ). one ++ back) (behind-more pool (before ++ x ∷ []) later e)
    ∙ sym (append_assoc one rest (failing_with pool ((before ++ x ∷ []) ++ later) e))
    ∙ ap (λ (b : List Entry). (one ++ rest) ++ failing_with pool b e) (append_assoc before (x ∷ []) later)

-- as many failures as before add no event
none-more : (a b n : ℕ) → a ≡ b → (if a == b then [] else n ∷ []) ≡ []
none-more a b n same =
    ap (λ (x : ℕ). if x == b then [] else n ∷ []) same ∙ ap (λ (t : Bool). if t then [] else n ∷ []) (eq-eqb b b refl)

module _ (pool : ℕ) (writer next : EventWriter) (scene later : Scene) (counted : writer.failures ≡ failures (timeline pool scene.history))
    (counted_later : next.failures ≡ failures (timeline pool later.history))
    (events : next.session.core.events ≡ length later.history) where
  -- nothing happened, so no more events failed
  stays : later ≡ scene → failing_events pool scene.history ++ failing_since writer.failures next ≡ failing_events pool later.history
  stays same =
      ap (λ (back : List ℕ). failing_events pool scene.history ++ back)
      (none-more next.failures writer.failures next.session.core.events
      (counted_later ∙ ap (λ (s : Scene). failures (timeline pool s.history)) same ∙ sym counted))
      ∙ append-nil (failing_events pool scene.history)
      ∙ ap (λ (s : Scene). failing_events pool s.history) (sym same)

  -- one more event is among them exactly where more events failed behind it
  moves : (e : Entry) → later.history ≡ scene.history ++ e ∷ [] →
      failing_events pool scene.history ++ failing_since writer.failures next ≡ failing_events pool later.history
  moves e same =
      let before = failing_events pool scene.history in
      (λ i. before ++ (if counted_later i == counted i then [] else events i ∷ []))
      ∙ ap (λ (h : List Entry). before
      ++ (if failures (timeline pool h) == failures (timeline pool scene.history) then [] else length h ∷ [])) same
      ∙ ap (λ (n : ℕ). before
      ++ (if failures (timeline pool (scene.history ++ e ∷ [])) == failures (timeline pool scene.history) then [] else n ∷ []))
      (length-append scene.history (e ∷ []))
      ∙ sym (behind-more pool [] scene.history e)
      ∙ ap (failing_events pool) (sym same)

  -- the act adds its event, where it has one
  pub failing-more : (act : Act) (text : List ℕ) → ActGives pool scene act text later →
      failing_events pool scene.history ++ failing_since writer.failures next ≡ failing_events pool later.history
  failing-more Act.Nothing text gives = stays gives.1
  failing-more (Act.Ask client call binds) text gives =
      moves (client, call, gives.0) (ap (λ (s : Scene). s.history) gives.2)
  failing-more (Act.Poll tracker) text gives = stays gives.3
  failing-more (Act.Show view) text gives = stays gives.1
