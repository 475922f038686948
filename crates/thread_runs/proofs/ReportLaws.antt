-- What was gathered of actors that all vanished is what is told of them.
use Rattle.thread_runs.proofs.Common.{ActorEnd, ActorList, AllZip, AllZip-long, Bound, Entry, GatherFault, HasFinished, Holding, IsLeft}
use Rattle.thread_runs.proofs.Common.{IsPlayed, IsUntold, JoinsFirst, List, None, Output, Remains, Some, SomeCoreCame, ThreadsFault, []}
use Rattle.thread_runs.proofs.Common.{actors_of, ap, end_id, first_fault, first_stray, ids_of, inl, inr, joined, length-map, line_client}
use Rattle.thread_runs.proofs.Common.{map, part, refl, subst, sym, told_text, ℕ, ◌∙◌, ◌∷◌, ◌≡◌}
use Rattle.std.specs.List.{AllByRecursion}
use Rattle.std.proofs.lemmas.List.Elements.{recursion_from_All}
use Rattle.sm_names.specs.Legality.{IsLegal}
use Rattle.event_laws.specs.Lines.{client_line}
use Rattle.service_lock.specs.States.{IsSetUpWith, View}
use Rattle.client_vanish.specs.declared.gathering.Report.{Report}
use Rattle.client_vanish.specs.Gatherings.{IsGatherReport, IsSo, Matches}
use Rattle.actor_scripts.specs.declared.step.ActorScript.{ActorScript}
use Rattle.actor_scripts.specs.ActorLists.{steps_of}
use Rattle.script_lines.specs.declared.label.Label.{Label}
use Rattle.client_actors.specs.ActorEnds.{HaveRun, IsEndOf}
use Rattle.thread_runs.specs.Faults.{gather_fault}
use Rattle.thread_runs.specs.Gathered.{TellsCompany, TellsRecord}
use Rattle.thread_runs.specs.Runs.{IsRunText}
use Rattle.thread_runs.proofs.EndLaws.{ids-left}

-- each line is that of its client
clients-of : (history : List Entry) (clients : List ℕ) → map line_client (map (client_line history) clients) ≡ clients
clients-of history [] = refl
clients-of history (client ∷ clients) = ap (λ (l : List ℕ). client ∷ l) (clients-of history clients)

-- an actor that vanished, whose own list is its part of the record
was-played : (history : List Entry) (clients : List ℕ) (repeats : ℕ) (script : ActorScript) (wreck remains : Remains) →
    HasFinished clients repeats script.steps.items wreck →
    remains ≡ wreck → remains.client.own ≡ part remains.client.id history →
    IsPlayed history clients repeats (steps_of script) remains.client.id
was-played history clients repeats script wreck remains played is own = record {
  left = remains;
  its_id = refl;
  its_part = own;
  played = subst (HasFinished clients repeats script.steps.items) (sym is) played;
}

module _ {E S W : Type 0} where
  -- what was gathered is told
  pub tells : (output : Output) (pages : ℕ) (limits : Bound) (s : View) (labels : List Label)
      (parts : List (Holding E S W)) (report : Report)
      (text : List ℕ) → IsSetUpWith pages limits s.pool s.limits → IsGatherReport s parts report →
      map line_client report.lines.items ≡ ids_of parts → SomeCoreCame s.pool s.limits s.history →
      text ≡ told_text output labels s.history →
      TellsRecord output pages limits s labels parts text
  tells output pages limits s labels parts report text asked so ordered came told = record {
    legal = subst (λ (p : ℕ). IsLegal p limits s.history) asked.0 (subst (λ (b : Bound). IsLegal s.pool b s.history) asked.1 so.legal);
    came = subst (λ (p : ℕ). SomeCoreCame p limits s.history) asked.0 (subst (λ (b : Bound). SomeCoreCame s.pool b s.history) asked.1 came);
    ordered = sym (clients-of s.history (joined s.history)) ∙ ap (map line_client) (sym so.lines) ∙ ordered;
    own_lists = so.own_lists;
    told = told;
  }

  -- what was found when the parts were compared is why nothing is told
  pub untold : (s : View) (parts : List (Holding E S W)) (fault : GatherFault) → IsSo s parts fault →
      IsUntold s parts (gather_fault fault)
  untold s parts GatherFault.NoMemory so = tt
  untold s parts (GatherFault.MissingClient client) so = inl so
  untold s parts (GatherFault.OpenValues strong weak) so = inl so
  untold s parts (GatherFault.RecordMismatch event) so = inl so

  -- the lines are those of the clients that joined, so that the first that differs from the parts is one
  pub stray_told : (s : View) (parts : List (Holding E S W)) (report : Report) (client : ℕ) → IsGatherReport s parts report →
      first_stray (map line_client report.lines.items) (ids_of parts) ≡ Some client →
      IsUntold s parts (ThreadsFault.Gather (GatherFault.MissingClient client))
  stray_told s parts report client so stray =
      let lines : map line_client report.lines.items ≡ joined s.history = ap (map line_client) so.lines
      ∙ clients-of s.history (joined s.history) in
      inr (subst (λ (ids : List ℕ). first_stray ids (ids_of parts) ≡ Some client) lines stray)

  module _ (history : List Entry) (clients : List ℕ) (repeats : ℕ) where
    -- each of the actors is such a one
    were-played : (scripts : List ActorScript) (ends : List (ActorEnd E S W)) (parts : List (Holding E S W)) →
        AllZip (IsEndOf clients repeats) scripts ends →
        AllZip IsLeft ends parts → first_fault ends ≡ None → AllByRecursion (Matches history) parts →
        AllZip (IsPlayed history clients repeats) (map steps_of scripts) (ids_of parts)
    were-played [] [] [] ran left well own = tt
    were-played [] [] (part ∷ parts) ran left well own = absurd left
    were-played [] (end ∷ ends) parts ran left well own = absurd ran
    were-played (script ∷ scripts) [] parts ran left well own = absurd ran
    were-played (script ∷ scripts) (end ∷ ends) [] ran left well own = absurd left
    were-played (script ∷ scripts) (ActorEnd.Wrecked wreck ∷ ends) (Holding.Wrecked remains ∷ parts) ran left well own =
        (was-played history clients repeats script wreck remains ran.0 left.0 own.0, were-played scripts ends parts ran.1 left.1 well own.1)
    were-played (script ∷ scripts) (ActorEnd.Wrecked wreck ∷ ends) (Holding.Present one its ∷ parts) ran left well own = absurd left.0
    were-played (script ∷ scripts) (ActorEnd.Stopped client held fault ∷ ends) (part ∷ parts) ran left well own = cc
    were-played (script ∷ scripts) (ActorEnd.NotStarted client ∷ ends) (part ∷ parts) ran left well own = cc

  -- it is told of the list
  pub is-told : (output : Output) (repeats pages : ℕ) (limits : Bound) (list : ActorList) (ends : List (ActorEnd E S W))
      (parts : List (Holding E S W)) → HaveRun repeats list.scripts.items ends →
      AllZip IsLeft ends parts → first_fault ends ≡ None → (text : List ℕ) →
      ((s : View) × TellsCompany output pages limits s list.labels.items parts text) →
      IsRunText output repeats pages limits (actors_of list) text
  is-told output repeats pages limits list ends parts ran left well text (s, so) = record {
    history = s.history;
    legal = so.tells.legal;
    came = so.tells.came;
    first = subst (λ (n : ℕ). JoinsFirst n s.history)
        (AllZip-long IsLeft ends parts left ∙ (AllZip-long _ list.scripts.items ends ran ∙ sym (length-map list.scripts.items steps_of)))
        so.first;
    played =
        let their : map end_id ends ≡ joined s.history = ids-left ends parts left ∙ sym so.tells.ordered in
        let played = were-played s.history (joined s.history) repeats list.scripts.items ends parts
        (subst (λ (ids : List ℕ). AllZip (IsEndOf ids repeats) list.scripts.items ends) their ran) left well
        (recursion_from_All (Matches s.history) parts so.tells.own_lists) in
        subst (AllZip (IsPlayed s.history (joined s.history) repeats) (map steps_of list.scripts.items)) (sym so.tells.ordered) played;
    told = so.tells.told;
  }
