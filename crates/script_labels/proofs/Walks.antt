-- A walk over a record, entry by entry.
use Rattle.std.proofs.Common.{◌≡◌, ℕ, ◌+◌, List, ◌∷◌, ◌++◌, Option, append_assoc, refl, sym, ap, ◌∙◌, subst}
use Rattle.std.specs.Prelude.{Ok, Err, Result, OnOk, codes}
use Rattle.sm_names.specs.declared.messages.Reply.{Reply}
use Rattle.sm_names.specs.Marks.{Entry}
use Rattle.script_lines.specs.declared.label.Label.{Label}
use Rattle.script_labels.specs.declared.act.Binds.{Binds}
use Rattle.script_labels.specs.Names.{names_after}
use Rattle.script_labels.specs.Texts.{reply_text}
use Rattle.script_labels.specs.Records.{Scribe, binds_of, call_text, entry_text, labels_after, next_label}
use Rattle.script_labels.specs.Records.{record_from, scribe_after, scribe_noted, scribe_with_client}

-- what holds in any case holds at Ok
pub ok-always : {T E : Type 0} (result : Result T E) (P : Type 0) → P → OnOk result P
ok-always (Ok value) P holds = holds
ok-always (Err error) P holds = tt

-- what follows from what holds at Ok
pub ok-weaker : {T E : Type 0} (result : Result T E) (P Q : Type 0) → (P → Q) → OnOk result P → OnOk result Q
ok-weaker (Ok value) P Q so holds = so holds
ok-weaker (Err error) P Q so holds = tt

-- a client that joined is called by its label
pub joins : (s : Scribe) (binds : Binds) (reply : Reply) (client : ℕ) (label : Label) →
    binds ≡ Binds.Client label → reply ≡ Reply.Joined client →
    scribe_with_client (record s { names = names_after s.names binds reply }) client label ≡ scribe_noted s binds reply
joins s binds reply client label is-bound is-told = rw is-bound (rw is-told refl)

-- the four parts of an entry, one behind the other
pub is-entry : (old one two three new : List ℕ) (s : Scribe) (next : Option Label) (event : ℕ) (entry : Entry) (binds : Binds) →
    binds ≡ binds_of next event entry.1 → one ≡ old ++ call_text s binds entry.0 entry.1 → two ≡ one ++ codes "\n  " →
    three ≡ two ++ reply_text s.names binds entry.2 → new ≡ three ++ codes "\n" → new ≡ old ++ entry_text s next event entry
is-entry old one two three new s next event entry binds is call gap reply end =
    subst (λ (b : Binds). new
    ≡ old ++ (call_text s b entry.0 entry.1 ++ codes "\n  " ++ reply_text s.names b entry.2 ++ codes "\n")) is whole
  where
    -- the line of the call
    line : List ℕ
    line = call_text s binds entry.0 entry.1

    -- by the text of the call and two spaces on a new line
    up-to-gap : two ≡ old ++ (line ++ codes "\n  ")
    up-to-gap = gap ∙ ap (λ (t : List ℕ). t ++ codes "\n  ") call ∙ append_assoc old line (codes "\n  ")

    -- by the text of the reply behind it
    up-to-reply : three ≡ old ++ (line ++ codes "\n  " ++ reply_text s.names binds entry.2)
    up-to-reply =
        reply ∙ ap (λ (t : List ℕ). t ++ reply_text s.names binds entry.2) up-to-gap
        ∙ append_assoc old (line ++ codes "\n  ") (reply_text s.names binds entry.2)

    -- by the end of the line behind it
    whole : new ≡ old ++ (line ++ codes "\n  " ++ reply_text s.names binds entry.2 ++ codes "\n")
    whole =
        end ∙ ap (λ (t : List ℕ). t ++ codes "\n") up-to-reply
        ∙ append_assoc old (line ++ codes "\n  " ++ reply_text s.names binds entry.2) (codes "\n")

-- once one more entry was written, the text of those behind it is left
pub goes-on : (front text written : List ℕ) (s : Scribe) (labels left : List Label) (next : Option Label) (event : ℕ) (entry : Entry)
    (rest later : List Entry) → front ≡ text ++ record_from s labels event rest → rest ≡ entry ∷ later → next ≡ next_label labels →
    written ≡ text ++ entry_text s next event entry → left ≡ labels_after labels entry.1 →
    front ≡ written ++ record_from (scribe_after s next event entry) left (event + 1) later
goes-on front text written s labels left next event entry rest later so is first put after =
    subst (λ (ls : List Label). front ≡ written ++ record_from (scribe_after s next event entry) ls (event + 1) later) (sym after)
    (there ∙ ap (λ (t : List ℕ). t ++ record_from (scribe_after s next event entry) (labels_after labels entry.1) (event + 1) later)
    (sym put))
  where
    -- the text so far, with that of the entry joined to it
    here : front ≡ (text ++ entry_text s (next_label labels) event entry)
        ++ record_from (scribe_after s (next_label labels) event entry) (labels_after labels entry.1) (event + 1) later
    here =
        so ∙ ap (λ (es : List Entry). text ++ record_from s labels event es) is
        ∙ sym (append_assoc text (entry_text s (next_label labels) event entry)
        (record_from (scribe_after s (next_label labels) event entry) (labels_after labels entry.1) (event + 1) later))

    -- by the label that the call binds
    there : front ≡ (text ++ entry_text s next event entry)
        ++ record_from (scribe_after s next event entry) (labels_after labels entry.1) (event + 1) later
    there =
        subst (λ (n : Option Label). front ≡ (text ++ entry_text s n event entry)
        ++ record_from (scribe_after s n event entry) (labels_after labels entry.1) (event + 1) later) (sym first) here
