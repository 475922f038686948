-- A run that reads on, and how it ends.
use Rattle.std.proofs.Common.{◌≡◌, ◌≢◌, ℕ, ◌+◌, ◌-◌, ◌<◌, ◌≤◌, Bool, true, List, [], ◌++◌, length, length-append, take}
use Rattle.std.proofs.Common.{append_assoc, append-nil, refl, sym, ap, ◌∙◌, subst, Option, inl, inr, arith}
use Rattle.std.proofs.KnownBytes.{Appends-nil, Appends-kept, Consumes-nil, Consumes-trans, Consumes-kept}
use Rattle.std.specs.Prelude.{Ok, Err, Result, IfErr}
use Rattle.std.specs.Io.KnownBytes.{Consumes, IsAtEnd, Keeps}
use Rattle.report_io.specs.declared.fault.ReportFault.{ReportFault}
use Rattle.report_io.specs.declared.taking.Intake.{Intake}
use Rattle.report_io.specs.Faults.{HasReason, IsBadLine, IsWriteFault}
use Rattle.report_io.specs.Reasons.{unended_reason}
use Rattle.report_io.specs.Takings.{Breaks, BreaksOff, GoesOn, Stands}
use Rattle.report_io.proofs.Reporting.{write_fault_is}
use Rattle.report_io.proofs.Takings.{stands-empty, takes-all}
use Rattle.sm_script.specs.declared.player.Player.{Player}
use Rattle.script_lines.specs.declared.TheConstants.{MOST_BYTES}
use Rattle.script_lines.specs.Pieces.{lines_from, rest_from, whole_lines, last_part}
use Rattle.sm_script.specs.Players.{Refuses, Took}
use Rattle.sm_script.specs.Runs.{IsBeyond, IsTold, IsCutOff, RunStops, Runs}
use Rattle.sm_script.specs.Scenes.{Setting, Rests, first_scene}
use Rattle.sm_script.specs.Sessions.{setting_of}
use Rattle.script_lines.proofs.Piecing.{rest-append, lines-append}
use Rattle.sm_script.proofs.Playing.{stops-run, told-by}

module _ (left_before old : Option (List ℕ)) (first : Player) where
  -- a break ends the run, whatever bytes are beyond
  breaks-run : (next : Player) (left new : Option (List ℕ)) (script beyond : List ℕ) (fault : ReportFault) →
      Breaks (Took first) (Refuses first) next old new (whole_lines script) (last_part script) fault →
      IsBeyond beyond fault × RunStops (setting_of first.session) left old new script fault
  breaks-run next left new script beyond fault (inl stop) = stops-run first next old new left script beyond fault stop
  breaks-run next left new script beyond fault (inr (is, some, out)) =
      rw is (tt, inr (record { place = inr some; told = told-by first next old new true (whole_lines script) out }))

  -- these bytes came, the lines that end in them were answered, and this many more may come
  pub record Come (left now : Option (List ℕ)) (player : Player) (intake : Intake) (room : ℕ) : Type 0 where
    pub script : List ℕ
    pub taken : Consumes left_before left script
    pub counted : length script + room ≡ MOST_BYTES
    pub stands : Stands (Took first) player true intake.told old now (whole_lines script)
    pub rest : intake.front.items ≡ last_part script
    pub empty : intake.told.text.items ≡ []
    pub few : intake.told.lines ≤ length script

  module _ (left now : Option (List ℕ)) (player : Player) (intake : Intake) (room : ℕ) (come : Come left now player intake room) where
    -- the lines so far were answered
    come-told : IsTold (setting_of first.session) old now (whole_lines come.script)
    come-told = told-by first player old now true (whole_lines come.script)
        (stands-empty (Took first) player true intake.told old now (whole_lines come.script) come.stands come.empty)

    -- the bytes read and the room left add up to the limit, so the bytes read are within it
    within-most : length come.script ≤ MOST_BYTES
    within-most = omega (arith, come.counted)

    -- the script with no bytes behind it is still what the run takes
    all-taken : (later : Option (List ℕ)) → Consumes left_before later come.script → Consumes left_before later (come.script ++ [])
    all-taken later taken = subst (Consumes left_before later) (sym (append-nil come.script)) taken

    -- no more could be read
    pub runs-unread : (later : Option (List ℕ)) → Keeps left later →
        Runs (setting_of first.session) left_before later old now (Err ReportFault.ReadFault)
    runs-unread later kept = record {
      script = come.script;
      beyond = [];
      taken = all-taken later (Consumes-kept left_before left later come.script come.taken kept);
      within = within-most;
      full = λ some. absurd (some refl);
      outcome = (refl, come-told);
    }

    module _ (later new : Option (List ℕ)) (piece : List ℕ) (next : Player) where
      -- the lines of one more piece
      lines-on : whole_lines come.script ++ lines_from intake.front.items piece ≡ whole_lines (come.script ++ piece)
      lines-on = ap (λ f. whole_lines come.script ++ lines_from f piece) come.rest ∙ sym (lines-append [] come.script piece)

      -- what stands behind them
      rest-on : rest_from intake.front.items piece ≡ last_part (come.script ++ piece)
      rest-on = ap (λ f. rest_from f piece) come.rest ∙ sym (rest-append [] come.script piece)

      module _ (more : Bool) (later_in : Intake)
          (goes : GoesOn Took player intake.told now next later_in.told new (lines_from intake.front.items piece) more) where
        -- a player takes more lines at any time
        goes-true : more ≡ true
        goes-true = (goes first old (whole_lines come.script) come.stands).stands.took.0

        -- all lines that end in the piece were answered
        goes-all : Stands (Took first) next true later_in.told old new (whole_lines (come.script ++ piece))
        goes-all = subst (λ (m : Bool). Stands (Took first) next m later_in.told old new (whole_lines (come.script ++ piece))) goes-true
            (subst (Stands (Took first) next more later_in.told old new) lines-on
            (takes-all (Took first) next more later_in.told old new (whole_lines come.script) (lines_from intake.front.items piece)
            (goes first old (whole_lines come.script) come.stands) goes-true))

        -- one more piece was answered
        pub come-more : Consumes left later piece → (count : ℕ) → length piece ≡ count → count ≤ room →
            (more ≡ true → later_in.front.items ≡ rest_from intake.front.items piece) →
            later_in.told.text.items ≡ [] → later_in.told.lines ≤ intake.told.lines + length piece →
            Come later new next later_in (room - count)
        come-more read count is fits rest empty few = record {
          script = come.script ++ piece;
          taken = Consumes-trans left_before left later come.script piece come.taken read;
          counted = rw length-append (omega (arith, come.counted, is, fits));
          stands = goes-all;
          rest = rest goes-true ∙ rest-on;
          empty = empty;
          few = rw length-append (omega (arith, come.few, few));
        }

      -- the run stops at the piece, behind which there may be more
      module _ (beyond : List ℕ) (read : Consumes left later (piece ++ beyond)) (fits : length piece ≤ room)
          (full : beyond ≢ [] → length piece ≡ room) where
        -- by a fault that fits the lines of what was read so far
        runs-stopped : (fault : ReportFault) → IsBeyond beyond fault × RunStops (setting_of first.session) later old new (come.script ++ piece) fault →
            Runs (setting_of first.session) left_before later old new (Err fault)
        runs-stopped fault stops = record {
          script = come.script ++ piece;
          beyond = beyond;
          taken = subst (Consumes left_before later) (sym (append_assoc come.script piece beyond))
              (Consumes-trans left_before left later come.script (piece ++ beyond) come.taken read);
          within = rw length-append (omega (arith, come.counted, fits));
          full = λ some. rw length-append (omega (arith, come.counted, full some));
          outcome = stops;
        }

        -- since a line was not answered
        pub runs-broken : (fault : ReportFault) → BreaksOff Took player intake.told now Refuses next new
            (lines_from intake.front.items piece) (rest_from intake.front.items piece) fault →
            Runs (setting_of first.session) left_before later old new (Err fault)
        runs-broken fault breaks = runs-stopped fault (breaks-run next later new (come.script ++ piece) beyond fault
            (subst (λ (ls : List (List ℕ)). Breaks (Took first) (Refuses first) next old new ls (last_part (come.script ++ piece)) fault)
            lines-on
            (subst (λ (rest : List ℕ). Breaks (Took first) (Refuses first) next old new
            (whole_lines come.script ++ lines_from intake.front.items piece) rest fault) rest-on
            (breaks first old (whole_lines come.script) come.stands))))

        -- since there is more, where all lines were answered
        pub runs-long : (more : Bool) (later_in : Intake) → beyond ≢ [] →
            GoesOn Took player intake.told now next later_in.told new (lines_from intake.front.items piece) more →
            later_in.told.text.items ≡ [] → Runs (setting_of first.session) left_before later old new (Err ReportFault.TooLong)
        runs-long more later_in some goes empty = runs-stopped ReportFault.TooLong (
          some,
          told-by first next old new true (whole_lines (come.script ++ piece))
              (stands-empty (Took first) next true later_in.told old new (whole_lines (come.script ++ piece)) (goes-all more later_in goes)
              empty),
        )

    -- the end of the script
    module _ (later : Option (List ℕ)) (none : Consumes left later []) (end : IsAtEnd later) where
      -- with this outcome of what stands there
      runs-end : (new : Option (List ℕ)) (fault : ReportFault) →
          IsBeyond [] fault × RunStops (setting_of first.session) later old new come.script fault →
          Runs (setting_of first.session) left_before later old new (Err fault)
      runs-end new fault stops = record {
        script = come.script;
        beyond = [];
        taken = Consumes-trans left_before left later come.script [] come.taken none;
        within = within-most;
        full = λ some. absurd (some refl);
        outcome = stops;
      }

      -- the last line has no end
      pub runs-unended : (fault : ReportFault) → intake.front.items ≢ [] → IsBadLine (intake.told.lines + 1) fault →
          HasReason unended_reason fault → Runs (setting_of first.session) left_before later old now (Err fault)
      runs-unended fault some is told = runs-end now fault (by fault is told)
        where
          -- by cases on the fault
          by : (f : ReportFault) → IsBadLine (intake.told.lines + 1) f → HasReason unended_reason f →
              IsBeyond [] f × RunStops (setting_of first.session) later old now come.script f
          by (ReportFault.BadLine n reason) is told = (
            tt,
            inr (record {
              at_end = end;
              unended = λ none. some (come.rest ∙ none);
              numbered = is ∙ ap (λ k. k + 1) come.stands.counted;
              reasoned = told;
              told = come-told;
            }),
          )
          by ReportFault.NoMemory is told =
              (tt, inr (record { place = inr (λ none. some (come.rest ∙ none)); told = come-told }))
          by (ReportFault.WriteFault failed) is told = absurd is
          by ReportFault.HistoryFull is told = absurd is
          by ReportFault.ReadFault is told = absurd is
          by ReportFault.TooLong is told = absurd is
          by (ReportFault.Missing sought n) is told = absurd is

      -- the writer is flushed behind the last line, or can't be
      pub runs-ended : (new : Option (List ℕ)) → intake.front.items ≡ [] → Keeps now new → (result : Result (Unit {0}) ReportFault) →
          IfErr result IsWriteFault → Runs (setting_of first.session) left_before later old new result
      runs-ended new empty kept result err = by result err
        where
          -- the output keeps what it had, so it holds the answers of all whole lines
          told-end : IsTold (setting_of first.session) old new (whole_lines come.script)
          told-end = record {
            texts = come-told.texts;
            scene = come-told.scene;
            leads = come-told.leads;
            written = Appends-kept old now new come-told.texts come-told.written kept;
          }

          -- output that holds the answers of all whole lines also counts as cut off behind them
          cut-end : IsCutOff (setting_of first.session) old new (whole_lines come.script)
          cut-end = record {
            before = whole_lines come.script;
            after = [];
            split = sym (append-nil (whole_lines come.script));
            texts = told-end.texts;
            scene = told-end.scene;
            leads = told-end.leads;
            written = record { done = told-end.texts; rest = []; split = sym (append-nil told-end.texts); written = told-end.written };
          }

          -- by cases on the outcome
          by : (r : Result (Unit {0}) ReportFault) → IfErr r IsWriteFault → Runs (setting_of first.session) left_before later old new r
          by (Ok done) err = record {
            script = come.script;
            beyond = [];
            taken = Consumes-trans left_before left later come.script [] come.taken none;
            within = within-most;
            full = λ some. absurd (some refl);
            outcome = (end, refl, sym come.rest ∙ empty, told-end);
          }
          by (Err fault) err = rw (write_fault_is fault err).1 (runs-end new (ReportFault.WriteFault (write_fault_is fault err).0) (tt, cut-end))

-- a read of no bytes, with room for some, is at the end
pub read-end : (before after : Option (List ℕ)) (n : ℕ) (block : List ℕ) → n ≡ 0 → 0 < length block →
    Consumes before after (take n block) × (n ≡ 0 → 0 < length block → IsAtEnd after) → Consumes before after [] × IsAtEnd after
read-end before after n block none room read =
    (subst (λ k. Consumes before after (take k block)) none read.0, read.1 none room)

-- a run that read nothing
pub runs-nothing : (setting : Setting) (left old : Option (List ℕ)) → Runs setting left left old old (Err ReportFault.NoMemory)
runs-nothing setting left old = record {
  script = [];
  beyond = [];
  taken = Consumes-nil left;
  within = omega arith;
  full = λ some. absurd (some refl);
  outcome = (
    tt,
    inr (record {
      place = inl refl;
      told = record {
        texts = [];
        scene = first_scene;
        leads = record { plays = Rests first_scene; legal = record { answers = tt; within = omega arith } };
        written = Appends-nil old;
      };
    }),
  );
}
