-- How a program that runs actors ends.
use Rattle.thread_runs.proofs.Common.{Actors, Appends, EndsUntold, GatherFault, HasNoReport, HasRunActors, IsNotTold, IsRead, List, None}
use Rattle.thread_runs.proofs.Common.{Option, Output, Some, ThreadsFault, ap, append-nil, inl, inr, length, refl, subst, sym, ℕ, ◌++◌}
use Rattle.thread_runs.proofs.Common.{◌∙◌, ◌≡◌, ◌≤◌}
use Rattle.std.proofs.Common.{◌⊎◌}
use Rattle.std.specs.Prelude.{Ok, Err, Result, OnOk, IfErr}
use Rattle.std.specs.Io.KnownBytes.{Consumes, IsAtEnd}
use Rattle.script_lines.specs.declared.TheConstants.{MOST_BYTES}
use Rattle.script_lines.specs.Written.{WritesPart}
use Rattle.report_io.specs.declared.fault.ReportFault.{ReportFault}
use Rattle.report_io.specs.ActorReasons.{reason_at}
use Rattle.report_io.specs.Faults.{HasReason, IsBadLine, IsReported, IsTold, IsWriteFault, fault_line, fault_status, report_status}
use Rattle.report_io.specs.Streams.{Came, IsUnread}
use Rattle.report_io.proofs.Reporting.{write_fault_is}
use Rattle.actor_scripts.specs.ActorLists.{script_actors}
use Rattle.actor_scripts.specs.Reads.{IsBad, ReadsPart, ReadsWhole}
use Rattle.thread_runs.specs.Endings.{EndsThreads, IsBadTold, IsTextTold, program_limits}
use Rattle.thread_runs.proofs.Failing.{written-told}

-- refused memory is told by its text
memory-told : (before after : Option (List ℕ)) → IsTold before after ReportFault.NoMemory → IsTextTold ThreadsFault.NoMemory before after
memory-told before after (inl told) = told
memory-told before after (inr told) = told

-- a bad line is told with its reason, or memory for that is refused
pub bad-untold : (script : List ℕ) (number : ℕ) (before after : Option (List ℕ)) (fault : ReportFault) (status : ℕ) →
    IsBadLine number fault → HasReason (reason_at script number) fault → IsTold before after fault → status ≡ fault_status fault →
    EndsUntold script (ThreadsFault.BadLine number) before after status
bad-untold script number before after (ReportFault.BadLine n reason) status is reasoned told ends =
    inl ((reason, reasoned, subst (λ (k : ℕ). IsTold before after (ReportFault.BadLine k reason)) is told), ends)
bad-untold script number before after ReportFault.NoMemory status is reasoned told ends = inr (memory-told before after told, ends)
bad-untold script number before after ReportFault.ReadFault status is reasoned told ends = absurd is
bad-untold script number before after ReportFault.TooLong status is reasoned told ends = absurd is
bad-untold script number before after (ReportFault.WriteFault failed) status is reasoned told ends = absurd is
bad-untold script number before after ReportFault.HistoryFull status is reasoned told ends = absurd is
bad-untold script number before after (ReportFault.Missing sought n) status is reasoned told ends = absurd is

module _ (output : Output) (repeats pages : ℕ) (left_before left : Option (List ℕ)) where
  -- bytes came
  came-part : Came left_before left → ReadsPart left_before left
  came-part came = record { came = came.bytes; taken = came.taken }

  -- the script could not be read
  pub ends-unread : (old before after : Option (List ℕ)) (fault : ReportFault) (status : ℕ) → IsUnread left_before left fault →
      IsTold before after fault → status ≡ fault_status fault →
      EndsThreads output repeats pages left_before left old old before after status
  ends-unread old before after ReportFault.ReadFault status came told is = record {
    outcome = Err ThreadsFault.ReadFault;
    runs = (came-part came, refl);
    status_is = is;
    told = inl (came, told);
  }
  ends-unread old before after ReportFault.TooLong status came told is = record {
    outcome = Err ThreadsFault.ReadFault;
    runs = (record { came = came.bytes; taken = came.taken }, refl);
    status_is = is;
    told = inr (came, told);
  }
  ends-unread old before after ReportFault.NoMemory status came told is = record {
    outcome = Err ThreadsFault.NoMemory;
    runs = (came-part came, refl);
    status_is = is;
    told = memory-told before after told;
  }
  ends-unread old before after (ReportFault.WriteFault failed) status came told is = absurd came
  ends-unread old before after (ReportFault.BadLine n reason) status came told is = absurd came
  ends-unread old before after ReportFault.HistoryFull status came told is = absurd came
  ends-unread old before after (ReportFault.Missing sought n) status came told is = absurd came

-- what came of a slice is all that there was
all-came : (script came : List ℕ) (after : Option (List ℕ)) → ReadsWhole (Some script) after came → came ≡ script
all-came script came None whole = absurd whole.taken
all-came script came (Some left) whole =
    sym (append-nil came) ∙ ap (λ (rest : List ℕ). came ++ rest) (sym whole.at_end) ∙ sym whole.taken

module _ (output : Output) (repeats pages : ℕ) (left_before left old : Option (List ℕ)) (script : List ℕ)
    (taken : Consumes left_before left script) (end : IsAtEnd left) (within : length script ≤ MOST_BYTES) where
  -- the script was read whole
  whole : ReadsWhole left_before left script
  whole = record { taken = taken; at_end = end; within = within }

  -- the company is that of the script
  read-of : (after : Option (List ℕ)) (company : Actors) → IsRead (Some script) after company → IsRead left_before left company
  read-of after company read = record {
    script = script;
    whole = whole;
    is_list = subst (λ (came : List ℕ). script_actors came ≡ Ok company) (all-came script read.script after read.whole) read.is_list;
  }

  -- what is told of it was written, or a part of that
  pub ends-told : (rest : Option (List ℕ)) (text : List ℕ) →
      HasRunActors output repeats pages program_limits (Some script) rest (λ told. told ≡ text) → (new before after : Option (List ℕ))
      (result : Result (Unit {0}) ReportFault) (status : ℕ) → OnOk result (Appends old new text) →
      IfErr result (λ fault. IsWriteFault fault × WritesPart old new text) → status ≡ report_status result →
      IsReported before after result → EndsThreads output repeats pages left_before left old new before after status
  ends-told rest text told new before after result status ok err is reported =
      by result ok err is reported
    where
      -- the text is what is told of the script
      all : HasRunActors output repeats pages program_limits left_before left (λ t. t ≡ text)
      all = record {
        company = told.company;
        read = read-of rest told.company told.read;
        text = told.text;
        is_told = told.is_told;
        written = told.written;
      }

      -- by cases on the outcome
      by : (r : Result (Unit {0}) ReportFault) → OnOk r (Appends old new text) →
          IfErr r (λ fault. IsWriteFault fault × WritesPart old new text) → status ≡ report_status r → IsReported before after r →
          EndsThreads output repeats pages left_before left old new before after status
      by (Ok done) out part ends same = record {
        outcome = Ok done;
        runs = written-told output repeats pages program_limits left_before left text all (Appends old new) out;
        status_is = ends;
        told = same;
      }
      by (Err fault) out part ends same =
          let failed = write_fault_is fault part.0 in
          record {
            outcome = Err ThreadsFault.WriteFault;
            runs = written-told output repeats pages program_limits left_before left text all (WritesPart old new) part.1;
            status_is = ends ∙ ap fault_status failed.1;
            told = (failed.0, subst (IsTold before after) failed.1 same);
          }

  -- some bytes were read
  part : ReadsPart left_before left
  part = record { came = script; taken = taken }

  module _ (rest : Option (List ℕ)) (before after : Option (List ℕ)) (status : ℕ) where
    -- there is no report
    none : (company : Actors) × IsRead (Some script) rest company → HasNoReport left_before left old old
    none read = record { company = read.0; read = read-of rest read.0 read.1; silent = refl }

    -- the line is bad in the script
    bad-of : (number : ℕ) → IsBad (Some script) rest number → IsBad left_before left number
    bad-of number bad = record {
      script = script;
      whole = whole;
      bad = subst (λ (came : List ℕ). script_actors came ≡ Err number) (all-came script bad.script rest bad.whole) bad.bad;
    }

    -- nothing is told of its actors
    pub ends-untold : (fault : ThreadsFault) → IsNotTold (Some script) rest fault → EndsUntold script fault before after status →
        EndsThreads output repeats pages left_before left old old before after status
    ends-untold ThreadsFault.ReadFault why ends = record {
      outcome = Err ThreadsFault.ReadFault;
      runs = (part, refl);
      status_is = ends.1;
      told = inl (record { bytes = script; taken = taken; within = within }, inl ends.0);
    }
    ends-untold ThreadsFault.WriteFault why ends = absurd why
    ends-untold (ThreadsFault.BadLine number) why (inl ends) = record {
      outcome = Err (ThreadsFault.BadLine number);
      runs = (bad-of number why, refl);
      status_is = ends.1;
      told = (script, taken, ends.0);
    }
    ends-untold (ThreadsFault.BadLine number) why (inr ends) =
        record { outcome = Err ThreadsFault.NoMemory; runs = (part, refl); status_is = ends.1; told = ends.0 }
    ends-untold ThreadsFault.HistoryFull why ends =
        record { outcome = Err ThreadsFault.HistoryFull; runs = none why; status_is = ends.1; told = ends.0 }
    ends-untold ThreadsFault.NoMemory why ends =
        record { outcome = Err ThreadsFault.NoMemory; runs = (part, refl); status_is = ends.1; told = ends.0 }
    ends-untold ThreadsFault.NoThread why ends =
        record { outcome = Err ThreadsFault.NoThread; runs = none why; status_is = ends.1; told = ends.0 }
    ends-untold (ThreadsFault.Gather GatherFault.NoMemory) why ends = absurd why
    ends-untold (ThreadsFault.Gather (GatherFault.MissingClient client)) why ends = record {
      outcome = Err (ThreadsFault.Gather (GatherFault.MissingClient client));
      runs = none why;
      status_is = ends.1;
      told = ends.0;
    }
    ends-untold (ThreadsFault.Gather (GatherFault.OpenValues strong weak)) why ends = record {
      outcome = Err (ThreadsFault.Gather (GatherFault.OpenValues strong weak));
      runs = none why;
      status_is = ends.1;
      told = ends.0;
    }
    ends-untold (ThreadsFault.Gather (GatherFault.RecordMismatch event)) why ends = record {
      outcome = Err (ThreadsFault.Gather (GatherFault.RecordMismatch event));
      runs = none why;
      status_is = ends.1;
      told = ends.0;
    }
