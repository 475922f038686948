-- Why nothing is told of a run of actors.
use Rattle.thread_runs.proofs.Common.{ActorList, Actors, Bound, GatherFault, HasNoReport, HasRunActors, IsLate, IsNotTold, IsRead, List}
use Rattle.thread_runs.proofs.Common.{Option, Output, ThreadsFault, actors_of, refl, subst, sym, ℕ, ◌≡◌}
use Rattle.actor_scripts.specs.Reads.{ReadsActors as IsReadAs}
use Rattle.thread_runs.specs.Runs.{RunFails}

module _ (before after : Option (List ℕ)) (list : ActorList) (so : IsReadAs before after list) where
  -- the actors that the reader returns are those of the script that it read
  pub read-as : IsRead before after (actors_of list)
  read-as = record { script = so.script; whole = so.whole; is_list = so.is_list }

  -- nothing is told of the actors
  pub late-not-told : (fault : ThreadsFault) → IsLate fault → IsNotTold before after fault
  late-not-told ThreadsFault.ReadFault late = absurd late
  late-not-told ThreadsFault.WriteFault late = absurd late
  late-not-told (ThreadsFault.BadLine number) late = absurd late
  late-not-told ThreadsFault.HistoryFull late = (actors_of list, read-as)
  late-not-told ThreadsFault.NoMemory late = record { came = so.script; taken = so.whole.taken }
  late-not-told ThreadsFault.NoThread late = (actors_of list, read-as)
  late-not-told (ThreadsFault.Gather GatherFault.NoMemory) late = absurd late
  late-not-told (ThreadsFault.Gather (GatherFault.MissingClient client)) late = (actors_of list, read-as)
  late-not-told (ThreadsFault.Gather (GatherFault.OpenValues strong weak)) late = (actors_of list, read-as)
  late-not-told (ThreadsFault.Gather (GatherFault.RecordMismatch event)) late = (actors_of list, read-as)

-- what is said of the text is said of what is told
pub written-told : (output : Output) (repeats pages : ℕ) (limits : Bound) (before after : Option (List ℕ)) (text : List ℕ) →
    HasRunActors output repeats pages limits before after (λ told. told ≡ text) → (Written : List ℕ → Type 0) → Written text →
    HasRunActors output repeats pages limits before after Written
written-told output repeats pages limits before after text told Written written = record {
  company = told.company;
  read = told.read;
  text = told.text;
  is_told = told.is_told;
  written = subst Written (sym told.written) written;
}

module _ (output : Output) (repeats pages : ℕ) (limits : Bound) (before after old : Option (List ℕ)) where
  -- nothing was written, and there is no report
  none : (company : Actors) × IsRead before after company → HasNoReport before after old old
  none read = record { company = read.0; read = read.1; silent = refl }

  -- where nothing is told, nothing is written
  pub not-told-fails : (fault : ThreadsFault) → IsNotTold before after fault →
      RunFails output repeats pages limits before after old old fault
  not-told-fails ThreadsFault.ReadFault why = (why, refl)
  not-told-fails ThreadsFault.WriteFault why = absurd why
  not-told-fails (ThreadsFault.BadLine number) why = (why, refl)
  not-told-fails ThreadsFault.HistoryFull why = none why
  not-told-fails ThreadsFault.NoMemory why = (why, refl)
  not-told-fails ThreadsFault.NoThread why = none why
  not-told-fails (ThreadsFault.Gather GatherFault.NoMemory) why = absurd why
  not-told-fails (ThreadsFault.Gather (GatherFault.MissingClient client)) why = none why
  not-told-fails (ThreadsFault.Gather (GatherFault.OpenValues strong weak)) why = none why
  not-told-fails (ThreadsFault.Gather (GatherFault.RecordMismatch event)) why = none why
