-- Ends of actors, and the parts that they leave.
use Rattle.thread_runs.proofs.Common.{ActorEnd, AllZip, Holding, IsLate, IsLeft, List, None, Option, PartedTo, Remains, Seen, Some}
use Rattle.thread_runs.proofs.Common.{ThreadsFault, [], ap, append_assoc, end_id, first_fault, ids_of, map, refl, subst, sym, ℕ, ◌++◌}
use Rattle.thread_runs.proofs.Common.{◌∙◌, ◌∷◌, ◌≡◌}
use Rattle.std.proofs.Common.{reverse}
use Rattle.std.proofs.lemmas.List.{reverse-append, reverse-reverse}
use Rattle.std.specs.Option.{option_or}
use Rattle.sm_names.specs.declared.outcomes.StepFault.{StepFault}
use Rattle.thread_runs.specs.Gathered.{end_fault, step_fault}

-- one more on both sides
AllZip-more : {A B : Type 0} (R : A → B → Type 0) (xs : List A) (ys : List B) (x : A) (y : B) → AllZip R xs ys → R x y →
    AllZip R (xs ++ x ∷ []) (ys ++ y ∷ [])
AllZip-more R [] [] x y all one = (one, tt)
AllZip-more R [] (b ∷ ys) x y all one = absurd all
AllZip-more R (a ∷ xs) [] x y all one = absurd all
AllZip-more R (a ∷ xs) (b ∷ ys) x y all one = (all.0, AllZip-more R xs ys x y all.1 one)

-- an option stays as it is where the alternative is none
or-none : {A : Type 0} (a : Option A) → option_or a None ≡ a
or-none None = refl
or-none (Some a) = refl

-- the first value among three options does not depend on which two are combined first
or-assoc : {A : Type 0} (a b c : Option A) → option_or a (option_or b c) ≡ option_or (option_or a b) c
or-assoc None b c = refl
or-assoc (Some a) b c = refl

-- two lists are equal where their first elements are and the elements behind these are
same-first : {x y : ℕ} {xs ys : List ℕ} → x ≡ y → xs ≡ ys → x ∷ xs ≡ y ∷ ys
same-first {x} {y} {xs} {ys} one all = ap (λ (a : ℕ). a ∷ xs) one ∙ ap (λ (l : List ℕ). y ∷ l) all

-- each fault of a step is one of a run whose script was read
late-step : (fault : StepFault) → IsLate (step_fault fault)
late-step StepFault.HistoryFull = tt
late-step StepFault.NoMemory = tt

-- the fault that is told is late where it equals a late one
late-is : (fault told : ThreadsFault) → IsLate fault → Some fault ≡ Some told → IsLate told
late-is fault told late is = let same : fault ≡ told = cc in subst IsLate same late

module _ {E S W : Type 0} where
  -- the fault of one more counts where there is none before
  first_fault-more : (done : List (ActorEnd E S W)) (end : ActorEnd E S W) →
      first_fault (done ++ end ∷ []) ≡ option_or (first_fault done) (end_fault end)
  first_fault-more [] end = or-none (end_fault end)
  first_fault-more (e ∷ done) end =
      ap (option_or (end_fault e)) (first_fault-more done end) ∙ or-assoc (end_fault e) (first_fault done) (end_fault end)

  -- none is parted
  pub parted-none : (all rest : List (ActorEnd E S W)) (parts : List (Holding E S W)) → rest ≡ reverse all → parts ≡ [] →
      PartedTo all rest parts None
  parted-none all rest parts is none = record {
    done = [];
    split = sym (ap reverse is ∙ reverse-reverse all);
    left = subst (AllZip IsLeft []) (sym none) tt;
    first = refl;
  }

  -- one more is
  pub parted-more : (all rest more : List (ActorEnd E S W)) (parts next : List (Holding E S W)) (found its now : Option ThreadsFault)
      (end : ActorEnd E S W) (part : Holding E S W) → PartedTo all rest parts found → rest ≡ more ++ end ∷ [] →
      IsLeft end part → next ≡ parts ++ part ∷ [] → its ≡ end_fault end → now ≡ option_or found its → PartedTo all more next now
  parted-more all rest more parts next found its now end part so is left put told or = record {
    done = so.done ++ end ∷ [];
    split =
        so.split ∙ ap (λ (l : List (ActorEnd E S W)). so.done ++ reverse l) is
        ∙ ap (λ (l : List (ActorEnd E S W)). so.done ++ l) (reverse-append more (end ∷ []))
        ∙ sym (append_assoc so.done (end ∷ []) (reverse more));
    left = subst (AllZip IsLeft (so.done ++ end ∷ [])) (sym put) (AllZip-more IsLeft so.done parts end part so.left left);
    first =
        or ∙ ap (λ (f : Option ThreadsFault). option_or f its) so.first
        ∙ ap (option_or (first_fault so.done)) told ∙ sym (first_fault-more so.done end);
  }

  -- the fault of an actor is one of a run whose script was read
  pub late-first : (ends : List (ActorEnd E S W)) (told : ThreadsFault) → first_fault ends ≡ Some told → IsLate told
  late-first [] told is = cc
  late-first (ActorEnd.Wrecked wreck ∷ ends) told is = late-first ends told is
  late-first (ActorEnd.Stopped client held fault ∷ ends) told is = late-is (step_fault fault) told (late-step fault) is
  late-first (ActorEnd.NotStarted client ∷ ends) told is = late-is ThreadsFault.NoThread told tt is

  -- those that are left are the clients of the ends
  pub ids-left : (ends : List (ActorEnd E S W)) (parts : List (Holding E S W)) → AllZip IsLeft ends parts → map end_id ends ≡ ids_of parts
  ids-left [] [] all = refl
  ids-left [] (part ∷ parts) all = absurd all
  ids-left (end ∷ ends) [] all = absurd all
  ids-left (ActorEnd.Wrecked wreck ∷ ends) (Holding.Wrecked remains ∷ parts) all =
      same-first (ap (λ (r : Remains). r.client.id) (sym all.0)) (ids-left ends parts all.1)
  ids-left (ActorEnd.Wrecked wreck ∷ ends) (Holding.Present one its ∷ parts) all = absurd all.0
  ids-left (ActorEnd.Stopped client held fault ∷ ends) (Holding.Present one its ∷ parts) all =
      same-first (ap (λ (c : Seen). c.id) (sym all.0.0)) (ids-left ends parts all.1)
  ids-left (ActorEnd.Stopped client held fault ∷ ends) (Holding.Wrecked remains ∷ parts) all = absurd all.0
  ids-left (ActorEnd.NotStarted client ∷ ends) (Holding.Present one its ∷ parts) all =
      same-first (ap (λ (c : Seen). c.id) (sym all.0.0)) (ids-left ends parts all.1)
  ids-left (ActorEnd.NotStarted client ∷ ends) (Holding.Wrecked remains ∷ parts) all = absurd all.0
