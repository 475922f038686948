-- Phases that follow one another.
use Rattle.core_vanish.proofs.Common.{AdvancesBy, All-append, All-nil, Bound, Entry, Err, Fired, GetsNothing, IfErr, IsLegal, Lets, List}
use Rattle.core_vanish.proofs.Common.{Ok, OnErr, Phase, Result, ShowsBut, State, StepFault, Timeline, VanishFault, [], append-nil}
use Rattle.core_vanish.proofs.Common.{append_assoc, arith, has_joined, length, length-append, open_of, refl, subst, sym, timeline, true}
use Rattle.core_vanish.proofs.Common.{ℕ, ◌++◌, ◌∙◌, ◌∷◌, ◌≡◌, ◌≤◌}
use Rattle.std.specs.Result.{IsErrAnd, OnOk}

-- ---- events

-- a core advances by no event
pub advances_none : (s : State) → AdvancesBy s s []
advances_none s = record {
  pool = refl;
  limits = refl;
  counted = omega arith;
  untaken = refl;
  goes_on = λ gone history shows. subst (ShowsBut gone s) (sym (append-nil history)) shows;
}

-- and by some events and then more
pub advances_then : (old mid new : State) (first more : List Entry) → AdvancesBy old mid first → AdvancesBy mid new more →
    AdvancesBy old new (first ++ more)
advances_then old mid new first more a b = record {
  pool = b.pool ∙ a.pool;
  limits = b.limits ∙ a.limits;
  counted = omega (arith, a.counted, b.counted, length-append first more);
  untaken = b.untaken ∙ a.untaken;
  goes_on = λ gone history shows. subst (ShowsBut gone new) (append_assoc history first more)
      (b.goes_on gone (history ++ first) (a.goes_on gone history shows));
}

-- ---- phases

-- what holds holds at a fault
pub on_fault : {A B : Type 0} (r : Result A B) (P : Type 0) → P → OnErr r P
on_fault (Ok a) P so = tt
on_fault (Err b) P so = so

-- what holds of each fault holds at a fault
pub on_each : {A B : Type 0} (r : Result A B) {P : B → Type 0} → ((fault : B) → P fault) → IfErr r P
on_each (Ok a) so = tt
on_each (Err b) so = so b

-- so does what follows from what holds there
pub at_fault : {A B : Type 0} (r : Result A B) {Q : Type 0} {P : B → Type 0} → (Q → (fault : B) → P fault) → OnErr r Q → IfErr r P
at_fault (Ok a) so q = tt
at_fault (Err b) so q = so q b

-- where the history is full, memory is not refused
pub not_memory : {A : Type 0} (r : Result A StepFault) (e : StepFault) (P : Type 0) → IsErrAnd r (λ f. f ≡ e) → e ≡ StepFault.HistoryFull →
    IfErr r (λ fault. fault ≡ StepFault.NoMemory → P)
not_memory (Ok a) e P is full = tt
not_memory (Err f) e P is full = λ memory.
    let clash : StepFault.HistoryFull ≡ StepFault.NoMemory = sym full ∙ (sym is ∙ memory) in
    absurd (cc)

-- nothing is left of a list of no length
pub none_left : {A : Type 0} (xs : List A) → length xs ≡ 0 → xs ≡ []
none_left [] h = refl
none_left (x ∷ xs) h = absurd (omega (arith, h))

-- there are no fewer events after a phase, whether it went to its end or not
pub events_grew : {A : Type 0} (old new : State) (P : Timeline → List Entry → Timeline → Type 0)
    (Q : VanishFault → Timeline → List Entry → Timeline → Type 0) (r : Result A VanishFault) → OnOk r (Phase old new P) →
    IfErr r (λ fault. Phase old new (Q fault)) → old.events ≤ new.events
events_grew old new P Q (Ok x) p q = let counted = p.advances.counted in omega (arith, counted)
events_grew old new P Q (Err fault) p q = let counted = q.advances.counted in omega (arith, counted)

-- a phase without events
pub phase_none : (s : State) (P : Timeline → List Entry → Timeline → Type 0) →
    ((gone : List Fired) (history : List Entry) → ShowsBut gone s history → P (timeline s.pool history) [] (timeline s.pool history)) → Phase s s P
phase_none s P each = record {
  events = [];
  advances = advances_none s;
  so = λ gone history shows. subst (λ (h : List Entry). P (timeline s.pool history) [] (timeline s.pool h)) (sym (append-nil history))
      (each gone history shows);
}

-- a phase of one event, which is legal since the extended history is
pub phase_one : (old new : State) (entry : Entry) (P : Timeline → List Entry → Timeline → Type 0) → AdvancesBy old new (entry ∷ []) →
    ((gone : List Fired) (history : List Entry) → ShowsBut gone old history → IsLegal old.pool old.limits (history ++ entry ∷ []) →
    P (timeline old.pool history) (entry ∷ []) (timeline old.pool (history ++ entry ∷ []))) → Phase old new P
phase_one old new entry P a each = record {
  events = entry ∷ [];
  advances = a;
  so = λ gone history shows.
      let legal : IsLegal new.pool new.limits (history ++ entry ∷ []) = (a.goes_on gone history shows).legal in
      let pooled : IsLegal old.pool new.limits (history ++ entry ∷ []) =
      subst (λ (n : ℕ). IsLegal n new.limits (history ++ entry ∷ [])) a.pool legal in
      each gone history shows (subst (λ (b : Bound). IsLegal old.pool b (history ++ entry ∷ [])) a.limits pooled);
}

-- a phase and then another
pub phase_then : (old mid new : State) (P Q R : Timeline → List Entry → Timeline → Type 0) → Phase old mid P → Phase mid new Q →
    ((marks midway later : Timeline) (first more : List Entry) → P marks first midway →
    Q midway more later → R marks (first ++ more) later) →
    Phase old new R
phase_then old mid new P Q R p q each =
    let first : List Entry = p.events in
    let more : List Entry = q.events in
    record {
      events = first ++ more;
      advances = advances_then old mid new first more p.advances q.advances;
      so = λ gone history shows.
          let then : Q (timeline mid.pool (history ++ first)) more (timeline mid.pool ((history ++ first) ++ more)) =
          q.so gone (history ++ first) (p.advances.goes_on gone history shows) in
          let pooled : Q (timeline old.pool (history ++ first)) more (timeline old.pool ((history ++ first) ++ more)) =
          subst (λ (n : ℕ). Q (timeline n (history ++ first)) more (timeline n ((history ++ first) ++ more))) p.advances.pool then in
          subst (λ (h : List Entry). R (timeline old.pool history) (first ++ more) (timeline old.pool h)) (append_assoc history first more)
          (each (timeline old.pool history) (timeline old.pool (history ++ first))
          (timeline old.pool ((history ++ first) ++ more)) first more
          (p.so gone history shows) pooled);
    }

-- a phase of which less is said
pub phase_less : (old new : State) (P Q : Timeline → List Entry → Timeline → Type 0) → Phase old new P →
    ((marks later : Timeline) (events : List Entry) → P marks events later → Q marks events later) → Phase old new Q
phase_less old new P Q p each = record {
  events = p.events;
  advances = p.advances;
  so = λ gone history shows.
      each (timeline old.pool history) (timeline old.pool (history ++ p.events)) p.events (p.so gone history shows);
}

-- a phase, and then a state that advances by no event
pub phase_same : (old mid new : State) (P : Timeline → List Entry → Timeline → Type 0) → Phase old mid P → AdvancesBy mid new [] →
    Phase old new P
phase_same old mid new P p a = record {
  events = p.events;
  advances = subst (AdvancesBy old new) (append-nil p.events) (advances_then old mid new p.events [] p.advances a);
  so = p.so;
}

-- ---- clients that get nothing

-- by no event a client gets nothing
pub gets_none : (client : ℕ) (marks : Timeline) → has_joined marks client ≡ true → GetsNothing client marks marks
gets_none client marks joined = record {
  joined = joined;
  shut = λ h. h;
  parcels = refl;
  ends = λ key h. h;
  handles = λ buffer strength. omega arith;
}

-- nor by some that bring it nothing and then more of them
pub gets_then : (client : ℕ) (marks midway later : Timeline) → GetsNothing client marks midway → GetsNothing client midway later →
    GetsNothing client marks later
gets_then client marks midway later a b = record {
  joined = b.joined;
  shut = λ h. b.shut (a.shut h);
  parcels = b.parcels ∙ a.parcels;
  ends = λ key h. a.ends key (b.ends key h);
  handles = λ buffer strength.
      let x : open_of midway client buffer strength ≤ open_of marks client buffer strength = a.handles buffer strength in
      let y : open_of later client buffer strength ≤ open_of midway client buffer strength = b.handles buffer strength in
      omega (arith, x, y);
}

module _ (Is : Entry → Type 0) (client : ℕ) where
  -- no event is one of such events
  pub lets_none : (Q : Timeline → Type 0) (marks : Timeline) → Q marks → Lets Is client Q marks [] marks
  lets_none Q marks q joined = (record { are = All-nil Is; nothing = gets_none client marks joined }, q)

  -- such events and then more of them
  pub phase_lets : (old mid new : State) (Q R S : Timeline → Type 0) → Phase old mid (Lets Is client Q) →
      Phase mid new (Lets Is client R) → ((midway later : Timeline) → GetsNothing client midway later → Q midway → R later → S later) →
      Phase old new (Lets Is client S)
  phase_lets old mid new Q R S p q each =
      phase_then old mid new (Lets Is client Q) (Lets Is client R) (Lets Is client S) p q (λ marks midway later first more a b joined.
      let x = a joined in
      let y = b x.0.nothing.joined in (
        record {
          are = All-append Is first more x.0.are y.0.are;
          nothing = gets_then client marks midway later x.0.nothing y.0.nothing;
        },
        each midway later y.0.nothing x.1 y.1,
      ))
