use Rattle.forced_marks.proofs.Common.{Bool, Collection, IfSome, IsStep, None, Option, PendingStep, Some, ap, collection_of, decided}
use Rattle.forced_marks.proofs.Common.{forced_made, mark_of, pages_in, refl, standing, subst, sym, told, total, ◌++◌, ◌∙◌, ◌≡◌}
use Rattle.std.specs.Option.{option_map}
use Rattle.forest_store.specs.Decisions.{Decision as Step}
use Rattle.forest_store.proofs.quiescence.Steps.{decided_steps}
use Rattle.forced_marks.proofs.next_step.decide.Goals as goal

-- what is made of what is told
twice : {A B C : Type 0} (g : B → C) (f : A → B) (o : Option A) → option_map g (option_map f o) ≡ option_map (λ x. g (f x)) o
twice g f None = refl
twice g f (Some x) = refl

-- what holds of what is told
of_told : (P : Step → Type 0) (o : Option PendingStep) → IfSome (option_map told o) P → IfSome o (λ d. P (told d))
of_told P None h = tt
of_told P (Some d) h = h

pub returns-clause-forced : goal.returns-clause-forced
returns-clause-forced c pool others =
    let it : Collection = collection_of c.args.scene.now in
    let open_is : c.is_strong_open-strong_open.result ≡ (standing (total c.args.holds.now) others it).strong_open =
    c.is_strong_open-strong_open.ensures in
    let value : option_map told c.in_ok-step.step ≡ decided it.nodes it.buffers
    (standing (total c.args.holds.now) others it).strong_open =
    let v = c.in_ok-step.ensures.value in cc in
    forced_made (total c.args.holds.now) pool others it
    ∙ (ap (option_map (mark_of pool (pages_in it ++ others))) (sym value)
    ∙ twice (mark_of pool (pages_in it ++ others)) told c.in_ok-step.step)

pub returns-clause-step : goal.returns-clause-step
returns-clause-step c =
    let it : Collection = collection_of c.args.scene.now in
    let open_is : Bool = c.is_strong_open-strong_open.result in
    let value : option_map told c.in_ok-step.step ≡ decided it.nodes it.buffers open_is = let v = c.in_ok-step.ensures.value in cc in
    of_told (IsStep it) c.in_ok-step.step
    (subst (λ (o : Option Step). IfSome o (IsStep it)) (sym value) (decided_steps it c.requires open_is))
