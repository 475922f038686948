-- An actor that made all its steps leaves by the events of a vanishing client.
use Rattle.thread_runs.proofs.Common.{ActorObject, Bool, Call, HasFinished, HeldObject, Known, List, None, Option, Own, Plan, Remains}
use Rattle.thread_runs.proofs.Common.{Reply, Seen, Setup, Some, Stage, Step, Waiting, [], all_objects, ap, append-nil, append_assoc}
use Rattle.thread_runs.proofs.Common.{arith, calls_of, false, first_stage, flat_map, holds_by_state, if◌then◌else◌, length, length-append}
use Rattle.thread_runs.proofs.Common.{length-map, map, map-append, ne_eqb, new_objects, next_step, option_map, pairs_of, planned, refl}
use Rattle.thread_runs.proofs.Common.{replies_of, slice_get, steps_of, subst, suc, sym, true, vanishing_call, zero, ℕ, ◌++◌, ◌-◌, ◌==◌}
use Rattle.thread_runs.proofs.Common.{◌∙◌, ◌∷◌, ◌≡◌}
use Rattle.std.specs.Prelude.{replicate}
use Rattle.client_vanish.specs.Vanishings.{Holds, IsGone, all_objects as all_held, parcels_told}
use Rattle.client_actors.proofs.OnceLaws.{runs-once}
use Rattle.actor_plays.specs.Leaves.{Leave, going_after, vanishing_call as parting_call, waiting_told}
use Rattle.thread_runs.proofs.Comings.{ComesThrough, none-next, runs-through, staying}
use Rattle.thread_runs.proofs.OncePlanLaws.{get-behind, get-end}
use Rattle.thread_runs.proofs.VanishingTurns.{objects-alike, own-paired, paired}

-- an actor that leaves: it has so many parcels to collect, collected these objects, and parted with so many
abbrev pub going : ℕ → Known → List (ℕ × Reply) → ℕ → List ActorObject → ℕ → Stage
going at known made waiting collected parted = record {
  at = at;
  known = known;
  made = made;
  vanish = Some (record { waiting = waiting; collected = collected; parted = parted });
}

-- both count the parcels that a Shut tells of
parcels-alike : (reply : Reply) → waiting_told reply ≡ parcels_told reply
parcels-alike (Reply.Shut waiting) = refl
parcels-alike _ = refl

-- a list of one value has as many elements as were asked for
many-same : {A : Type 0} (n : ℕ) (x : A) → length (replicate n x) ≡ n
many-same zero x = refl
many-same (suc n) x = let more = many-same n x in omega (arith, more)

-- some parcel is left
some-left : (n : ℕ) → (suc n == 0) ≡ false
some-left n = ne_eqb (suc n) 0 (λ is. absurd (omega (arith, is)))

-- one less is left
one-less : (n : ℕ) → suc n - 1 ≡ n
one-less n = omega arith

module _ (setup : Setup) (actor at : ℕ) (known : Known) (made : List (ℕ × Reply)) where
  -- it parts with one object after another, by induction on the answers
  parts : (answers : List Reply) (collected done rest : List ActorObject) → all_objects collected known.objects ≡ done ++ rest →
      length rest ≡ length answers →
      ComesThrough setup actor (going at known made 0 collected (length done)) (paired (map parting_call rest) answers)
  parts [] collected done [] all many = ComesThrough.IsGone (going at known made 0 collected (length done)) refl
      (ap (λ (l : List ActorObject). option_map parting_call (slice_get l (length done))) (all ∙ append-nil done)
      ∙ ap (option_map parting_call) (get-end done))
  parts [] collected done (object ∷ rest) all many = absurd (omega (arith, many))
  parts (answer ∷ answers) collected done [] all many = absurd (omega (arith, many))
  parts (answer ∷ answers) collected done (object ∷ rest) all many =
      ComesThrough.Leaves (going at known made 0 collected (length done)) (parting_call object) answer
      (paired (map parting_call rest) answers) refl
      (ap (λ (l : List ActorObject). option_map parting_call (slice_get l (length done))) all
      ∙ ap (option_map parting_call) (get-behind done rest object))
      (λ begun. refl)
      (subst (λ (n : ℕ). ComesThrough setup actor (going at known made 0 collected n) (paired (map parting_call rest) answers))
      (length-append done (object ∷ []))
      (parts answers collected (done ++ object ∷ []) rest (all ∙ sym (append_assoc done (object ∷ []) rest)) (omega (arith, many))))

  -- before that it collects all that waits, by induction on what the collects brought
  collects : (told answers : List Reply) (collected : List ActorObject) →
      length (all_objects (collected ++ flat_map (new_objects None Call.Collect) told) known.objects) ≡ length answers →
      ComesThrough setup actor (going at known made (length told) collected 0)
      (paired (replicate (length told) Call.Collect
      ++ map parting_call (all_objects (collected ++ flat_map (new_objects None Call.Collect) told) known.objects))
      (told ++ answers))
  collects [] answers collected many =
      subst (λ (c : List ActorObject). ComesThrough setup actor (going at known made 0 collected 0)
      (paired (map parting_call (all_objects c known.objects)) answers))
      (sym (append-nil collected))
      (parts answers collected [] (all_objects collected known.objects) refl
      (subst (λ (c : List ActorObject). length (all_objects c known.objects) ≡ length answers) (append-nil collected) many))
  collects (reply ∷ told) answers collected many =
      let brought : List ActorObject = new_objects None Call.Collect reply in
      let later : List ActorObject = flat_map (new_objects None Call.Collect) told in
      let all : collected ++ flat_map (new_objects None Call.Collect) (reply ∷ told) ≡ (collected ++ brought) ++ later =
      sym (append_assoc collected brought later) in
      subst (λ (c : List ActorObject). ComesThrough setup actor (going at known made (length (reply ∷ told)) collected 0)
      (paired (replicate (length (reply ∷ told)) Call.Collect ++ map parting_call (all_objects c known.objects))
      ((reply ∷ told) ++ answers)))
      (sym all)
      (collects-one reply (length told)
      (paired (replicate (length told) Call.Collect ++ map parting_call (all_objects ((collected ++ brought) ++ later) known.objects))
      (told ++ answers))
      (collects told answers (collected ++ brought)
      (subst (λ (c : List ActorObject). length (all_objects c known.objects) ≡ length answers) all many)))
    where
      -- one Collect, where so many parcels wait behind it
      collects-one : (reply : Reply) (n : ℕ) (rest : List (Call × Reply)) →
          ComesThrough setup actor (going at known made n (collected ++ new_objects None Call.Collect reply) 0) rest →
          ComesThrough setup actor (going at known made (suc n) collected 0) ((Call.Collect, reply) ∷ rest)
      collects-one reply n rest on =
          ComesThrough.Leaves (going at known made (suc n) collected 0) Call.Collect reply rest refl
          (ap (λ (b : Bool). if b then option_map parting_call (slice_get (all_objects collected known.objects) 0) else Some Call.Collect)
          (some-left n))
          (λ begun. refl)
          (subst (λ (l : Leave). ComesThrough setup actor (record {
            at = at;
            known = known;
            made = made;
            vanish = Some l;
          }) rest) (sym after) on)
        where
          -- one parcel less waits
          after : going_after (record { waiting = suc n; collected = collected; parted = 0 }) reply
              ≡ record { waiting = n; collected = collected ++ new_objects None Call.Collect reply; parted = 0 }
          after = ap (λ (b : Bool). if b then (record { waiting = suc n; collected = collected; parted = 1 })
              else (record { waiting = suc n - 1; collected = collected ++ new_objects None Call.Collect reply; parted = 0 }))
              (some-left n)
              ∙ ap (λ (m : ℕ). record { waiting = m; collected = collected ++ new_objects None Call.Collect reply; parted = 0 })
              (one-less n)

  -- from where it has no next step it leaves as a client vanishes, if it may
  pub leaves-through : ((begun : List (Option ℕ)) → setup.may_leave begun actor at ≡ true) →
      next_step setup.plans actor (staying at known made) ≡ None →
      (old new : Seen) (refused : Holds) (gone : IsGone old new (holds_by_state old.id known) refused) →
      ComesThrough setup actor (staying at known made) (pairs_of gone.goes.made.added)
  leaves-through may none old new refused gone =
      let told : List Reply = gone.goes.told in
      let answers : List Reply = gone.goes.answers in
      let added : List Own = gone.goes.made.added in
      let objects : List ActorObject = all_objects (flat_map (new_objects None Call.Collect) told) known.objects in
      let rest : List Call = replicate (length told) Call.Collect ++ map parting_call objects in
      let all : gone.goes.parted ≡ all_held old.id told (holds_by_state old.id known) =
      sym (append-nil gone.goes.parted) ∙ (ap (λ (l : List HeldObject). gone.goes.parted ++ l) (sym gone.done) ∙ sym gone.goes.all) in
      let calls : calls_of added ≡ Call.Shut ∷ rest =
      gone.goes.made.calls ∙ ap (λ (l : List Call). Call.Shut ∷ (replicate (length told) Call.Collect ++ l))
      (ap (map vanishing_call) all ∙ objects-alike old.id told known) in
      let one : length (calls_of added) ≡ length added = length-map added (λ (o : Own). o.call) in
      let other : length (replies_of added) ≡ length added = length-map added (λ (o : Own). o.reply) in
      let as_asked : length (calls_of added) ≡ length (Call.Shut ∷ rest) = ap length calls in
      let as_told : length (replies_of added) ≡ length (gone.goes.shut ∷ (told ++ answers)) = ap length gone.goes.made.replies in
      let many : length objects ≡ length answers = omega (
        arith,
        one,
        other,
        as_asked,
        as_told,
        length-append (replicate (length told) Call.Collect) (map parting_call objects),
        many-same (length told) Call.Collect,
        length-map objects parting_call,
        length-append told answers,
      ) in
      let pairs : pairs_of added ≡ (Call.Shut, gone.goes.shut) ∷ paired rest (told ++ answers) =
      own-paired added ∙ (λ i. paired (calls i) (gone.goes.made.replies i)) in
      subst (ComesThrough setup actor (staying at known made)) (sym pairs)
      (ComesThrough.Leaves (staying at known made) Call.Shut gone.goes.shut (paired rest (told ++ answers)) none refl (λ begun. may begun)
      (subst (λ (n : ℕ). ComesThrough setup actor (going at known made n [] 0) (paired rest (told ++ answers)))
      (gone.collected ∙ sym (parcels-alike gone.goes.shut)) (collects told answers [] many)))

-- an actor that ran its script and vanished came through by its own list
pub comes-through : (setup : Setup) (actor : ℕ) (plan : Plan) → slice_get setup.plans actor ≡ Some plan → (steps : List Step) →
    steps_of plan ≡ planned Waiting.Never steps →
    ((begun : List (Option ℕ)) → setup.may_leave begun actor (length steps) ≡ true) → (left : Remains) →
    HasFinished setup.clients 0 steps left → ComesThrough setup actor first_stage (pairs_of left.client.own)
comes-through setup actor plan there steps plan_is may left ran =
    let own : List (Call × Reply) = pairs_of ran.before.own in
    let to = runs-through setup actor plan there steps plan_is steps own ran.state
    (runs-once setup.clients steps own ran.state ran.runs) [] (sym (append-nil steps)) in
    let added : List Own = ran.gone.goes.made.added in
    let pairs : pairs_of left.client.own ≡ own ++ pairs_of added =
    ap pairs_of ran.gone.goes.made.own ∙ map-append (λ (o : Own). (o.call, o.reply)) ran.before.own added in
    subst (ComesThrough setup actor first_stage) (sym pairs) (to.on (pairs_of added)
    (leaves-through setup actor (length steps) ran.state to.told may
    (none-next setup actor plan there steps plan_is ran.state to.told) ran.before left.client left.refused ran.gone))
