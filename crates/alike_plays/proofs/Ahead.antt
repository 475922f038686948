-- Where actors are, without what lies behind those that leave.
use Rattle.alike_plays.proofs.Common.{ActorObject, AreAlikeStages, Bool, Call, In, In-map, KnownActor, KnownObject, KnownStage, Leave}
use Rattle.alike_plays.proofs.Common.{List, NodeKey, None, Option, Plan, Planned, Reply, Some, Stage, [], ahead_by, ahead_of, all_objects}
use Rattle.alike_plays.proofs.Common.{ap, append-nil, cond, drop, false, going_on, inr, is_some, leave_after, leave_call, leave_renamed}
use Rattle.alike_plays.proofs.Common.{leaves_by, left, made_of, made_renamed, map, new_objects, next_step, none_is, object_renamed}
use Rattle.alike_plays.proofs.Common.{option_and_then, option_map, refl, slice_get, some-injective, steps_of, subst, suc, sym, true}
use Rattle.alike_plays.proofs.Common.{vanishing_call, zero, ℕ, ◌++◌, ◌+◌, ◌-◌, ◌==◌, ◌∙◌, ◌∷◌, ◌≡◌}
use Rattle.std.proofs.lemmas.List.{drop-drop, drop-map}
use Rattle.actor_scripts.specs.ActorStates.{nothing_known}
use Rattle.alike_plays.proofs.VanishLaws.{all-renamed}
use Rattle.alike_plays.proofs.Ordered.{all-sorted, first-left, left-in_order}
use Rattle.alike_plays.proofs.Stages.{first_known, parts_known}

-- ---- actors that do not leave

-- An actor that does not leave is where it was.
pub plain : (stage : Stage) → stage.vanish ≡ None → ahead_of stage ≡ stage
plain stage is = ap (ahead_by stage) is

-- Only an actor that does not leave has a next step.
pub steps_plain : (plans : List Plan) (actor : ℕ) (stage : Stage) (next : Planned) → next_step plans actor stage ≡ Some next →
    stage.vanish ≡ None
steps_plain plans actor stage next = by stage.vanish
  where
    -- by how far it is in leaving
    by : (o : Option Leave) →
        cond (is_some o) None (option_and_then (λ (plan : Plan). slice_get (steps_of plan) stage.at) (slice_get plans actor)) ≡ Some next →
        o ≡ None
    by None is = refl
    by (Some l) is = cc

-- By how far it is in leaving.
pub same_vanish : (stage : Stage) → is_some (ahead_of stage).vanish ≡ is_some stage.vanish
same_vanish stage = by stage.vanish refl
  where
    -- by whether parcels wait
    goes : (b : Bool) (l : Leave) → is_some (going_on b stage l).vanish ≡ true
    goes true l = refl
    goes false l = refl

    -- by how far it is
    by : (o : Option Leave) → stage.vanish ≡ o → is_some (ahead_by stage o).vanish ≡ is_some o
    by None is = ap is_some is
    by (Some l) is = goes (l.waiting == 0) l

-- So it did not leave if it does not without what lies behind it.
pub plain_back : (stage ahead : Stage) → ahead_of stage ≡ ahead → ahead.vanish ≡ None → (stage ≡ ahead) × (stage.vanish ≡ None)
plain_back stage ahead is none =
    let plainly : stage.vanish ≡ None = none_is stage.vanish
    (sym (same_vanish stage) ∙ (ap (λ (x : Stage). is_some x.vanish) is ∙ ap is_some none)) in
    (sym (plain stage plainly) ∙ is, plainly)

-- ---- the calls by which an actor leaves

-- By whether parcels wait.
stands : (stage : Stage) (l : Leave) (b : Bool) → (l.waiting == 0) ≡ b →
    ahead_of (record stage { vanish = Some l }) ≡ going_on b (record stage { vanish = Some l }) l
stands stage l b is = ap (λ (c : Bool). going_on c (record stage { vanish = Some l }) l) is

-- It leaves by the same call.
pub leaves-same : (stage : Stage) → leaves_by (ahead_of stage) ≡ leaves_by stage
leaves-same stage = by stage.vanish refl
  where
    -- by whether parcels wait
    goes : (l : Leave) (b : Bool) → (l.waiting == 0) ≡ b →
        leaves_by (going_on b stage l) ≡ leave_call stage.known.objects (Some l)
    goes l true is =
        let all : List ActorObject = all_objects l.collected stage.known.objects in
        let rest : List ActorObject = drop l.parted all in
        ap (λ (c : Bool). cond c (option_map vanishing_call (slice_get (all_objects rest []) 0)) (Some Call.Collect)) is
        ∙ (ap (λ (xs : List ActorObject). option_map vanishing_call (slice_get xs 0)) (left-in_order l.parted l.collected
        stage.known.objects)
        ∙ (ap (option_map vanishing_call) (first-left l.parted all)
        ∙ sym (ap (λ (c : Bool). cond c (option_map vanishing_call (slice_get all l.parted)) (Some Call.Collect)) is)))
    goes l false is =
        let all : List ActorObject = all_objects l.collected stage.known.objects in
        let again : List ActorObject = all_objects (all_objects l.collected []) (map Some (all_objects [] stage.known.objects)) in
        ap (λ (c : Bool). cond c (option_map vanishing_call (slice_get again l.parted)) (Some Call.Collect)) is
        ∙ sym (ap (λ (c : Bool). cond c (option_map vanishing_call (slice_get all l.parted)) (Some Call.Collect)) is)

    -- by how far it is
    by : (o : Option Leave) → stage.vanish ≡ o → leaves_by (ahead_by stage o) ≡ leave_call stage.known.objects o
    by None is = ap (leave_call stage.known.objects) is
    by (Some l) is = goes l (l.waiting == 0) refl

-- With what lies behind left out twice, no more is left out.
pub ahead-twice : (stage : Stage) → ahead_of (ahead_of stage) ≡ ahead_of stage
ahead-twice stage = by stage.vanish refl
  where
    -- by whether parcels wait
    goes : (l : Leave) (b : Bool) → (l.waiting == 0) ≡ b → ahead_of (going_on b stage l) ≡ going_on b stage l
    goes l true is =
        stands (going_on true stage l)
        (record l { collected = drop l.parted (all_objects l.collected stage.known.objects); parted = 0 }) true is
        ∙ (λ i. record {
          at = 0;
          known = nothing_known;
          made = stage.made;
          vanish = Some (record l { collected = left-in_order l.parted l.collected stage.known.objects i; parted = 0 });
        })
    goes l false is =
        stands (going_on false stage l) (record l { collected = all_objects l.collected [] }) false is
        ∙ (λ i. record {
          at = 0;
          known = record nothing_known { objects = map Some (all-sorted [] [] stage.known.objects i) };
          made = stage.made;
          vanish = Some (record l {
            collected = ((λ j. all_objects (sym (append-nil (all_objects l.collected [])) j) [])
                ∙ (all-sorted l.collected [] [] ∙ (λ j. all_objects (append-nil l.collected j) []))) i;
          });
        })

    -- by how far it is
    by : (o : Option Leave) → stage.vanish ≡ o → ahead_of (ahead_by stage o) ≡ ahead_by stage o
    by None is = plain stage is
    by (Some l) is = goes l (l.waiting == 0) refl

-- where an actor is in leaving behind this reply: it parted with an object, or collected
abbrev behind : Bool → Leave → Reply → Leave
behind true l reply = record l { parted = l.parted + 1 }
behind false l reply = record l { waiting = l.waiting - 1; collected = l.collected ++ new_objects None Call.Collect reply }

-- By whether parcels wait.
goes_behind : (l : Leave) (reply : Reply) (b : Bool) → (l.waiting == 0) ≡ b → leave_after (Some l) reply ≡ behind b l reply
goes_behind l reply b is = ap (λ (c : Bool). cond c (behind true l reply) (behind false l reply)) is ∙ from b
  where
    -- by cases
    from : (c : Bool) → cond c (behind true l reply) (behind false l reply) ≡ behind c l reply
    from true = refl
    from false = refl

-- the actor is so far in leaving
abbrev after : Stage → Leave → Stage
after stage l = record stage { vanish = Some l }

-- Behind the reply to that call, what lies ahead is told by what lay ahead.
pub left-same : (stage : Stage) (reply : Reply) → ahead_of (left (ahead_of stage) reply) ≡ ahead_of (left stage reply)
left-same stage reply = by stage.vanish refl
  where
    -- the last parcel was collected, or more wait
    more : (l : Leave) (c : Bool) →
        going_on c (after (going_on false stage l) (behind false (record l { collected = all_objects l.collected [] }) reply))
        (behind false (record l { collected = all_objects l.collected [] }) reply)
        ≡ going_on c (after stage (behind false l reply)) (behind false l reply)
    more l true = λ i. record {
      at = 0;
      known = nothing_known;
      made = stage.made;
      vanish = Some (record {
        waiting = l.waiting - 1;
        collected = drop l.parted (all-sorted l.collected (new_objects None Call.Collect reply) stage.known.objects i);
        parted = 0;
      });
    }
    more l false = λ i. record {
      at = 0;
      known = record nothing_known { objects = map Some (all-sorted [] [] stage.known.objects i) };
      made = stage.made;
      vanish = Some (record {
        waiting = l.waiting - 1;
        collected = all-sorted l.collected (new_objects None Call.Collect reply) [] i;
        parted = l.parted;
      });
    }

    -- by whether parcels wait
    goes : (l : Leave) (b : Bool) → (l.waiting == 0) ≡ b →
        ahead_of (left (going_on b stage l) reply) ≡ ahead_of (after stage (leave_after (Some l) reply))
    goes l true is =
        let rest : Leave = record l { collected = drop l.parted (all_objects l.collected stage.known.objects); parted = 0 } in
        ap (λ (x : Leave). ahead_of (after (going_on true stage l) x)) (goes_behind rest reply true is)
        ∙ (stands (going_on true stage l) (behind true rest reply) true is
        ∙ ((λ i. record {
          at = 0;
          known = nothing_known;
          made = stage.made;
          vanish = Some (record {
            waiting = l.waiting;
            collected = (ap (drop 1) (left-in_order l.parted l.collected stage.known.objects)
                ∙ drop-drop 1 l.parted (all_objects l.collected stage.known.objects)) i;
            parted = 0;
          });
        })
        ∙ (sym (stands stage (behind true l reply) true is)
        ∙ sym (ap (λ (x : Leave). ahead_of (after stage x)) (goes_behind l reply true is)))))
    goes l false is =
        let sorted : Leave = record l { collected = all_objects l.collected [] } in
        ap (λ (x : Leave). ahead_of (after (going_on false stage l) x)) (goes_behind sorted reply false is)
        ∙ (more l (l.waiting - 1 == 0) ∙ sym (ap (λ (x : Leave). ahead_of (after stage x)) (goes_behind l reply false is)))

    -- by how far it is
    by : (o : Option Leave) → stage.vanish ≡ o →
        ahead_of (left (ahead_by stage o) reply) ≡ ahead_of (after stage (leave_after o reply))
    by None is = ap (λ (x : Option Leave). ahead_of (after stage (leave_after x reply))) is
    by (Some l) is = goes l (l.waiting == 0) refl

-- ---- names

module _ (to : NodeKey → NodeKey) (id number : ℕ → ℕ) where
  -- Object by object.
  somes-renamed : (xs : List ActorObject) →
      map Some (map (object_renamed to id) xs) ≡ map (option_map (object_renamed to id)) (map Some xs)
  somes-renamed [] = refl
  somes-renamed (x ∷ xs) = ap (λ more. Some (object_renamed to id x) ∷ more) (somes-renamed xs)

  -- Actors that are alike are so without what lies behind them.
  pub ahead-alike : (one other : Stage) → AreAlikeStages to id number one other →
      AreAlikeStages to id number (ahead_of one) (ahead_of other)
  ahead-alike one other alike =
      subst (λ (o : Option Leave). AreAlikeStages to id number (ahead_of one) (ahead_by other o)) (sym alike.vanish) (by one.vanish)
    where
      -- by whether parcels wait
      goes : (b : Bool) (l : Leave) → AreAlikeStages to id number (going_on b one l) (going_on b other (leave_renamed to id l))
      goes true l = record {
        at = refl;
        known = record {
          nodes = λ label. refl;
          trackers = λ label. refl;
          objects = refl;
          spots = λ key. refl;
          handles = λ strength b. refl;
        };
        made = alike.made;
        vanish = ap (λ (xs : List ActorObject). Some (record l { collected = xs; parted = 0 }))
            ((λ i. drop l.parted (all_objects (map (object_renamed to id) l.collected) (alike.known.objects i)))
            ∙ (ap (drop l.parted) (all-renamed to id l.collected one.known.objects)
            ∙ drop-map (object_renamed to id) l.parted (all_objects l.collected one.known.objects)));
      }
      goes false l = record {
        at = refl;
        known = record {
          nodes = λ label. refl;
          trackers = λ label. refl;
          objects = ap (λ (slots : List (Option ActorObject)). map Some (all_objects [] slots)) alike.known.objects
              ∙ (ap (map Some) (all-renamed to id [] one.known.objects) ∙ somes-renamed (all_objects [] one.known.objects));
          spots = λ key. refl;
          handles = λ strength b. refl;
        };
        made = alike.made;
        vanish = ap (λ (xs : List ActorObject). Some (record l { collected = xs })) (all-renamed to id l.collected []);
      }

      -- by how far it is in leaving
      by : (o : Option Leave) →
          AreAlikeStages to id number (ahead_by one o) (ahead_by other (option_map (leave_renamed to id) o))
      by None = alike
      by (Some l) = goes (l.waiting == 0) l

  -- Two that leave are alike ahead if as many parcels wait for both, and they part with the same: if none waits with what is left, and
  -- otherwise with each sort of what they collected and of what lies in their slots.
  pub going-alike : (one other : Stage) (l m : Leave) → one.vanish ≡ Some l → other.vanish ≡ Some m → m.waiting ≡ l.waiting →
      made_of other.made ≡ map (made_renamed to id number) (made_of one.made) →
      ((l.waiting == 0) ≡ true → drop m.parted (all_objects m.collected other.known.objects)
      ≡ map (object_renamed to id) (drop l.parted (all_objects l.collected one.known.objects))) →
      ((l.waiting == 0) ≡ false → (m.parted ≡ l.parted)
      × (all_objects m.collected [] ≡ map (object_renamed to id) (all_objects l.collected []))
      × (all_objects [] other.known.objects ≡ map (object_renamed to id) (all_objects [] one.known.objects))) →
      AreAlikeStages to id number (ahead_of one) (ahead_of other)
  going-alike one other l m is is_too waiting made rest sorts =
      subst (λ (o : Option Leave). AreAlikeStages to id number (ahead_by one o) (ahead_of other)) (sym is)
      (subst (λ (o : Option Leave). AreAlikeStages to id number (ahead_by one (Some l)) (ahead_by other o)) (sym is_too)
      (subst (λ (n : ℕ). AreAlikeStages to id number (ahead_by one (Some l)) (going_on (n == 0) other m)) (sym waiting)
      (goes (l.waiting == 0) refl)))
    where
      -- by whether parcels wait
      goes : (b : Bool) → (l.waiting == 0) ≡ b → AreAlikeStages to id number (going_on b one l) (going_on b other m)
      goes true none = record {
        at = refl;
        known = record {
          nodes = λ label. refl;
          trackers = λ label. refl;
          objects = refl;
          spots = λ key. refl;
          handles = λ strength b. refl;
        };
        made = made;
        vanish = λ i. Some (record { waiting = waiting i; collected = rest none i; parted = 0 });
      }
      goes false some = record {
        at = refl;
        known = record {
          nodes = λ label. refl;
          trackers = λ label. refl;
          objects = ap (map Some) (sorts some).2 ∙ somes-renamed (all_objects [] one.known.objects);
          spots = λ key. refl;
          handles = λ strength b. refl;
        };
        made = made;
        vanish = λ i. Some (record { waiting = waiting i; collected = (sorts some).1 i; parted = (sorts some).0 i });
      }

-- By the number.
In-drop : {A : Type 0} (n : ℕ) (xs : List A) (x : A) → In x (drop n xs) → In x xs
In-drop zero xs x there = there
In-drop (suc n) [] x there = there
In-drop (suc n) (y ∷ ys) x there = inr (In-drop n ys x there)

module _ (Key : NodeKey → Type 0) (Id Num : ℕ → Type 0) where
  -- It knows no more names.
  pub ahead_known : (stage : Stage) → KnownStage Key Id Num stage → KnownStage Key Id Num (ahead_of stage)
  ahead_known stage known = by stage.vanish refl
    where
      -- of a list of its objects
      those : (xs : List ActorObject) → ((o : ActorObject) → In o xs → KnownObject Key Id o) →
          KnownActor Key Id Num (record nothing_known { objects = map Some xs })
      those xs has = record {
        nodes = λ label place is. cc;
        trackers = λ label n is. cc;
        objects = λ o there. let x = In-map Some xs (Some o) there in
            subst (KnownObject Key Id) (sym (some-injective o x.0 x.2)) (has x.0 x.1);
        spots = λ key none. refl;
        handles = λ strength b none. refl;
      }

      -- by whether parcels wait
      goes : (b : Bool) (l : Leave) → ((o : ActorObject) → In o l.collected → KnownObject Key Id o) →
          KnownStage Key Id Num (going_on b stage l)
      goes true l old = record {
        known = (first_known Key Id Num).known;
        made = known.made;
        vanish = λ m is o there. parts_known Key Id Num l.collected stage.known.objects old known.known.objects o
            (In-drop l.parted (all_objects l.collected stage.known.objects) o (subst (λ (x : Leave). In o x.collected)
            (sym (some-injective (record l { collected = drop l.parted (all_objects l.collected stage.known.objects); parted = 0 }) m is))
            there));
      }
      goes false l old = record {
        known = those (all_objects [] stage.known.objects) (λ o there.
            parts_known Key Id Num [] stage.known.objects (λ x none. absurd none) known.known.objects o there);
        made = known.made;
        vanish = λ m is o there. parts_known Key Id Num l.collected [] old (λ x none. absurd none) o
            (subst (λ (x : Leave). In o x.collected) (sym (some-injective (record l { collected = all_objects l.collected [] }) m
            is)) there);
      }

      -- by how far it is
      by : (o : Option Leave) → stage.vanish ≡ o → KnownStage Key Id Num (ahead_by stage o)
      by None is = known
      by (Some l) is = goes (l.waiting == 0) l (known.vanish l is)
