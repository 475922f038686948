-- The walk over what is due: what is done, where it stands, and what it leaves.
use Rattle.trackers.proofs.Common.{AllByRecursion, Bool, Fired, Found, IdsRise, List, None, Option, Over, RowState, Some, TrackerRow}
use Rattle.trackers.proofs.Common.{Waiter, Waits, World, [], ap, append-nil, arith, cond, cons_option, drop, drop_more, due_id, false}
use Rattle.trackers.proofs.Common.{filter_map, fires, get_or, here, holds, ids_of, if◌then◌else◌, is_met, is_waiting, later, length}
use Rattle.trackers.proofs.Common.{length-map, map, map_push, refl, row_after, set, subst, sym, true, ℕ, ◌++◌, ◌+◌, ◌<◌, ◌∙◌, ◌∷◌, ◌≡◌}
use Rattle.std.proofs.Common.{append_assoc, option_to_list}
use Rattle.std.proofs.lemmas.List.{map-append, set_at}
use Rattle.std.proofs.lemmas.List.Elements.{filter_map-append}
use Rattle.sm_names.specs.declared.tracking.Condition.{Condition}
use Rattle.trackers.proofs.FoundLemmas.{none_below}

-- what h gives of a list with one more item
pub filter_map_push : {X Y : Type 0} (h : X → Option Y) (xs : List X) (x : X) →
    filter_map h (xs ++ x ∷ []) ≡ filter_map h xs ++ option_to_list (h x)
filter_map_push h [] x = elim (h x) as (λ o. cons_option o [] ≡ option_to_list o) [ None ↦ refl | Some y ↦ refl ]
filter_map_push h (y ∷ ys) x =
    elim (h y) as (λ o. cons_option o (filter_map h (ys ++ x ∷ [])) ≡ cons_option o (filter_map h ys) ++ option_to_list (h x)) [
      | None ↦ filter_map_push h ys x
      | Some z ↦ ap (λ l. z ∷ l) (filter_map_push h ys x)
    ]

-- a row as the record of its fields
abbrev pub row_of : ℕ → ℕ → RowState → Bool → TrackerRow
row_of id cell state has = record { id = id; cell = cell; state = state; has_reader = has }

-- a row that is not met stays as it was, and fires nothing
pub after_unmet : (w : World) (e : ℕ) (row : TrackerRow) → is_met w row ≡ false → row_after w e row ≡ row
after_unmet w e row unmet = rw unmet

-- and fires nothing
pub fires_unmet : (w : World) (e : ℕ) (row : TrackerRow) → is_met w row ≡ false → fires w e row ≡ None
fires_unmet w e row unmet = rw unmet

-- what stands behind the last of a list
abbrev pub no_waiter : Waiter
no_waiter = record {
  tracker = record { id = 0; collection = 0; condition = Condition.Node (record { slot = 0; generation = 0 }) };
  hint = 0;
}

-- a row that is met waits, fires its own id at the event, and is over then
pub met_row : (w : World) (e : ℕ) (row : TrackerRow) → is_met w row ≡ true →
    (is_waiting row ≡ true) × (row_after w e row ≡ record row { state = Over e })
    × (fires w e row ≡ Some (record { tracker = row.id; event = e }))
met_row w e row met = (waits row.id row.cell row.state row.has_reader met, rw met, rw met)
  where
    waits : (id cell : ℕ) (state : RowState) (has : Bool) → is_met w (row_of id cell state has) ≡ true →
        is_waiting (row_of id cell state has) ≡ true
    waits id cell (Waits p c) has is = refl
    waits id cell (Over event) has is = is

-- the id of a row stays
pub id_after : (w : World) (e : ℕ) (row : TrackerRow) → (row_after w e row).id ≡ row.id
id_after w e row = elim (is_met w row) as (λ b. (if b then record row { state = Over e } else row).id ≡ row.id) [ true ↦ refl | false ↦ refl ]

-- so a row is found where it was, once those before it are over
found_on : (w : World) (e : ℕ) (done : List TrackerRow) (row : TrackerRow) (todo : List TrackerRow) → IdsRise (done ++ row ∷ todo) →
    Found row.id (map (row_after w e) done ++ row ∷ todo) (length done) row
found_on w e [] row todo rising = here refl (none_below row.id todo rising.0)
found_on w e (other ∷ done) row todo rising =
    later (λ same. absurd (omega (arith, id_after w e other, same, before done rising.0))) (found_on w e done row todo rising.1)
  where
    before : (rows : List TrackerRow) → AllByRecursion (λ (r : TrackerRow). other.id < r.id) (rows ++ row ∷ todo) → other.id < row.id
    before [] all = all.0
    before (r ∷ rows) all = before rows all.1

module _ (w : World) (e : ℕ) (start : List TrackerRow) (had : List Fired) where
  -- the rows so far are over, and those from here on are as they were
  pub record Walked (rows : List TrackerRow) (fired : List Fired) (due : List ℕ) : Type 0 where
    pub done : List TrackerRow
    pub todo : List TrackerRow
    pub whole : start ≡ done ++ todo
    pub now : rows ≡ map (row_after w e) done ++ todo
    pub grown : fired ≡ had ++ filter_map (fires w e) done
    pub left : due ≡ filter_map (due_id w) todo

  -- the walk stands at a row that is due
  pub record Stands (rows : List TrackerRow) (fired : List Fired) (id : ℕ) (due : List ℕ) : Type 0 where
    pub done : List TrackerRow
    pub row : TrackerRow
    pub todo : List TrackerRow
    pub whole : start ≡ done ++ row ∷ todo
    pub now : rows ≡ map (row_after w e) done ++ row ∷ todo
    pub grown : fired ≡ had ++ filter_map (fires w e) done
    pub id_is : id ≡ row.id
    pub met : is_met w row ≡ true
    pub left : due ≡ filter_map (due_id w) todo

  -- the rows that are done, and one more whose condition does not hold
  done_pass : (done : List TrackerRow) (row : TrackerRow) (todo rows : List TrackerRow) → is_met w row ≡ false → rows ≡
      map (row_after w e) done ++ row ∷ todo →
      rows ≡ map (row_after w e) (done ++ row ∷ []) ++ todo
  done_pass done row todo rows unmet now =
      now
      ∙ sym (append_assoc (map (row_after w e) done) (row ∷ []) todo)
      ∙ ap (λ l. (map (row_after w e) done ++ l ∷ []) ++ todo) (sym (after_unmet w e row unmet))
      ∙ ap (λ l. l ++ todo) (sym (map_push (row_after w e) done row))

  -- the firings with one more row
  grown_by : (done : List TrackerRow) (row : TrackerRow) (fired : List Fired) → fired ≡ had ++ filter_map (fires w e) done →
      fired ++ option_to_list (fires w e row) ≡ had ++ filter_map (fires w e) (done ++ row ∷ [])
  grown_by done row fired grown =
      ap (λ l. l ++ option_to_list (fires w e row)) grown
      ∙ append_assoc had (filter_map (fires w e) done) (option_to_list (fires w e row))
      ∙ ap (λ l. had ++ l) (sym (filter_map_push (fires w e) done row))

  -- the rows before the next one that is due are not met
  stand_at : (todo : List TrackerRow) (id : ℕ) (due : List ℕ) → id ∷ due ≡ filter_map (due_id w) todo →
      (done : List TrackerRow) (rows : List TrackerRow) (fired : List Fired) → start ≡ done ++ todo →
      rows ≡ map (row_after w e) done ++ todo → fired ≡ had ++ filter_map (fires w e) done → Stands rows fired id due
  stand_at [] id due left done rows fired whole now grown = cc
  stand_at (row ∷ todo) id due left done rows fired whole now grown =
      elim (is_met w row) as (λ b. is_met w row ≡ b → id ∷ due ≡ cons_option (if b then Some row.id else None) (filter_map (due_id w) todo) →
      Stands rows fired id due) [
        | true ↦ λ met same. record {
          done = done;
          row = row;
          todo = todo;
          whole = whole;
          now = now;
          grown = grown;
          id_is = cc;
          met = met;
          left = cc;
        }
        | false ↦ λ unmet same. stand_at todo id due same (done ++ row ∷ []) rows fired
            (whole ∙ sym (append_assoc done (row ∷ []) todo))
            (done_pass done row todo rows unmet now)
            (sym (append-nil fired) ∙ ap (λ o. fired ++ option_to_list o) (sym (fires_unmet w e row unmet)) ∙ grown_by done row fired grown)
      ] refl left

  -- the walk at an index of what is due
  pub stand_here : (rows : List TrackerRow) (fired : List Fired) (due : List Waiter) (i : ℕ) → i < length due →
      Walked rows fired (ids_of (drop i due)) → Stands rows fired (get_or due i no_waiter).tracker.id (ids_of (drop (i + 1) due))
  stand_here rows fired due i below walked =
      stand_at walked.todo (get_or due i no_waiter).tracker.id (ids_of (drop (i + 1) due))
      (ap ids_of (sym (drop_more due i no_waiter below)) ∙ walked.left)
      walked.done rows fired walked.whole walked.now walked.grown

  module _ (rows : List TrackerRow) (fired : List Fired) (id : ℕ) (due : List ℕ) (stands : Stands rows fired id due) where
    -- the row is found by its id, where all done rows come before it
    pub stands_found : IdsRise start → Found id rows (length stands.done) stands.row
    stands_found rising = rw (stands.now, stands.id_is) (found_on w e stands.done stands.row stands.todo (subst IdsRise stands.whole rising))

    -- the walk after that row
    pub stands_step : Walked (set rows (length stands.done) (record stands.row { state = Over e }))
        (fired ++ record { tracker = id; event = e } ∷ []) due
    stands_step =
        let is = met_row w e stands.row stands.met in
        rw (stands.id_is) record {
          done = stands.done ++ stands.row ∷ [];
          todo = stands.todo;
          whole = stands.whole ∙ sym (append_assoc stands.done (stands.row ∷ []) stands.todo);
          now =
              ap (λ l. set l (length stands.done) (record stands.row { state = Over e })) stands.now
              ∙ set_at (map (row_after w e) stands.done) stands.row stands.todo (record stands.row { state = Over e }) (length stands.done)
              (length-map stands.done (row_after w e))
              ∙ sym (append_assoc (map (row_after w e) stands.done) ((record stands.row { state = Over e }) ∷ []) stands.todo)
              ∙ ap (λ r. (map (row_after w e) stands.done ++ r ∷ []) ++ stands.todo) (sym is.1)
              ∙ ap (λ l. l ++ stands.todo) (sym (map_push (row_after w e) stands.done stands.row));
          grown = ap (λ o. fired ++ option_to_list o) (sym is.2) ∙ grown_by stands.done stands.row fired stands.grown;
          left = stands.left;
        }

  -- rows of which none is due stay
  none_due : (todo : List TrackerRow) → [] ≡ filter_map (due_id w) todo →
      (map (row_after w e) todo ≡ todo) × (filter_map (fires w e) todo ≡ [])
  none_due [] left = (refl, refl)
  none_due (row ∷ todo) left =
      elim (is_met w row) as (λ b. is_met w row ≡ b → [] ≡ cons_option (if b then Some row.id else None) (filter_map (due_id w) todo) →
      (map (row_after w e) (row ∷ todo) ≡ row ∷ todo) × (filter_map (fires w e) (row ∷ todo) ≡ [])) [
        | true ↦ λ met bad. cc
        | false ↦ λ unmet none.
            let more = none_due todo none in (
              (ap (λ l. l ∷ map (row_after w e) todo) (after_unmet w e row unmet) ∙ ap (λ l. row ∷ l) more.0),
              (ap (λ o. cons_option o (filter_map (fires w e) todo)) (fires_unmet w e row unmet) ∙ more.1),
            )
      ] refl left

  -- at the end of the walk all rows are over
  pub walked_rows : (rows : List TrackerRow) (fired : List Fired) → Walked rows fired [] → rows ≡ map (row_after w e) start
  walked_rows rows fired walked =
      walked.now
      ∙ ap (λ l. map (row_after w e) walked.done ++ l) (sym (none_due walked.todo walked.left).0)
      ∙ sym (map-append (row_after w e) walked.done walked.todo)
      ∙ ap (map (row_after w e)) (sym walked.whole)

  -- and each firing is there
  pub walked_fired : (rows : List TrackerRow) (fired : List Fired) → Walked rows fired [] → fired ≡ had ++ filter_map (fires w e) start
  walked_fired rows fired walked =
      walked.grown
      ∙ ap (λ l. had ++ l) (sym (ap (filter_map (fires w e)) walked.whole
      ∙ filter_map-append (fires w e) walked.done walked.todo
      ∙ ap (λ l. filter_map (fires w e) walked.done ++ l) (none_due walked.todo walked.left).1
      ∙ append-nil (filter_map (fires w e) walked.done)))

-- the firings of a row and its change balance
balance_at : (w : World) (e id cell : ℕ) (state : RowState) (has : Bool) (row : TrackerRow) →
    row ≡ record { id = id; cell = cell; state = state; has_reader = has } →
    length (option_to_list (fires w e row)) + cond (is_waiting (row_after w e row)) 1 0 ≡ cond (is_waiting row) 1 0
balance_at w e id cell (Over event) has row same = rw same
balance_at w e id cell (Waits place c) has row same =
    let fired : Option Fired = Some (record { tracker = id; event = e }) in
    let none_fired : Option Fired = None in
    let over : TrackerRow = record { id = id; cell = cell; state = Over e; has_reader = has } in
    let still : TrackerRow = record { id = id; cell = cell; state = Waits place c; has_reader = has } in
    rw same (elim (holds w c) as (λ b. length (option_to_list (if b then fired else none_fired)) + cond
    (is_waiting (if b then over else still)) 1 0 ≡ 1) [ true ↦ refl | false ↦ refl ])

-- the same for a row as it is
pub balance : (w : World) (e : ℕ) (row : TrackerRow) → length (option_to_list (fires w e row)) + cond (is_waiting (row_after w e row)) 1 0 ≡
    cond
    (is_waiting row) 1 0
balance w e row = balance_at w e row.id row.cell row.state row.has_reader row refl
