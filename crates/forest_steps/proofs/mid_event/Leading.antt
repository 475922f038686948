-- Forced steps one after another, and the units that had their turn so far.
use Rattle.forest_steps.proofs.Common.{◌≡◌, ℕ, ◌∙◌, ap, subst, refl, true, false, List, [], ◌∷◌, Some, NodeKey, Buffers, Table}
use Rattle.forest_steps.proofs.Common.{Entry, Node, Unit, CollectionRow, collection_in, nodes_with, Handles, PendingUnit, AreTurns}
use Rattle.forest_steps.proofs.Common.{IsBeside, AfterSteps, MidEvent, Reaches, is_abandoned_in, turn_heads, waits_among}
use Rattle.forest_steps.proofs.tables.Rows.{same_on}

-- ---- steps one after another

-- one after the other
pub beside_on : {t u now : Table Node} {ss : List CollectionRow} {id : ℕ} → IsBeside t u ss id → IsBeside u now ss id → IsBeside t now ss id
beside_on one two = record {
  same = same_on one.same two.same;
  others = λ x on apart. two.others x on apart ∙ one.others x on apart;
}

-- where nothing was done
pub led_none : (handles : Handles) {t : Table Node} {us : List Unit} {ss : List CollectionRow} {e : Entry} {unheld pending : List NodeKey} →
    MidEvent t us ss e unheld pending → AfterSteps handles t t us ss e e unheld pending
led_none handles under = record {
  under = under;
  row = refl;
  leads = λ pool others after settles. settles;
  beside = record { same = record { first = refl; nexts = refl; limit = refl; len = refl }; others = λ x on apart. refl };
}

-- steps, and then more of them
pub led_on : {handles : Handles} {t u now : Table Node} {us vs : List Unit} {ss : List CollectionRow} {old e new : Entry}
    {unheld pending loose' due' : List NodeKey} →
    AfterSteps handles t u us ss old e unheld pending → AfterSteps handles u now vs ss e new loose' due' →
    AfterSteps handles t now vs ss old new loose' due'
led_on {handles} {u} {now} one two = record {
  under = two.under;
  row = two.row ∙ one.row;
  leads = λ pool others after settles. one.leads pool others after
      (subst (λ s. Reaches pool handles others (collection_in u s) (collection_in now s)) one.row (two.leads pool others)
      after settles);
  beside = beside_on one.beside (rw (ap (λ (s : CollectionRow). s.id) one.row) at two.beside);
}

-- ---- turns

-- the units before these had their turn
abbrev pub HaveTurns : Handles → Table Node → Table Node → List Unit → List Unit → Entry → Entry →
    Buffers → List PendingUnit → List PendingUnit → Type 0
HaveTurns handles t now us vs old new buffers all left =
    (ss : List CollectionRow) → MidEvent t us ss old [] (turn_heads all) → AreTurns t old.keys.items all →
    waits_among [] (nodes_with t old.keys.items) ≡ true → old.buffers ≡ Some buffers →
    AfterSteps handles t now vs ss old new [] (turn_heads left)
    × (AreTurns now old.keys.items left × (waits_among [] (nodes_with now old.keys.items) ≡ true))

-- no turn was taken, so nothing changed
pub turns_none : (handles : Handles) (t : Table Node) (us : List Unit) (e : Entry) (buffers : Buffers) (all : List PendingUnit) →
    HaveTurns handles t t us us e e buffers all all
turns_none handles t us e buffers all ss under turns waits given = (led_none _ under, (turns, waits))

-- the outcome of one logical allocation, if it is the next
abbrev pub Takes : Handles → Table Node → Table Node → List Unit → List Unit → Entry → Entry → Buffers → NodeKey → Type 0
Takes handles t now us vs old new buffers head =
    (ss : List CollectionRow) (place : ℕ) (ws : List PendingUnit) → MidEvent t us ss old [] (head ∷ turn_heads ws) →
    AreTurns t old.keys.items (record { place = place; head = head } ∷ ws) →
    waits_among [] (nodes_with t old.keys.items) ≡ true → old.buffers ≡ Some buffers → is_abandoned_in handles t old ≡ false →
    AfterSteps handles t now vs ss old new [] (turn_heads ws)
    × (AreTurns now old.keys.items ws × (waits_among [] (nodes_with now old.keys.items) ≡ true))

module _ (handles : Handles) (t u now : Table Node) (us vs ws : List Unit) (old e new : Entry)
    (buffers : Buffers) (all : List PendingUnit) where
  -- one more had
  pub turns_more : (w : PendingUnit) (left : List PendingUnit) → HaveTurns handles t u us vs old e buffers all (w ∷ left) →
      (e.buffers ≡ Some buffers → is_abandoned_in handles u e ≡ false) → Takes handles u now vs ws e new buffers w.head →
      HaveTurns handles t now us ws old new buffers all left
  turns_more w left had kept takes ss under turns waits given =
      let so_far = had ss under turns waits given in
      let keys : e.keys.items ≡ old.keys.items = ap (λ (s : CollectionRow). s.keys) so_far.0.row in
      let still : e.buffers ≡ Some buffers = ap (λ (s : CollectionRow). s.buffers) so_far.0.row ∙ given in
      let next = takes ss w.place left so_far.0.under
      (rw keys so_far.1.0)
      (rw keys so_far.1.1) still (kept still) in (
        led_on so_far.0 next.0,
        (
          rw keys at next.1.0,
          rw keys at next.1.1,
        ),
      )
