-- What an event makes of each node, before what it forces.
use Rattle.core_state.proofs.Common.{Birth, Bool, Bound, Call, Called, Effect, End, EndPlace, Grows, IsAnswer, Node, NodeKey, None}
use Rattle.core_state.proofs.Common.{Option, Reply, Some, Timeline, [], affected, and-false, ap, birth_at, birth_of, collector, cond}
use Rattle.core_state.proofs.Common.{constraints, counted, covered, covers_children, end_after, end_at, end_by, false, holder, in_transit}
use Rattle.core_state.proofs.Common.{is_some, list_any, node_after, not, option_map_or, place_of, readings, refl, same_key, sets_weak}
use Rattle.core_state.proofs.Common.{sets_weak_ok, spent, sym, true, ℕ, ◌&&◌, ◌||◌, ◌∙◌, ◌∷◌, ◌≡◌}
use Rattle.std.proofs.Math.Bool.{and-true, or_assoc}
use Rattle.sm_names.specs.Demands.{Demand}
use Rattle.event_laws.specs.ByEvent.{sends, delivers}
use Rattle.event_laws.proofs.FreeEndLaws.{FreeEnd, sends_free}
use Rattle.event_laws.proofs.TransitLaws.{EndAt, transit_mark, delivers_waited}
use Rattle.forest_store.specs.Effects.{effect_of}
use Rattle.core_state.proofs.ends.NotRead.{placed_node}

-- ---- words

-- what the effect of an answered call makes of a node
abbrev pub effect_makes : Call → Reply → Node → Node
effect_makes call reply n = option_map_or (λ (e : NodeKey × Effect). affected e.0 e.1 n) (effect_of call reply) n

-- what an answered call makes of a node, but for its end: with any other answer it makes nothing of it
abbrev pub said : Call → Reply → Node → Node
said call Reply.Done n = effect_makes call Reply.Done n
said call (Reply.Taken collection strength set) n = effect_makes call (Reply.Taken collection strength set) n
said call (Reply.Tracker id) n = effect_makes call (Reply.Tracker id) n
said call _ n = n

-- what the event makes of a node that was there
abbrev pub answered : ℕ → Call → Reply → Node → Node
answered client call reply n = placed_node (place_of (end_by client call reply)) (said call reply n)

-- ---- flags

-- of four flags one is set
or_middle : (a b c d : Bool) → (b || ((a || c) || d)) ≡ (a || (b || (c || d)))
or_middle true true c d = refl
or_middle true false c d = refl
or_middle false b c d = refl

-- ---- all of a node but its end

module _ (marks : Timeline) (client : ℕ) (b : Birth) where
  -- constraints that are set now, or were before
  constrained : (key : NodeKey) (demand : Demand) (is : Bool) →
      record (node_after marks b) { constraints = option_map_or Some (cond is (Some demand) None) (constraints marks b.node) } ≡
      record (node_after marks b) { constraints = cond is (Some demand) (constraints marks b.node) }
  constrained key demand true = refl
  constrained key demand false = refl

  -- what the call says of the node is all that changes, wherever its end is then
  pub rest_called : (place : NodeKey → End → End) (reply : Reply) (call : Call) → birth_at 0 (Called client reply call) ≡ None →
      record (node_after (Called client reply call ∷ marks) b) { end = place b.node (end_after marks b.node) } ≡ placed_node place
      (said call reply (node_after marks b))
  rest_called place Reply.Done (Call.SetWeak key) none =
      λ i. record (placed_node place (said (Call.SetWeak key) Reply.Done (node_after marks b))) {
        weak_ok = or_assoc (same_key key b.node) (list_any (sets_weak b.node) marks) (list_any (sets_weak_ok b.node) marks || covered marks
            b.node) i;
      }
  rest_called place Reply.Done (Call.SetWeakOk key true) none =
      λ i. record (placed_node place (said (Call.SetWeakOk key true) Reply.Done (node_after marks b))) {
        weak_ok = or_middle (same_key key b.node) (list_any (sets_weak b.node) marks) (list_any (sets_weak_ok b.node) marks)
            (covered marks b.node) i;
        covers = or_assoc (same_key key b.node) (list_any (covers_children b.node) marks) (covered marks b.node) i;
      }
  rest_called place Reply.Done (Call.SetWeakOk key false) none =
      λ i. record (placed_node place (said (Call.SetWeakOk key false) Reply.Done (node_after marks b))) {
        weak_ok = or_middle (same_key key b.node) (list_any (sets_weak b.node) marks) (list_any (sets_weak_ok b.node) marks)
            (covered marks b.node) i;
      }
  rest_called place Reply.Done (Call.SetConstraints key demand) none = ap (placed_node place) (constrained key demand (same_key key b.node))
  rest_called place Reply.Done call none = refl
  rest_called place (Reply.Taken collection strength set) (Call.Take key) none = refl
  rest_called place (Reply.Taken collection strength set) call none = refl
  rest_called place (Reply.Tracker id) (Call.TrackNode key) none = refl
  rest_called place (Reply.Tracker id) call none = refl
  rest_called place (Reply.Token key collection) Call.OpenRoot none = cc
  rest_called place (Reply.Token key collection) (Call.Duplicate above) none = cc
  rest_called place (Reply.Token key collection) (Call.AttachToken above) none = cc
  rest_called place (Reply.Token key collection) call none = refl
  rest_called place reply call none = refl

-- ---- where its end is

-- the end that was spent, or was put in a parcel by this client, or is held
abbrev end_so : Bool → Bool → ℕ → End
end_so over under_way client = cond over End.Spent (cond under_way (End.InTransit client) (End.Held client))

-- an end that is spent now, or was before
spent_end : (now over under_way : Bool) (holder : ℕ) →
    end_so (now || over) (under_way && true) holder ≡ cond now End.Spent (end_so over under_way holder)
spent_end true over under_way holder = refl
spent_end false over under_way holder = ap (λ (t : Bool). end_so over t holder) (and-true under_way)

-- one that is given now, and was its giver's
given_end : (now over under_way : Bool) (giver holder : ℕ) → (now ≡ true → (over ≡ false) × (holder ≡ giver)) →
    end_so over (now || (under_way && true)) holder ≡ cond now (End.InTransit giver) (end_so over under_way holder)
given_end true over under_way giver holder was = let t = was refl in λ i. end_so (t.0 i) true (t.1 i)
given_end false over under_way giver holder was = ap (λ (t : Bool). end_so over t holder) (and-true under_way)

-- one that its collector gets now
collected_end : (now over under_way : Bool) (caller first : ℕ) (last : Option ℕ) → (now ≡ true → over ≡ false) →
    end_so over (under_way && not (is_some (cond now (Some caller) None))) (option_map_or (λ c.
    c) (option_map_or Some (cond now (Some caller) None) last) first)
    ≡ cond now (End.Held caller) (end_so over under_way (option_map_or (λ c. c) last first))
collected_end true over under_way caller first last was = λ i. end_so (was refl i) (and-false under_way i) caller
collected_end false over under_way caller first last was =
    ap (λ (t : Bool). end_so over t (option_map_or (λ c. c) last first)) (and-true under_way)

-- only these replies tell of an end that is put elsewhere
abbrev moves_ends : Reply → Bool
moves_ends Reply.Done = true
moves_ends (Reply.PeerClosed cause origin) = true
moves_ends (Reply.Collected key kind collection) = true
moves_ends _ = false

-- with any other none is
unplaced : (client : ℕ) (call : Call) (reply : Reply) → moves_ends reply ≡ false → end_by client call reply ≡ None
unplaced client (Call.Close key) Reply.Done h = cc
unplaced client (Call.Release key) Reply.Done h = cc
unplaced client (Call.Release key) (Reply.PeerClosed cause origin) h = cc
unplaced client (Call.Give key to) Reply.Done h = cc
unplaced client Call.Collect (Reply.Collected key kind collection) h = cc
unplaced client call reply h = refl

module _ (pool : ℕ) (limits : Bound) (marks : Timeline) (grown : Grows pool limits [] marks) (client : ℕ) (node : NodeKey) where
  -- where the end was
  was_at : EndAt marks node
  was_at = end_at pool limits marks grown node

  -- whether it is in a parcel now
  goes : (reply : Reply) (call : Call) → IsAnswer limits (readings marks) client call reply →
      in_transit (Called client reply call ∷ marks) node ≡ (sends node (Called client reply call) || (in_transit marks node && not
      (delivers node (Called client reply call))))
  goes reply call answer = transit_mark limits marks client reply call answer (counted pool limits marks grown).drawn node was_at

  -- the end is where the event puts it
  end_called : (reply : Reply) (call : Call) → IsAnswer limits (readings marks) client call reply →
      birth_at 0 (Called client reply call) ≡ None →
      end_after (Called client reply call ∷ marks) node ≡ place_of (end_by client call reply) node (end_after marks node)
  end_called Reply.Done (Call.Close key) answer none =
      ap (λ (t : Bool). end_so (same_key key node || spent marks node) t (holder marks node)) (goes Reply.Done (Call.Close key) answer)
      ∙ spent_end (same_key key node) (spent marks node) (in_transit marks node) (holder marks node)
  end_called Reply.Done (Call.Release key) answer none =
      ap (λ (t : Bool). end_so (same_key key node || spent marks node) t (holder marks node)) (goes Reply.Done (Call.Release key) answer)
      ∙ spent_end (same_key key node) (spent marks node) (in_transit marks node) (holder marks node)
  end_called (Reply.PeerClosed cause origin) (Call.Release key) answer none =
      ap (λ (t : Bool). end_so (same_key key node || spent marks node) t (holder marks node)) (goes (Reply.PeerClosed cause origin)
      (Call.Release key) answer)
      ∙ spent_end (same_key key node) (spent marks node) (in_transit marks node) (holder marks node)
  end_called Reply.Done (Call.Give key to) answer none =
      ap (λ (t : Bool). end_so (spent marks node) t (holder marks node)) (goes Reply.Done (Call.Give key to) answer)
      ∙ given_end (same_key key node) (spent marks node) (in_transit marks node) client (holder marks node)
      (λ e. let f : FreeEnd marks client node = sends_free limits marks client Reply.Done (Call.Give key to) node answer e in
      (f.unspent, f.held))
  end_called (Reply.Collected key kind collection) Call.Collect answer none =
      let got : Timeline = Called client (Reply.Collected key kind collection) Call.Collect ∷ marks in
      ap (λ (t : Bool). end_so (spent marks node) t (holder got node)) (goes (Reply.Collected key kind collection) Call.Collect answer)
      ∙ collected_end (same_key key node) (spent marks node) (in_transit marks node) client (option_map_or (λ (b : Birth).
      b.client) (birth_of marks node) 0) (collector marks node)
      (λ e. was_at.unspent (delivers_waited limits marks client (Reply.Collected key kind collection) Call.Collect answer
      (counted pool limits marks grown).drawn node was_at
      (ap (λ (t : Bool). is_some (cond t (Some client) None)) e)).1)
  end_called Reply.Done call answer none =
      ap (λ (t : Bool). end_so (spent marks node) t (holder marks node)) (goes Reply.Done call answer ∙ and-true (in_transit marks node))
  end_called (Reply.PeerClosed cause origin) call answer none =
      ap (λ (t : Bool). end_so (spent marks node) t (holder marks node)) (goes (Reply.PeerClosed cause origin) call answer
      ∙ and-true (in_transit marks node))
  end_called (Reply.Collected key kind collection) call answer none =
      ap (λ (t : Bool). end_so (spent marks node) t (holder marks node)) (goes (Reply.Collected key kind collection) call answer
      ∙ and-true (in_transit marks node))
  end_called (Reply.Token key collection) Call.OpenRoot answer none = cc
  end_called (Reply.Token key collection) (Call.Duplicate above) answer none = cc
  end_called (Reply.Token key collection) (Call.AttachToken above) answer none = cc
  end_called reply call answer none =
      ap (λ (t : Bool). end_so (spent marks node) t (holder marks node)) (goes reply call answer ∙ and-true (in_transit marks node))
      ∙ ap (λ (o : Option EndPlace). place_of o node (end_after marks node)) (sym (unplaced client call reply refl))

module _ (pool : ℕ) (limits : Bound) (marks : Timeline) (grown : Grows pool limits [] marks) (client : ℕ) (reply : Reply) (call : Call)
    (answer : IsAnswer limits (readings marks) client call reply) where
  -- what an event makes of a node that was there: it bears none
  pub node_called : birth_at 0 (Called client reply call) ≡ None → (b : Birth) →
      node_after (Called client reply call ∷ marks) b ≡ answered client call reply (node_after marks b)
  node_called none b =
      ap (λ (e : End). record (node_after (Called client reply call ∷ marks) b) { end = e }) (end_called pool limits marks grown client
      b.node reply call answer none)
      ∙ rest_called marks client b (place_of (end_by client call reply)) reply call none
