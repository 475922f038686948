-- What an event does to clients, handles and ends, under other names.
use Rattle.alike_cores.proofs.Common.{Bool, BufferName, Call, Called, Client, EndPlace, KeepsIds, List, Mark, NodeKey, None, Option}
use Rattle.alike_cores.proofs.Common.{Parcel, Reply, Some, Strength, [], ap, append-nil, buffer_renamed, call_renamed, client_renamed}
use Rattle.alike_cores.proofs.Common.{clients_by, cond, cons_option, end_by, false, joined_at, map, map-append, option_map}
use Rattle.alike_cores.proofs.Common.{parcel_renamed, refl, reply_renamed, same_buffer, same_strength, sym, true, ℕ, ◌&&◌, ◌++◌, ◌+◌, ◌-◌}
use Rattle.alike_cores.proofs.Common.{◌==◌, ◌||◌, ◌∙◌, ◌∷◌, ◌≡◌}
use Rattle.std.proofs.Common.{drop}
use Rattle.std.specs.Int.{bit_at}
use Rattle.sm_names.specs.Ends.{collects, given_at, shuts}
use Rattle.sm_names.specs.Handles.{drops, lands, lifts, opens}
use Rattle.event_laws.specs.ByEvent.{gains, loses, one_if}
use Rattle.core_state.specs.Steps.{client_by, new_client}

-- an end that is put, under its new name
abbrev pub place_renamed : (NodeKey → NodeKey) → EndPlace → EndPlace
place_renamed to p = record p { key = to p.key }

module _ (to : NodeKey → NodeKey) (id number : ℕ → ℕ) where
  -- the mark of the call and the reply under new names
  abbrev pub called : ℕ → Call → Reply → Mark
  called client call reply = Called client (reply_renamed to id number reply) (call_renamed to id call)

  -- ---- clients

  -- By the reply.
  joined-renamed : (client : ℕ) (reply : Reply) (call : Call) →
      joined_at (called client call reply) ≡ option_map number (joined_at (Called client reply call))
  joined-renamed client (Reply.Joined made) Call.Join = refl
  joined-renamed client _ _ = refl

  -- By the reply.
  shuts-renamed : (c client : ℕ) (reply : Reply) (call : Call) →
      shuts c (called client call reply) ≡ shuts c (Called client reply call)
  shuts-renamed c client (Reply.Shut waiting) Call.Shut = refl
  shuts-renamed c client _ _ = refl

  -- By the reply.
  collects-renamed : (c client : ℕ) (reply : Reply) (call : Call) →
      collects c (called client call reply) ≡ collects c (Called client reply call)
  collects-renamed c client (Reply.Collected key kind collection) Call.Collect = refl
  collects-renamed c client (Reply.CollectedHandle buffer strength) Call.Collect = refl
  collects-renamed c client _ _ = refl

  -- By the reply, and whether the parcel is given to the client.
  given-renamed : (c client : ℕ) (reply : Reply) (call : Call) →
      given_at c (called client call reply) ≡ option_map (parcel_renamed to id) (given_at c (Called client reply call))
  given-renamed c client Reply.Done (Call.Give key receiver) = from (receiver == c)
    where
      -- by the two cases
      from : (b : Bool) → cond b (Some (Parcel.End (to key))) None
          ≡ option_map (parcel_renamed to id) (cond b (Some (Parcel.End key)) None)
      from true = refl
      from false = refl
  given-renamed c client Reply.Done (Call.GiveHandle buffer strength receiver) = from (receiver == c)
    where
      -- by the two cases
      from : (b : Bool) → cond b (Some (Parcel.Handle (buffer_renamed id buffer) strength)) None
          ≡ option_map (parcel_renamed to id) (cond b (Some (Parcel.Handle buffer strength)) None)
      from true = refl
      from false = refl
  given-renamed c client _ _ = refl

  -- By whether one is taken, and whether one is there.
  drop-renamed : (b : Bool) (ps : List Parcel) →
      drop (one_if b) (map (parcel_renamed to id) ps) ≡ map (parcel_renamed to id) (drop (one_if b) ps)
  drop-renamed false ps = refl
  drop-renamed true [] = refl
  drop-renamed true (p ∷ ps) = refl

  -- By whether one is given.
  one-renamed : (o : Option Parcel) →
      cons_option (option_map (parcel_renamed to id) o) [] ≡ map (parcel_renamed to id) (cons_option o [])
  one-renamed None = refl
  one-renamed (Some p) = refl

  -- A client is shut, and gets and gives away parcels, alike.
  client-renamed : (client : ℕ) (call : Call) (reply : Reply) (c : Client) →
      client_by (called client call reply) (client_renamed to id c) ≡ client_renamed to id (client_by (Called client reply call) c)
  client-renamed client call reply c = λ i. record {
    id = c.id;
    shut = shuts-renamed c.id client reply call i || c.shut;
    waiting = waits i;
  }
    where
      mark : Mark
      mark = Called client reply call

      -- parcel by parcel: the first is taken, and one more is given
      waits : drop (one_if (collects c.id (called client call reply))) (map (parcel_renamed to id) c.waiting)
          ++ cons_option (given_at c.id (called client call reply)) []
          ≡ map (parcel_renamed to id) (drop (one_if (collects c.id (Called client reply call))) c.waiting
          ++ cons_option (given_at c.id (Called client reply call)) [])
      waits =
          (λ i. drop (one_if (collects-renamed c.id client reply call i)) (map (parcel_renamed to id) c.waiting)
          ++ cons_option (given-renamed c.id client reply call i) [])
          ∙ ((λ i. drop-renamed (collects c.id (Called client reply call)) c.waiting i
          ++ one-renamed (given_at c.id (Called client reply call)) i)
          ∙ sym (map-append (parcel_renamed to id) (drop (one_if (collects c.id (Called client reply call))) c.waiting)
          (cons_option (given_at c.id (Called client reply call)) [])))

  -- Client by client: none is added where none joins.
  pub clients-renamed : (client : ℕ) (call : Call) (reply : Reply) → joined_at (Called client reply call) ≡ None → (cs : List Client) →
      clients_by (called client call reply) (map (client_renamed to id) cs)
      ≡ map (client_renamed to id) (clients_by (Called client reply call) cs)
  clients-renamed client call reply none cs =
      ap (λ (o : Option ℕ). map (client_by (called client call reply)) (map (client_renamed to id) cs) ++ map new_client (cons_option o []))
      (joined-renamed client reply call ∙ ap (option_map number) none)
      ∙ (append-nil (map (client_by (called client call reply)) (map (client_renamed to id) cs))
      ∙ (each cs
      ∙ ap (map (client_renamed to id)) (sym (
      ap (λ (o : Option ℕ). map (client_by (Called client reply call)) cs ++ map new_client (cons_option o [])) none
      ∙ append-nil (map (client_by (Called client reply call)) cs)))))
    where
      -- by induction on the clients
      each : (xs : List Client) → map (client_by (called client call reply)) (map (client_renamed to id) xs)
          ≡ map (client_renamed to id) (map (client_by (Called client reply call)) xs)
      each [] = refl
      each (x ∷ xs) = λ i. client-renamed client call reply x i ∷ each xs i

  -- ---- handles

  module _ (ids : KeepsIds id) where
    -- By the index, which stays.
    buffer-renamed : (a b : BufferName) → same_buffer (buffer_renamed id a) (buffer_renamed id b) ≡ same_buffer a b
    buffer-renamed a b = ap (λ (c : Bool). c && a.index == b.index) (ids a.collection b.collection)

    -- By the reply: a Take opens one of each buffer of its collection.
    opens-renamed : (who : ℕ → Bool) (b : BufferName) (s : Strength) (client : ℕ) (reply : Reply) (call : Call) →
        opens who (buffer_renamed id b) s (called client call reply) ≡ opens who b s (Called client reply call)
    opens-renamed who b s client (Reply.Taken collection taken set) (Call.Take key) =
        ap (λ (c : Bool). who client && (c && (same_strength taken s && bit_at set b.index == 1))) (ids collection b.collection)
    opens-renamed who b s client Reply.Done (Call.DupHandle name dup) =
        ap (λ (c : Bool). who client && (c && same_strength dup s)) (buffer-renamed name b)
    opens-renamed who b s client _ _ = refl

    -- By the reply.
    drops-renamed : (who : ℕ → Bool) (b : BufferName) (s : Strength) (client : ℕ) (reply : Reply) (call : Call) →
        drops who (buffer_renamed id b) s (called client call reply) ≡ drops who b s (Called client reply call)
    drops-renamed who b s client Reply.Done (Call.DropHandle name dropped) =
        ap (λ (c : Bool). who client && (c && same_strength dropped s)) (buffer-renamed name b)
    drops-renamed who b s client _ _ = refl

    -- By the reply.
    lifts-renamed : (who : ℕ → Bool) (b : BufferName) (s : Strength) (client : ℕ) (reply : Reply) (call : Call) →
        lifts who (buffer_renamed id b) s (called client call reply) ≡ lifts who b s (Called client reply call)
    lifts-renamed who b s client Reply.Done (Call.GiveHandle name given receiver) =
        ap (λ (c : Bool). who client && (c && same_strength given s)) (buffer-renamed name b)
    lifts-renamed who b s client _ _ = refl

    -- By the reply.
    lands-renamed : (who : ℕ → Bool) (b : BufferName) (s : Strength) (client : ℕ) (reply : Reply) (call : Call) →
        lands who (buffer_renamed id b) s (called client call reply) ≡ lands who b s (Called client reply call)
    lands-renamed who b s client (Reply.CollectedHandle name given) Call.Collect =
        ap (λ (c : Bool). who client && (c && same_strength given s)) (buffer-renamed name b)
    lands-renamed who b s client _ _ = refl

    -- A count goes by what is opened, dropped, and moved.
    pub of-renamed : (who : ℕ → Bool) (b : BufferName) (s : Strength) (client : ℕ) (call : Call) (reply : Reply) (one other : ℕ) →
        one ≡ other →
        (one + one_if (gains who (buffer_renamed id b) s (called client call reply)))
        - one_if (loses who (buffer_renamed id b) s (called client call reply))
        ≡ (other + one_if (gains who b s (Called client reply call))) - one_if (loses who b s (Called client reply call))
    of-renamed who b s client call reply one other same = λ i.
        (same i + one_if (opens-renamed who b s client reply call i || lands-renamed who b s client reply call i))
        - one_if (drops-renamed who b s client reply call i || lifts-renamed who b s client reply call i)

    -- And so does the count of all.
    pub total-renamed : (who : ℕ → Bool) (b : BufferName) (s : Strength) (client : ℕ) (call : Call) (reply : Reply) (one other : ℕ) →
        one ≡ other →
        (one + one_if (opens who (buffer_renamed id b) s (called client call reply)))
        - one_if (drops who (buffer_renamed id b) s (called client call reply))
        ≡ (other + one_if (opens who b s (Called client reply call))) - one_if (drops who b s (Called client reply call))
    total-renamed who b s client call reply one other same = λ i.
        (same i + one_if (opens-renamed who b s client reply call i)) - one_if (drops-renamed who b s client reply call i)

  -- ---- ends

  -- By the call, and for those that put an end by the reply.
  pub place-renamed : (client : ℕ) (call : Call) (reply : Reply) →
      end_by client (call_renamed to id call) (reply_renamed to id number reply) ≡ option_map (place_renamed to) (end_by client call reply)
  place-renamed client (Call.Close key) Reply.Done = refl
  place-renamed client (Call.Release key) Reply.Done = refl
  place-renamed client (Call.Release key) (Reply.PeerClosed cause origin) = refl
  place-renamed client (Call.Give key receiver) Reply.Done = refl
  place-renamed client Call.Collect (Reply.Collected key kind collection) = refl
  place-renamed client _ _ = refl
