-- What an event makes of the rows of the clients.
use Rattle.core_state.proofs.Common.{Bool, BufferName, Call, Called, Client, List, NodeKey, Reply, Strength, [], append-nil, clients_by}
use Rattle.core_state.proofs.Common.{false, map, new_client, refl, sym, true, ℕ, ◌++◌, ◌∷◌, ◌≡◌}
use Rattle.sm_names.specs.declared.keys.Kind.{Kind}

-- the events that change the clients
abbrev changes_clients : Call → Reply → Bool
changes_clients Call.Join (Reply.Joined made) = true
changes_clients Call.Shut (Reply.Shut waiting) = true
changes_clients (Call.Give key to) Reply.Done = true
changes_clients (Call.GiveHandle buffer strength to) Reply.Done = true
changes_clients Call.Collect (Reply.Collected key kind collection) = true
changes_clients Call.Collect (Reply.CollectedHandle buffer strength) = true
changes_clients _ _ = false

-- no other event changes any
unchanged : (client : ℕ) (reply : Reply) (call : Call) (rows : List Client) → changes_clients call reply ≡ false →
    rows ≡ clients_by (Called client reply call) rows
unchanged client (Reply.Joined made) Call.Join rows none = cc
unchanged client (Reply.Shut waiting) Call.Shut rows none = cc
unchanged client Reply.Done (Call.Give key to) rows none = cc
unchanged client Reply.Done (Call.GiveHandle buffer strength to) rows none = cc
unchanged client (Reply.Collected key kind collection) Call.Collect rows none = cc
unchanged client (Reply.CollectedHandle buffer strength) Call.Collect rows none = cc
unchanged client _ _ rows none = sym (stays rows)
  where
    -- by induction: each row gets no parcel more
    stays : (rows : List Client) → map (λ (c : Client). record c { waiting = c.waiting ++ [] }) rows ++ [] ≡ rows
    stays [] = refl
    stays (c ∷ rows) = λ i. record c { waiting = append-nil c.waiting i } ∷ stays rows i

module _ (client : ℕ) (reply : Reply) (rows : List Client) where
  -- a Join that made no client
  pub not_joined : ((made : ℕ) → reply ≡ Reply.Joined made → ⊥) → rows ≡ clients_by (Called client reply Call.Join) rows
  not_joined not = unchanged client reply Call.Join rows (by reply not)
    where
      -- among the replies to a Join, only `Joined` changes the clients
      by : (reply : Reply) → ((made : ℕ) → reply ≡ Reply.Joined made → ⊥) → changes_clients Call.Join reply ≡ false
      by (Reply.Joined made) not = absurd (not made refl)
      by _ not = refl

  -- a Shut that shut none
  pub not_shut : ((waiting : ℕ) → reply ≡ Reply.Shut waiting → ⊥) → rows ≡ clients_by (Called client reply Call.Shut) rows
  not_shut not = unchanged client reply Call.Shut rows (by reply not)
    where
      by : (reply : Reply) → ((waiting : ℕ) → reply ≡ Reply.Shut waiting → ⊥) → changes_clients Call.Shut reply ≡ false
      by (Reply.Shut waiting) not = absurd (not waiting refl)
      by _ not = refl

  -- a Give that put no end into a parcel
  pub not_given : (key : NodeKey) (to : ℕ) → (reply ≡ Reply.Done → ⊥) → rows ≡ clients_by (Called client reply (Call.Give key to)) rows
  not_given key to not = unchanged client reply (Call.Give key to) rows (by reply not)
    where
      by : (reply : Reply) → (reply ≡ Reply.Done → ⊥) → changes_clients (Call.Give key to) reply ≡ false
      by Reply.Done not = absurd (not refl)
      by _ not = refl

  -- a GiveHandle that put no handle into a parcel
  pub not_handed : (buffer : BufferName) (strength : Strength) (to : ℕ) → (reply ≡ Reply.Done → ⊥) →
      rows ≡ clients_by (Called client reply (Call.GiveHandle buffer strength to)) rows
  not_handed buffer strength to not = unchanged client reply (Call.GiveHandle buffer strength to) rows (by reply not)
    where
      by : (reply : Reply) → (reply ≡ Reply.Done → ⊥) → changes_clients (Call.GiveHandle buffer strength to) reply ≡ false
      by Reply.Done not = absurd (not refl)
      by _ not = refl

  -- a Collect that got no parcel
  pub not_collected : ((key : NodeKey) (kind : Kind) (collection : ℕ) → reply ≡ Reply.Collected key kind collection → ⊥) →
      ((buffer : BufferName) (strength : Strength) → reply ≡ Reply.CollectedHandle buffer strength → ⊥) →
      rows ≡ clients_by (Called client reply Call.Collect) rows
  not_collected no_end no_handle = unchanged client reply Call.Collect rows (by reply no_end no_handle)
    where
      by : (reply : Reply) → ((key : NodeKey) (kind : Kind) (collection : ℕ) → reply ≡ Reply.Collected key kind collection → ⊥) →
          ((buffer : BufferName) (strength : Strength) → reply ≡ Reply.CollectedHandle buffer strength → ⊥) →
          changes_clients Call.Collect reply ≡ false
      by (Reply.Collected key kind collection) no_end no_handle = absurd (no_end key kind collection refl)
      by (Reply.CollectedHandle buffer strength) no_end no_handle = absurd (no_handle buffer strength refl)
      by _ no_end no_handle = refl

  -- any other call
  pub not_theirs : (call : Call) → (call ≡ Call.Join → ⊥) → (call ≡ Call.Shut → ⊥) → ((key : NodeKey) (to : ℕ) → call ≡ Call.Give key to →
      ⊥) →
      ((buffer : BufferName) (strength : Strength) (to : ℕ) → call ≡ Call.GiveHandle buffer strength to → ⊥) → (call ≡ Call.Collect → ⊥) →
      rows ≡ clients_by (Called client reply call) rows
  not_theirs call no_join no_shut no_give no_hand no_collect =
      unchanged client reply call rows (by call no_join no_shut no_give no_hand no_collect)
    where
      by : (call : Call) → (call ≡ Call.Join → ⊥) → (call ≡ Call.Shut → ⊥) → ((key : NodeKey) (to : ℕ) → call ≡ Call.Give key to → ⊥) →
          ((buffer : BufferName) (strength : Strength) (to : ℕ) → call ≡ Call.GiveHandle buffer strength to → ⊥) →
          (call ≡ Call.Collect → ⊥) → changes_clients call reply ≡ false
      by Call.Join no_join no_shut no_give no_hand no_collect = absurd (no_join refl)
      by Call.Shut no_join no_shut no_give no_hand no_collect = absurd (no_shut refl)
      by (Call.Give key to) no_join no_shut no_give no_hand no_collect = absurd (no_give key to refl)
      by (Call.GiveHandle buffer strength to) no_join no_shut no_give no_hand no_collect = absurd (no_hand buffer strength to refl)
      by Call.Collect no_join no_shut no_give no_hand no_collect = absurd (no_collect refl)
      by _ no_join no_shut no_give no_hand no_collect = refl

-- a Join that made a client
pub by_join : (client made : ℕ) (rows : List Client) → clients_by (Called client (Reply.Joined made) Call.Join) rows ≡ rows ++ new_client
    made ∷ []
by_join client made [] = refl
by_join client made (c ∷ rows) = λ i. record c { waiting = append-nil c.waiting i } ∷ by_join client made rows i
