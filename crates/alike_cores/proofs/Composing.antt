-- A core is alike to itself, and one to a third that is alike to the second.
use Rattle.alike_cores.proofs.Common.{AreAlikeCores, Client, Collection, Condition, Fired, List, Mixed, Mixes, Node, NodeKey, None}
use Rattle.alike_cores.proofs.Common.{Option, Parcel, Some, State, Tracked, Waiting, [], ap, buffer_renamed, client_renamed}
use Rattle.alike_cores.proofs.Common.{collection_renamed, condition_renamed, fault_renamed, held_renamed, map, map-map, node_renamed}
use Rattle.alike_cores.proofs.Common.{option_map, parcel_renamed, refl, subst, sym, tracked_as, tracker_renamed, undated, ℕ, ◌∙◌, ◌∷◌}
use Rattle.alike_cores.proofs.Common.{◌≡◌}
use Rattle.alike_cores.proofs.Mixing.{mixed-map, mixed-same}

-- ---- two renamings, one after the other

-- Element by element.
pub twice-map : {A B C : Type 0} (f : A → B) (g : B → C) (h : A → C) → ((x : A) → g (f x) ≡ h x) → (xs : List A) → map g (map f xs) ≡ map h xs
twice-map f g h same [] = refl
twice-map f g h same (x ∷ xs) = λ i. same x i ∷ twice-map f g h same xs i

-- By cases on the option.
pub twice-option : {A B C : Type 0} (f : A → B) (g : B → C) (h : A → C) → ((x : A) → g (f x) ≡ h x) → (o : Option A) →
    option_map g (option_map f o) ≡ option_map h o
twice-option f g h same None = refl
twice-option f g h same (Some x) = ap Some (same x)

module _ (to more : NodeKey → NodeKey) (id on number next : ℕ → ℕ) where
  -- Part by part.
  twice-node : (n : Node) → node_renamed more on (node_renamed to id n) ≡ node_renamed (λ k. more (to k)) (λ k. on (id k)) n
  twice-node n = λ i. record (node_renamed (λ k. more (to k)) (λ k. on (id k)) n) {
    parent = twice-option to more (λ k. more (to k)) (λ k. refl) n.parent i;
    fault = twice-option (fault_renamed to) (fault_renamed more) (fault_renamed (λ k. more (to k))) (λ f. refl) n.fault i;
  }

  -- Node by node, and buffer by buffer.
  twice-collection : (c : Collection) →
      collection_renamed more on (collection_renamed to id c) ≡ collection_renamed (λ k. more (to k)) (λ k. on (id k)) c
  twice-collection c = λ i. record (collection_renamed (λ k. more (to k)) (λ k. on (id k)) c) {
    nodes = twice-map (node_renamed to id) (node_renamed more on) (node_renamed (λ k. more (to k)) (λ k. on (id k))) twice-node c.nodes i;
    held = twice-map (held_renamed id) (held_renamed on) (held_renamed (λ k. on (id k))) (λ h. refl) c.held i;
  }

  -- By the parcel.
  twice-parcel : (p : Parcel) → parcel_renamed more on (parcel_renamed to id p) ≡ parcel_renamed (λ k. more (to k)) (λ k. on (id k)) p
  twice-parcel (Parcel.End key) = refl
  twice-parcel (Parcel.Handle buffer strength) = refl

  -- Parcel by parcel.
  twice-client : (c : Client) → client_renamed more on (client_renamed to id c) ≡ client_renamed (λ k. more (to k)) (λ k. on (id k)) c
  twice-client c = λ i. record c {
    waiting = twice-map (parcel_renamed to id) (parcel_renamed more on) (parcel_renamed (λ k. more (to k)) (λ k. on (id k))) twice-parcel
        c.waiting i;
  }

  -- By the condition.
  twice-condition : (c : Condition) →
      condition_renamed more on (condition_renamed to id c) ≡ condition_renamed (λ k. more (to k)) (λ k. on (id k)) c
  twice-condition (Condition.Node key) = refl
  twice-condition (Condition.Lifetime key collection most) = refl
  twice-condition (Condition.Weak buffer) = refl

  -- By its condition.
  twice-tracker : (t : Tracked) → tracker_renamed more on next (tracker_renamed to id number t)
      ≡ tracker_renamed (λ k. more (to k)) (λ k. on (id k)) (λ k. next (number k)) t
  twice-tracker t = λ i. record (tracker_renamed (λ k. more (to k)) (λ k. on (id k)) (λ k. next (number k)) t) {
    condition = twice-condition t.condition i;
  }

-- ---- cores

-- A renaming to the same names changes nothing of a client.
own_clients : (cs : List Client) → cs ≡ map (client_renamed (λ key. key) (λ id. id)) cs
own_clients [] = refl
own_clients (c ∷ cs) = λ i. record c { waiting = own_parcels c.waiting i } ∷ own_clients cs i
  where
    -- by cases on the parcel
    own_parcels : (ps : List Parcel) → ps ≡ map (parcel_renamed (λ key. key) (λ id. id)) ps
    own_parcels [] = refl
    own_parcels (Parcel.End key ∷ ps) = ap (λ (l : List Parcel). Parcel.End key ∷ l) (own_parcels ps)
    own_parcels (Parcel.Handle b s ∷ ps) = ap (λ (l : List Parcel). Parcel.Handle b s ∷ l) (own_parcels ps)

-- nor of a tracker
own_trackers : (ws : List Waiting) → map (λ w. tracker_renamed (λ key. key) (λ id. id) (λ n. n) (tracked_as w)) ws ≡ map tracked_as ws
own_trackers [] = refl
own_trackers (w ∷ ws) = λ i. record (tracked_as w) { condition = own w.condition i } ∷ own_trackers ws i
  where
    -- by cases on the condition
    own : (c : Condition) → condition_renamed (λ key. key) (λ id. id) c ≡ c
    own (Condition.Node key) = refl
    own (Condition.Lifetime key collection most) = refl
    own (Condition.Weak buffer) = refl

-- Each part is alike to itself.
pub alike-same : (s : State) → AreAlikeCores (λ key. key) (λ id. id) (λ n. n) s s
alike-same s = record {
  pool = refl;
  limits = refl;
  clients = own_clients s.clients;
  collections = mixed-same (map undated s.forest.collections);
  open_of = λ client b strength. refl;
  total = λ b strength. refl;
  unfired = subst (λ (l : List Tracked). Mixed l (map tracked_as s.trackers.unfired)) (sym (own_trackers s.trackers.unfired))
      (mixed-same (map tracked_as s.trackers.unfired));
  fired = mixed-same (map (λ (f : Fired). f.tracker) s.trackers.fired);
}

-- Each part is renamed twice.
pub alike-alike : (to more : NodeKey → NodeKey) (id on number next : ℕ → ℕ) (s t u : State) → AreAlikeCores to id number s t →
    AreAlikeCores more on next t u → AreAlikeCores (λ key. more (to key)) (λ i. on (id i)) (λ n. next (number n)) s u
alike-alike to more id on number next s t u one other = record {
  pool = other.pool ∙ one.pool;
  limits = other.limits ∙ one.limits;
  clients = other.clients ∙ (ap (map (client_renamed more on)) one.clients
      ∙ twice-map (client_renamed to id) (client_renamed more on) (client_renamed (λ k. more (to k)) (λ k. on (id k)))
      (twice-client to more id on number next) s.clients);
  collections = Mixes (map (collection_renamed (λ k. more (to k)) (λ k. on (id k))) s.forest.collections)
      (map (collection_renamed more on) t.forest.collections) (map undated u.forest.collections)
      (subst (λ (l : List Collection). Mixed l (map (collection_renamed more on) t.forest.collections))
      (twice-map (collection_renamed to id) (collection_renamed more on) (collection_renamed (λ k. more (to k)) (λ k. on (id k)))
      (twice-collection to more id on number next) s.forest.collections)
      (subst (Mixed (map (collection_renamed more on) (map (collection_renamed to id) s.forest.collections)))
      (twice-map undated (collection_renamed more on) (collection_renamed more on)
      (twice-collection (λ k. k) more (λ k. k) on number next) t.forest.collections)
      (mixed-map (collection_renamed more on) (map (collection_renamed to id) s.forest.collections) (map undated t.forest.collections)
      one.collections)))
      other.collections;
  open_of = λ client b strength. other.open_of client (buffer_renamed id b) strength ∙ one.open_of client b strength;
  total = λ b strength. other.total (buffer_renamed id b) strength ∙ one.total b strength;
  unfired = Mixes
      (map (λ w. tracker_renamed (λ k. more (to k)) (λ k. on (id k)) (λ k. next (number k)) (tracked_as w)) s.trackers.unfired)
      (map (λ w. tracker_renamed more on next (tracked_as w)) t.trackers.unfired) (map tracked_as u.trackers.unfired)
      (subst (λ (l : List Tracked). Mixed l (map (λ w. tracker_renamed more on next (tracked_as w)) t.trackers.unfired))
      (twice-map (λ w. tracker_renamed to id number (tracked_as w)) (tracker_renamed more on next)
      (λ w. tracker_renamed (λ k. more (to k)) (λ k. on (id k)) (λ k. next (number k)) (tracked_as w))
      (λ w. twice-tracker to more id on number next (tracked_as w)) s.trackers.unfired)
      (subst (Mixed (map (tracker_renamed more on next) (map (λ w. tracker_renamed to id number (tracked_as w)) s.trackers.unfired)))
      (map-map (tracker_renamed more on next) tracked_as t.trackers.unfired)
      (mixed-map (tracker_renamed more on next) (map (λ w. tracker_renamed to id number (tracked_as w)) s.trackers.unfired)
      (map tracked_as t.trackers.unfired) one.unfired)))
      other.unfired;
  fired = Mixes (map (λ (f : Fired). next (number f.tracker)) s.trackers.fired) (map (λ (f : Fired). next f.tracker) t.trackers.fired)
      (map (λ (f : Fired). f.tracker) u.trackers.fired)
      (subst (λ (l : List ℕ). Mixed l (map (λ (f : Fired). next f.tracker) t.trackers.fired))
      (map-map next (λ (f : Fired). number f.tracker) s.trackers.fired)
      (subst (Mixed (map next (map (λ (f : Fired). number f.tracker) s.trackers.fired)))
      (map-map next (λ (f : Fired). f.tracker) t.trackers.fired)
      (mixed-map next (map (λ (f : Fired). number f.tracker) s.trackers.fired) (map (λ (f : Fired). f.tracker) t.trackers.fired)
      one.fired)))
      other.fired;
}
