-- One event in cores that are alike.
use Rattle.alike_cores.proofs.Common.{AreAlikeCores, Call, Called, Collection, CountsAlike, EndPlace, Fired, Follows, Forest}
use Rattle.alike_cores.proofs.Common.{HandleCounts, IsSound, KeepsIds, KeepsKeys, List, Mixed, NodeKey, None, Option, Reply, Some, State}
use Rattle.alike_cores.proofs.Common.{TrackerTable, Worked, [], ap, buffer_renamed, call_renamed, client_renamed, clients_by}
use Rattle.alike_cores.proofs.Common.{collection_renamed, end_by, filter, firings, held_renamed, joined_at, map, new_key, node_renamed}
use Rattle.alike_cores.proofs.Common.{not, of, option_map, refl, reply_renamed, still_waiting, subst, sym, tidied, total, tracked_as}
use Rattle.alike_cores.proofs.Common.{tracker_by, tracker_renamed, undated, with_end, with_nodes, work_of, world_in, ℕ, ◌&&◌, ◌++◌, ◌==◌}
use Rattle.alike_cores.proofs.Common.{◌∙◌, ◌∷◌, ◌≡◌}
use Rattle.event_laws.specs.ByEvent.{anyone, only}
use Rattle.forest_store.specs.Forest.{is_left}
use Rattle.core_state.specs.Steps.{with_place, without_unkept}
use Rattle.alike_cores.proofs.Answering.{length-renamed}
use Rattle.alike_cores.proofs.Changing.{end_put-renamed, tidied-renamed}
use Rattle.alike_cores.proofs.Forcings.{filter_alike}
use Rattle.alike_cores.proofs.Clients.{called, clients-renamed, of-renamed, place-renamed, place_renamed, total-renamed}
use Rattle.alike_cores.proofs.Finding.{sound_apart}
use Rattle.alike_cores.proofs.Mixing.{mixed-filter, mixed-map}
use Rattle.alike_cores.proofs.Sweeping.{firings-alike, gains-alike, gains_fired, more_fired, still-alike}
use Rattle.alike_cores.proofs.Worked.{AreWorked, worked-alike}
use Rattle.alike_cores.proofs.Working.{tracker-alike, work-alike}

-- ---- ends and what is forgotten

-- Element by element, where the two change places.
swapped : {A B : Type 0} (f : A → B) (g : A → A) (h : B → B) → ((x : A) → h (f x) ≡ f (g x)) → (xs : List A) →
    map h (map f xs) ≡ map f (map g xs)
swapped f g h same [] = refl
swapped f g h same (x ∷ xs) = λ i. same x i ∷ swapped f g h same xs i

-- the collections with that end there
abbrev put_end : Option EndPlace → List Collection → List Collection
put_end None cs = cs
put_end (Some p) cs = map (with_nodes (map (with_end p.key p.end))) cs

-- By cases on the place.
is_put : (p : Option EndPlace) (f : Forest) → (with_place p f).collections ≡ put_end p f.collections
is_put None f = refl
is_put (Some p) f = refl

-- By cases on the place: no order is read.
put_end-mixed : (p : Option EndPlace) (cs ds : List Collection) → Mixed cs ds → Mixed (put_end p cs) (put_end p ds)
put_end-mixed None cs ds mixed = mixed
put_end-mixed (Some p) cs ds mixed = mixed-map (with_nodes (map (with_end p.key p.end))) cs ds mixed

-- What is forgotten does not depend on the order.
forgotten-mixed : (cs ds : List Collection) → Mixed cs ds → Mixed (without_unkept cs) (without_unkept ds)
forgotten-mixed cs ds mixed =
    mixed-filter (λ (c : Collection). not (is_left c)) (map tidied cs) (map tidied ds) (mixed-map tidied cs ds mixed)

-- By cases on the place.
own_place : (p : Option EndPlace) → option_map (place_renamed (λ key. key)) p ≡ p
own_place None = refl
own_place (Some p) = refl

module _ (to : NodeKey → NodeKey) (id : ℕ → ℕ) (keeps : KeepsKeys to) where
  -- the ends of renamed collections are put under new names
  put_end-renamed : (p : Option EndPlace) (cs : List Collection) →
      put_end (option_map (place_renamed to) p) (map (collection_renamed to id) cs) ≡ map (collection_renamed to id) (put_end p cs)
  put_end-renamed None cs = refl
  put_end-renamed (Some p) cs =
      swapped (collection_renamed to id) (with_nodes (map (with_end p.key p.end))) (with_nodes (map (with_end (to p.key) p.end)))
      (end_put-renamed to id keeps p.key p.end) cs

  -- Nothing is left of a renamed collection iff nothing is left of the collection.
  left-renamed : (c : Collection) → is_left (collection_renamed to id c) ≡ is_left c
  left-renamed c = λ i. length-renamed (node_renamed to id) c.nodes i == 0 && length-renamed (held_renamed id) c.held i == 0

  -- The same nodes and collections are forgotten.
  forgotten-renamed : (cs : List Collection) →
      without_unkept (map (collection_renamed to id) cs) ≡ map (collection_renamed to id) (without_unkept cs)
  forgotten-renamed cs =
      ap (filter (λ (c : Collection). not (is_left c))) (swapped (collection_renamed to id) tidied tidied (tidied-renamed to id) cs)
      ∙ filter_alike (λ (c : Collection). not (is_left c)) (λ (c : Collection). not (is_left c)) (collection_renamed to id)
      (λ c. ap not (left-renamed c)) (map tidied cs)

  -- An end is put, and what is over forgotten, under new names.
  over-renamed : (p : Option EndPlace) (cs : List Collection) →
      without_unkept (put_end (option_map (place_renamed to) p) (map (collection_renamed to id) cs))
      ≡ map (collection_renamed to id) (without_unkept (put_end p cs))
  over-renamed p cs = ap without_unkept (put_end-renamed p cs) ∙ forgotten-renamed (put_end p cs)

-- Collections that are alike stay so as an end is put, and what is over is forgotten.
over-alike : (to : NodeKey → NodeKey) (id : ℕ → ℕ) → KeepsKeys to → (p : Option EndPlace) (cs ds : List Collection) →
    Mixed (map (collection_renamed to id) cs) (map undated ds) →
    Mixed (map (collection_renamed to id) (without_unkept (put_end p cs)))
    (map undated (without_unkept (put_end (option_map (place_renamed to) p) ds)))
over-alike to id keeps p cs ds alike =
    subst (λ (l : List Collection). Mixed l (map undated (without_unkept (put_end (option_map (place_renamed to) p) ds))))
    (over-renamed to id keeps p cs)
    (subst (Mixed (without_unkept (put_end (option_map (place_renamed to) p) (map (collection_renamed to id) cs))))
    (ap (λ (o : Option EndPlace). without_unkept (put_end o (map undated ds))) (sym (own_place (option_map (place_renamed to) p)))
    ∙ over-renamed (λ key. key) (λ k. k) (λ a b. refl) (option_map (place_renamed to) p) ds)
    (forgotten-mixed (put_end (option_map (place_renamed to) p) (map (collection_renamed to id) cs))
    (put_end (option_map (place_renamed to) p) (map undated ds))
    (put_end-mixed (option_map (place_renamed to) p) (map (collection_renamed to id) cs) (map undated ds) alike)))

-- ---- the event

-- By the reply.
pub new_key-renamed : (to : NodeKey → NodeKey) (id number : ℕ → ℕ) (reply : Reply) →
    new_key (reply_renamed to id number reply) ≡ option_map to (new_key reply)
new_key-renamed to id number Reply.Done = refl
new_key-renamed to id number _ = refl

module _ (to : NodeKey → NodeKey) (id number : ℕ → ℕ) (keeps : KeepsKeys to) (kept : KeepsIds id) (s t later_s later_t : State)
    (alike : AreAlikeCores to id number s t) (s_sound : IsSound s.forest) (t_sound : IsSound t.forest) (client : ℕ) (call : Call)
    (reply : Reply) (none : joined_at (Called client reply call) ≡ None) (one : Follows s later_s client call reply)
    (other : Follows t later_t client (call_renamed to id call) (reply_renamed to id number reply)) where
  -- as many handles are open on each buffer then
  totals : CountsAlike id (total later_s.holds) (total later_t.holds)
  totals b strength =
      ap (λ (h : HandleCounts). h.total (buffer_renamed id b) strength) other.handles
      ∙ (total-renamed to id number kept anyone b strength client call reply (total t.holds (buffer_renamed id b) strength)
      (total s.holds b strength) (alike.total b strength)
      ∙ sym (ap (λ (h : HandleCounts). h.total b strength) one.handles))

  -- the collections are alike once all that the change forces is made
  worked : AreWorked to id one.worked.collections other.worked.collections
  worked = worked-alike to id number keeps kept s t alike s_sound t_sound (total later_s.holds) (total later_t.holds) totals one.worked
      other.worked (work_of s client call reply) (work_of t client (call_renamed to id call) (reply_renamed to id number reply))
      (work-alike to id number keeps kept s t alike (sound_apart s.forest s_sound) client call reply) (new_key reply) one.work
      (subst (λ (key : Option NodeKey). Worked t (total later_t.holds)
      (work_of t client (call_renamed to id call) (reply_renamed to id number reply)) key other.worked)
      (new_key-renamed to id number reply) other.work)

  -- and once an end was put, and what is over was forgotten
  collections : Mixed (map (collection_renamed to id) later_s.forest.collections) (map undated later_t.forest.collections)
  collections =
      subst (λ (cs : List Collection). Mixed (map (collection_renamed to id) cs) (map undated later_t.forest.collections))
      (sym (one.collections ∙ ap without_unkept (is_put (end_by client call reply) one.worked)))
      (subst (λ (ds : List Collection). Mixed
      (map (collection_renamed to id) (without_unkept (put_end (end_by client call reply) one.worked.collections))) (map undated ds))
      (sym (other.collections ∙ (ap without_unkept
      (is_put (end_by client (call_renamed to id call) (reply_renamed to id number reply)) other.worked)
      ∙ ap (λ (o : Option EndPlace). without_unkept (put_end o other.worked.collections)) (place-renamed to id number client call reply))))
      (over-alike to id keeps (end_by client call reply) one.worked.collections other.worked.collections worked.alike))

  -- the trackers that wait, with the one that is made, are alike
  waits : Mixed (map (λ w. tracker_renamed to id number (tracked_as w)) one.attached.unfired) (map tracked_as other.attached.unfired)
  waits = gains-alike to id number s.trackers t.trackers alike.unfired (tracker_by s.forest call reply)
      (tracker_by t.forest (call_renamed to id call) (reply_renamed to id number reply))
      (tracker-alike to id number keeps kept s t alike (sound_apart s.forest s_sound) call reply) one.attached other.attached one.gains
      other.gains

  -- those that fired are alike
  fired : Mixed (map (λ (f : Fired). number f.tracker) later_s.trackers.fired) (map (λ (f : Fired). f.tracker) later_t.trackers.fired)
  fired =
      subst (λ (x : TrackerTable). Mixed (map (λ (f : Fired). number f.tracker) x.fired)
      (map (λ (f : Fired). f.tracker) later_t.trackers.fired)) (sym one.trackers)
      (subst (λ (x : TrackerTable). Mixed
      (map (λ (f : Fired). number f.tracker)
      (one.attached.fired ++ firings (world_in one.worked (total later_s.holds)) later_s.events one.attached.unfired))
      (map (λ (f : Fired). f.tracker) x.fired)) (sym other.trackers)
      (more_fired number one.attached.fired (firings (world_in one.worked (total later_s.holds)) later_s.events one.attached.unfired)
      other.attached.fired (firings (world_in other.worked (total later_t.holds)) later_t.events other.attached.unfired)
      before
      (firings-alike to id keeps kept one.worked other.worked worked (total later_s.holds) (total later_t.holds) totals number
      one.attached.unfired other.attached.unfired waits later_s.events later_t.events)))
    where
      -- none fires by being made
      before : Mixed (map (λ (f : Fired). number f.tracker) one.attached.fired) (map (λ (f : Fired). f.tracker) other.attached.fired)
      before =
          subst (λ (l : List Fired). Mixed (map (λ (f : Fired). number f.tracker) l) (map (λ (f : Fired). f.tracker) other.attached.fired))
          (sym (gains_fired s.trackers (tracker_by s.forest call reply) one.attached one.gains))
          (subst (λ (l : List Fired). Mixed (map (λ (f : Fired). number f.tracker) s.trackers.fired) (map (λ (f : Fired). f.tracker) l))
          (sym (gains_fired t.trackers (tracker_by t.forest (call_renamed to id call) (reply_renamed to id number reply)) other.attached
          other.gains))
          alike.fired)

  -- the cores are alike behind the event
  pub stay_alike : AreAlikeCores to id number later_s later_t
  stay_alike = record {
    pool = other.pool ∙ (alike.pool ∙ sym one.pool);
    limits = other.limits ∙ (alike.limits ∙ sym one.limits);
    clients = other.clients ∙ (ap (clients_by (called to id number client call reply)) alike.clients
        ∙ (clients-renamed to id number client call reply none s.clients ∙ sym (ap (map (client_renamed to id)) one.clients)));
    collections = collections;
    open_of = λ c b strength.
        ap (λ (h : HandleCounts). h.of c (buffer_renamed id b) strength) other.handles
        ∙ (of-renamed to id number kept (only c) b strength client call reply (of t.holds c (buffer_renamed id b) strength)
        (of s.holds c b strength) (alike.open_of c b strength)
        ∙ sym (ap (λ (h : HandleCounts). h.of c b strength) one.handles));
    total = totals;
    unfired =
        subst (λ (x : TrackerTable). Mixed (map (λ w. tracker_renamed to id number (tracked_as w)) x.unfired)
        (map tracked_as later_t.trackers.unfired)) (sym one.trackers)
        (subst (λ (x : TrackerTable). Mixed (map (λ w. tracker_renamed to id number (tracked_as w))
        (still_waiting (world_in one.worked (total later_s.holds)) one.attached.unfired)) (map tracked_as x.unfired))
        (sym other.trackers)
        (still-alike to id keeps kept one.worked other.worked worked (total later_s.holds) (total later_t.holds) totals number
        one.attached.unfired other.attached.unfired waits));
    fired = fired;
  }
