-- A call of cores that are alike, under names that know what is new.
use Rattle.alike_cores.proofs.Common.{AreAlikeCores, BufferName, Call, Called, Entry, KeepsIds, KeepsKeys, List, Makes, NodeKey, None}
use Rattle.alike_cores.proofs.Common.{Option, Reply, Shows, Some, State, ap, both_ways, call_renamed, false, given, joined_at, key_of}
use Rattle.alike_cores.proofs.Common.{new_key, option_map_or, refl, reply_renamed, subst, sym, true, ℕ, ◌+◌, ◌∙◌, ◌≡◌}
use Rattle.sm_names.specs.Timelines.{buffer_of}
use Rattle.alike_cores.specs.Cores.{GoOn, NamesOld}
use Rattle.alike_cores.proofs.Agreeing.{agree, ids_agree, numbers_agree}
use Rattle.alike_cores.proofs.Moving.{keys_kept, keys_moved, keys_same, keys_there, number_kept, number_moved, number_there}
use Rattle.alike_cores.proofs.Shown.{events_alike}

-- By the call: it names a node, a buffer, or nothing.
pub call-agrees : (to again : NodeKey → NodeKey) (id later : ℕ → ℕ) (call : Call) →
    ((key : NodeKey) → key_of call ≡ Some key → again key ≡ to key) →
    ((b : BufferName) → buffer_of call ≡ Some b → later b.collection ≡ id b.collection) →
    call_renamed again later call ≡ call_renamed to id call
call-agrees to again id later Call.Join keys ids = refl
call-agrees to again id later Call.Shut keys ids = refl
call-agrees to again id later Call.OpenRoot keys ids = refl
call-agrees to again id later (Call.Duplicate key) keys ids = ap Call.Duplicate (keys key refl)
call-agrees to again id later (Call.AttachToken key) keys ids = ap Call.AttachToken (keys key refl)
call-agrees to again id later (Call.Sync key) keys ids = ap Call.Sync (keys key refl)
call-agrees to again id later (Call.Give key client) keys ids = λ i. Call.Give (keys key refl i) client
call-agrees to again id later Call.Collect keys ids = refl
call-agrees to again id later (Call.Bind key) keys ids = ap Call.Bind (keys key refl)
call-agrees to again id later (Call.SetDispensable key) keys ids = ap Call.SetDispensable (keys key refl)
call-agrees to again id later (Call.SetWeak key) keys ids = ap Call.SetWeak (keys key refl)
call-agrees to again id later (Call.SetWeakOk key children) keys ids = λ i. Call.SetWeakOk (keys key refl i) children
call-agrees to again id later (Call.SetConstraints key demand) keys ids = λ i. Call.SetConstraints (keys key refl i) demand
call-agrees to again id later (Call.Check key) keys ids = ap Call.Check (keys key refl)
call-agrees to again id later (Call.Take key) keys ids = ap Call.Take (keys key refl)
call-agrees to again id later (Call.Release key) keys ids = ap Call.Release (keys key refl)
call-agrees to again id later (Call.Close key) keys ids = ap Call.Close (keys key refl)
call-agrees to again id later (Call.DupHandle b strength) keys ids = λ i. Call.DupHandle (record b { collection = ids b refl i }) strength
call-agrees to again id later (Call.DropHandle b strength) keys ids = λ i. Call.DropHandle (record b { collection = ids b refl i }) strength
call-agrees to again id later (Call.GiveHandle b strength client) keys ids =
    λ i. Call.GiveHandle (record b { collection = ids b refl i }) strength client
call-agrees to again id later (Call.TrackNode key) keys ids = ap Call.TrackNode (keys key refl)
call-agrees to again id later (Call.TrackLifetime key most) keys ids = λ i. Call.TrackLifetime (keys key refl i) most
call-agrees to again id later (Call.TrackWeak b) keys ids = λ i. Call.TrackWeak (record b { collection = ids b refl i })

-- The new key is that of no node before.
pub fresh : (s later : State) (client : ℕ) (call : Call) (reply : Reply) (key : NodeKey) → Makes s later (client, call, reply) →
    new_key reply ≡ Some key → given s.forest key ≡ true → ⊥
fresh s later client call reply key makes is old =
    both_ways (given s.forest key) old
    (sym (ap (λ (o : Option NodeKey). option_map_or (given s.forest) o false) is) ∙ makes.answer.is_new)

module _ (to : NodeKey → NodeKey) (id number : ℕ → ℕ) (keeps : KeepsKeys to) (kept : KeepsIds id) (counted : KeepsIds number)
    (s t later again : State) (one other : List Entry) (shows : Shows s one) (shows_too : Shows t other)
    (alike : AreAlikeCores to id number s t) (client : ℕ) (call : Call) (reply told : Reply)
    (none : joined_at (Called client reply call) ≡ None) (old : NamesOld to id s t call) (makes : Makes s later (client, call, reply))
    (makes_too : Makes t again (client, call_renamed to id call, told)) where
  -- the new key, if there is one, becomes that of the other
  abbrev pub keys : NodeKey → NodeKey
  keys = keys_moved to (new_key reply) (new_key told)

  -- the next collection that of the other
  abbrev pub ids : ℕ → ℕ
  ids = number_moved id (s.events + 1) (t.events + 1)

  -- and the next tracker
  abbrev pub numbers : ℕ → ℕ
  numbers = number_moved number (s.events + 1) (t.events + 1)

  -- An old key keeps its name.
  pub old_key : (key : NodeKey) → given s.forest key ≡ true → given t.forest (to key) ≡ true → keys key ≡ to key
  old_key key here there = keys_same to keeps (new_key reply) (new_key told) key
      (λ is. fresh s later client call reply key makes is here)
      (λ is. fresh t again client (call_renamed to id call) told (to key) makes_too is there)

  -- the cores are alike under the new names
  pub alike_again : AreAlikeCores keys ids numbers s t
  alike_again = agree to keys id number kept counted s t one other shows shows_too alike old_key

  -- so the call is the renamed one
  pub same_call : call_renamed keys ids call ≡ call_renamed to id call
  same_call = call-agrees to keys id ids call
      (λ key is. let k = old.nodes key is in old_key key k.0 k.1)
      (λ b is. let k = old.buffers b is in
      ids_agree to keys id number kept counted s t one other shows shows_too alike old_key b.collection k.0 k.1)

  -- The reply is the renamed one, and the call leaves cores that are alike: by what is proved where the names are known.
  pub goes_on_named : (told ≡ reply_renamed keys ids numbers reply) × AreAlikeCores keys ids numbers later again
  goes_on_named = events_alike keys ids numbers (keys_kept to keeps (new_key reply) (new_key told))
      (number_kept id kept (s.events + 1) (t.events + 1)) s t later again one other shows shows_too alike_again
      (number_there id kept (s.events + 1) (t.events + 1)) (number_there number counted (s.events + 1) (t.events + 1)) client call reply
      told none (λ key new is is_too. keys_there to keeps (new_key reply) (new_key told) key new is is_too) makes
      (subst (λ (c : Call). Makes t again (client, c, told)) (sym same_call) makes_too)

  -- So there are such names.
  pub goes_on_alike : GoOn to id number s t later again reply told
  goes_on_alike = record {
    keys = keys;
    ids = ids;
    numbers = numbers;
    keys_apart = keys_kept to keeps (new_key reply) (new_key told);
    ids_apart = number_kept id kept (s.events + 1) (t.events + 1);
    numbers_apart = number_kept number counted (s.events + 1) (t.events + 1);
    old_keys = old_key;
    old_ids = ids_agree to keys id number kept counted s t one other shows shows_too alike old_key;
    old_numbers = numbers_agree to keys id number kept counted s t one other shows shows_too alike old_key;
    same_reply = goes_on_named.0;
    alike = goes_on_named.1;
  }
