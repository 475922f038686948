-- Histories that go on by several entries, one call after another.
use Rattle.core_state.proofs.Common.{Call, Entry, GoesOn, List, Reply, Shows, State, [], ap, append-nil, append_assoc, arith, entries}
use Rattle.core_state.proofs.Common.{get_or, length, refl, subst, sym, ℕ, ◌++◌, ◌<◌, ◌∙◌, ◌∷◌, ◌≡◌}

-- a state advances by no entries to itself
pub goes_nowhere : (s : State) → GoesOn s s []
goes_nowhere s history shows = subst (Shows s) (sym (append-nil history)) shows

-- if one state advances to the next and that to a third, the first advances to the third by all entries
pub goes_far : (old mid new : State) (first then : List Entry) → GoesOn old mid first → GoesOn mid new then → GoesOn old new (first ++ then)
goes_far old mid new first then one two history shows =
    subst (Shows new) (append_assoc history first then) (two (history ++ first) (one history shows))

-- ---- calls with their replies

-- without replies there are no entries
pub entries-none : (calls : List (ℕ × Call)) → entries calls [] ≡ []
entries-none [] = refl
entries-none (c ∷ cs) = refl

-- one more reply is that to the next call
pub entries-push : (calls : List (ℕ × Call)) (replies : List Reply) (reply : Reply) (d : ℕ × Call) → length replies < length calls →
    entries calls (replies ++ reply ∷ []) ≡ entries calls
    replies ++ ((get_or calls (length replies) d).0, (get_or calls (length replies) d).1, reply) ∷ []
entries-push [] replies reply d less = absurd (omega arith)
entries-push (c ∷ cs) [] reply d less = ap (λ (es : List Entry). (c.0, c.1, reply) ∷ es) (entries-none cs)
entries-push (c ∷ cs) (r ∷ rs) reply d less =
    let on : length rs < length cs = omega arith in ap (λ (es : List Entry). (c.0, c.1, r) ∷ es) (entries-push cs rs reply d on)

-- before the first reply
pub goes_none : (s : State) (calls : List (ℕ × Call)) (replies : List Reply) → replies ≡ [] → GoesOn s s (entries calls replies)
goes_none s calls replies none = subst (GoesOn s s) (sym (ap (entries calls) none ∙ entries-none calls)) (goes_nowhere s)

-- and after one more
pub goes_more : (old mid new : State) (calls : List (ℕ × Call)) (replies : List Reply) (reply : Reply) (d : ℕ × Call) →
    length replies < length calls →
    GoesOn old mid (entries calls replies) →
    GoesOn mid new (((get_or calls (length replies) d).0, (get_or calls (length replies) d).1, reply) ∷ []) →
    GoesOn old new (entries calls (replies ++ reply ∷ []))
goes_more old mid new calls replies reply d less before next =
    subst (GoesOn old new) (sym (entries-push calls replies reply d less))
    (goes_far old mid new (entries calls replies) (((get_or calls (length replies) d).0, (get_or calls (length replies) d).1, reply) ∷ [])
    before next)
