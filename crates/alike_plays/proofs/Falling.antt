-- Which nodes fall by an event of cores that are alike.
use Rattle.alike_plays.proofs.Common.{Allocated, Bool, Called, Change, Collection, CountsAlike, Ended, Fault, FellAlike, GoneNode}
use Rattle.alike_plays.proofs.Common.{Handles, Interval, KeepsKeys, List, Loss, Mark, Node, NodeKey, None, Option, SamePages, SettlesBy}
use Rattle.alike_plays.proofs.Common.{Some, [], after_loss, ap, change_renamed, collection_renamed, cond, end_told, fall_renamed}
use Rattle.alike_plays.proofs.Common.{fall_told, falls_at, falls_by, false, fault_fallen, fault_renamed, filter, find, find_alike}
use Rattle.alike_plays.proofs.Common.{flat_map, gone_renamed, is_under, made, map, map-append, member_of, node_renamed, node_undated, not}
use Rattle.alike_plays.proofs.Common.{option_map, own_stage, refl, same_key, some-injective, stages, sym, true, undated, ℕ, ◌&&◌, ◌++◌}
use Rattle.alike_plays.proofs.Common.{◌∙◌, ◌∷◌, ◌≡◌}
use Rattle.sm_names.specs.Forced.{forced}
use Rattle.forest_store.specs.Questions.{is_below}
use Rattle.forest_store.specs.Settling.{standing}
use Rattle.alike_cores.specs.Renamed.{mark_renamed}
use Rattle.alike_cores.proofs.Forcings.{filter_alike, forced-renamed}
use Rattle.alike_cores.proofs.Renamings.{any-renamed, loss-renamed, member-renamed}
use Rattle.alike_cores.proofs.Settlings.{made-renamed, standing-renamed}
use Rattle.alike_cores.proofs.Settling.{forced-others, made-others}

-- ---- by a mark

-- the node is not gone, and is the top one or below it
abbrev ends_with : List Node → NodeKey → Node → Bool
ends_with nodes top n = not n.gone && is_below nodes top n.key

module _ (to : NodeKey → NodeKey) (id : ℕ → ℕ) (keeps : KeepsKeys to) where
  -- It is at or below the top one under the new keys too.
  ends_with-renamed : (nodes : List Node) (top : NodeKey) (n : Node) →
      ends_with (map (node_renamed to id) nodes) (to top) (node_renamed to id n) ≡ ends_with nodes top n
  ends_with-renamed nodes top n = ap (λ (b : Bool). not n.gone && b)
      (ap (is_under (to top)) (member-renamed to id keeps nodes n) ∙ any-renamed to keeps top (n.key ∷ (member_of nodes n).above))

  -- Node by node.
  told-renamed : (f : Node → GoneNode) → ((n : Node) → f (node_renamed to id n) ≡ gone_renamed to (f n)) → (ns : List Node) →
      map f (map (node_renamed to id) ns) ≡ map (gone_renamed to) (map f ns)
  told-renamed f same [] = refl
  told-renamed f same (n ∷ ns) = λ i. same n i ∷ told-renamed f same ns i

  -- By the mark: a loss, an end, or one that takes no node.
  falls-renamed : (mark : Mark) (nodes : List Node) →
      falls_by (mark_renamed to mark) (map (node_renamed to id) nodes) ≡ map (gone_renamed to) (falls_by mark nodes)
  falls-renamed (Loss origin cause) nodes =
      let fault : Fault = record { cause = cause; origin = origin } in
      ap (λ (ns : List Node). map fall_told (filter (λ (n : Node). n.gone) ns)) (loss-renamed to id keeps fault nodes)
      ∙ (ap (map fall_told)
      (filter_alike (λ (n : Node). n.gone) (λ (n : Node). n.gone) (node_renamed to id) (λ n. refl) (after_loss fault nodes))
      ∙ told-renamed fall_told (λ n. refl) (filter (λ (n : Node). n.gone) (after_loss fault nodes)))
  falls-renamed (Ended top) nodes =
      ap (map end_told) (filter_alike (ends_with (map (node_renamed to id) nodes) (to top)) (ends_with nodes top)
      (node_renamed to id) (ends_with-renamed nodes top) nodes)
      ∙ told-renamed end_told (λ n. refl) (filter (ends_with nodes top) nodes)
  falls-renamed (Allocated head) nodes = refl
  falls-renamed (Called client reply call) nodes = refl

-- Under its own names a mark is the same.
mark-own : (mark : Mark) → mark_renamed (λ key. key) mark ≡ mark
mark-own (Loss origin cause) = refl
mark-own (Ended top) = refl
mark-own (Allocated head) = refl
mark-own (Called client reply call) = refl

-- And so are nodes that are gone.
gone-own : (gs : List GoneNode) → map (gone_renamed (λ key. key)) gs ≡ gs
gone-own [] = refl
gone-own (g ∷ gs) = λ i. record { key = g.key; fault = same g.fault i } ∷ gone-own gs i
  where
    -- by cases on the fault
    same : (o : Option Fault) → option_map (fault_renamed (λ key. key)) o ≡ o
    same None = refl
    same (Some f) = refl

-- The number of the event of a birth makes no difference.
falls-undated : (mark : Mark) (nodes : List Node) → falls_by mark (map node_undated nodes) ≡ falls_by mark nodes
falls-undated mark nodes =
    ap (λ (m : Mark). falls_by m (map node_undated nodes)) (sym (mark-own mark))
    ∙ (falls-renamed (λ key. key) (λ i. i) (λ a b. refl) mark nodes ∙ gone-own (falls_by mark nodes))

-- ---- by the marks of an event

module _ (to : NodeKey → NodeKey) (id : ℕ → ℕ) (keeps : KeepsKeys to) where
  -- From collections that are alike.
  falls-alike : (c d : Collection) → collection_renamed to id c ≡ undated d → (mark again : Mark) → again ≡ mark_renamed to mark →
      falls_by again d.nodes ≡ map (gone_renamed to) (falls_by mark c.nodes)
  falls-alike c d same mark again is =
      sym (falls-undated again d.nodes)
      ∙ ((λ i. falls_by (is i) (sym same i).nodes) ∙ falls-renamed to id keeps mark c.nodes)

  module _ (pool : ℕ) (before after : Handles) (counts : CountsAlike id before after) (others beside : List Interval)
      (pages : SamePages others beside) where
    -- The same is forced next.
    forced-alike : (c d : Collection) → collection_renamed to id c ≡ undated d →
        forced pool (standing after beside d) ≡ option_map (mark_renamed to) (forced pool (standing before others c))
    forced-alike c d same =
        sym (own (forced pool (standing after beside d)))
        ∙ (sym (forced-renamed (λ key. key) (λ a b. refl) pool (standing after beside d))
        ∙ (ap (forced pool) (sym (standing-renamed (λ key. key) (λ i. i) (λ a b. refl) after after (λ b strength. refl) beside d))
        ∙ (ap (λ (e : Collection). forced pool (standing after beside e)) (sym same)
        ∙ (sym (forced-others pool after others beside pages (collection_renamed to id c))
        ∙ (ap (forced pool) (standing-renamed to id keeps before after counts others c)
        ∙ forced-renamed to keeps pool (standing before others c))))))
      where
        -- by cases on the mark
        own : (o : Option Mark) → option_map (mark_renamed (λ key. key)) o ≡ o
        own None = refl
        own (Some m) = ap Some (mark-own m)

    -- It makes collections that are alike.
    made-alike : (c d : Collection) → collection_renamed to id c ≡ undated d → (mark again : Mark) → again ≡ mark_renamed to mark →
        collection_renamed to id (made pool others mark c) ≡ undated (made pool beside again d)
    made-alike c d same mark again is =
        sym (made-renamed to id keeps pool others mark c)
        ∙ (made-others pool others beside pages (mark_renamed to mark) (collection_renamed to id c)
        ∙ ((λ i. made pool beside ((sym is ∙ sym (mark-own again)) i) (same i))
        ∙ made-renamed (λ key. key) (λ i. i) (λ a b. refl) pool beside again d))

    -- Mark by mark, until none is forced.
    pub settles-alike : (c d last end : Collection) (marks again : List Mark) → collection_renamed to id c ≡ undated d →
        SettlesBy pool before others c marks last → SettlesBy pool after beside d again end →
        flat_map falls_at (stages pool beside d again) ≡ map (gone_renamed to) (flat_map falls_at (stages pool others c marks))
    settles-alike c d _ _ _ _ same (SettlesBy.Rests _ none) (SettlesBy.Rests _ none_too) = refl
    settles-alike c d _ _ _ _ same (SettlesBy.Rests _ none) (SettlesBy.Forces _ end mark marks some next) =
        let no : Some mark ≡ None = sym some ∙ (forced-alike c d same ∙ ap (option_map (mark_renamed to)) none) in cc
    settles-alike c d _ _ _ _ same (SettlesBy.Forces _ last mark marks some next) (SettlesBy.Rests _ none) =
        let no : None ≡ Some (mark_renamed to mark) = sym none ∙ (forced-alike c d same ∙ ap (option_map (mark_renamed to)) some) in cc
    settles-alike c d _ _ _ _ same (SettlesBy.Forces _ last mark marks some next) (SettlesBy.Forces _ end again more some_too next_too) =
        let is : again ≡ mark_renamed to mark = some-injective again (mark_renamed to mark)
        (sym some_too ∙ (forced-alike c d same ∙ ap (option_map (mark_renamed to)) some)) in
        (λ i. falls-alike c d same mark again is i
        ++ settles-alike (made pool others mark c) (made pool beside again d) last end marks more
        (made-alike c d same mark again is) next next_too i)
        ∙ sym (map-append (gone_renamed to) (falls_by mark c.nodes) (flat_map falls_at (stages pool others (made pool others mark c) marks)))

  -- The mark that the change itself is takes the same nodes.
  pub own-alike : (c d : Collection) → collection_renamed to id c ≡ undated d → (change again : Change) →
      change_renamed (λ key. key) again ≡ change_renamed to change →
      flat_map falls_at (own_stage again d) ≡ map (gone_renamed to) (flat_map falls_at (own_stage change c))
  own-alike c d same change again is = sym (own again d) ∙ (ap (λ (x : Change). flat_map falls_at (own_stage x d)) is ∙ by change)
    where
      -- a change under its own names is the same mark
      own : (x : Change) (e : Collection) →
          flat_map falls_at (own_stage (change_renamed (λ key. key) x) e) ≡ flat_map falls_at (own_stage x e)
      own (Change.Birth parent attached client event) e = refl
      own (Change.Effect key effect) e = refl
      own (Change.Loss origin cause) e = refl
      own Change.Nothing e = refl

      -- by the change: only a loss is a mark
      by : (x : Change) → flat_map falls_at (own_stage (change_renamed to x) d) ≡ map (gone_renamed to) (flat_map falls_at (own_stage x c))
      by (Change.Birth parent attached client event) = refl
      by (Change.Effect key effect) = refl
      by (Change.Loss origin cause) =
          (λ i. falls-alike c d same (Loss origin cause) (Loss (to origin) cause) refl i ++ [])
          ∙ sym (map-append (gone_renamed to) (falls_by (Loss origin cause) c.nodes) [])
      by Change.Nothing = refl

-- ---- what became of nodes that fell

-- what is there first
abbrev pub first_of : {A : Type 0} → Option A → Option A → Option A
first_of (Some x) o = Some x
first_of None o = o

-- By whether it fell among the first.
pub fallen-append : (xs ys : List GoneNode) (key : NodeKey) →
    fault_fallen (xs ++ ys) key ≡ first_of (fault_fallen xs key) (fault_fallen ys key)
fallen-append [] ys key = refl
fallen-append (x ∷ xs) ys key = by (same_key x.key key) (fallen-append xs ys key)
  where
    -- by whether it is this one
    by : (b : Bool) → fault_fallen (xs ++ ys) key ≡ first_of (fault_fallen xs key) (fault_fallen ys key) →
        option_map (λ (f : GoneNode). f.fault) (cond b (Some x) (find (λ (f : GoneNode). same_key f.key key) (xs ++ ys)))
        ≡ first_of (option_map (λ (f : GoneNode). f.fault) (cond b (Some x) (find (λ (f : GoneNode). same_key f.key key) xs)))
        (fault_fallen ys key)
    by true more = refl
    by false more = more

-- What is renamed fell alike.
pub fallen-renamed : (to : NodeKey → NodeKey) → KeepsKeys to → (falls : List GoneNode) → FellAlike to falls (map (gone_renamed to) falls)
fallen-renamed to keeps falls key =
    ap (option_map (λ (f : GoneNode). f.fault))
    (find_alike (λ (f : GoneNode). same_key f.key (to key)) (λ (f : GoneNode). same_key f.key key) (gone_renamed to)
    (λ f. keeps f.key key) falls)
    ∙ from (find (λ (f : GoneNode). same_key f.key key) falls)
  where
    -- by cases on the node
    from : (o : Option GoneNode) → option_map (λ (f : GoneNode). f.fault) (option_map (gone_renamed to) o)
        ≡ option_map (fall_renamed to) (option_map (λ (f : GoneNode). f.fault) o)
    from None = refl
    from (Some f) = refl

-- Those that fell before, and then those that fall now.
pub both-fell : (to : NodeKey → NodeKey) (falls later more again : List GoneNode) → FellAlike to falls later → FellAlike to more again →
    FellAlike to (falls ++ more) (later ++ again)
both-fell to falls later more again one other key =
    fallen-append later again (to key)
    ∙ ((λ i. first_of (one key i) (other key i))
    ∙ (from (fault_fallen falls key) ∙ ap (option_map (fall_renamed to)) (sym (fallen-append falls more key))))
  where
    -- by whether it fell before
    from : (o : Option (Option Fault)) → first_of (option_map (fall_renamed to) o) (option_map (fall_renamed to) (fault_fallen more key))
        ≡ option_map (fall_renamed to) (first_of o (fault_fallen more key))
    from None = refl
    from (Some f) = refl
