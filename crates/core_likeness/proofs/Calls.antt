-- What forced marks do not tell is told by the entries alone.
use Rattle.core_likeness.proofs.Common.{Bool, Entry, List, Mark, None, Option, Some, Timeline, [], after, ap, append-nil, arith, cond}
use Rattle.core_likeness.proofs.Common.{cons_option, entry_mark, false, filter_map, is_event, kept-after, list_any, refl, reverse}
use Rattle.core_likeness.proofs.Common.{reverse-append, sym, timeline, times, true, ℕ, ◌++◌, ◌+◌, ◌∙◌, ◌∷◌, ◌≡◌}
use Rattle.std.proofs.Common.{◌||◌}
use Rattle.std.proofs.lemmas.List.{append_assoc}
use Rattle.std.specs.List.{fold}
use Rattle.sm_names.proofs.SamenessLaws.{or_false}

-- Of a list with one more in front.
pub reverse-cons : {A : Type 0} (o : Option A) (xs : List A) → reverse (cons_option o xs) ≡ reverse xs ++ cons_option o []
reverse-cons None xs = sym (append-nil (reverse xs))
reverse-cons (Some x) xs = reverse-append (x ∷ []) xs

module _ {A : Type 0} (f : Mark → Option A) (quiet : (mark : Mark) → is_event mark ≡ false → f mark ≡ None) where
  -- An event tells what its own mark does.
  found-after : (pool : ℕ) (marks : Timeline) (entry : Entry) →
      filter_map f (after pool marks entry) ≡ cons_option (f (entry_mark entry)) (filter_map f marks)
  found-after pool marks entry =
      kept-after (λ m. filter_map f m ≡ cons_option (f (entry_mark entry)) (filter_map f marks))
      (λ m mark no e. ap (λ (o : Option A). cons_option o (filter_map f m)) (quiet mark no) ∙ e) pool marks entry refl

  -- Entry by entry.
  found-fold : (pool : ℕ) (marks : Timeline) (history : List Entry) → reverse (filter_map f (fold (after pool) marks history))
      ≡ reverse (filter_map f marks) ++ filter_map (λ e. f (entry_mark e)) history
  found-fold pool marks [] = sym (append-nil (reverse (filter_map f marks)))
  found-fold pool marks (entry ∷ more) =
      found-fold pool (after pool marks entry) more
      ∙ (ap (λ (l : List A). reverse l ++ filter_map (λ e. f (entry_mark e)) more) (found-after pool marks entry)
      ∙ (ap (λ (l : List A). l ++ filter_map (λ e. f (entry_mark e)) more) (reverse-cons (f (entry_mark entry)) (filter_map f marks))
      ∙ behind (f (entry_mark entry))))
    where
      -- by whether the entry tells something
      behind : (o : Option A) → (reverse (filter_map f marks) ++ cons_option o []) ++ filter_map (λ e. f (entry_mark e)) more
          ≡ reverse (filter_map f marks) ++ cons_option o (filter_map (λ e. f (entry_mark e)) more)
      behind None = append_assoc (reverse (filter_map f marks)) [] (filter_map (λ e. f (entry_mark e)) more)
      behind (Some x) = append_assoc (reverse (filter_map f marks)) (x ∷ []) (filter_map (λ e. f (entry_mark e)) more)

  -- From nothing on.
  pub found : (pool : ℕ) (history : List Entry) →
      reverse (filter_map f (timeline pool history)) ≡ filter_map (λ e. f (entry_mark e)) history
  found pool history = found-fold pool [] history

module _ (p : Mark → Bool) (quiet : (mark : Mark) → is_event mark ≡ false → p mark ≡ false) where
  -- An event counts what its own mark does.
  counted-after : (pool : ℕ) (marks : Timeline) (entry : Entry) → times p (after pool marks entry) ≡ times p (entry_mark entry ∷ marks)
  counted-after pool marks entry =
      kept-after (λ m. times p m ≡ times p (entry_mark entry ∷ marks))
      (λ m mark no e. ap (λ (b : Bool). cond b (times p m + 1) (times p m)) (quiet mark no) ∙ e) pool marks entry refl

  -- Entry by entry.
  counted-fold : (pool : ℕ) (marks : Timeline) (history : List Entry) →
      times p (fold (after pool) marks history) ≡ times (λ e. p (entry_mark e)) history + times p marks
  counted-fold pool marks [] = omega arith
  counted-fold pool marks (entry ∷ more) =
      counted-fold pool (after pool marks entry) more
      ∙ (ap (λ (n : ℕ). times (λ e. p (entry_mark e)) more + n) (counted-after pool marks entry) ∙ here (p (entry_mark entry)))
    where
      -- by whether it passes
      here : (b : Bool) → times (λ e. p (entry_mark e)) more + cond b (times p marks + 1) (times p marks)
          ≡ cond b (times (λ e. p (entry_mark e)) more + 1) (times (λ e. p (entry_mark e)) more) + times p marks
      here true = omega arith
      here false = refl

  -- From nothing on.
  pub counted : (pool : ℕ) (history : List Entry) → times p (timeline pool history) ≡ times (λ e. p (entry_mark e)) history
  counted pool history = counted-fold pool [] history ∙ omega arith

  -- An event passes where its own mark does.
  any-after : (pool : ℕ) (marks : Timeline) (entry : Entry) →
      list_any p (after pool marks entry) ≡ (p (entry_mark entry) || list_any p marks)
  any-after pool marks entry =
      kept-after (λ m. list_any p m ≡ (p (entry_mark entry) || list_any p marks))
      (λ m mark no e. ap (λ (b : Bool). b || list_any p m) (quiet mark no) ∙ e) pool marks entry refl

  -- Entry by entry.
  any-fold : (pool : ℕ) (marks : Timeline) (history : List Entry) →
      list_any p (fold (after pool) marks history) ≡ (list_any (λ e. p (entry_mark e)) history || list_any p marks)
  any-fold pool marks [] = refl
  any-fold pool marks (entry ∷ more) =
      any-fold pool (after pool marks entry) more
      ∙ (ap (λ (b : Bool). list_any (λ e. p (entry_mark e)) more || b) (any-after pool marks entry)
      ∙ turned (list_any (λ e. p (entry_mark e)) more) (p (entry_mark entry)) (list_any p marks))
    where
      -- by the four cases
      turned : (a b c : Bool) → (a || (b || c)) ≡ ((b || a) || c)
      turned true true c = refl
      turned true false c = refl
      turned false true c = refl
      turned false false c = refl

  -- From nothing on.
  pub any : (pool : ℕ) (history : List Entry) → list_any p (timeline pool history) ≡ list_any (λ e. p (entry_mark e)) history
  any pool history = any-fold pool [] history ∙ or_false (list_any (λ e. p (entry_mark e)) history)
