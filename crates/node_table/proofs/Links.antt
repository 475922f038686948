-- What each change does to the links of all nodes.
use Rattle.node_table.proofs.Common.{Contains, IsLinked, List, NodeKey, None, Option, Some, [], ap, arith, inl, inr, refl, subst, suc}
use Rattle.node_table.proofs.Common.{sym, ℕ, ◌++◌, ◌<◌, ◌∙◌, ◌∷◌, ◌≡◌, ◌≢◌, ◌⊎◌}
use Rattle.node_table.proofs.Keys.{key_cases}
use Rattle.node_table.proofs.Parents.{parent_cases}
use Rattle.node_table.proofs.Lists.{AllDiffer, without, AllDiffer-push, AllDiffer-without, Contains-last, Contains-before_last}
use Rattle.node_table.proofs.Lists.{Contains-but_last, Contains-without, without_lacks, without_keeps, without_stranger}

module _ (up : NodeKey → Option NodeKey) (down : NodeKey → List NodeKey) (up2 : NodeKey → Option NodeKey) (down2 : NodeKey →
    List NodeKey) (old : IsLinked up down) where
  -- the same links stay linked
  pub IsLinked-same : ((key : NodeKey) → up2 key ≡ up key) → ((key : NodeKey) → down2 key ≡ down key) → IsLinked up2 down2
  IsLinked-same ups downs =
      record {
        linked = λ parent key. (
          λ above. subst (λ keys. Contains keys key) (sym (downs parent)) ((old.linked parent key).0 (sym (ups key) ∙ above)),
          λ there. ups key ∙ (old.linked parent key).1 (subst (λ keys. Contains keys key) (downs parent) there),
        );
        once = λ key. subst AllDiffer (sym (downs key)) (old.once key);
        rank = old.rank;
        ranked = λ parent key above. old.ranked parent key (sym (ups key) ∙ above);
      }

  -- a key is taken out of its parent's children
  pub IsLinked-cut : (key : NodeKey)
      → up2 key ≡ None
      → ((other : NodeKey) → other ≢ key → up2 other ≡ up other)
      → ((parent : NodeKey) → (up key ≡ Some parent) → down2 parent ≡ without key (down parent))
      → ((parent : NodeKey) → (up key ≢ Some parent) → down2 parent ≡ down parent)
      → IsLinked up2 down2
  IsLinked-cut key loose ups losing keeping =
      record {
        linked = λ parent other. (climb parent other, descend parent other);
        once = λ parent. subst AllDiffer (sym (downs parent)) (AllDiffer-without key (down parent) (old.once parent));
        rank = old.rank;
        ranked = λ parent other above. old.ranked parent other (kept parent other above);
      }
    where
      downs : (parent : NodeKey) → down2 parent ≡ without key (down parent)
      downs parent =
          elim (parent_cases (up key) parent) [
            | inl above ↦ losing parent above
            | inr other ↦ keeping parent other ∙ sym (without_stranger key (down parent) (λ there. other ((old.linked parent key).1 there)))
          ]

      other_than_key : (parent other : NodeKey) → up2 other ≡ Some parent → other ≢ key
      other_than_key parent other above same = let none : up2 other ≡ None = subst (λ k. up2 k ≡ None) (sym same) loose in absurd (cc)

      kept : (parent other : NodeKey) → up2 other ≡ Some parent → up other ≡ Some parent
      kept parent other above = sym (ups other (other_than_key parent other above)) ∙ above

      climb : (parent other : NodeKey) → up2 other ≡ Some parent → Contains (down2 parent) other
      climb parent other above =
          subst (λ keys. Contains keys other) (sym (downs parent))
          (without_keeps key other (down parent) (other_than_key parent other above)
          ((old.linked parent other).0 (kept parent other above)))

      descend : (parent other : NodeKey) → Contains (down2 parent) other → up2 other ≡ Some parent
      descend parent other there =
          let left : Contains (without key (down parent)) other = subst (λ keys. Contains keys other) (downs parent) there in
          elim (key_cases other key) [
            | inl same ↦ absurd (without_lacks key (down parent) (subst (λ k. Contains (without key (down parent)) k) same left))
            | inr differ ↦ ups other differ ∙ (old.linked parent other).1 (Contains-without key other (down parent) left)
          ]

  -- a key that had no links is born below a parent, or as a root
  pub IsLinked-birth : (parent : Option NodeKey) (key : NodeKey)
      → up key ≡ None
      → down key ≡ []
      → parent ≢ Some key
      → up2 key ≡ parent
      → down2 key ≡ []
      → ((other : NodeKey) → other ≢ key → up2 other ≡ up other)
      → ((above : NodeKey) → (parent ≡ Some above) → down2 above ≡ down above ++ key ∷ [])
      → ((above : NodeKey) → above ≢ key → (parent ≢ Some above) → down2 above ≡ down above)
      → IsLinked up2 down2
  IsLinked-birth parent key rootless childless stranger born bare ups gaining keeping =
      record {
        linked = λ above other. (climb above other, descend above other);
        once = differ;
        rank = ranks;
        ranked = lower;
      }
    where
      no_child_of_key : (other : NodeKey) → Contains (down key) other → ⊥
      no_child_of_key other there =
          let none : Contains [] other = subst (λ keys. Contains keys other) childless there in absurd (omega (arith, none.1))

      key_is_no_child : (above : NodeKey) → Contains (down above) key → ⊥
      key_is_no_child above there = let has : up key ≡ Some above = (old.linked above key).1 there in absurd (cc)

      climb : (above other : NodeKey) → up2 other ≡ Some above → Contains (down2 above) other
      climb above other has =
          elim (key_cases other key) [
            | inl same ↦
                let here : parent ≡ Some above = sym born ∙ subst (λ k. up2 k ≡ Some above) same has in
                subst (λ keys. Contains keys other) (sym (gaining above here)) (subst (λ k. Contains (down above ++ key ∷ []) k) (sym same)
                (Contains-last (down above) key))
            | inr differ ↦
                let was : Contains (down above) other = (old.linked above other).0 (sym (ups other differ) ∙ has) in
                elim (parent_cases parent above) [
                  | inl here ↦
                      subst (λ keys. Contains keys other) (sym (gaining above here)) (Contains-before_last (down above) key other was)
                  | inr away ↦ elim (key_cases above key) [
                    | inl same ↦ absurd (no_child_of_key other (subst (λ k. Contains (down k) other) same was))
                    | inr apart ↦ subst (λ keys. Contains keys other) (sym (keeping above apart away)) was
                  ]
                ]
          ]

      descend : (above other : NodeKey) → Contains (down2 above) other → up2 other ≡ Some above
      descend above other there =
          elim (key_cases above key) [
            | inl same ↦
                let none : Contains [] other =
                subst (λ keys. Contains keys other) bare (subst (λ k. Contains (down2 k) other) same there) in
                absurd (omega (arith, none.1))
            | inr apart ↦ elim (parent_cases parent above) [
              | inl here ↦
                  let left : Contains (down above ++ key ∷ []) other = subst (λ keys. Contains keys other) (gaining above here) there in
                  elim (key_cases other key) [
                    | inl same ↦ ap up2 same ∙ born ∙ here
                    | inr differ ↦ ups other differ ∙ (old.linked above other).1 (Contains-but_last (down above) key other differ left)
                  ]
              | inr away ↦
                  let left : Contains (down above) other = subst (λ keys. Contains keys other) (keeping above apart away) there in
                  elim (key_cases other key) [
                    | inl same ↦ absurd (key_is_no_child above (subst (λ k. Contains (down above) k) same left))
                    | inr differ ↦ ups other differ ∙ (old.linked above other).1 left
                  ]
            ]
          ]

      differ : (above : NodeKey) → AllDiffer (down2 above)
      differ above =
          elim (key_cases above key) [
            | inl same ↦ subst AllDiffer (sym (ap down2 same ∙ bare ∙ sym childless)) (old.once key)
            | inr apart ↦ elim (parent_cases parent above) [
              | inl here ↦
                  subst AllDiffer (sym (gaining above here)) (AllDiffer-push (down above) key (key_is_no_child above) (old.once above))
              | inr away ↦ subst AllDiffer (sym (keeping above apart away)) (old.once above)
            ]
          ]

      -- the new key ranks below its parent
      rank_below : Option NodeKey → ℕ
      rank_below None = 0
      rank_below (Some above) = suc (old.rank above)

      rank_by : (k : NodeKey) → ((k ≡ key) ⊎ (k ≢ key)) → ℕ
      rank_by k (inl same) = rank_below parent
      rank_by k (inr differ) = old.rank k

      ranks : NodeKey → ℕ
      ranks k = rank_by k (key_cases k key)

      ranks-other : (k : NodeKey) → k ≢ key → ranks k ≡ old.rank k
      ranks-other k differ = by_case (key_cases k key)
        where
          by_case : (c : (k ≡ key) ⊎ (k ≢ key)) → rank_by k c ≡ old.rank k
          by_case (inl same) = absurd (differ same)
          by_case (inr apart) = refl

      ranks-key : ranks key ≡ rank_below parent
      ranks-key = by_case (key_cases key key)
        where
          by_case : (c : (key ≡ key) ⊎ (key ≢ key)) → rank_by key c ≡ rank_below parent
          by_case (inl same) = refl
          by_case (inr apart) = absurd (apart refl)

      lower : (above other : NodeKey) → up2 other ≡ Some above → ranks above < ranks other
      lower above other has =
          elim (key_cases other key) [
            | inl same ↦
                let here : parent ≡ Some above = sym born ∙ subst (λ k. up2 k ≡ Some above) same has in
                let apart : above ≢ key = λ e. stranger (here ∙ ap Some e) in
                let high : ranks above ≡ old.rank above = ranks-other above apart in
                let low : ranks other ≡ suc (old.rank above) = ap ranks same ∙ ranks-key ∙ ap rank_below here in
                omega arith
            | inr differ ↦
                let was : up other ≡ Some above = sym (ups other differ) ∙ has in
                let apart : above ≢ key =
                λ e. no_child_of_key other (subst (λ k. Contains (down k) other) e ((old.linked above other).0 was)) in
                let high : ranks above ≡ old.rank above = ranks-other above apart in
                let low : ranks other ≡ old.rank other = ranks-other other differ in
                let below : old.rank above < old.rank other = old.ranked above other was in
                omega arith
          ]
