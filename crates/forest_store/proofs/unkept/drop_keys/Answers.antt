-- One key more is looked at, and dropped or not.
use Rattle.forest_store.proofs.Common.{◌≡◌, ◌∷◌, [], List, not, sym, ◌∙◌, ap, filter, NodeKey, same_key}
use Rattle.forest_store.proofs.Common.{rules, filter-In, is_left_by, are_apart, nil_from_length}
use Rattle.forest_store.proofs.leaving.OnlyNoted.{left_dropped, left_none, left_on}
use Rattle.forest_store.proofs.leaving.Thinning.{apart-filter}
use Rattle.forest_store.proofs.unkept.drop_keys.Goals as goal

pub dropping-preserved-then-is_unkept_at : goal.dropping-preserved-then-is_unkept_at
dropping-preserved-then-is_unkept_at c =
    let t = c.args.table.now in
    let key : NodeKey = c.in-Some.key.now in
    let rest : c.dropping.rest.now ≡ key ∷ c.in-Some.later.now = search rules in
    record {
      apart = ap are_apart c.drop_key.ensures
          ∙ apart-filter (λ other. not (same_key key other)) c.dropping.keys.items c.dropping.invariant.apart;
      left = ap (filter (is_left_by t c.in-Some.later.now)) c.drop_key.ensures
          ∙ left_dropped t _ _ (sym c.is_unkept_at.ensures ∙ c.if-is_unkept_at.true) _
          ∙ (ap (λ (ks : List NodeKey). filter (is_left_by t ks) c.dropping.keys.items) (sym rest) ∙ c.dropping.invariant.left);
    }

pub dropping-preserved : goal.dropping-preserved
dropping-preserved c =
    let t = c.args.table.now in
    let key : NodeKey = c.in-Some.key.now in
    let rest : c.dropping.rest.now ≡ key ∷ c.in-Some.later.now = search rules in
    record {
      apart = c.dropping.invariant.apart;
      left = filter-In (is_left_by t c.in-Some.later.now) (is_left_by t (key ∷ c.in-Some.later.now)) c.dropping.keys.items
          (λ k on. sym (left_on t _ c.in-Some.later.now (sym c.is_unkept_at.ensures ∙ c.if-is_unkept_at.false) k))
          ∙ (ap (λ (ks : List NodeKey). filter (is_left_by t ks) c.dropping.keys.items) (sym rest) ∙ c.dropping.invariant.left);
    }

pub returns : goal.returns
returns c =
    let rest : c.dropping.rest.now ≡ [] = nil_from_length _ c.in_default.ensures.cases in
    sym (left_none c.args.table.now _)
    ∙ (ap (λ (ks : List NodeKey). filter (is_left_by c.args.table.now ks) c.dropping.keys.items) (sym rest) ∙ c.dropping.invariant.left)
