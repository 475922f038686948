use Rattle.event_facts.proofs.Common.{List, NodeKey, [], ap, if◌then◌else◌, same_key, sym, values_at, ◌++◌, ◌∙◌, ◌∷◌, ◌≡◌}
use Rattle.std.proofs.Common.{append-nil, inl, inr}
use Rattle.std.proofs.lemmas.Result.{on_ok_weaker}
use Rattle.sm_names.proofs.SamenessLaws.{either_way, same_key-true}
use Rattle.event_facts.proofs.key_maps.KeyRows.add.Goals as goal

-- one more in this row, where the others stay
grown : {V : Type 0} (key other : NodeKey) (value : V) (old mid new : NodeKey → List V) (cut put : List V) →
    cut ≡ old key → ((q : NodeKey) → mid q ≡ (if same_key key q then [] else old q)) → put ≡ cut ++ value ∷ [] →
    new other ≡ (if same_key key other then put else mid other) →
    new other ≡ old other ++ (if same_key key other then value ∷ [] else [])
grown key other value old mid new cut put row others pushed is =
    elim (either_way (same_key key other)) [
      | inl same ↦
          let one : key ≡ other = same_key-true key other same in
          (rw same at is)
          ∙ (pushed ∙ (ap (λ (front : List _). front ++ value ∷ []) (row ∙ ap old one)
          ∙ ap (λ t. old other ++ (if t then value ∷ [] else [])) (sym same)))
      | inr apart ↦
          (rw apart at is)
          ∙ ((rw apart at (others other)) ∙ (sym (append-nil (old other))
          ∙ ap (λ t. old other ++ (if t then value ∷ [] else [])) (sym apart)))
    ]

-- the row without the value is taken out, and put back with it
pub returns : goal.returns
returns g c = on_ok_weaker c.put.result
    (λ is other. grown c.args.key other c.args.value (values_at c.args.self.now) (values_at c.cut-row.new.self) (values_at c.put.new.self)
    c.cut-row.result.items c.push.new.self.items c.cut-row.ensures.row c.cut-row.ensures.others c.in_ok-push.ensures.items (is other))
    c.put.ensures
