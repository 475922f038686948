use Rattle.std.proofs.Common.{List, [], ◌∷◌, ◌++◌, ◌≡◌, ◌∙◌, ap, refl, sym, subst}
use Rattle.std.specs.List.{All}
use Rattle.std.proofs.lemmas.List.Elements.{All-cons, All-nil}
use Rattle.client_ends.specs.Clients.{Grip, Tag}
use Rattle.test_ends.proofs.tests.vanishing.memory.token_alone.Goals as goal

pub returns : goal.returns
returns g c =
    let Its : Tag → Type 0 = λ t. t.client ≡ c.args.token.client in
    let Own : Grip → Type 0 = λ h. h.client ≡ c.args.token.client in
    let items = c.put.ensures ∙ ap (λ (l : List Tag). l ++ c.args.token ∷ []) c.new-held.ensures.tokens in
    record {
      tokens = subst (All Its) (sym items) (All-cons Its c.args.token [] refl (All-nil Its));
      collections = subst (All Its) (sym c.new-held.ensures.collections) (All-nil Its);
      handles = subst (All Own) (sym c.new-held.ensures.handles) (All-nil Own);
    }
