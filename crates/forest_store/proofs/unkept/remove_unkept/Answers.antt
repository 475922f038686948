-- One more node is looked at, and is removed or stays.
use Rattle.forest_store.proofs.Common.{◌≡◌, ◌++◌, ◌∷◌, [], sym, subst, ◌∙◌, rules}
use Rattle.forest_store.proofs.tables.Walking.{Walks, Walks-none, Walks-goes, Walks-stays}
use Rattle.forest_store.proofs.unkept.remove_unkept.Goals as goal

pub back-init : goal.back-init
back-init c = record { walks = Walks-none _ _ }

pub back-preserved-then-is_unkept_at : goal.back-preserved-then-is_unkept_at
back-preserved-then-is_unkept_at c =
    let rest : c.back.rest.now ≡ c.in-Some.older.now ++ c.in-Some.key.now ∷ [] = search rules in
    record {
      walks = Walks-goes _ _ _ _ _ _
          (subst (Walks c.args.table.now c.back.table c.args.keys.now) rest c.back.invariant.walks)
          c.take_out.ensures.out (sym c.is_unkept_at.ensures ∙ c.if-is_unkept_at.true);
    }

pub back-preserved : goal.back-preserved
back-preserved c =
    let rest : c.back.rest.now ≡ c.in-Some.older.now ++ c.in-Some.key.now ∷ [] = search rules in
    record {
      walks = Walks-stays _ _ _ _ _
          (subst (Walks c.args.table.now c.back.table c.args.keys.now) rest c.back.invariant.walks)
          (sym c.is_unkept_at.ensures ∙ c.if-is_unkept_at.false);
    }
