use Rattle.buffer_holds.proofs.Common.{IsBlank, Part, Some, Sum, ap, false≢true, slice_get, subst, sym, unwrap_or, Option, ◌∙◌, ◌≡◌}
use Rattle.std.proofs.Common.{refl}
use Rattle.buffer_holds.specs.contracts.names.PartPartialEq.TheImpl.{eq-value as derived}
use Rattle.buffer_holds.specs.Sums.{StandsLast}
use Rattle.buffer_holds.proofs.RowLemmas.{stands_read_at}
use Rattle.buffer_holds.proofs.sums.is_last.Goals.{After-unwrap}
use Rattle.buffer_holds.proofs.sums.is_last.Goals as goal

-- the sum that was read stands there
read : (c : After-unwrap) → slice_get c.args.sums.now.entries c.args.place ≡ Some (c.args.part, c.unwrap.result.1.now)
read c =
    stands_read_at derived.it c.args.sums.now c.args.place c.args.part c.requires.0 c.requires.1 c.get_index.result c.get_index.ensures.entry
    c.get_index.ensures.value c.unwrap.result c.unwrap.ensures

-- and no other
same : (c : After-unwrap) (stands : StandsLast c.args.sums.now.entries c.args.place c.args.part) → c.unwrap.result.1.now ≡ stands.0
same c stands = ap (λ (o : Option (Part × Sum)). (unwrap_or o (c.args.part, stands.0)).1) (sym (read c) ∙ stands.1)

pub returns-then-sum-ne1 : goal.returns-then-sum-ne1
returns-then-sum-ne1 c = (
  λ never. cc,
  λ stands. absurd (c.if-sum-ne1.true (ap (λ (s : Sum). s.clients) (same (goal.at.returns-then-sum-ne1 c).After-unwrap stands) ∙ stands.2)),
)

pub returns-then-not-is_blank : goal.returns-then-not-is_blank
returns-then-not-is_blank c = (
  λ never. cc,
  λ stands. absurd (false≢true (c.if-not-is_blank.ensures.1
      (subst IsBlank (ap (λ (s : Sum). s.totals) (sym (same (goal.at.returns-then-not-is_blank c).After-unwrap stands))) stands.3))),
)

pub returns : goal.returns
returns c =
    let at = (goal.at.returns c).After-unwrap in (
      λ is. (c.unwrap.result.1.now, read at, c.if-sum-ne1.false, c.if-not-is_blank.ensures.0 refl, c.is_blank-2.ensures.0 is),
      λ stands. c.is_blank-2.ensures.1 (subst IsBlank (ap (λ (s : Sum). s.moving) (sym (same at stands))) stands.4),
    )
