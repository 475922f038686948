use Rattle.buffer_holds.proofs.Common.{Agrees, Bool, ap, arith, count_in, false, if◌then◌else◌, is_in, is_some, refl, sum_in, true, ℕ}
use Rattle.buffer_holds.proofs.Common.{◌+◌, ◌<◌, ◌∙◌, ◌≡◌, ◌≤◌}
use Rattle.buffer_holds.proofs.Gaining.{agrees_gained, fewer_in, gains_after, room_has_page, same_seen, up_to_alike}
use Rattle.buffer_holds.proofs.Sound.{held-le-total, up_to_after}
use Rattle.buffer_holds.proofs.Written.{page_found}
use Rattle.buffer_holds.proofs.holds.Holds.gain.Goals.{In-Ok, After-open-most}
use Rattle.buffer_holds.proofs.holds.Holds.gain.Goals as goal

-- a cell of the set has fewer than may be
fewer : (c : In-Ok) (at : ℕ) → is_in c.args.first c.args.set at ≡ true →
    count_in (sum_in c.find_places.new.sums.entries c.args.owner.part).totals at < c.self.inside.limit
fewer c at is =
    omega (
      arith,
      fewer_in c.self.inside.limit c.self.inside.places c.self.invariant.0 c.self.view_is c.args.owner c.args.first c.args.set
          c.requires.fewer at (c.requires.there at is) is,
      c.in-Ok.ensures.alike.totals c.args.owner.part at,
    )

pub raise-requires-clause-fits : goal.raise-requires-clause-fits
raise-requires-clause-fits c = λ at is.
    omega (
      arith,
      fewer (goal.at.raise-requires-clause-fits c).In-Ok at is,
      held-le-total c.in-Ok.ensures.agrees c.args.owner at,
      c.self.ranges,
    )

pub open-most-requires-clause-fits : goal.open-most-requires-clause-fits
open-most-requires-clause-fits c = λ at is. omega (arith, fewer (goal.at.open-most-requires-clause-fits c).In-Ok at is, c.self.ranges)

-- pages and sums agree still
agreed : (c : After-open-most) → Agrees c.find_places.new.newest c.raise.new.rows.entries c.open-most.new.sums.entries
agreed c =
    agrees_gained c.self.invariant.0 c.in-Ok.ensures.alike c.in-Ok.ensures.agrees c.args.owner c.args.first c.args.set
    c.raise.ensures.raised c.open-most.ensures.opened (ap is_some (page_found c.find_places.new.rows c.find_places.new.rows
    c.args.owner c.in-Ok.places.row c.in-Ok.ensures.row.0 c.in-Ok.ensures.row.1 c.in-Ok.ensures.agrees.rows_distinct))

pub invariant_of-self-2 : goal.invariant_of-self-2
invariant_of-self-2 c =
    let at = goal.at.invariant_of-self-2 c in (
      agreed at.After-open-most,
      up_to_after c.args.owner c.raise.ensures.raised c.open-most.ensures.opened c.self.inside.most c.max-self-inside.result
          (up_to_alike c.self.inside.most c.in-Ok.ensures.alike c.self.invariant.1) (omega (arith, c.max-self-inside.ensures))
          (λ n. by n (is_in c.args.first c.args.set n) refl),
      omega (
        arith,
        c.max-self-inside.ensures,
        c.self.invariant.2,
        c.open-most.ensures.least c.self.inside.limit (λ n is. omega (
          arith,
          fewer at.In-Ok n is,
        )),
      ),
      omega (arith, c.in-Ok.ensures.free c.self.invariant.3, c.raise.ensures.room),
      c.in-Ok.ensures.spared c.self.invariant.4,
      c.in-Ok.ensures.blank,
    )
  where
    by : (n : ℕ) (b : Bool) → is_in c.args.first c.args.set n ≡ b →
        count_in (sum_in c.find_places.new.sums.entries c.args.owner.part).totals n + (if b then 1 else 0) ≤ c.max-self-inside.result
    by n true is = omega (arith, c.max-self-inside.ensures, c.open-most.ensures.most n is)
    by n false is =
        omega (arith, c.max-self-inside.ensures, up_to_alike c.self.inside.most c.in-Ok.ensures.alike c.self.invariant.1 c.args.owner.part n)

pub invariant_of-self : goal.invariant_of-self
invariant_of-self c = (
  c.in_default.ensures.agrees,
  up_to_alike c.self.inside.most c.in_default.ensures.alike c.self.invariant.1,
  c.self.invariant.2,
  c.in_default.ensures.free c.self.invariant.3,
  c.in_default.ensures.spared c.self.invariant.4,
  c.in_default.ensures.blank,
)

pub returns-clause-gained : goal.returns-clause-gained
returns-clause-gained c =
    gains_after c.self.invariant.0 c.in-Ok.ensures.alike c.in-Ok.ensures.agrees c.args.owner c.args.first c.args.set
    c.raise.ensures.raised c.open-most.ensures.opened c.self.inside.limit c.self.inside.places c.args.self.now c.self.view_is
    (agreed (goal.at.returns-clause-gained c).After-open-most)

-- the counts are as they were
pub returns-in_default-clause-err : goal.returns-in_default-clause-err
returns-in_default-clause-err c =
    same_seen c.self.inside.limit c.self.inside.places c.in_default.ensures.err_rows c.in_default.ensures.err_sums ∙ c.self.view_is

-- an owner with room has a page
pub returns-in_default-clause-room : goal.returns-in_default-clause-room
returns-in_default-clause-room c = λ b s mine room.
    c.in_default.ensures.room (room_has_page c.self.inside.limit c.self.inside.places c.self.invariant.0 c.self.view_is c.args.owner b s mine
    room)
