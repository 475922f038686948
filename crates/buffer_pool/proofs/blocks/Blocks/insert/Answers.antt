-- The interval comes into its block, into a half of it, or into one of its own.
use Rattle.buffer_pool.proofs.Common.{FULL, HALF, Interval, List, [], all_in, ap, arith, common_steps, get_or, get_or_read, insert}
use Rattle.buffer_pool.proofs.Common.{length, length-drop, length-insert, length-set, length-take-le, take, take-set, take-set-le, ◌*◌}
use Rattle.buffer_pool.proofs.Common.{◌+◌, ◌-◌, ◌<◌, ◌∙◌, ◌∷◌, ◌≡◌, ◌≤◌}
use Rattle.buffer_pool.proofs.Joins.{insert_in, begin_in, before-next, take-insert, IsCut, is_cut}
use Rattle.buffer_pool.proofs.blocks.Blocks.insert.Goals.{After-len-else-spot-len, After-cut}
use Rattle.buffer_pool.proofs.blocks.Blocks.insert.Goals as goal

there : (c : After-len-else-spot-len) → c.args.spot.block < length c.args.self.now.lists
there c =
    let within = rw (← c.self.view_is) at c.requires.within in
    rw (← c.self.view_is) (omega (arith, within.0, c.if-spot-len.false, c.len.ensures, c.self.inside.used.ok.0))

size : (c : After-len-else-spot-len) → c.len-else-spot-len.result ≡ length (get_or c.args.self.now.lists c.args.spot.block [])
size c =
    let lt = rw (← c.self.view_is) at (there c) in
    rw (← c.self.view_is)
    (c.len-else-spot-len.ensures.count
    ∙ ap length (get_or_read c.self.inside.used.items c.args.spot.block c.index.result.now lt c.index.ensures []))

cut : (c : After-cut) → IsCut c.args.self.now.lists c.args.spot.block c.cut.new.self.lists
cut c = is_cut c.args.self.now.lists c.args.spot.block c.cut.new.self.lists (there (goal.at.After-cut c).After-len-else-spot-len)
    c.cut.ensures.lists

full : (c : After-cut) → length (get_or c.args.self.now.lists c.args.spot.block []) ≡ FULL
full c =
    let m = (goal.at.After-cut c).After-len-else-spot-len in
    omega (arith, size m, c.len-else-spot-len.ensures.few, c.if-len-lt-FULL.false)

-- the lengths of the halves
first : (c : After-cut) → length (get_or c.cut.new.self.lists c.args.spot.block []) ≡ HALF
first c = ap length (cut c).here ∙ length-take-le HALF (get_or c.args.self.now.lists c.args.spot.block []) (omega (arith, full c))

second : (c : After-cut) → length (get_or c.cut.new.self.lists (c.args.spot.block + 1) []) ≡ HALF
second c =
    let long = full c in
    let is = ap length (cut c).next in
    omega (arith, length-drop HALF (get_or c.args.self.now.lists c.args.spot.block []))

pub put-requires-then-spot-le-HALF-clause-within : goal.put-requires-then-spot-le-HALF-clause-within
put-requires-then-spot-le-HALF-clause-within c =
    omega (arith, first (goal.at.put-requires-then-spot-le-HALF-clause-within c).After-cut, c.if-spot-le-HALF.true)

pub put-requires-then-spot-le-HALF-clause-room : goal.put-requires-then-spot-le-HALF-clause-room
put-requires-then-spot-le-HALF-clause-room c = omega (arith, first (goal.at.put-requires-then-spot-le-HALF-clause-room c).After-cut)

pub put-requires-else-spot-le-HALF-clause-within : goal.put-requires-else-spot-le-HALF-clause-within
put-requires-else-spot-le-HALF-clause-within c =
    let m = (goal.at.put-requires-else-spot-le-HALF-clause-within c).After-cut in
    omega (arith, second m, full m, c.requires.within.1)

pub put-requires-else-spot-le-HALF-clause-room : goal.put-requires-else-spot-le-HALF-clause-room
put-requires-else-spot-le-HALF-clause-room c = omega (arith, second (goal.at.put-requires-else-spot-le-HALF-clause-room c).After-cut)

pub returns-then-len-lt-FULL : goal.returns-then-len-lt-FULL
returns-then-len-lt-FULL c =
    let lt = there (goal.at.returns-then-len-lt-FULL c).After-len-else-spot-len in
    let B : List Interval = get_or c.args.self.now.lists c.args.spot.block [] in
    let same = ap length c.put.ensures.lists
    ∙ length-set c.args.self.now.lists c.args.spot.block (insert B c.args.spot.offset c.args.new) in
    let all : length c.put.new.self.lists + c.put.new.self.spares ≡ length c.args.self.now.lists + c.args.self.now.spares =
    omega (arith, c.put.ensures.spares) in
    record {
      items_are = ap all_in c.put.ensures.lists
          ∙ insert_in c.args.self.now.lists c.args.spot.block c.args.spot.offset c.args.new lt c.requires.within.1;
      front = ap (take c.args.spot.block) c.put.ensures.lists
          ∙ take-set c.args.self.now.lists c.args.spot.block (insert B c.args.spot.offset c.args.new);
      capacity = ap (λ n. (n - 1) * HALF) all;
    }

pub returns-then-spot-eq-FULL : goal.returns-then-spot-eq-FULL
returns-then-spot-eq-FULL c =
    let m = (goal.at.returns-then-spot-eq-FULL c).After-len-else-spot-len in
    let lt = there m in
    let le : c.args.spot.block + 1 ≤ length c.args.self.now.lists = omega (arith, lt) in
    let more = ap length c.begin-then-spot-eq-FULL.ensures.lists
    ∙ length-insert c.args.self.now.lists (c.args.spot.block + 1) (c.args.new ∷ []) le in
    let all : length c.begin-then-spot-eq-FULL.new.self.lists + c.begin-then-spot-eq-FULL.new.self.spares
    ≡ length c.args.self.now.lists + c.args.self.now.spares = omega (arith, c.begin-then-spot-eq-FULL.ensures.spares) in
    let place : length (all_in (take (c.args.spot.block + 1) c.args.self.now.lists))
    ≡ length (all_in (take c.args.spot.block c.args.self.now.lists)) + c.args.spot.offset =
    omega (
      arith,
      before-next c.args.self.now.lists c.args.spot.block lt,
      size m,
      c.len-else-spot-len.ensures.few,
      c.if-len-lt-FULL.false,
      c.if-spot-eq-FULL.true,
    ) in
    record {
      items_are = ap all_in c.begin-then-spot-eq-FULL.ensures.lists
          ∙ begin_in c.args.self.now.lists (c.args.spot.block + 1) c.args.new le
          ∙ ap (λ n. insert (all_in c.args.self.now.lists) n c.args.new) place;
      front = ap (take c.args.spot.block) c.begin-then-spot-eq-FULL.ensures.lists
          ∙ take-insert c.args.self.now.lists (c.args.spot.block + 1) c.args.spot.block (c.args.new ∷ []) (omega arith) le;
      capacity = ap (λ n. (n - 1) * HALF) all;
    }

pub returns-then-spot-le-HALF : goal.returns-then-spot-le-HALF
returns-then-spot-le-HALF c =
    let m = (goal.at.returns-then-spot-le-HALF c).After-cut in
    let k = cut m in
    let lt = there (goal.at.returns-then-spot-le-HALF c).After-len-else-spot-len in
    let M : List (List Interval) = c.cut.new.self.lists in
    let X : List Interval = insert (get_or M c.args.spot.block []) c.args.spot.offset c.args.new in
    let same = ap length c.put-then-spot-le-HALF.ensures.lists ∙ length-set M c.args.spot.block X in
    let all : length c.put-then-spot-le-HALF.new.self.lists + c.put-then-spot-le-HALF.new.self.spares
    ≡ length c.args.self.now.lists + c.args.self.now.spares =
    omega (arith, c.put-then-spot-le-HALF.ensures.spares, c.cut.ensures.spares, k.count) in
    record {
      items_are = ap all_in c.put-then-spot-le-HALF.ensures.lists
          ∙ insert_in M c.args.spot.block c.args.spot.offset c.args.new (omega (arith, lt, k.count))
          (omega (arith, first m, c.if-spot-le-HALF.true))
          ∙ (λ i. insert (k.all i) (length (all_in (k.front i)) + c.args.spot.offset) c.args.new);
      front = ap (take c.args.spot.block) c.put-then-spot-le-HALF.ensures.lists ∙ take-set M c.args.spot.block X ∙ k.front;
      capacity = ap (λ n. (n - 1) * HALF) all;
    }

pub returns-else-spot-le-HALF : goal.returns-else-spot-le-HALF
returns-else-spot-le-HALF c =
    let m = (goal.at.returns-else-spot-le-HALF c).After-cut in
    let k = cut m in
    let lt = there (goal.at.returns-else-spot-le-HALF c).After-len-else-spot-len in
    let M : List (List Interval) = c.cut.new.self.lists in
    let X : List Interval = insert (get_or M (c.args.spot.block + 1) []) (c.args.spot.offset - HALF) c.args.new in
    let same = ap length c.put-else-spot-le-HALF.ensures.lists ∙ length-set M (c.args.spot.block + 1) X in
    let all : length c.put-else-spot-le-HALF.new.self.lists + c.put-else-spot-le-HALF.new.self.spares
    ≡ length c.args.self.now.lists + c.args.self.now.spares =
    omega (arith, c.put-else-spot-le-HALF.ensures.spares, c.cut.ensures.spares, k.count) in
    let half = length-take-le HALF (get_or c.args.self.now.lists c.args.spot.block []) (omega (arith, full m)) in
    let place : length (all_in (take (c.args.spot.block + 1) M)) + (c.args.spot.offset - HALF)
    ≡ length (all_in (take c.args.spot.block c.args.self.now.lists)) + c.args.spot.offset =
    omega (arith, k.before, half, c.if-spot-le-HALF.false) in
    record {
      items_are = ap all_in c.put-else-spot-le-HALF.ensures.lists
          ∙ insert_in M (c.args.spot.block + 1) (c.args.spot.offset - HALF) c.args.new (omega (arith, lt, k.count))
          (omega (arith, second m, full m, c.requires.within.1))
          ∙ (λ i. insert (k.all i) (place i) c.args.new);
      front = ap (take c.args.spot.block) c.put-else-spot-le-HALF.ensures.lists
          ∙ take-set-le c.args.spot.block M (c.args.spot.block + 1) X (omega arith) ∙ k.front;
      capacity = ap (λ n. (n - 1) * HALF) all;
    }

-- by arithmetic and the usual steps
pub put-requires-clause-room : goal.put-requires-clause-room
put-requires-clause-room c = grind (arith, common_steps)

pub cut-requires-clause-full : goal.cut-requires-clause-full
cut-requires-clause-full c = grind (arith, common_steps)

pub put-requires-then-spot-le-HALF-clause-there : goal.put-requires-then-spot-le-HALF-clause-there
put-requires-then-spot-le-HALF-clause-there c = grind (arith, common_steps)

pub put-requires-else-spot-le-HALF-clause-there : goal.put-requires-else-spot-le-HALF-clause-there
put-requires-else-spot-le-HALF-clause-there c = grind (arith, common_steps)

pub returns-then-spot-len : goal.returns-then-spot-len
returns-then-spot-len c = grind (arith, common_steps)
