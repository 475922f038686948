use Rattle.forest_steps.proofs.Common.{ℕ, ◌≡◌, ◌<◌, ◌≤◌, ◌+◌, ◌∙◌, ◌++◌, ◌∷◌, refl, sym, ap, Bool, true}
use Rattle.forest_steps.proofs.Common.{false, cond, List, length, take, drop, get_or, arith, filter, Interval}
use Rattle.forest_steps.proofs.Common.{total, HeldBuffer, by_page, is_out, pages_held, in_order, rest_of}
use Rattle.std.proofs.lemmas.List.Filters.{length-filter_more}
use Rattle.buffer_pool.proofs.Runs.{in_order-without_run}
use Rattle.forest_steps.proofs.intervals.Placings.{holds_one, kept_here, kept_past, one_returned}
use Rattle.std.proofs.lemmas.Grind.{common_steps}
use Rattle.forest_steps.proofs.returns.return_pages.Goals as goal

pub return_one-out-requires-clause-there : goal.return_one-out-requires-clause-there
return_one-out-requires-clause-there c =
    let i : ℕ = c.loop-buffer.buffer-index in
    let all : List HeldBuffer = c.args.held.now in
    let out : HeldBuffer → Bool = is_out (total c.args.holds.now) c.args.strong_live in
    let d : HeldBuffer = record { buffer = record { collection = 0; index = 0 }; pages = record { start = 0; pages = 0 } } in
    let within : i < length all = omega arith in
    let others : List Interval = c.requires.0 in
    holds_one _ (filter out (take i all)) (drop (i + 1) all) (get_or all i d) others
    (c.loop-buffer.invariant.held others c.requires.1
    ∙ ap (λ l. by_page (pages_held l ++ others)) (kept_here out all i d within))

pub loop-buffer-preserved : goal.loop-buffer-preserved
loop-buffer-preserved c =
    let i : ℕ = c.loop-buffer.buffer-index in
    let all : List HeldBuffer = c.args.held.now in
    let out : HeldBuffer → Bool = is_out (total c.args.holds.now) c.args.strong_live in
    let d : HeldBuffer = record { buffer = record { collection = 0; index = 0 }; pages = record { start = 0; pages = 0 } } in
    let within : i < length all = omega arith in
    record {
      sound = c.return_one-out.ensures.sound;
      size = c.return_one-out.ensures.size ∙ c.loop-buffer.invariant.size;
      run = c.return_one-out.ensures.run;
      held = λ others beside.
          let rest : List Interval = rest_of c.loop-buffer.run c.loop-buffer.pool.held in
          let order : in_order 0 c.loop-buffer.pool.size rest ≡ true =
          in_order-without_run 0 c.loop-buffer.pool.size c.loop-buffer.run.start c.loop-buffer.run.pages c.loop-buffer.run.count
          c.loop-buffer.pool.held c.loop-buffer.invariant.sound.in_order in
          let holds : rest ≡ by_page (pages_held (filter out (take i all) ++ get_or all i d ∷ drop (i + 1) all) ++ others) =
          c.loop-buffer.invariant.held others beside
          ∙ ap (λ l. by_page (pages_held l ++ others)) (kept_here out all i d within) in
          c.return_one-out.ensures.held
          ∙ ((λ j. cond (out (get_or all i d)) (holds j)
          (one_returned c.loop-buffer.pool.size rest (filter out (take i all)) (drop (i + 1) all) (get_or all i d)
          others order holds j))
          ∙ (from (out (get_or all i d)) (filter out (take i all)) (drop (i + 1) all) (get_or all i d) others
          ∙ ap (λ l. by_page (pages_held l ++ others)) (sym (kept_past out all i d within))));
      out = ap (λ n. n + c.return_one-out.result) c.loop-buffer.invariant.out
          ∙ ap (λ n. length (filter out (take i all)) + n) c.return_one-out.ensures.out
          ∙ sym (length-filter_more out all i d within);
      few = omega (arith, c.loop-buffer.invariant.few, c.return_one-out.ensures.out, at_most_one (out (get_or all i d)));
    }
  where
    at_most_one : (b : Bool) → cond b 1 0 ≤ 1
    at_most_one true = omega arith
    at_most_one false = omega arith

    from : (b : Bool) (front rest : List HeldBuffer) (h : HeldBuffer) (others : List Interval) →
        cond b (by_page (pages_held (front ++ h ∷ rest) ++ others)) (by_page (pages_held (front ++ rest) ++ others))
        ≡ by_page (pages_held (cond b (front ++ h ∷ rest) (front ++ rest)) ++ others)
    from true front rest h others = refl
    from false front rest h others = refl

pub returns-clause-held : goal.returns-clause-held
returns-clause-held c = grind (arith, common_steps)

pub returns-clause-out : goal.returns-clause-out
returns-clause-out c = grind (arith, common_steps)
