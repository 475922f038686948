use Rattle.forced_marks.proofs.Common.{Buffers, Collection, HeldBuffer, IfSome, Interval, List, Option, Some, [], after_allocation, ap}
use Rattle.forced_marks.proofs.Common.{arith, asked, collection_of, common_steps, given_buffers, laid, length, map, members_of, names}
use Rattle.forced_marks.proofs.Common.{option_map_or, pages_in, pages_of, places, rules, subst, sym, with_items, ℕ, ◌++◌, ◌∙◌, ◌≡◌}
use Rattle.std.proofs.Common.{option_map}
use Rattle.sm_names.specs.Timelines.{laid_out, layout}
use Rattle.forest_steps.proofs.intervals.Placings.{scene_laid}
use Rattle.forced_marks.proofs.InPlace.{written}
use Rattle.forced_marks.proofs.forced_steps.allocate_root.Goals as goal

-- the unit is allocated, and its buffers are laid out as the pool has places for them
pub returns-clause-made : goal.returns-clause-made
returns-clause-made c =
    let it : Collection = collection_of c.args.scene.now in
    let out : List Interval = pages_in it ++ c.args.others.now in
    let size : ℕ = pages_of c.args.wants.size in
    let nodes : (with_items c.args.scene.now.nodes c.allocate.new.nodes).items ≡ after_allocation c.args.head it.nodes =
    written c.args.scene.now.nodes (given_buffers c.args.head) c.allocate.new.nodes
    (c.allocate.ensures ∙ ap (after_allocation c.args.head) c.deref_mut-2.ensures.value) in
    let all : c.in_ok-held.held.items ≡ out =
    c.in_ok-held.ensures ∙ ap (λ (hs : List HeldBuffer). map (λ (h : HeldBuffer). h.pages) hs ++ c.args.others.now) c.deref.ensures.value in
    let placed : Some c.in-Some.starts.items ≡ places c.args.pool size c.args.wants.count out =
    ap (option_map (λ s. s.items)) (sym c.in-Some.is)
    ∙ (c.in_ok-starts.ensures.placed ∙ (λ i. places c.args.pool (c.pages_of-pages.ensures i) c.args.wants.count (all i))) in
    let many : length c.in-Some.starts.items ≡ c.args.wants.count =
    subst (λ o. IfSome o (λ s. length s.items ≡ c.args.wants.count)) c.in-Some.is c.in_ok-starts.ensures.many in
    let lies : c.in_ok-scene.field-0.items ≡ layout c.args.pool it.id c.args.wants out ++ it.held =
    c.in_ok-scene.ensures
    ∙ ((λ i. laid it.id (c.pages_of-pages.ensures i) 0 (c.deref-2.ensures.value i) ++ c.deref-3.ensures.value i)
    ∙ (scene_laid it.id size c.args.wants.count c.in-Some.starts.items it.held many
    ∙ ap (λ (o : Option (List ℕ)). option_map_or (laid_out size (names it.id c.args.wants.count)) o [] ++ it.held) placed)) in
    let held : c.in_ok-scene.field-0.items ≡ layout c.args.pool it.id (asked (members_of it.nodes)) out ++ it.held =
    lies ∙ ap (λ (w : Buffers). layout c.args.pool it.id w out ++ it.held) (sym c.requires.step.asked_for) in
    rw c.requires.step.root
    (λ i. record { id = it.id; nodes = nodes i; buffers = Some (sym c.requires.step.asked_for i); held = held i })

pub returns-clause-mark : goal.returns-clause-mark
returns-clause-mark c = search rules

pub returns-in_default-clause-mark : goal.returns-in_default-clause-mark
returns-in_default-clause-mark c = search rules

pub returns-in_default-clause-made : goal.returns-in_default-clause-made
returns-in_default-clause-made c = grind (arith, common_steps)
