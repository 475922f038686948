use Rattle.event_texts.proofs.Common.{ap, append_assoc, arith, flat_map, member_text, sym, ℕ, ◌++◌, ◌∙◌, ◌≡◌}
use Rattle.event_texts.specs.declared.words.TheConstants.{SET_BITS}
use Rattle.sm_names.specs.declared.keys.BufferName.{BufferName}
use Rattle.sm_names.specs.Handles.{names as names_of}
use Rattle.script_labels.proofs.Members.{members-more}
use Rattle.event_texts.proofs.words.push_set.Goals as goal

pub loop-index-preserved : goal.loop-index-preserved
loop-index-preserved c = λ names kept.
    let buffer : BufferName = record { collection = c.args.collection; index = c.loop-index.index } in
    c.in_ok-push_member.ensures names kept
    ∙ ap (λ front. front ++ member_text names c.args.set buffer) (c.loop-index.invariant names kept)
    ∙ append_assoc c.args.text.now.items (flat_map (member_text names c.args.set) (names_of c.args.collection c.loop-index.index))
    (member_text names c.args.set buffer)
    ∙ ap (λ back. c.args.text.now.items ++ back) (sym (members-more names c.args.collection c.args.set c.loop-index.index))

pub returns : goal.returns
returns c = λ names kept. c.loop-index.invariant names kept
    ∙ ap (λ (count : ℕ). c.args.text.now.items ++ flat_map (member_text names c.args.set) (names_of c.args.collection count)) all
  where
    all : c.loop-index.index ≡ SET_BITS
    all = omega (arith, c.loop-index.auto.index-end, c.loop-index-test.false)
