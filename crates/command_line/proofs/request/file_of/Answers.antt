use Rattle.std.proofs.Common.{List, ℕ, Option, refl, sym, subst, codes, ◌∙◌}
use Rattle.std.specs.Prelude.{option_map}
use Rattle.command_line.specs.Asked.{IsFile}
use Rattle.command_line.proofs.Asking.{first_text}
use Rattle.command_line.proofs.request.file_of.Goals as goal

-- the name is read of the subcommand's own matches
pub returns : goal.returns
returns c = subst (λ (word : Option (List ℕ)). IsFile word (option_map (λ name. name.now) c.file_named.result))
    (c.get_str.ensures ∙ sym (first_text (codes "file") c.args.matches.now c.in_ok-inner.inner.now _ c.in_ok-inner.ensures.rows refl))
    c.file_named.ensures
