use Rattle.std.proofs.Common.{[], ◌∷◌, ◌++◌, cond, sym, ap, ◌∙◌}
use Rattle.xd_type_text.specs.declared.level.Level.TheVariants as levels
use Rattle.xd_type_text.specs.declared.waiting.Waiting.TheVariants as waits
use Rattle.xd_type_text.proofs.Pieces.{node_filled}
use Rattle.xd_type_text.proofs.write.push_content.Goals as goal

pub returns-in_ok-push-in_default : goal.returns-in_ok-push-in_default
returns-in_ok-push-in_default c =
    let f = node_filled _ _ _ _ _ c.in_default.not-Empty c.node.ensures.merged c.form.ensures c.node.ensures.tree in
    c.in_ok-push-in_default.ensures.items ∙ ap (λ b. c.args.stack.now.items ++ cond b [] (waits.Part levels.Any c.args.content ∷ [])) (sym f)
