use Rattle.std.proofs.Common.{◌≡◌, [], ◌∷◌, ◌++◌, ap, ◌∙◌}
use Rattle.xd_check_steps.proofs.AcceptedInTurnLemmas.{one_class}
use Rattle.xd_check_steps.proofs.states.one_text.Goals as goal

pub returns : goal.returns
returns c =
    let texts : c.push.new.self.items ≡ c.args.characters.now ∷ [] =
    c.in_ok-push.ensures.items ∙ ap (λ ts. ts ++ c.in_ok-share.field-0 ∷ []) c.new-texts.ensures.items ∙ ap (λ t. t ∷ []) c.in_ok-share.ensures in
    one_class c.in_ok-words.words c.args.characters.now c.push.new.self.items texts c.in_ok-words.ensures.except c.in_ok-words.ensures.texts
