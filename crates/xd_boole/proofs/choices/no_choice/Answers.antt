use Rattle.std.proofs.Common.{List, ◌++◌, ◌∷◌, [], ap, ◌∙◌}
use Rattle.xd_boole.specs.declared.choices.SideChoice.{SideChoice}
use Rattle.xd_boole.proofs.ChoiceLemmas.{is_no_choice}
use Rattle.xd_boole.proofs.choices.no_choice.Goals as goal

pub returns : goal.returns
returns c = is_no_choice (record { contents = c.new.result; rests = c.new-2.result }) c.push.new.self.items c.new.ensures.items c.new-2.ensures.items
    (c.in_ok-push.ensures.items ∙ ap (λ (ks : List SideChoice). ks ++ record { contents = c.new.result; rests = c.new-2.result } ∷ []) c.new-choices.ensures.items)
