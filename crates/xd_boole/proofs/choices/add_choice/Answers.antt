use Rattle.std.proofs.Common.{◌∙◌, not, rules, sym, subst, List}
use Rattle.std.proofs.lemmas.Fn.{filter_same}
use Rattle.xd_boole.specs.declared.choices.SideChoice.{SideChoice}
use Rattle.xd_boole.specs.Choices.{AddsChoice}
use Rattle.xd_boole.proofs.ChoiceLemmas.{choice_added, choice_there, contains}
use Rattle.xd_boole.proofs.choices.add_choice.Goals as goal

pub returns-then-contains : goal.returns-then-contains
returns-then-contains c =
    subst (λ (ks : List SideChoice). AddsChoice c.args.choice ks ks) c.deref-other-items.ensures.value
    (choice_there c.args.choice c.other-item.result c.deref-other-items.result.now c.loop-other.other-index c.loop-other-test.true c.other-item.is (sym c.contains.ensures ∙ c.if-contains.true))

pub returns : goal.returns
returns c =
    choice_added c.args.choice c.args.choices.items c.retain.new.self.items c.push.new.self.items
    (filter_same _ (λ o. not (contains o c.args.choice)) _ (λ x b f' called. search rules) c.args.choices.items c.retain.new.self.items c.retain.ensures.filtered)
    c.in_ok-push.ensures.items
