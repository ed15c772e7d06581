use Rattle.std.proofs.Common.{not, ◌&&◌, ◌||◌, List, ap, sym, subst, ◌∙◌}
use Rattle.std.specs.List.{list_any}
use Rattle.xd_doc.specs.Classes.{LabelClass, class_has}
use Rattle.xd_boole.specs.declared.refusals.LabelRefusal.{LabelRefusal}
use Rattle.xd_boole.specs.Meaning.{move_takes}
use Rattle.xd_boole.specs.Refusals.{AllRefusals, any_refused, is_refused_by}
use Rattle.xd_boole.proofs.refusals.label_refusals.Goals as goal

pub returns : goal.returns
returns c =
    let a = c.args.taken.now.auto in
    let class = c.args.class.now in
    let choices = c.in_ok-choices.choices.items in
    let moves = c.args.moves.now in
    let adds = c.in_ok-refuse.ensures in
    let none = c.in_ok-choices.ensures in
    record {
      taken = λ q.
          adds.taken q
          ∙ ap (λ (gs : List LabelRefusal). any_refused a q gs || (class_has c.in_ok-class.class q.label && is_refused_by a q choices moves)) c.new-groups.ensures.items
          ∙ ap (λ (k : LabelClass). class_has k q.label && is_refused_by a q choices moves) c.in_ok-class.ensures.same
          ∙ ap (λ w. class_has class q.label && (w && not (list_any (move_takes a q) moves))) (none.refused a q.content q.rest);
      states = adds.states (subst (λ (gs : List LabelRefusal). AllRefusals a gs) (sym c.new-groups.ensures.items) tt);
    }

pub refuse-requires-clause-choices : goal.refuse-requires-clause-choices
refuse-requires-clause-choices c = c.in_ok-choices.ensures.states c.args.taken.now.auto
