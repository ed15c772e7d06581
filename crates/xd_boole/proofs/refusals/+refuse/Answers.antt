use Rattle.std.proofs.Common.{◌≡◌, true, false, [], List, Bool, Option, refl, sym, subst, arith}
use Rattle.std.proofs.lemmas.Grind.{common_steps}
use Rattle.std.proofs.lemmas.Result.{on_ok_weaker}
use Rattle.xd_doc.specs.ClassForms.{IsPart}
use Rattle.xd_doc.specs.Classes.{LabelClass}
use Rattle.xd_auto.specs.declared.auto.LabelMove.{LabelMove}
use Rattle.xd_boole.specs.declared.choices.SideChoice.{SideChoice}
use Rattle.xd_boole.specs.declared.refusals.Narrowed.{Narrowed}
use Rattle.xd_boole.specs.declared.refusals.Parted.{Parted}
use Rattle.xd_boole.specs.Choices.{AllChoices}
use Rattle.xd_boole.specs.Refusals.{AddsRefusals, LeadInside, Narrows, Parts}
use Rattle.xd_boole.proofs.RefusalLemmas.{refused_both, refused_inside, refused_none, refused_one, refused_outside}
use Rattle.xd_boole.proofs.refusals.+refuse.Goals as goal

pub returns-then-is_empty-2 : goal.returns-then-is_empty-2
returns-then-is_empty-2 t c =
    let marks = c.args.taken.now.universal.items in
    let n : Narrowed = c.in_ok-choices.field-0 in
    let narrows = subst (λ (m : List Bool). Narrows m c.args.class c.args.choices.items c.args.moves.now n) c.deref.ensures.value c.in_ok-choices.ensures in
    let none : n.moves.items ≡ [] = grind (arith, common_steps) in
    refused_one c.args.taken.now.auto marks c.requires.universal c.args.class c.args.choices.items c.args.moves.now n narrows c.args.groups.now.items c.push.new.self.items (record { class = c.args.class; choices = n.choices }) c.in_ok-push.ensures.items
    refl refl none c.requires.choices c.requires.moves

pub returns-then-is_empty : goal.returns-then-is_empty
returns-then-is_empty t c =
    let marks = c.args.taken.now.universal.items in
    let n : Narrowed = c.in_ok-choices.field-0 in
    let narrows = subst (λ (m : List Bool). Narrows m c.args.class c.args.choices.items c.args.moves.now n) c.deref.ensures.value c.in_ok-choices.ensures in
    let none : n.choices.items ≡ [] = grind (arith, common_steps) in
    refused_none c.args.taken.now.auto marks c.requires.universal c.args.class c.args.choices.items c.args.moves.now n narrows c.args.groups.now.items none

pub refuse-requires : goal.refuse-requires
refuse-requires t c =
    let a = c.args.taken.now.auto in
    let narrows = c.in_ok-choices.ensures in
    let parts = c.in_ok-parted.ensures in (
      omega (arith, narrows.fewer, parts.less, c.decreases),
      (c.requires.universal, (narrows.states a c.requires.choices c.requires.moves, subst (LeadInside a) (sym c.deref-in_default.ensures.value) (parts.leads a (narrows.inside a c.requires.moves)))),
    )

pub refuse-requires-in_default-2 : goal.refuse-requires-in_default-2
refuse-requires-in_default-2 t c =
    let a = c.args.taken.now.auto in
    let narrows = c.in_ok-choices.ensures in
    let parts = c.in_ok-parted.ensures in
    let inside = narrows.inside a c.requires.moves in
    let states = subst (λ (ks : List SideChoice). AllChoices a ks) (sym c.deref-2.ensures.value) (narrows.states a c.requires.choices c.requires.moves) in (
      omega (arith, narrows.fewer, parts.less, c.decreases),
      (c.requires.universal, (parts.states a states inside, subst (LeadInside a) (sym c.deref-in_default-2.ensures.value) (parts.leads a inside))),
    )

pub refuse-requires-2 : goal.refuse-requires-2
refuse-requires-2 t c =
    let a = c.args.taken.now.auto in
    let narrows = c.in_ok-choices.ensures in
    let parts = c.in_ok-parted.ensures in
    let inside = narrows.inside a c.requires.moves in
    let states = subst (λ (ks : List SideChoice). AllChoices a ks) (sym c.deref-2.ensures.value) (narrows.states a c.requires.choices c.requires.moves) in (
      omega (arith, narrows.fewer, parts.less, c.decreases),
      (c.requires.universal, (parts.states a states inside, subst (LeadInside a) (sym c.deref-4.ensures.value) (parts.leads a inside))),
    )

pub refuse-requires-3 : goal.refuse-requires-3
refuse-requires-3 t c =
    let a = c.args.taken.now.auto in
    let narrows = c.in_ok-choices.ensures in
    let parts = c.in_ok-parted.ensures in (
      omega (arith, narrows.fewer, parts.less, c.decreases),
      (c.requires.universal, (narrows.states a c.requires.choices c.requires.moves, subst (LeadInside a) (sym c.deref-5.ensures.value) (parts.leads a (narrows.inside a c.requires.moves)))),
    )

pub returns-in_default : goal.returns-in_default
returns-in_default t c =
    let a = c.args.taken.now.auto in
    let marks = c.args.taken.now.universal.items in
    let n : Narrowed = c.in_ok-choices.field-0 in
    let p : Parted = c.in_ok-parted.parted in
    let narrows = subst (λ (m : List Bool). Narrows m c.args.class c.args.choices.items c.args.moves.now n) c.deref.ensures.value c.in_ok-choices.ensures in
    let parts = subst (λ (m : List Bool). Parts m n.choices.items n.moves.items c.args.depth p) c.deref-3.ensures.value (subst (λ (ks : List SideChoice). Parts c.deref-3.result.now ks n.moves.items c.args.depth p) c.deref-2.ensures.value c.in_ok-parted.ensures) in
    let none = subst (λ (o : Option LabelClass). IsPart true c.args.class p.part o) c.in_default.is c.in_ok-inside.ensures.part in
    on_ok_weaker c.refuse.result
    (λ adds. refused_outside a marks c.requires.universal c.args.class c.args.choices.items c.args.moves.now n narrows c.args.depth p parts c.args.groups.now.items c.refuse.new.groups.items none
    (subst (λ (ms : List LabelMove). AddsRefusals a c.args.class n.choices.items ms c.args.groups.now.items c.refuse.new.groups.items) c.deref-in_default.ensures.value adds))
    c.refuse.ensures

pub returns-in_default-2 : goal.returns-in_default-2
returns-in_default-2 t c =
    let a = c.args.taken.now.auto in
    let marks = c.args.taken.now.universal.items in
    let n : Narrowed = c.in_ok-choices.field-0 in
    let p : Parted = c.in_ok-parted.parted in
    let narrows = subst (λ (m : List Bool). Narrows m c.args.class c.args.choices.items c.args.moves.now n) c.deref.ensures.value c.in_ok-choices.ensures in
    let parts = subst (λ (m : List Bool). Parts m n.choices.items n.moves.items c.args.depth p) c.deref-3.ensures.value (subst (λ (ks : List SideChoice). Parts c.deref-3.result.now ks n.moves.items c.args.depth p) c.deref-2.ensures.value c.in_ok-parted.ensures) in
    let none = subst (λ (o : Option LabelClass). IsPart false c.args.class p.part o) c.in_default-2.is c.in_ok-outside.ensures.part in
    on_ok_weaker c.refuse-in_default-2.result
    (λ adds. refused_inside a marks c.requires.universal c.args.class c.args.choices.items c.args.moves.now n narrows c.args.depth p parts c.args.groups.now.items c.refuse-in_default-2.new.groups.items none
    (subst (λ (ms : List LabelMove). AddsRefusals a c.args.class p.choices.items ms c.args.groups.now.items c.refuse-in_default-2.new.groups.items) c.deref-in_default-2.ensures.value adds))
    c.refuse-in_default-2.ensures

pub returns : goal.returns
returns t c =
    let a = c.args.taken.now.auto in
    let marks = c.args.taken.now.universal.items in
    let n : Narrowed = c.in_ok-choices.field-0 in
    let p : Parted = c.in_ok-parted.parted in
    let narrows = subst (λ (m : List Bool). Narrows m c.args.class c.args.choices.items c.args.moves.now n) c.deref.ensures.value c.in_ok-choices.ensures in
    let parts = subst (λ (m : List Bool). Parts m n.choices.items n.moves.items c.args.depth p) c.deref-3.ensures.value (subst (λ (ks : List SideChoice). Parts c.deref-3.result.now ks n.moves.items c.args.depth p) c.deref-2.ensures.value c.in_ok-parted.ensures) in
    let one = subst (λ (o : Option LabelClass). IsPart true c.args.class p.part o) c.in-Some.is c.in_ok-inside.ensures.part in
    let two = subst (λ (o : Option LabelClass). IsPart false c.args.class p.part o) c.in-Some-2.is c.in_ok-outside.ensures.part in
    let first = subst (λ (ms : List LabelMove). AddsRefusals a c.in-Some.inside p.choices.items ms c.args.groups.now.items c.refuse-2.new.groups.items) c.deref-4.ensures.value c.in_ok-refuse.ensures in
    on_ok_weaker c.refuse-3.result
    (λ second. refused_both a marks c.requires.universal c.args.class c.args.choices.items c.args.moves.now n narrows c.args.depth p parts c.in-Some.inside c.in-Some-2.outside c.args.groups.now.items c.refuse-2.new.groups.items c.refuse-3.new.groups.items
    one two first (subst (λ (ms : List LabelMove). AddsRefusals a c.in-Some-2.outside n.choices.items ms c.refuse-2.new.groups.items c.refuse-3.new.groups.items) c.deref-5.ensures.value second))
    c.refuse-3.ensures
