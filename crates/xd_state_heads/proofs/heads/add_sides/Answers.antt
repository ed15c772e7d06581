use Rattle.xd_doc.proofs.Results.{OnOk-map}
use Rattle.xd_state_heads.proofs.Sides.{count_heads_of, at_label, at_text}
use Rattle.std.proofs.Common.{arith, ◌+◌, List, length, ap, refl}
use Rattle.xd_auto.specs.declared.auto.LabelMove.{LabelMove}
use Rattle.xd_rules.specs.declared.atom.Atom.TheVariants.{Label, OtherLabel, Text, OtherText}
use Rattle.xd_state_heads.proofs.heads.add_sides.Goals as goal

pub returns-in-Label : goal.returns-in-Label
returns-in-Label c =
    rw c.in-Label.is (OnOk-map c.add_with_name.result (λ h. at_label c.args.auto.now c.args.state (Label c.in-Label.label) c.args.before c.args.sides.now.items c.add_with_name.new.sides.items (λ m. refl) h) c.add_with_name.ensures)

pub returns-in-OtherLabel : goal.returns-in-OtherLabel
returns-in-OtherLabel c =
    rw c.in-OtherLabel.is (OnOk-map c.add_with_others.result (λ h. at_label c.args.auto.now c.args.state OtherLabel c.args.before c.args.sides.now.items c.add_with_others.new.sides.items (λ m. refl) h) c.add_with_others.ensures)

pub returns-in-Text : goal.returns-in-Text
returns-in-Text c =
    rw c.in-Text.is (OnOk-map c.add_with_name-in-Text.result (λ h. at_text c.args.auto.now c.args.state (Text c.in-Text.text) c.args.before c.args.sides.now.items c.add_with_name-in-Text.new.sides.items _ (ap (λ (ms : List LabelMove). c.args.before + length ms) c.label_moves-labels.ensures.value) (λ m. refl) h) c.add_with_name-in-Text.ensures)

pub returns-in-OtherText : goal.returns-in-OtherText
returns-in-OtherText c =
    rw c.in-OtherText.is (OnOk-map c.add_with_others-in-OtherText.result (λ h. at_text c.args.auto.now c.args.state OtherText c.args.before c.args.sides.now.items c.add_with_others-in-OtherText.new.sides.items _ (ap (λ (ms : List LabelMove). c.args.before + length ms) c.label_moves-labels.ensures.value) (λ m. refl) h) c.add_with_others-in-OtherText.ensures)

pub overflow_add-behind : goal.overflow_add-behind
overflow_add-behind c = omega (arith, c.requires.room, count_heads_of c.args.auto.now c.args.state, ap (λ (ms : List LabelMove). length ms) c.label_moves-labels.ensures.value)

pub add_with_name-requires-clause-room : goal.add_with_name-requires-clause-room
add_with_name-requires-clause-room c = omega (arith, c.requires.room, count_heads_of c.args.auto.now c.args.state)

pub add_with_others-requires-clause-room : goal.add_with_others-requires-clause-room
add_with_others-requires-clause-room c = omega (arith, c.requires.room, count_heads_of c.args.auto.now c.args.state)

pub add_with_name-requires-in-Text-clause-room : goal.add_with_name-requires-in-Text-clause-room
add_with_name-requires-in-Text-clause-room c = omega (arith, c.requires.room, count_heads_of c.args.auto.now c.args.state, ap (λ (ms : List LabelMove). length ms) c.label_moves-labels.ensures.value)

pub add_with_others-requires-in-OtherText-clause-room : goal.add_with_others-requires-in-OtherText-clause-room
add_with_others-requires-in-OtherText-clause-room c = omega (arith, c.requires.room, count_heads_of c.args.auto.now c.args.state, ap (λ (ms : List LabelMove). length ms) c.label_moves-labels.ensures.value)
