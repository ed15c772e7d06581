use Rattle.std.proofs.Common.{◌≡◌, true, false, Ok, sym, ap, ◌∙◌, subst, List}
use Rattle.xd_auto.specs.declared.auto.LabelMove.{LabelMove}
use Rattle.xd_auto.specs.declared.auto.TextMove.{TextMove}
use Rattle.xd_auto.specs.Automaton.{has_label, has_text, moves_at}
use Rattle.xd_clauses.specs.Begins.{ShareNoName}
use Rattle.xd_clauses.proofs.BeginsLemmas.{accepts_begins, begin_apart}
use Rattle.xd_clauses.proofs.begins.Begins.is_apart.Goals.{else-is_last-via-then-is_last+else-is_last-2, else-is_last-via-else-is_last}
use Rattle.xd_clauses.proofs.begins.Begins.is_apart.Goals as goal

pub returns : goal.returns
returns c = λ done d h.
    let own = moves_at c.args.self.now.auto c.args.self.now.state in
    let m = moves_at c.args.auto.now c.args.state in
    let labels = subst (λ (ms : List LabelMove). ShareNoName has_label ms own.labels) c.label_moves-labels.ensures.value (c.in_ok-share_no_name.ensures (ap (λ b. Ok b) c.if-not-branch.false)) in
    let texts = subst (λ (ms : List TextMove). ShareNoName has_text ms own.texts) c.text_moves-texts.ensures.value (c.in_ok-share_no_name-2.ensures (ap (λ b. Ok b) c.if-not-branch-2.false)) in
    let last : m.last ≡ true → own.last ≡ false = λ t. elim c.else-is_last.branch [
      | else-is_last-via-then-is_last+else-is_last-2 w ↦ sym w.is_last-then-is_last.ensures ∙ w.if-is_last-2.false
      | else-is_last-via-else-is_last w ↦ absurd (let f = sym c.is_last.ensures ∙ w.if-is_last.false in let q : true ≡ false = sym t ∙ f in cc)
    ] in
    begin_apart m own last labels texts d (accepts_begins c.args.auto.now d c.args.state h)
