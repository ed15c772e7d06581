use Rattle.std.proofs.Common.{true, length, arith, refl, sym, ap, ◌∙◌, subst}
use Rattle.std.proofs.lemmas.Result.{IfOk-weaker}
use Rattle.xd_syntax.proofs.TableRows.{KeepsRows-trans}
use Rattle.xd_grammar.specs.declared.grammar.Sort.{Sort}
use Rattle.xd_grammar.specs.declared.grammar.Nonterminal.TheVariants as n
use Rattle.xd_grammar.specs.declared.grammar.Terminal.TheVariants as t
use Rattle.xd_parse_trees.specs.Reading.{SpellNo, ReadsExcepted, element_row}
use Rattle.xd_parse_trees.proofs.ByteOrder.{class_made}
use Rattle.xd_parse_trees.proofs.Rows.{behind_le, next_lt, next_lt_at, front_same}
use Rattle.xd_parse_trees.proofs.Kept.{KeepsRows-refl}
use Rattle.xd_parse_trees.proofs.StandLemmas.{stand_stays}
use Rattle.xd_parse_trees.proofs.NodeRows.{branches_start, branches_on, tree_read, parts_start, parts_on, branch_read, content_empty_read, content_full_read, group_empty_read, group_full_read, element_read, part_read, word_read, texts_read, exception_read, group_read, none_read, unbound_read, variable_read, bound_read, any_read}
use Rattle.xd_parse_trees.proofs.trees.+trees.Goals as goal

pub read_tree-branches-init : goal.read_tree-branches-init
read_tree-branches-init g bound c = branches_start g.N.Nodes.sort _ _ _ _ _ c.in_ok-read.ensures.reads

pub read_tree-in_alternative-requires-clause-front : goal.read_tree-in_alternative-requires-clause-front
read_tree-in_alternative-requires-clause-front g bound c = stand_stays _ _ _ c.in_ok-branch.ensures.reads.keeps c.branches.invariant.stand

pub read_tree-branches-preserved : goal.read_tree-branches-preserved
read_tree-branches-preserved g bound c =
    branches_on g.N.Nodes.sort _ _ _ _ _ _ _ _ _ _ _ c.branches.invariant (sym c.at.ensures ∙ c.branches-test.true) c.step.ensures.left c.in_ok-branch.ensures.reads c.in_ok-read-2.ensures.merges

pub read_tree-returns-clause-reads : goal.read_tree-returns-clause-reads
read_tree-returns-clause-reads g bound c = tree_read g.N.Nodes.sort _ _ _ _ _ c.branches.invariant (sym c.at.ensures ∙ c.branches-test.false)

pub read_branch-parts-init : goal.read_branch-parts-init
read_branch-parts-init g bound c = parts_start g.N.Nodes.sort _ _ _ _ _ c.in_ok-read.ensures.reads

pub read_branch-in_sequence-requires-clause-front : goal.read_branch-in_sequence-requires-clause-front
read_branch-in_sequence-requires-clause-front g bound c = stand_stays _ _ _ c.in_ok-part.ensures.reads.keeps c.parts.invariant.stand

pub read_branch-parts-preserved : goal.read_branch-parts-preserved
read_branch-parts-preserved g bound c =
    parts_on g.N.Nodes.sort _ _ _ _ _ _ _ _ _ _ _ c.parts.invariant (sym c.at.ensures ∙ c.parts-test.true) c.step.ensures.left c.in_ok-part.ensures.reads c.in_ok-read-2.ensures.merges

pub read_branch-returns-clause-reads : goal.read_branch-returns-clause-reads
read_branch-returns-clause-reads g bound c = branch_read g.N.Nodes.sort _ _ _ _ _ c.parts.invariant (sym c.at.ensures ∙ c.parts-test.false)

pub read_content-returns-then-at-clause-reads : goal.read_content-returns-then-at-clause-reads
read_content-returns-then-at-clause-reads g bound c = content_empty_read g.N.Nodes.at g.N.Nodes.sort _ _ _ c.step.result c.nothing_at.result (sym c.at.ensures ∙ c.if-at.true) c.step.ensures.left c.step.ensures.place c.nothing_at.ensures

pub read_content-returns-clause-reads : goal.read_content-returns-clause-reads
read_content-returns-clause-reads g bound c = content_full_read g.N.Nodes.sort _ _ _ _ _ _ (sym c.at.ensures ∙ c.if-at.false) c.in_ok-inside.ensures.reads c.step-2.ensures.left

pub read_group-returns-then-at-clause-reads : goal.read_group-returns-then-at-clause-reads
read_group-returns-then-at-clause-reads g bound c = group_empty_read g.N.Nodes.at g.N.Nodes.sort _ _ _ c.args.place c.nothing_at.result (sym c.at.ensures ∙ c.if-at.true) c.step.ensures.left c.nothing_at.ensures

pub read_group-returns-clause-reads : goal.read_group-returns-clause-reads
read_group-returns-clause-reads g bound c = group_full_read g.N.Nodes.sort _ _ _ _ _ _ _ (sym c.at.ensures ∙ c.if-at.false) c.in_ok-inside.ensures.reads c.step-2.ensures.left

pub read_element-returns-clause-reads : goal.read_element-returns-clause-reads
read_element-returns-clause-reads g bound c =
    IfOk-weaker c.add_element.result _ _
    (λ parts m. element_read g.N.Nodes.sort _ _ _ _ _ _ _ _ _ _ _ _ c.requires c.in_ok-class.ensures.reads c.in_ok-class.ensures.fewer c.in_ok-content.ensures.reads m.added m.merges) c.add_element.ensures.adds

pub read_part-returns-clause-reads : goal.read_part-returns-clause-reads
read_part-returns-clause-reads g bound c =
    IfOk-weaker c.read_operator.result _ _ (λ parts r. part_read g.N.Nodes.sort _ _ _ _ _ _ _ _ (sym c.at.ensures ∙ c.if-at.false) c.in_ok-part.ensures.reads r) c.read_operator.ensures.reads

pub read_primary-returns-in_ok-word-in-Word-clause-reads : goal.read_primary-returns-in_ok-word-in-Word-clause-reads
read_primary-returns-in_ok-word-in-Word-clause-reads g bound c =
    let w = c.in_ok-word-in-Word.ensures in
    IfOk-weaker c.add_named.result _ _ (λ parts a. word_read g.N.Nodes.sort _ _ _ _ _ _ _ (sym c.peek.ensures ∙ c.in-Word.is) w.word w.place w.left a) c.add_named.ensures.merges

pub read_primary-returns-else-opens_class-clause-reads : goal.read_primary-returns-else-opens_class-clause-reads
read_primary-returns-else-opens_class-clause-reads g bound c =
    let h = sym c.peek.ensures ∙ c.in-ParenL.is in
    IfOk-weaker c.read_group.result _ _
    (λ parts r. group_read g.N.Nodes.sort _ _ _ _ _ _ _ h (subst (λ (k : Sort). SpellNo (element_row k) c.args.cursor.now) c.sort.ensures (c.opens_class.ensures.grouped c.if-opens_class.false)) c.step-place.ensures.place c.step-place.ensures.left r)
    c.read_group.ensures.reads

pub read_primary-returns-in_default-clause-reads : goal.read_primary-returns-in_default-clause-reads
read_primary-returns-in_default-clause-reads g bound c =
    let no = c.in_default in
    none_read g.N.Nodes.at g.N.Nodes.sort _ _ _ c.step.result c.nothing_at.result (λ e. no.not-Word (c.peek.ensures ∙ e)) (λ e. no.not-ParenL (c.peek.ensures ∙ e)) (λ e. no.not-Text (c.peek.ensures ∙ e)) (λ e. no.not-Tilde (c.peek.ensures ∙ e))
    (λ e. no.not-Caret (c.peek.ensures ∙ e)) (λ e. no.not-Label (c.peek.ensures ∙ e)) c.step.ensures.left c.nothing_at.ensures

pub read_exception-returns-in-Texts-clause-reads : goal.read_exception-returns-in-Texts-clause-reads
read_exception-returns-in-Texts-clause-reads g bound c =
    IfOk-weaker c.add_texts.result _ _
    (λ parts m. texts_read g.N.Nodes.sort _ _ _ _ _ _ _ _ c.requires c.step-place.ensures.place c.step-place.ensures.left c.in_ok-excepted.ensures.fewer (subst (ReadsExcepted n.Excepted _ _) c.in-Texts.is c.in_ok-excepted.ensures.reads) m) c.add_texts.ensures.merges

pub read_exception-returns-in_ok-content-in-Labels-clause-reads : goal.read_exception-returns-in_ok-content-in-Labels-clause-reads
read_exception-returns-in_ok-content-in-Labels-clause-reads g bound c =
    let k = c.in_ok-class-in-Labels in
    IfOk-weaker c.add_element.result _ _
    (λ parts m. exception_read g.N.Nodes.sort _ _ _ _ _ _ _ _ _ _ _ _ _ k.class c.requires c.step-place.ensures.place c.step-place.ensures.left c.in_ok-excepted.ensures.fewer (subst (ReadsExcepted n.Excepted _ _) c.in-Labels.is c.in_ok-excepted.ensures.reads)
    (class_made k.class _ true k.ensures.valid.sorted k.ensures.labels k.ensures.except) c.in_ok-content-in-Labels.ensures.reads m.added m.merges) c.add_element.ensures.adds

pub read_bound-returns-then-at-clause-reads : goal.read_bound-returns-then-at-clause-reads
read_bound-returns-then-at-clause-reads g bound c =
    IfOk-weaker c.add_bound.result _ _ (λ parts m. bound_read g.N.Nodes.sort _ _ _ _ _ _ _ _ _ _ _ _ _ c.requires (sym c.at.ensures ∙ c.if-at.true) c.step.ensures.left c.in_ok-part.ensures.reads m.added m.merges) c.add_bound.ensures.adds

pub read_bound-returns-clause-reads : goal.read_bound-returns-clause-reads
read_bound-returns-clause-reads g bound c =
    IfOk-weaker c.add_unbound.result _ _ (λ parts m. any_read g.N.Nodes.sort _ _ _ _ _ _ _ _ _ c.requires (sym c.at.ensures ∙ c.if-at.false) m.added m.merges) c.add_unbound.ensures.adds

pub read_variable-returns-in-Type-clause-reads : goal.read_variable-returns-in-Type-clause-reads
read_variable-returns-in-Type-clause-reads g bound c = unbound_read g.N.Nodes.at g.N.Nodes.sort _ _ _ c.step-place.result c.nothing_at.result (sym c.sort.ensures ∙ c.in-Type.is) c.requires c.step-place.ensures.left c.nothing_at.ensures

pub read_variable-returns-in_ok-variable-in-Pattern-clause-reads : goal.read_variable-returns-in_ok-variable-in-Pattern-clause-reads
read_variable-returns-in_ok-variable-in-Pattern-clause-reads g bound c =
    let w = c.in_ok-variable-in-Pattern.ensures in
    IfOk-weaker c.read_bound.result _ _
    (λ parts r. variable_read g.N.Nodes.sort _ _ _ _ _ _ _ _ _ _ (sym c.sort.ensures ∙ c.in-Pattern.is) c.requires c.step-place.ensures.place c.step-place.ensures.left w.word w.place w.left r)
    c.read_bound.ensures.reads

-- ---- old nodes stay, and what is read stands
pub read_tree-returns-in_err-read-clause-keeps : goal.read_tree-returns-in_err-read-clause-keeps
read_tree-returns-in_err-read-clause-keeps g bound c = c.read_branch.ensures.keeps

pub read_tree-returns-in_err-branch-clause-keeps : goal.read_tree-returns-in_err-branch-clause-keeps
read_tree-returns-in_err-branch-clause-keeps g bound c = KeepsRows-trans _ _ _ c.branches.invariant.keeps c.read_branch-in-branches.ensures.keeps

pub read_tree-in_alternative-requires-clause-back : goal.read_tree-in_alternative-requires-clause-back
read_tree-in_alternative-requires-clause-back g bound c = c.in_ok-branch.ensures.reads.stand

pub read_tree-returns-in_err-read-2-clause-keeps : goal.read_tree-returns-in_err-read-2-clause-keeps
read_tree-returns-in_err-read-2-clause-keeps g bound c = KeepsRows-trans _ _ _ c.branches.invariant.keeps (KeepsRows-trans _ _ _ c.read_branch-in-branches.ensures.keeps c.in_alternative.ensures.keeps)

pub read_tree-returns-clause-keeps : goal.read_tree-returns-clause-keeps
read_tree-returns-clause-keeps g bound c = c.branches.invariant.keeps

pub read_branch-returns-in_err-read-clause-keeps : goal.read_branch-returns-in_err-read-clause-keeps
read_branch-returns-in_err-read-clause-keeps g bound c = c.read_part.ensures.keeps

pub read_branch-returns-in_err-part-clause-keeps : goal.read_branch-returns-in_err-part-clause-keeps
read_branch-returns-in_err-part-clause-keeps g bound c = KeepsRows-trans _ _ _ c.parts.invariant.keeps c.read_part-in-parts.ensures.keeps

pub read_branch-in_sequence-requires-clause-back : goal.read_branch-in_sequence-requires-clause-back
read_branch-in_sequence-requires-clause-back g bound c = c.in_ok-part.ensures.reads.stand

pub read_branch-returns-in_err-read-2-clause-keeps : goal.read_branch-returns-in_err-read-2-clause-keeps
read_branch-returns-in_err-read-2-clause-keeps g bound c = KeepsRows-trans _ _ _ c.parts.invariant.keeps (KeepsRows-trans _ _ _ c.read_part-in-parts.ensures.keeps c.in_sequence.ensures.keeps)

pub read_branch-returns-clause-keeps : goal.read_branch-returns-clause-keeps
read_branch-returns-clause-keeps g bound c = c.parts.invariant.keeps

pub read_content-returns-then-at-clause-keeps : goal.read_content-returns-then-at-clause-keeps
read_content-returns-then-at-clause-keeps g bound c = KeepsRows-refl _

pub read_content-returns-in_err-inside-clause-keeps : goal.read_content-returns-in_err-inside-clause-keeps
read_content-returns-in_err-inside-clause-keeps g bound c = c.read_tree.ensures.keeps

pub read_content-returns-clause-keeps : goal.read_content-returns-clause-keeps
read_content-returns-clause-keeps g bound c = c.read_tree.ensures.keeps

pub read_group-returns-then-at-clause-keeps : goal.read_group-returns-then-at-clause-keeps
read_group-returns-then-at-clause-keeps g bound c = KeepsRows-refl _

pub read_group-returns-in_err-inside-clause-keeps : goal.read_group-returns-in_err-inside-clause-keeps
read_group-returns-in_err-inside-clause-keeps g bound c = c.read_tree.ensures.keeps

pub read_group-returns-clause-keeps : goal.read_group-returns-clause-keeps
read_group-returns-clause-keeps g bound c = c.read_tree.ensures.keeps

pub read_element-returns-in_err-class-clause-keeps : goal.read_element-returns-in_err-class-clause-keeps
read_element-returns-in_err-class-clause-keeps g bound c = KeepsRows-refl _

pub read_element-returns-in_err-content-clause-keeps : goal.read_element-returns-in_err-content-clause-keeps
read_element-returns-in_err-content-clause-keeps g bound c = c.read_content.ensures.keeps

pub read_element-add_element-requires : goal.read_element-add_element-requires
read_element-add_element-requires g bound c = c.in_ok-content.ensures.reads.stand

pub read_element-returns-clause-keeps : goal.read_element-returns-clause-keeps
read_element-returns-clause-keeps g bound c = KeepsRows-trans _ _ _ c.read_content.ensures.keeps c.add_element.ensures.keeps

pub read_exception-returns-in_err-excepted-clause-keeps : goal.read_exception-returns-in_err-excepted-clause-keeps
read_exception-returns-in_err-excepted-clause-keeps g bound c = KeepsRows-refl _

pub read_exception-returns-in_err-class-in-Labels-clause-keeps : goal.read_exception-returns-in_err-class-in-Labels-clause-keeps
read_exception-returns-in_err-class-in-Labels-clause-keeps g bound c = KeepsRows-refl _

pub read_exception-returns-in_err-content-in-Labels-clause-keeps : goal.read_exception-returns-in_err-content-in-Labels-clause-keeps
read_exception-returns-in_err-content-in-Labels-clause-keeps g bound c = c.read_content.ensures.keeps

pub read_exception-add_element-requires : goal.read_exception-add_element-requires
read_exception-add_element-requires g bound c = c.in_ok-content-in-Labels.ensures.reads.stand

pub read_exception-returns-in-Texts-clause-keeps : goal.read_exception-returns-in-Texts-clause-keeps
read_exception-returns-in-Texts-clause-keeps g bound c = c.add_texts.ensures.keeps

pub read_exception-returns-in_ok-content-in-Labels-clause-keeps : goal.read_exception-returns-in_ok-content-in-Labels-clause-keeps
read_exception-returns-in_ok-content-in-Labels-clause-keeps g bound c = KeepsRows-trans _ _ _ c.read_content.ensures.keeps c.add_element.ensures.keeps

pub read_part-returns-then-at-clause-reads : goal.read_part-returns-then-at-clause-reads
read_part-returns-then-at-clause-reads g bound c = c.read_variable.ensures.reads

pub read_part-returns-then-at-clause-keeps : goal.read_part-returns-then-at-clause-keeps
read_part-returns-then-at-clause-keeps g bound c = c.read_variable.ensures.keeps

pub read_part-returns-in_err-part-clause-keeps : goal.read_part-returns-in_err-part-clause-keeps
read_part-returns-in_err-part-clause-keeps g bound c = c.read_primary.ensures.keeps

pub read_part-read_operator-requires : goal.read_part-read_operator-requires
read_part-read_operator-requires g bound c = c.in_ok-part.ensures.reads.stand

pub read_part-returns-clause-keeps : goal.read_part-returns-clause-keeps
read_part-returns-clause-keeps g bound c = KeepsRows-trans _ _ _ c.read_primary.ensures.keeps c.read_operator.ensures.keeps

pub read_variable-returns-in_err-variable-in-Pattern-clause-keeps : goal.read_variable-returns-in_err-variable-in-Pattern-clause-keeps
read_variable-returns-in_err-variable-in-Pattern-clause-keeps g bound c = KeepsRows-refl _

pub read_variable-returns-in-Type-clause-keeps : goal.read_variable-returns-in-Type-clause-keeps
read_variable-returns-in-Type-clause-keeps g bound c = KeepsRows-refl _

pub read_variable-returns-in_ok-variable-in-Pattern-clause-keeps : goal.read_variable-returns-in_ok-variable-in-Pattern-clause-keeps
read_variable-returns-in_ok-variable-in-Pattern-clause-keeps g bound c = c.read_bound.ensures.keeps

pub read_bound-returns-in_err-part-clause-keeps : goal.read_bound-returns-in_err-part-clause-keeps
read_bound-returns-in_err-part-clause-keeps g bound c = c.read_part.ensures.keeps

pub read_bound-add_bound-requires-clause-stands : goal.read_bound-add_bound-requires-clause-stands
read_bound-add_bound-requires-clause-stands g bound c = c.in_ok-part.ensures.reads.stand

pub read_bound-returns-then-at-clause-keeps : goal.read_bound-returns-then-at-clause-keeps
read_bound-returns-then-at-clause-keeps g bound c = KeepsRows-trans _ _ _ c.read_part.ensures.keeps c.add_bound.ensures.keeps

pub read_bound-returns-clause-keeps : goal.read_bound-returns-clause-keeps
read_bound-returns-clause-keeps g bound c = c.add_unbound.ensures.keeps

pub read_primary-returns-in_err-word-in-Word-clause-keeps : goal.read_primary-returns-in_err-word-in-Word-clause-keeps
read_primary-returns-in_err-word-in-Word-clause-keeps g bound c = KeepsRows-refl _

pub read_primary-returns-in_ok-word-in-Word-clause-keeps : goal.read_primary-returns-in_ok-word-in-Word-clause-keeps
read_primary-returns-in_ok-word-in-Word-clause-keeps g bound c = c.add_named.ensures.keeps

pub read_primary-returns-then-opens_class-clause-reads : goal.read_primary-returns-then-opens_class-clause-reads
read_primary-returns-then-opens_class-clause-reads g bound c = c.read_element.ensures.reads

pub read_primary-returns-then-opens_class-clause-keeps : goal.read_primary-returns-then-opens_class-clause-keeps
read_primary-returns-then-opens_class-clause-keeps g bound c = c.read_element.ensures.keeps

pub read_primary-returns-else-opens_class-clause-keeps : goal.read_primary-returns-else-opens_class-clause-keeps
read_primary-returns-else-opens_class-clause-keeps g bound c = c.read_group.ensures.keeps

pub read_primary-returns-in-Text-clause-reads : goal.read_primary-returns-in-Text-clause-reads
read_primary-returns-in-Text-clause-reads g bound c = c.read_text.ensures.reads

pub read_primary-returns-in-Text-clause-keeps : goal.read_primary-returns-in-Text-clause-keeps
read_primary-returns-in-Text-clause-keeps g bound c = c.read_text.ensures.keeps

pub read_primary-returns-in-Caret-clause-reads : goal.read_primary-returns-in-Caret-clause-reads
read_primary-returns-in-Caret-clause-reads g bound c = c.read_exception.ensures.reads

pub read_primary-returns-in-Caret-clause-keeps : goal.read_primary-returns-in-Caret-clause-keeps
read_primary-returns-in-Caret-clause-keeps g bound c = c.read_exception.ensures.keeps

pub read_primary-returns-in-Tilde-clause-reads : goal.read_primary-returns-in-Tilde-clause-reads
read_primary-returns-in-Tilde-clause-reads g bound c = c.read_element-in-Tilde.ensures.reads

pub read_primary-returns-in-Tilde-clause-keeps : goal.read_primary-returns-in-Tilde-clause-keeps
read_primary-returns-in-Tilde-clause-keeps g bound c = c.read_element-in-Tilde.ensures.keeps

pub read_primary-returns-in_default-clause-keeps : goal.read_primary-returns-in_default-clause-keeps
read_primary-returns-in_default-clause-keeps g bound c = KeepsRows-refl _

-- ---- fewer tokens are left
pub read_bound-read_part-requires : goal.read_bound-read_part-requires
read_bound-read_part-requires g bound c = λ κs within. (omega (arith, next_lt_at t.As c.args.cursor.now refl (sym c.at.ensures ∙ c.if-at.true), ap length c.step.ensures.left), within)

pub read_branch-read_part-requires : goal.read_branch-read_part-requires
read_branch-read_part-requires g bound c = λ κs within. (omega arith, within)

pub read_branch-read_part-requires-in-parts : goal.read_branch-read_part-requires-in-parts
read_branch-read_part-requires-in-parts g bound c = λ κs within. (omega (arith, c.parts.invariant.fewer, behind_le c.parts.cursor, ap length c.step.ensures.left), within)

pub read_branch-parts-smaller : goal.read_branch-parts-smaller
read_branch-parts-smaller g bound c = omega (arith, next_lt_at t.Comma c.parts.cursor refl (sym c.at.ensures ∙ c.parts-test.true), ap length c.step.ensures.left, c.in_ok-part.ensures.reads.fewer)

pub read_tree-read_branch-requires : goal.read_tree-read_branch-requires
read_tree-read_branch-requires g bound c = λ κs within. (omega arith, within)

pub read_tree-read_branch-requires-in-branches : goal.read_tree-read_branch-requires-in-branches
read_tree-read_branch-requires-in-branches g bound c = λ κs within. (omega (arith, c.branches.invariant.fewer, behind_le c.branches.cursor, ap length c.step.ensures.left), within)

pub read_tree-branches-smaller : goal.read_tree-branches-smaller
read_tree-branches-smaller g bound c = omega (arith, next_lt_at t.Bar c.branches.cursor refl (sym c.at.ensures ∙ c.branches-test.true), ap length c.step.ensures.left, c.in_ok-branch.ensures.reads.fewer)

pub read_content-read_tree-requires : goal.read_content-read_tree-requires
read_content-read_tree-requires g bound c = λ κs within. (omega arith, within)

pub read_group-read_tree-requires : goal.read_group-read_tree-requires
read_group-read_tree-requires g bound c = λ κs within. (omega arith, within)

pub read_exception-read_content-requires : goal.read_exception-read_content-requires
read_exception-read_content-requires g bound c = λ κs within. (omega (arith, next_lt t.Caret c.args.cursor.now refl c.requires, ap length c.step-place.ensures.left, c.in_ok-excepted.ensures.fewer), within)

pub read_part-read_variable-requires : goal.read_part-read_variable-requires
read_part-read_variable-requires g bound c = λ κs within. (omega arith, (within.0, (within.1, front_same t.Val c.args.cursor.now (sym c.at.ensures ∙ c.if-at.true))))

pub read_part-read_primary-requires : goal.read_part-read_primary-requires
read_part-read_primary-requires g bound c = λ κs within. (omega arith, within)

pub read_primary-read_group-requires : goal.read_primary-read_group-requires
read_primary-read_group-requires g bound c = λ κs within. (omega (arith, next_lt t.ParenL c.args.cursor.now refl (sym c.peek.ensures ∙ c.in-ParenL.is), ap length c.step-place.ensures.left), within)

pub read_primary-read_text-requires : goal.read_primary-read_text-requires
read_primary-read_text-requires g bound c = sym c.peek.ensures ∙ c.in-Text.is

pub read_primary-opens_class-requires : goal.read_primary-opens_class-requires
read_primary-opens_class-requires g bound c = sym c.peek.ensures ∙ c.in-ParenL.is

pub read_primary-read_exception-requires : goal.read_primary-read_exception-requires
read_primary-read_exception-requires g bound c = λ κs within. (omega arith, (within.0, (within.1, sym c.peek.ensures ∙ c.in-Caret.is)))

pub read_variable-read_bound-requires : goal.read_variable-read_bound-requires
read_variable-read_bound-requires g bound c = λ κs within. (omega (arith, next_lt t.Val c.args.cursor.now refl c.requires, ap length c.step-place.ensures.left, behind_le c.step-place.new.self, ap length c.in_ok-variable-in-Pattern.ensures.left), (within.0, (within.1, sym c.sort.ensures ∙ c.in-Pattern.is)))
