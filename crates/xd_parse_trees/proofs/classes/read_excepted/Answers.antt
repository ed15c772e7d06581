use Rattle.std.proofs.Common.{List, sym, subst, ◌∙◌}
use Rattle.std.proofs.lemmas.Result.{IfOk-weaker}
use Rattle.xd_lex.specs.Tokens.{Lexeme}
use Rattle.xd_grammar.specs.declared.grammar.Nonterminal.TheVariants as n
use Rattle.xd_parse_trees.specs.Values.{a_tree}
use Rattle.xd_parse_trees.specs.Reading.{Reads}
use Rattle.xd_parse_trees.proofs.ClassRows.{excepted_text_reads, excepted_label_reads, excepted_list_reads}
use Rattle.xd_parse_trees.proofs.classes.read_excepted.Goals as goal

pub returns-then-at-clause-reads : goal.returns-then-at-clause-reads
returns-then-at-clause-reads c =
    λ s. rw (c.in_ok-quoted.ensures.left, c.in_ok-push.ensures.items, c.new-texts.ensures.items) (excepted_text_reads s c.args.cursor.now c.in_ok-quoted.quoted.text (sym c.at.ensures ∙ c.if-at.true) c.in_ok-quoted.ensures.text)

pub returns-then-at-2-clause-reads : goal.returns-then-at-2-clause-reads
returns-then-at-2-clause-reads c =
    λ s to T q. rw (c.in_ok-push-2.ensures.items, c.new-names.ensures.items) (excepted_label_reads s c.args.cursor.now to c.in_ok-label.label.word T (sym c.at.ensures ∙ c.if-at.false) (sym c.at-2.ensures ∙ c.if-at-2.true) c.in_ok-label.ensures.word
    (subst (λ (x : List Lexeme). Reads (n.Content s) x to (a_tree T)) c.in_ok-label.ensures.left q))

pub returns-clause-reads : goal.returns-clause-reads
returns-clause-reads c =
    IfOk-weaker c.read_excepted_list.result _ _
    (λ e r. excepted_list_reads c.args.cursor.now c.step.new.self c.read_excepted_list.new.cursor e (sym c.at.ensures ∙ c.if-at.false) (sym c.at-2.ensures ∙ c.if-at-2.false) c.step.ensures.left r) c.read_excepted_list.ensures.reads
