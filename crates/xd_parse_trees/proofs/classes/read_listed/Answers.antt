use Rattle.std.proofs.Common.{List, [], ◌∷◌, ◌++◌, sym, ap, subst, ◌∙◌, arith, length, refl}
use Rattle.xd_lex.specs.Tokens.{Lexeme}
use Rattle.xd_grammar.specs.declared.grammar.Nonterminal.TheVariants as n
use Rattle.xd_parse_trees.specs.Reading.{Reads, behind}
use Rattle.xd_parse_trees.specs.Values.{names}
use Rattle.xd_parse_trees.proofs.ClassRows.{names_more, names_done}
use Rattle.xd_parse_trees.proofs.Rows.{behind_le, next_lt_at}
use Rattle.xd_grammar.specs.declared.grammar.Terminal.TheVariants as t
use Rattle.xd_parse_trees.proofs.classes.read_listed.Goals as goal

pub words-preserved : goal.words-preserved
words-preserved c =
    rw c.in_ok-push-2.ensures.items (names_more _ _ _ _ _ c.in_ok-read_any_word-2.field-0 c.words.invariant (sym c.at.ensures ∙ c.words-test.true)
    (c.in_ok-read_any_word-2.ensures.left ∙ ap behind c.step.ensures.left)
    (subst (λ (x : List Lexeme). Reads n.AnyWord x c.read_any_word-in-words.new.cursor (names (c.in_ok-read_any_word-2.field-0 ∷ []))) c.step.ensures.left c.in_ok-read_any_word-2.ensures.reads))

pub returns-clause-reads : goal.returns-clause-reads
returns-clause-reads c =
    names_done c.args.cursor.now c.read_any_word.new.cursor c.words.cursor c.in_ok-read_any_word.field-0 c.push.new.self.items c.words.names.items c.in_ok-read_any_word.ensures.reads
    (c.in_ok-push.ensures.items ∙ ap (λ xs. xs ++ c.in_ok-read_any_word.field-0 ∷ []) c.new-names.ensures.items)
    c.words.invariant (sym c.at.ensures ∙ c.words-test.false)

pub words-smaller : goal.words-smaller
words-smaller c = omega (arith, next_lt_at t.Bar c.words.cursor refl (sym c.at.ensures ∙ c.words-test.true), ap length c.step.ensures.left, behind_le c.step.new.self, ap length c.in_ok-read_any_word-2.ensures.left)
