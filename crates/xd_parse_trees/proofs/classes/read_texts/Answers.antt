use Rattle.std.proofs.Common.{[], ◌∷◌, ◌++◌, sym, ap, ◌∙◌, arith, length, refl}
use Rattle.xd_parse_trees.proofs.ClassRows.{texts_more, texts_done}
use Rattle.xd_parse_trees.proofs.Rows.{behind_le, next_lt_at}
use Rattle.xd_grammar.specs.declared.grammar.Terminal.TheVariants as t
use Rattle.xd_parse_trees.proofs.classes.read_texts.Goals as goal

pub more-preserved : goal.more-preserved
more-preserved c =
    rw c.in_ok-push-2.ensures.items (texts_more _ _ _ _ _ _ c.in_ok-next.next.text c.more.invariant (sym c.at.ensures ∙ c.more-test.true) c.step.ensures.left c.in_ok-next.ensures.text c.in_ok-next.ensures.left)

pub returns-clause-reads : goal.returns-clause-reads
returns-clause-reads c =
    texts_done c.args.cursor.now c.quoted.new.self c.more.cursor c.in_ok-first.first.text c.push.new.self.items c.more.texts.items (c.in_ok-first.ensures.text c.requires) c.in_ok-first.ensures.left
    (c.in_ok-push.ensures.items ∙ ap (λ xs. xs ++ c.in_ok-first.first.text ∷ []) c.new-texts.ensures.items)
    c.more.invariant (sym c.at.ensures ∙ c.more-test.false)

pub more-smaller : goal.more-smaller
more-smaller c = omega (arith, next_lt_at t.Bar c.more.cursor refl (sym c.at.ensures ∙ c.more-test.true), ap length c.step.ensures.left, behind_le c.step.new.self, ap length c.in_ok-next.ensures.left)
