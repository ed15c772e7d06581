use Rattle.std.proofs.Common.{◌++◌, false, ap, sym, subst, ◌∙◌}
use Rattle.xd_proof.specs.Goals.{GoalsBelong}
use Rattle.xd_meaning.specs.Violation.{goals_of}
use Rattle.xd_syntax.specs.ProperTables.{IsTable}
use Rattle.xd_proof_write.specs.SecondText.{second_text_of}
use Rattle.xd_proof_write.specs.Written.{proof_lines}
use Rattle.xd_proof_write.proofs.TextLemmas.{second_written, table_types}
use Rattle.xd_proof_write.proofs.TheLaw.{second_texts_read_back}
use Rattle.xd_proof_write.proofs.second.second_text.Goals as goal

pub text_of-requires : goal.text_of-requires
text_of-requires c =
    let e = c.types-types.ensures.types ∙ ap (λ p. p.types) c.program.ensures.program in
    subst (λ rows. GoalsBelong rows c.goals.result.now) (sym e) (subst (λ gs. GoalsBelong c.args.sound.now.types gs) (sym c.goals.ensures.same) c.requires)

pub returns-clause-text : goal.returns-clause-text
returns-clause-text c = λ lined a.
    let e = c.types-types.ensures.types ∙ ap (λ p. p.types) c.program.ensures.program in
    c.in_ok-extend_from_slice.ensures.items
    ∙ ap (λ s. c.args.out.now.items ++ s)
    (c.deref.ensures.value ∙ c.in_ok-made.ensures ∙ ap (λ rows. proof_lines rows c.goals.result.now) e ∙ ap (proof_lines c.args.sound.now.types) c.goals.ensures.same
    ∙ second_written c.args.sound.now.types (subst (IsTable false) e c.see_table.ensures) c.args.proof.now lined a)

pub returns-clause-reads : goal.returns-clause-reads
returns-clause-reads c = λ known lined a w.
    let e = c.types-types.ensures.types ∙ ap (λ p. p.types) c.program.ensures.program in (
      second_text_of (goals_of lined),
      returns-clause-text c lined a,
      second_texts_read_back known (goals_of lined) w (table_types c.args.sound.now.types (subst (IsTable false) e c.see_table.ensures) c.args.proof.now lined a),
    )
