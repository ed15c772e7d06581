use Rattle.std.proofs.Common.{◌≡◌, true, false, sym, ap, subst, ◌∙◌}
use Rattle.xd_syntax.specs.Words.{has_word}
use Rattle.xd_syntax.specs.Keywords.{is_type_name}
use Rattle.xd_syntax.specs.Kept.{ProgramTable, program_tree}
use Rattle.xd_syntax.specs.NameFaults.{known_types}
use Rattle.xd_sound.proofs.NamedLaws.{known_is_word, known_is_name}
use Rattle.xd_sound.proofs.sound.SoundProgram.defined_name.Goals as goal

pub returns-then-not-is_word-clause-defined : goal.returns-then-not-is_word-clause-defined
returns-then-not-is_word-clause-defined c =
    subst (λ (p : ProgramTable). false ≡ has_word (known_types (program_tree p)) c.args.word.now) c.self.view_is
    (known_is_word _ _ c.args.word.now c.see_program.ensures.types (sym c.is_word.ensures ∙ c.if-not-is_word.true))

pub returns-then-is_known-clause-found : goal.returns-then-is_known-clause-found
returns-then-is_known-clause-found c = (
  c.in_ok-name.ensures,
  subst (λ w. is_type_name w ≡ true) (sym c.in_ok-name.ensures)
      (known_is_name _ _ c.args.word.now c.type_defs-stand.ensures.stands.type_defs c.requires.other
      (sym c.if-is_known.true ∙ c.is_known.ensures ∙ ap (λ w. has_word (known_types (program_tree c.args.self.now)) w) c.in_ok-name.ensures
      ∙ ap (λ (p : ProgramTable). has_word (known_types (program_tree p)) c.args.word.now) (sym c.self.view_is))),
)
