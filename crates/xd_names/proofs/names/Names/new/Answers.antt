use Rattle.std.proofs.Common.{List, ◌∷◌, map, ap, ◌∙◌}
use Rattle.xd_syntax.specs.Words.{has_word, any_word}
use Rattle.xd_syntax.specs.FunctionRow.{FunctionRow}
use Rattle.xd_syntax.specs.declared.types.TypeDef.{TypeDef}
use Rattle.xd_names.specs.Knows.{whole, arity_of}
use Rattle.xd_names.proofs.NameLemmas.{names-types, arity_known}
use Rattle.xd_names.proofs.names.Names.new.Goals as goal

pub returns : goal.returns
unfolding whole
returns c = record {
  types = λ w. c.in_ok-types.ensures w
      ∙ ap (λ (defs : List TypeDef). has_word (any_word ∷ map (λ (t : TypeDef). t.name) defs) w) c.type_defs.ensures.type_defs
      ∙ ap (λ ws. has_word (any_word ∷ ws) w) (names-types c.args.program.now.types c.args.program.now.type_defs);
  functions = λ w. c.in_ok-arities.ensures w
      ∙ ap (λ (fs : List FunctionRow). arity_of fs w) c.functions.ensures.functions
      ∙ arity_known c.args.program.now c.args.program.now.functions w;
}
