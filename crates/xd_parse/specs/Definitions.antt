-- Definitions and parameters as they are read.
use Rattle.std.specs.Prelude.{List, [], ◌∷◌, ◌++◌}
use Rattle.xd_lex.specs.Tokens.{Lexeme}
use Rattle.xd_syntax.specs.Program.{TypeDefinition, Parameter, FunctionDefinition, ProgramTree}
use Rattle.xd_grammar.specs.declared.grammar.Nonterminal.TheVariants as n
use Rattle.xd_parse_trees.specs.Values.{a_parameter, parameters, definitions}
use Rattle.xd_parse_trees.specs.Reading.{Reads}

-- the definitions of two programs, those of the first in front
abbrev pub in_front : ProgramTree → ProgramTree → ProgramTree
in_front P Q = record { types = P.types ++ Q.types; functions = P.functions ++ Q.functions }

abbrev pub one_type : TypeDefinition → ProgramTree
one_type d = record { types = d ∷ []; functions = [] }

abbrev pub one_function : FunctionDefinition → ProgramTree
one_function f = record { types = []; functions = f ∷ [] }

-- Whatever the definitions from there on stand for, those from here on stand for it with this
-- program in front.
abbrev pub ReadsInFront : ProgramTree → (here there : List Lexeme) → Type 0
ReadsInFront P here there = (to : List Lexeme) (Q : ProgramTree) → Reads n.Definitions there to (definitions Q) → Reads n.Definitions here to (definitions (in_front P Q))

-- one parameter or more
abbrev pub ReadsParameters : (from to : List Lexeme) → List Parameter → Type 0
ReadsParameters from to [] = ⊥
ReadsParameters from to (q ∷ qs) = (middle : List Lexeme) × Reads n.Param from middle (a_parameter q) × Reads n.MoreParams middle to (parameters qs)
