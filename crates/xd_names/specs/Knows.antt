-- What is known of a program's names.
use Rattle.std.specs.Prelude.{◌≡◌, ℕ, cond, not, nat_eq, List, [], ◌∷◌, ◌++◌, flat_map, length, Option, Some, None}
use Rattle.std.specs.Option.{option_map}
use Rattle.std.specs.BTreeMap.{get}
use Rattle.std.specs.Ordering.{nat_cmp}
use Rattle.std.specs.Cmp.Lexicographic.{slice_cmp}
use Rattle.std.specs.Str.{bytes_eq}
use Rattle.xd_base.specs.declared.Place.{Place}
use Rattle.xd_syntax.specs.Words.{has_word}
use Rattle.xd_syntax.specs.Program.{TypeDefinition, FunctionDefinition, ProgramTree, function_of}
use Rattle.xd_syntax.specs.FunctionRow.{FunctionRow}
use Rattle.xd_syntax.specs.Kept.{ProgramTable, program_tree}
use Rattle.xd_syntax.specs.NameFaults.{fault_at, fault_if, known_types, unknown_types, duplicate_names, function_faults}
use Rattle.xd_syntax.specs.declared.fault.Fault.{Fault}
use Rattle.xd_syntax.specs.declared.fault.FaultKind.TheVariants.{UnknownFunction, Arity}
use Rattle.xd_names.specs.declared.names.Names.{Names}

-- the program that is kept so
unfoldable pub whole : ProgramTable → ProgramTree
whole p = program_tree p

-- how many parameters the first function of a name has
abbrev pub arity_of : List FunctionRow → List ℕ → Option ℕ
arity_of [] w = None
arity_of (f ∷ fs) w = cond (bytes_eq f.name w) (Some (length f.params)) (arity_of fs w)

-- the faults of a call's name, where this many arguments are wanted
abbrev pub wanted_faults : Option ℕ → Place → List ℕ → ℕ → List Fault
wanted_faults None p f given = fault_at p (UnknownFunction f) ∷ []
wanted_faults (Some wanted) p f given = fault_if (not (nat_eq given wanted)) p (Arity f given wanted)

-- the names are those of the program
pub record Knows (names : Names) (P : ProgramTree) : Type 0 where
  pub types : (w : List ℕ) → has_word names.types w ≡ has_word (known_types P) w
  pub functions : (w : List ℕ) → get (slice_cmp nat_cmp) names.arities w ≡ option_map (λ (g : FunctionDefinition). length g.parameters) (function_of P.functions w)

-- all faults: those of definitions, then those of types, then those of functions
abbrev pub unordered : ProgramTree → List Fault
unordered P =
    duplicate_names P
    ++ flat_map (λ (t : TypeDefinition). unknown_types (known_types P) t.body) P.types
    ++ flat_map (function_faults P) P.functions
