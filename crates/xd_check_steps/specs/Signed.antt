-- The declared types of functions as states.
use Rattle.std.specs.Prelude.{◌≡◌, ℕ, suc, true, ◌↔◌, cond, List, [], ◌∷◌, ◌++◌, length, map, Option, Some, None}
use Rattle.std.specs.List.{slice_get}
use Rattle.std.specs.Ordering.{nat_cmp}
use Rattle.std.specs.Cmp.Lexicographic.{slice_cmp}
use Rattle.std.specs.Str.{bytes_eq}
use Rattle.std.specs.BTreeMap.{get}
use Rattle.xd_doc.specs.Document.{Document}
use Rattle.xd_auto.specs.declared.auto.State.{State}
use Rattle.xd_auto.specs.Automaton.{Automaton, IsState, accepts}
use Rattle.xd_syntax.specs.Tree.{Definitions}
use Rattle.xd_syntax.specs.Placed.{PlacedTree, unplaced}
use Rattle.xd_syntax.specs.Fits.{Fits}
use Rattle.xd_syntax.specs.Program.{Parameter, FunctionDefinition, ProgramTree, names_of, function_of}
use Rattle.xd_syntax.specs.Kept.{ProgramTable, function_definition, program_tree}
use Rattle.xd_syntax.specs.FunctionRow.{FunctionRow}
use Rattle.xd_syntax.specs.declared.program.Param.{Param}
use Rattle.xd_syntax.specs.declared.types.TypeId.{TypeId}
use Rattle.xd_meaning.specs.KeptFaults.{AllPaired}
use Rattle.xd_check_steps.specs.declared.signatures.Signature.{Signature}
use Rattle.xd_check_steps.specs.declared.signatures.Signatures.{Signatures}

-- the state accepts exactly what fits the type
pub record IsTypeState (E : Definitions) (a : Automaton) (T : PlacedTree) (s : State) : Type 0 where
  pub belongs : IsState a s
  pub exact : (d : Document) → (accepts a d s ≡ true) ↔ Fits E (unplaced T) d

abbrev pub AreParameters : Definitions → Automaton → List Parameter → List State → Type 0
AreParameters E a qs ss = AllPaired (λ (q : Parameter) (s : State). IsTypeState E a q.declared s) qs ss

-- the states are those of the function's declared types
pub record IsSignature (E : Definitions) (a : Automaton) (f : FunctionDefinition) (g : Signature) : Type 0 where
  pub parameters : AreParameters E a f.parameters g.parameters.items
  pub result : IsTypeState E a f.declared g.declared

abbrev pub IsSignatureOf : Definitions → Automaton → Option FunctionDefinition → Option Signature → Type 0
IsSignatureOf E a None None = Unit {0}
IsSignatureOf E a None (Some g) = ⊥
IsSignatureOf E a (Some f) None = ⊥
IsSignatureOf E a (Some f) (Some g) = IsSignature E a f g

-- the number of the first function of a name, where the first of these has the number n
abbrev pub number_from : ℕ → List FunctionRow → List ℕ → Option ℕ
number_from n [] w = None
number_from n (f ∷ fs) w = cond (bytes_eq f.name w) (Some n) (number_from (suc n) fs w)

abbrev pub signature_at : List Signature → Option ℕ → Option Signature
signature_at gs None = None
signature_at gs (Some n) = slice_get gs n

-- the signature of the first function of a name
abbrev pub signature_of : Signatures → List ℕ → Option Signature
signature_of g w = signature_at g.rows.items (get (slice_cmp nat_cmp) g.numbers w)

-- each function has its signature, and each name that of its first function
pub record AreSignatures (P : ProgramTree) (a : Automaton) (g : Signatures) : Type 0 where
  pub each : AllPaired (IsSignature (names_of P) a) P.functions g.rows.items
  pub named : (w : List ℕ) → IsSignatureOf (names_of P) a (function_of P.functions w) (signature_of g w)

-- the signature is that of a function of the program
abbrev pub IsSignatureOfRow : ProgramTable → Automaton → FunctionRow → Signature → Type 0
IsSignatureOfRow p a f g = IsSignature (names_of (program_tree p)) a (function_definition p f) g

-- the types that functions declare, those of the parameters and then that of the result
abbrev pub types_of : FunctionRow → List TypeId
types_of f = map (λ (q : Param). q.body) f.params ++ f.declared ∷ []

abbrev pub types_declared : List FunctionRow → List TypeId
types_declared [] = []
types_declared (f ∷ fs) = types_of f ++ types_declared fs

-- their states, in the same order
abbrev pub states_signed : List Signature → List State
states_signed [] = []
states_signed (g ∷ gs) = (g.parameters.items ++ g.declared ∷ []) ++ states_signed gs

abbrev pub HasParameters : FunctionRow → Signature → Type 0
HasParameters f g = length g.parameters.items ≡ length f.params
