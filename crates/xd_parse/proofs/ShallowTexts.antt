-- The types of a text are no deeper than a text may be nested.
use Rattle.std.proofs.Common.{◌≡◌, ℕ, List, [], length, take, ap, sym, subst, ◌∙◌, arith}
use Rattle.std.proofs.Math.Seq.{take-append_seam}
use Rattle.std.specs.List.{AllByRecursion}
use Rattle.xd_doc.proofs.Lists.{all_as}
use Rattle.xd_lex.specs.Tokens.{Lexeme, tokens_of}
use Rattle.xd_syntax.specs.Placed.{PlacedTree}
use Rattle.xd_syntax.specs.Table.{KeepsRows, Row}
use Rattle.xd_syntax.specs.Program.{TypeDefinition, Parameter, FunctionDefinition, ProgramTree}
use Rattle.xd_syntax.specs.Kept.{ProgramTable, program_tree}
use Rattle.xd_grammar.specs.declared.grammar.Nonterminal.{Nonterminal}
use Rattle.xd_grammar.specs.declared.grammar.Nonterminal.TheVariants as n
use Rattle.xd_grammar.specs.declared.grammar.Sort.TheVariants as sorts
use Rattle.xd_grammar.specs.Text.{SpellsText}
use Rattle.xd_parse_trees.specs.Values.{Value, a_tree, definitions}
use Rattle.xd_parse_trees.specs.Reading.{Reads, behind}
use Rattle.xd_syntax.specs.ShallowTables.{AddsWithin, IsShallow}
use Rattle.xd_syntax.specs.Shallow.{nesting_limit}
use Rattle.xd_parse_trees.specs.Shallow.{NoDeeper, TreeWithin, ParametersWithin, DefinitionsWithin}
use Rattle.xd_syntax.proofs.ShallowTables.{none_within}
use Rattle.xd_parse_trees.proofs.Depth.{AnyWithin}
use Rattle.xd_parse_trees.proofs.Kept.{KeepsRows-refl}
use Rattle.xd_parse.proofs.ValueDepthLemmas.{Within, ProgramWithin, TypeDefWithin, ParamWithin, FunctionWithin, all_within}
use Rattle.xd_parse.proofs.Spelled.{read_within}
use Rattle.xd_parse.proofs.Turned.{type_text_reads}

tree_within : (limit : ℕ) (T : PlacedTree) → AnyWithin limit 0 T → TreeWithin T limit
tree_within limit T h = let a = h.1 in omega arith

params_within : (limit : ℕ) (qs : List Parameter) → AllByRecursion (ParamWithin limit 0) qs → ParametersWithin qs limit
params_within limit qs a = all_as (ParamWithin limit 0) (λ (q : Parameter). TreeWithin q.declared limit) (λ q h. tree_within limit q.declared h) qs a

program_within : (limit : ℕ) (P : ProgramTree) → ProgramWithin limit 0 P → DefinitionsWithin P limit
program_within limit P h = (
  all_as (TypeDefWithin limit 0) (λ (t : TypeDefinition). TreeWithin t.body limit) (λ t k. tree_within limit t.body k) P.types h.0,
  all_as (FunctionWithin limit 0) (λ (f : FunctionDefinition). ParametersWithin f.parameters limit × TreeWithin f.declared limit) (λ f k. (params_within limit f.parameters k.0, tree_within limit f.declared k.1)) P.functions h.1,
)

-- what the tokens of a text stand for is within its limit
text_within : (part : Nonterminal) (bytes : List ℕ) (ls to : List Lexeme) (v : Value) → SpellsText part bytes → ls ≡ tokens_of bytes → Reads part ls to v → Within nesting_limit part 0 v
text_within part bytes ls to v s e r =
    all_within nesting_limit part (tokens_of bytes) v (read_within nesting_limit part (tokens_of bytes) to v s.spells (subst (λ (xs : List Lexeme). Reads part xs to v) e r))

pub program_shallow : (bytes : List ℕ) (ls to : List Lexeme) (p : ProgramTable) → SpellsText n.Definitions bytes → ls ≡ tokens_of bytes → Reads n.Definitions ls to (definitions (program_tree p)) →
    NoDeeper (DefinitionsWithin (program_tree p)) [] p.types → IsShallow p.types
program_shallow bytes ls to p s e r d i h =
    d nesting_limit (omega arith) (program_within nesting_limit (program_tree p) (text_within n.Definitions bytes ls to (definitions (program_tree p)) s e r)) i (omega arith) h

pub type_shallow : (bytes : List ℕ) (ls to : List Lexeme) (old new : List Row) (T : PlacedTree) → SpellsText n.TypeText bytes → ls ≡ tokens_of bytes → Reads (n.Alternative sorts.Type) ls to (a_tree T) → NoDeeper (TreeWithin T) old new → AddsWithin nesting_limit old new
type_shallow bytes ls to old new T s e r d = d nesting_limit (omega arith) (tree_within nesting_limit T (text_within n.TypeText bytes ls (behind to) (a_tree T) s e (type_text_reads ls to T r)))

-- ---- nodes that are taken off again
pub taken_off : (old grown new : List Row) (k : ℕ) → KeepsRows old grown → k ≡ length old → new ≡ take k grown → new ≡ old
taken_off old grown new k g l e = e ∙ ap (λ n. take n grown) l ∙ ap (take (length old)) g.grown ∙ take-append_seam old g.more

pub same_keeps : (old new : List Row) → new ≡ old → KeepsRows old new
same_keeps old new e = subst (λ (rs : List Row). KeepsRows old rs) (sym e) (KeepsRows-refl old)

pub same_within : (old new : List Row) → new ≡ old → AddsWithin nesting_limit old new
same_within old new e = subst (λ (rs : List Row). AddsWithin nesting_limit old rs) (sym e) (none_within nesting_limit old)
