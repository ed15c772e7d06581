-- The trees and the expressions of proper tables are proper, and so is the program that they keep.
use Rattle.std.proofs.Common.{◌≡◌, ℕ, zero, suc, ◌<◌, arith, Bool, true, false, List, [], ◌∷◌, map, length, take, get_or, sym, subst}
use Rattle.std.specs.List.{AllByRecursion}
use Rattle.xd_base.specs.declared.Place.{Place}
use Rattle.xd_doc.specs.Word.{is_word}
use Rattle.xd_doc.proofs.Lists.{all_at}
use Rattle.xd_syntax.specs.Tree.{Tree, seq_of}
use Rattle.xd_syntax.specs.TreeForms.{alt_of}
use Rattle.xd_syntax.specs.Table.{Form, empty_form, text_form, words_form, name_form, elem_form, seq_form, alt_form, star_form, plus_form, opt_form, val_form, Row, form_tree, tree_at, CanFollow, PartsBelow}
use Rattle.xd_syntax.specs.Types.{BelongsTo}
use Rattle.xd_syntax.specs.Nodes.{no_row}
use Rattle.xd_syntax.specs.Placed.{PlacedTree, unplaced}
use Rattle.xd_syntax.specs.PlacedTable.{placed_at, the_start}
use Rattle.xd_syntax.specs.Expression.{Expression, place_of_expression, joined, arguments_of}
use Rattle.xd_syntax.specs.ExpressionTable.{ExprShape, empty_shape, text_shape, var_shape, elem_shape, seq_shape, call_shape, match_shape, ExprRow, clauses_of, shape_expression, expression_at, ExprPartsBelow, ShapePatternsBelong, PatternsBelong}
use Rattle.xd_syntax.specs.FunctionRow.{FunctionRow, HasProperNames}
use Rattle.xd_syntax.specs.Proper.{IsProperTree, IsProperPattern, IsProperExpression, AreProperArguments, AreProperClauses, IsProperDefinition, IsProperParameter, IsProperFunction, IsProperProgram}
use Rattle.xd_syntax.specs.ProperTables.{IsProperForm, IsProperShape, IsTable, IsExprTable}
use Rattle.xd_syntax.specs.Kept.{ProgramTable, TypeDefStands, FunctionStands, ProgramStands, IsProperTable, type_definition, parameter, function_definition, program_tree}
use Rattle.xd_syntax.specs.declared.types.TypeDef.{TypeDef}
use Rattle.xd_syntax.specs.declared.program.Param.{Param}
use Rattle.xd_syntax.proofs.Trees.{tree_is, follows_at, parts_at}
use Rattle.xd_syntax.proofs.PlacedTrees.{unplaced_at}
use Rattle.xd_syntax.proofs.ExprTrees as E

all_below : (P : ℕ → Type 0) (n : ℕ) → ((i : ℕ) → i < n → P i) → (is : List ℕ) → AllByRecursion (λ i. i < n) is → AllByRecursion P is
all_below P n h [] a = tt
all_below P n h (i ∷ is) a = (h i a.0, all_below P n h is a.1)

seq_proper : (b : Bool) (t : ℕ → Tree) (is : List ℕ) → AllByRecursion (λ i. IsProperTree b (t i)) is → IsProperTree b (seq_of (map t is))
seq_proper b t [] a = tt
seq_proper b t (i ∷ []) a = a.0
seq_proper b t (i ∷ (j ∷ js)) a = (a.0, seq_proper b t (j ∷ js) a.1)

alt_proper : (b : Bool) (t : ℕ → Tree) (is : List ℕ) → AllByRecursion (λ i. IsProperTree b (t i)) is → IsProperTree b (alt_of (map t is))
alt_proper b t [] a = tt
alt_proper b t (i ∷ []) a = a.0
alt_proper b t (i ∷ (j ∷ js)) a = (a.0, alt_proper b t (j ∷ js) a.1)

form_proper : (b : Bool) (older : List Row) (n : ℕ) (t : ℕ → Tree) → ((i : ℕ) → i < n → IsProperTree b (t i)) →
    (f : Form) → CanFollow b older f → PartsBelow n f → IsProperForm f → IsProperTree b (form_tree t f)
form_proper b older n t h empty_form c p q = tt
form_proper b older n t h text_form c p q = tt
form_proper b older n t h (words_form w) c p q = q
form_proper b older n t h (name_form w) c p q = q
form_proper b older n t h (elem_form k i) c p q = (q, h i p)
form_proper b older n t h (seq_form is) c p q = seq_proper b t is (all_below (λ i. IsProperTree b (t i)) n h is p)
form_proper b older n t h (alt_form is) c p q = alt_proper b t is (all_below (λ i. IsProperTree b (t i)) n h is p)
form_proper b older n t h (star_form i) c p q = h i p
form_proper b older n t h (plus_form i) c p q = h i p
form_proper b older n t h (opt_form i) c p q = h i p
form_proper b older n t h (val_form x r i) c p q = (c.0, q, h i p)

tree_below : (b : Bool) (rs : List Row) → IsTable b rs → (n i : ℕ) → i < n → i < length rs → IsProperTree b (tree_at rs i)
tree_below b rs t zero i h k = absurd (omega arith)
tree_below b rs t (suc n) i h k =
    subst (IsProperTree b) (sym (tree_is b rs i no_row t.built k))
    (form_proper b (take i rs) i (tree_at rs) (λ j l. tree_below b rs t n j (omega arith) (omega arith)) (get_or rs i no_row).form
    (follows_at b rs i no_row t.built k) (parts_at b rs i no_row t.built k) (all_at (λ r. IsProperForm r.form) rs t.proper i no_row k))

-- the tree of a node
pub tree_proper : (b : Bool) (rs : List Row) → IsTable b rs → (i : ℕ) → i < length rs → IsProperTree b (unplaced (placed_at rs i))
tree_proper b rs t i k = subst (IsProperTree b) (sym (unplaced_at rs i)) (tree_below b rs t (suc i) i (omega arith) k)

joined_proper : (p : Place) (t : ℕ → Expression) (is : List ℕ) → AllByRecursion (λ i. IsProperExpression (t i)) is → IsProperExpression (joined p (map t is))
joined_proper p t [] a = tt
joined_proper p t (i ∷ []) a = a.0
joined_proper p t (i ∷ (j ∷ js)) a = (a.0, joined_proper (place_of_expression (t j)) t (j ∷ js) a.1)

arguments_proper : (t : ℕ → Expression) (is : List ℕ) → AllByRecursion (λ i. IsProperExpression (t i)) is → AreProperArguments (arguments_of (map t is))
arguments_proper t [] a = tt
arguments_proper t (i ∷ is) a = (a.0, arguments_proper t is a.1)

clauses_proper : (P : ℕ → PlacedTree) (m : ℕ) → ((j : ℕ) → j < m → IsProperPattern (P j)) → (t : ℕ → Expression) (n : ℕ) → ((i : ℕ) → i < n → IsProperExpression (t i)) →
    (cs : List (ℕ × ℕ)) → AllByRecursion (λ c. c.1 < n) cs → AllByRecursion (λ c. c.0 < m) cs → AreProperClauses (clauses_of P t cs)
clauses_proper P m g t n h [] a b = tt
clauses_proper P m g t n h (c ∷ cs) a b = (g c.0 b.0, h c.1 a.0, clauses_proper P m g t n h cs a.1 b.1)

shape_proper : (P : ℕ → PlacedTree) (m : ℕ) → ((j : ℕ) → j < m → IsProperPattern (P j)) → (t : ℕ → Expression) (n : ℕ) → ((i : ℕ) → i < n → IsProperExpression (t i)) →
    (p : Place) (f : ExprShape) → ExprPartsBelow n f → ShapePatternsBelong m f → IsProperShape f → IsProperExpression (shape_expression P t p f)
shape_proper P m g t n h p empty_shape a b q = tt
shape_proper P m g t n h p (text_shape s) a b q = q
shape_proper P m g t n h p (var_shape x) a b q = q
shape_proper P m g t n h p (elem_shape l i) a b q = (q, h i a)
shape_proper P m g t n h p (seq_shape is) a b q = joined_proper p t is (all_below (λ i. IsProperExpression (t i)) n h is a)
shape_proper P m g t n h p (call_shape f is) a b q = (q, arguments_proper t is (all_below (λ i. IsProperExpression (t i)) n h is a))
shape_proper P m g t n h p (match_shape i cs) a b q = (h i a.0, clauses_proper P m g t n h cs a.1 b)

abbrev no_expression : ExprRow
no_expression = record { place = the_start; form = empty_shape }

expression_below : (patterns : List Row) → IsTable true patterns → (rs : List ExprRow) → IsExprTable rs → PatternsBelong (length patterns) rs →
    (n i : ℕ) → i < n → i < length rs → IsProperExpression (expression_at patterns rs i)
expression_below patterns u rs t b zero i h k = absurd (omega arith)
expression_below patterns u rs t b (suc n) i h k =
    subst IsProperExpression (sym (E.expression_is patterns rs i no_expression t.built k))
    (shape_proper (placed_at patterns) (length patterns) (λ j l. tree_proper true patterns u j l) (expression_at patterns rs) i
    (λ j l. expression_below patterns u rs t b n j (omega arith) (omega arith)) (get_or rs i no_expression).place (get_or rs i no_expression).form
    (E.parts_at rs i no_expression t.built k) (E.patterns_at (length patterns) rs i no_expression b k) (all_at (λ r. IsProperShape r.form) rs t.proper i no_expression k))

definitions_proper : (types : List Row) → IsTable false types → (defs : List TypeDef) → AllByRecursion (TypeDefStands types) defs →
    AllByRecursion (λ (d : TypeDef). is_word d.name ≡ true) defs → AllByRecursion IsProperDefinition (map (type_definition types) defs)
definitions_proper types t [] s w = tt
definitions_proper types t (d ∷ ds) s w =
    (record { name = w.0; body = tree_proper false types t d.body.at (s.0).body }, definitions_proper types t ds s.1 w.1)

parameters_proper : (types : List Row) → IsTable false types → (qs : List Param) → AllByRecursion (λ (q : Param). BelongsTo types q.body) qs →
    AllByRecursion (λ (q : Param). is_word q.name ≡ true) qs → AllByRecursion IsProperParameter (map (parameter types) qs)
parameters_proper types t [] s w = tt
parameters_proper types t (q ∷ qs) s w =
    (record { name = w.0; declared = tree_proper false types t q.body.at s.0 }, parameters_proper types t qs s.1 w.1)

functions_proper : (p : ProgramTable) → ProgramStands p → IsProperTable p → (fs : List FunctionRow) → AllByRecursion (FunctionStands p.types p.exprs) fs →
    AllByRecursion HasProperNames fs → AllByRecursion IsProperFunction (map (function_definition p) fs)
functions_proper p stands proper [] s w = tt
functions_proper p stands proper (f ∷ fs) s w = (
  record {
    name = (w.0).name;
    parameters = parameters_proper p.types proper.types f.params (s.0).params (w.0).params;
    declared = tree_proper false p.types proper.types f.declared.at (s.0).declared;
    body = expression_below p.patterns proper.patterns p.exprs proper.exprs stands.clauses (suc f.body.at) f.body.at (omega arith) (s.0).body;
  },
  functions_proper p stands proper fs s.1 w.1,
)

pub program_proper : (p : ProgramTable) → ProgramStands p → IsProperTable p → IsProperProgram (program_tree p)
program_proper p stands proper = record {
  types = definitions_proper p.types proper.types p.type_defs stands.type_defs proper.type_defs;
  functions = functions_proper p stands proper p.functions stands.functions proper.functions;
}
