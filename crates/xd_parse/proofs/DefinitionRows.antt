-- What parameters and definitions read, and programs as their definitions are added.
use Rattle.std.proofs.Common.{◌≡◌, ℕ, ◌<◌, arith, Bool, true, false, List, [], ◌∷◌, ◌++◌, Some, length, map, refl, sym, ap, subst, ◌∙◌, append_assoc, append-nil}
use Rattle.std.proofs.lemmas.List.{map-append}
use Rattle.std.specs.List.{AllByRecursion}
use Rattle.xd_base.specs.declared.Place.{Place}
use Rattle.xd_doc.proofs.Lists.{all_push, all_front, all_back}
use Rattle.xd_lex.specs.Tokens.{Lexeme}
use Rattle.xd_syntax.specs.Placed.{PlacedTree}
use Rattle.xd_syntax.specs.Table.{Row as NodeRow, KeepsRows}
use Rattle.xd_syntax.specs.Types.{BelongsTo}
use Rattle.xd_syntax.specs.Expression.{Expression}
use Rattle.xd_syntax.specs.ExpressionTable.{ExprRow}
use Rattle.xd_syntax.specs.Program.{TypeDefinition, Parameter, FunctionDefinition, ProgramTree}
use Rattle.xd_syntax.specs.FunctionRow.{FunctionRow}
use Rattle.xd_syntax.specs.Kept.{ProgramTable, TypeDefStands, FunctionStands, ProgramStands, type_definition, parameter, function_definition, program_tree}
use Rattle.xd_syntax.specs.declared.types.TypeDef.{TypeDef}
use Rattle.xd_syntax.specs.declared.program.Param.{Param}
use Rattle.xd_grammar.specs.declared.grammar.Nonterminal.TheVariants as n
use Rattle.xd_grammar.specs.declared.grammar.Sort.TheVariants as sorts
use Rattle.xd_grammar.specs.declared.grammar.Symbol.TheVariants.{Token, Opening, Closed, Unless, Part}
use Rattle.xd_grammar.specs.declared.grammar.Terminal.{Terminal}
use Rattle.xd_grammar.specs.declared.grammar.Terminal.TheVariants as t
use Rattle.xd_grammar.specs.Grammar.{Row, rules}
use Rattle.xd_grammar.specs.Fits.{same, first_fit}
use Rattle.xd_parse_trees.specs.Values.{Value, word, a_tree, an_expression, a_parameter, parameters, definitions, token_of}
use Rattle.xd_parse_trees.specs.Reading.{Reads, front_terminal, front_place, front_text, behind}
use Rattle.xd_parse_trees.proofs.StandLemmas.{kept}
use Rattle.xd_parse.specs.Definitions.{in_front, one_type, one_function, ReadsInFront, ReadsParameters}
use Rattle.xd_parse.specs.Grows.{Grows}
use Rattle.xd_parse_trees.specs.Shallow.{NoDeeper, TreeWithin, ParametersWithin, DefinitionsWithin}
use Rattle.xd_grammar.proofs.Derive.{same-true}
use Rattle.xd_parse_trees.proofs.Kept.{IsPattern-more}
use Rattle.xd_parse.proofs.Grown.{IsExpr-more, same_expression, Grows-refl}
use Rattle.xd_parse_trees.proofs.AddedDepth.{deeper_both}
use Rattle.xd_parse_trees.proofs.Rows.{MeansView, means_view, ReadsRow, row_end, row_token, row_opening, row_closed, row_unless, row_part, part_one, part_fit, part_none}

pub behind_fewer : (from next : List Lexeme) (k : Terminal) → (t.Broken ≡ k → ⊥) → front_terminal from ≡ k → next ≡ behind from → length next < length from
behind_fewer [] next k ne h e = absurd (ne h)
behind_fewer (l ∷ ls) next k ne h e = let f = ap length e in omega arith

-- ---- rows, by the lists of tokens that the cursor goes along
along_token : (k : Terminal) (row : Row) (from next to : List Lexeme) (vs : List Value) → next ≡ behind from → ReadsRow row next to vs → ReadsRow (Token k ∷ row) from to (token_of k (front_text from) (front_place from) ∷ vs)
along_token k row from next to vs e r = row_token k row from to vs (subst (λ (x : List Lexeme). ReadsRow row x to vs) e r)

along_opening : (k : Terminal) (row : Row) (from next to : List Lexeme) (vs : List Value) → next ≡ behind from → ReadsRow row next to vs → ReadsRow (Opening k ∷ row) from to (token_of k (front_text from) (front_place from) ∷ vs)
along_opening k row from next to vs e r = row_opening k row from to vs (subst (λ (x : List Lexeme). ReadsRow row x to vs) e r)

same_word : (x y : List ℕ) (p q : Place) (vs ws : List Value) → ws ≡ word y q ∷ vs → x ≡ y → p ≡ q → ws ≡ word x p ∷ vs
same_word x y p q vs ws e f g = cc

-- a word that the cursor takes
abbrev pub IsWordAt : List Lexeme → List ℕ → Place → Type 0
IsWordAt from x p = (front_terminal from ≡ t.Word → x ≡ front_text from) × (p ≡ front_place from)

along_word : (row : Row) (from next to : List Lexeme) (x : List ℕ) (p : Place) (vs : List Value) → IsWordAt from x p → next ≡ behind from → ReadsRow row next to vs → ReadsRow (Token t.Word ∷ row) from to (word x p ∷ vs)
along_word row from next to x p vs w e r rest ws m =
    let v : MeansView (Token t.Word ∷ row) from rest ws = means_view m in
    let q : (rest ≡ to) × (ws ≡ word (front_text from) (front_place from) ∷ vs) = along_token t.Word row from next to vs e r rest ws m in
    (q.0, same_word x (front_text from) p (front_place from) vs ws q.1 (w.0 (ap front_terminal v.3 ∙ v.4)) w.1)

-- ---- parameters
abbrev param_row : Row
param_row = Opening t.ParenL ∷ Token t.Val ∷ Token t.Word ∷ Token t.As ∷ Part (n.Alternative sorts.Type) ∷ Token t.ParenR ∷ Closed ∷ []

pub param_reads : (from c1 c2 c3 c4 c5 to : List Lexeme) (x : List ℕ) (p : Place) (T : PlacedTree) → c1 ≡ behind from → c2 ≡ behind c1 → IsWordAt c2 x p → c3 ≡ behind c2 → c4 ≡ behind c3 → Reads (n.Alternative sorts.Type) c4 c5 (a_tree T) → to ≡ behind c5 → Reads n.Param from to (a_parameter (record { name = x; place = p; declared = T }))
param_reads from c1 c2 c3 c4 c5 to x p T e1 e2 w e3 e4 r e5 =
    part_one n.Param param_row from to _ refl
    (along_opening t.ParenL _ from c1 to _ e1
    (along_token t.Val _ c1 c2 to _ e2
    (along_word _ c2 c3 to x p _ w e3
    (along_token t.As _ c3 c4 to _ e4
    (row_part (n.Alternative sorts.Type) _ c4 c5 to (a_tree T) _ r
    (along_token t.ParenR _ c5 to to _ e5
    (row_closed [] to to [] (row_end to))))))))

-- one more parameter in front
pub one_more_parameter : (from middle to : List Lexeme) (q : Parameter) (qs : List Parameter) → same t.ParenL (front_terminal from) ≡ true → Reads n.Param from middle (a_parameter q) → Reads n.MoreParams middle to (parameters qs) → Reads n.MoreParams from to (parameters (q ∷ qs))
one_more_parameter from middle to q qs h r more =
    part_fit n.MoreParams (Part n.Param ∷ Part n.MoreParams ∷ []) from to _ refl (rw h refl)
    (row_part n.Param _ from middle to (a_parameter q) _ r
    (row_part n.MoreParams _ middle to to (parameters qs) _ more
    (row_end to)))

pub no_more_parameters : (from : List Lexeme) → same t.ParenL (front_terminal from) ≡ false → Reads n.MoreParams from from (parameters [])
no_more_parameters from h = part_fit n.MoreParams (Unless t.ParenL ∷ []) from from [] refl (rw h refl) (row_unless t.ParenL [] from from [] (row_end from))

-- what the first parameters have read, and those after them: whatever those there stand for, it
-- stands after them
abbrev pub ReadsMoreInFront : List Parameter → (here there : List Lexeme) → Type 0
ReadsMoreInFront qs here there = (to : List Lexeme) (rs : List Parameter) → Reads n.MoreParams there to (parameters rs) → Reads n.MoreParams here to (parameters (qs ++ rs))

abbrev pub ReadsParametersSoFar : (from here : List Lexeme) → List Parameter → Type 0
ReadsParametersSoFar from here [] = ⊥
ReadsParametersSoFar from here (q ∷ qs) = (middle : List Lexeme) × Reads n.Param from middle (a_parameter q) × ReadsMoreInFront qs middle here

first_parameter : (from here : List Lexeme) (q : Parameter) → Reads n.Param from here (a_parameter q) → ReadsParametersSoFar from here (q ∷ [])
first_parameter from here q r = (here, r, λ to rs more. more)

next_parameter : (from here next : List Lexeme) (qs : List Parameter) (q : Parameter) → same t.ParenL (front_terminal here) ≡ true → ReadsParametersSoFar from here qs → Reads n.Param here next (a_parameter q) → ReadsParametersSoFar from next (qs ++ q ∷ [])
next_parameter from here next [] q h so r = absurd so
next_parameter from here next (p ∷ qs) q h so r = (so.0, so.1, λ to rs more. subst (λ (xs : List Parameter). Reads n.MoreParams so.0 to (parameters xs)) (sym (append_assoc qs (q ∷ []) rs)) (so.2 to (q ∷ rs) (one_more_parameter here next to q rs h r more)))

last_parameter : (from here : List Lexeme) (qs : List Parameter) → same t.ParenL (front_terminal here) ≡ false → ReadsParametersSoFar from here qs → ReadsParameters from here qs
last_parameter from here [] h so = absurd so
last_parameter from here (q ∷ qs) h so = (so.0, so.1, subst (λ (xs : List Parameter). Reads n.MoreParams so.0 here (parameters xs)) (append-nil qs) (so.2 here [] (no_more_parameters here h)))

-- parameters over a table of types that grows
abbrev pub ParamsBelong : List NodeRow → List Param → Type 0
ParamsBelong types ps = AllByRecursion (λ (q : Param). BelongsTo types q.body) ps

pub record Params (types : List NodeRow) (from here : List Lexeme) (ps : List Param) : Type 0 where
  pub reads : ReadsParametersSoFar from here (map (parameter types) ps)
  pub belong : ParamsBelong types ps

pub params_more : (old new : List NodeRow) (ps : List Param) → KeepsRows old new → ParamsBelong old ps → ParamsBelong new ps
params_more old new [] k a = tt
params_more old new (q ∷ ps) k a = (IsPattern-more old new q.body.at k a.0, params_more old new ps k a.1)

same_params : (old new : List NodeRow) (ps : List Param) → KeepsRows old new → ParamsBelong old ps → map (parameter new) ps ≡ map (parameter old) ps
same_params old new [] k a = refl
same_params old new (q ∷ ps) k a = let e = kept old new q.body.at k a.0 in let f = same_params old new ps k a.1 in cc

pub first_param : (types : List NodeRow) (from here : List Lexeme) (q : Param) → Reads n.Param from here (a_parameter (parameter types q)) → BelongsTo types q.body → Params types from here (q ∷ [])
first_param types from here q r b = record { reads = first_parameter from here (parameter types q) r; belong = (b, tt) }

pub next_param : (old new : List NodeRow) (from here next : List Lexeme) (ps : List Param) (q : Param) → same t.ParenL (front_terminal here) ≡ true → KeepsRows old new → Params old from here ps → Reads n.Param here next (a_parameter (parameter new q)) → BelongsTo new q.body → Params new from next (ps ++ q ∷ [])
next_param old new from here next ps q h k so r b = record {
  reads = subst (ReadsParametersSoFar from next) (sym (map-append (parameter new) ps (q ∷ [])))
      (next_parameter from here next (map (parameter new) ps) (parameter new q) h (subst (ReadsParametersSoFar from here) (sym (same_params old new ps k so.belong)) so.reads) r);
  belong = all_push (λ (x : Param). BelongsTo new x.body) ps q (params_more old new ps k so.belong) b;
}

pub last_param : (types : List NodeRow) (from here : List Lexeme) (ps : List Param) → same t.ParenL (front_terminal here) ≡ false → Params types from here ps → ReadsParameters from here (map (parameter types) ps)
last_param types from here ps h so = last_parameter from here (map (parameter types) ps) h so.reads

-- parameters that were read stay what they were
pub params_kept : (old new : List NodeRow) (from to : List Lexeme) (ps : List Param) → KeepsRows old new → ParamsBelong old ps → ReadsParameters from to (map (parameter old) ps) → ReadsParameters from to (map (parameter new) ps)
params_kept old new from to ps k b r = subst (ReadsParameters from to) (sym (same_params old new ps k b)) r

parameters_apart : (old new : List NodeRow) (ps : List Param) (q : Param) (limit : ℕ) → KeepsRows old new → ParamsBelong old ps → ParametersWithin (map (parameter new) (ps ++ q ∷ [])) limit →
    ParametersWithin (map (parameter old) ps ++ parameter new q ∷ []) limit
parameters_apart old new ps q limit k b w =
    subst (λ (qs : List Parameter). ParametersWithin qs limit) (map-append (parameter new) ps (q ∷ []) ∙ ap (λ (qs : List Parameter). qs ++ parameter new q ∷ []) (same_params old new ps k b)) w

pub next_deeper : (old middle new : List NodeRow) (ps : List Param) (q : Param) → KeepsRows middle new → ParamsBelong middle ps → NoDeeper (ParametersWithin (map (parameter middle) ps)) old middle →
    NoDeeper (TreeWithin (parameter new q).declared) middle new → NoDeeper (ParametersWithin (map (parameter new) (ps ++ q ∷ []))) old new
next_deeper old middle new ps q k b c d =
    deeper_both (ParametersWithin (map (parameter middle) ps)) (TreeWithin (parameter new q).declared) (ParametersWithin (map (parameter new) (ps ++ q ∷ []))) old middle new k
    (λ limit o w. all_front (λ (x : Parameter). TreeWithin x.declared limit) (map (parameter middle) ps) (parameter new q ∷ []) (parameters_apart middle new ps q limit k b w))
    (λ limit o w. (all_back (λ (x : Parameter). TreeWithin x.declared limit) (map (parameter middle) ps) (parameter new q ∷ []) (parameters_apart middle new ps q limit k b w)).0) c d

-- ---- definitions
abbrev type_row : Row
type_row = Token t.Type ∷ Token t.Word ∷ Token t.Equals ∷ Part (n.Alternative sorts.Type) ∷ Part n.Definitions ∷ []

abbrev function_row : Row
function_row = Token t.Fun ∷ Token t.Word ∷ Part n.Param ∷ Part n.MoreParams ∷ Token t.Colon ∷ Part (n.Alternative sorts.Type) ∷ Token t.Equals ∷ Part n.Expr ∷ Part n.Definitions ∷ []

abbrev end_row : Row
end_row = Token t.End ∷ []

fits_at : (k : Terminal) (from : List Lexeme) (made : Row) → front_terminal from ≡ k → first_fit (rules n.Definitions) k ≡ Some made → first_fit (rules n.Definitions) (front_terminal from) ≡ Some made
fits_at k from made e f = subst (λ (j : Terminal). first_fit (rules n.Definitions) j ≡ Some made) (sym e) f

pub type_def_reads : (from c1 c2 c3 there : List Lexeme) (x : List ℕ) (p : Place) (T : PlacedTree) → front_terminal from ≡ t.Type → c1 ≡ behind from → IsWordAt c1 x p → c2 ≡ behind c1 → c3 ≡ behind c2 → Reads (n.Alternative sorts.Type) c3 there (a_tree T) → ReadsInFront (one_type (record { name = x; place = p; body = T })) from there
type_def_reads from c1 c2 c3 there x p T h e1 w e2 e3 r to Q more =
    part_fit n.Definitions type_row from to _ refl (fits_at t.Type from type_row h refl)
    (along_token t.Type _ from c1 to _ e1
    (along_word _ c1 c2 to x p _ w e2
    (along_token t.Equals _ c2 c3 to _ e3
    (row_part (n.Alternative sorts.Type) _ c3 there to (a_tree T) _ r
    (row_part n.Definitions _ there to to (definitions Q) _ more
    (row_end to))))))

pub function_reads : (from c1 c2 c3 c4 c5 c6 there : List Lexeme) (x : List ℕ) (p : Place) (qs : List Parameter) (T : PlacedTree) (e : Expression) → front_terminal from ≡ t.Fun → c1 ≡ behind from → IsWordAt c1 x p → c2 ≡ behind c1 → ReadsParameters c2 c3 qs → c4 ≡ behind c3 → Reads (n.Alternative sorts.Type) c4 c5 (a_tree T) → c6 ≡ behind c5 → Reads n.Expr c6 there (an_expression e) → ReadsInFront (one_function (record { name = x; place = p; parameters = qs; declared = T; body = e })) from there
function_reads from c1 c2 c3 c4 c5 c6 there x p [] T e h e1 w e2 ps e3 r e4 s to Q more = absurd ps
function_reads from c1 c2 c3 c4 c5 c6 there x p (q ∷ qs) T e h e1 w e2 ps e3 r e4 s to Q more =
    part_fit n.Definitions function_row from to _ refl (fits_at t.Fun from function_row h refl)
    (along_token t.Fun _ from c1 to _ e1
    (along_word _ c1 c2 to x p _ w e2
    (row_part n.Param _ c2 ps.0 to (a_parameter q) _ ps.1
    (row_part n.MoreParams _ ps.0 c3 to (parameters qs) _ ps.2
    (along_token t.Colon _ c3 c4 to _ e3
    (row_part (n.Alternative sorts.Type) _ c4 c5 to (a_tree T) _ r
    (along_token t.Equals _ c5 c6 to _ e4
    (row_part n.Expr _ c6 there to (an_expression e) _ s
    (row_part n.Definitions _ there to to (definitions Q) _ more
    (row_end to))))))))))

abbrev nothing : ProgramTree
nothing = record { types = []; functions = [] }

end_by : (b : Bool) (from next : List Lexeme) → same t.End (front_terminal from) ≡ b → next ≡ behind from → same t.Type (front_terminal from) ≡ false → same t.Fun (front_terminal from) ≡ false → Reads n.Definitions from next (definitions nothing)
end_by true from next e f g h =
    part_fit n.Definitions end_row from next _ refl (fits_at t.End from end_row (sym (same-true t.End (front_terminal from) e)) refl)
    (along_token t.End [] from next next [] f (row_end next))
end_by false from next e f g h = part_none n.Definitions from next (definitions nothing) (rw (g, h, e) refl)

-- after the last definition
pub end_reads : (from next : List Lexeme) → next ≡ behind from → same t.Type (front_terminal from) ≡ false → same t.Fun (front_terminal from) ≡ false → Reads n.Definitions from next (definitions nothing)
end_reads from next f g h = end_by (same t.End (front_terminal from)) from next refl f g h

front_assoc : (P Q R : ProgramTree) → in_front P (in_front Q R) ≡ in_front (in_front P Q) R
front_assoc P Q R = let e = append_assoc P.types Q.types R.types in let f = append_assoc P.functions Q.functions R.functions in cc

in_front_trans : (P Q : ProgramTree) (here middle there : List Lexeme) → ReadsInFront P here middle → ReadsInFront Q middle there → ReadsInFront (in_front P Q) here there
in_front_trans P Q here middle there r s to R more = subst (λ (X : ProgramTree). Reads n.Definitions here to (definitions X)) (front_assoc P Q R) (r to (in_front Q R) (s to R more))

-- of a function: its parameters, and then its result
pub function_deeper : (old middle new : List NodeRow) (ps : List Param) (T : PlacedTree) → KeepsRows middle new → ParamsBelong middle ps → NoDeeper (ParametersWithin (map (parameter middle) ps)) old middle →
    NoDeeper (TreeWithin T) middle new → NoDeeper (λ limit. ParametersWithin (map (parameter new) ps) limit × TreeWithin T limit) old new
function_deeper old middle new ps T k b c d =
    deeper_both (ParametersWithin (map (parameter middle) ps)) (TreeWithin T) (λ limit. ParametersWithin (map (parameter new) ps) limit × TreeWithin T limit) old middle new k
    (λ limit o w. subst (λ (qs : List Parameter). ParametersWithin qs limit) (same_params middle new ps k b) w.0) (λ limit o w. w.1) c d

-- the definitions in front, and those after them
definitions_front : (P Q : ProgramTree) (limit : ℕ) → DefinitionsWithin (in_front P Q) limit → DefinitionsWithin P limit
definitions_front P Q limit w = (all_front _ P.types Q.types w.0, all_front _ P.functions Q.functions w.1)

definitions_back : (P Q : ProgramTree) (limit : ℕ) → DefinitionsWithin (in_front P Q) limit → DefinitionsWithin Q limit
definitions_back P Q limit w = (all_back _ P.types Q.types w.0, all_back _ P.functions Q.functions w.1)

definitions_deeper : (types new : List NodeRow) (P Q R : ProgramTree) → R ≡ in_front P Q → KeepsRows types new → NoDeeper (DefinitionsWithin P) [] types → NoDeeper (DefinitionsWithin Q) types new → NoDeeper (DefinitionsWithin R) [] new
definitions_deeper types new P Q R e k c d =
    deeper_both (DefinitionsWithin P) (DefinitionsWithin Q) (DefinitionsWithin R) [] types new k
    (λ limit o w. definitions_front P Q limit (subst (λ (X : ProgramTree). DefinitionsWithin X limit) e w)) (λ limit o w. definitions_back P Q limit (subst (λ (X : ProgramTree). DefinitionsWithin X limit) e w)) c d

-- ---- the program that was collected
pub record Collected (p : ProgramTable) (from here : List Lexeme) : Type 0 where
  pub stands : ProgramStands p
  pub reads : ReadsInFront (program_tree p) from here
  pub no_deeper : NoDeeper (DefinitionsWithin (program_tree p)) [] p.types

abbrev pub table : List NodeRow → List NodeRow → List ExprRow → List TypeDef → List FunctionRow → ProgramTable
table types patterns exprs defs functions = record { types = types; patterns = patterns; exprs = exprs; type_defs = defs; functions = functions }

defs_more : (old new : List NodeRow) (defs : List TypeDef) → KeepsRows old new → AllByRecursion (TypeDefStands old) defs → AllByRecursion (TypeDefStands new) defs
defs_more old new [] k a = tt
defs_more old new (d ∷ defs) k a = (record { name = (a.0).name; body = IsPattern-more old new d.body.at k (a.0).body }, defs_more old new defs k a.1)

same_defs : (old new : List NodeRow) (defs : List TypeDef) → KeepsRows old new → AllByRecursion (TypeDefStands old) defs → map (type_definition new) defs ≡ map (type_definition old) defs
same_defs old new [] k a = refl
same_defs old new (d ∷ defs) k a = let e = kept old new d.body.at k (a.0).body in let f = same_defs old new defs k a.1 in cc

functions_more : (p q : ProgramTable) (fs : List FunctionRow) → KeepsRows p.types q.types → Grows p.patterns p.exprs q.patterns q.exprs → AllByRecursion (FunctionStands p.types p.exprs) fs → AllByRecursion (FunctionStands q.types q.exprs) fs
functions_more p q [] k g a = tt
functions_more p q (f ∷ fs) k g a = (
  record {
    params = params_more p.types q.types f.params k (a.0).params;
    declared = IsPattern-more p.types q.types f.declared.at k (a.0).declared;
    body = IsExpr-more p.exprs q.exprs f.body.at g.nodes (a.0).body;
  },
  functions_more p q fs k g a.1,
)

same_functions : (p q : ProgramTable) (fs : List FunctionRow) → KeepsRows p.types q.types → Grows p.patterns p.exprs q.patterns q.exprs → ProgramStands p → AllByRecursion (FunctionStands p.types p.exprs) fs → map (function_definition q) fs ≡ map (function_definition p) fs
same_functions p q [] k g s a = refl
same_functions p q (f ∷ fs) k g s a =
    let e1 = same_params p.types q.types f.params k (a.0).params in
    let e2 = kept p.types q.types f.declared.at k (a.0).declared in
    let e3 = same_expression p.patterns p.exprs q.patterns q.exprs f.body.at g s.clauses (a.0).body in
    let e4 = same_functions p q fs k g s a.1 in cc

same_collected : (from here : List Lexeme) (P Q : ProgramTree) → P ≡ Q → ReadsInFront Q from here → ReadsInFront P from here
same_collected from here P Q e r = subst (λ (X : ProgramTree). ReadsInFront X from here) (sym e) r

-- one more definition of a type
pub type_def_collected : (types new patterns : List NodeRow) (exprs : List ExprRow) (defs : List TypeDef) (fs : List FunctionRow) (from here next : List Lexeme) (d : TypeDef) → Collected (table types patterns exprs defs fs) from here → KeepsRows types new → TypeDefStands new d → ReadsInFront (one_type (type_definition new d)) here next → NoDeeper (DefinitionsWithin (one_type (type_definition new d))) types new → Collected (table new patterns exprs (defs ++ d ∷ []) fs) from next
type_def_collected types new patterns exprs defs fs from here next d c k h r o =
    let p : ProgramTable = table types patterns exprs defs fs in
    let q : ProgramTable = table new patterns exprs (defs ++ d ∷ []) fs in
    let g : Grows patterns exprs patterns exprs = Grows-refl patterns exprs c.stands.clauses in
    let e1 : map (type_definition new) (defs ++ d ∷ []) ≡ map (type_definition types) defs ++ type_definition new d ∷ [] = map-append (type_definition new) defs (d ∷ []) ∙ ap (λ (xs : List TypeDefinition). xs ++ type_definition new d ∷ []) (same_defs types new defs k c.stands.type_defs) in
    let e2 : map (function_definition q) fs ≡ map (function_definition p) fs ++ [] = same_functions p q fs k g c.stands c.stands.functions ∙ sym (append-nil (map (function_definition p) fs)) in
    let e : program_tree q ≡ in_front (program_tree p) (one_type (type_definition new d)) = cc in
    record {
      stands = record { clauses = c.stands.clauses; type_defs = all_push (TypeDefStands new) defs d (defs_more types new defs k c.stands.type_defs) h; functions = functions_more p q fs k g c.stands.functions };
      reads = same_collected from next (program_tree q) _ e (in_front_trans (program_tree p) (one_type (type_definition new d)) from here next c.reads r);
      no_deeper = definitions_deeper types new (program_tree p) (one_type (type_definition new d)) (program_tree q) e k c.no_deeper o;
    }

-- one more function
pub function_collected : (types new patterns ps : List NodeRow) (exprs es : List ExprRow) (defs : List TypeDef) (fs : List FunctionRow) (from here next : List Lexeme) (f : FunctionRow) → Collected (table types patterns exprs defs fs) from here → KeepsRows types new → Grows patterns exprs ps es → FunctionStands new es f → ReadsInFront (one_function (function_definition (table new ps es [] []) f)) here next → NoDeeper (DefinitionsWithin (one_function (function_definition (table new ps es [] []) f))) types new → Collected (table new ps es defs (fs ++ f ∷ [])) from next
function_collected types new patterns ps exprs es defs fs from here next f c k g h r o =
    let p : ProgramTable = table types patterns exprs defs fs in
    let q : ProgramTable = table new ps es defs (fs ++ f ∷ []) in
    let e1 : map (type_definition new) defs ≡ map (type_definition types) defs ++ [] = same_defs types new defs k c.stands.type_defs ∙ sym (append-nil (map (type_definition types) defs)) in
    let e2 : map (function_definition q) (fs ++ f ∷ []) ≡ map (function_definition p) fs ++ function_definition q f ∷ [] = map-append (function_definition q) fs (f ∷ []) ∙ ap (λ (xs : List FunctionDefinition). xs ++ function_definition q f ∷ []) (same_functions p q fs k g c.stands c.stands.functions) in
    let e : program_tree q ≡ in_front (program_tree p) (one_function (function_definition q f)) = cc in
    record {
      stands = record { clauses = g.clauses; type_defs = defs_more types new defs k c.stands.type_defs; functions = all_push (FunctionStands new es) fs f (functions_more p q fs k g c.stands.functions) h };
      reads = same_collected from next (program_tree q) _ e (in_front_trans (program_tree p) (one_function (function_definition q f)) from here next c.reads r);
      no_deeper = definitions_deeper types new (program_tree p) (one_function (function_definition q f)) (program_tree q) e k c.no_deeper o;
    }

same_program : (ts us : List TypeDefinition) (fs gs : List FunctionDefinition) → ts ≡ us → fs ≡ gs → let P : ProgramTree = record { types = ts; functions = fs } in let Q : ProgramTree = record { types = us; functions = gs } in P ≡ Q
same_program ts us fs gs e f = cc

-- up to the end
pub all_collected : (p : ProgramTable) (from here next : List Lexeme) → Collected p from here → next ≡ behind here → same t.Type (front_terminal here) ≡ false → same t.Fun (front_terminal here) ≡ false → Reads n.Definitions from next (definitions (program_tree p))
all_collected p from here next c e g h =
    let P : ProgramTree = program_tree p in
    let q : in_front P nothing ≡ P = same_program (P.types ++ []) P.types (P.functions ++ []) P.functions (append-nil P.types) (append-nil P.functions) in
    subst (λ (X : ProgramTree). Reads n.Definitions from next (definitions X)) q (c.reads next nothing (end_reads here next e g h))
