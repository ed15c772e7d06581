-- Faults of names and of recursion carry no documents.
use Rattle.std.proofs.Common.{ℕ, Bool, true, false, not, cond, ◌||◌, List, [], ◌∷◌, ◌++◌, map, flat_map, length, nat_eq, Option, Some, None, sym, subst}
use Rattle.std.specs.List.{AllByRecursion}
use Rattle.xd_base.specs.declared.Place.{Place}
use Rattle.xd_syntax.specs.Placed.{PlacedTree, Empty_at, Text_at, Words_at, Name_at, Elem_at, Seq_at, Alt_at, Star_at, Plus_at, Opt_at, Val_at, variables}
use Rattle.xd_syntax.specs.Expression.{Expression, Nothing, Quoted, Variable, Tagged, Joined, Called, Matched, Arguments, no_argument, argument, Clauses, no_clause, clause}
use Rattle.xd_syntax.specs.Program.{TypeDefinition, Parameter, FunctionDefinition, ProgramTree, function_of}
use Rattle.xd_syntax.specs.Words.{has_word, any_word, string_word}
use Rattle.xd_syntax.specs.Order.{precedes, put_in, ordered_after}
use Rattle.xd_syntax.specs.NameFaults as names
use Rattle.xd_syntax.specs.NameFaults.{Spot, fault_if}
use Rattle.xd_syntax.specs.NotLinear.{not_linear}
use Rattle.xd_syntax.proofs.NotLinear.{linearity_same}
use Rattle.xd_syntax.specs.RecursionFaults.{AreRecursionFaults, not_tail_fault, unguarded_fault}
use Rattle.xd_syntax.specs.declared.fault.Fault.{Fault}
use Rattle.xd_syntax.specs.declared.fault.FaultKind.{FaultKind}
use Rattle.xd_syntax.specs.declared.fault.FaultKind.TheVariants.{DuplicateName, UnknownType, UnknownVariable, Arity, NotLinear}
use Rattle.xd_report.specs.Carries.{CarriesFrom}

abbrev pub CarriesNothing : Fault → Type 0
CarriesNothing f = CarriesFrom [] f.kind

abbrev pub CarryNothing : List Fault → Type 0
CarryNothing fs = AllByRecursion CarriesNothing fs

all_append : (fs gs : List Fault) → CarryNothing fs → CarryNothing gs → CarryNothing (fs ++ gs)
all_append [] gs a b = b
all_append (f ∷ fs) gs a b = (a.0, all_append fs gs a.1 b)

all_flat : {A : Type 0} (g : A → List Fault) → ((x : A) → CarryNothing (g x)) → (xs : List A) → CarryNothing (flat_map g xs)
all_flat g h [] = tt
all_flat g h (x ∷ xs) = all_append (g x) (flat_map g xs) (h x) (all_flat g h xs)

all_map : {A : Type 0} (g : A → Fault) → ((x : A) → CarriesNothing (g x)) → (xs : List A) → CarryNothing (map g xs)
all_map g h [] = tt
all_map g h (x ∷ xs) = (h x, all_map g h xs)

all_if : (b : Bool) (p : Place) (k : FaultKind) → CarriesFrom [] k → CarryNothing (fault_if b p k)
all_if true p k c = (c, tt)
all_if false p k c = tt

all_put : (f : Fault) (gs : List Fault) → CarriesNothing f → CarryNothing gs → CarryNothing (put_in precedes f gs)
all_put f [] c a = (c, tt)
all_put f (g ∷ gs) c a = go (precedes f g) (all_put f gs c a.1)
  where
    go : (b : Bool) → CarryNothing (put_in precedes f gs) → CarryNothing (cond b (f ∷ (g ∷ gs)) (g ∷ put_in precedes f gs))
    go true r = (c, a)
    go false r = (a.0, r)

all_ordered : (done fs : List Fault) → CarryNothing done → CarryNothing fs → CarryNothing (ordered_after precedes done fs)
all_ordered done [] a b = a
all_ordered done (f ∷ fs) a b = all_ordered (put_in precedes f done) fs (all_put f done b.0 a) b.1

duplicates_carry : (seen : List (List ℕ)) (ss : List Spot) → CarryNothing (names.duplicates seen ss)
duplicates_carry seen [] = tt
duplicates_carry seen (s ∷ ss) = all_append (fault_if (has_word seen s.word) s.place (DuplicateName s.word)) (names.duplicates (s.word ∷ seen) ss) (all_if (has_word seen s.word) s.place (DuplicateName s.word) tt) (duplicates_carry (s.word ∷ seen) ss)

unknown_carry : (known : List (List ℕ)) (T : PlacedTree) → CarryNothing (names.unknown_types known T)
unknown_carry known (Empty_at p) = tt
unknown_carry known (Text_at p) = tt
unknown_carry known (Words_at p w) = tt
unknown_carry known (Name_at p x) = all_if (not (has_word known x)) p (UnknownType x) tt
unknown_carry known (Elem_at p c T) = unknown_carry known T
unknown_carry known (Seq_at p T U) = all_append (names.unknown_types known T) (names.unknown_types known U) (unknown_carry known T) (unknown_carry known U)
unknown_carry known (Alt_at p T U) = all_append (names.unknown_types known T) (names.unknown_types known U) (unknown_carry known T) (unknown_carry known U)
unknown_carry known (Star_at p T) = unknown_carry known T
unknown_carry known (Plus_at p T) = unknown_carry known T
unknown_carry known (Opt_at p T) = unknown_carry known T
unknown_carry known (Val_at p x q T) = unknown_carry known T

abbrev linear : Bool → List (List ℕ) → List (List ℕ) → Bool → PlacedTree → List Fault
linear r earlier partial inner T = not_linear r earlier partial inner T

linear_carry : (r : Bool) (earlier partial : List (List ℕ)) (inner : Bool) (T : PlacedTree) → CarryNothing (not_linear r earlier partial inner T)
linear_carry r earlier partial inner (Empty_at p) = tt
linear_carry r earlier partial inner (Text_at p) = tt
linear_carry r earlier partial inner (Words_at p w) = tt
linear_carry r earlier partial inner (Name_at p x) = tt
linear_carry r earlier partial inner (Elem_at p c T) = linear_carry r earlier partial false T
linear_carry r earlier partial inner (Seq_at p T U) = all_append (linear r earlier partial false T) (linear r (variables T ++ earlier) (names.without (variables T) partial) false U) (linear_carry r earlier partial false T) (linear_carry r (variables T ++ earlier) (names.without (variables T) partial) false U)
linear_carry r earlier partial inner (Alt_at p T U) =
    let lacked : List (List ℕ) = cond inner partial (names.lacking_somewhere (Alt_at p T U) ++ partial) in
    all_append (linear r earlier lacked false T) (linear r earlier (names.without (variables T) lacked) true U) (linear_carry r earlier lacked false T) (linear_carry r earlier (names.without (variables T) lacked) true U)
linear_carry r earlier partial inner (Star_at p T) = linear_carry true earlier partial false T
linear_carry r earlier partial inner (Plus_at p T) = linear_carry true earlier partial false T
linear_carry r earlier partial inner (Opt_at p T) = linear_carry true earlier partial false T
linear_carry r earlier partial inner (Val_at p x q T) = all_append (fault_if (r || (has_word earlier x || has_word partial x)) q (NotLinear x)) (linear r (x ∷ earlier) (names.without (x ∷ []) partial) false T) (all_if (r || (has_word earlier x || has_word partial x)) q (NotLinear x) tt) (linear_carry r (x ∷ earlier) (names.without (x ∷ []) partial) false T)

pattern_carry : (known : List (List ℕ)) (T : PlacedTree) → CarryNothing (names.pattern_faults known T)
pattern_carry known T = all_append (names.unknown_types known T) (names.linearity_faults T) (unknown_carry known T) (subst (λ fs. CarryNothing fs) (sym (linearity_same T)) (linear_carry false [] [] false T))

call_carry : (g : Option FunctionDefinition) (p : Place) (f : List ℕ) (n : ℕ) → CarryNothing (names.call_faults g p f n)
call_carry None p f n = (tt, tt)
call_carry (Some g) p f n = all_if (not (nat_eq n (length g.parameters))) p (Arity f n (length g.parameters)) tt

mutual
  expression_carry : (P : ProgramTree) (scope : List (List ℕ)) (e : Expression) → CarryNothing (names.expression_faults P scope e)
  expression_carry P scope (Nothing p) = tt
  expression_carry P scope (Quoted p s) = tt
  expression_carry P scope (Variable p x) = all_if (not (has_word scope x)) p (UnknownVariable x) tt
  expression_carry P scope (Tagged p l e) = expression_carry P scope e
  expression_carry P scope (Joined p e f) = all_append (names.expression_faults P scope e) (names.expression_faults P scope f) (expression_carry P scope e) (expression_carry P scope f)
  expression_carry P scope (Called p f es) = all_append (names.call_faults (function_of P.functions f) p f (names.argument_count es)) (names.argument_faults P scope es) (call_carry (function_of P.functions f) p f (names.argument_count es)) (arguments_carry P scope es)
  expression_carry P scope (Matched p e cs) = all_append (names.expression_faults P scope e) (names.clause_faults P scope cs) (expression_carry P scope e) (clauses_carry P scope cs)

  arguments_carry : (P : ProgramTree) (scope : List (List ℕ)) (es : Arguments) → CarryNothing (names.argument_faults P scope es)
  arguments_carry P scope no_argument = tt
  arguments_carry P scope (argument e es) = all_append (names.expression_faults P scope e) (names.argument_faults P scope es) (expression_carry P scope e) (arguments_carry P scope es)

  clauses_carry : (P : ProgramTree) (scope : List (List ℕ)) (cs : Clauses) → CarryNothing (names.clause_faults P scope cs)
  clauses_carry P scope no_clause = tt
  clauses_carry P scope (clause A e cs) = all_append (names.pattern_faults (names.known_types P) A ++ names.expression_faults P (variables A ++ scope) e) (names.clause_faults P scope cs) (all_append (names.pattern_faults (names.known_types P) A) (names.expression_faults P (variables A ++ scope) e) (pattern_carry (names.known_types P) A) (expression_carry P (variables A ++ scope) e)) (clauses_carry P scope cs)

function_carry : (P : ProgramTree) (f : FunctionDefinition) → CarryNothing (names.function_faults P f)
function_carry P f =
    all_append (flat_map (λ (q : Parameter). names.unknown_types (names.known_types P) q.declared) f.parameters ++ names.unknown_types (names.known_types P) f.declared) (names.expression_faults P (map (λ (q : Parameter). q.name) f.parameters) f.body)
    (all_append (flat_map (λ (q : Parameter). names.unknown_types (names.known_types P) q.declared) f.parameters) (names.unknown_types (names.known_types P) f.declared) (all_flat (λ (q : Parameter). names.unknown_types (names.known_types P) q.declared) (λ q. unknown_carry (names.known_types P) q.declared) f.parameters) (unknown_carry (names.known_types P) f.declared))
    (expression_carry P (map (λ (q : Parameter). q.name) f.parameters) f.body)

duplicate_names_carry : (P : ProgramTree) → CarryNothing (names.duplicate_names P)
duplicate_names_carry P =
    let type_spots : List Spot = map (λ (t : TypeDefinition). let s : Spot = record { word = t.name; place = t.place } in s) P.types in
    let function_spots : List Spot = map (λ (f : FunctionDefinition). let s : Spot = record { word = f.name; place = f.place } in s) P.functions in
    let parameters : List Fault = flat_map (λ (f : FunctionDefinition). names.duplicates [] (names.parameter_spots f.parameters)) P.functions in
    all_append (names.duplicates (string_word ∷ any_word ∷ []) type_spots ++ names.duplicates [] function_spots) parameters
    (all_append (names.duplicates (string_word ∷ any_word ∷ []) type_spots) (names.duplicates [] function_spots)
    (duplicates_carry (string_word ∷ any_word ∷ []) type_spots)
    (duplicates_carry [] function_spots))
    (all_flat (λ (f : FunctionDefinition). names.duplicates [] (names.parameter_spots f.parameters)) (λ f. duplicates_carry [] (names.parameter_spots f.parameters)) P.functions)

pub names_carry : (P : ProgramTree) → CarryNothing (names.name_faults P)
names_carry P =
    all_ordered [] (names.duplicate_names P ++ flat_map (λ (t : TypeDefinition). names.unknown_types (names.known_types P) t.body) P.types ++ flat_map (names.function_faults P) P.functions) tt
    (all_append (names.duplicate_names P ++ flat_map (λ (t : TypeDefinition). names.unknown_types (names.known_types P) t.body) P.types) (flat_map (names.function_faults P) P.functions)
    (all_append (names.duplicate_names P) (flat_map (λ (t : TypeDefinition). names.unknown_types (names.known_types P) t.body) P.types) (duplicate_names_carry P) (all_flat (λ (t : TypeDefinition). names.unknown_types (names.known_types P) t.body) (λ t. unknown_carry (names.known_types P) t.body) P.types))
    (all_flat (names.function_faults P) (λ f. function_carry P f) P.functions))

pub recursion_carry : (P : ProgramTree) (fs : List Fault) → AreRecursionFaults P fs → CarryNothing fs
recursion_carry P fs r =
    subst CarryNothing (sym r.listed) (all_ordered [] (map not_tail_fault r.outside ++ map unguarded_fault r.unguarded) tt
    (all_append (map not_tail_fault r.outside) (map unguarded_fault r.unguarded) (all_map not_tail_fault (λ w. tt) r.outside) (all_map unguarded_fault (λ w. tt) r.unguarded)))
