-- Plain programs: their names, what has no value, and how many calls it takes to find a value.
use Rattle.std.proofs.Common.{◌≡◌, ◌≢◌, ℕ, zero, suc, ◌+◌, ◌-◌, arith, List, [], ◌∷◌, ◌++◌, map, Option, Some, None, Result, Ok, Err, IfOk, IfErr, IsErrAnd, refl, ap, sym, ◌∙◌, subst}
use Rattle.xd_doc.specs.Document.{Document}
use Rattle.xd_syntax.specs.Tree as T
use Rattle.xd_syntax.specs.Tree.{Tree, Definitions, environment, any_type}
use Rattle.xd_syntax.specs.Words.{any_word}
use Rattle.xd_syntax.specs.Placed.{unplaced}
use Rattle.xd_syntax.specs.Expression.{Expression, Nothing, Quoted, Variable, Tagged, Joined, Called, Matched, Arguments, no_argument, argument, Clauses, no_clause, clause}
use Rattle.xd_syntax.specs.Program.{TypeDefinition, FunctionDefinition, ProgramTree, names_of, function_of}
use Rattle.xd_meaning.specs.Meaning as M
use Rattle.xd_meaning.specs.Meaning.{Outcome, Environment, Matcher, and_then, or_else, value_by, chosen_by, body_by, call_within}
use Rattle.xd_plain.specs.PlainTrees.{tree_of, definitions_of}
use Rattle.xd_plain.specs.PlainPrograms.{placed_of, type_definition_of, behind_first, AnyIsFirst}
use Rattle.xd_plain.specs.PlainMeaning.{IsWithout, Tells, IsAnswer, IsSettledWithin, done, matches_of}
use Rattle.xd_meaning.specs.FirstMatch.{first, first_whole}
use Rattle.xd_meaning.specs.FirstWithin.{first_within}
use Rattle.xd_syntax.specs.RecursionFaults.{IsSound}
use Rattle.xd_laws.proofs.TheLaws.{ways_settle}
use Rattle.xd_plain.specs.declared.tree.PlainTree.{PlainTree}
use Rattle.xd_plain.specs.declared.tree.PlainTree.TheVariants.{Empty, Text, Words, Name, Elem', Seq', Alt', Star', Plus', Opt', Val'}
use Rattle.xd_plain.specs.declared.tree.PlainDefinition.{PlainDefinition}
use Rattle.xd_plain.specs.declared.program.PlainProgram.{PlainProgram}
use Rattle.xd_plain.specs.declared.evaluate.Valued.{Valued}
use Rattle.xd_plain.specs.declared.evaluate.NoValue.{NoValue}
use Rattle.xd_plain.specs.declared.evaluate.NoValue.TheVariants.{Spent, Stuck, NoMemory}

pub unplaced-placed_of : (t : PlainTree) → unplaced (placed_of t) ≡ tree_of t
unplaced-placed_of Empty = refl
unplaced-placed_of Text = refl
unplaced-placed_of (Words w) = refl
unplaced-placed_of (Name x) = refl
unplaced-placed_of (Elem' c p t) = ap (T.Elem c) (unplaced-placed_of t)
unplaced-placed_of (Seq' p t q u) = ap (λ a. T.Seq a (unplaced (placed_of u))) (unplaced-placed_of t) ∙ ap (T.Seq (tree_of t)) (unplaced-placed_of u)
unplaced-placed_of (Alt' p t q u) = ap (λ a. T.Alt a (unplaced (placed_of u))) (unplaced-placed_of t) ∙ ap (T.Alt (tree_of t)) (unplaced-placed_of u)
unplaced-placed_of (Star' p t) = ap T.Star (unplaced-placed_of t)
unplaced-placed_of (Plus' p t) = ap T.Plus (unplaced-placed_of t)
unplaced-placed_of (Opt' p t) = ap T.Opt (unplaced-placed_of t)
unplaced-placed_of (Val' x p t) = ap (T.Val x) (unplaced-placed_of t)

abbrev named : TypeDefinition → List ℕ × Tree
named t = (t.name, unplaced t.body)

names_kept : (ds : List PlainDefinition) → map named (map type_definition_of ds) ≡ definitions_of ds
names_kept [] = refl
names_kept (d ∷ ds) =
    ap (λ t. (d.name, t) ∷ map named (map type_definition_of ds)) (unplaced-placed_of d.body)
    ∙ ap (λ es. (d.name, tree_of d.body) ∷ es) (names_kept ds)

any_first_in : (ds : List PlainDefinition) (E : Definitions) → definitions_of ds ≡ environment E →
    definitions_of ds ≡ environment (map named (map type_definition_of (behind_first ds)))
any_first_in [] E h = cc
any_first_in (d ∷ ds) E h =
    let k : (d.name, tree_of d.body) ≡ (any_word, any_type) = cc in
    ap (λ p. p ∷ definitions_of ds) k ∙ ap (λ es. (any_word, any_type) ∷ es) (sym (names_kept ds))

pub any_first : (p : PlainProgram) (E : Definitions) → definitions_of p.definitions.items ≡ environment E → AnyIsFirst p
any_first p E h = any_first_in p.definitions.items E h

-- a part without a value leaves the whole without one
pub without_then : {A B : Type 0} (w : NoValue) (o : Outcome A) (k : A → ℕ → Outcome B) → IsWithout w o → IsWithout w (and_then o k)
without_then Spent o k h = ap (λ q. and_then q k) h
without_then Stuck o k h = ap (λ q. and_then q k) h
without_then NoMemory o k h = tt

-- an error of a part is that of the whole
pub ended : {T A B : Type 0} (stands_for : T → Outcome B) (r : Result T NoValue) (o : Outcome A) (k : A → ℕ → Outcome B) (v : NoValue) →
    IsErrAnd r (λ w. w ≡ v) → IsWithout v o → Tells stands_for r (and_then o k)
ended stands_for (Ok x) o k v e h = absurd e
ended stands_for (Err w) o k v e h = subst (λ y. IsWithout y (and_then o k)) (sym e) (without_then v o k h)

-- what a part that has a value goes on with
pub goes_on : {A B : Type 0} (o : Outcome A) (k : A → ℕ → Outcome B) (a : A) (m : ℕ) → o ≡ M.Done a m → and_then o k ≡ k a m
goes_on o k a m h = ap (λ q. and_then q k) h

-- what a search for the first match tells is what the match gives
pub first_match : (p : PlainProgram) (u : ℕ) (t : PlainTree) (d : Document) (ds : List PlainDefinition) (f g : Option Environment) → ds ≡ p.definitions.items → AnyIsFirst p →
    f ≡ first_within (definitions_of ds) u (tree_of t) d → f ≡ g → matches_of p u (tree_of t) d ≡ g
first_match p u t d ds f g e any h k = sym (ap (λ E. first_within E u (tree_of t) d) (ap definitions_of e ∙ any)) ∙ sym h ∙ k

-- What a clause gives, by whether its pattern takes the document.

module _ (W : Matcher) (C : ℕ → List ℕ → List Document → Outcome Document) (n : ℕ) (env : Environment) where
  pub clause_passed : (t : PlainTree) (e : Expression) (cs : Clauses) (d : Document) → W (tree_of t) d ≡ None →
      chosen_by W C n env d cs ≡ chosen_by W C n env d (clause (placed_of t) e cs)
  clause_passed t e cs d h =
      sym (ap (λ o. or_else o (λ vs. value_by W C n (vs ++ env) e) (chosen_by W C n env d cs)) (ap (λ u. W u d) (unplaced-placed_of t) ∙ h))

  pub clause_taken : (t : PlainTree) (e : Expression) (cs : Clauses) (d : Document) (vs : Environment) → W (tree_of t) d ≡ Some vs →
      value_by W C n (vs ++ env) e ≡ chosen_by W C n env d (clause (placed_of t) e cs)
  clause_taken t e cs d vs h =
      sym (ap (λ o. or_else o (λ vs. value_by W C n (vs ++ env) e) (chosen_by W C n env d cs)) (ap (λ u. W u d) (unplaced-placed_of t) ∙ h))

pub call_taken : (W : Matcher) (P : ProgramTree) (k n : ℕ) (f : List ℕ) (ds : List Document) (g : FunctionDefinition) → k ≢ 0 → n ≢ 0 → function_of P.functions f ≡ Some g →
    value_by W (call_within W P (k - 1)) (n - 1) (M.bound g.parameters ds) g.body ≡ call_within W P k n f ds
call_taken W P zero n f ds g h i e = absurd (h refl)
call_taken W P (suc k) zero f ds g h i e = absurd (i refl)
call_taken W P (suc k) (suc n) f ds g h i e =
    let a : suc k - 1 ≡ k = omega arith in
    let b : suc n - 1 ≡ n = omega arith in
    ap (λ j. value_by W (call_within W P j) (suc n - 1) (M.bound g.parameters ds) g.body) a
    ∙ ap (λ j. value_by W (call_within W P k) j (M.bound g.parameters ds) g.body) b
    ∙ sym (ap (λ o. body_by (value_by W (call_within W P k) n) o ds) e)

-- Where matches of documents that need more unfoldings play no part, matches within so many give
-- the same.

pub settled : (P : ProgramTree) → IsSound P → (n : ℕ) (outcome : Matcher → Outcome Document) → IsSettledWithin (names_of P) n outcome →
    outcome (first_within (names_of P) n) ≡ outcome (first (names_of P))
settled P s n outcome h = h (first_within (names_of P) n) (λ T d k. ap first_whole (ways_settle P s T d n k))

pub same_answer : {o q : Outcome Document} (r : Result Valued NoValue) → IsAnswer r o → o ≡ q → IsAnswer r q
same_answer r h e = subst (IsAnswer r) e h

-- a value, or none
pub if_done : (r : Result Valued NoValue) (o : Outcome Document) → IsAnswer r o → IfOk r (λ v. o ≡ done v)
if_done (Ok v) o h = h
if_done (Err why) o h = tt

pub if_ended : (r : Result Valued NoValue) (o : Outcome Document) → IsAnswer r o → IfErr r (λ why. IsWithout why o)
if_ended (Ok v) o h = tt
if_ended (Err why) o h = h

-- How many calls it takes.

abbrev mutual
  pub expression_weight : (List ℕ → ℕ) → Expression → ℕ
  expression_weight K (Nothing p) = 1
  expression_weight K (Quoted p s) = 1
  expression_weight K (Variable p x) = 1
  expression_weight K (Tagged p l e) = expression_weight K e + 2
  expression_weight K (Joined p e f) = expression_weight K e + expression_weight K f + 2
  expression_weight K (Called p f es) = arguments_weight K es + K f + 3
  expression_weight K (Matched p e cs) = expression_weight K e + clauses_weight K cs + 2

  pub arguments_weight : (List ℕ → ℕ) → Arguments → ℕ
  arguments_weight K no_argument = 1
  arguments_weight K (argument e es) = expression_weight K e + arguments_weight K es + 1

  pub clauses_weight : (List ℕ → ℕ) → Clauses → ℕ
  clauses_weight K no_clause = 1
  clauses_weight K (clause P e cs) = expression_weight K e + clauses_weight K cs + 1

abbrev pub body_weight : (Expression → ℕ) → Option FunctionDefinition → ℕ
body_weight W None = 0
body_weight W (Some f) = W f.body

abbrev pub call_weight : List FunctionDefinition → ℕ → List ℕ → ℕ
call_weight fs zero f = 0
call_weight fs (suc k) f = body_weight (expression_weight (call_weight fs k)) (function_of fs f)
