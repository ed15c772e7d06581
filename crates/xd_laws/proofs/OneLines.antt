-- A program has one list of lines, but for the documents that they carry, and these have the same
-- sizes.
use Rattle.std.proofs.Common.{◌≡◌, ℕ, ◌≤◌, Bool, true, false, cond, inl, inr, List, [], ◌∷◌, ◌++◌, None, Some, refl, ap, sym, subst, ◌∙◌, append-nil, arith}
use Rattle.xd_base.specs.declared.Place.{Place}
use Rattle.xd_doc.specs.Document.{Document, empty, is_proper, size}
use Rattle.xd_doc.specs.Least.{IsLeast}
use Rattle.xd_syntax.specs.Placed.{PlacedTree, place_of}
use Rattle.xd_syntax.specs.Expression.{Expression, Nothing, Quoted, Variable, Tagged, Joined, Called, Matched, Arguments, no_argument, argument, Clauses, no_clause, clause, place_of_expression}
use Rattle.xd_syntax.specs.Program.{Parameter, FunctionDefinition, ProgramTree, function_of}
use Rattle.xd_syntax.specs.May.{Scope, clause_entry, parameters_scope}
use Rattle.xd_syntax.specs.Order.{put_in, ordered_after, InTurn}
use Rattle.xd_meaning.specs.KeptFaults.{AllPaired}
use Rattle.xd_syntax.specs.CheckFaults.{Line, LineKind, line_precedes, lines_in_order, LineWhere, IsProperWith, Misfits, dead_clause, wrong_argument, wrong_result, not_exhaustive, parameters_of, Comes, LinesOf, LinesOfArguments, LinesOfClauses, LinesOfFunction, LinesOfFunctions, AreLines, IsLiveIn}
use Rattle.xd_laws.specs.SameLines.{IsSameLine, LinesAreOne}

abbrev Same : List Line → List Line → Type 0
Same ls ms = AllPaired IsSameLine ls ms

itself : (ls : List Line) → Same ls ls
itself [] = tt
itself (l ∷ ls) = (record { place = refl; kind = refl; carries = refl }, itself ls)

same_joined : (ls ms ks js : List Line) → Same ls ms → Same ks js → Same (ls ++ ks) (ms ++ js)
same_joined [] [] ks js a b = b
same_joined [] (m ∷ ms) ks js a b = absurd a
same_joined (l ∷ ls) [] ks js a b = absurd a
same_joined (l ∷ ls) (m ∷ ms) ks js a b = (a.0, same_joined ls ms ks js a.1 b)

-- lists that are these
along : (ls ms ks js : List Line) → ls ≡ ks → ms ≡ js → Same ks js → Same ls ms
along ls ms ks js e f s = subst (λ xs. Same xs ms) (sym e) (subst (Same ks) (sym f) s)

nothing_same : (ls ms : List Line) → ls ≡ [] → ms ≡ [] → Same ls ms
nothing_same ls ms e f = along ls ms [] [] e f tt

both_same : (A B : List Line → Type 0) → ((ls ms : List Line) → A ls → A ms → Same ls ms) → ((ls ms : List Line) → B ls → B ms → Same ls ms) →
    (ls ms : List Line) → InTurn A B ls → InTurn A B ms → Same ls ms
both_same A B f g ls ms a b =
    along ls ms (a.0 ++ a.1) (b.0 ++ b.1) a.4 b.4 (same_joined a.0 b.0 a.1 b.1 (f a.0 b.0 a.2 b.2) (g a.1 b.1 a.3 b.3))

neither_smaller : (m n : ℕ) → m ≤ n → n ≤ m → m ≡ n
neither_smaller m n a b = omega arith

line_same : (p : Place) (k : LineKind) (A : Document → Type 0) (ls ms : List Line) → LineWhere size p k A ls → LineWhere size p k A ms → Same ls ms
line_same p k A ls ms (inl a) (inl b) =
    along ls ms _ _ a.2 b.2 (record { place = refl; kind = refl; carries = ap Some (neither_smaller (size a.0) (size b.0) ((a.1).least b.0 (b.1).within) ((b.1).least a.0 (a.1).within)) }, tt)
line_same p k A ls ms (inl a) (inr b) = let w = (a.1).within in absurd (b.0 a.0 w.proper w.meets)
line_same p k A ls ms (inr a) (inl b) = let w = (b.1).within in absurd (a.0 b.0 w.proper w.meets)
line_same p k A ls ms (inr a) (inr b) = nothing_same ls ms a.1 b.1

mutual
  expression_same : (P : ProgramTree) (S : Scope) (e : Expression) (ls ms : List Line) → LinesOf size P S e ls → LinesOf size P S e ms → Same ls ms
  expression_same P S (Nothing p) ls ms a b = nothing_same ls ms a b
  expression_same P S (Quoted p s) ls ms a b = nothing_same ls ms a b
  expression_same P S (Variable p x) ls ms a b = nothing_same ls ms a b
  expression_same P S (Tagged p l e) ls ms a b = expression_same P S e ls ms a b
  expression_same P S (Joined p e f) ls ms a b =
      both_same (LinesOf size P S e) (LinesOf size P S f) (λ ks js c d. expression_same P S e ks js c d) (λ ks js c d. expression_same P S f ks js c d) ls ms a b
  expression_same P S (Called p f es) ls ms a b = arguments_same P S (parameters_of (function_of P.functions f)) es ls ms a b
  expression_same P S (Matched p e cs) ls ms a b =
      both_same (LinesOf size P S e) (LinesOfClauses size P S p e [] cs) (λ ks js c d. expression_same P S e ks js c d) (λ ks js c d. clauses_same P S p e [] cs ks js c d) ls ms a b

  arguments_same : (P : ProgramTree) (S : Scope) (qs : List Parameter) (es : Arguments) (ls ms : List Line) → LinesOfArguments size P S qs es ls → LinesOfArguments size P S qs es ms → Same ls ms
  arguments_same P S [] no_argument ls ms a b = nothing_same ls ms a b
  arguments_same P S (q ∷ qs) no_argument ls ms a b = nothing_same ls ms a b
  arguments_same P S [] (argument e es) ls ms a b =
      both_same (LinesOf size P S e) (LinesOfArguments size P S [] es) (λ ks js c d. expression_same P S e ks js c d) (λ ks js c d. arguments_same P S [] es ks js c d) ls ms a b
  arguments_same P S (q ∷ qs) (argument e es) ls ms a b =
      both_same (LinesOf size P S e) (InTurn (LineWhere size (place_of_expression e) wrong_argument (Misfits P S e q.declared)) (LinesOfArguments size P S qs es))
      (λ ks js c d. expression_same P S e ks js c d)
      (λ ks js c d. both_same (LineWhere size (place_of_expression e) wrong_argument (Misfits P S e q.declared)) (LinesOfArguments size P S qs es)
      (λ hs is c' d'. line_same (place_of_expression e) wrong_argument (Misfits P S e q.declared) hs is c' d') (λ hs is c' d'. arguments_same P S qs es hs is c' d') ks js c d) ls ms a b

  clauses_same : (P : ProgramTree) (S : Scope) (p : Place) (e : Expression) (earlier : List PlacedTree) (cs : Clauses) (ls ms : List Line) →
      LinesOfClauses size P S p e earlier cs ls → LinesOfClauses size P S p e earlier cs ms → Same ls ms
  clauses_same P S p e earlier no_clause ls ms a b = line_same p not_exhaustive (Comes P S e earlier) ls ms a b
  clauses_same P S p e earlier (clause Q f cs) ls ms a b =
      let dead : List Line = record { place = place_of Q; kind = dead_clause; document = None } ∷ [] in
      along ls ms (a.0 ++ a.1) (b.0 ++ b.1) a.4 b.4
      (same_joined a.0 b.0 a.1 b.1
      (elim a.2 [
        | inl l ↦ elim b.2 [ inl m ↦ expression_same P (clause_entry e earlier Q ∷ S) f a.0 b.0 l.1 m.1 | inr m ↦ absurd (m.0 l.0) ]
        | inr l ↦ elim b.2 [ inl m ↦ absurd (l.0 m.0) | inr m ↦ along a.0 b.0 dead dead l.1 m.1 (itself dead) ]
      ])
      (clauses_same P S p e (Q ∷ earlier) cs a.1 b.1 a.3 b.3))

function_same : (P : ProgramTree) (f : FunctionDefinition) (ls ms : List Line) → LinesOfFunction size P f ls → LinesOfFunction size P f ms → Same ls ms
function_same P f ls ms a b =
    both_same (LinesOf size P (parameters_scope f.parameters) f.body) (LineWhere size (place_of_expression f.body) wrong_result (Misfits P (parameters_scope f.parameters) f.body f.declared))
    (λ ks js c d. expression_same P (parameters_scope f.parameters) f.body ks js c d)
    (λ ks js c d. line_same (place_of_expression f.body) wrong_result (Misfits P (parameters_scope f.parameters) f.body f.declared) ks js c d) ls ms a b

functions_same : (P : ProgramTree) (fs : List FunctionDefinition) (ls ms : List Line) → LinesOfFunctions size P fs ls → LinesOfFunctions size P fs ms → Same ls ms
functions_same P [] ls ms a b = nothing_same ls ms a b
functions_same P (f ∷ fs) ls ms a b =
    both_same (LinesOfFunction size P f) (LinesOfFunctions size P fs) (λ ks js c d. function_same P f ks js c d) (λ ks js c d. functions_same P fs ks js c d) ls ms a b

-- lines that say the same are put in the same order
same_precedes : (l m l' m' : Line) → IsSameLine l l' → IsSameLine m m' → line_precedes l m ≡ line_precedes l' m'
same_precedes l m l' m' a b = rw (a.place, a.kind, b.place, b.kind) refl

put_same : (l m : Line) (ls ms : List Line) → IsSameLine l m → Same ls ms → Same (put_in line_precedes l ls) (put_in line_precedes m ms)
put_same l m [] [] s a = (s, tt)
put_same l m [] (j ∷ js) s a = absurd a
put_same l m (k ∷ ks) [] s a = absurd a
put_same l m (k ∷ ks) (j ∷ js) s a =
    subst (λ b. Same (put_in line_precedes l (k ∷ ks)) (cond b (m ∷ (j ∷ js)) (j ∷ put_in line_precedes m js))) (same_precedes l k m j s a.0) (go (line_precedes l k) (put_same l m ks js s a.1))
  where
    go : (b : Bool) → Same (put_in line_precedes l ks) (put_in line_precedes m js) → Same (cond b (l ∷ (k ∷ ks)) (k ∷ put_in line_precedes l ks)) (cond b (m ∷ (j ∷ js)) (j ∷ put_in line_precedes m js))
    go true r = (s, a)
    go false r = (a.0, r)

after_same : (done made ls ms : List Line) → Same done made → Same ls ms → Same (ordered_after line_precedes done ls) (ordered_after line_precedes made ms)
after_same done made [] [] s a = s
after_same done made [] (m ∷ ms) s a = absurd a
after_same done made (l ∷ ls) [] s a = absurd a
after_same done made (l ∷ ls) (m ∷ ms) s a = after_same (put_in line_precedes l done) (put_in line_precedes m made) ls ms (put_same l m done made a.0 s) a.1

pub lines_are_one : LinesAreOne
lines_are_one P ls ms a b =
    along ls ms (lines_in_order a.found) (lines_in_order b.found) a.ordered b.ordered
    (after_same [] [] a.found b.found tt (functions_same P P.functions a.found b.found a.all b.all))

nothing_left : (ls : List Line) → Same ls [] → ls ≡ []
nothing_left [] a = refl
nothing_left (l ∷ ls) a = absurd a

-- where no line is a list of lines, it is the only one
pub no_lines : (P : ProgramTree) → AreLines P [] → (ls : List Line) → AreLines P ls → ls ≡ []
no_lines P a ls b = nothing_left ls (lines_are_one P ls [] b a)

pub first_alone : (ls first rest : List Line) → ls ≡ first ++ rest → rest ≡ [] → ls ≡ first
first_alone ls first rest e f = e ∙ ap (λ r. first ++ r) f ∙ append-nil first

pub rest_alone : (ls first rest : List Line) → ls ≡ first ++ rest → first ≡ [] → ls ≡ rest
rest_alone ls first rest e f = e ∙ ap (λ r. r ++ rest) f

-- the empty document is a least one of each set that it is in
pub empty_least : (A : Document → Type 0) → A empty → IsLeast (IsProperWith A) empty
empty_least A h = record { within = record { proper = refl; meets = h }; least = λ e among. nothing_smaller (size e) }
  where
    nothing_smaller : (n : ℕ) → 0 ≤ n
    nothing_smaller n = omega arith

pub no_such_line : (p : Place) (k : LineKind) (A : Document → Type 0) (ls : List Line) → ((d : Document) → is_proper d ≡ true → A d → ⊥) → LineWhere size p k A ls → ls ≡ []
no_such_line p k A ls n (inl h) = let w = (h.1).within in absurd (n h.0 w.proper w.meets)
no_such_line p k A ls n (inr h) = h.1

-- the lines of a live clause whose body has none are those of the others
pub clause_alone : (P : ProgramTree) (S : Scope) (p : Place) (e : Expression) (earlier : List PlacedTree) (Q : PlacedTree) (f : Expression) (cs : Clauses) (ls : List Line) →
    IsLiveIn P S e earlier Q → LinesOf size P (clause_entry e earlier Q ∷ S) f [] → LinesOfClauses size P S p e earlier (clause Q f cs) ls → LinesOfClauses size P S p e (Q ∷ earlier) cs ls
clause_alone P S p e earlier Q f cs ls live none m =
    elim m.2 [
      | inl l ↦
          (let i : m.0 ≡ [] = nothing_left m.0 (expression_same P (clause_entry e earlier Q ∷ S) f m.0 [] l.1 none) in
          subst (LinesOfClauses size P S p e (Q ∷ earlier) cs) (sym (rest_alone ls m.0 m.1 m.4 i)) m.3)
      | inr l ↦ absurd (l.0 live)
    ]

-- the lines of a program with one function, whose body is a match and always fits
pub match_alone : (P : ProgramTree) (f : FunctionDefinition) (p : Place) (e : Expression) (cs : Clauses) → P.functions ≡ f ∷ [] → f.body ≡ Matched p e cs →
    LinesOf size P (parameters_scope f.parameters) e [] →
    ((d : Document) → is_proper d ≡ true → Misfits P (parameters_scope f.parameters) (Matched p e cs) f.declared d → ⊥) → (ls : List Line) → AreLines P ls →
    (ms : List Line) × LinesOfClauses size P (parameters_scope f.parameters) p e [] cs ms × (ls ≡ lines_in_order ms)
match_alone P f p e cs only same none fits ls a =
    let S : Scope = parameters_scope f.parameters in
    let m : LinesOfFunctions size P (f ∷ []) a.found = subst (λ fs. LinesOfFunctions size P fs a.found) only a.all in
    let b : InTurn (LinesOf size P S (Matched p e cs)) (LineWhere size (place_of_expression (Matched p e cs)) wrong_result (Misfits P S (Matched p e cs) f.declared)) m.0 =
    subst (λ g. InTurn (LinesOf size P S g) (LineWhere size (place_of_expression g) wrong_result (Misfits P S g f.declared)) m.0) same m.2 in
    let i = no_such_line p wrong_result (Misfits P S (Matched p e cs) f.declared) b.1 fits b.3 in
    let j : (b.2).0 ≡ [] = nothing_left (b.2).0 (expression_same P S e (b.2).0 [] (b.2).2 none) in
    let found : a.found ≡ (b.2).1 = first_alone a.found m.0 m.1 m.4 m.3 ∙ first_alone m.0 b.0 b.1 b.4 i ∙ rest_alone b.0 (b.2).0 (b.2).1 (b.2).4 j in
    ((b.2).1, (b.2).3, a.ordered ∙ ap lines_in_order found)
