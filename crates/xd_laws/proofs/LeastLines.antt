-- Lines with documents that are least where sizes are told apart below a limit alone are the lines
-- of the program, where the documents that their faults carry have sizes below the limit.
use Rattle.std.proofs.Common.{◌≡◌, ℕ, Bool, true, false, cond, inl, inr, List, [], ◌∷◌, ◌++◌, Some, refl, ap, sym, subst, ◌∙◌}
use Rattle.std.specs.List.{AllByRecursion}
use Rattle.xd_base.specs.declared.Place.{Place}
use Rattle.xd_doc.specs.Document.{Document, size}
use Rattle.xd_doc.specs.LeastUpTo.{size_up_to}
use Rattle.xd_doc.proofs.LeastLemmas.{least_below}
use Rattle.xd_syntax.specs.Placed.{PlacedTree}
use Rattle.xd_syntax.specs.Expression.{Expression, Nothing, Quoted, Variable, Tagged, Joined, Called, Matched, Arguments, no_argument, argument, Clauses, no_clause, clause, place_of_expression}
use Rattle.xd_syntax.specs.Program.{Parameter, FunctionDefinition, ProgramTree, function_of}
use Rattle.xd_syntax.specs.May.{Scope, clause_entry, parameters_scope}
use Rattle.xd_syntax.specs.Order.{put_in, ordered_after, InTurn}
use Rattle.xd_syntax.specs.CheckFaults.{Line, LineKind, line_precedes, IsProperWith, LineWhere, Misfits, wrong_argument, wrong_result, not_exhaustive, parameters_of, Comes, LinesOf, LinesOfArguments, LinesOfClauses, LinesOfFunction, LinesOfFunctions, AreLines, AreLinesBy, is_warning, faults_among}
use Rattle.xd_laws.specs.LeastLines.{IsSmall, SmallLinesAreLeast}

module _ (limit : ℕ) where
  -- the documents that faults carry have sizes below the limit
  abbrev AreSmall : List Line → Type 0
  AreSmall ls = AllByRecursion (λ (l : Line). is_warning l.kind ≡ false → IsSmall limit l) ls

  small_among : (ls : List Line) → AllByRecursion (IsSmall limit) (faults_among ls) → AreSmall ls
  small_among [] h = tt
  small_among (l ∷ ls) h = go (is_warning l.kind) refl h (λ k. small_among ls k)
    where
      go : (b : Bool) → is_warning l.kind ≡ b → AllByRecursion (IsSmall limit) (cond b (faults_among ls) (l ∷ faults_among ls)) → (AllByRecursion (IsSmall limit) (faults_among ls) → AreSmall ls) → AreSmall (l ∷ ls)
      go true w k rec = ((λ f d e. (let no : true ≡ false = sym w ∙ f in absurd (cc))), rec k)
      go false w k rec = ((λ f. k.0), rec k.1)

  small_both : (xs ys : List Line) → AreSmall (xs ++ ys) → AreSmall xs × AreSmall ys
  small_both [] ys h = (tt, h)
  small_both (x ∷ xs) ys h = let r = small_both xs ys h.1 in ((h.0, r.0), r.1)

  small_put : (l : Line) (ms : List Line) → AreSmall (put_in line_precedes l ms) → AreSmall (l ∷ ms)
  small_put l [] h = h
  small_put l (m ∷ ms) h = go (line_precedes l m) h (λ k. small_put l ms k)
    where
      go : (b : Bool) → AreSmall (cond b (l ∷ (m ∷ ms)) (m ∷ put_in line_precedes l ms)) → (AreSmall (put_in line_precedes l ms) → AreSmall (l ∷ ms)) → AreSmall (l ∷ (m ∷ ms))
      go true k rec = k
      go false k rec = let r = rec k.1 in (r.0, (k.0, r.1))

  small_after : (done ls : List Line) → AreSmall (ordered_after line_precedes done ls) → AreSmall done × AreSmall ls
  small_after done [] h = (h, tt)
  small_after done (l ∷ ls) h =
      let r = small_after (put_in line_precedes l done) ls h in let k = small_put l done r.0 in (k.1, (k.0, r.1))

  -- lists of the first kind whose documents are small are of the second
  abbrev Turns : (List Line → Type 0) → (List Line → Type 0) → Type 0
  Turns A B = (ls : List Line) → AreSmall ls → A ls → B ls

  nothing_turns : Turns (λ ls. ls ≡ []) (λ ls. ls ≡ [])
  nothing_turns ls b h = h

  both_turn : (A B F G : List Line → Type 0) → Turns A B → Turns F G → Turns (InTurn A F) (InTurn B G)
  both_turn A B F G f g ls b h = let s = small_both h.0 h.1 (subst AreSmall h.4 b) in (h.0, h.1, f h.0 s.0 h.2, g h.1 s.1 h.3, h.4)

  line_turns : (p : Place) (k : LineKind) (A : Document → Type 0) → is_warning k ≡ false → Turns (LineWhere (size_up_to limit) p k A) (LineWhere size p k A)
  line_turns p k A w ls b (inl h) =
      let s : AreSmall (record { place = p; kind = k; document = Some h.0 } ∷ []) = subst AreSmall h.2 b in
      inl (h.0, least_below limit (IsProperWith A) h.0 h.1 (s.0 w h.0 refl), h.2)
  line_turns p k A w ls b (inr h) = inr h

  mutual
    expression_turns : (P : ProgramTree) (S : Scope) (e : Expression) → Turns (LinesOf (size_up_to limit) P S e) (LinesOf size P S e)
    expression_turns P S (Nothing p) ls b h = h
    expression_turns P S (Quoted p s) ls b h = h
    expression_turns P S (Variable p x) ls b h = h
    expression_turns P S (Tagged p l e) ls b h = expression_turns P S e ls b h
    expression_turns P S (Joined p e f) ls b h =
        both_turn (LinesOf (size_up_to limit) P S e) (LinesOf size P S e) (LinesOf (size_up_to limit) P S f) (LinesOf size P S f)
        (λ ms c k. expression_turns P S e ms c k) (λ ms c k. expression_turns P S f ms c k) ls b h
    expression_turns P S (Called p f es) ls b h = arguments_turn P S (parameters_of (function_of P.functions f)) es ls b h
    expression_turns P S (Matched p e cs) ls b h =
        both_turn (LinesOf (size_up_to limit) P S e) (LinesOf size P S e) (LinesOfClauses (size_up_to limit) P S p e [] cs) (LinesOfClauses size P S p e [] cs)
        (λ ms c k. expression_turns P S e ms c k) (λ ms c k. clauses_turn P S p e [] cs ms c k) ls b h

    arguments_turn : (P : ProgramTree) (S : Scope) (qs : List Parameter) (es : Arguments) → Turns (LinesOfArguments (size_up_to limit) P S qs es) (LinesOfArguments size P S qs es)
    arguments_turn P S [] no_argument ls b h = h
    arguments_turn P S (q ∷ qs) no_argument ls b h = h
    arguments_turn P S [] (argument e es) ls b h =
        both_turn (LinesOf (size_up_to limit) P S e) (LinesOf size P S e) (LinesOfArguments (size_up_to limit) P S [] es) (LinesOfArguments size P S [] es)
        (λ ms c k. expression_turns P S e ms c k) (λ ms c k. arguments_turn P S [] es ms c k) ls b h
    arguments_turn P S (q ∷ qs) (argument e es) ls b h =
        let A : Document → Type 0 = Misfits P S e q.declared in
        let p : Place = place_of_expression e in
        both_turn (LinesOf (size_up_to limit) P S e) (LinesOf size P S e)
        (InTurn (LineWhere (size_up_to limit) p wrong_argument A) (LinesOfArguments (size_up_to limit) P S qs es)) (InTurn (LineWhere size p wrong_argument A) (LinesOfArguments size P S qs es))
        (λ ms c k. expression_turns P S e ms c k)
        (λ ms c k. both_turn (LineWhere (size_up_to limit) p wrong_argument A) (LineWhere size p wrong_argument A) (LinesOfArguments (size_up_to limit) P S qs es) (LinesOfArguments size P S qs es)
        (λ ks d j. line_turns p wrong_argument A refl ks d j) (λ ks d j. arguments_turn P S qs es ks d j) ms c k) ls b h

    clauses_turn : (P : ProgramTree) (S : Scope) (p : Place) (e : Expression) (earlier : List PlacedTree) (cs : Clauses) →
        Turns (LinesOfClauses (size_up_to limit) P S p e earlier cs) (LinesOfClauses size P S p e earlier cs)
    clauses_turn P S p e earlier no_clause ls b h = line_turns p not_exhaustive (Comes P S e earlier) refl ls b h
    clauses_turn P S p e earlier (clause Q f cs) ls b h =
        let s = small_both h.0 h.1 (subst AreSmall h.4 b) in (
          h.0,
          h.1,
          elim h.2 [ inl l ↦ inl (l.0, expression_turns P (clause_entry e earlier Q ∷ S) f h.0 s.0 l.1) | inr l ↦ inr l ],
          clauses_turn P S p e (Q ∷ earlier) cs h.1 s.1 h.3,
          h.4,
        )

  function_turns : (P : ProgramTree) (f : FunctionDefinition) → Turns (LinesOfFunction (size_up_to limit) P f) (LinesOfFunction size P f)
  function_turns P f ls b h =
      let S : Scope = parameters_scope f.parameters in
      let A : Document → Type 0 = Misfits P S f.body f.declared in
      let p : Place = place_of_expression f.body in
      both_turn (LinesOf (size_up_to limit) P S f.body) (LinesOf size P S f.body) (LineWhere (size_up_to limit) p wrong_result A) (LineWhere size p wrong_result A)
      (λ ms c k. expression_turns P S f.body ms c k) (λ ms c k. line_turns p wrong_result A refl ms c k) ls b h

  functions_turn : (P : ProgramTree) (fs : List FunctionDefinition) → Turns (LinesOfFunctions (size_up_to limit) P fs) (LinesOfFunctions size P fs)
  functions_turn P [] ls b h = h
  functions_turn P (f ∷ fs) ls b h =
      both_turn (LinesOfFunction (size_up_to limit) P f) (LinesOfFunction size P f) (LinesOfFunctions (size_up_to limit) P fs) (LinesOfFunctions size P fs)
      (λ ms c k. function_turns P f ms c k) (λ ms c k. functions_turn P fs ms c k) ls b h

  lines_turn : (P : ProgramTree) (ls : List Line) → AllByRecursion (IsSmall limit) (faults_among ls) → AreLinesBy (size_up_to limit) P ls → AreLines P ls
  lines_turn P ls b h =
      let s = small_after [] h.found (subst AreSmall h.ordered (small_among ls b)) in
      record { found = h.found; all = functions_turn P P.functions h.found s.1 h.all; ordered = h.ordered }

pub small_lines_are_least : SmallLinesAreLeast
small_lines_are_least limit P ls b h = lines_turn limit P ls b h

-- where there is no fault, no document is carried
pub lines_without_fault : (limit : ℕ) (P : ProgramTree) (ls : List Line) → faults_among ls ≡ [] → AreLinesBy (size_up_to limit) P ls → AreLines P ls
lines_without_fault limit P ls none h = lines_turn limit P ls (subst (AllByRecursion (IsSmall limit)) (sym none) tt) h
