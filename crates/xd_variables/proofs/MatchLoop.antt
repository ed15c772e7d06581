-- The loop over matches, and the clauses of one.
use Rattle.std.proofs.Common.{◌≡◌, ℕ, Global, Vec, ◌+◌, ◌<◌, ◌≤◌, arith, List, [], ◌∷◌, ◌++◌, flat_map, map, length, get_or, drop, refl, ap, sym, subst, ◌∙◌, append-nil, append_assoc}
use Rattle.std.specs.List.{AllByRecursion, AllZip}
use Rattle.std.proofs.lemmas.Grind.{flat_map-append}
use Rattle.std.proofs.lemmas.List.{drop_more}
use Rattle.xd_base.specs.declared.Place.{Place}
use Rattle.xd_auto.specs.Automaton.{Automaton}
use Rattle.xd_syntax.specs.Expression.{Clauses, Expression, Matched, joined}
use Rattle.xd_syntax.specs.ExpressionTable.{ExprCanFollow, ExprRow, shape_expression}
use Rattle.xd_syntax.specs.Exprs.{expr_numbers, shape_of}
use Rattle.xd_syntax.specs.Kept.{ProgramTable, program_tree}
use Rattle.xd_syntax.specs.Matches.{SeenMatch}
use Rattle.xd_syntax.specs.Placed.{PlacedTree}
use Rattle.xd_syntax.specs.declared.exprs.Clause.{Clause}
use Rattle.xd_syntax.specs.declared.exprs.ExprId.{ExprId}
use Rattle.xd_syntax.specs.declared.exprs.ExprForm.{ExprForm}
use Rattle.xd_syntax.specs.declared.exprs.ExprForm.TheVariants.{Call, Elem, Empty, Match, Seq, Text, Var}
use Rattle.xd_clauses.specs.Clauses.{Accepted}
use Rattle.xd_check_steps.specs.Walkable.{expr_at}
use Rattle.xd_check_steps.specs.Found.{IsMet}
use Rattle.xd_check.specs.Walked.{ComesBehind}
use Rattle.xd_check_steps.specs.States.{Grows}
use Rattle.xd_check_steps.specs.declared.findings.MetMatch.{MetMatch}
use Rattle.xd_check.proofs.ClauseLemmas.{comes_first}
use Rattle.xd_check_steps.proofs.GrowsLemmas.{grows_none, grows_then}
use Rattle.xd_check_steps.proofs.AddsFoundLemmas.{met_kept}
use Rattle.xd_variables.specs.Read.{AddsVariables, CanBeRead}
use Rattle.xd_variables.specs.Seen.{Reading, variables_of_clauses, variables_of_match}
use Rattle.xd_variables.specs.declared.variables.BoundVariable.{BoundVariable}
use Rattle.xd_variables.proofs.ReadingLemmas.{adds_both, adds_none}

-- ---- one match

-- the parts of a match, whose node has this scrutinee and these clauses
pub read_match : (B : Reading) (p : ProgramTable) (a b : Automaton) (m : SeenMatch) (x : MetMatch) (q : Place) (e : Expression) (cs : Clauses) (old new : List BoundVariable) → IsMet p a m x → expr_at p x.expr.at ≡ Matched q e cs →
    (ComesBehind (program_tree p) m.scope m.scrutinee [] (Accepted a x.state) → AddsVariables B (program_tree p) b (variables_of_clauses m.scope m.scrutinee [] cs) old new) →
    AddsVariables B (program_tree p) b (variables_of_match m) old new
read_match B p a b m x q e cs old new h tree f =
    let parts : Matched q e cs ≡ Matched m.place m.scrutinee m.clauses = sym tree ∙ h.match in
    let same : cs ≡ m.clauses = cc in
    subst (λ ks. AddsVariables B (program_tree p) b (variables_of_clauses m.scope m.scrutinee [] ks) old new) same
    (f (comes_first (program_tree p) m.scope m.scrutinee a x.state (Accepted a x.state) h.exact (λ d. (λ y. y, λ y. y))))

-- a node that is no match
pub no_match : (P : ℕ → PlacedTree) (t : ℕ → Expression) (rs : List ExprRow) (q r : Place) (e : Expression) (ks : Clauses) (f : ExprForm) → ExprCanFollow rs (shape_of f) → shape_expression P t q (shape_of f) ≡ Matched r e ks →
    ((i : ExprId) (cs : Vec Clause Global) → f ≡ Match i cs → ⊥) → ⊥
no_match P t rs q r e ks Empty c h n = cc
no_match P t rs q r e ks (Text s) c h n = cc
no_match P t rs q r e ks (Var x) c h n = cc
no_match P t rs q r e ks (Elem l i) c h n = cc
no_match P t rs q r e ks (Seq parts) c h n = go (expr_numbers parts.items) c.0 h
  where
    go : (is : List ℕ) → 2 ≤ length is → joined q (map t is) ≡ Matched r e ks → ⊥
    go [] l k = absurd (omega arith)
    go (i ∷ []) l k = absurd (omega arith)
    go (i ∷ (j ∷ js)) l k = cc
no_match P t rs q r e ks (Call w arguments) c h n = cc
no_match P t rs q r e ks (Match i cs) c h n = n i cs refl

-- ---- all matches

readable_kept : (p : ProgramTable) (a b : Automaton) → Grows a b → (xs : List MetMatch) → AllByRecursion (CanBeRead p a) xs → AllByRecursion (CanBeRead p b) xs
readable_kept p a b g [] h = tt
readable_kept p a b g (x ∷ xs) h = (record { walkable = (h.0).walkable; belongs = (g.extends).states x.state (h.0).belongs }, readable_kept p a b g xs h.1)

-- some of the matches were read, and the others wait
pub record MatchesLeft (B : Reading) (p : ProgramTable) (a : Automaton) (ms : List SeenMatch) (left : List MetMatch) (old new : List BoundVariable) : Type 0 where
  pub done : List SeenMatch
  pub waiting : List SeenMatch
  pub split : ms ≡ done ++ waiting
  pub met : AllZip (IsMet p a) waiting left
  pub adds : AddsVariables B (program_tree p) a (flat_map variables_of_match done) old new

-- the matches from the n-th on are still to be read
pub record MatchesRead (B : Reading) (p : ProgramTable) (a b : Automaton) (old new : List BoundVariable) (xs : List MetMatch) (n : ℕ) : Type 0 where
  pub grows : Grows a b
  pub rest : AllByRecursion (CanBeRead p b) (drop n xs)
  pub read : (ms : List SeenMatch) → AllZip (IsMet p a) ms xs → MatchesLeft B p b ms (drop n xs) old new

pub matches_begin : (B : Reading) (p : ProgramTable) (a : Automaton) (old : List BoundVariable) (xs : List MetMatch) → AllByRecursion (CanBeRead p a) xs → MatchesRead B p a a old old xs 0
matches_begin B p a old xs h = record {
  grows = grows_none a;
  rest = h;
  read = λ ms k. record { done = []; waiting = ms; split = refl; met = k; adds = adds_none B (program_tree p) a old };
}

match_front : (xs : List MetMatch) (n : ℕ) (x : MetMatch) → n < length xs → x ≡ get_or xs n x → drop n xs ≡ x ∷ drop (n + 1) xs
match_front xs n x l e = drop_more xs n x l ∙ ap (λ y. y ∷ drop (n + 1) xs) (sym e)

pub match_here : (B : Reading) (p : ProgramTable) (a b : Automaton) (old new : List BoundVariable) (xs : List MetMatch) (n : ℕ) (x : MetMatch) → MatchesRead B p a b old new xs n → n < length xs → x ≡ get_or xs n x → CanBeRead p b x
match_here B p a b old new xs n x h l e = let r : AllByRecursion (CanBeRead p b) (x ∷ drop (n + 1) xs) = subst (AllByRecursion (CanBeRead p b)) (match_front xs n x l e) h.rest in r.0

one_more : (B : Reading) (p : ProgramTable) (b c : Automaton) (ms : List SeenMatch) (x : MetMatch) (left : List MetMatch) (old mid new : List BoundVariable) → Grows b c → MatchesLeft B p b ms (x ∷ left) old mid →
    ((m : SeenMatch) → IsMet p b m x → AddsVariables B (program_tree p) c (variables_of_match m) mid new) → MatchesLeft B p c ms left old new
one_more B p b c ms x left old mid new g h f = go h.waiting h.split h.met
  where
    go : (ws : List SeenMatch) → ms ≡ h.done ++ ws → AllZip (IsMet p b) ws (x ∷ left) → MatchesLeft B p c ms left old new
    go [] e k = absurd k
    go (m ∷ ws) e k = record {
      done = h.done ++ m ∷ [];
      waiting = ws;
      split = e ∙ sym (append_assoc h.done (m ∷ []) ws);
      met = met_kept p b c g ws left k.1;
      adds = subst (λ vs. AddsVariables B (program_tree p) c vs old new) (sym (flat_map-append variables_of_match h.done (m ∷ []) ∙ ap (λ vs. flat_map variables_of_match h.done ++ vs) (append-nil (variables_of_match m))))
          (adds_both B (program_tree p) b c g (flat_map variables_of_match h.done) (variables_of_match m) old mid new h.adds (f m k.0));
    }

pub matches_more : (B : Reading) (p : ProgramTable) (a b c : Automaton) (old mid new : List BoundVariable) (xs : List MetMatch) (n : ℕ) (x : MetMatch) → MatchesRead B p a b old mid xs n → n < length xs → x ≡ get_or xs n x → Grows b c →
    ((m : SeenMatch) → IsMet p b m x → AddsVariables B (program_tree p) c (variables_of_match m) mid new) → MatchesRead B p a c old new xs (n + 1)
matches_more B p a b c old mid new xs n x h l e g f =
    let fr = match_front xs n x l e in
    let r : AllByRecursion (CanBeRead p b) (x ∷ drop (n + 1) xs) = subst (AllByRecursion (CanBeRead p b)) fr h.rest in
    record {
      grows = grows_then a b c h.grows g;
      rest = readable_kept p b c g (drop (n + 1) xs) r.1;
      read = λ ms k. one_more B p b c ms x (drop (n + 1) xs) old mid new g (subst (λ ys. MatchesLeft B p b ms ys old mid) fr (h.read ms k)) f;
    }

pub matches_end : (B : Reading) (p : ProgramTable) (a b : Automaton) (old new : List BoundVariable) (xs : List MetMatch) (n : ℕ) → drop n xs ≡ [] → MatchesRead B p a b old new xs n →
    (ms : List SeenMatch) → AllZip (IsMet p a) ms xs → AddsVariables B (program_tree p) b (flat_map variables_of_match ms) old new
matches_end B p a b old new xs n d h ms k = go y.waiting y.split y.met
  where
    y : MatchesLeft B p b ms [] old new
    y = subst (λ ys. MatchesLeft B p b ms ys old new) d (h.read ms k)

    go : (ws : List SeenMatch) → ms ≡ y.done ++ ws → AllZip (IsMet p b) ws [] → AddsVariables B (program_tree p) b (flat_map variables_of_match ms) old new
    go [] e j = subst (λ vs. AddsVariables B (program_tree p) b (flat_map variables_of_match vs) old new) (sym (e ∙ append-nil y.done)) y.adds
    go (w ∷ ws) e j = absurd j
