-- What an expression may be, and its lines, rest on the proper documents that its scope allows.
use Rattle.std.proofs.Common.{◌≡◌, ℕ, Bool, true, false, ◌&&◌, inl, inr, List, [], ◌∷◌, ap, ◌∙◌}
use Rattle.xd_base.specs.declared.Place.{Place}
use Rattle.xd_doc.specs.Word.{is_word}
use Rattle.xd_doc.specs.Document.{Document, empty, text, element, is_proper}
use Rattle.xd_doc.proofs.LeastLemmas.{least_of_part}
use Rattle.xd_doc.proofs.Bools.{and_parts}
use Rattle.xd_syntax.specs.Words.{has_word}
use Rattle.xd_syntax.specs.Tree.{Definitions}
use Rattle.xd_syntax.specs.Placed.{PlacedTree, variables}
use Rattle.xd_syntax.specs.Fits.{Split}
use Rattle.xd_syntax.specs.Expression.{Expression, Nothing, Quoted, Variable, Tagged, Joined, Called, Matched, Arguments, no_argument, argument, Clauses, no_clause, clause, place_of_expression}
use Rattle.xd_syntax.specs.Program.{Parameter, ProgramTree, names_of, function_of}
use Rattle.xd_syntax.specs.May.{Scope, clause_entry, Allowance, IsTagged, IsLive, MayBind, WhereTrue, in_clause, MayBy, MayByClauses, Allows, May}
use Rattle.xd_syntax.specs.CheckFaults.{Line, LineKind, LineWhere, IsProperWith, Misfits, wrong_argument, not_exhaustive, parameters_of, Comes, IsLiveIn, LinesOf, LinesOfArguments, LinesOfClauses}
use Rattle.xd_syntax.specs.Order.{InTurn}
use Rattle.xd_laws.specs.Scopes.{AllowTheSame, MoreIsAllowed, ScopesDecideMay, ScopesDecideLines}
use Rattle.xd_laws.proofs.BoundVariables.{proper_joined}

-- each proper document that meets the first fact meets the second
abbrev Implies : (Document → Type 0) → (Document → Type 0) → Type 0
Implies A B = (d : Document) → is_proper d ≡ true → A d → B d

abbrev Within : Allowance → Allowance → Type 0
Within V W = (x : List ℕ) → Implies (V x) (W x)

tagged_within : (l : List ℕ) (A B : Document → Type 0) → Implies A B → Implies (IsTagged l A) (IsTagged l B)
tagged_within l A B h empty p m = absurd m
tagged_within l A B h (text s r) p m = absurd m
tagged_within l A B h (element k c r) p m =
    let q = and_parts (is_word k) (is_proper c && is_proper r) p in (m.0, m.1, h c (and_parts (is_proper c) (is_proper r) q.1).0 m.2)

split_within : (A B F G : Document → Type 0) → Implies A B → Implies F G → Implies (Split A F) (Split B G)
split_within A B F G h k d p m =
    let q = proper_joined m.0 m.1 (ap is_proper m.2 ∙ p) in (m.0, m.1, m.2, h m.0 q.0 m.3, k m.1 q.1 m.4)

live_within : (E : Definitions) (A B : Document → Type 0) → Implies A B → (earlier : List PlacedTree) (Q : PlacedTree) → IsLive E A earlier Q → IsLive E B earlier Q
live_within E A B h earlier Q l = (l.0, ((l.1).0, h l.0 (l.1).0 (l.1).1, (l.1).2), l.2)

clause_within : (E : Definitions) (A B : Document → Type 0) → Implies A B → (V W : Allowance) → Within V W → (earlier : List PlacedTree) (Q : PlacedTree) →
    Within (in_clause E A earlier Q V) (in_clause E B earlier Q W)
clause_within E A B h V W k earlier Q x d p m = go (has_word (variables Q) x) m
  where
    go : (b : Bool) → WhereTrue b (MayBind E A earlier Q x d) (V x d) → WhereTrue b (MayBind E B earlier Q x d) (W x d)
    go true m = (m.0, m.1, ((m.2).0, h m.0 (m.2).0 (m.2).1, (m.2).2), m.3, m.4)
    go false m = k x d p m

mutual
  may_within : (P : ProgramTree) (V W : Allowance) → Within V W → (e : Expression) → Implies (MayBy P V e) (MayBy P W e)
  may_within P V W h (Nothing p) d i m = m
  may_within P V W h (Quoted p s) d i m = m
  may_within P V W h (Variable p x) d i m = h x d i m
  may_within P V W h (Tagged p l e) d i m = tagged_within l (MayBy P V e) (MayBy P W e) (λ c j n. may_within P V W h e c j n) d i m
  may_within P V W h (Joined p e f) d i m =
      split_within (MayBy P V e) (MayBy P W e) (MayBy P V f) (MayBy P W f) (λ c j n. may_within P V W h e c j n) (λ c j n. may_within P V W h f c j n) d i m
  may_within P V W h (Called p f es) d i m = m
  may_within P V W h (Matched p e cs) d i m = clauses_within P V W h (MayBy P V e) (MayBy P W e) (λ c j n. may_within P V W h e c j n) [] cs d i m

  clauses_within : (P : ProgramTree) (V W : Allowance) → Within V W → (A B : Document → Type 0) → Implies A B → (earlier : List PlacedTree) (cs : Clauses) →
      Implies (MayByClauses P V A earlier cs) (MayByClauses P W B earlier cs)
  clauses_within P V W h A B k earlier no_clause d i m = m
  clauses_within P V W h A B k earlier (clause Q f cs) d i (inl m) =
      inl (
        live_within (names_of P) A B k earlier Q m.0,
        may_within P (in_clause (names_of P) A earlier Q V) (in_clause (names_of P) B earlier Q W) (clause_within (names_of P) A B k V W h earlier Q) f d i m.1,
      )
  clauses_within P V W h A B k earlier (clause Q f cs) d i (inr m) = inr (clauses_within P V W h A B k (Q ∷ earlier) cs d i m)

pub more_is_allowed : MoreIsAllowed
more_is_allowed P S Z h e d p m = may_within P (Allows P S) (Allows P Z) h e d p m

-- one way of two scopes that allow the same, and the other
first_way : (P : ProgramTree) (S Z : Scope) → AllowTheSame P S Z → (e : Expression) → Implies (May P S e) (May P Z e)
first_way P S Z h e d p m = more_is_allowed P S Z (λ x c q n. (h x c q).0 n) e d p m

turned : (P : ProgramTree) (S Z : Scope) → AllowTheSame P S Z → AllowTheSame P Z S
turned P S Z h x d p = ((h x d p).1, (h x d p).0)

pub scopes_decide_may : ScopesDecideMay
scopes_decide_may P S Z h e d p = (first_way P S Z h e d p, first_way P Z S (turned P S Z h) e d p)

-- a clause hides the same in and_parts
same_in_clause : (P : ProgramTree) (S Z : Scope) → AllowTheSame P S Z → (e : Expression) (earlier : List PlacedTree) (Q : PlacedTree) →
    AllowTheSame P (clause_entry e earlier Q ∷ S) (clause_entry e earlier Q ∷ Z)
same_in_clause P S Z h e earlier Q x d p = (
  clause_within (names_of P) (May P S e) (May P Z e) (first_way P S Z h e) (Allows P S) (Allows P Z) (λ y c q n. (h y c q).0 n) earlier Q x d p,
  clause_within (names_of P) (May P Z e) (May P S e) (first_way P Z S (turned P S Z h) e) (Allows P Z) (Allows P S) (λ y c q n. (h y c q).1 n) earlier Q x d p,
)

proper_within : (A B : Document → Type 0) → Implies A B → (d : Document) → IsProperWith A d → IsProperWith B d
proper_within A B h d w = record { proper = w.proper; meets = h d w.proper w.meets }

-- the lines where one fact would be met are those where the other would be
pub line_within : (measure : Document → ℕ) (p : Place) (k : LineKind) (A B : Document → Type 0) → Implies A B → Implies B A → (ls : List Line) → LineWhere measure p k A ls → LineWhere measure p k B ls
line_within measure p k A B h i ls (inl y) = inl (y.0, least_of_part measure (IsProperWith A) (IsProperWith B) y.0 (proper_within A B h y.0 (y.1).within) (proper_within B A i) y.1, y.2)
line_within measure p k A B h i ls (inr y) = inr ((λ d q b. y.0 d q (i d q b)), y.1)

misfits_within : (P : ProgramTree) (S Z : Scope) → AllowTheSame P S Z → (e : Expression) (T : PlacedTree) → Implies (Misfits P S e T) (Misfits P Z e T)
misfits_within P S Z h e T d p m = (first_way P S Z h e d p m.0, m.1)

comes_within : (P : ProgramTree) (S Z : Scope) → AllowTheSame P S Z → (e : Expression) (earlier : List PlacedTree) → Implies (Comes P S e earlier) (Comes P Z e earlier)
comes_within P S Z h e earlier d p m = (m.0, first_way P S Z h e d p m.1, m.2)

same_live : (P : ProgramTree) (S Z : Scope) → AllowTheSame P S Z → (e : Expression) (earlier : List PlacedTree) (Q : PlacedTree) → IsLiveIn P S e earlier Q → IsLiveIn P Z e earlier Q
same_live P S Z h e earlier Q l = live_within (names_of P) (May P S e) (May P Z e) (first_way P S Z h e) earlier Q l

both_within : (A B F G : List Line → Type 0) → ((ls : List Line) → A ls → B ls) → ((ls : List Line) → F ls → G ls) → (ls : List Line) → InTurn A F ls → InTurn B G ls
both_within A B F G h k ls m = (m.0, m.1, h m.0 m.2, k m.1 m.3, m.4)

mutual
  lines_within : (measure : Document → ℕ) (P : ProgramTree) (S Z : Scope) → AllowTheSame P S Z → (e : Expression) (ls : List Line) → LinesOf measure P S e ls → LinesOf measure P Z e ls
  lines_within measure P S Z h (Nothing p) ls m = m
  lines_within measure P S Z h (Quoted p s) ls m = m
  lines_within measure P S Z h (Variable p x) ls m = m
  lines_within measure P S Z h (Tagged p l e) ls m = lines_within measure P S Z h e ls m
  lines_within measure P S Z h (Joined p e f) ls m =
      both_within (LinesOf measure P S e) (LinesOf measure P Z e) (LinesOf measure P S f) (LinesOf measure P Z f) (λ ms n. lines_within measure P S Z h e ms n) (λ ms n. lines_within measure P S Z h f ms n) ls m
  lines_within measure P S Z h (Called p f es) ls m = arguments_within measure P S Z h (parameters_of (function_of P.functions f)) es ls m
  lines_within measure P S Z h (Matched p e cs) ls m =
      both_within (LinesOf measure P S e) (LinesOf measure P Z e) (LinesOfClauses measure P S p e [] cs) (LinesOfClauses measure P Z p e [] cs)
      (λ ms n. lines_within measure P S Z h e ms n) (λ ms n. clause_lines_within measure P S Z h p e [] cs ms n) ls m

  arguments_within : (measure : Document → ℕ) (P : ProgramTree) (S Z : Scope) → AllowTheSame P S Z → (qs : List Parameter) (es : Arguments) (ls : List Line) → LinesOfArguments measure P S qs es ls →
      LinesOfArguments measure P Z qs es ls
  arguments_within measure P S Z h [] no_argument ls m = m
  arguments_within measure P S Z h (q ∷ qs) no_argument ls m = m
  arguments_within measure P S Z h [] (argument e es) ls m =
      both_within (LinesOf measure P S e) (LinesOf measure P Z e) (LinesOfArguments measure P S [] es) (LinesOfArguments measure P Z [] es)
      (λ ms n. lines_within measure P S Z h e ms n) (λ ms n. arguments_within measure P S Z h [] es ms n) ls m
  arguments_within measure P S Z h (q ∷ qs) (argument e es) ls m =
      both_within (LinesOf measure P S e) (LinesOf measure P Z e) _ _ (λ ms n. lines_within measure P S Z h e ms n)
      (λ ms n. both_within (LineWhere measure (place_of_expression e) wrong_argument (Misfits P S e q.declared)) (LineWhere measure (place_of_expression e) wrong_argument (Misfits P Z e q.declared))
      (LinesOfArguments measure P S qs es) (LinesOfArguments measure P Z qs es)
      (λ ks l. line_within measure (place_of_expression e) wrong_argument (Misfits P S e q.declared) (Misfits P Z e q.declared)
      (misfits_within P S Z h e q.declared) (misfits_within P Z S (turned P S Z h) e q.declared) ks l)
      (λ ks l. arguments_within measure P S Z h qs es ks l) ms n) ls m

  clause_lines_within : (measure : Document → ℕ) (P : ProgramTree) (S Z : Scope) → AllowTheSame P S Z → (p : Place) (e : Expression) (earlier : List PlacedTree) (cs : Clauses) (ls : List Line) →
      LinesOfClauses measure P S p e earlier cs ls → LinesOfClauses measure P Z p e earlier cs ls
  clause_lines_within measure P S Z h p e earlier no_clause ls m =
      line_within measure p not_exhaustive (Comes P S e earlier) (Comes P Z e earlier) (comes_within P S Z h e earlier) (comes_within P Z S (turned P S Z h) e earlier) ls m
  clause_lines_within measure P S Z h p e earlier (clause Q f cs) ls m = (
    m.0,
    m.1,
    elim m.2 [
      | inl l ↦ inl (same_live P S Z h e earlier Q l.0, lines_within measure P (clause_entry e earlier Q ∷ S) (clause_entry e earlier Q ∷ Z) (same_in_clause P S Z h e earlier Q) f m.0 l.1)
      | inr l ↦ inr ((λ z. l.0 (same_live P Z S (turned P S Z h) e earlier Q z)), l.1)
    ],
    clause_lines_within measure P S Z h p e (Q ∷ earlier) cs m.1 m.3,
    m.4,
  )

pub scopes_decide_lines : ScopesDecideLines
scopes_decide_lines measure P S Z h e ls = (lines_within measure P S Z h e ls, lines_within measure P Z S (turned P S Z h) e ls)
