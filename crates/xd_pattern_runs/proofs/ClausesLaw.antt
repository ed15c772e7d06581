-- The patterns of clauses, and parts of patterns, are linear.
use Rattle.std.proofs.Common.{◌≡◌, ℕ, false, List, [], ◌++◌, map, ap, sym, subst, ◌∙◌, inl, inr}
use Rattle.xd_doc.proofs.Lists.{append_none_parts}
use Rattle.xd_doc.specs.Members.{IsOneOf}
use Rattle.xd_syntax.specs.Words.{has_word}
use Rattle.xd_syntax.specs.Tree.{Tree, Empty, Text, Words, Name, Elem, Seq, Alt, Star, Plus, Opt, Val, occurrences}
use Rattle.xd_syntax.specs.Placed.{PlacedTree, variables}
use Rattle.xd_syntax.specs.Expression.{Expression, Nothing, Quoted, Variable, Tagged, Joined, Called, Matched, Arguments, no_argument, argument, Clauses, no_clause, clause}
use Rattle.xd_syntax.specs.Program.{Parameter, ProgramTree, function_of}
use Rattle.xd_syntax.specs.NameFaults.{known_types, pattern_faults, call_faults, argument_count, expression_faults, argument_faults, clause_faults}
use Rattle.xd_syntax.proofs.Members.{mem_append}
use Rattle.xd_pattern_runs.specs.Linear.{IsLinear}
use Rattle.xd_pattern_runs.specs.Clauses.{IsPartOf, part_itself, part_content, part_first, part_rest, part_left, part_right, part_star, part_plus, part_opt, part_val, PartsAreLinear, patterns_in, patterns_in_arguments, patterns_in_clauses, ClausesAreLinear}
use Rattle.xd_pattern_runs.proofs.Factor.{nil_append}
use Rattle.xd_laws.proofs.NoFaults.{body_names}
use Rattle.xd_pattern_runs.proofs.LinearFaults.{no_fault_is_linear}

pub no_word : (xs : List (List ℕ)) (x : List ℕ) → xs ≡ [] → has_word xs x ≡ false
no_word xs x e = ap (λ z. has_word z x) e

-- a pattern without variables is linear
linear_none : (T : Tree) → occurrences T ≡ [] → IsLinear T
linear_none Empty e = tt
linear_none Text e = tt
linear_none (Words w) e = tt
linear_none (Name x) e = tt
linear_none (Elem c T) e = linear_none T e
linear_none (Seq T U) e =
    let r = nil_append (occurrences T) (occurrences U) e in (linear_none T r.0, linear_none U r.1, λ x h. no_word (occurrences U) x r.1)
linear_none (Alt T U) e =
    let r = nil_append (occurrences T) (occurrences U) e in (linear_none T r.0, linear_none U r.1, λ x. no_word (occurrences T) x r.0 ∙ sym (no_word (occurrences U) x r.1))
linear_none (Star T) e = e
linear_none (Plus T) e = e
linear_none (Opt T) e = e
linear_none (Val x T) e = cc

part_linear : (U T : Tree) → IsPartOf U T → IsLinear T → IsLinear U
part_linear U _ part_itself l = l
part_linear U _ (part_content {c} {T} p) l = part_linear U T p l
part_linear U _ (part_first {T} {V} p) l = part_linear U T p l.0
part_linear U _ (part_rest {T} {V} p) l = part_linear U V p l.1
part_linear U _ (part_left {T} {V} p) l = part_linear U T p l.0
part_linear U _ (part_right {T} {V} p) l = part_linear U V p l.1
part_linear U _ (part_star {T} p) l = part_linear U T p (linear_none T l)
part_linear U _ (part_plus {T} p) l = part_linear U T p (linear_none T l)
part_linear U _ (part_opt {T} p) l = part_linear U T p (linear_none T l)
part_linear U _ (part_val {x} {T} p) l = part_linear U T p l.1

pub parts_are_linear : PartsAreLinear
parts_are_linear U T p l = part_linear U T p l

-- the patterns of an expression without faults have none
mutual
  in_expression : (P : ProgramTree) (scope : List (List ℕ)) (e : Expression) → expression_faults P scope e ≡ [] → (A : PlacedTree) → IsOneOf A (patterns_in e) → pattern_faults (known_types P) A ≡ []
  in_expression P scope (Nothing p) h A m = absurd m
  in_expression P scope (Quoted p s) h A m = absurd m
  in_expression P scope (Variable p x) h A m = absurd m
  in_expression P scope (Tagged p l e) h A m = in_expression P scope e h A m
  in_expression P scope (Joined p e f) h A m =
      let k = append_none_parts (expression_faults P scope e) (expression_faults P scope f) h in
      elim (mem_append A (patterns_in e) (patterns_in f) m) [ inl a ↦ in_expression P scope e k.0 A a | inr b ↦ in_expression P scope f k.1 A b ]
  in_expression P scope (Called p f es) h A m =
      let k = append_none_parts (call_faults (function_of P.functions f) p f (argument_count es)) (argument_faults P scope es) h in in_arguments P scope es k.1 A m
  in_expression P scope (Matched p e cs) h A m =
      let k = append_none_parts (expression_faults P scope e) (clause_faults P scope cs) h in
      elim (mem_append A (patterns_in e) (patterns_in_clauses cs) m) [ inl a ↦ in_expression P scope e k.0 A a | inr b ↦ in_clauses P scope cs k.1 A b ]

  in_arguments : (P : ProgramTree) (scope : List (List ℕ)) (es : Arguments) → argument_faults P scope es ≡ [] → (A : PlacedTree) → IsOneOf A (patterns_in_arguments es) → pattern_faults (known_types P) A ≡ []
  in_arguments P scope no_argument h A m = absurd m
  in_arguments P scope (argument e es) h A m =
      let k = append_none_parts (expression_faults P scope e) (argument_faults P scope es) h in
      elim (mem_append A (patterns_in e) (patterns_in_arguments es) m) [ inl a ↦ in_expression P scope e k.0 A a | inr b ↦ in_arguments P scope es k.1 A b ]

  in_clauses : (P : ProgramTree) (scope : List (List ℕ)) (cs : Clauses) → clause_faults P scope cs ≡ [] → (A : PlacedTree) → IsOneOf A (patterns_in_clauses cs) → pattern_faults (known_types P) A ≡ []
  in_clauses P scope no_clause h A m = absurd m
  in_clauses P scope (clause Q e cs) h A m =
      let j = append_none_parts (pattern_faults (known_types P) Q ++ expression_faults P (variables Q ++ scope) e) (clause_faults P scope cs) h in
      let k = append_none_parts (pattern_faults (known_types P) Q) (expression_faults P (variables Q ++ scope) e) j.0 in
      elim m [
        | inl i ↦ subst (λ B. pattern_faults (known_types P) B ≡ []) i k.0
        | inr n ↦ elim (mem_append A (patterns_in e) (patterns_in_clauses cs) n) [ inl a ↦ in_expression P (variables Q ++ scope) e k.1 A a | inr b ↦ in_clauses P scope cs j.1 A b ]
      ]

pub clauses_are_linear : ClausesAreLinear
clauses_are_linear P h f m A n =
    no_fault_is_linear (known_types P) A (in_expression P (map (λ (q : Parameter). q.name) f.parameters) f.body (body_names P h f m) A n)
