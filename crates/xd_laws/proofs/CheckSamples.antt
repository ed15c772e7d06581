-- Programs whose faults of matches, arguments and results, and whose warnings, are what they should
-- be, and no others.
use Rattle.std.proofs.Common.{◌≡◌, ℕ, true, false, ◌&&◌, inl, inr, List, [], ◌∷◌, ◌++◌, refl, ap, subst, ◌∙◌}
use Rattle.std.specs.Prelude.{codes}
use Rattle.xd_doc.specs.Document.{Document, empty, text, element, join, is_proper, size}
use Rattle.xd_doc.specs.Word.{is_word}
use Rattle.xd_doc.specs.Classes.{LabelClass}
use Rattle.xd_doc.proofs.Bools.{and_parts}
use Rattle.xd_syntax.specs.Words.{any_word}
use Rattle.xd_syntax.specs.Tree.{Tree, Empty, Name, Elem, Star, Plus, Definitions}
use Rattle.xd_syntax.specs.Placed.{Empty_at, Name_at, Star_at, Plus_at}
use Rattle.xd_syntax.specs.Expression.{Nothing, Variable, Tagged, Matched, no_clause, clause}
use Rattle.xd_syntax.specs.Program.{ProgramTree, names_of}
use Rattle.xd_syntax.specs.Fits.{Fits, fits_no_turn, fits_plus}
use Rattle.xd_syntax.specs.May.{Scope, parameters_scope}
use Rattle.xd_syntax.specs.CheckFaults.{Line, wrong_result, not_exhaustive, LineWhere, Misfits, IsLiveIn, Comes, LinesOfFunctions, LinesOfClauses, lines_in_order, AreLines, IsAccepted}
use Rattle.xd_meaning.specs.Meaning.{Done, meaning}
use Rattle.xd_laws.specs.LineSamples.{at_place, one, leaf_at, x_variable as x, fault_line, warning_line, some_from_any, endless_type, SampleLines}
use Rattle.xd_laws.proofs.OneLines.{empty_least, first_alone, no_such_line}
use Rattle.xd_laws.proofs.TelephoneSamples.{whole_has_lines, without_last_has_lines, exchanged_has_lines}
use Rattle.xd_laws.proofs.FitsLaws.{element_only, plus_only, star_only, defined_name}

-- an element is not empty
element_not_empty : (E : Definitions) (c : LabelClass) (T : Tree) (a b : Document) → Fits E (Elem c T) a → join a b ≡ empty → ⊥
element_not_empty E c T empty b f e = element_only E c T empty f
element_not_empty E c T (text s r) b f e = cc
element_not_empty E c T (element l k r) b f e = cc

-- `fun main (val x as a[]*) : a[]+ = x`

abbrev a_type : Tree
a_type = Elem (one (codes "a")) Empty

-- the result may be empty, and that alone does not fit
empty_misfits : Misfits some_from_any (parameters_scope (record { name = x; place = at_place 1 15; declared = Star_at (at_place 1 20) (leaf_at (at_place 1 20) (codes "a")) } ∷ []))
    (Variable (at_place 1 35) x) (Plus_at (at_place 1 28) (leaf_at (at_place 1 28) (codes "a"))) empty
empty_misfits = (fits_no_turn, not_plus)
  where
    not_plus : Fits (names_of some_from_any) (Plus a_type) empty → ⊥
    not_plus f = let h = plus_only (names_of some_from_any) a_type empty f in element_not_empty (names_of some_from_any) (one (codes "a")) Empty h.0 h.1 h.3 h.2

only_empty_misfits : (d : Document) → Fits (names_of some_from_any) (Star a_type) d → (Fits (names_of some_from_any) (Plus a_type) d → ⊥) → d ≡ empty
only_empty_misfits d f n =
    elim (star_only (names_of some_from_any) a_type d f) [ inl e ↦ e | inr h ↦ absurd (n (fits_plus h.0 h.1 h.2 h.4 h.5)) ]

some_from_any_lines : AreLines some_from_any (fault_line (at_place 1 35) wrong_result empty ∷ [])
some_from_any_lines = record {
  found = fault_line (at_place 1 35) wrong_result empty ∷ [];
  all = (fault_line (at_place 1 35) wrong_result empty ∷ [], [], ([], fault_line (at_place 1 35) wrong_result empty ∷ [], refl, inl (empty, empty_least _ empty_misfits, refl), refl), refl, refl);
  ordered = refl;
}

some_from_any_no_others : (ls : List Line) → AreLines some_from_any ls → ls ≡ fault_line (at_place 1 35) wrong_result empty ∷ []
some_from_any_no_others ls m = m.ordered ∙ ap lines_in_order (only m.found m.all)
  where
    result_line : (ls : List Line) → LineWhere size (at_place 1 35) wrong_result
        (Misfits some_from_any (parameters_scope (record { name = x; place = at_place 1 15; declared = Star_at (at_place 1 20) (leaf_at (at_place 1 20) (codes "a")) } ∷ []))
        (Variable (at_place 1 35) x) (Plus_at (at_place 1 28) (leaf_at (at_place 1 28) (codes "a")))) ls →
        ls ≡ fault_line (at_place 1 35) wrong_result empty ∷ []
    result_line ls (inl h) =
        let w = ((h.1).within).meets in h.2 ∙ ap (λ d. fault_line (at_place 1 35) wrong_result d ∷ []) (only_empty_misfits h.0 w.0 w.1)
    result_line ls (inr h) = absurd (h.0 empty refl empty_misfits)

    only : (found : List Line) → LinesOfFunctions size some_from_any some_from_any.functions found → found ≡ fault_line (at_place 1 35) wrong_result empty ∷ []
    only found m =
        first_alone found m.0 m.1 m.4 m.3 ∙ (m.2).4 ∙ ap (λ r. r ++ (m.2).1) (m.2).2 ∙ result_line (m.2).1 (m.2).3

-- `type N = n[N]`, `fun f (val x as N) : a[] = match x with () -> b[]`

-- no document is endless
no_endless : (d : Document) → Fits (names_of endless_type) (Name (codes "N")) d → ⊥
no_endless empty f =
    element_only (names_of endless_type) (one (codes "n")) (Name (codes "N")) empty
    (defined_name (names_of endless_type) (codes "N") (Elem (one (codes "n")) (Name (codes "N"))) empty refl f)
no_endless (text s r) f =
    element_only (names_of endless_type) (one (codes "n")) (Name (codes "N")) (text s r)
    (defined_name (names_of endless_type) (codes "N") (Elem (one (codes "n")) (Name (codes "N"))) (text s r) refl f)
no_endless (element l c r) f =
    let h = element_only (names_of endless_type) (one (codes "n")) (Name (codes "N")) (element l c r)
    (defined_name (names_of endless_type) (codes "N") (Elem (one (codes "n")) (Name (codes "N"))) (element l c r) refl f) in
    no_endless c h.2

abbrev endless_scope : Scope
endless_scope = parameters_scope (record { name = x; place = at_place 2 12; declared = Name_at (at_place 2 17) (codes "N") } ∷ [])

not_live : IsLiveIn endless_type endless_scope (Variable (at_place 2 34) x) [] (Empty_at (at_place 2 41)) → ⊥
not_live l = no_endless l.0 (l.1).1

nothing_comes : (d : Document) → is_proper d ≡ true → Comes endless_type endless_scope (Variable (at_place 2 34) x) (Empty_at (at_place 2 41) ∷ []) d → ⊥
nothing_comes d p c = no_endless d c.1

nothing_misfits : (d : Document) → is_proper d ≡ true →
    Misfits endless_type endless_scope (Matched (at_place 2 28) (Variable (at_place 2 34) x) (clause (Empty_at (at_place 2 41)) (Tagged (at_place 2 47) (codes "b") (Nothing (at_place 2 49))) no_clause))
    (leaf_at (at_place 2 22) (codes "a")) d → ⊥
nothing_misfits d p m = elim m.0 [ inl l ↦ not_live l.0 | inr n ↦ n ]

endless_type_lines : AreLines endless_type (warning_line (at_place 2 41) ∷ [])
endless_type_lines = record {
  found = warning_line (at_place 2 41) ∷ [];
  all = (
    warning_line (at_place 2 41) ∷ [],
    [],
    (
      warning_line (at_place 2 41) ∷ [],
      [],
      ([], warning_line (at_place 2 41) ∷ [], refl, (warning_line (at_place 2 41) ∷ [], [], inr (not_live, refl), inr (nothing_comes, refl), refl), refl),
      inr (nothing_misfits, refl),
      refl,
    ),
    refl,
    refl,
  );
  ordered = refl;
}

endless_type_accepted : IsAccepted endless_type
endless_type_accepted = (warning_line (at_place 2 41) ∷ [], endless_type_lines, refl)

endless_type_no_others : (ls : List Line) → AreLines endless_type ls → ls ≡ warning_line (at_place 2 41) ∷ []
endless_type_no_others ls m = m.ordered ∙ ap lines_in_order (only m.found m.all)
  where
    warned : (ls : List Line) → LinesOfClauses size endless_type endless_scope (at_place 2 28) (Variable (at_place 2 34) x) []
        (clause (Empty_at (at_place 2 41)) (Tagged (at_place 2 47) (codes "b") (Nothing (at_place 2 49))) no_clause) ls → ls ≡ warning_line (at_place 2 41) ∷ []
    warned ls m =
        first_alone ls m.0 m.1 m.4 (no_such_line (at_place 2 28) not_exhaustive (Comes endless_type endless_scope (Variable (at_place 2 34) x) (Empty_at (at_place 2 41) ∷ [])) m.1 nothing_comes m.3)
        ∙ elim m.2 [ inl l ↦ absurd (not_live l.0) | inr l ↦ l.1 ]

    only : (found : List Line) → LinesOfFunctions size endless_type endless_type.functions found → found ≡ warning_line (at_place 2 41) ∷ []
    only found m =
        first_alone found m.0 m.1 m.4 m.3
        ∙ first_alone m.0 (m.2).0 (m.2).1 (m.2).4 (no_such_line (at_place 2 28) wrong_result _ (m.2).1 nothing_misfits (m.2).3)
        ∙ ((m.2).2).4 ∙ ap (λ r. r ++ ((m.2).2).1) ((m.2).2).2 ∙ warned ((m.2).2).1 ((m.2).2).3

-- A program that is not proper may be accepted, since no proper document is what it makes, and
-- still leave its type: `fun main (val x as Any) : a[] = 1[]`, with a label that is no word.

abbrev digit : List ℕ
digit = codes "1"

abbrev digit_label : ProgramTree
digit_label = record {
  types = [];
  functions =
      record {
        name = codes "main";
        place = at_place 1 5;
        parameters = record { name = x; place = at_place 1 15; declared = Name_at (at_place 1 20) any_word } ∷ [];
        declared = leaf_at (at_place 1 27) (codes "a");
        body = Tagged (at_place 1 33) digit (Nothing (at_place 1 35));
      } ∷ [];
}

no_proper_misfit : (d : Document) → is_proper d ≡ true →
    Misfits digit_label (parameters_scope (record { name = x; place = at_place 1 15; declared = Name_at (at_place 1 20) any_word } ∷ []))
    (Tagged (at_place 1 33) digit (Nothing (at_place 1 35))) (leaf_at (at_place 1 27) (codes "a")) d → ⊥
no_proper_misfit empty p m = m.0
no_proper_misfit (text s r) p m = m.0
no_proper_misfit (element l c r) p m =
    let w : is_word l ≡ true = (and_parts (is_word l) (is_proper c && is_proper r) p).0 in
    let e : is_word digit ≡ true = subst (λ k. is_word k ≡ true) (m.0).0 w in
    let f : false ≡ true = e in cc

digit_label_accepted : IsAccepted digit_label
digit_label_accepted = ([], record { found = []; all = ([], [], ([], [], refl, inr (no_proper_misfit, refl), refl), refl, refl); ordered = refl }, refl)

digit_label_value : meaning digit_label 1 empty ≡ Done (element digit empty empty) 0
digit_label_value = refl

digit_label_misfits : Fits (names_of digit_label) a_type (element digit empty empty) → ⊥
digit_label_misfits f = let h = element_only (names_of digit_label) (one (codes "a")) Empty (element digit empty empty) f in let e : false ≡ true = h.1 in cc

pub sample_lines : SampleLines
sample_lines = record {
  result = record { lines = fault_line (at_place 1 35) wrong_result empty ∷ []; are_lines = some_from_any_lines; only = some_from_any_no_others };
  endless = record { lines = warning_line (at_place 2 41) ∷ []; are_lines = endless_type_lines; only = endless_type_no_others };
  whole = whole_has_lines;
  not_all = without_last_has_lines;
  argument_and_clause = exchanged_has_lines;
}
