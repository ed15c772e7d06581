-- All variables of a program, in order of place.
use Rattle.std.proofs.Common.{◌≡◌, List, [], ◌∷◌, flat_map, refl, ap, sym, subst, ◌∙◌}
use Rattle.std.specs.List.{AllByRecursion, AllZip}
use Rattle.xd_base.specs.declared.Place.{Place}
use Rattle.xd_auto.specs.Automaton.{Automaton}
use Rattle.xd_syntax.specs.Kept.{ProgramTable, program_tree}
use Rattle.xd_syntax.specs.Matches.{SeenMatch}
use Rattle.xd_syntax.specs.Order.{is_earlier, ordered}
use Rattle.xd_syntax.specs.Program.{ProgramTree}
use Rattle.xd_check_steps.specs.Found.{IsMet}
use Rattle.xd_scrutinees.specs.Scrutinees.{AreMatchStates}
use Rattle.xd_check_steps.specs.declared.findings.MetMatch.{MetMatch}
use Rattle.xd_scrutinees.specs.declared.matches.MatchStates.{MatchStates}
use Rattle.xd_scrutinees.proofs.ByPlace.{ordered_both}
use Rattle.xd_variables.specs.Bound.{AreBoundIn, IsBound, bound_precedes}
use Rattle.xd_variables.specs.Read.{AddsVariables, CanBeRead}
use Rattle.xd_variables.specs.Seen.{Reading, SeenVariable, variable_precedes, variables_of_match}
use Rattle.xd_variables.specs.declared.variables.BoundVariable.{BoundVariable}

abbrev pub bound_place : BoundVariable → Place
bound_place x = x.place

pub readable : (p : ProgramTable) (a : Automaton) (ms : List SeenMatch) (xs : List MetMatch) → AllZip (IsMet p a) ms xs → AllByRecursion (CanBeRead p a) xs
readable p a [] [] h = tt
readable p a [] (x ∷ xs) h = absurd h
readable p a (m ∷ ms) [] h = absurd h
readable p a (m ∷ ms) (x ∷ xs) h = (record { walkable = (h.0).walkable; belongs = (h.0).belongs }, readable p a ms xs h.1)

same_order : (B : Reading) (P : ProgramTree) (a : Automaton) (v w : SeenVariable) (x y : BoundVariable) → IsBound B P a v x → IsBound B P a w y → bound_precedes x y ≡ variable_precedes v w
same_order B P a v w x y h k = ap (λ q. is_earlier q y.place) h.place ∙ ap (is_earlier v.place) k.place

pub bound_in_order : (B : Reading) (p : ProgramTable) (a b : Automaton) (met : MatchStates) (xs ys : List BoundVariable) → (h : AreMatchStates p a met) →
    ((ms : List SeenMatch) → AllZip (IsMet met.sound a) ms met.matches.items → AddsVariables B (program_tree met.sound) b (flat_map variables_of_match ms) [] xs) → ys ≡ ordered bound_precedes xs → AreBoundIn B (program_tree p) b ys
bound_in_order B p a b met xs ys h read e =
    let vs : List SeenVariable = flat_map variables_of_match h.found in
    let adds : AddsVariables B (program_tree p) b vs [] xs = subst (λ (P : ProgramTree). AddsVariables B P b vs [] xs) h.same (read h.found h.each) in
    let zipped : AllZip (IsBound B (program_tree p) b) vs xs = subst (AllZip (IsBound B (program_tree p) b) vs) (sym adds.grown) adds.each in
    record {
      variables = ordered variable_precedes vs;
      seen = record { matches = h.found; seen = h.seen; ordered = refl };
      each = subst (AllZip (IsBound B (program_tree p) b) (ordered variable_precedes vs)) (sym e) (ordered_both (IsBound B (program_tree p) b) variable_precedes bound_precedes (same_order B (program_tree p) b) vs xs zipped);
    }
