-- Calls: their arguments, and what they give.
use Rattle.std.proofs.Common.{◌≡◌, ◌↔◌, ℕ, suc, zero, true, List, [], ◌∷◌, ◌++◌, refl, ap, ◌∙◌, append_assoc}
use Rattle.std.specs.List.{AllByRecursion, slice_get}
use Rattle.std.specs.Option.{IfSome}
use Rattle.xd_base.specs.declared.Place.{Place}
use Rattle.xd_doc.specs.Document.{Document}
use Rattle.xd_auto.specs.declared.auto.State.{State}
use Rattle.xd_auto.specs.Automaton.{Automaton, accepts}
use Rattle.xd_syntax.specs.Placed.{PlacedTree, unplaced}
use Rattle.xd_syntax.specs.Fits.{Fits}
use Rattle.xd_syntax.specs.Expression.{Expression, Called, no_argument, arguments_of, place_of_expression}
use Rattle.xd_syntax.specs.Program.{Parameter, ProgramTree, names_of, function_of}
use Rattle.xd_syntax.specs.May.{Scope, May, FitsResult}
use Rattle.xd_syntax.specs.CheckFaults.{Line, LineKind, LineWhere, Misfits, LinesOf, LinesOfArguments, parameters_of, wrong_argument}
use Rattle.xd_syntax.specs.Order.{InTurn}
use Rattle.xd_syntax.specs.Kept.{ProgramTable, program_tree}
use Rattle.xd_check_steps.specs.Found.{AddsFound, Found}
use Rattle.xd_check_steps.specs.FoundLines.{told_size}
use Rattle.xd_check_steps.specs.States.{AcceptsJust, IsMisfit}
use Rattle.xd_check.specs.Walked.{IsWalked, SeenIn, SeenInArguments}
use Rattle.xd_check_steps.proofs.AddsFoundLemmas.{adds_as}
use Rattle.xd_laws.proofs.SameScopes.{line_within}

-- The lines of a misfit, where the states accept what the expression may be and what the type says.
pub misfit_lines : (P : ProgramTree) (S : Scope) (e : Expression) (T : PlacedTree) (p : Place) (k : LineKind) (a : Automaton) (s t : State) → AcceptsJust a s (May P S e) →
    ((d : Document) → (accepts a d t ≡ true) ↔ Fits (names_of P) (unplaced T) d) → (ls : List Line) →
    LineWhere told_size p k (IsMisfit a s t) ls → LineWhere told_size p k (Misfits P S e T) ls
misfit_lines P S e T p k a s t m f ls h =
    line_within told_size p k (IsMisfit a s t) (Misfits P S e T) (λ d q x. ((m d q).0 x.0, λ y. x.1 ((f d).1 y))) (λ d q y. ((m d q).1 y.0, λ z. y.1 ((f d).0 z))) ls h

-- an argument that has a parameter
pub argument_step : (P : ProgramTree) (S : Scope) (e : Expression) (es : List Expression) (q : Parameter) (qs : List Parameter) (xs ms : List Line) →
    InTurn (LinesOf told_size P S e) (LineWhere told_size (place_of_expression e) wrong_argument (Misfits P S e q.declared)) xs → LinesOfArguments told_size P S qs (arguments_of es) ms →
    LinesOfArguments told_size P S (q ∷ qs) (arguments_of (e ∷ es)) (xs ++ ms)
argument_step P S e es q qs xs ms h r = (h.0, h.1 ++ ms, h.2, (h.1, ms, h.3, r, refl), ap (λ ys. ys ++ ms) h.4 ∙ append_assoc h.0 h.1 ms)

-- and one too many
pub argument_more : (P : ProgramTree) (S : Scope) (e : Expression) (es : List Expression) (xs ms : List Line) →
    LinesOf told_size P S e xs → LinesOfArguments told_size P S [] (arguments_of es) ms → LinesOfArguments told_size P S [] (arguments_of (e ∷ es)) (xs ++ ms)
argument_more P S e es xs ms h r = (xs, ms, h, r, refl)

pub no_arguments : (P : ProgramTree) (S : Scope) (qs : List Parameter) → LinesOfArguments told_size P S qs no_argument []
no_arguments P S [] = refl
no_arguments P S (q ∷ qs) = refl

-- a call, from what its arguments have and a state for its result
pub walked_called : (p : ProgramTable) (S : Scope) (q : Place) (f : List ℕ) (es : List Expression) (a : Automaton) (ds : List Document) (old new : Found) (s : State) →
    AddsFound p a ds (SeenInArguments (program_tree p) S (parameters_of (function_of (program_tree p).functions f)) (arguments_of es)) old new → ((d : Document) → (accepts a d s ≡ true) ↔ FitsResult (names_of (program_tree p)) (function_of (program_tree p).functions f) d) →
    IsWalked p S (Called q f (arguments_of es)) a ds old new s
walked_called p S q f es a ds old new s h r =
    let P : ProgramTree = program_tree p in
    record { may = λ d i. r d; found = adds_as (SeenInArguments P S (parameters_of (function_of P.functions f)) (arguments_of es)) (SeenIn P S (Called q f (arguments_of es))) (λ x m. m) h }

-- what holds of all states holds of the one with this number, if there is one
pub all_there : {X : Type 0} (P : X → Type 0) (xs : List X) (n : ℕ) → AllByRecursion P xs → IfSome (slice_get xs n) P
all_there P [] n h = tt
all_there P (x ∷ xs) zero h = h.0
all_there P (x ∷ xs) (suc n) h = all_there P xs n h.1
