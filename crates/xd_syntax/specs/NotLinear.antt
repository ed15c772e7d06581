-- Faults of linearity from left to right, with what stands around and before in hand.
use Rattle.std.specs.Prelude.{ℕ, Bool, true, false, cond, ◌||◌, List, [], ◌∷◌, ◌++◌}
use Rattle.xd_syntax.specs.Words.{has_word}
use Rattle.xd_syntax.specs.Placed.{PlacedTree, Elem_at, Seq_at, Alt_at, Star_at, Plus_at, Opt_at, Val_at, variables}
use Rattle.xd_syntax.specs.NameFaults.{fault_if, lacking_somewhere, without}
use Rattle.xd_syntax.specs.declared.fault.Fault.{Fault}
use Rattle.xd_syntax.specs.declared.fault.FaultKind.{FaultKind}
use Rattle.xd_syntax.specs.declared.fault.FaultKind.TheVariants.{NotLinear}

-- Occurrences of variables that are not linear. `repeated`: a repetition or an option stands
-- around. `earlier`: the variables with an earlier occurrence that isn't in another branch of an
-- alternative around both. `partial`: the variables whose first occurrence in an alternative around
-- comes now or later, and that a branch of that alternative lacks. `inner`: an alternative is the
-- rest of the one around it.
abbrev pub not_linear : (repeated : Bool) (earlier partial : List (List ℕ)) (inner : Bool) → PlacedTree → List Fault
not_linear r earlier partial inner (Elem_at p c T) = not_linear r earlier partial false T
not_linear r earlier partial inner (Seq_at p T U) =
    not_linear r earlier partial false T ++ not_linear r (variables T ++ earlier) (without (variables T) partial) false U
not_linear r earlier partial inner (Alt_at p T U) =
    let lacked : List (List ℕ) = cond inner partial (lacking_somewhere (Alt_at p T U) ++ partial) in
    not_linear r earlier lacked false T ++ not_linear r earlier (without (variables T) lacked) true U
not_linear r earlier partial inner (Star_at p T) = not_linear true earlier partial false T
not_linear r earlier partial inner (Plus_at p T) = not_linear true earlier partial false T
not_linear r earlier partial inner (Opt_at p T) = not_linear true earlier partial false T
not_linear r earlier partial inner (Val_at p x q T) =
    fault_if (r || (has_word earlier x || has_word partial x)) q (NotLinear x)
    ++ not_linear r (x ∷ earlier) (without (x ∷ []) partial) false T
not_linear r earlier partial inner _ = []
