-- The bindings of a first match in the order of the pattern's variables. (JFP 2003: first match;
-- the order is this project's own.)
use Rattle.std.specs.Prelude.{ℕ, List, [], ◌∷◌, flat_map, Option, Some, None, option_map}
use Rattle.xd_doc.specs.Document.{Document}
use Rattle.xd_syntax.specs.Tree.{Tree, Definitions, occurrences}
use Rattle.xd_meaning.specs.FirstMatch.{first}
use Rattle.xd_meaning.specs.Meaning.{Environment, looked_up}
use Rattle.xd_syntax.specs.NameFaults.{without}

-- each word once, where it stands first
abbrev pub each_once : List (List ℕ) → List (List ℕ)
each_once [] = []
each_once (x ∷ xs) = x ∷ without (x ∷ []) (each_once xs)

-- the variables of a pattern in order of first occurrence
abbrev pub variables_of : Tree → List (List ℕ)
variables_of P = each_once (occurrences P)

abbrev pub bound_to : List ℕ → Option Document → Environment
bound_to x None = []
bound_to x (Some d) = (x, d) ∷ []

-- what each of these variables has
abbrev pub bindings_in : List (List ℕ) → Environment → Environment
bindings_in xs vs = flat_map (λ x. bound_to x (looked_up vs x)) xs

-- the bindings of the first match, one for each variable
abbrev pub first_bindings : Definitions → Tree → Document → Option Environment
first_bindings E P d = option_map (bindings_in (variables_of P)) (first E P d)
