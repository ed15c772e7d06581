-- Functions by name.
use Rattle.std.specs.Prelude.{◌≡◌, ℕ, cond, List, [], ◌∷◌, Option, Some, None}
use Rattle.std.specs.List.{slice_get}
use Rattle.std.specs.Ordering.{nat_cmp}
use Rattle.std.specs.Cmp.Lexicographic.{slice_cmp}
use Rattle.std.specs.Str.{bytes_eq}
use Rattle.std.specs.BTreeMap.{get}
use Rattle.xd_syntax.specs.FunctionRow.{FunctionRow}
use Rattle.xd_eval.specs.declared.functions.FunctionNames.{FunctionNames}

-- the first function of a name
abbrev pub row_of : List FunctionRow → List ℕ → Option FunctionRow
row_of [] w = None
row_of (f ∷ fs) w = cond (bytes_eq f.name w) (Some f) (row_of fs w)

-- the function of this number
abbrev pub numbered : List FunctionRow → Option ℕ → Option FunctionRow
numbered fs None = None
numbered fs (Some n) = slice_get fs n

-- each name has the number of its first function
abbrev pub AreFunctionNames : FunctionNames → List FunctionRow → Type 0
AreFunctionNames names fs = (w : List ℕ) → numbered fs (get (slice_cmp nat_cmp) names.numbers w) ≡ row_of fs w
