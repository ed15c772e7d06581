-- Lists of variables by their numbers.
use Rattle.std.specs.Prelude.{◌≡◌, ℕ, ◌<◌, ◌&&◌, nat_eq, if◌then◌else◌, List, [], ◌∷◌, ◌++◌, length, map, flat_map, get_or, Option, Some, None, position}
use Rattle.std.specs.List.{list_any, slice_get}
use Rattle.std.specs.Str.{bytes_eq}
use Rattle.xd_syntax.specs.Words.{has_word}
use Rattle.xd_syntax.specs.Table.{Row}
use Rattle.xd_continuations.specs.Chains.{list_at}
use Rattle.xd_patterns.specs.Pieces.{form_at, variable_of}
use Rattle.xd_continuations.specs.declared.links.Link.{Link}
use Rattle.xd_patterns.specs.declared.variables.Numbers.{Numbers}

abbrev pub if_some : Option (List ℕ) → List (List ℕ)
if_some None = []
if_some (Some w) = w ∷ []

-- the words of the variables with these numbers
abbrev pub words_of : List (List ℕ) → List ℕ → List (List ℕ)
words_of vs ns = flat_map (λ n. if_some (slice_get vs n)) ns

abbrev pub with_position : List ℕ → Option ℕ → List ℕ
with_position ns None = ns
with_position ns (Some i) = if list_any (λ n. nat_eq n i) ns then ns else ns ++ i ∷ []

-- the numbers, and that of the word after them, if it has one and is not among them
abbrev pub with_number : List (List ℕ) → List ℕ → List ℕ → List ℕ
with_number vs ns w = with_position ns (position (bytes_eq w) vs)

-- the list of binders has these of the variables
abbrev pub HasVariables : List Row → List (List ℕ) → List (Link ℕ) → ℕ → List ℕ → Type 0
HasVariables patterns vs marks n ns =
    (x : List ℕ) → has_word (words_of vs ns) x ≡ (has_word vs x && has_word (map (λ i. variable_of (form_at patterns i)) (list_at marks n)) x)

abbrev pub numbers_in : List Numbers → List (List ℕ)
numbers_in ls = map (λ (l : Numbers). l.list.items) ls

-- so many lists of binders have these of the variables, in turn
pub record AreNumbered (patterns : List Row) (vs : List (List ℕ)) (marks : List (Link ℕ)) (done : ℕ) (lists : List (List ℕ)) : Type 0 where
  pub count : length lists ≡ done
  pub have : (n : ℕ) → n < done → HasVariables patterns vs marks n (get_or lists n [])

-- words are put after others, each where it first stands
abbrev pub put_each : List (List ℕ) → List (List ℕ) → List (List ℕ)
put_each ks [] = ks
put_each ks (x ∷ xs) = put_each (if list_any (bytes_eq x) ks then ks else ks ++ x ∷ []) xs
