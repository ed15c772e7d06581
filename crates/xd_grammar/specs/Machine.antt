-- What a token does to the reader: the tool of the parser.
use Rattle.std.specs.Prelude.{◌≡◌, ◌<◌, ◌≤◌, ◌++◌, ◌⊎◌, ℕ, suc, Bool, true, false, cond, List, [], ◌∷◌, Option, Some, None}
use Rattle.xd_grammar.specs.declared.grammar.Nonterminal.{Nonterminal}
use Rattle.xd_grammar.specs.declared.grammar.Nonterminal.TheVariants as n
use Rattle.xd_grammar.specs.declared.grammar.Symbol.{Symbol}
use Rattle.xd_grammar.specs.declared.grammar.Symbol.TheVariants.{Token, Opening, Closed, Unless, Part}
use Rattle.xd_grammar.specs.declared.grammar.Terminal.{Terminal}
use Rattle.xd_grammar.specs.declared.grammar.Terminal.TheVariants as t
use Rattle.xd_grammar.specs.declared.grammar.Sort.{Sort}
use Rattle.xd_grammar.specs.declared.grammar.Sort.TheVariants as sorts
use Rattle.xd_grammar.specs.declared.machine.Reading.{Reading}
use Rattle.xd_grammar.specs.declared.machine.Reading.TheVariants.{Plain, Opened, Named, Barred, AfterVal, Shut}
use Rattle.xd_grammar.specs.declared.machine.Course.{Course}
use Rattle.xd_grammar.specs.declared.machine.Course.TheVariants.{Both, Main, Listed}
use Rattle.xd_grammar.specs.declared.machine.Step.{Step}
use Rattle.xd_grammar.specs.declared.machine.Step.TheVariants.{Next, Syntax, TooDeep}
use Rattle.xd_grammar.specs.Grammar.{Row, Extent, Partial, Derives}
use Rattle.xd_grammar.specs.Fits.{same, work}
use Rattle.xd_syntax.specs.Shallow.{nesting_limit}

-- what is to come of the parentheses, by either reading
abbrev pub main_row : Reading → Row
main_row Plain = []
main_row (Opened s) = Part (n.Group s) ∷ []
main_row (Named s) = Part n.Operator ∷ Part (n.MoreParts s) ∷ Part (n.MoreBranches s) ∷ Token t.ParenR ∷ Closed ∷ Unless t.BracketL ∷ []
main_row (Barred s) = Part (n.Sequence s) ∷ Part (n.MoreBranches s) ∷ Token t.ParenR ∷ Closed ∷ Unless t.BracketL ∷ []
main_row AfterVal = Token t.Word ∷ Part n.Bound ∷ Part (n.MoreParts sorts.Pattern) ∷ Part (n.MoreBranches sorts.Pattern) ∷ Token t.ParenR ∷ Closed ∷ Unless t.BracketL ∷ []
main_row (Shut s) = Closed ∷ Unless t.BracketL ∷ []

abbrev pub listed_row : Reading → Row
listed_row Plain = []
listed_row (Opened s) = Part n.AnyWord ∷ Part n.MoreNames ∷ Token t.ParenR ∷ Closed ∷ Opening t.BracketL ∷ Part (n.Content s) ∷ []
listed_row (Named s) = Part n.MoreNames ∷ Token t.ParenR ∷ Closed ∷ Opening t.BracketL ∷ Part (n.Content s) ∷ []
listed_row (Barred s) = Part n.AnyWord ∷ Part n.MoreNames ∷ Token t.ParenR ∷ Closed ∷ Opening t.BracketL ∷ Part (n.Content s) ∷ []
listed_row AfterVal = Part n.MoreNames ∷ Token t.ParenR ∷ Closed ∷ Opening t.BracketL ∷ Part (n.Content sorts.Pattern) ∷ []
listed_row (Shut s) = Closed ∷ Opening t.BracketL ∷ Part (n.Content s) ∷ []

-- what the tokens spell by one of the readings, over the rows of the stack
abbrev pub Reads : Reading → Extent → ℕ → ℕ → Row → List Terminal → Type 0
Reads Plain extent limit depth row ts = Derives extent limit depth row ts
Reads reading extent limit depth row ts = Derives extent limit depth (main_row reading ++ row) ts ⊎ Derives extent limit depth (listed_row reading ++ row) ts

abbrev pub is_keyword : Terminal → Bool
is_keyword t.Type = true
is_keyword t.Fun = true
is_keyword t.Val = true
is_keyword t.As = true
is_keyword t.Match = true
is_keyword t.With = true
is_keyword k = false

abbrev pub after_keyword : Sort → Terminal → Course
after_keyword sorts.Type k = Listed
after_keyword sorts.Pattern k = cond (same t.Val k) (Both AfterVal) Listed

abbrev pub at_name : Sort → Terminal → Course
at_name sort k = cond (same t.Word k) (Both (Named sort)) (cond (is_keyword k) (after_keyword sort k) Main)

abbrev pub course : Reading → Terminal → Course
course Plain k = Main
course (Opened sort) k = at_name sort k
course (Barred sort) k = at_name sort k
course (Named sort) k = cond (same t.Bar k) (Both (Barred sort)) (cond (same t.ParenR k) (Both (Shut sort)) Main)
course AfterVal k = cond (same t.Bar k) Listed (cond (same t.ParenR k) Listed Main)
course (Shut sort) k = cond (same t.BracketL k) Listed Main

abbrev pub prim_group : Nonterminal → Option Sort
prim_group (n.Prim s) = Some s
prim_group part = None

abbrev pub group_of : Nonterminal → Terminal → Option Sort
group_of part k = cond (same t.ParenL k) (prim_group part) None

abbrev pub entered : ℕ → Reading → Step → ℕ → Type 0
entered depth reading (Next next) new = (next ≡ reading) × (depth < nesting_limit) × (new ≡ suc depth)
entered depth reading TooDeep new = nesting_limit ≤ depth
entered depth reading Syntax new = ⊥

-- whatever comes after the token k, one is spelled exactly where the other is
pub record Turns (depth : ℕ) (row : Row) (k : Terminal) (new : ℕ) (rest : Row) : Type 0 where
  pub on : (extent : Extent) (limit : ℕ) (ts : List Terminal) → nesting_limit ≤ limit → Derives extent limit depth row (k ∷ ts) → Derives extent limit new rest (k ∷ ts)
  pub back : (extent : Extent) (limit : ℕ) (ts : List Terminal) → nesting_limit ≤ limit → Derives extent limit new rest (k ∷ ts) → Derives extent limit depth row (k ∷ ts)

pub record Passes (before : Reading) (depth : ℕ) (row : Row) (k : Terminal) (after : Reading) (new : ℕ) (rest : Row) : Type 0 where
  pub on : (extent : Extent) (limit : ℕ) (ts : List Terminal) → nesting_limit ≤ limit → Reads before extent limit depth row (k ∷ ts) → Reads after extent limit new rest ts
  pub back : (extent : Extent) (limit : ℕ) (ts : List Terminal) → nesting_limit ≤ limit → Reads after extent limit new rest ts → Reads before extent limit depth row (k ∷ ts)

-- no text goes on with the token
pub record Stops (before : Reading) (depth : ℕ) (row : Row) (k : Terminal) : Type 0 where
  pub dead : (extent : Extent) (limit : ℕ) (ts : List Terminal) → nesting_limit ≤ limit → Reads before extent limit depth row (k ∷ ts) → ⊥

-- a text goes on with the token, but opens too much
pub record Sinks (before : Reading) (depth : ℕ) (row : Row) (k : Terminal) : Type 0 where
  pub dead : (extent : Extent) (ts : List Terminal) → Reads before extent nesting_limit depth row (k ∷ ts) → ⊥
  pub limit : ℕ
  pub above : nesting_limit ≤ limit
  pub alive : Reads before Partial limit depth row (k ∷ [])

abbrev pub Advances : Reading → ℕ → Row → Terminal → Step → ℕ → Row → Type 0
Advances before depth row k (Next after) new rest = Passes before depth row k after new rest
Advances before depth row k Syntax new rest = Stops before depth row k
Advances before depth row k TooDeep new rest = Sinks before depth row k

abbrev pub Shifts : ℕ → Row → Terminal → Step → ℕ → Row → Type 0
Shifts depth row k step new rest = Advances Plain depth row k step new rest

-- the symbol on top gave the step, or was no token
abbrev pub TurnsOr : Option Step → ℕ → Symbol → Row → Terminal → ℕ → Row → Type 0
TurnsOr (Some step) depth top row k new rest = Shifts depth (top ∷ row) k step new rest
TurnsOr None depth top row k new rest = Turns depth (top ∷ row) k new rest × (work rest < work (top ∷ row))
