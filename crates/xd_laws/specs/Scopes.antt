-- What a scope allows decides what an expression may be in it, and its lines.
use Rattle.std.specs.Prelude.{◌≡◌, ℕ, ◌↔◌, true, List}
use Rattle.xd_doc.specs.Document.{Document, is_proper}
use Rattle.xd_syntax.specs.Placed.{PlacedTree}
use Rattle.xd_syntax.specs.Expression.{Expression, Clauses}
use Rattle.xd_syntax.specs.Program.{ProgramTree}
use Rattle.xd_syntax.specs.May.{Scope, Allows, May, MayByClauses}
use Rattle.xd_syntax.specs.CheckFaults.{Line, LinesOf}

-- what a match of this scrutinee may be, where these patterns stand before the clauses
abbrev pub MayClauses : ProgramTree → Scope → Expression → List PlacedTree → Clauses → Document → Type 0
MayClauses P S e earlier cs d = MayByClauses P (Allows P S) (May P S e) earlier cs d

-- the second scope allows each proper document that the first does
abbrev pub AllowsAtMost : ProgramTree → Scope → Scope → Type 0
AllowsAtMost P S Z = (x : List ℕ) (d : Document) → is_proper d ≡ true → Allows P S x d → Allows P Z x d

-- the scopes allow the same proper documents
abbrev pub AllowTheSame : ProgramTree → Scope → Scope → Type 0
AllowTheSame P S Z = (x : List ℕ) (d : Document) → is_proper d ≡ true → Allows P S x d ↔ Allows P Z x d

-- where more is allowed, an expression may be more
abbrev pub MoreIsAllowed : Type 0
MoreIsAllowed = (P : ProgramTree) (S Z : Scope) → AllowsAtMost P S Z → (e : Expression) (d : Document) → is_proper d ≡ true → May P S e d → May P Z e d

-- where the same is allowed, an expression may be the same proper documents
abbrev pub ScopesDecideMay : Type 0
ScopesDecideMay = (P : ProgramTree) (S Z : Scope) → AllowTheSame P S Z → (e : Expression) (d : Document) → is_proper d ≡ true → May P S e d ↔ May P Z e d

-- and it has the same lists of lines
abbrev pub ScopesDecideLines : Type 0
ScopesDecideLines = (measure : Document → ℕ) (P : ProgramTree) (S Z : Scope) → AllowTheSame P S Z → (e : Expression) (ls : List Line) → LinesOf measure P S e ls ↔ LinesOf measure P Z e ls
