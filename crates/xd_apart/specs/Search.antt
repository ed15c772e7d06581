-- What is known in the search for a least document that separates two states.
use Rattle.std.specs.Prelude.{◌≡◌, ℕ, ◌≤◌, List, [], ◌∷◌, Option, length, take}
use Rattle.xd_doc.specs.Document.{Document, size}
use Rattle.xd_doc.specs.Stored.{document_at}
use Rattle.xd_doc.specs.StoredSeq.{BelongsTo}
use Rattle.xd_auto.specs.declared.auto.State.{State}
use Rattle.xd_auto.specs.Automaton.{Automaton, IsState, accepts}
use Rattle.xd_boole.specs.Meaning.{less}
use Rattle.xd_least.specs.declared.document.LeastDocument.{LeastDocument}
use Rattle.xd_doc.specs.LeastUpTo.{IsLeastUpTo}
use Rattle.xd_least.specs.Least.{Knows, size_limit}
use Rattle.xd_apart.specs.declared.over_approximation.OverApproximation.{OverApproximation}
use Rattle.xd_apart.specs.declared.search.Found.{Found}
use Rattle.xd_apart.specs.declared.search.Found.TheVariants.{Least, NoneBelow, Nothing}
use Rattle.xd_apart.specs.declared.search.Step.{Step}
use Rattle.xd_apart.specs.declared.search.Step.TheVariants.{Down, Lost, Move}
use Rattle.xd_apart.specs.declared.search.Taken.{Taken}
use Rattle.xd_apart.specs.Apart.{IsApart}
use Rattle.xd_apart.specs.OverApproximation.{IsClashOf, IsOverApproximation, StandsFor, left_states}

-- what a search found out: none is smaller than the bound, or the document is a least one
abbrev pub IsFound : Automaton → State → State → (bound : ℕ) → List Document → Found → Type 0
IsFound a left right bound ds NoneBelow = (d : Document) → IsApart a left right d → bound ≤ size d
IsFound a left right bound ds (Least seq) = BelongsTo ds seq × IsLeastUpTo size_limit (IsApart a left right) (document_at ds seq)
IsFound a left right bound ds Nothing = Unit {0}

-- of each left state it is known what it accepts
pub record KnowsLefts (l : OverApproximation) (ds : List Document) (known : List (Option LeastDocument)) : Type 0 where
  pub count : l.lefts ≤ length known
  pub knows : Knows (left_states l) ds (take l.lefts known)

-- the state and the document belong to the automaton and the store
pub record IsTakenAt (a : Automaton) (ds : List Document) (t : Taken) : Type 0 where
  pub state : IsState a t.state
  pub seq : BelongsTo ds t.seq

-- where a document was wrongly taken: two moves of a kind clash, or a state below took what is there
abbrev pub IsStep : Automaton → OverApproximation → List Document → Step → Type 0
IsStep b l ds (Move kind c) = IsClashOf kind b l c
IsStep b l ds (Down t) = IsTakenAt l.over ds t
IsStep b l ds Lost = Unit {0}

-- what holds in each round: it is an over-approximation of the part that the left leads to and the
-- whole, and its root stands for the left without the right
pub record Searches (a : Automaton) (left right root : State) (l : OverApproximation) (ds : List Document) (known : List (Option LeastDocument)) : Type 0 where
  pub start : State
  pub approximation : IsOverApproximation a l
  pub same : (d : Document) → accepts (left_states l) d start ≡ accepts a d left
  pub stands : StandsFor l.points.items (less start (right ∷ [])) root
  pub knows : KnowsLefts l ds known
