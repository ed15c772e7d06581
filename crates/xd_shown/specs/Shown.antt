-- A set of documents shown as definitions of types.
use Rattle.std.specs.Prelude.{◌≡◌, ◌↔◌, ℕ, ◌+◌, true, false, List, [], ◌∷◌, ◌++◌, map, Some, codes, decimal, slice_get}
use Rattle.xd_doc.specs.Document.{Document, is_proper}
use Rattle.xd_doc.specs.Members.{IsOneOf}
use Rattle.xd_syntax.specs.Words.{has_word}
use Rattle.xd_syntax.specs.Tree.{Tree, Name, Elem}
use Rattle.xd_syntax.specs.Fits.{Fits}
use Rattle.xd_syntax.specs.Program.{TypeDefinition, ProgramTree, names_of}
use Rattle.xd_syntax.specs.RecursionFaults.{UseIn, all_top_uses, IsSound}
use Rattle.xd_type_laws.specs.DefinitionsText.{type_definitions}

-- the name of this number: `S1`, `S2` and so on
abbrev pub shown_name : ℕ → List ℕ
shown_name n = codes "S" ++ decimal n

-- These are names in order, from this number on, without those that are taken.
pub data AreNamedFrom (taken : List (List ℕ)) : ℕ → List (List ℕ) → Type 0 where
  no_more : {n : ℕ} → AreNamedFrom taken n []
  skipped : {n : ℕ} {ws : List (List ℕ)} →
      has_word taken (shown_name n) ≡ true → AreNamedFrom taken (n + 1) ws → AreNamedFrom taken n ws
  given : {n : ℕ} {ws : List (List ℕ)} →
      has_word taken (shown_name n) ≡ false → AreNamedFrom taken (n + 1) ws →
      AreNamedFrom taken n (shown_name n ∷ ws)

-- the names of the types that a program defines, in order
abbrev pub defined_names : ProgramTree → List (List ℕ)
defined_names P = map (λ (t : TypeDefinition). t.name) P.types

-- no name that the program defines is used outside of every label
abbrev pub UsesUnderLabels : ProgramTree → Type 0
UsesUnderLabels P =
    (u : UseIn) → IsOneOf u (all_top_uses P.types) → has_word (defined_names P) (u.use_there).name ≡ false

-- the label `none` around the name
abbrev pub none_type : List ℕ → Tree
none_type start = Elem (record { names = codes "none" ∷ []; except = false }) (Name start)

-- A sound program of definitions of types alone, `S1`, `S2` and so on, shows a set of documents: of
-- proper documents, just those of the set fit the first name. Where the set has none, there is one
-- definition, as `type S1 = none[S1]` where `S1` isn't taken.
pub record IsShown
    (D : Document → Type 0) (taken : List (List ℕ)) (P : ProgramTree) (start : List ℕ) : Type 0 where
  pub exact : (d : Document) → is_proper d ≡ true → Fits (names_of P) (Name start) d ↔ D d
  pub sound : IsSound P
  pub types_only : P.functions ≡ []
  pub names : AreNamedFrom taken 1 (defined_names P)
  pub first : slice_get (defined_names P) 0 ≡ Some start
  pub under_labels : UsesUnderLabels P
  pub nothing :
      ((d : Document) → is_proper d ≡ true → D d → ⊥) → type_definitions P ≡ (start, none_type start) ∷ []
