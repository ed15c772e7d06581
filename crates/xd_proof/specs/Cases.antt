-- Cases and atoms as they are read.
use Rattle.std.specs.Prelude.{◌≡◌, ℕ, List, ◌∷◌, ◌++◌}
use Rattle.xd_rules.specs.Rules.{Case, ChoiceTree}
use Rattle.xd_rules.specs.declared.atom.Atom.TheVariants.{Text}
use Rattle.xd_proof.specs.Lines.{space, spaced}
use Rattle.xd_proof.specs.Parts.{IsAtom, atom_word, HasNumbers, tree_words}
use Rattle.xd_rules.specs.declared.atom.Atom.{Atom}
use Rattle.xd_proof.specs.declared.cases.ReadCase.{ReadCase}
use Rattle.xd_proof.specs.Steps.{steps_of}

-- what was read is this case
pub record IsCase (made : ReadCase) (c : Case) : Type 0 where
  pub head : made.head ≡ c.head
  pub atom : made.atom ≡ c.atom
  pub steps : (made.steps).items ≡ steps_of c.choice

-- its steps are those of one choice tree
abbrev pub IsTree : ReadCase → Type 0
IsTree made = (t : ChoiceTree) × ((made.steps).items ≡ steps_of t)

-- the bytes are the case's atom and tree
pub record SpellsChoice (bytes : List ℕ) (c : Case) : Type 0 where
  pub whole : bytes ≡ atom_word c.atom ++ space ∷ spaced (tree_words c.choice)
  pub atom : IsAtom c.atom
  pub numbers : HasNumbers c.choice

-- an atom without quotes
abbrev pub is_plain : Atom → Type 0
is_plain (Text s) = ⊥
is_plain a = Unit {0}
