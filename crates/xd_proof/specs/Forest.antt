-- The words of several choice trees, one tree after the other: what a reader that counts the trees
-- to come has before it.
use Rattle.std.specs.Prelude.{◌≡◌, ◌↔◌, ◌⊎◌, ℕ, suc, codes, List, [], ◌∷◌, flat_map, length}
use Rattle.std.specs.List.{AllByRecursion}
use Rattle.xd_rules.specs.Rules.{ChoiceTree}
use Rattle.xd_proof.specs.Lines.{SpellsNumber}
use Rattle.xd_proof.specs.Parts.{tree_words, HasNumbers}

-- the words are those of so many trees
pub record SpellsTrees (count : ℕ) (words : List (List ℕ)) : Type 0 where
  pub trees : List ChoiceTree
  pub many : length trees ≡ count
  pub numbers : AllByRecursion HasNumbers trees
  pub spelled : flat_map tree_words trees ≡ words

abbrev pub HasNumber : List ℕ → Type 0
HasNumber w = (n : ℕ) × SpellsNumber w n

-- A leaf is one tree less, a split one more, and nothing else begins a tree.
pub record TreesAreCounted : Type 0 where
  pub none : (words : List (List ℕ)) → SpellsTrees 0 words ↔ (words ≡ [])
  pub content : (n : ℕ) (w : List ℕ) (rest : List (List ℕ)) → SpellsTrees (suc n) (codes "c" ∷ w ∷ rest) ↔ (HasNumber w × SpellsTrees n rest)
  pub rest : (n : ℕ) (w : List ℕ) (rest : List (List ℕ)) → SpellsTrees (suc n) (codes "r" ∷ w ∷ rest) ↔ (HasNumber w × SpellsTrees n rest)
  pub split : (n : ℕ) (w : List ℕ) (rest : List (List ℕ)) → SpellsTrees (suc n) (codes "?" ∷ w ∷ rest) ↔ (HasNumber w × SpellsTrees (suc (suc n)) rest)
  pub other : (n : ℕ) (words : List (List ℕ)) → SpellsTrees (suc n) words →
      (v : List ℕ) × (w : List ℕ) × (rest : List (List ℕ)) × (words ≡ v ∷ w ∷ rest) × ((v ≡ codes "c") ⊎ (v ≡ codes "r") ⊎ (v ≡ codes "?"))
