-- What is written of a proof as it is kept, where the texts of the types are known.
use Rattle.std.specs.Prelude.{◌≡◌, ℕ, ◌+◌, true, cond, nat_eq, codes, List, [], ◌∷◌, ◌++◌, map, flat_map, length, Option, Some, None}
use Rattle.std.specs.List.{list_any, fold}
use Rattle.std.specs.Fmt.{decimal}
use Rattle.std.specs.Str.{bytes_eq}
use Rattle.std.specs.HashMap.{get}
use Rattle.xd_syntax.specs.Table.{Row, tree_at}
use Rattle.xd_syntax.specs.Types.{tree}
use Rattle.xd_syntax.specs.TypeText.{type_text}
use Rattle.xd_syntax.specs.declared.types.TypeId.{TypeId}
use Rattle.xd_proof.specs.Lines.{line_feed, space}
use Rattle.xd_proof.specs.Parts.{atom_word}
use Rattle.xd_proof.specs.Steps.{step_letter, step_number}
use Rattle.xd_proof.specs.declared.cases.ReadCase.{ReadCase}
use Rattle.xd_proof.specs.declared.steps.Step.{Step}
use Rattle.xd_proof.specs.declared.proof.ProofGoal.{ProofGoal}
use Rattle.xd_proof_write.specs.SecondText.{number_among}
use Rattle.xd_proof_write.specs.declared.numbers.Numbers.{Numbers}

-- a line of a word and a number
abbrev pub number_line : List ℕ → ℕ → List ℕ
number_line word n = word ++ space ∷ (decimal n ++ line_feed ∷ [])

-- a step, with a space before each of its words
abbrev pub step_text : Step → List ℕ
step_text s = space ∷ (step_letter s ++ space ∷ decimal (step_number s))

abbrev pub case_line : ReadCase → List ℕ
case_line c = codes "case " ++ (decimal c.head ++ space ∷ (atom_word c.atom ++ (flat_map step_text (c.steps).items ++ line_feed ∷ [])))

abbrev pub empty_line : Option ℕ → List ℕ
empty_line None = []
empty_line (Some n) = number_line (codes "empty") n

abbrev pub type_line : ℕ → List ℕ → List ℕ
type_line k text = codes "type " ++ (decimal k ++ space ∷ (text ++ line_feed ∷ []))

-- the lines of types, from this number on
abbrev pub type_lines : ℕ → List (List ℕ) → List ℕ
type_lines k [] = []
type_lines k (t ∷ ts) = type_line k t ++ type_lines (k + 1) ts

abbrev pub text_at : List Row → TypeId → List ℕ
text_at rows id = type_text (tree rows id)

-- The lines of rights and of goals, where the texts of types have these numbers.
abbrev pub right_lines : List Row → (List ℕ → ℕ) → List TypeId → List ℕ
right_lines rows number ids = flat_map (λ id. number_line (codes "right") (number (text_at rows id))) ids

abbrev pub goal_lines : List Row → (List ℕ → ℕ) → ℕ → ProofGoal → List ℕ
goal_lines rows number k g =
    number_line (codes "goal") k
    ++ (number_line (codes "left") (number (text_at rows g.left))
    ++ (right_lines rows number (g.rights).items ++ (empty_line g.empty_right ++ flat_map case_line (g.cases).items)))

-- from this number on
abbrev pub goals_lines : List Row → (List ℕ → ℕ) → ℕ → List ProofGoal → List ℕ
goals_lines rows number k [] = []
goals_lines rows number k (g ∷ gs) = goal_lines rows number k g ++ goals_lines rows number (k + 1) gs

-- a text more, if it is new
abbrev pub with_text : List (List ℕ) → List ℕ → List (List ℕ)
with_text texts t = cond (list_any (bytes_eq t) texts) texts (texts ++ t ∷ [])

abbrev pub with_texts : List (List ℕ) → List (List ℕ) → List (List ℕ)
with_texts texts ts = fold with_text texts ts

-- the texts of the types of a goal
abbrev pub goal_texts : List Row → ProofGoal → List (List ℕ)
goal_texts rows g = text_at rows g.left ∷ map (text_at rows) (g.rights).items

abbrev pub texts_in : Numbers → List (List ℕ)
texts_in n = map (λ text. text.items) (n.texts).keys

-- each node that a number is kept for has its type's text there, and that number, whatever types
-- are added
pub record KnowsNumbers (rows : List Row) (n : Numbers) : Type 0 where
  pub there : (i m : ℕ) → get nat_eq n.known i ≡ Some m → list_any (bytes_eq (type_text (tree_at rows i))) (texts_in n) ≡ true
  pub known : (i m : ℕ) → get nat_eq n.known i ≡ Some m → (more : List (List ℕ)) → number_among bytes_eq (texts_in n ++ more) (type_text (tree_at rows i)) ≡ m

-- the whole text
abbrev pub proof_lines : List Row → List ProofGoal → List ℕ
proof_lines rows gs =
    let texts = with_texts [] (flat_map (goal_texts rows) gs) in
    codes "xduce-proof 2\n"
    ++ (number_line (codes "types") (length texts)
    ++ (type_lines 1 texts ++ (number_line (codes "goals") (length gs) ++ (goals_lines rows (number_among bytes_eq texts) 1 gs ++ codes "end\n"))))
