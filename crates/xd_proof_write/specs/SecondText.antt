-- Goals in the second format, written in the one way that is this project's own: a type is listed
-- where it first comes up, and no equal one after it, and each is spelled canonically.
use Rattle.std.specs.Prelude.{ℕ, ◌+◌, Bool, not, codes, List, [], ◌∷◌, map, filter, flat_map}
use Rattle.std.specs.List.{position_or_len}
use Rattle.std.specs.Fmt.{decimal}
use Rattle.xd_syntax.specs.Tree.{Tree}
use Rattle.xd_syntax.specs.TypeText.{type_text}
use Rattle.xd_meaning.specs.Consistent.{Goal}
use Rattle.xd_laws.specs.SameTree.{same_tree}
use Rattle.xd_proof.specs.Lines.{line_feed, each_ended, spaced}
use Rattle.xd_proof.specs.Parts.{ProofLine, first_title, second_title, type_count, type_part, goal_count, goal_part, left_part, right_part, empty_part, case_part, end_part, case_words}
use Rattle.xd_proof.specs.Form.{GoalBlock, second_format}

module _ {A : Type 0} (same : A → A → Bool) where
  -- each item once, in order of first occurrence
  abbrev pub each_once : List A → List A
  each_once [] = []
  each_once (x ∷ xs) = x ∷ filter (λ y. not (same x y)) (each_once xs)

  -- the number of an item among these, from 1
  abbrev pub number_among : List A → A → ℕ
  number_among xs x = position_or_len (same x) xs + 1

-- the types of goals, each goal's left before its rights
abbrev pub types_of : List Goal → List Tree
types_of gs = flat_map (λ (g : Goal). g.left ∷ g.rights) gs

-- these types, each once
abbrev pub distinct_types : List Goal → List Tree
distinct_types gs = each_once same_tree (types_of gs)

-- the goal, with the numbers of its types among these
abbrev pub numbered_block : List Tree → Goal → GoalBlock ℕ
numbered_block Ts g =
    record {
      left = number_among same_tree Ts g.left;
      rights = map (number_among same_tree Ts) g.rights;
      empty_right = g.empty_right;
      cases = g.cases;
    }

-- the lines of the text
abbrev pub second_parts : List Goal → List (ProofLine ℕ)
second_parts gs = second_format (distinct_types gs) (map (numbered_block (distinct_types gs)) gs)

-- what the line of a part says, a type in canonical text
abbrev pub line_of : ProofLine ℕ → List ℕ
line_of first_title = codes "xduce-proof 1"
line_of second_title = codes "xduce-proof 2"
line_of (type_count m) = spaced (codes "types" ∷ decimal m ∷ [])
line_of (type_part k T) = spaced (codes "type" ∷ decimal k ∷ type_text T ∷ [])
line_of (goal_count n) = spaced (codes "goals" ∷ decimal n ∷ [])
line_of (goal_part k) = spaced (codes "goal" ∷ decimal k ∷ [])
line_of (left_part n) = spaced (codes "left" ∷ decimal n ∷ [])
line_of (right_part n) = spaced (codes "right" ∷ decimal n ∷ [])
line_of (empty_part n) = spaced (codes "empty" ∷ decimal n ∷ [])
line_of (case_part c) = spaced (case_words c)
line_of end_part = codes "end"

-- the text
unfoldable pub second_text_of : List Goal → List ℕ
second_text_of gs = each_ended line_feed (map line_of (second_parts gs))
