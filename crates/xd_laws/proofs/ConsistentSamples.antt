-- Proofs of inclusions that are consistent, and the first violation of proofs with one line changed.
use Rattle.std.proofs.Common.{ℕ, true, false, List, [], ◌∷◌, Some, None, refl}
use Rattle.std.specs.Prelude.{codes}
use Rattle.xd_syntax.specs.Tree.{Tree, Empty, Text, Words, Name, Elem, Alt, Definitions, environment, all_labels}
use Rattle.xd_meaning.specs.CanBeEmpty.{can_be_empty}
use Rattle.xd_meaning.specs.Heads.{heads}
use Rattle.xd_rules.specs.declared.atom.Atom.TheVariants as atoms
use Rattle.xd_rules.specs.Rules.{ChoiceTree, settles_content, settles_rest, split_on, Case}
use Rattle.xd_meaning.specs.Consistent.{IsConsistent}
use Rattle.xd_meaning.specs.Violation.{bad_empty, bad_case, bad_split, bad_leaf, Lined, goals_of, IsFirstViolation}
use Rattle.xd_laws.proofs.ViolationLaw.{first_is, none_is}

abbrev a : List ℕ
a = codes "a"

abbrev b : List ℕ
b = codes "b"

abbrev c : List ℕ
c = codes "c"

abbrev tag : List ℕ → Tree → Tree
tag l T = Elem (record { names = l ∷ []; except = false }) T

abbrev label_case : ℕ → List ℕ → ChoiceTree → Case
label_case n l t = record { head = n; atom = atoms.Label l; choice = t }

abbrev other_case : ℕ → ChoiceTree → Case
other_case n t = record { head = n; atom = atoms.OtherLabel; choice = t }

abbrev text_case : ℕ → ChoiceTree → Case
text_case n t = record { head = n; atom = atoms.OtherText; choice = t }

abbrev goal_at : ℕ → Tree → List Tree → List Case → Lined
goal_at n T Us cs = record { line = n; goal = record { left = T; rights = Us; empty_right = None; cases = cs } }

-- `()` is within `()`; the line on being empty is the third after the goal's first
abbrev empty_goal : ℕ → Lined
empty_goal n = record { line = n; goal = record { left = Empty; rights = Empty ∷ []; empty_right = Some 1; cases = [] } }

-- type L = a[b[]|c[]] and type R = a[b[]] | a[c[]]

abbrev content : Tree
content = Alt (tag b Empty) (tag c Empty)

abbrev left_and_right : Definitions
left_and_right = environment ((codes "L", tag a content) ∷ (codes "R", Alt (tag a (tag b Empty)) (tag a (tag c Empty))) ∷ [])

abbrev first_goal : List Case → Lined
first_goal cs = goal_at 3 (Name (codes "L")) (Name (codes "R") ∷ []) cs

abbrev second_goal : List Case → Lined
second_goal cs = goal_at 7 content (tag b Empty ∷ tag c Empty ∷ []) cs

abbrev with_choice : ChoiceTree → List Lined
with_choice t =
    first_goal (label_case 1 a t ∷ [])
    ∷ second_goal (label_case 1 b (split_on 1 (settles_content 3) (settles_rest 3)) ∷ label_case 2 c (split_on 2 (settles_content 3) (settles_rest 3)) ∷ [])
    ∷ empty_goal 13 ∷ []

distributes : IsConsistent left_and_right (goals_of (with_choice (split_on 1 (split_on 2 (settles_content 2) (settles_rest 3)) (settles_rest 3))))
unfolding heads can_be_empty
distributes = none_is left_and_right (with_choice (split_on 1 (split_on 2 (settles_content 2) (settles_rest 3)) (settles_rest 3))) refl

-- the second goal has a right that is not on the content side
one_side_short : IsFirstViolation left_and_right (with_choice (split_on 1 (settles_content 2) (settles_rest 3))) 6 bad_leaf
unfolding heads can_be_empty
one_side_short = first_is _ _ _ _ refl

rest_with_no_head : IsFirstViolation left_and_right (with_choice (settles_rest 3)) 6 bad_leaf
unfolding heads can_be_empty
rest_with_no_head = first_is _ _ _ _ refl

no_such_goal : IsFirstViolation left_and_right (with_choice (split_on 1 (split_on 2 (settles_content 2) (settles_rest 4)) (settles_rest 3))) 6 bad_leaf
unfolding heads can_be_empty
no_such_goal = first_is _ _ _ _ refl

split_twice : IsFirstViolation left_and_right (with_choice (split_on 1 (split_on 1 (settles_content 2) (settles_rest 3)) (settles_rest 3))) 6 bad_split
unfolding heads can_be_empty
split_twice = first_is _ _ _ _ refl

no_such_head : IsFirstViolation left_and_right (with_choice (split_on 3 (settles_content 2) (settles_rest 3))) 6 bad_split
unfolding heads can_be_empty
no_such_head = first_is _ _ _ _ refl

-- in a line the tree's first fault from the left counts
leaf_before_split : IsFirstViolation left_and_right (with_choice (split_on 1 (settles_content 3) (split_on 1 (settles_rest 3) (settles_rest 3)))) 6 bad_leaf
unfolding heads can_be_empty
leaf_before_split = first_is _ _ _ _ refl

abbrev with_second : List Case → List Lined
with_second cs =
    first_goal (label_case 1 a (split_on 1 (split_on 2 (settles_content 2) (settles_rest 3)) (settles_rest 3)) ∷ []) ∷ second_goal cs ∷ empty_goal 13 ∷ []

split_of_another_label : IsFirstViolation left_and_right (with_second (label_case 1 b (split_on 2 (settles_content 3) (settles_rest 3)) ∷ [])) 11 bad_split
unfolding heads can_be_empty
split_of_another_label = first_is _ _ _ _ refl

-- where the next goal begins
case_left_out : IsFirstViolation left_and_right (with_second (label_case 1 b (split_on 1 (settles_content 3) (settles_rest 3)) ∷ [])) 12 bad_case
unfolding heads can_be_empty
case_left_out = first_is _ _ _ _ refl

wrong_label : IsFirstViolation left_and_right (with_second (label_case 1 c (settles_rest 3) ∷ [])) 11 bad_case
unfolding heads can_be_empty
wrong_label = first_is _ _ _ _ refl

wrong_head_number : IsFirstViolation left_and_right (with_second (label_case 2 b (settles_rest 3) ∷ [])) 11 bad_case
unfolding heads can_be_empty
wrong_head_number = first_is _ _ _ _ refl

-- Lines on being empty.

empty_left_out : IsFirstViolation left_and_right (goal_at 3 Empty (Empty ∷ []) [] ∷ []) 6 bad_empty
unfolding heads can_be_empty
empty_left_out = first_is _ _ _ _ refl

empty_of_no_right : IsFirstViolation left_and_right (record { line = 3; goal = record { left = Empty; rights = Empty ∷ []; empty_right = Some 2; cases = [] } } ∷ []) 6 bad_empty
unfolding heads can_be_empty
empty_of_no_right = first_is _ _ _ _ refl

empty_of_a_filled_right : IsFirstViolation left_and_right (record { line = 3; goal = record { left = Empty; rights = tag a Empty ∷ Empty ∷ []; empty_right = Some 1; cases = [] } } ∷ []) 7 bad_empty
unfolding heads can_be_empty
empty_of_a_filled_right = first_is _ _ _ _ refl

empty_of_a_filled_left : IsFirstViolation left_and_right (record { line = 3; goal = record { left = tag a Empty; rights = Empty ∷ []; empty_right = Some 1; cases = [] } } ∷ []) 6 bad_empty
unfolding heads can_be_empty
empty_of_a_filled_left = first_is _ _ _ _ refl

case_too_many : IsFirstViolation left_and_right (record { line = 3; goal = record { left = Empty; rights = Empty ∷ []; empty_right = Some 1; cases = label_case 1 a (settles_content 1) ∷ [] } } ∷ []) 7 bad_case
unfolding heads can_be_empty
case_too_many = first_is _ _ _ _ refl

-- type N = n[N] and type U = ()

abbrev n : List ℕ
n = codes "n"

abbrev endless : Definitions
endless = environment ((codes "N", tag n (Name (codes "N"))) ∷ (codes "U", Empty) ∷ [])

abbrev nothing_fits : List Case → List Lined
nothing_fits cs = goal_at 3 (Name (codes "N")) (Name (codes "U") ∷ []) (label_case 1 n (settles_content 2) ∷ []) ∷ goal_at 7 (Name (codes "N")) [] cs ∷ []

rests_on_itself : IsConsistent endless (goals_of (nothing_fits (label_case 1 n (settles_content 2) ∷ [])))
unfolding heads can_be_empty
rests_on_itself = none_is endless (nothing_fits (label_case 1 n (settles_content 2) ∷ [])) refl

-- the first goal has a right that no head on the path has
wrong_goal_named : IsFirstViolation endless (nothing_fits (label_case 1 n (settles_content 1) ∷ [])) 9 bad_leaf
unfolding heads can_be_empty
wrong_goal_named = first_is _ _ _ _ refl

no_case : IsFirstViolation endless (nothing_fits []) 9 bad_case
unfolding heads can_be_empty
no_case = first_is _ _ _ _ refl

-- Texts, and labels that are not named.

-- String within a[] | String
abbrev text_goal : ChoiceTree → List Lined
text_goal t = goal_at 3 Text (Alt (tag a Empty) Text ∷ []) (text_case 1 t ∷ []) ∷ empty_goal 7 ∷ []

text_settled : IsConsistent left_and_right (goals_of (text_goal (settles_rest 2)))
unfolding heads can_be_empty
text_settled = none_is left_and_right (text_goal (settles_rest 2)) refl

text_content : IsFirstViolation left_and_right (text_goal (settles_content 2)) 6 bad_split
unfolding heads can_be_empty
text_content = first_is _ _ _ _ refl

text_split : IsFirstViolation left_and_right (text_goal (split_on 2 (settles_rest 2) (settles_rest 2))) 6 bad_split
unfolding heads can_be_empty
text_split = first_is _ _ _ _ refl

text_of_no_right : IsFirstViolation left_and_right (goal_at 3 Text (tag a Empty ∷ []) (text_case 1 (settles_rest 2) ∷ []) ∷ empty_goal 7 ∷ []) 6 bad_leaf
unfolding heads can_be_empty
text_of_no_right = first_is _ _ _ _ refl

-- ~[] within a[] | ^a[]: the named label and all others, each by its own right head
abbrev any_label_goal : List Case → List Lined
any_label_goal cs =
    goal_at 3 (Elem all_labels Empty) (Alt (tag a Empty) (Elem (record { names = a ∷ []; except = true }) Empty) ∷ []) cs ∷ empty_goal 8 ∷ []

each_label : IsConsistent left_and_right (goals_of (any_label_goal (label_case 1 a (split_on 1 (settles_content 2) (settles_rest 2)) ∷ other_case 1 (split_on 2 (settles_content 2) (settles_rest 2)) ∷ [])))
unfolding heads can_be_empty
each_label = none_is left_and_right (any_label_goal (label_case 1 a (split_on 1 (settles_content 2) (settles_rest 2)) ∷ other_case 1 (split_on 2 (settles_content 2) (settles_rest 2)) ∷ [])) refl

others_are_not_named : IsFirstViolation left_and_right (any_label_goal (label_case 1 a (split_on 1 (settles_content 2) (settles_rest 2)) ∷ other_case 1 (split_on 1 (settles_content 2) (settles_rest 2)) ∷ [])) 7 bad_split
unfolding heads can_be_empty
others_are_not_named = first_is _ _ _ _ refl

others_left_out : IsFirstViolation left_and_right (any_label_goal (label_case 1 a (split_on 1 (settles_content 2) (settles_rest 2)) ∷ [])) 7 bad_case
unfolding heads can_be_empty
others_left_out = first_is _ _ _ _ refl

-- (a|b)[] within b[] or a[]: cases go by the labels' order, not by that of the rights
two_labels : IsConsistent left_and_right (goals_of (goal_at 3 (Elem (record { names = a ∷ b ∷ []; except = false }) Empty) (tag b Empty ∷ tag a Empty ∷ [])
    (label_case 1 a (split_on 2 (settles_content 2) (settles_rest 2)) ∷ label_case 1 b (split_on 1 (settles_content 2) (settles_rest 2)) ∷ []) ∷ empty_goal 9 ∷ []))
unfolding heads can_be_empty
two_labels = none_is left_and_right (goal_at 3 (Elem (record { names = a ∷ b ∷ []; except = false }) Empty) (tag b Empty ∷ tag a Empty ∷ []) (label_case 1 a (split_on 2 (settles_content 2) (settles_rest 2)) ∷ label_case 1 b (split_on 1 (settles_content 2) (settles_rest 2)) ∷ []) ∷ empty_goal 9 ∷ []) refl

-- Texts that are named.

abbrev this_text_case : ℕ → List ℕ → ChoiceTree → Case
this_text_case n s t = record { head = n; atom = atoms.Text s; choice = t }

abbrev only_text : List ℕ → Tree
only_text s = Words (record { names = s ∷ []; except = false })

abbrev no_text : List ℕ → Tree
no_text s = Words (record { names = s ∷ []; except = true })

-- "a" within String
named_text_settled : IsConsistent left_and_right (goals_of (goal_at 3 (only_text a) (Text ∷ []) (this_text_case 1 a (settles_rest 2) ∷ []) ∷ empty_goal 7 ∷ []))
unfolding heads can_be_empty
named_text_settled = none_is left_and_right (goal_at 3 (only_text a) (Text ∷ []) (this_text_case 1 a (settles_rest 2) ∷ []) ∷ empty_goal 7 ∷ []) refl

-- String within "a" | ^"a": the named text and all others
abbrev each_text_goal : List Case → List Lined
each_text_goal cs = goal_at 3 Text (only_text a ∷ no_text a ∷ []) cs ∷ empty_goal 8 ∷ []

each_text : IsConsistent left_and_right (goals_of (each_text_goal (this_text_case 1 a (settles_rest 2) ∷ text_case 1 (settles_rest 2) ∷ [])))
unfolding heads can_be_empty
each_text = none_is left_and_right (each_text_goal (this_text_case 1 a (settles_rest 2) ∷ text_case 1 (settles_rest 2) ∷ [])) refl

other_texts_left_out : IsFirstViolation left_and_right (each_text_goal (this_text_case 1 a (settles_rest 2) ∷ [])) 8 bad_case
unfolding heads can_be_empty
other_texts_left_out = first_is _ _ _ _ refl

-- String within "a": other texts have no right head
text_not_named : IsFirstViolation left_and_right (goal_at 3 Text (only_text a ∷ []) (this_text_case 1 a (settles_rest 2) ∷ text_case 1 (settles_rest 2) ∷ []) ∷ empty_goal 8 ∷ []) 7 bad_leaf
unfolding heads can_be_empty
text_not_named = first_is _ _ _ _ refl

split_of_a_text : IsFirstViolation left_and_right (goal_at 3 (only_text a) (Text ∷ []) (this_text_case 1 a (split_on 1 (settles_rest 2) (settles_rest 2)) ∷ []) ∷ empty_goal 7 ∷ []) 6 bad_split
unfolding heads can_be_empty
split_of_a_text = first_is _ _ _ _ refl
