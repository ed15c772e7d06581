-- The first violation in a proof, computed.
use Rattle.std.proofs.Common.{ℕ, ◌+◌, Bool, true, false, not, cond, ◌||◌, ◌&&◌, nat_eq, List, [], ◌∷◌, Option, Some, None}
use Rattle.std.specs.Str.{bytes_eq}
use Rattle.xd_syntax.specs.Tree.{Tree, Definitions}
use Rattle.xd_meaning.specs.CanBeEmpty.{can_be_empty}
use Rattle.xd_rules.specs.Heads.{Head, matches}
use Rattle.xd_meaning.specs.Heads.{heads}
use Rattle.xd_rules.specs.declared.atom.Atom.{Atom}
use Rattle.xd_rules.specs.declared.atom.Atom.TheVariants.{Label, OtherLabel, Text, OtherText}
use Rattle.xd_rules.specs.Rules.{ChoiceTree, settles_content, settles_rest, split_on, Case, HeadAtom, wanted, numbered, matching, Sides, no_sides, on_content, on_rest}
use Rattle.xd_meaning.specs.Consistent.{Goal, right_heads}
pub use Rattle.xd_laws.specs.SameTree.{same_class, same_tree}
use Rattle.xd_meaning.specs.Violation.{Reason, bad_empty, bad_case, bad_split, bad_leaf, Lined, line_behind, empty_lines, goals_of}

abbrev pub same_atom : Atom → Atom → Bool
same_atom (Label l) (Label m) = bytes_eq l m
same_atom OtherLabel OtherLabel = true
same_atom (Text s) (Text t) = bytes_eq s t
same_atom OtherText OtherText = true
same_atom _ _ = false

abbrev pub head_matches : Atom → Option (Head Tree) → Bool
head_matches a None = false
head_matches a (Some h) = matches h.kind a

abbrev pub has_number : List ℕ → ℕ → Bool
has_number [] n = false
has_number (m ∷ ms) n = nat_eq m n || has_number ms n

abbrev pub has_part : (Head Tree → Tree) → Tree → Option (Head Tree) → Bool
has_part part T None = false
has_part part T (Some h) = same_tree (part h) T

-- one of the right heads of these numbers has this tree there
abbrev pub some_head : (Head Tree → Tree) → List (Head Tree) → List ℕ → Tree → Bool
some_head part hs [] T = false
some_head part hs (n ∷ ns) T = has_part part T (numbered hs n) || some_head part hs ns T

abbrev pub each_some_head : (Head Tree → Tree) → List (Head Tree) → List ℕ → List Tree → Bool
each_some_head part hs ns [] = true
each_some_head part hs ns (T ∷ Ts) = some_head part hs ns T && each_some_head part hs ns Ts

-- the goal's left is this tree, and each of its rights is there in a right head of these numbers
abbrev pub leaf_stands : (Head Tree → Tree) → Head Tree → List (Head Tree) → List ℕ → Option Goal → Bool
leaf_stands part left hs ns None = false
leaf_stands part left hs ns (Some g) = same_tree g.left (part left) && each_some_head part hs ns g.rights

abbrev pub split_allowed : Atom → List (Head Tree) → Sides → ℕ → Bool
split_allowed a hs s j = head_matches a (numbered hs j) && not (has_number s.content j || has_number s.rest j)

abbrev pub reason_unless : Bool → Reason → Option Reason
reason_unless true r = None
reason_unless false r = Some r

-- the first, or else the second
abbrev pub or_next : {A : Type 0} → Option A → Option A → Option A
or_next None b = b
or_next (Some a) b = Some a

abbrev pub wrong_choice : List Goal → Atom → Head Tree → List (Head Tree) → Sides → ChoiceTree → Option Reason
wrong_choice gs a left hs s (settles_content n) = reason_unless (leaf_stands (λ h. h.content) left hs s.content (numbered gs n)) bad_leaf
wrong_choice gs a left hs s (settles_rest n) = reason_unless (leaf_stands (λ h. h.rest) left hs s.rest (numbered gs n)) bad_leaf
wrong_choice gs a left hs s (split_on n t u) =
    or_next (reason_unless (split_allowed a hs s n) bad_split)
    (or_next (wrong_choice gs a left hs (on_content n s) t) (wrong_choice gs a left hs (on_rest n s) u))

abbrev pub wrong_text : List Goal → Atom → Head Tree → List (Head Tree) → ChoiceTree → Option Reason
wrong_text gs a left hs (settles_rest n) = reason_unless (leaf_stands (λ h. h.rest) left hs (matching a 1 hs) (numbered gs n)) bad_leaf
wrong_text gs a left hs (settles_content n) = Some bad_split
wrong_text gs a left hs (split_on n t u) = Some bad_split

abbrev pub wrong_tree : List Goal → Atom → Head Tree → List (Head Tree) → ChoiceTree → Option Reason
wrong_tree gs (Label l) left hs t = wrong_choice gs (Label l) left hs no_sides t
wrong_tree gs OtherLabel left hs t = wrong_choice gs OtherLabel left hs no_sides t
wrong_tree gs (Text s) left hs t = wrong_text gs (Text s) left hs t
wrong_tree gs OtherText left hs t = wrong_text gs OtherText left hs t

-- a case without a left head is none of those wanted
abbrev pub wrong_case : List Goal → List (Head Tree) → Case → Option (Head Tree) → Option Reason
wrong_case gs hs c None = Some bad_case
wrong_case gs hs c (Some left) = wrong_tree gs c.atom left hs c.choice

-- a line and what is wrong there
abbrev pub Refusal : Type 0
Refusal = ℕ × Reason

abbrev pub at_line : ℕ → Option Reason → Option Refusal
at_line n None = None
at_line n (Some r) = Some (n, r)

abbrev pub same_head_atom : Case → HeadAtom → Bool
same_head_atom c w = nat_eq c.head w.0 && same_atom c.atom w.1

abbrev pub wrong_cases : Definitions → List Goal → Goal → ℕ → List HeadAtom → List Case → Option Refusal
wrong_cases E gs g n [] [] = None
wrong_cases E gs g n [] (c ∷ cs) = Some (n, bad_case)
wrong_cases E gs g n (w ∷ ws) [] = Some (n, bad_case)
wrong_cases E gs g n (w ∷ ws) (c ∷ cs) =
    or_next (at_line n (reason_unless (same_head_atom c w) bad_case))
    (or_next (at_line n (wrong_case gs (right_heads E g) c (numbered (heads E g.left) c.head))) (wrong_cases E gs g (n + 1) ws cs))

abbrev pub right_is_empty : Definitions → Option Tree → Bool
right_is_empty E None = false
right_is_empty E (Some T) = can_be_empty E T

abbrev pub empty_stands : Definitions → Goal → Option ℕ → Bool
empty_stands E g None = not (can_be_empty E g.left)
empty_stands E g (Some j) = can_be_empty E g.left && right_is_empty E (numbered g.rights j)

abbrev pub wrong_goal : Definitions → List Goal → Lined → Option Refusal
wrong_goal E gs l =
    or_next (at_line (line_behind l) (reason_unless (empty_stands E l.goal (l.goal).empty_right) bad_empty))
    (wrong_cases E gs l.goal (line_behind l + empty_lines (l.goal).empty_right) (wanted (heads E (l.goal).left) (right_heads E l.goal)) (l.goal).cases)

abbrev pub wrong_goals : Definitions → List Goal → List Lined → Option Refusal
wrong_goals E gs [] = None
wrong_goals E gs (l ∷ ls) = or_next (wrong_goal E gs l) (wrong_goals E gs ls)

abbrev pub first_wrong : Definitions → List Lined → Option Refusal
first_wrong E ls = wrong_goals E (goals_of ls) ls
