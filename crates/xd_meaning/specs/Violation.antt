-- The first line of a proof at which a rule is broken, and which rule. (The order is this project's
-- own.) Each definition goes through its part of the text in the order in which the rules are looked
-- at: a constructor names the rule that fails here, or says that the rules up to here are kept and
-- goes on. In that order: the line on being empty (`bad_empty`); at each case its head and atom
-- (`bad_case`); in its tree a split before what stands below it (`bad_split`), and each leaf
-- (`bad_leaf`).
use Rattle.std.specs.Prelude.{◌≡◌, ℕ, ◌+◌, List, [], ◌∷◌, map, length, Option, Some, None}
use Rattle.xd_syntax.specs.Tree.{Tree, Definitions}
use Rattle.xd_rules.specs.declared.atom.Atom.{Atom}
use Rattle.xd_rules.specs.declared.atom.Atom.TheVariants.{Label, OtherLabel, Text, OtherText}
use Rattle.xd_rules.specs.Heads.{Head}
use Rattle.xd_rules.specs.Rules.{Claim, ChoiceTree, settles_content, settles_rest, split_on, Case, HeadAtom, head_atom, wanted, numbered, matching, Sides, no_sides, on_content, on_rest, LeafRule, SplitRule, LabelTree, CaseRule}
use Rattle.xd_meaning.specs.Heads.{heads}
use Rattle.xd_meaning.specs.Consistent.{Goal, claims, right_heads, EmptyRule, KeepsRules}

-- What is wrong with a line. A line of `bad_form` isn't looked at further.
pub data Reason : Type 0 where
  bad_form : Reason
  bad_empty : Reason
  bad_case : Reason
  bad_split : Reason
  bad_leaf : Reason

-- A goal and the number of its first line. Its left stands on the next line, then come its rights,
-- the line on being empty if there is one, and the cases.
pub record Lined : Type 0 where
  pub line : ℕ
  pub goal : Goal

-- In the tree of a label, from left to right: a split is looked at before what stands below it.
pub data TreeViolation
    (claim_at : ℕ → Option (Claim Tree)) (a : Atom) (left : Head Tree) (hs : List (Head Tree)) :
    Sides → ChoiceTree → Reason → Type 0 where
  content_leaf : {s : Sides} {n : ℕ} →
      (LeafRule (λ h. h.content) claim_at left hs s.content n → ⊥) →
      TreeViolation claim_at a left hs s (settles_content n) bad_leaf
  rest_leaf : {s : Sides} {n : ℕ} →
      (LeafRule (λ h. h.rest) claim_at left hs s.rest n → ⊥) →
      TreeViolation claim_at a left hs s (settles_rest n) bad_leaf
  at_split : {s : Sides} {n : ℕ} {t u : ChoiceTree} → (SplitRule a hs s n → ⊥) →
      TreeViolation claim_at a left hs s (split_on n t u) bad_split
  in_content : {s : Sides} {n : ℕ} {t u : ChoiceTree} {r : Reason} →
      SplitRule a hs s n → TreeViolation claim_at a left hs (on_content n s) t r →
      TreeViolation claim_at a left hs s (split_on n t u) r
  in_rest : {s : Sides} {n : ℕ} {t u : ChoiceTree} {r : Reason} →
      SplitRule a hs s n → LabelTree claim_at a left hs (on_content n s) t →
      TreeViolation claim_at a left hs (on_rest n s) u r →
      TreeViolation claim_at a left hs s (split_on n t u) r

-- In the tree of a text nothing but a leaf on the rest may stand.
pub data TextViolation
    (claim_at : ℕ → Option (Claim Tree)) (a : Atom) (left : Head Tree) (hs : List (Head Tree)) :
    ChoiceTree → Reason → Type 0 where
  text_leaf : {n : ℕ} →
      (LeafRule (λ h. h.rest) claim_at left hs (matching a 1 hs) n → ⊥) →
      TextViolation claim_at a left hs (settles_rest n) bad_leaf
  text_content : {n : ℕ} → TextViolation claim_at a left hs (settles_content n) bad_split
  text_split : {n : ℕ} {t u : ChoiceTree} → TextViolation claim_at a left hs (split_on n t u) bad_split

-- in the choice tree of a case, by whether its atom is of labels or of texts
abbrev pub ChoiceViolation :
    (ℕ → Option (Claim Tree)) → Atom → Head Tree → List (Head Tree) → ChoiceTree → Reason → Type 0
ChoiceViolation claim_at (Label l) left hs t r = TreeViolation claim_at (Label l) left hs no_sides t r
ChoiceViolation claim_at OtherLabel left hs t r = TreeViolation claim_at OtherLabel left hs no_sides t r
ChoiceViolation claim_at (Text s) left hs t r = TextViolation claim_at (Text s) left hs t r
ChoiceViolation claim_at OtherText left hs t r = TextViolation claim_at OtherText left hs t r

-- Where the cases from line n on are to be these: one too many is wrong where it stands, one too
-- few at the line after the last case. A case of another head or atom is looked at before its
-- tree.
pub data CasesViolation (E : Definitions) (gs : List Goal) (g : Goal) :
    (n : ℕ) → List HeadAtom → List Case → (line : ℕ) → Reason → Type 0 where
  too_many : {n : ℕ} {c : Case} {cs : List Case} → CasesViolation E gs g n [] (c ∷ cs) n bad_case
  too_few : {n : ℕ} {w : HeadAtom} {ws : List HeadAtom} → CasesViolation E gs g n (w ∷ ws) [] n bad_case
  other_case : {n : ℕ} {w : HeadAtom} {ws : List HeadAtom} {c : Case} {cs : List Case} →
      (head_atom c ≡ w → ⊥) → CasesViolation E gs g n (w ∷ ws) (c ∷ cs) n bad_case
  in_tree : {n : ℕ} {w : HeadAtom} {ws : List HeadAtom} {c : Case} {cs : List Case} {r : Reason} →
      head_atom c ≡ w → (left : Head Tree) → numbered (heads E g.left) c.head ≡ Some left →
      ChoiceViolation (claims gs) c.atom left (right_heads E g) c.choice r →
      CasesViolation E gs g n (w ∷ ws) (c ∷ cs) n r
  later_case : {n m : ℕ} {w : HeadAtom} {ws : List HeadAtom} {c : Case} {cs : List Case} {r : Reason} →
      head_atom c ≡ w → CaseRule (claims gs) (heads E g.left) (right_heads E g) c →
      CasesViolation E gs g (n + 1) ws cs m r → CasesViolation E gs g n (w ∷ ws) (c ∷ cs) m r

-- how many lines there are on being empty
abbrev pub empty_lines : Option ℕ → ℕ
empty_lines None = 0
empty_lines (Some n) = 1

-- the line after the rights: that on being empty, or where it would stand
abbrev pub line_behind : Lined → ℕ
line_behind l = l.line + 2 + length (l.goal).rights

-- the first in a goal
pub data GoalViolation (E : Definitions) (gs : List Goal) (l : Lined) : (line : ℕ) → Reason → Type 0 where
  on_empty : (EmptyRule E l.goal (l.goal).empty_right → ⊥) →
      GoalViolation E gs l (line_behind l) bad_empty
  in_cases : {m : ℕ} {r : Reason} → EmptyRule E l.goal (l.goal).empty_right →
      CasesViolation E gs l.goal (line_behind l + empty_lines (l.goal).empty_right)
      (wanted (heads E (l.goal).left) (right_heads E l.goal)) (l.goal).cases m r →
      GoalViolation E gs l m r

-- the first in goals, one after the other
pub data GoalsViolation (E : Definitions) (gs : List Goal) : List Lined → (line : ℕ) → Reason → Type 0 where
  this_goal : {l : Lined} {ls : List Lined} {m : ℕ} {r : Reason} →
      GoalViolation E gs l m r → GoalsViolation E gs (l ∷ ls) m r
  later_goal : {l : Lined} {ls : List Lined} {m : ℕ} {r : Reason} →
      KeepsRules E gs l.goal → GoalsViolation E gs ls m r → GoalsViolation E gs (l ∷ ls) m r

-- the goals, without their lines
abbrev pub goals_of : List Lined → List Goal
goals_of ls = map (λ l. l.goal) ls

-- the first line at which a rule is broken, and which
abbrev pub IsFirstViolation : Definitions → List Lined → ℕ → Reason → Type 0
IsFirstViolation E ls n r = GoalsViolation E (goals_of ls) ls n r
