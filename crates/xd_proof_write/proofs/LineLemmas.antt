-- The lines of parts, as they are written.
use Rattle.std.proofs.Common.{◌≡◌, ℕ, ◌+◌, List, [], ◌∷◌, ◌++◌, map, Option, Some, None, refl, ap, sym, ◌∙◌, append_assoc, append-nil}
use Rattle.std.specs.Prelude.{codes, flat_map}
use Rattle.std.specs.Fmt.{decimal}
use Rattle.std.specs.List.{AllZip}
use Rattle.std.proofs.lemmas.Grind.{flat_map-append}
use Rattle.xd_syntax.specs.Tree.{Tree}
use Rattle.xd_syntax.specs.TypeText.{type_text}
use Rattle.xd_syntax.specs.Table.{Row}
use Rattle.xd_syntax.specs.SoundTables.{IsTypeAt}
use Rattle.xd_syntax.specs.declared.types.TypeId.{TypeId}
use Rattle.xd_rules.specs.Rules.{ChoiceTree, settles_content, settles_rest, split_on, Case}
use Rattle.xd_meaning.specs.Consistent.{Goal}
use Rattle.xd_meaning.specs.Violation.{Lined, goals_of}
use Rattle.xd_proof.specs.Lines.{line_feed, space, each_ended, spaced}
use Rattle.xd_proof.specs.Parts.{ProofLine, left_part, right_part, case_part, atom_word, tree_words}
use Rattle.xd_proof.specs.Form.{GoalBlock, empty_parts, block_parts, blocks_from, types_from}
use Rattle.xd_proof.specs.Steps.{steps_of}
use Rattle.xd_proof.specs.Cases.{IsCase}
use Rattle.xd_proof.specs.declared.cases.ReadCase.{ReadCase}
use Rattle.xd_proof.specs.Goals.{IsGoalAt, AreGoalsAt}
use Rattle.xd_proof.specs.declared.proof.ProofGoal.{ProofGoal}
use Rattle.xd_proof_write.specs.SecondText.{line_of}
use Rattle.xd_proof_write.specs.Written.{number_line, step_text, case_line, empty_line, type_line, type_lines, text_at, right_lines, goal_lines, goals_lines}

abbrev pub lines : List (ProofLine ℕ) → List ℕ
lines ps = each_ended line_feed (map line_of ps)

pub lines-append : (ps qs : List (ProofLine ℕ)) → lines (ps ++ qs) ≡ lines ps ++ lines qs
lines-append [] qs = refl
lines-append (p ∷ ps) qs = ap (λ r. line_of p ++ line_feed ∷ r) (lines-append ps qs) ∙ sym (append_assoc (line_of p) (line_feed ∷ lines ps) (lines qs))

-- a word and a number, and what stands after their line
pub behind_number : (word : List ℕ) (n : ℕ) (rest : List ℕ) → number_line word n ++ rest ≡ (word ++ space ∷ decimal n) ++ line_feed ∷ rest
behind_number word n rest =
    append_assoc word (space ∷ (decimal n ++ line_feed ∷ [])) rest
    ∙ ap (λ r. word ++ space ∷ r) (append_assoc (decimal n) (line_feed ∷ []) rest)
    ∙ sym (append_assoc word (space ∷ decimal n) (line_feed ∷ rest))

-- ---- cases
abbrev behind_spaces : List (List ℕ) → List ℕ
behind_spaces ws = flat_map (λ w. space ∷ w) ws

spaced_words : (w : List ℕ) (ws : List (List ℕ)) → spaced (w ∷ ws) ≡ w ++ behind_spaces ws
spaced_words w [] = sym (append-nil w)
spaced_words w (v ∷ vs) = ap (λ r. w ++ space ∷ r) (spaced_words v vs)

steps_words : (t : ChoiceTree) → behind_spaces (tree_words t) ≡ flat_map step_text (steps_of t)
steps_words (settles_content n) = refl
steps_words (settles_rest n) = refl
steps_words (split_on n A B) =
    ap (λ r. (space ∷ codes "?") ++ ((space ∷ decimal n) ++ r))
    (flat_map-append (λ w. space ∷ w) (tree_words A) (tree_words B) ∙ ap (λ r. r ++ behind_spaces (tree_words B)) (steps_words A) ∙ ap (λ r. flat_map step_text (steps_of A) ++ r) (steps_words B)
    ∙ sym (flat_map-append step_text (steps_of A) (steps_of B)))

case_shape : (d a f : List ℕ) → codes "case " ++ (d ++ space ∷ (a ++ (f ++ line_feed ∷ []))) ≡ (codes "case" ++ ((space ∷ d) ++ ((space ∷ a) ++ f))) ++ line_feed ∷ []
case_shape d a f =
    ap (λ r. codes "case " ++ r)
    (ap (λ r. d ++ space ∷ r) (sym (append_assoc a f (line_feed ∷ []))) ∙ sym (append_assoc d (space ∷ (a ++ f)) (line_feed ∷ [])))

case_written : (m : ReadCase) (c : Case) → IsCase m c → case_line m ≡ line_of (case_part c) ++ line_feed ∷ []
case_written m c i =
    ap (λ n. codes "case " ++ (decimal n ++ space ∷ (atom_word m.atom ++ (flat_map step_text (m.steps).items ++ line_feed ∷ [])))) i.head
    ∙ ap (λ a. codes "case " ++ (decimal c.head ++ space ∷ (atom_word a ++ (flat_map step_text (m.steps).items ++ line_feed ∷ [])))) i.atom
    ∙ ap (λ s. codes "case " ++ (decimal c.head ++ space ∷ (atom_word c.atom ++ (s ++ line_feed ∷ [])))) (ap (flat_map step_text) i.steps ∙ sym (steps_words c.choice))
    ∙ case_shape (decimal c.head) (atom_word c.atom) (behind_spaces (tree_words c.choice))
    ∙ ap (λ r. r ++ line_feed ∷ []) (sym (spaced_words (codes "case") (decimal c.head ∷ atom_word c.atom ∷ tree_words c.choice)))

pub cases_written : (ms : List ReadCase) (cs : List Case) → AllZip IsCase ms cs → flat_map case_line ms ≡ lines (map case_part cs)
cases_written [] [] a = refl
cases_written [] (c ∷ cs) a = absurd a
cases_written (m ∷ ms) [] a = absurd a
cases_written (m ∷ ms) (c ∷ cs) a =
    ap (λ r. r ++ flat_map case_line ms) (case_written m c a.0)
    ∙ append_assoc (line_of (case_part c)) (line_feed ∷ []) (flat_map case_line ms)
    ∙ ap (λ r. line_of (case_part c) ++ line_feed ∷ r) (cases_written ms cs a.1)

pub empty_written : (e : Option ℕ) → empty_line e ≡ lines (empty_parts e)
empty_written None = refl
empty_written (Some n) = refl

-- ---- types
type_written : (k : ℕ) (t rest : List ℕ) → type_line k t ++ rest ≡ (codes "type" ++ space ∷ (decimal k ++ space ∷ t)) ++ line_feed ∷ rest
type_written k t rest =
    ap (λ r. codes "type " ++ r)
    (append_assoc (decimal k) (space ∷ (t ++ line_feed ∷ [])) rest
    ∙ ap (λ r. decimal k ++ space ∷ r) (append_assoc t (line_feed ∷ []) rest)
    ∙ sym (append_assoc (decimal k) (space ∷ t) (line_feed ∷ rest)))

pub types_written : (k : ℕ) (Ts : List Tree) → type_lines k (map type_text Ts) ≡ lines (types_from k Ts)
types_written k [] = refl
types_written k (T ∷ Ts) = ap (λ r. type_line k (type_text T) ++ r) (types_written (k + 1) Ts) ∙ type_written k (type_text T) (lines (types_from (k + 1) Ts))

-- ---- goals, where the types have these numbers by their texts, and these by themselves
module _ (rows : List Row) (by_text : List ℕ → ℕ) (number : Tree → ℕ) (agree : (id : TypeId) (T : Tree) → IsTypeAt rows T id → by_text (text_at rows id) ≡ number T) where
  rights_written : (ids : List TypeId) (Ts : List Tree) → AllZip (λ id T. IsTypeAt rows T id) ids Ts →
      right_lines rows by_text ids ≡ lines (map right_part (map number Ts))
  rights_written [] [] a = refl
  rights_written [] (T ∷ Ts) a = absurd a
  rights_written (id ∷ ids) [] a = absurd a
  rights_written (id ∷ ids) (T ∷ Ts) a =
      ap (λ r. number_line (codes "right") (by_text (text_at rows id)) ++ r) (rights_written ids Ts a.1)
      ∙ ap (λ n. number_line (codes "right") n ++ lines (map right_part (map number Ts))) (agree id T a.0)
      ∙ behind_number (codes "right") (number T) (lines (map right_part (map number Ts)))

  abbrev block_of : Goal → GoalBlock ℕ
  block_of g = record { left = number g.left; rights = map number g.rights; empty_right = g.empty_right; cases = g.cases }

  goal_written : (k : ℕ) (m : ProofGoal) (g : Goal) → IsGoalAt rows m g → goal_lines rows by_text k m ≡ lines (block_parts k (block_of g))
  goal_written k m g i =
      let rights = lines (map right_part (map number g.rights)) in
      let tail = lines (empty_parts g.empty_right ++ map case_part g.cases) in
      let last : empty_line m.empty_right ++ flat_map case_line (m.cases).items ≡ tail =
      ap (λ r. r ++ flat_map case_line (m.cases).items) (ap empty_line i.empty_right ∙ empty_written g.empty_right)
      ∙ ap (λ r. lines (empty_parts g.empty_right) ++ r) (cases_written (m.cases).items g.cases i.cases)
      ∙ sym (lines-append (empty_parts g.empty_right) (map case_part g.cases)) in
      let behind = ap (λ r. right_lines rows by_text (m.rights).items ++ r) last
      ∙ ap (λ r. r ++ tail) (rights_written (m.rights).items g.rights i.rights)
      ∙ sym (lines-append (map right_part (map number g.rights)) (empty_parts g.empty_right ++ map case_part g.cases)) in
      ap (λ r. number_line (codes "goal") k ++ (number_line (codes "left") (by_text (text_at rows m.left)) ++ r)) behind
      ∙ ap (λ n. number_line (codes "goal") k ++ (number_line (codes "left") n ++ lines (map right_part (map number g.rights) ++ (empty_parts g.empty_right ++ map case_part g.cases)))) (agree m.left g.left i.left)
      ∙ ap (λ r. number_line (codes "goal") k ++ r) (behind_number (codes "left") (number g.left) (lines (map right_part (map number g.rights) ++ (empty_parts g.empty_right ++ map case_part g.cases))))
      ∙ behind_number (codes "goal") k (lines (left_part (number g.left) ∷ (map right_part (map number g.rights) ++ (empty_parts g.empty_right ++ map case_part g.cases))))

  pub goals_written : (k : ℕ) (ms : List ProofGoal) (ls : List Lined) → AreGoalsAt rows ms ls → goals_lines rows by_text k ms ≡ lines (blocks_from k (map block_of (goals_of ls)))
  goals_written k [] [] a = refl
  goals_written k [] (l ∷ ls) a = absurd a
  goals_written k (m ∷ ms) [] a = absurd a
  goals_written k (m ∷ ms) (l ∷ ls) a =
      ap (λ r. r ++ goals_lines rows by_text (k + 1) ms) (goal_written k m l.goal (a.0).goal)
      ∙ ap (λ r. lines (block_parts k (block_of l.goal)) ++ r) (goals_written (k + 1) ms ls a.1)
      ∙ sym (lines-append (block_parts k (block_of l.goal)) (blocks_from (k + 1) (map block_of (goals_of ls))))
