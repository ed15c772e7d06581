-- The goals that are reached, written, are a proof.
use Rattle.std.proofs.Common.{◌≡◌, ℕ, zero, suc, ◌^◌, ◌<◌, ◌≤◌, Bool, true, ◌&&◌, List, [], ◌∷◌, length, Option, Some, inl, inr, ⊎_elim, refl, sym, ap, subst, ◌∙◌}
use Rattle.std.specs.List.{AllByRecursion, AllZip, slice_get}
use Rattle.std.proofs.lemmas.Bool.{cases_lt, and_from}
use Rattle.std.proofs.lemmas.List.{length-map}
use Rattle.std.proofs.lemmas.Option.{get_or_from_slice_get, slice_get_within}
use Rattle.xd_doc.proofs.Bools.{and_parts}
use Rattle.xd_doc.proofs.Lists.{all_more, zip_long}
use Rattle.xd_doc.proofs.Numbers.{le_lt}
use Rattle.xd_syntax.specs.Tree.{Tree, Definitions}
use Rattle.xd_syntax.specs.Program.{names_of}
use Rattle.xd_syntax.specs.RecursionFaults.{IsSound}
use Rattle.xd_syntax.specs.Kept.{ProgramTable, program_tree}
use Rattle.xd_auto.specs.declared.auto.State.{State}
use Rattle.xd_auto.specs.Automaton.{Automaton}
use Rattle.xd_meaning.specs.Consistent.{Goal, KeepsRules}
use Rattle.xd_rules.specs.Rules.{numbered, ChoiceTree, settles_content, settles_rest, split_on}
use Rattle.xd_meaning.specs.Violation.{Lined, goals_of}
use Rattle.xd_doc.specs.Members.{IsOneOf}
use Rattle.xd_rules.proofs.Members.{one_of-all, one_of-get, get-one_of}
use Rattle.xd_state_heads.specs.Moves.{heads_of}
use Rattle.xd_goals.specs.Rows.{GoalRow, TableView, row_at, claim_of, IsRowBelow}
use Rattle.xd_goals.specs.Standing.{IsBegun}
use Rattle.xd_goals.specs.Facts.{FactsOnAutomaton}
use Rattle.xd_goals.specs.Reached.{IsSettled, is_marked, LeadsToMarked}
use Rattle.xd_goals.specs.Trees.{StandsAt}
use Rattle.xd_goals.specs.declared.table.Choice.{Choice}
use Rattle.xd_goals.specs.declared.table.ChoiceNode.{ChoiceNode}
use Rattle.xd_goals.specs.declared.table.Standing.TheVariants.{Holds}
use Rattle.xd_goals.proofs.GrowsByLemmas.{past_is_new}
use Rattle.xd_goals.proofs.Facts.{StandsSomewhere, all_both, choices_stand}
use Rattle.xd_goals.proofs.Verdicts.{choices_keep}
use Rattle.xd_heads.specs.CellsView.{CellsView}
use Rattle.xd_heads.specs.Mirrors.{Mirrors, continuation_of}
use Rattle.xd_proof.specs.Goals.{AreGoalsAt, IsLinedAt}
use Rattle.xd_proof.specs.LinesFit.{LinesFit}
use Rattle.xd_proof.specs.Kept.{AreTrees}
use Rattle.xd_proof.proofs.GoalLemmas.{cases_have_trees}
use Rattle.xd_proof.specs.declared.proof.ProofGoal.{ProofGoal}
use Rattle.xd_proof_write.specs.SecondText.{distinct_types}
use Rattle.xd_proof_make.specs.Written.{IsWritten}
use Rattle.xd_proof_make.specs.Met.{IsMet, AreReached, LeadsTo, number_in}
use Rattle.xd_proof_make.specs.Few.{AreFew, IsSmall}
use Rattle.xd_proof_make.specs.Known.{AreKnown}
use Rattle.xd_proof_make.specs.Made.{CanWrite, HasTypes, IsBetween, IsGoalMade, IsOfTypes, IsProofOf, IsTypedRow}
use Rattle.xd_syntax.specs.declared.types.TypeId.{TypeId}
use Rattle.xd_proof_make.proofs.WrittenGoalLemmas.{goal_keeps}
use Rattle.xd_proof_make.proofs.SmallNumbers.{some_there, goals_writable, distinct_below, some_types}
use Rattle.xd_proof_make.proofs.ProofGoalLemmas.{all_writable}
use Rattle.xd_proof_make.proofs.UsesDefinedLemmas.{typed_row, row_typed-is, row_typed-from, typed_leads}
use Rattle.xd_proof_make.proofs.GoalTypes.{all_named, all_shallow}
use Rattle.xd_rules.specs.Heads.{Head, matches}
use Rattle.xd_rules.specs.Meaning.{AllLeaves}

-- ---- the proof

zip_get : {A B : Type 0} (R : A → B → Type 0) (xs : List A) (ys : List B) (i : ℕ) (x : A) → AllZip R xs ys → slice_get xs i ≡ Some x → (y : B) × (slice_get ys i ≡ Some y) × R x y
zip_get R [] [] i x z e = absurd (cc)
zip_get R [] (y ∷ ys) i x z e = absurd z
zip_get R (w ∷ xs) [] i x z e = absurd z
zip_get R (w ∷ xs) (y ∷ ys) zero x z e = let q : w ≡ x = cc in (y, refl, subst (λ v. R v y) q z.0)
zip_get R (w ∷ xs) (y ∷ ys) (suc i) x z e = zip_get R xs ys i x z.1 e

numbered-get : {A : Type 0} (xs : List A) (i : ℕ) → numbered xs (suc i) ≡ slice_get xs i
numbered-get [] i = refl
numbered-get (x ∷ xs) zero = refl
numbered-get (x ∷ xs) (suc i) = numbered-get xs i

-- the goals that were made, each on the first line
record AreLines (p : ProgramTable) (c : CellsView) (a : Automaton) (nodes : List ChoiceNode) (numbers : List ℕ) (rows : List GoalRow) (order : List ℕ) (made : List ProofGoal) : Type 0 where
  lined : List Lined
  at : AreGoalsAt p.types made lined
  first : AllByRecursion (λ (m : ProofGoal). m.line ≡ 1) made
  written : AllZip (λ g goal. IsWritten (names_of (program_tree p)) a (continuation_of p.types c) nodes (number_in numbers) (row_at rows g) goal) order (goals_of lined)
  small : AllByRecursion (IsSmall (names_of (program_tree p))) (goals_of lined)

lines_of : (p : ProgramTable) (c : CellsView) (a : Automaton) (nodes : List ChoiceNode) (numbers : List ℕ) (rows : List GoalRow) (order : List ℕ) (made : List ProofGoal) → AllZip (λ g m. IsGoalMade p c a nodes numbers (row_at rows g) m) order made
    → AreLines p c a nodes numbers rows order made
lines_of p c a nodes numbers rows [] [] z = record { lined = []; at = tt; first = tt; written = tt; small = tt }
lines_of p c a nodes numbers rows [] (m ∷ made) z = absurd z
lines_of p c a nodes numbers rows (g ∷ order) [] z = absurd z
lines_of p c a nodes numbers rows (g ∷ order) (m ∷ made) z =
    let h = z.0 in
    let i = lines_of p c a nodes numbers rows order made z.1 in
    record { lined = record { line = 1; goal = h.goal } ∷ i.lined; at = (record { line = h.line; goal = h.is }, i.at); first = (h.line, i.first); written = (h.written, i.written); small = (h.small, i.small) }

-- what is so of each goal that is reached
pub record IsFit (a : Automaton) (t : TableView) (c : CellsView) (g : ℕ) : Type 0 where
  pub there : g < length t.rows
  pub begun : IsBegun a (claim_of (row_at t.rows g)) (row_at t.rows g).choices
  pub below : IsRowBelow (length a) (row_at t.rows g)
  pub types : IsOfTypes c (row_at t.rows g)

module _ (p : ProgramTable) (c : CellsView) (a : Automaton) (t : TableView) (stands : FactsOnAutomaton a t) (start : ℕ) (order numbers : List ℕ) (reached : AreReached t start order numbers)
    (made : List ProofGoal) (z : AllZip (λ g m. IsGoalMade p c a t.nodes numbers (row_at t.rows g) m) order made) (m : Mirrors p c a) (sound : IsSound (program_tree p))
    (few_goals : AreFew made) (states : List (Option TypeId)) (few_states : AreFew states) (sized : length states ≡ length a) (fit : AllByRecursion (IsFit a t c) order) where
  abbrev E : Definitions
  E = names_of (program_tree p)

  abbrev C : State → Option Tree
  C = continuation_of p.types c

  ls : AreLines p c a t.nodes numbers t.rows order made
  ls = lines_of p c a t.nodes numbers t.rows order made z

  abbrev gs : List Goal
  gs = goals_of ls.lined

  in_order : (g : ℕ) → IsMet numbers g → IsOneOf g order
  in_order g h = one_of-get g order h.before ((reached.numbered).from g h.before h.is)

  met : (g : ℕ) → IsOneOf g order → IsMet numbers g
  met g m = let i = get-one_of g order m in record { before = i.0; is = (reached.numbered).to i.0 g i.1 }

  leads : (g : ℕ) → IsMet numbers g → (k : Choice) → IsOneOf k (row_at t.rows g).choices → (tree : ChoiceTree) → StandsAt t.nodes k.root tree → AllLeaves (IsMet numbers) tree
  leads g h k m tree s = one_of-all (LeadsTo t.nodes (IsMet numbers)) k (row_at t.rows g).choices (reached.closed g (in_order g h)) m tree s

  matched : (g : ℕ) → IsMet numbers g → (k : Choice) (h : Head State) → IsOneOf k (row_at t.rows g).choices → numbered (heads_of a (row_at t.rows g).left) k.head ≡ Some h → matches h.kind k.atom ≡ true
  matched g x k h m e =
      let s = one_of-all (StandsSomewhere a t (claim_of (row_at t.rows g))) k (row_at t.rows g).choices (choices_stand a t stands g) m in
      let y = s.1 in
      let q : y.head ≡ h = (let f = y.found in cc) in
      subst (λ (w : Head State). matches w.kind k.atom ≡ true) q y.matched

  written : (g : ℕ) → IsMet numbers g → (goal : Goal) × (numbered gs (number_in numbers g) ≡ Some goal) × IsWritten E a C t.nodes (number_in numbers) (row_at t.rows g) goal
  written g h =
      let y = zip_get (λ i goal. IsWritten E a C t.nodes (number_in numbers) (row_at t.rows i) goal) order gs h.before g ls.written ((reached.numbered).from g h.before h.is) in
      (y.0, ap (numbered gs) (get_or_from_slice_get numbers g (suc h.before) 0 h.is) ∙ (numbered-get gs h.before ∙ y.1), y.2)

  consistent : (xs : List ℕ) (ys : List Goal) → AllZip (λ g goal. IsWritten E a C t.nodes (number_in numbers) (row_at t.rows g) goal) xs ys → ((g : ℕ) → IsOneOf g xs → IsMet numbers g) → AllByRecursion (KeepsRules E gs) ys
  consistent [] [] w f = tt
  consistent [] (y ∷ ys) w f = absurd w
  consistent (g ∷ xs) [] w f = absurd w
  consistent (g ∷ xs) (y ∷ ys) w f =
      (goal_keeps E a C t gs (number_in numbers) (IsMet numbers) (λ i h. choices_keep a t stands i) leads matched written g (f g (inl refl)) y w.0, consistent xs ys w.1 (λ i m. f i (inr m)))

  between : (xs : List ℕ) (ys : List Goal) → AllZip (λ g goal. IsWritten E a C t.nodes (number_in numbers) (row_at t.rows g) goal) xs ys → AllZip (λ g goal. IsBetween C (row_at t.rows g) goal) xs ys
  between [] [] w = tt
  between [] (y ∷ ys) w = absurd w
  between (g ∷ xs) [] w = absurd w
  between (g ∷ xs) (y ∷ ys) w = (record { left = (w.0).left; rights = (w.0).rights }, between xs ys w.1)

  few : AreFew gs
  few = subst (λ (n : ℕ). n < 10 ^ 18) (zip_long (IsLinedAt p.types) made ls.lined ls.at ∙ sym (length-map ls.lined (λ (l : Lined). l.goal))) few_goals

  rows_below : AllByRecursion (λ g. IsRowBelow (length a) (row_at t.rows g)) order
  rows_below = all_more (IsFit a t c) (λ g. IsRowBelow (length a) (row_at t.rows g)) order (λ g x. x.below) fit

  pub made_proof : IsProofOf p c t start made
  made_proof =
      let y = zip_get (λ g goal. IsWritten E a C t.nodes (number_in numbers) (row_at t.rows g) goal) order gs 0 start ls.written reached.first in
      let first = numbered-get gs 0 ∙ y.1 in
      let keep = consistent order gs ls.written met in
      record {
        lined = ls.lined;
        goals = ls.at;
        lines = ls.first;
        consistent = keep;
        writable = goals_writable E gs few gs keep ls.small;
        goal_count = record { least = some_there gs y.0 first; most = few };
        type_count = record {
          least = some_types gs y.0 first;
          most = le_lt (length (distinct_types gs)) (length states) (10 ^ 18)
              (subst (λ (n : ℕ). length (distinct_types gs) ≤ n) (sym sized) (distinct_below C (length a) t.rows order gs (between order gs ls.written) rows_below)) few_states;
        };
        rows = order;
        numbers = numbers;
        reached = reached;
        types = between order gs ls.written;
        shallow = all_shallow p c a m t order gs (between order gs ls.written);
        named = all_named p c a t m sound stands start order numbers reached gs (between order gs ls.written) y.0 (y.2).left (y.2).rights;
        claim = y.0;
        first = first;
        between = record { left = (y.2).left; rights = (y.2).rights };
      }

-- ---- the goals that are reached

pub holds_there : (t : TableView) (g : ℕ) → (row_at t.rows g).standing ≡ Holds → g < length t.rows
holds_there t g e = ⊎_elim (λ lt. lt) (λ ge. let w = (past_is_new t.rows g ge).standing in absurd (cc)) (cases_lt g (length t.rows))

all_leaves : (P Q R : ℕ → Type 0) → ((g : ℕ) → P g → Q g → R g) → (tree : ChoiceTree) → AllLeaves P tree → AllLeaves Q tree → AllLeaves R tree
all_leaves P Q R f (settles_content g) h k = f g h k
all_leaves P Q R f (settles_rest g) h k = f g h k
all_leaves P Q R f (split_on j t u) h k = (all_leaves P Q R f t h.0 k.0, all_leaves P Q R f u h.1 k.1)

pub all_fit : (p : ProgramTable) (c : CellsView) (a : Automaton) (t : TableView) (start : ℕ) (order numbers : List ℕ) → Mirrors p c a → FactsOnAutomaton a t → IsSettled t start → IsOfTypes c (row_at t.rows start)
    → AreReached t start order numbers → AllByRecursion (IsFit a t c) order
all_fit p c a t start order numbers m stands s types reached =
    all_more (λ g. passes g ≡ true) (IsFit a t c) order fit
    (reached.only passes (and_from (is_marked s.marks start) (typed_row p c (row_at t.rows start)) s.start (row_typed-from p c (row_at t.rows start) types)) closed)
  where
    passes : ℕ → Bool
    passes g = is_marked s.marks g && typed_row p c (row_at t.rows g)

    closed : (g : ℕ) → passes g ≡ true → AllByRecursion (LeadsTo t.nodes (λ h. passes h ≡ true)) (row_at t.rows g).choices
    closed g e =
        let b = and_parts (is_marked s.marks g) (typed_row p c (row_at t.rows g)) e in
        all_both (LeadsToMarked t.nodes s.marks) (LeadsTo t.nodes (λ i. typed_row p c (row_at t.rows i) ≡ true)) (LeadsTo t.nodes (λ h. passes h ≡ true)) (row_at t.rows g).choices
        (λ k x y tree u. all_leaves (λ i. is_marked s.marks i ≡ true) (λ i. typed_row p c (row_at t.rows i) ≡ true) (λ h. passes h ≡ true) (λ i v w. and_from (is_marked s.marks i) (typed_row p c (row_at t.rows i)) v w) tree (x tree u) (y tree u))
        (s.leads g b.0) (typed_leads p c a m t g (row_at t.rows g).choices (choices_keep a t stands g) b.1)

    fit : (g : ℕ) → passes g ≡ true → IsFit a t c g
    fit g e =
        let b = and_parts (is_marked s.marks g) (typed_row p c (row_at t.rows g)) e in
        let h = s.holds g b.0 in
        let lt = holds_there t g h in
        record { there = lt; begun = (stands.holds g h).begun; below = (stands.states).each g lt; types = row_typed-is p c (row_at t.rows g) b.1 }

pub all_there : (a : Automaton) (t : TableView) (c : CellsView) (order : List ℕ) → AllByRecursion (IsFit a t c) order → AllByRecursion (λ g. g < length t.rows) order
all_there a t c order h = all_more (IsFit a t c) (λ g. g < length t.rows) order (λ g x. x.there) h

pub all_typed_rows : (a : Automaton) (t : TableView) (c : CellsView) (order : List ℕ) (n : ℕ) → n ≡ length a → AllByRecursion (IsFit a t c) order → AllByRecursion (λ g. IsTypedRow c n (row_at t.rows g)) order
all_typed_rows a t c order n e h =
    all_more (IsFit a t c) (λ g. IsTypedRow c n (row_at t.rows g)) order
    (λ g x. record {
      types = x.types;
      left_there = subst (λ (k : ℕ). (row_at t.rows g).left.number < k) (sym e) (x.below).left;
      rights_there = subst (λ (k : ℕ). AllByRecursion (λ (s : State). s.number < k) (row_at t.rows g).rights) (sym e) (x.below).rights;
    }) h

pub all_can : (p : ProgramTable) (c : CellsView) (a : Automaton) (t : TableView) (states : List (Option TypeId)) (numbers order : List ℕ) → FactsOnAutomaton a t → length numbers ≡ length t.rows → Mirrors p c a → AreKnown p c states
    → AllByRecursion (IsFit a t c) order → AllByRecursion (λ g. HasTypes states (row_at t.rows g)) order → AllByRecursion (CanWrite c a t states numbers) order
all_can p c a t states numbers order stands sized m k fit types =
    all_both (IsFit a t c) (λ g. HasTypes states (row_at t.rows g)) (CanWrite c a t states numbers) order
    (λ g x y. record {
      left_there = (x.below).left;
      rights_there = (x.below).rights;
      begun = x.begun;
      writable = all_writable a t (length numbers) (claim_of (row_at t.rows g)) (row_at t.rows g).choices sized (choices_keep a t stands g);
      of_types = x.types;
      types = y;
      program = p;
      mirrors = m;
      known = k;
    }) fit types

-- ---- what was made, over the slices that were handed on

pub all_made : (p : ProgramTable) (c : CellsView) (a : Automaton) (t : TableView) (states states2 : List (Option TypeId)) (numbers numbers2 order order2 : List ℕ) (made : List ProofGoal)
    → ((q : ProgramTable) → Mirrors q c a → AreKnown q c states2 → AllZip (λ g m. IsGoalMade q c a t.nodes numbers2 (row_at t.rows g) m) order2 made) → states2 ≡ states → numbers2 ≡ numbers → order2 ≡ order
    → Mirrors p c a → AreKnown p c states → AllZip (λ g m. IsGoalMade p c a t.nodes numbers (row_at t.rows g) m) order made
all_made p c a t states states2 numbers numbers2 order order2 made f e g h m k =
    subst (λ (xs : List ℕ). AllZip (λ i x. IsGoalMade p c a t.nodes numbers (row_at t.rows i) x) xs made) h
    (subst (λ (ns : List ℕ). AllZip (λ i x. IsGoalMade p c a t.nodes ns (row_at t.rows i) x) order2 made) g (f p m (subst (AreKnown p c) (sym e) k)))

pub all_fit_lines : (p : ProgramTable) (c : CellsView) (a : Automaton) (nodes : List ChoiceNode) (numbers : List ℕ) (rows : List GoalRow) (order : List ℕ) (made : List ProofGoal) → AllZip (λ g m. IsGoalMade p c a nodes numbers (row_at rows g) m) order made
    → AllByRecursion LinesFit made
all_fit_lines p c a nodes numbers rows [] [] z = tt
all_fit_lines p c a nodes numbers rows [] (m ∷ made) z = absurd z
all_fit_lines p c a nodes numbers rows (g ∷ order) [] z = absurd z
all_fit_lines p c a nodes numbers rows (g ∷ order) (m ∷ made) z = ((z.0).fit, all_fit_lines p c a nodes numbers rows order made z.1)

pub all_trees : (p : ProgramTable) (c : CellsView) (a : Automaton) (nodes : List ChoiceNode) (numbers : List ℕ) (rows : List GoalRow) (order : List ℕ) (made : List ProofGoal) → AllZip (λ g m. IsGoalMade p c a nodes numbers (row_at rows g) m) order made
    → AllByRecursion AreTrees made
all_trees p c a nodes numbers rows [] [] z = tt
all_trees p c a nodes numbers rows [] (m ∷ made) z = absurd z
all_trees p c a nodes numbers rows (g ∷ order) [] z = absurd z
all_trees p c a nodes numbers rows (g ∷ order) (m ∷ made) z = (let i = (z.0).is in cases_have_trees m.cases.items ((z.0).goal).cases i.cases, all_trees p c a nodes numbers rows order made z.1)

pub some_made : {B : Type 0} (R : ℕ → B → Type 0) (order : List ℕ) (made : List B) (start : ℕ) → AllZip R order made → slice_get order 0 ≡ Some start → 0 < length made
some_made R order made start z e = let y = zip_get R order made 0 start z e in slice_get_within made 0 y.0 y.1
