-- The types of the goals of a proof: how deep they are, and which names they use.
use Rattle.std.proofs.Common.{◌≡◌, ℕ, ◌≤◌, Bool, true, List, [], ◌∷◌, Option, Some, subst}
use Rattle.std.specs.List.{AllByRecursion, AllZip}
use Rattle.xd_doc.proofs.Lists.{all_more, all_append}
use Rattle.xd_syntax.specs.Tree.{Tree, uses_only}
use Rattle.xd_syntax.specs.TypeDepth.{depth}
use Rattle.xd_syntax.specs.ShallowTables.{IsShallow}
use Rattle.xd_syntax.specs.Shallow.{nesting_limit}
use Rattle.xd_syntax.specs.NameFaults.{known_types}
use Rattle.xd_syntax.specs.Program.{names_of}
use Rattle.xd_syntax.specs.RecursionFaults.{IsSound}
use Rattle.xd_syntax.specs.Kept.{ProgramTable, program_tree}
use Rattle.xd_auto.specs.declared.auto.State.{State}
use Rattle.xd_auto.specs.Automaton.{Automaton}
use Rattle.xd_meaning.specs.Consistent.{Goal}
use Rattle.xd_goals.specs.Rows.{GoalRow, TableView, row_at}
use Rattle.xd_goals.specs.Facts.{FactsOnAutomaton}
use Rattle.xd_goals.proofs.Verdicts.{choices_keep}
use Rattle.xd_heads.specs.CellsView.{CellsView}
use Rattle.xd_heads.specs.Mirrors.{Mirrors, continuation_of}
use Rattle.xd_proof_write.specs.SecondText.{types_of}
use Rattle.xd_proof_make.specs.Written.{AreTypes}
use Rattle.xd_proof_make.specs.Met.{AreReached}
use Rattle.xd_proof_make.specs.Made.{IsBetween, UsesDefined}
use Rattle.xd_proof_make.proofs.NamedTypes.{program_heads_named}
use Rattle.xd_proof_make.proofs.UsesDefinedLemmas.{HasPassing, IsPassing, row_passes, row_passes-is, row_passes-from, passing_leads}

all_types : (P : Tree → Type 0) (gs : List Goal) → AllByRecursion (λ (g : Goal). AllByRecursion P (g.left ∷ g.rights)) gs → AllByRecursion P (types_of gs)
all_types P [] h = tt
all_types P (g ∷ gs) h = all_append P (g.left ∷ g.rights) (types_of gs) h.0 (all_types P gs h.1)

all_zipped : {A B : Type 0} (P : A → Type 0) (R : A → B → Type 0) (Q : B → Type 0) → ((x : A) (y : B) → P x → R x y → Q y) → (xs : List A) (ys : List B) → AllByRecursion P xs → AllZip R xs ys → AllByRecursion Q ys
all_zipped P R Q f [] [] h z = tt
all_zipped P R Q f [] (y ∷ ys) h z = absurd z
all_zipped P R Q f (x ∷ xs) [] h z = absurd z
all_zipped P R Q f (x ∷ xs) (y ∷ ys) h z = (f x y h.0 z.0, all_zipped P R Q f xs ys h.1 z.1)

anything : {A : Type 0} (xs : List A) → AllByRecursion (λ (x : A). Unit {0}) xs
anything [] = tt
anything (x ∷ xs) = (tt, anything xs)

-- what holds of each state with a type and of that type holds of the types of a goal
module _ (C : State → Option Tree) (P : State → Type 0) (Q : Tree → Type 0) (f : (s : State) (T : Tree) → P s → C s ≡ Some T → Q T) where
  goal_types : (row : GoalRow) (g : Goal) → P row.left → AllByRecursion P row.rights → IsBetween C row g → AllByRecursion Q (g.left ∷ g.rights)
  goal_types row g l rs b = (f row.left g.left l b.left, all_zipped P (λ s T. C s ≡ Some T) Q f row.rights g.rights rs b.rights)

-- ---- depth

pub all_shallow : (p : ProgramTable) (c : CellsView) (a : Automaton) → Mirrors p c a → (t : TableView) (order : List ℕ) (gs : List Goal) → AllZip (λ g made. IsBetween (continuation_of p.types c) (row_at t.rows g) made) order gs → IsShallow p.types
    → AllByRecursion (λ T. depth T ≤ nesting_limit) (types_of gs)
all_shallow p c a m t order gs z h =
    let low : Tree → Type 0 = λ T. depth T ≤ nesting_limit in
    let C : State → Option Tree = continuation_of p.types c in
    all_types low gs
    (all_zipped (λ (g : ℕ). Unit {0}) (λ g made. IsBetween C (row_at t.rows g) made) (λ (made : Goal). AllByRecursion low (made.left ∷ made.rights))
    (λ g made u b. goal_types C (λ (s : State). Unit {0}) low (λ s T v e. m.shallow h s T e) (row_at t.rows g) made tt (anything (row_at t.rows g).rights) b)
    order gs (anything order) z)

-- ---- names

one_type : (C : State → Option Tree) (test : Tree → Bool) (s : State) (T : Tree) → HasPassing C test s → C s ≡ Some T → test T ≡ true
one_type C test s T h e = let same : h.0 ≡ T = (let d = h.1 in cc) in subst (λ (U : Tree). test U ≡ true) same h.2

zip_passing : (C : State → Option Tree) (test : Tree → Bool) (ss : List State) (Ts : List Tree) → AreTypes C ss Ts → AllByRecursion (λ T. test T ≡ true) Ts → AllByRecursion (HasPassing C test) ss
zip_passing C test [] [] z h = tt
zip_passing C test [] (T ∷ Ts) z h = absurd z
zip_passing C test (s ∷ ss) [] z h = absurd z
zip_passing C test (s ∷ ss) (T ∷ Ts) z h = ((T, z.0, h.0), zip_passing C test ss Ts z.1 h.1)

module _ (p : ProgramTable) (c : CellsView) (a : Automaton) (t : TableView) (m : Mirrors p c a) (sound : IsSound (program_tree p)) (stands : FactsOnAutomaton a t) (start : ℕ) (order numbers : List ℕ) (reached : AreReached t start order numbers) where
  abbrev C : State → Option Tree
  C = continuation_of p.types c

  abbrev test : Tree → Bool
  test T = uses_only (known_types (program_tree p)) T

  rows_named : IsPassing C test (row_at t.rows start) → AllByRecursion (λ g. IsPassing C test (row_at t.rows g)) order
  rows_named h =
      all_more (λ g. row_passes C test (row_at t.rows g) ≡ true) (λ g. IsPassing C test (row_at t.rows g)) order (λ g e. row_passes-is C test (row_at t.rows g) e)
      (reached.only (λ g. row_passes C test (row_at t.rows g)) (row_passes-from C test (row_at t.rows start) h)
      (λ g e. passing_leads (names_of (program_tree p)) a C m.moves test (program_heads_named (program_tree p) sound) t g (row_at t.rows g).choices (choices_keep a t stands g) e))

  pub all_named : (gs : List Goal) → AllZip (λ g made. IsBetween C (row_at t.rows g) made) order gs → (claim : Goal) → C (row_at t.rows start).left ≡ Some claim.left → AreTypes C (row_at t.rows start).rights claim.rights
      → AllByRecursion (UsesDefined (program_tree p)) (claim.left ∷ claim.rights) → AllByRecursion (UsesDefined (program_tree p)) (types_of gs)
  all_named gs z claim left rights h =
      all_types (UsesDefined (program_tree p)) gs
      (all_zipped (λ g. IsPassing C test (row_at t.rows g)) (λ g made. IsBetween C (row_at t.rows g) made) (λ (made : Goal). AllByRecursion (UsesDefined (program_tree p)) (made.left ∷ made.rights))
      (λ g made x b. goal_types C (HasPassing C test) (UsesDefined (program_tree p)) (one_type C test) (row_at t.rows g) made x.0 x.1 b)
      order gs (rows_named ((claim.left, left, h.0), zip_passing C test (row_at t.rows start).rights claim.rights rights h.1)) z)

-- ---- both
