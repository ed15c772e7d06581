-- A test on types that the contents and rests of heads pass where the type does: rows whose types
-- pass lead to such rows.
use Rattle.std.proofs.Common.{◌≡◌, ℕ, Bool, true, false, ◌&&◌, List, [], ◌∷◌, map, Option, Some, None, refl, sym, ap, subst, ◌∙◌}
use Rattle.std.specs.List.{AllByRecursion, flat_map, list_all}
use Rattle.std.proofs.lemmas.Bool.{and_parts, and_from}
use Rattle.xd_doc.proofs.Lists.{all_more, all_append}
use Rattle.xd_syntax.specs.Tree.{Tree, Definitions, seq_of}
use Rattle.xd_syntax.specs.Program.{names_of}
use Rattle.xd_syntax.specs.Kept.{ProgramTable, program_tree}
use Rattle.xd_auto.specs.declared.auto.State.{State}
use Rattle.xd_auto.specs.declared.auto.LabelMove.{LabelMove}
use Rattle.xd_auto.specs.declared.auto.TextMove.{TextMove}
use Rattle.xd_auto.specs.Automaton.{Automaton, moves_at}
use Rattle.xd_rules.specs.Heads.{Head}
use Rattle.xd_meaning.specs.Heads.{heads}
use Rattle.xd_doc.specs.Members.{IsOneOf}
use Rattle.xd_rules.proofs.Members.{one_of-all, one_of-numbered}
use Rattle.xd_rules.specs.declared.atom.Atom.{Atom}
use Rattle.xd_state_heads.specs.Moves.{heads_of, label_head, text_head}
use Rattle.xd_goals.specs.Rows.{GoalRow, TableView, row_at, claim_of, claim_at}
use Rattle.xd_goals.specs.Truth as goals
use Rattle.xd_goals.specs.declared.table.Choice.{Choice}
use Rattle.xd_goals.proofs.GrowsByLemmas.{claim_within}
use Rattle.xd_goals.proofs.Trees.{StandsAt-one}
use Rattle.xd_heads.specs.CellsView.{CellsView}
use Rattle.xd_moves.specs.Found.{continuation}
use Rattle.xd_heads.specs.Mirrors.{AreHeadMoves, no_head, element_head, IsTypeState, Mirrors, continuation_of}
use Rattle.xd_heads.specs.Mirrors as mirrors
use Rattle.xd_heads.proofs.Mirrored.{type_is, type_of_number}
use Rattle.xd_proof_make.specs.Met.{LeadsTo}
use Rattle.xd_proof_make.specs.Made.{IsOfTypes}
use Rattle.xd_rules.specs.Rules.{ChoiceTree, Claim, HasPart, LabelTree, LeafRule, Sides, TextTree, TreeRule, matching, no_sides, on_content, on_rest, settles_content, settles_rest, split_on}
use Rattle.xd_rules.specs.declared.atom.Atom.TheVariants.{Label, OtherLabel, Text, OtherText}
use Rattle.xd_rules.specs.Meaning.{AllLeaves, right_heads as claim_heads}

-- the state has a type, which passes
abbrev pub HasPassing : (State → Option Tree) → (Tree → Bool) → State → Type 0
HasPassing C test s = (T : Tree) × (C s ≡ Some T) × (test T ≡ true)

abbrev pub IsPassing : (State → Option Tree) → (Tree → Bool) → GoalRow → Type 0
IsPassing C test row = HasPassing C test row.left × AllByRecursion (HasPassing C test) row.rights

-- ---- the same as a test

passes : (Tree → Bool) → Option Tree → Bool
passes test None = false
passes test (Some T) = test T

pub row_passes : (State → Option Tree) → (Tree → Bool) → GoalRow → Bool
row_passes C test row = passes test (C row.left) && list_all (λ (s : State). passes test (C s)) row.rights

module _ (C : State → Option Tree) (test : Tree → Bool) where
  passes-is : (s : State) → passes test (C s) ≡ true → HasPassing C test s
  unfolding passes
  passes-is s e = go (C s) refl e
    where
      go : (o : Option Tree) → C s ≡ o → passes test o ≡ true → HasPassing C test s
      go None q f = absurd (cc)
      go (Some T) q f = (T, q, f)

  passes-from : (s : State) → HasPassing C test s → passes test (C s) ≡ true
  unfolding passes
  passes-from s h = ap (passes test) h.1 ∙ h.2

  all_pass-is : (ss : List State) → list_all (λ (s : State). passes test (C s)) ss ≡ true → AllByRecursion (HasPassing C test) ss
  all_pass-is [] e = tt
  all_pass-is (s ∷ ss) e = let b = and_parts (passes test (C s)) (list_all (λ (r : State). passes test (C r)) ss) e in (passes-is s b.0, all_pass-is ss b.1)

  all_pass-from : (ss : List State) → AllByRecursion (HasPassing C test) ss → list_all (λ (s : State). passes test (C s)) ss ≡ true
  all_pass-from [] h = refl
  all_pass-from (s ∷ ss) h = and_from (passes test (C s)) (list_all (λ (r : State). passes test (C r)) ss) (passes-from s h.0) (all_pass-from ss h.1)

  pub row_passes-is : (row : GoalRow) → row_passes C test row ≡ true → IsPassing C test row
  unfolding row_passes
  row_passes-is row e =
      let b = and_parts (passes test (C row.left)) (list_all (λ (s : State). passes test (C s)) row.rights) e in (passes-is row.left b.0, all_pass-is row.rights b.1)

  pub row_passes-from : (row : GoalRow) → IsPassing C test row → row_passes C test row ≡ true
  unfolding row_passes
  row_passes-from row h = and_from (passes test (C row.left)) (list_all (λ (s : State). passes test (C s)) row.rights) (passes-from row.left h.0) (all_pass-from row.rights h.1)

-- ---- from a row to those that its leaves name

abbrev pub HeadsPass : (Tree → Bool) → List (Head Tree) → Type 0
HeadsPass test hs = AllByRecursion (λ (h : Head Tree). (test h.content ≡ true) × (test h.rest ≡ true)) hs

module _ (E : Definitions) (a : Automaton) (C : State → Option Tree) (moves : (s : State) (T : Tree) → C s ≡ Some T → AreHeadMoves C (heads E T) (moves_at a s).labels (moves_at a s).texts)
    (test : Tree → Bool) (kept : (T : Tree) → test T ≡ true → HeadsPass test (heads E T)) where
  abbrev Has : State → Type 0
  Has s = HasPassing C test s

  abbrev HasBoth : Head State → Type 0
  HasBoth h = Has h.content × Has h.rest

  moves_pass : {hs : List (Head Tree)} {ls : List LabelMove} {ts : List TextMove} → AreHeadMoves C hs ls ts → HeadsPass test hs → AllByRecursion HasBoth (map label_head ls) × AllByRecursion HasBoth (map text_head ts)
  moves_pass no_head x = (tt, tt)
  moves_pass (element_head {h} {hs} {l} {ls} {ts} k content rest w) x =
      let i = moves_pass w x.1 in ((((h.content, content, (x.0).0), (h.rest, rest, (x.0).1)), i.0), i.1)
  moves_pass (mirrors.text_head {h} {hs} {ls} {t} {ts} k rest w) x =
      let i = moves_pass w x.1 in (i.0, (((h.rest, rest, (x.0).1), (h.rest, rest, (x.0).1)), i.1))

  state_heads : (s : State) → Has s → AllByRecursion HasBoth (heads_of a s)
  state_heads s h =
      let i = moves_pass (moves s h.0 h.1) (kept h.0 h.2) in
      all_append HasBoth (map label_head (moves_at a s).labels) (map text_head (moves_at a s).texts) i.0 i.1

  right_heads_pass : (ss : List State) → AllByRecursion Has ss → AllByRecursion HasBoth (flat_map (heads_of a) ss)
  right_heads_pass [] h = tt
  right_heads_pass (s ∷ ss) h = all_append HasBoth (heads_of a s) (flat_map (heads_of a) ss) (state_heads s h.0) (right_heads_pass ss h.1)

  leaf_passes : (part : Head State → State) (rows : List GoalRow) (g : ℕ) (left : Head State) (hs : List (Head State)) (side : List ℕ) → LeafRule part (claim_at rows) left hs side g
      → Has (part left) → ((h : Head State) → IsOneOf h hs → Has (part h)) → row_passes C test (row_at rows g) ≡ true
  leaf_passes part rows g left hs side k h w =
      let e = (claim_within rows g k.claim k.stands).1 in
      row_passes-from C test (row_at rows g) (
        subst Has (sym (ap (λ (x : Claim State). x.left) e ∙ k.same_left)) h,
        subst (AllByRecursion Has) (sym (ap (λ (x : Claim State). x.rights) e)) (parts k.claim.rights k.rights_stand),
      )
    where
      parts : (ss : List State) → AllByRecursion (HasPart part hs side) ss → AllByRecursion Has ss
      parts [] x = tt
      parts (s ∷ ss) x = let y = x.0 in (subst Has y.4 (w y.1 (one_of-numbered y.1 hs y.0 y.3)), parts ss x.1)

  module _ (rows : List GoalRow) (h : Head State) (has : HasBoth h) (atom : Atom) (rs : List (Head State)) (all : AllByRecursion HasBoth rs) where
    rest_passes : (side : List ℕ) (g : ℕ) → LeafRule (λ h. h.rest) (claim_at rows) h rs side g → row_passes C test (row_at rows g) ≡ true
    rest_passes side g k = leaf_passes (λ x. x.rest) rows g h rs side k has.1 (λ x m. (one_of-all HasBoth x rs all m).1)

    tree_passes : (tree : ChoiceTree) (s : Sides) → LabelTree (claim_at rows) atom h rs s tree → AllLeaves (λ g. row_passes C test (row_at rows g) ≡ true) tree
    tree_passes (settles_content g) s k = leaf_passes (λ x. x.content) rows g h rs s.content k has.0 (λ x m. (one_of-all HasBoth x rs all m).0)
    tree_passes (settles_rest g) s k = rest_passes s.rest g k
    tree_passes (split_on j t u) s k = (tree_passes t (on_content j s) k.1, tree_passes u (on_rest j s) k.2)

    text_passes : (tree : ChoiceTree) → TextTree (claim_at rows) atom h rs tree → AllLeaves (λ g. row_passes C test (row_at rows g) ≡ true) tree
    text_passes (settles_content g) k = absurd k
    text_passes (split_on j t u) k = absurd k
    text_passes (settles_rest g) k = rest_passes (matching atom 1 rs) g k

  case_passes : (rows : List GoalRow) (h : Head State) → HasBoth h → (atom : Atom) (rs : List (Head State)) → AllByRecursion HasBoth rs → (tree : ChoiceTree) → TreeRule (claim_at rows) atom h rs tree
      → AllLeaves (λ g. row_passes C test (row_at rows g) ≡ true) tree
  case_passes rows h has (Label l) rs all tree k = tree_passes rows h has (Label l) rs all tree no_sides k
  case_passes rows h has OtherLabel rs all tree k = tree_passes rows h has OtherLabel rs all tree no_sides k
  case_passes rows h has (Text t) rs all tree k = text_passes rows h has (Text t) rs all tree k
  case_passes rows h has OtherText rs all tree k = text_passes rows h has OtherText rs all tree k

  pub passing_leads : (t : TableView) (g : ℕ) (ks : List Choice) → AllByRecursion (goals.KeepsRules a t (claim_of (row_at t.rows g))) ks → row_passes C test (row_at t.rows g) ≡ true
      → AllByRecursion (LeadsTo t.nodes (λ i. row_passes C test (row_at t.rows i) ≡ true)) ks
  passing_leads t g [] h e = tt
  passing_leads t g (k ∷ ks) h e =
      let x = h.0 in
      let o = row_passes-is C test (row_at t.rows g) e in
      let hd = one_of-all HasBoth x.head (heads_of a (row_at t.rows g).left) (state_heads (row_at t.rows g).left o.0) (one_of-numbered x.head (heads_of a (row_at t.rows g).left) k.head x.found) in
      let all = case_passes t.rows x.head hd k.atom (claim_heads (heads_of a) (claim_of (row_at t.rows g))) (right_heads_pass (row_at t.rows g).rights o.1) x.tree x.keeps in
      (λ tree s. subst (λ (z : ChoiceTree). AllLeaves (λ i. row_passes C test (row_at t.rows i) ≡ true) z) (StandsAt-one t.nodes x.tree tree k.root x.stands s) all, passing_leads t g ks h.1 e)

-- ---- states of types

abbrev any_type_passes : Tree → Bool
any_type_passes T = true

pub typed_row : ProgramTable → CellsView → GoalRow → Bool
typed_row p c row = row_passes (continuation_of p.types c) any_type_passes row

module _ (p : ProgramTable) (c : CellsView) where
  typed_from : (s : State) → HasPassing (continuation_of p.types c) any_type_passes s → IsTypeState c s
  typed_from s h = let i = type_is p.types c s h.0 h.1 in (i.0, i.1)

  typed_to : (s : State) → IsTypeState c s → HasPassing (continuation_of p.types c) any_type_passes s
  typed_to s h = (seq_of (continuation p.types c.cells h.0), type_of_number p.types c s h.0 h.1, refl)

  pub row_typed-is : (row : GoalRow) → typed_row p c row ≡ true → IsOfTypes c row
  unfolding typed_row
  row_typed-is row e =
      let h = row_passes-is (continuation_of p.types c) any_type_passes row e in
      record { left = typed_from row.left h.0; rights = all_more (HasPassing (continuation_of p.types c) any_type_passes) (IsTypeState c) row.rights typed_from h.1 }

  pub row_typed-from : (row : GoalRow) → IsOfTypes c row → typed_row p c row ≡ true
  unfolding typed_row
  row_typed-from row h =
      row_passes-from (continuation_of p.types c) any_type_passes row
      (typed_to row.left h.left, all_more (IsTypeState c) (HasPassing (continuation_of p.types c) any_type_passes) row.rights typed_to h.rights)

-- a row of states of types leads to such rows
pub typed_leads : (p : ProgramTable) (c : CellsView) (a : Automaton) → Mirrors p c a → (t : TableView) (g : ℕ) (ks : List Choice) → AllByRecursion (goals.KeepsRules a t (claim_of (row_at t.rows g))) ks → typed_row p c (row_at t.rows g) ≡ true
    → AllByRecursion (LeadsTo t.nodes (λ i. typed_row p c (row_at t.rows i) ≡ true)) ks
unfolding typed_row
typed_leads p c a m = passing_leads (names_of (program_tree p)) a (continuation_of p.types c) m.moves any_type_passes (λ T e. all_heads (heads (names_of (program_tree p)) T))
  where
    all_heads : (hs : List (Head Tree)) → HeadsPass any_type_passes hs
    all_heads [] = tt
    all_heads (h ∷ hs) = ((refl, refl), all_heads hs)
