-- Goals that are written from a table keep the rules of proofs.
use Rattle.std.proofs.Common.{◌≡◌, ℕ, true, false, List, [], ◌∷◌, map, Option, Some, inl, inr, refl, sym, ap, subst, ◌∙◌}
use Rattle.std.specs.List.{AllByRecursion}
use Rattle.xd_doc.specs.Classes.{LabelClass}
use Rattle.xd_syntax.specs.Tree.{Tree, Definitions}
use Rattle.xd_auto.specs.declared.auto.State.{State}
use Rattle.xd_auto.specs.Automaton.{Automaton}
use Rattle.xd_rules.specs.Heads.{Head, matches, HeadKind, element_in, text_in}
use Rattle.xd_meaning.specs.Heads.{heads}
use Rattle.xd_rules.specs.declared.atom.Atom.{Atom}
use Rattle.xd_rules.specs.Rules.{ChoiceTree, Case, numbered, matching, Sides, no_sides, on_content, on_rest, HasPart, LeafRule, LabelTree, TextTree, TreeRule, CaseRule, Claim, settles_content, settles_rest, split_on}
use Rattle.xd_meaning.specs.Consistent.{Goal, claim_of as goal_claim_of, claims, right_heads, KeepsRules}
use Rattle.xd_laws.proofs.Claims.{goal_claim}
use Rattle.xd_rules.proofs.Walk.{matching_at, matching_there}
use Rattle.xd_doc.specs.Members.{IsOneOf}
use Rattle.xd_rules.specs.Listed.{SomeOf}
use Rattle.xd_rules.proofs.Members.{one_of-map, one_of-from_map, one_of-all}
use Rattle.xd_rules.specs.declared.atom.Atom.TheVariants.{Label, OtherLabel, Text, OtherText}
use Rattle.xd_state_heads.specs.Moves.{heads_of}
use Rattle.xd_goals.specs.Rows.{GoalRow, TableView, row_at, claim_of, claim_at}
use Rattle.xd_goals.specs.Trees.{StandsAt}
use Rattle.xd_goals.specs.Truth as goals
use Rattle.xd_goals.specs.declared.table.Choice.{Choice}
use Rattle.xd_goals.proofs.Trees.{StandsAt-one}
use Rattle.xd_goals.proofs.GrowsByLemmas.{claim_within}
use Rattle.xd_proof_make.specs.Written.{written_tree, AreTypes, IsSameHead, Renumbers, IsCaseFor, IsWritten}
use Rattle.xd_rules.specs.Meaning.{AllLeaves, is_text_atom, right_heads as claim_heads}

-- what a label's atom matches is an element
element_matched : (a : Atom) (k : HeadKind) → is_text_atom a ≡ false → matches k a ≡ true → (c : LabelClass) × (k ≡ element_in c)
element_matched a (element_in c) e h = (c, refl)
element_matched (Label l) (text_in w) e h = absurd (cc)
element_matched OtherLabel (text_in w) e h = absurd (cc)
element_matched (Text s) (text_in w) e h = absurd (cc)
element_matched OtherText (text_in w) e h = absurd (cc)

-- a type for a state is its only one
one_type : (C : State → Option Tree) (s : State) (T U : Tree) → C s ≡ Some T → C s ≡ Some U → T ≡ U
one_type C s T U e f = cc

-- ---- the trees of a goal

module _ (C : State → Option Tree) (rows : List GoalRow) (gs : List Goal) (number : ℕ → ℕ) (IsReached : ℕ → Type 0)
    (named_goal : (g : ℕ) → IsReached g → (c : Claim State) → claim_at rows g ≡ Some c → (goal : Goal) × (numbered gs (number g) ≡ Some goal) × (C c.left ≡ Some goal.left) × AreTypes C c.rights goal.rights)
    (head : Head State) (left : Head Tree) (same : IsSameHead C head left) (rs : List (Head State)) (ks : List (Head Tree)) (place : ℕ → ℕ) (renumbers : Renumbers C place rs ks) where
  -- the parts of the heads of these numbers have as types the parts of the heads of their new ones
  abbrev Moves : (Head State → State) → (Head Tree → Tree) → List ℕ → Type 0
  Moves p q side = (n : ℕ) (h : Head State) (k : Head Tree) → IsOneOf n side → numbered rs n ≡ Some h → numbered ks (place n) ≡ Some k → C (p h) ≡ Some (q k)

  rests_move : (side : List ℕ) → Moves (λ h. h.rest) (λ h. h.rest) side
  rests_move side n h k m at there =
      let w = renumbers.same n h at in
      let stands : numbered ks (place n) ≡ Some w.head = w.stands in
      let is : w.head ≡ k = cc in
      subst (λ (x : Head Tree). C h.rest ≡ Some x.rest) is (w.same).rest

  moves_more : (p : Head State → State) (q : Head Tree → Tree) (side : List ℕ) (n : ℕ) (h : Head State) (k : Head Tree) → numbered rs n ≡ Some h → numbered ks (place n) ≡ Some k → C (p h) ≡ Some (q k)
      → Moves p q side → Moves p q (n ∷ side)
  moves_more p q side n h k at there c m i g l (inl e) f t =
      let at_i : numbered rs n ≡ Some g = ap (numbered rs) e ∙ f in
      let there_i : numbered ks (place n) ≡ Some l = ap (λ (w : ℕ). numbered ks (place w)) e ∙ t in
      let x : h ≡ g = cc in
      let y : k ≡ l = cc in
      subst (λ (w : Head State). C (p w) ≡ Some (q l)) x (subst (λ (w : Head Tree). C (p h) ≡ Some (q w)) y c)
  moves_more p q side n h k at there c m i g l (inr r) f t = m i g l r f t

  leaf : (p : Head State → State) (q : Head Tree → Tree) (side new : List ℕ) (g : ℕ) → IsReached g → LeafRule p (claim_at rows) head rs side g → C (p head) ≡ Some (q left)
      → Moves p q side → ((n : ℕ) → IsOneOf n side → IsOneOf (place n) new) → LeafRule q (claims gs) left ks new (number g)
  leaf p q side new g r k e moves to =
      let w = named_goal g r k.claim k.stands in
      record {
        claim = goal_claim_of w.0;
        stands = goal_claim gs (number g) w.0 w.1;
        same_left = one_type C (p head) (w.0).left (q left) (subst (λ (s : State). C s ≡ Some (w.0).left) k.same_left w.2) e;
        rights_stand = rights k.claim.rights (w.0).rights w.3 k.rights_stand;
      }
    where
      rights : (ss : List State) (Ts : List Tree) → AreTypes C ss Ts → AllByRecursion (HasPart p rs side) ss → AllByRecursion (HasPart q ks new) Ts
      rights [] [] z a = tt
      rights [] (T ∷ Ts) z a = absurd z
      rights (s ∷ ss) [] z a = absurd z
      rights (s ∷ ss) (T ∷ Ts) z a =
          let x = a.0 in
          let w = renumbers.same x.0 x.1 x.3 in
          let c = moves x.0 x.1 w.head x.2 x.3 w.stands in
          ((place x.0, w.head, to x.0 x.2, w.stands, one_type C s (q w.head) T (subst (λ (u : State). C u ≡ Some (q w.head)) x.4 c) z.0), rights ss Ts z.1 a.1)

  abbrev placed : Sides → Sides
  placed s = record { content = map place s.content; rest = map place s.rest }

  abbrev AreThere : List ℕ → Type 0
  AreThere side = (n : ℕ) → IsOneOf n side → (h : Head State) × (numbered rs n ≡ Some h)

  there_more : (side : List ℕ) (n : ℕ) (h : Head State) → numbered rs n ≡ Some h → AreThere side → AreThere (n ∷ side)
  there_more side n h at t i (inl e) = (h, subst (λ (w : ℕ). numbered rs w ≡ Some h) e at)
  there_more side n h at t i (inr m) = t i m

  -- a number that is new to a side is so under its new one
  still_new : (side : List ℕ) (n : ℕ) (h : Head State) → numbered rs n ≡ Some h → AreThere side → (IsOneOf n side → ⊥) → IsOneOf (place n) (map place side) → ⊥
  still_new side n h at t new m =
      let x = one_of-from_map place (place n) side m in
      let y = t x.0 x.1 in
      new (subst (λ (i : ℕ). IsOneOf i side) (renumbers.once x.0 n y.0 h y.1 at x.2) x.1)

  module _ (atom : Atom) (matched : matches head.kind atom ≡ true) where
    label_tree : is_text_atom atom ≡ false → (tree : ChoiceTree) (s : Sides) → LabelTree (claim_at rows) atom head rs s tree → AllLeaves IsReached tree
        → Moves (λ h. h.content) (λ h. h.content) s.content → AreThere s.content → AreThere s.rest → LabelTree (claims gs) atom left ks (placed s) (written_tree place number tree)
    label_tree b (settles_content g) s k r m c d =
        let q = element_matched atom head.kind b matched in
        leaf (λ h. h.content) (λ h. h.content) s.content (map place s.content) g r k (same.content q.0 q.1) m (λ n i. one_of-map place n s.content i)
    label_tree b (settles_rest g) s k r m c d =
        leaf (λ h. h.rest) (λ h. h.rest) s.rest (map place s.rest) g r k same.rest (rests_move s.rest) (λ n i. one_of-map place n s.rest i)
    label_tree b (split_on j t u) s k r m c d =
        let x = k.0 in
        let w = renumbers.same j x.head x.stands in
        let q = element_matched atom (x.head).kind b x.fits in (
          record {
            head = w.head;
            stands = w.stands;
            fits = ap (λ (i : HeadKind). matches i atom) (w.same).kind ∙ x.fits;
            new_to_content = still_new s.content j x.head x.stands c x.new_to_content;
            new_to_rest = still_new s.rest j x.head x.stands d x.new_to_rest;
          },
          label_tree b t (on_content j s) k.1 r.0 (moves_more (λ h. h.content) (λ h. h.content) s.content j x.head w.head x.stands w.stands ((w.same).content q.0 q.1) m)
              (there_more s.content j x.head x.stands c) d,
          label_tree b u (on_rest j s) k.2 r.1 m c (there_more s.rest j x.head x.stands d),
        )

    text_tree : (tree : ChoiceTree) → TextTree (claim_at rows) atom head rs tree → AllLeaves IsReached tree → TextTree (claims gs) atom left ks (written_tree place number tree)
    text_tree (settles_content g) k r = k
    text_tree (split_on j t u) k r = k
    text_tree (settles_rest g) k r =
        leaf (λ h. h.rest) (λ h. h.rest) (matching atom 1 rs) (matching atom 1 ks) g r k same.rest (rests_move (matching atom 1 rs)) (λ n i.
        let v = matching_there atom rs n i in
        let w = renumbers.same n v.0 v.1 in
        matching_at atom ks (place n) w.head w.stands (ap (λ (x : HeadKind). matches x atom) (w.same).kind ∙ v.2))

    labels_kept : is_text_atom atom ≡ false → (tree : ChoiceTree) → LabelTree (claim_at rows) atom head rs no_sides tree → AllLeaves IsReached tree → LabelTree (claims gs) atom left ks no_sides (written_tree place number tree)
    labels_kept b tree k r = label_tree b tree no_sides k r (λ n h i m e t. absurd m) (λ n m. absurd m) (λ n m. absurd m)

  tree_kept : (atom : Atom) → matches head.kind atom ≡ true → (tree : ChoiceTree) → TreeRule (claim_at rows) atom head rs tree → AllLeaves IsReached tree → TreeRule (claims gs) atom left ks (written_tree place number tree)
  tree_kept (Label l) matched tree k r = labels_kept (Label l) matched refl tree k r
  tree_kept OtherLabel matched tree k r = labels_kept OtherLabel matched refl tree k r
  tree_kept (Text l) matched tree k r = text_tree (Text l) matched tree k r
  tree_kept OtherText matched tree k r = text_tree OtherText matched tree k r

-- ---- all goals

-- the goals of the rows that are reached, each written under its number
module _ (E : Definitions) (a : Automaton) (C : State → Option Tree) (t : TableView) (gs : List Goal) (number : ℕ → ℕ) (IsReached : ℕ → Type 0)
    (keeps : (g : ℕ) → IsReached g → AllByRecursion (goals.KeepsRules a t (claim_of (row_at t.rows g))) (row_at t.rows g).choices)
    (leads : (g : ℕ) → IsReached g → (k : Choice) → IsOneOf k (row_at t.rows g).choices → (tree : ChoiceTree) → StandsAt t.nodes k.root tree → AllLeaves IsReached tree)
    (matched : (g : ℕ) → IsReached g → (k : Choice) (h : Head State) → IsOneOf k (row_at t.rows g).choices → numbered (heads_of a (row_at t.rows g).left) k.head ≡ Some h → matches h.kind k.atom ≡ true)
    (written : (g : ℕ) → IsReached g → (goal : Goal) × (numbered gs (number g) ≡ Some goal) × IsWritten E a C t.nodes number (row_at t.rows g) goal) where
  named_goal : (g : ℕ) → IsReached g → (c : Claim State) → claim_at t.rows g ≡ Some c → (goal : Goal) × (numbered gs (number g) ≡ Some goal) × (C c.left ≡ Some goal.left) × AreTypes C c.rights goal.rights
  named_goal g r c e =
      let w = written g r in
      let q = (claim_within t.rows g c e).1 in
      (w.0, w.1, subst (λ (x : Claim State). C x.left ≡ Some (w.0).left) q (w.2).left, subst (λ (x : Claim State). AreTypes C x.rights (w.0).rights) q (w.2).rights)

  case_kept : (g : ℕ) → IsReached g → (goal : Goal) (w : IsWritten E a C t.nodes number (row_at t.rows g) goal) (c : Case)
      → SomeOf (λ k. IsCaseFor C t.nodes w.place number (heads_of a (row_at t.rows g).left) (heads E goal.left) k c) (row_at t.rows g).choices → CaseRule (claims gs) (heads E goal.left) (right_heads E goal) c
  case_kept g r goal w c s =
      let k = s.0 in
      let x = s.2 in
      let p = x.head in
      let y = one_of-all (goals.KeepsRules a t (claim_of (row_at t.rows g))) k (row_at t.rows g).choices (keeps g r) s.1 in
      let one : y.tree ≡ x.tree = StandsAt-one t.nodes y.tree x.tree k.root y.stands x.stands in
      let hd : y.head ≡ x.of_head = (let e = y.found in let f = x.found in cc) in
      record {
        left_head = p.head;
        stands = p.stands;
        tree =
            subst (λ (z : ChoiceTree). TreeRule (claims gs) c.atom p.head (right_heads E goal) z) (sym x.choice)
            (subst (λ (z : Atom). TreeRule (claims gs) z p.head (right_heads E goal) (written_tree w.place number x.tree)) (sym x.atom)
            (tree_kept C t.rows gs number IsReached named_goal x.of_head p.head p.same (claim_heads (heads_of a) (claim_of (row_at t.rows g))) (right_heads E goal) w.place w.renumbers
            k.atom (matched g r k x.of_head s.1 x.found) x.tree
            (subst (λ (z : ChoiceTree). TreeRule (claim_at t.rows) k.atom x.of_head (claim_heads (heads_of a) (claim_of (row_at t.rows g))) z) one
            (subst (λ (z : Head State). TreeRule (claim_at t.rows) k.atom z (claim_heads (heads_of a) (claim_of (row_at t.rows g))) y.tree) hd y.keeps))
            (leads g r k s.1 x.tree x.stands)));
      }

  pub goal_keeps : (g : ℕ) → IsReached g → (goal : Goal) → IsWritten E a C t.nodes number (row_at t.rows g) goal → KeepsRules E gs goal
  goal_keeps g r goal w = record {
    empty = w.empty_right;
    cases = w.cases;
    trees = trees goal.cases w.each;
  }
    where
      trees : (cs : List Case) → AllByRecursion (λ c. SomeOf (λ k. IsCaseFor C t.nodes w.place number (heads_of a (row_at t.rows g).left) (heads E goal.left) k c) (row_at t.rows g).choices) cs
          → AllByRecursion (CaseRule (claims gs) (heads E goal.left) (right_heads E goal)) cs
      trees [] h = tt
      trees (c ∷ cs) h = (case_kept g r goal w c h.0, trees cs h.1)
