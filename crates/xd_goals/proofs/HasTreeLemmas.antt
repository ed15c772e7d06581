-- What is known of a tree by the node at which it stands.
use Rattle.std.proofs.Common.{ℕ, ◌<◌, ◌≡◌, arith, ⊎_elim, List, length, Option, Some, None, sym, ap, ◌∙◌, subst}
use Rattle.std.specs.List.{slice_get}
use Rattle.std.proofs.lemmas.Bool.{cases_eq, cases_lt}
use Rattle.xd_auto.specs.declared.auto.State.{State}
use Rattle.xd_rules.specs.Rules.{ChoiceTree, settles_content, settles_rest, split_on}
use Rattle.xd_rules.specs.Meaning.{AllLeaves}
use Rattle.xd_state_heads.specs.Moves.{claim_with, with_state}
use Rattle.xd_goals.specs.Rows.{TableView, IsListed, IsRefuted}
use Rattle.xd_goals.specs.Kept.{Grows}
use Rattle.xd_goals.specs.Trees.{StandsAt, AreApart, IsFree, IsGrown, IsNumbered, HasTree, HasOpenTree, IsSplitAt}
use Rattle.xd_goals.specs.declared.table.ChoiceNode.{ChoiceNode}
use Rattle.xd_goals.specs.declared.table.ChoiceNode.TheVariants.{Split, Content, Rest}
use Rattle.xd_goals.specs.declared.table.GoalCase.{GoalCase}
use Rattle.xd_goals.specs.declared.table.GoalId.{GoalId}
use Rattle.xd_state_heads.specs.declared.heads.Side.{Side}
use Rattle.xd_goals.specs.declared.grow.Task.{Task}
use Rattle.xd_goals.proofs.GrowsByLemmas.{claim_within}
use Rattle.xd_goals.proofs.Trees.{StandsAt-within}

pub HasTree-within : (t : TableView) (Kind : ChoiceTree → Type 0) (owner : GoalCase) (root : ℕ) → HasTree t Kind owner root → root < length t.nodes
HasTree-within t Kind owner root h = StandsAt-within t.nodes h.tree root h.stands

abbrev pub number_in : Option ChoiceNode → ℕ
number_in (Some (Content x)) = x.number
number_in (Some (Rest x)) = x.number
number_in (Some (Split j x y)) = j
number_in None = 0

abbrev pub content_in : Option ChoiceNode → ℕ
content_in (Some (Split j x y)) = x
content_in _ = 0

abbrev pub rest_in : Option ChoiceNode → ℕ
rest_in (Some (Split j x y)) = y
rest_in _ = 0

module _ (t : TableView) (task : Task) (sides : List Side) (contents rests : List State) (owner : GoalCase) (root : ℕ) where
  abbrev Kind : ChoiceTree → Type 0
  Kind tree = IsGrown t.rows task sides tree contents rests

  -- the parts of a tree that splits
  pub record HasParts (right x y : ℕ) : Type 0 where
    pub side : Side
    pub number : right ≡ side.number
    pub free : IsFree sides contents rests side
    pub content : HasTree t (λ tree. IsGrown t.rows task sides tree (with_state side.content contents) rests) owner x
    pub rest : HasTree t (λ tree. IsGrown t.rows task sides tree contents (with_state side.rest rests)) owner y
    pub content_older : x < root
    pub rest_older : y < root

  pub tree_parts : (right x y : ℕ) → HasTree t Kind owner root → slice_get t.nodes root ≡ Some (Split right x y) → HasParts right x y
  tree_parts right x y h e = go h.tree h.stands h.kind h.listed
    where
      go : (tree : ChoiceTree) → StandsAt t.nodes root tree → Kind tree → AllLeaves (λ g. IsListed t g owner) tree → HasParts right x y
      go (settles_content g) s k l = absurd (cc)
      go (settles_rest g) s k l = absurd (cc)
      go (split_on j a b) s k l =
          let both : Some (Split j s.0 s.1) ≡ Some (Split right x y) = sym s.2 ∙ e in
          let jr : j ≡ right = ap number_in both in
          let xs : s.0 ≡ x = ap content_in both in
          let ys : s.1 ≡ y = ap rest_in both in
          record {
            side = k.0;
            number = sym jr ∙ k.1;
            free = k.2;
            content = record { tree = a; stands = subst (λ (n : ℕ). StandsAt t.nodes n a) xs s.5; kind = k.3; listed = l.0 };
            rest = record { tree = b; stands = subst (λ (n : ℕ). StandsAt t.nodes n b) ys s.6; kind = k.4; listed = l.1 };
            content_older = subst (λ (n : ℕ). n < root) xs s.3;
            rest_older = subst (λ (n : ℕ). n < root) ys s.4;
          }

  -- a leaf's goal is there; and where it isn't refuted, the tree is open
  pub content_there : (g : GoalId) → HasTree t Kind owner root → slice_get t.nodes root ≡ Some (Content g) → g.number < length t.rows
  content_there g h e = go h.tree h.stands h.kind
    where
      go : (tree : ChoiceTree) → StandsAt t.nodes root tree → Kind tree → g.number < length t.rows
      go (settles_content n) s k =
          let same : n ≡ g.number = ap number_in (sym s ∙ e) in
          subst (λ (m : ℕ). m < length t.rows) same (claim_within t.rows n (claim_with task.content contents) k).0
      go (settles_rest n) s k = absurd (cc)
      go (split_on j a b) s k = let n = s.2 in absurd (cc)

  pub rest_there : (g : GoalId) → HasTree t Kind owner root → slice_get t.nodes root ≡ Some (Rest g) → g.number < length t.rows
  rest_there g h e = go h.tree h.stands h.kind
    where
      go : (tree : ChoiceTree) → StandsAt t.nodes root tree → Kind tree → g.number < length t.rows
      go (settles_content n) s k = absurd (cc)
      go (settles_rest n) s k =
          let same : n ≡ g.number = ap number_in (sym s ∙ e) in
          subst (λ (m : ℕ). m < length t.rows) same (claim_within t.rows n (claim_with task.rest rests) k).0
      go (split_on j a b) s k = let n = s.2 in absurd (cc)

-- a tree that is one leaf is open where the goal isn't refuted
module _ (t : TableView) (Kind : ChoiceTree → Type 0) (owner : GoalCase) (root : ℕ) where
  pub content_open : (g : GoalId) → (h : HasTree t Kind owner root) → slice_get t.nodes root ≡ Some (Content g) → ¬ (IsRefuted t.rows g.number) → HasOpenTree t Kind owner root
  content_open g h e o = record { has = h; open_ = go h.tree h.stands }
    where
      go : (tree : ChoiceTree) → StandsAt t.nodes root tree → AllLeaves (λ k. ¬ (IsRefuted t.rows k)) tree
      go (settles_content n) s = let same : n ≡ g.number = ap number_in (sym s ∙ e) in subst (λ (m : ℕ). ¬ (IsRefuted t.rows m)) (sym same) o
      go (settles_rest n) s = absurd (cc)
      go (split_on j a b) s = let n = s.2 in absurd (cc)

  pub rest_open : (g : GoalId) → (h : HasTree t Kind owner root) → slice_get t.nodes root ≡ Some (Rest g) → ¬ (IsRefuted t.rows g.number) → HasOpenTree t Kind owner root
  rest_open g h e o = record { has = h; open_ = go h.tree h.stands }
    where
      go : (tree : ChoiceTree) → StandsAt t.nodes root tree → AllLeaves (λ k. ¬ (IsRefuted t.rows k)) tree
      go (settles_content n) s = absurd (cc)
      go (settles_rest n) s = let same : n ≡ g.number = ap number_in (sym s ∙ e) in subst (λ (m : ℕ). ¬ (IsRefuted t.rows m)) (sym same) o
      go (split_on j a b) s = let n = s.2 in absurd (cc)

-- of right heads that stand in order, one has a number at most
pub same_side : (sides : List Side) (contents rests : List State) (right : ℕ) (side other : Side) → AreApart sides → right ≡ side.number → IsFree sides contents rests side → IsNumbered sides right other → other ≡ side
same_side sides contents rests right side other apart e free h = ⊎_elim
    (λ lt. let l = apart.rise h.place free.place other side lt h.found free.found in let n = h.same in absurd (omega arith))
    (λ ge. ⊎_elim
    (λ q. let at : slice_get sides free.place ≡ Some other = subst (λ (k : ℕ). slice_get sides k ≡ Some other) q h.found in let found = free.found in cc)
    (λ ne. let l = apart.rise free.place h.place side other (omega arith) free.found h.found in let n = h.same in absurd (omega arith))
    (cases_eq h.place free.place))
    (cases_lt h.place free.place)

-- a split that is there stays
pub split_stays : (t u : TableView) → Grows t u → (right x y root : ℕ) → slice_get t.nodes root ≡ Some (Split right x y) → x < root → y < root → IsSplitAt u.nodes right x y root
split_stays t u h right x y root e lx ly = record { found = h.nodes root (Split right x y) e; content_older = lx; rest_older = ly }
