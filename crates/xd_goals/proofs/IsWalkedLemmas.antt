-- Goals that are reached through leaves.
use Rattle.std.proofs.Common.{ℕ, zero, suc, ◌+◌, ◌<◌, ◌≤◌, ◌≡◌, Bool, true, false, Some, if◌then◌else◌, nat_eq, List, [], ◌∷◌, ◌++◌, length, get_or, set, get_or-set_same, get_or-set_other, ◌⊎◌, inl, inr, ⊎_elim, refl, sym, ap, ◌∙◌, subst, arith, length-append, append_assoc, length-set, take}
use Rattle.std.specs.List.{slice_get, AllByRecursion, IsDistinct, list_any}
use Rattle.std.proofs.lemmas.Bool.{cases_lt, cases_eq, eqb-true}
use Rattle.std.proofs.lemmas.List.{get_or_append_left, get_or_default, take_more, append-nil}
use Rattle.std.proofs.lemmas.Map.Steps.{length-le_from_distinct_below}
use Rattle.std.proofs.lemmas.Option.{slice_get_within, get_or_from_slice_get}
use Rattle.xd_doc.proofs.Lists.{all_push, all_more}
use Rattle.xd_rules.specs.Rules.{ChoiceTree, settles_content, settles_rest, split_on}
use Rattle.xd_rules.specs.Meaning.{AllLeaves}
use Rattle.xd_goals.specs.Rows.{GoalRow, TableView, IsRefuted, no_row, row_at}
use Rattle.xd_goals.specs.Trees.{StandsAt}
use Rattle.xd_goals.specs.Reached.{is_marked, HasLeaf, IsLeafAt, IsLeafOf, IsWaitingIn, LeadsTo, LeadsToMarked, HasTreeAt, HasTreeWithin, HaveTreesWithin, AreClosed, IsPassed, IsSettled, IsWalk, MarksThese, Reaches, IsWalked, marks_of}
use Rattle.xd_goals.specs.Kept.{with_mark}
use Rattle.xd_goals.specs.Facts.{IsSettledRow, LeadsToSettled, StaySettled}
use Rattle.xd_goals.specs.Standing.{IsOpen}
use Rattle.xd_doc.specs.Members.{IsOneOf}
use Rattle.xd_rules.proofs.Members.{get-one_of, one_of-all, one_of-any, one_of-append_cases, one_of-append_left, one_of-append_right, one_of-get, only_one}
use Rattle.xd_goals.specs.declared.table.Choice.{Choice}
use Rattle.xd_goals.specs.declared.table.ChoiceNode.{ChoiceNode}
use Rattle.xd_goals.specs.declared.table.ChoiceNode.TheVariants.{Split, Content, Rest}
use Rattle.xd_goals.specs.declared.table.GoalId.{GoalId}
use Rattle.xd_goals.specs.declared.table.Link.{Link}
use Rattle.xd_goals.specs.declared.table.Standing.TheVariants.{Holds}
use Rattle.xd_rules.proofs.Lists.{all_places, one_of-get as one_at}
use Rattle.xd_goals.proofs.GrowsByLemmas.{same_but_marks}
use Rattle.xd_goals.proofs.Trees.{AllLeaves-map, StandsAt-one}
use Rattle.xd_goals.proofs.HasTreeLemmas.{number_in, content_in, rest_in}

-- what an insertion of a number leaves
pub reached : (old new : List ℕ) (k : ℕ) → new ≡ if list_any (nat_eq k) old then old else old ++ k ∷ [] → Reaches (λ g. k ≡ g) old new
reached old new k e = go (list_any (nat_eq k) old) refl e
  where
    go : (b : Bool) → list_any (nat_eq k) old ≡ b → new ≡ if b then old else old ++ k ∷ [] → Reaches (λ g. k ≡ g) old new
    go true has is =
        let at = one_of-any (nat_eq k) old has in
        let same : at.0 ≡ k = sym (eqb-true k at.0 at.2) in
        record {
          more = [];
          grown = is ∙ sym (append-nil old);
          all = λ g q. rw is (subst (λ (n : ℕ). IsOneOf n old) (same ∙ q) at.1);
          only = λ g m. inl (rw is at m);
        }
    go false has is = record {
      more = k ∷ [];
      grown = is;
      all = λ g q. rw is (one_of-append_right g old (k ∷ []) (inl q));
      only = λ g m. ⊎_elim (λ x. inl x) (λ x. inr (sym (only_one g k x))) (one_of-append_cases g old (k ∷ []) (rw is at m));
    }

pub kept_in : (P : ℕ → Type 0) (old new : List ℕ) → Reaches P old new → (g : ℕ) → IsOneOf g old → IsOneOf g new
kept_in P old new h g m = rw h.grown (one_of-append_left g old h.more m)

pub reaches-same : (P Q : ℕ → Type 0) (old new : List ℕ) → ((g : ℕ) → P g → Q g) → ((g : ℕ) → Q g → P g) → Reaches P old new → Reaches Q old new
reaches-same P Q old new f b h = record { more = h.more; grown = h.grown; all = λ g q. h.all g (b g q); only = λ g m. ⊎_elim (λ x. inl x) (λ x. inr (f g x)) (h.only g m) }

pub reaches-then : (P Q : ℕ → Type 0) (old mid new : List ℕ) → Reaches P old mid → Reaches Q mid new → Reaches (λ g. P g ⊎ Q g) old new
reaches-then P Q old mid new h k = record {
  more = h.more ++ k.more;
  grown = k.grown ∙ ap (λ (xs : List ℕ). xs ++ k.more) h.grown ∙ append_assoc old h.more k.more;
  all = λ g pq. ⊎_elim (λ p. kept_in Q mid new k g (h.all g p)) (λ q. k.all g q) pq;
  only = λ g m. ⊎_elim (λ x. ⊎_elim (λ y. inl y) (λ p. inr (inl p)) (h.only g x)) (λ q. inr (inr q)) (k.only g m);
}

-- leaves by the node at which a tree stands
module _ (nodes : List ChoiceNode) (root : ℕ) where
  pub leaf_content : (g : GoalId) → slice_get nodes root ≡ Some (Content g) → (k : ℕ) → g.number ≡ k → IsLeafAt nodes root k
  leaf_content g e k same = record { tree = settles_content g.number; stands = e; leaf = same }

  pub of_content : (g : GoalId) → slice_get nodes root ≡ Some (Content g) → (k : ℕ) → IsLeafAt nodes root k → g.number ≡ k
  of_content g e k l = go l.tree l.stands l.leaf
    where
      go : (tree : ChoiceTree) → StandsAt nodes root tree → HasLeaf k tree → g.number ≡ k
      go (settles_content j) s m = let same : j ≡ g.number = ap number_in (sym s ∙ e) in sym same ∙ m
      go (settles_rest j) s m = absurd (cc)
      go (split_on j a b) s m = let x = s.2 in absurd (cc)

  pub leaf_rest : (g : GoalId) → slice_get nodes root ≡ Some (Rest g) → (k : ℕ) → g.number ≡ k → IsLeafAt nodes root k
  leaf_rest g e k same = record { tree = settles_rest g.number; stands = e; leaf = same }

  pub of_rest : (g : GoalId) → slice_get nodes root ≡ Some (Rest g) → (k : ℕ) → IsLeafAt nodes root k → g.number ≡ k
  of_rest g e k l = go l.tree l.stands l.leaf
    where
      go : (tree : ChoiceTree) → StandsAt nodes root tree → HasLeaf k tree → g.number ≡ k
      go (settles_content j) s m = absurd (cc)
      go (settles_rest j) s m = let same : j ≡ g.number = ap number_in (sym s ∙ e) in sym same ∙ m
      go (split_on j a b) s m = let x = s.2 in absurd (cc)

  module _ (right x y : ℕ) (e : slice_get nodes root ≡ Some (Split right x y)) where
    pub record HasParts : Type 0 where
      pub content : HasTreeAt nodes x
      pub rest : HasTreeAt nodes y
      pub content_older : x < root
      pub rest_older : y < root

    pub parts_of : HasTreeAt nodes root → HasParts
    parts_of h = go h.0 h.1
      where
        go : (tree : ChoiceTree) → StandsAt nodes root tree → HasParts
        go (settles_content k) s = absurd (cc)
        go (settles_rest k) s = absurd (cc)
        go (split_on j a b) s =
            let both : Some (Split j s.0 s.1) ≡ Some (Split right x y) = sym s.2 ∙ e in
            let xs : s.0 ≡ x = ap content_in both in
            let ys : s.1 ≡ y = ap rest_in both in
            record {
              content = (a, subst (λ (m : ℕ). StandsAt nodes m a) xs s.5);
              rest = (b, subst (λ (m : ℕ). StandsAt nodes m b) ys s.6);
              content_older = subst (λ (m : ℕ). m < root) xs s.3;
              rest_older = subst (λ (m : ℕ). m < root) ys s.4;
            }

    -- a leaf of a part is one of the whole, where a tree stands
    pub leaf_of_part : HasTreeAt nodes root → (k : ℕ) → IsLeafAt nodes x k ⊎ IsLeafAt nodes y k → IsLeafAt nodes root k
    leaf_of_part h k (inl l) = let p = parts_of h in record { tree = split_on right l.tree p.rest.0; stands = (x, y, e, p.content_older, p.rest_older, l.stands, p.rest.1); leaf = inl l.leaf }
    leaf_of_part h k (inr l) = let p = parts_of h in record { tree = split_on right p.content.0 l.tree; stands = (x, y, e, p.content_older, p.rest_older, p.content.1, l.stands); leaf = inr l.leaf }

    pub of_parts : (k : ℕ) → IsLeafAt nodes root k → IsLeafAt nodes x k ⊎ IsLeafAt nodes y k
    of_parts k l = go l.tree l.stands l.leaf
      where
        go : (tree : ChoiceTree) → StandsAt nodes root tree → HasLeaf k tree → IsLeafAt nodes x k ⊎ IsLeafAt nodes y k
        go (settles_content j) s m = absurd (cc)
        go (settles_rest j) s m = absurd (cc)
        go (split_on j a b) s m =
            let both : Some (Split j s.0 s.1) ≡ Some (Split right x y) = sym s.2 ∙ e in
            ⊎_elim
            (λ q. inl (record { tree = a; stands = subst (λ (n : ℕ). StandsAt nodes n a) (ap content_in both) s.5; leaf = q }))
            (λ q. inr (record { tree = b; stands = subst (λ (n : ℕ). StandsAt nodes n b) (ap rest_in both) s.6; leaf = q }))
            m

-- a leaf of a tree has what all leaves have, and all have what each has
pub leaf_has : (P : ℕ → Type 0) (tree : ChoiceTree) (g : ℕ) → AllLeaves P tree → HasLeaf g tree → P g
leaf_has P (settles_content k) g h e = subst P e h
leaf_has P (settles_rest k) g h e = subst P e h
leaf_has P (split_on j a b) g h e = ⊎_elim (λ l. leaf_has P a g h.0 l) (λ r. leaf_has P b g h.1 r) e

leaves_all : (P : ℕ → Type 0) (tree : ChoiceTree) → ((g : ℕ) → HasLeaf g tree → P g) → AllLeaves P tree
leaves_all P (settles_content k) f = f k refl
leaves_all P (settles_rest k) f = f k refl
leaves_all P (split_on j a b) f = (leaves_all P a (λ g l. f g (inl l)), leaves_all P b (λ g l. f g (inr l)))

-- what each leaf of a tree that stands at a node has
pub leaf_within : (nodes : List ChoiceNode) (n root : ℕ) → HasTreeWithin nodes n root → (g : ℕ) → IsLeafAt nodes root g → g < n
leaf_within nodes n root h g l =
    let one : h.tree ≡ l.tree = StandsAt-one nodes h.tree l.tree root h.stands l.stands in
    leaf_has (λ k. k < n) l.tree g (subst (AllLeaves (λ k. k < n)) one h.within) l.leaf

pub open_leaves : (nodes : List ChoiceNode) (P : ℕ → Type 0) (k : Choice) → ((g : ℕ) → IsLeafAt nodes k.root g → P g) → LeadsTo P nodes k
open_leaves nodes P k f tree stands = leaves_all P tree (λ g l. f g (record { tree = tree; stands = stands; leaf = l }))

pub trees_at : (nodes : List ChoiceNode) (n : ℕ) (ks : List Choice) → HaveTreesWithin nodes n ks → AllByRecursion (λ (k : Choice). HasTreeAt nodes k.root) ks
trees_at nodes n ks h = all_more (λ (k : Choice). HasTreeWithin nodes n k.root) (λ (k : Choice). HasTreeAt nodes k.root) ks (λ k x. (x.tree, x.stands)) h

-- the goals that choices name
module _ (nodes : List ChoiceNode) where
  pub reaches_none : (order : List ℕ) → Reaches (IsLeafOf nodes []) order order
  reaches_none order = record { more = []; grown = sym (append-nil order); all = λ g l. absurd l.1; only = λ g m. inl m }

  pub reaches_choice : (ks : List Choice) (i : ℕ) (k : Choice) (old mid new : List ℕ) → i < length ks → k ≡ get_or ks i k
      → Reaches (IsLeafOf nodes (take i ks)) old mid → Reaches (IsLeafAt nodes k.root) mid new → Reaches (IsLeafOf nodes (take (i + 1) ks)) old new
  reaches_choice ks i k old mid new lt e one two =
      subst (λ (xs : List Choice). Reaches (IsLeafOf nodes xs) old new) (sym (take_more ks i k lt))
      (subst (λ (x : Choice). Reaches (IsLeafOf nodes (take i ks ++ x ∷ [])) old new) e
      (reaches-same (λ g. IsLeafOf nodes (take i ks) g ⊎ IsLeafAt nodes k.root g) (IsLeafOf nodes (take i ks ++ k ∷ [])) old new
      (λ g l. ⊎_elim
      (λ a. (a.0, one_of-append_left a.0 (take i ks) (k ∷ []) a.1, a.2))
      (λ b. (k, one_of-append_right k (take i ks) (k ∷ []) (inl refl), b)) l)
      (λ g l. ⊎_elim
      (λ a. inl (l.0, a, l.2))
      (λ b. inr (subst (λ (x : Choice). IsLeafAt nodes x.root g) (only_one l.0 k b) l.2)) (one_of-append_cases l.0 (take i ks) (k ∷ []) l.1))
      (reaches-then (IsLeafOf nodes (take i ks)) (IsLeafAt nodes k.root) old mid new one two)))

  pub leads_to_reached : (ks : List Choice) (old new : List ℕ) → Reaches (IsLeafOf nodes ks) old new → AllByRecursion (LeadsTo (λ n. IsOneOf n new) nodes) ks
  leads_to_reached ks old new h =
      all_places (LeadsTo (λ n. IsOneOf n new) nodes) ks
      (λ i k at. open_leaves nodes (λ n. IsOneOf n new) k (λ g l. h.all g (k, one_of-get k ks i at, l)))

-- more goals are reached
leads-more : (nodes : List ChoiceNode) (m m2 : List ℕ) (ks : List Choice) → ((g : ℕ) → IsOneOf g m → IsOneOf g m2)
    → AllByRecursion (LeadsTo (λ n. IsOneOf n m) nodes) ks → AllByRecursion (LeadsTo (λ n. IsOneOf n m2) nodes) ks
leads-more nodes m m2 ks f h =
    all_more (LeadsTo (λ n. IsOneOf n m) nodes) (LeadsTo (λ n. IsOneOf n m2) nodes) ks (λ k x tree s. AllLeaves-map (λ g. IsOneOf g m) (λ g. IsOneOf g m2) f tree (x tree s)) h

passed-more : (t : TableView) (m m2 : List ℕ) (g : ℕ) → ((n : ℕ) → IsOneOf n m → IsOneOf n m2) → IsPassed t m g → IsPassed t m2 g
passed-more t m m2 g f (inl e) = inl e
passed-more t m m2 g f (inr h) = inr (h.0, leads-more t.nodes m m2 (row_at t.rows g).choices f h.1)

-- the walk begins at a goal, goes on, and ends
module _ (t : TableView) (start : ℕ) where
  -- the walk begins at the start alone
  pub walk_start : (old new : List ℕ) → old ≡ [] → Reaches (λ g. start ≡ g) old new → start < length t.rows → ¬ (IsRefuted t.rows start) → IsWalked t start [] new 0
  walk_start old new empty h lt opens = record {
    started = h.all start refl;
    within = omega arith;
    there = λ g m. subst (λ (k : ℕ). k < length t.rows) (this g m) lt;
    open_ = λ g m. subst (λ (k : ℕ). ¬ (IsRefuted t.rows k)) (this g m) opens;
    waits = tt;
    passed = λ z k l. absurd (omega arith);
  }
    where
      this : (g : ℕ) → IsOneOf g new → start ≡ g
      this g m = ⊎_elim (λ x. absurd (subst (λ (xs : List ℕ). IsOneOf g xs) empty x)) (λ q. q) (h.only g m)

  module _ (waiting : List GoalId) (order : List ℕ) (next : ℕ) (w : IsWalked t start waiting order next) (lt : next < length order) where
    among : IsOneOf (get_or order next 0) order
    among = one_at order next (get_or order next 0) lt (sym (get_or_default order next (get_or order next 0) 0 lt))

    pub walk_number : (get_or order next 0) < length t.rows
    walk_number = w.there (get_or order next 0) among

    -- no goal on the way is refuted
    pub walk_open : ¬ (IsRefuted t.rows (get_or order next 0))
    walk_open = w.open_ (get_or order next 0) among

    -- a settled goal is passed over
    pub walk_over : (row_at t.rows (get_or order next 0)).settled ≡ true → IsWalked t start waiting order (next + 1)
    walk_over settled = record {
      started = w.started;
      within = omega arith;
      there = w.there;
      open_ = w.open_;
      waits = w.waits;
      passed = λ z k l. ⊎_elim
          (λ a. w.passed z k a)
          (λ b. let q : k ≡ next = omega arith in subst (λ (g : ℕ). IsPassed t order g) (sym (ap (λ (i : ℕ). get_or order i 0) q)) (inl settled))
          (cases_lt k next);
    }

    -- one more goal waits
    pub walk_waits : (waiting2 : List GoalId) (goal : GoalId) → IsWaitingIn t.rows goal → waiting2 ≡ waiting ++ goal ∷ [] → IsWalked t start waiting2 order (next + 1)
    walk_waits waiting2 goal g f = record {
      started = w.started;
      within = omega arith;
      there = w.there;
      open_ = w.open_;
      waits = rw f (all_push (IsWaitingIn t.rows) waiting goal w.waits g);
      passed = λ z. absurd (filled z);
    }
      where
        filled : waiting2 ≡ [] → ⊥
        filled z = let c = ap length (sym f ∙ z) in omega (arith, length-append waiting (goal ∷ []))

    -- a goal that holds is passed, and what it leads to is reached
    pub walk_on : (order2 : List ℕ) → (row_at t.rows (get_or order next 0)).standing ≡ Holds → Reaches (IsLeafOf t.nodes (row_at t.rows (get_or order next 0)).choices) order order2 → HaveTreesWithin t.nodes (length t.rows) (row_at t.rows (get_or order next 0)).choices
        → AllByRecursion (IsOpen t) (row_at t.rows (get_or order next 0)).choices → IsWalked t start waiting order2 (next + 1)
    walk_on order2 holds h trees opens = record {
      started = kept start w.started;
      within = rw h.grown (omega (arith, length-append order h.more));
      there = λ g m. ⊎_elim (λ a. w.there g a) (λ l. leaf_there g l) (h.only g m);
      open_ = λ g m. ⊎_elim (λ a. w.open_ g a) (λ l. leaf_open g l) (h.only g m);
      waits = w.waits;
      passed = λ z k l. ⊎_elim
          (λ a. subst (λ (g : ℕ). IsPassed t order2 g) (sym (front k (omega arith))) (passed-more t order order2 (get_or order k 0) kept (w.passed z k a)))
          (λ b. let q : k ≡ next = omega arith in
          subst (λ (g : ℕ). IsPassed t order2 g) (sym (front next lt) ∙ sym (ap (λ (i : ℕ). get_or order2 i 0) q)) (inr (holds, leads_to_reached t.nodes (row_at t.rows (get_or order next 0)).choices order order2 h)))
          (cases_lt k next);
    }
      where
        kept : (g : ℕ) → IsOneOf g order → IsOneOf g order2
        kept = kept_in (IsLeafOf t.nodes (row_at t.rows (get_or order next 0)).choices) order order2 h

        front : (k : ℕ) → k < length order → get_or order2 k 0 ≡ get_or order k 0
        front k l = rw h.grown (get_or_append_left order h.more 0 k l)

        leaf_there : (g : ℕ) → IsLeafOf t.nodes (row_at t.rows (get_or order next 0)).choices g → g < length t.rows
        leaf_there g l = leaf_within t.nodes (length t.rows) l.0.root (one_of-all (λ (k : Choice). HasTreeWithin t.nodes (length t.rows) k.root) l.0 (row_at t.rows (get_or order next 0)).choices trees l.1) g l.2

        leaf_open : (g : ℕ) → IsLeafOf t.nodes (row_at t.rows (get_or order next 0)).choices g → ¬ (IsRefuted t.rows g)
        leaf_open g l =
            let o = one_of-all (IsOpen t) l.0 (row_at t.rows (get_or order next 0)).choices opens l.1 in
            leaf_has (λ x. ¬ (IsRefuted t.rows x)) l.2.tree g (o l.2.tree l.2.stands) l.2.leaf

  -- it ends when all that was reached was passed
  pub walk_found : (waiting : List GoalId) (order : List ℕ) (next : ℕ) → IsWalked t start waiting order next → length order ≤ next → IsWalk t start order waiting
  walk_found waiting order next w le = record {
    there = all_places (λ (n : ℕ). n < length t.rows) order (λ place n at. w.there n (one_of-get n order place at));
    waits = w.waits;
    closed = λ z. record {
      started = w.started;
      passed = λ g m.
          let at = get-one_of g order m in
          subst (λ (n : ℕ). IsPassed t order n) (get_or_from_slice_get order at.0 g 0 at.1) (w.passed z at.0 (let l = slice_get_within order at.0 g at.1 in omega (arith)));
    };
  }

  -- no more goals are reached than there are
  pub walk_short : (waiting : List GoalId) (order : List ℕ) (next : ℕ) → IsWalked t start waiting order next → IsDistinct nat_eq order → length order ≤ length t.rows
  walk_short waiting order next w distinct =
      length-le_from_distinct_below order (length t.rows) distinct
      (λ q e. let at = one_of-any (nat_eq q) order e in subst (λ (k : ℕ). k < length t.rows) (sym (eqb-true q at.0 at.2)) (w.there at.0 at.1))

-- one more mark that isn't set
pub unmarked_push : (ms : List Bool) → ((g : ℕ) → is_marked ms g ≡ false) → (g : ℕ) → is_marked (ms ++ false ∷ []) g ≡ false
unmarked_push [] h zero = refl
unmarked_push [] h (suc g) = refl
unmarked_push (m ∷ ms) h zero = h zero
unmarked_push (m ∷ ms) h (suc g) = unmarked_push ms (λ k. h (suc k)) g

-- ---- goals that are marked as settled

mark_is : (rows : List GoalRow) (g : ℕ) → is_marked (marks_of rows) g ≡ (row_at rows g).settled
mark_is [] g = refl
mark_is (r ∷ rows) zero = refl
mark_is (r ∷ rows) (suc g) = mark_is rows g

-- a goal that is marked as settled is so
pub settled_is : (t : TableView) (goal : ℕ) → StaySettled t → (row_at t.rows goal).settled ≡ true → IsSettled t goal
settled_is t goal h e = record {
  marks = marks_of t.rows;
  start = mark_is t.rows goal ∙ e;
  holds = λ g m. (h g (sym (mark_is t.rows g) ∙ m)).holds;
  leads = λ g m. all_more (LeadsToSettled t) (LeadsToMarked t.nodes (marks_of t.rows)) (row_at t.rows g).choices
      (λ k x tree s. AllLeaves-map (λ n. (row_at t.rows n).settled ≡ true) (λ n. is_marked (marks_of t.rows) n ≡ true) (λ n y. mark_is t.rows n ∙ y) tree (x tree s))
      (h g (sym (mark_is t.rows g) ∙ m)).leads;
}

pub marks_none : (rows : List GoalRow) → MarksThese [] rows rows
marks_none rows = record { rows = same_but_marks rows; marked = λ g m. absurd m; kept = λ g e. e; only = λ g e. inl e }

-- one more goal is marked
pub marks_more : (order : List ℕ) (i n : ℕ) (old mid new : List GoalRow) → i < length order → n ≡ get_or order i n → n < length old → MarksThese (take i order) old mid → new ≡ set mid n (with_mark true (row_at mid n)) → MarksThese (take (i + 1) order) old new
marks_more order i n old mid new lt e there h is =
    subst (λ (xs : List ℕ). MarksThese xs old new) (sym (take_more order i n lt)) (subst (λ (k : ℕ). MarksThese (take i order ++ k ∷ []) old new) e (subst (λ (rs : List GoalRow). MarksThese (take i order ++ n ∷ []) old rs) (sym is) more))
  where
    there_now : n < length mid
    there_now = let c = h.rows.count in omega arith

    changed : List GoalRow
    changed = set mid n (with_mark true (row_at mid n))

    here_is : row_at changed n ≡ with_mark true (row_at mid n)
    here_is = get_or-set_same mid n (with_mark true (row_at mid n)) no_row there_now

    other_is : (g : ℕ) → ¬ (g ≡ n) → row_at changed g ≡ row_at mid g
    other_is g ne = get_or-set_other mid n g (with_mark true (row_at mid n)) no_row ne

    marked_here : (row_at changed n).settled ≡ true
    marked_here = ap (λ (r : GoalRow). r.settled) here_is

    still : (g : ℕ) → (row_at mid g).settled ≡ true → (row_at changed g).settled ≡ true
    still g m = ⊎_elim
        (λ q. subst (λ (k : ℕ). (row_at changed k).settled ≡ true) (sym q) marked_here)
        (λ ne. ap (λ (r : GoalRow). r.settled) (other_is g ne) ∙ m)
        (cases_eq g n)

    more : MarksThese (take i order ++ n ∷ []) old changed
    more = record {
      rows = record {
        count = length-set mid n (with_mark true (row_at mid n)) ∙ h.rows.count;
        same = λ g. ⊎_elim
            (λ q. subst (λ (k : ℕ). row_at changed k ≡ with_mark (row_at changed k).settled (row_at old k)) (sym q)
            (here_is ∙ ap (with_mark true) (h.rows.same n) ∙ sym (ap (λ (b : Bool). with_mark b (row_at old n)) marked_here)))
            (λ ne. other_is g ne ∙ h.rows.same g ∙ ap (λ (r : GoalRow). with_mark r.settled (row_at old g)) (sym (other_is g ne)))
            (cases_eq g n);
      };
      marked = λ g m. ⊎_elim (λ a. still g (h.marked g a)) (λ b. ⊎_elim (λ q. subst (λ (k : ℕ). (row_at changed k).settled ≡ true) q marked_here) (λ no. absurd no) b) (one_of-append_cases g (take i order) (n ∷ []) m);
      kept = λ g m. still g (h.kept g m);
      only = λ g m. ⊎_elim
          (λ q. inr (one_of-append_right g (take i order) (n ∷ []) (inl (sym q))))
          (λ ne. ⊎_elim (λ a. inl a) (λ b. inr (one_of-append_left g (take i order) (n ∷ []) b)) (h.only g (sym (ap (λ (r : GoalRow). r.settled) (other_is g ne)) ∙ m)))
          (cases_eq g n);
    }

-- the goals that a walk reached are settled
module _ (nodes : List ChoiceNode) (links : List Link) (old new : List GoalRow) (start : ℕ) (order : List ℕ) (closed : AreClosed (record { rows = old; nodes = nodes; links = links }) start order) (marks : MarksThese order old new)
    (was : StaySettled (record { rows = old; nodes = nodes; links = links })) where
  abbrev after : TableView
  after = record { rows = new; nodes = nodes; links = links }

  leads_still : (g : ℕ) → IsSettledRow (record { rows = old; nodes = nodes; links = links }) (row_at old g) → IsSettledRow after (row_at new g)
  leads_still g h = rw (marks.rows.same g) (record {
    holds = h.holds;
    leads = all_more (LeadsToSettled (record { rows = old; nodes = nodes; links = links })) (LeadsToSettled after) (row_at old g).choices
        (λ k x tree s. AllLeaves-map (λ n. (row_at old n).settled ≡ true) (λ n. (row_at new n).settled ≡ true) marks.kept tree (x tree s)) h.leads;
  })

  passed_now : (g : ℕ) → IsPassed (record { rows = old; nodes = nodes; links = links }) order g → IsSettledRow after (row_at new g)
  passed_now g (inl e) = leads_still g (was g e)
  passed_now g (inr h) = rw (marks.rows.same g) (record {
    holds = h.0;
    leads = all_more (LeadsTo (λ n. IsOneOf n order) nodes) (LeadsToSettled after) (row_at old g).choices
        (λ k x tree s. AllLeaves-map (λ n. IsOneOf n order) (λ n. (row_at new n).settled ≡ true) (λ n y. marks.marked n y) tree (x tree s)) h.1;
  })

  pub closed_stay : StaySettled (record { rows = new; nodes = nodes; links = links })
  closed_stay g e = ⊎_elim (λ a. leads_still g (was g a)) (λ b. passed_now g (closed.passed g b)) (marks.only g e)

  pub start_settled : IsSettled (record { rows = new; nodes = nodes; links = links }) start
  start_settled = settled_is after start closed_stay (marks.marked start closed.started)
