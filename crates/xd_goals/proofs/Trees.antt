-- Choice trees while a table grows.
use Rattle.std.proofs.Common.{ℕ, suc, ◌<◌, ◌≤◌, ◌≡◌, ◌⊎◌, Bool, true, false, cond, nat_eq, nat_lt, List, [], ◌∷◌, length, Option, Some, inl, inr, ⊎_elim, refl, sym, ap, ◌∙◌, subst, arith}
use Rattle.std.specs.List.{slice_get, AllByRecursion}
use Rattle.std.proofs.lemmas.Bool.{cases_lt, cases_eq}
use Rattle.std.proofs.lemmas.Option.{slice_get_within}
use Rattle.xd_doc.specs.declared.store.Seq.{Seq}
use Rattle.xd_auto.specs.declared.auto.State.{State}
use Rattle.xd_doc.specs.Members.{IsOneOf}
use Rattle.xd_rules.specs.Rules.{ChoiceTree, settles_content, settles_rest, split_on}
use Rattle.xd_rules.specs.Meaning.{AllLeaves}
use Rattle.xd_state_heads.specs.Moves.{AreBelow, IsInOrder, RiseFrom, claim_with, with_state}
use Rattle.xd_goals.specs.Rows.{GoalRow, TableView, row_at, claim_at, IsListed, IsRefuted}
use Rattle.xd_goals.specs.Kept.{Grows, GrowsBy}
use Rattle.xd_goals.specs.Trees.{StandsAt, IsGrown, IsTextTree, HasTree, HasOpenTree, IsFree, IsLeafFor, IsPathBelow, IsSplitAt, gathered}
use Rattle.xd_goals.specs.Facts.{LeadsToSettled}
use Rattle.xd_goals.specs.declared.table.Choice.{Choice}
use Rattle.xd_goals.specs.declared.table.ChoiceNode.{ChoiceNode}
use Rattle.xd_goals.specs.declared.table.ChoiceNode.TheVariants.{Split, Content, Rest}
use Rattle.xd_goals.specs.declared.table.Standing.{Standing}
use Rattle.xd_goals.specs.declared.table.Standing.TheVariants.{Holds, Refuted, Waiting}
use Rattle.xd_goals.specs.declared.table.GoalCase.{GoalCase}
use Rattle.xd_goals.specs.declared.table.GoalId.{GoalId}
use Rattle.xd_state_heads.specs.declared.heads.Side.{Side}
use Rattle.xd_goals.specs.declared.grow.Task.{Task}
use Rattle.std.proofs.lemmas.Bool.Decides.{Decides-eqb, Decides-ltb}
use Rattle.xd_rules.proofs.Lists.{all_at}
use Rattle.xd_goals.proofs.GrowsByLemmas.{claim_at-grows, past_is_new}

pub AllLeaves-map : (P Q : ℕ → Type 0) → ((g : ℕ) → P g → Q g) → (tree : ChoiceTree) → AllLeaves P tree → AllLeaves Q tree
AllLeaves-map P Q f (settles_content g) h = f g h
AllLeaves-map P Q f (settles_rest g) h = f g h
AllLeaves-map P Q f (split_on j a b) h = (AllLeaves-map P Q f a h.0, AllLeaves-map P Q f b h.1)

pub StandsAt-more : (nodes nodes2 : List ChoiceNode) → ((n : ℕ) (x : ChoiceNode) → slice_get nodes n ≡ Some x → slice_get nodes2 n ≡ Some x)
    → (tree : ChoiceTree) (n : ℕ) → StandsAt nodes n tree → StandsAt nodes2 n tree
StandsAt-more nodes nodes2 f (settles_content g) n h = f n (Content (record { number = g })) h
StandsAt-more nodes nodes2 f (settles_rest g) n h = f n (Rest (record { number = g })) h
StandsAt-more nodes nodes2 f (split_on j a b) n h =
    (h.0, h.1, f n (Split j h.0 h.1) h.2, h.3, h.4, StandsAt-more nodes nodes2 f a h.0 h.5, StandsAt-more nodes nodes2 f b h.1 h.6)

content_one : (o : Option ChoiceNode) (g k : ℕ) → o ≡ Some (Content (record { number = g })) → o ≡ Some (Content (record { number = k })) → g ≡ k
content_one o g k e f =
    ap number_in (sym e ∙ f)
  where
    number_in : Option ChoiceNode → ℕ
    number_in (Some (Content x)) = x.number
    number_in _ = 0

rest_one : (o : Option ChoiceNode) (g k : ℕ) → o ≡ Some (Rest (record { number = g })) → o ≡ Some (Rest (record { number = k })) → g ≡ k
rest_one o g k e f = ap number_in (sym e ∙ f)
  where
    number_in : Option ChoiceNode → ℕ
    number_in (Some (Rest x)) = x.number
    number_in _ = 0

-- one tree stands at a node at most
pub StandsAt-one : (nodes : List ChoiceNode) (s t : ChoiceTree) (n : ℕ) → StandsAt nodes n s → StandsAt nodes n t → s ≡ t
StandsAt-one nodes (settles_content g) (settles_content k) n h i = ap settles_content (content_one (slice_get nodes n) g k h i)
StandsAt-one nodes (settles_content g) (settles_rest k) n h i = absurd (cc)
StandsAt-one nodes (settles_content g) (split_on k a b) n h i = let e = i.2 in absurd (cc)
StandsAt-one nodes (settles_rest g) (settles_content k) n h i = absurd (cc)
StandsAt-one nodes (settles_rest g) (settles_rest k) n h i = ap settles_rest (rest_one (slice_get nodes n) g k h i)
StandsAt-one nodes (settles_rest g) (split_on k a b) n h i = let e = i.2 in absurd (cc)
StandsAt-one nodes (split_on j c d) (settles_content k) n h i = let e = h.2 in absurd (cc)
StandsAt-one nodes (split_on j c d) (settles_rest k) n h i = let e = h.2 in absurd (cc)
StandsAt-one nodes (split_on j c d) (split_on k a b) n h i =
    let p = h.2 in let q = i.2 in
    let jk : j ≡ k = cc in
    let xs : h.0 ≡ i.0 = cc in
    let ys : h.1 ≡ i.1 = cc in
    let ca = StandsAt-one nodes c a i.0 (subst (λ (m : ℕ). StandsAt nodes m c) xs h.5) i.5 in
    let db = StandsAt-one nodes d b i.1 (subst (λ (m : ℕ). StandsAt nodes m d) ys h.6) i.6 in
    ap (λ (x : ℕ). split_on x c d) jk ∙ ap (λ (x : ChoiceTree). split_on k x d) ca ∙ ap (λ (x : ChoiceTree). split_on k a x) db

pub standing-grows : {A : List State → Type 0} (s t : TableView) → GrowsBy A s t → (g : ℕ) → ((row_at t.rows g).standing ≡ (row_at s.rows g).standing)
standing-grows s t h g = ⊎_elim
    (λ lt. (h.kept g lt).standing)
    (λ ge. (h.added g ge).standing ∙ sym (past_is_new s.rows g ge).standing)
    (cases_lt g (length s.rows))

pub choices-grows : {A : List State → Type 0} (s t : TableView) → GrowsBy A s t → (g : ℕ) → ((row_at t.rows g).choices ≡ (row_at s.rows g).choices)
choices-grows s t h g = ⊎_elim
    (λ lt. (h.kept g lt).choices)
    (λ ge. (h.added g ge).choices ∙ sym (past_is_new s.rows g ge).choices)
    (cases_lt g (length s.rows))

pub broken-grows : {A : List State → Type 0} (s t : TableView) → GrowsBy A s t → (g : ℕ) → ((row_at t.rows g).broken ≡ (row_at s.rows g).broken)
broken-grows s t h g = ⊎_elim
    (λ lt. (h.kept g lt).broken)
    (λ ge. (h.added g ge).broken ∙ sym (past_is_new s.rows g ge).broken)
    (cases_lt g (length s.rows))

pub settled-grows : {A : List State → Type 0} (s t : TableView) → GrowsBy A s t → (g : ℕ) → ((row_at t.rows g).settled ≡ (row_at s.rows g).settled)
settled-grows s t h g = ⊎_elim
    (λ lt. (h.kept g lt).settled)
    (λ ge. (h.added g ge).settled ∙ sym (past_is_new s.rows g ge).settled)
    (cases_lt g (length s.rows))

-- a choice that leads to settled goals alone does so still, where nodes and marks stay
pub settled_leads : (s t : TableView) → ((n : ℕ) (x : ChoiceNode) → slice_get s.nodes n ≡ Some x → slice_get t.nodes n ≡ Some x) → ((g : ℕ) → (row_at s.rows g).settled ≡ true → (row_at t.rows g).settled ≡ true)
    → (k : Choice) (w : ChoiceTree) → StandsAt s.nodes k.root w → LeadsToSettled s k → LeadsToSettled t k
settled_leads s t more keep k w stands h tree is =
    let same : w ≡ tree = StandsAt-one t.nodes w tree k.root (StandsAt-more s.nodes t.nodes more w k.root stands) is in
    subst (λ (x : ChoiceTree). AllLeaves (λ g. (row_at t.rows g).settled ≡ true) x) same
    (AllLeaves-map (λ g. (row_at s.rows g).settled ≡ true) (λ g. (row_at t.rows g).settled ≡ true) keep w (h w stands))

pub open-grows : {A : List State → Type 0} (s t : TableView) → GrowsBy A s t → (g : ℕ) → ¬ (IsRefuted s.rows g) → ¬ (IsRefuted t.rows g)
open-grows s t h g n r = n (r.0, sym (standing-grows s t h g) ∙ r.1)

pub IsGrown-grows : {A : List State → Type 0} (s t : TableView) → GrowsBy A s t → (task : Task) (sides : List Side) (tree : ChoiceTree) (contents rests : List State)
    → IsGrown s.rows task sides tree contents rests → IsGrown t.rows task sides tree contents rests
IsGrown-grows s t h task sides (settles_content g) contents rests k = claim_at-grows s t h g (claim_with task.content contents) k
IsGrown-grows s t h task sides (settles_rest g) contents rests k = claim_at-grows s t h g (claim_with task.rest rests) k
IsGrown-grows s t h task sides (split_on j a b) contents rests k = (
  k.0,
  k.1,
  k.2,
  IsGrown-grows s t h task sides a (with_state k.0.content contents) rests k.3,
  IsGrown-grows s t h task sides b contents (with_state k.0.rest rests) k.4,
)

pub IsTextTree-grows : {A : List State → Type 0} (s t : TableView) → GrowsBy A s t → (task : Task) (sides : List Side) (tree : ChoiceTree) → IsTextTree s.rows task sides tree → IsTextTree t.rows task sides tree
IsTextTree-grows s t h task sides (settles_content g) k = k
IsTextTree-grows s t h task sides (settles_rest g) k = claim_at-grows s t h g (claim_with task.rest (gathered [] sides)) k
IsTextTree-grows s t h task sides (split_on j a b) k = k

abbrev pub HasTree-grows : {A : List State → Type 0} (s t : TableView) → GrowsBy A s t → (Kind Kind2 : ChoiceTree → Type 0) → ((tree : ChoiceTree) → Kind tree → Kind2 tree) → (owner : GoalCase) (root : ℕ) → HasTree s Kind owner root → HasTree t Kind2 owner root
HasTree-grows s t h Kind Kind2 f owner root k = record {
  tree = k.tree;
  stands = StandsAt-more s.nodes t.nodes h.nodes k.tree root k.stands;
  kind = f k.tree k.kind;
  listed = AllLeaves-map (λ g. IsListed s g owner) (λ g. IsListed t g owner) (λ g l. h.listed g owner l) k.tree k.listed;
}

pub HasOpenTree-grows : {A : List State → Type 0} (s t : TableView) → GrowsBy A s t → (Kind Kind2 : ChoiceTree → Type 0) → ((tree : ChoiceTree) → Kind tree → Kind2 tree) → (owner : GoalCase) (root : ℕ) → HasOpenTree s Kind owner root → HasOpenTree t Kind2 owner root
HasOpenTree-grows s t h Kind Kind2 f owner root k = record {
  has = HasTree-grows s t h Kind Kind2 f owner root k.has;
  open_ = AllLeaves-map (λ g. ¬ (IsRefuted s.rows g)) (λ g. ¬ (IsRefuted t.rows g)) (λ g n. open-grows s t h g n) k.has.tree k.open_;
}

-- goals with the same standing
pub not_refuted : (rows : List GoalRow) (g : ℕ) → ((row_at rows g).standing ≡ Holds) ⊎ ((row_at rows g).standing ≡ Waiting) → ¬ (IsRefuted rows g)
not_refuted rows g (inl e) r = let s = r.1 in cc
not_refuted rows g (inr e) r = let s = r.1 in cc

module _ (task : Task) (sides : List Side) (contents rests : List State) where
  abbrev pub Kind : TableView → ChoiceTree → Type 0
  Kind t tree = IsGrown t.rows task sides tree contents rests

  pub content_leaf : (t u : TableView) (g : GoalId) (n : ℕ) → IsLeafFor t task.owner (claim_with task.content contents) g.number → ¬ (IsRefuted t.rows g.number)
      → Grows t u → slice_get u.nodes n ≡ Some (Content g) → HasOpenTree u (Kind u) task.owner n
  content_leaf t u g n l o h e = record {
    has = record { tree = settles_content g.number; stands = e; kind = claim_at-grows t u h g.number (claim_with task.content contents) l.claim; listed = h.listed g.number task.owner l.listed };
    open_ = open-grows t u h g.number o;
  }

  pub rest_leaf : (t u : TableView) (g : GoalId) (n : ℕ) → IsLeafFor t task.owner (claim_with task.rest rests) g.number → ¬ (IsRefuted t.rows g.number)
      → Grows t u → slice_get u.nodes n ≡ Some (Rest g) → HasOpenTree u (Kind u) task.owner n
  rest_leaf t u g n l o h e = record {
    has = record { tree = settles_rest g.number; stands = e; kind = claim_at-grows t u h g.number (claim_with task.rest rests) l.claim; listed = h.listed g.number task.owner l.listed };
    open_ = open-grows t u h g.number o;
  }

  -- a split between two trees
  pub split_tree : (t u w : TableView) (side : Side) (cs rs : List State) (x y n : ℕ) → IsFree sides contents rests side → cs ≡ with_state side.content contents → rs ≡ with_state side.rest rests
      → HasOpenTree t (λ tree. IsGrown t.rows task sides tree cs rests) task.owner x → Grows t u
      → HasOpenTree u (λ tree. IsGrown u.rows task sides tree contents rs) task.owner y → Grows u w
      → IsSplitAt w.nodes side.number x y n → HasOpenTree w (Kind w) task.owner n
  split_tree t u w side cs rs x y n free ce re a h b k split =
      let a1 = HasOpenTree-grows t u h (λ tree. IsGrown t.rows task sides tree cs rests) (λ tree. IsGrown u.rows task sides tree cs rests)
      (λ tree g. IsGrown-grows t u h task sides tree cs rests g) task.owner x a in
      let a2 = HasOpenTree-grows u w k (λ tree. IsGrown u.rows task sides tree cs rests) (λ tree. IsGrown w.rows task sides tree cs rests)
      (λ tree g. IsGrown-grows u w k task sides tree cs rests g) task.owner x a1 in
      let b2 = HasOpenTree-grows u w k (λ tree. IsGrown u.rows task sides tree contents rs) (λ tree. IsGrown w.rows task sides tree contents rs)
      (λ tree g. IsGrown-grows u w k task sides tree contents rs g) task.owner y b in
      record {
        has = record {
          tree = split_on side.number a2.has.tree b2.has.tree;
          stands = (x, y, split.found, split.content_older, split.rest_older, a2.has.stands, b2.has.stands);
          kind = (
            side,
            refl,
            free,
            subst (λ (ss : List State). IsGrown w.rows task sides a2.has.tree ss rests) ce a2.has.kind,
            subst (λ (ss : List State). IsGrown w.rows task sides b2.has.tree contents ss) re b2.has.kind,
          );
          listed = (a2.has.listed, b2.has.listed);
        };
        open_ = (a2.open_, b2.open_);
      }

-- a list of states with one more has it, and those that it had
pub with_state-same : (s t : State) → nat_eq t.number s.number ≡ true → t ≡ s
with_state-same s t e = ap (λ (n : ℕ). record { number = n }) ((Decides-eqb t.number s.number).0 e)

pub with_state-has : (s : State) (ts : List State) → IsOneOf s (with_state s ts)
with_state-has s [] = inl refl
with_state-has s (t ∷ ts) = go (nat_lt t.number s.number) (nat_eq t.number s.number) refl (with_state-has s ts)
  where
    go : (b e : Bool) → nat_eq t.number s.number ≡ e → IsOneOf s (with_state s ts) → IsOneOf s (cond b (t ∷ with_state s ts) (cond e (t ∷ ts) (s ∷ t ∷ ts)))
    go true e q h = inr h
    go false true q h = inl (with_state-same s t q)
    go false false q h = inl refl

pub with_state-keeps : (s k : State) (ts : List State) → IsOneOf k ts → IsOneOf k (with_state s ts)
with_state-keeps s k [] h = absurd h
with_state-keeps s k (t ∷ ts) h = go (nat_lt t.number s.number) (nat_eq t.number s.number) h (λ m. with_state-keeps s k ts m)
  where
    go : (b e : Bool) → IsOneOf k (t ∷ ts) → (IsOneOf k ts → IsOneOf k (with_state s ts)) → IsOneOf k (cond b (t ∷ with_state s ts) (cond e (t ∷ ts) (s ∷ t ∷ ts)))
    go true e (inl q) f = inl q
    go true e (inr m) f = inr (f m)
    go false true h f = h
    go false false h f = inr h

pub with_state-from : (s k : State) (ts : List State) → IsOneOf k (with_state s ts) → (s ≡ k) ⊎ IsOneOf k ts
with_state-from s k [] h = elim h [ inl e ↦ inl e | inr m ↦ inr m ]
with_state-from s k (t ∷ ts) h = go (nat_lt t.number s.number) (nat_eq t.number s.number) h (λ m. with_state-from s k ts m)
  where
    go : (b e : Bool) → IsOneOf k (cond b (t ∷ with_state s ts) (cond e (t ∷ ts) (s ∷ t ∷ ts))) → (IsOneOf k (with_state s ts) → (s ≡ k) ⊎ IsOneOf k ts) → (s ≡ k) ⊎ IsOneOf k (t ∷ ts)
    go true e (inl q) f = inr (inl q)
    go true e (inr m) f = elim (f m) [ inl q ↦ inl q | inr r ↦ inr (inr r) ]
    go false true h f = inr h
    go false false (inl q) f = inl q
    go false false (inr m) f = inr m

pub with_state-below : (n : ℕ) (s : State) (ts : List State) → s.number < n → AreBelow n ts → AreBelow n (with_state s ts)
with_state-below n s [] lt h = (lt, tt)
with_state-below n s (t ∷ ts) lt h = go (nat_lt t.number s.number) (nat_eq t.number s.number) (with_state-below n s ts lt h.1)
  where
    go : (b e : Bool) → AreBelow n (with_state s ts) → AreBelow n (cond b (t ∷ with_state s ts) (cond e (t ∷ ts) (s ∷ t ∷ ts)))
    go true e k = (h.0, k)
    go false true k = h
    go false false k = (lt, h)

-- the states stay in order
pub with_state-rises : (n : ℕ) (s : State) (ts : List State) → n ≤ s.number → RiseFrom n ts → RiseFrom n (with_state s ts)
with_state-rises n s [] le h = (le, tt)
with_state-rises n s (t ∷ ts) le h = go (nat_lt t.number s.number) (nat_eq t.number s.number) refl refl (λ l. with_state-rises (suc t.number) s ts l h.1)
  where
    go : (b e : Bool) → nat_lt t.number s.number ≡ b → nat_eq t.number s.number ≡ e → (suc t.number ≤ s.number → RiseFrom (suc t.number) (with_state s ts)) → RiseFrom n (cond b (t ∷ with_state s ts) (cond e (t ∷ ts) (s ∷ t ∷ ts)))
    go true e q p rec = (h.0, rec (let lt = (Decides-ltb t.number s.number).0 q in omega arith))
    go false true q p rec = h
    go false false q p rec = (
      le,
      (
        ⊎_elim
            (λ lt. absurd (let one = (Decides-ltb t.number s.number).1 lt in cc))
            (λ ge. ⊎_elim (λ same. absurd (let two = (Decides-eqb t.number s.number).1 same in cc)) (λ ne. omega arith) (cases_eq t.number s.number))
            (cases_lt t.number s.number),
        h.1,
      ),
    )

pub with_state-order : (s : State) (ts : List State) → IsInOrder ts → IsInOrder (with_state s ts)
with_state-order s ts h = with_state-rises 0 s ts (omega arith) h

-- the path with one more head on a side
module _ (sides : List Side) (contents rests : List State) (side : Side) (place : ℕ) (at_place : slice_get sides place ≡ Some side) where
  -- the states on the way after a split
  module _ (n : ℕ) (task : Task) (h : IsPathBelow n task sides contents rests) where
    pub content_path : (cs : List State) → cs ≡ with_state side.content contents → IsPathBelow n task sides cs rests
    content_path cs e = rw e (record {
      content_below = h.content_below;
      rest_below = h.rest_below;
      apart = h.apart;
      sides_below = h.sides_below;
      contents_below = with_state-below n side.content contents (all_at (λ (s : Side). (s.content.number < n) × (s.rest.number < n)) sides place side h.sides_below at_place).0 h.contents_below;
      rests_below = h.rests_below;
      contents_order = with_state-order side.content contents h.contents_order;
      rests_order = h.rests_order;
    })

    pub rest_path : (rs : List State) → rs ≡ with_state side.rest rests → IsPathBelow n task sides contents rs
    rest_path rs e = rw e (record {
      content_below = h.content_below;
      rest_below = h.rest_below;
      apart = h.apart;
      sides_below = h.sides_below;
      contents_below = h.contents_below;
      rests_below = with_state-below n side.rest rests (all_at (λ (s : Side). (s.content.number < n) × (s.rest.number < n)) sides place side h.sides_below at_place).1 h.rests_below;
      contents_order = h.contents_order;
      rests_order = with_state-order side.rest rests h.rests_order;
    })

-- a goal whose standing was read, and isn't a refutation
pub read_open : (rows : List GoalRow) (g : ℕ) (s : Standing) → s ≡ (row_at rows g).standing → ((seq : Seq) → s ≡ Refuted seq → ⊥) → ¬ (IsRefuted rows g)
read_open rows g s e n r = n r.0 (e ∙ r.1)

-- the node of a tree is there
pub StandsAt-within : (nodes : List ChoiceNode) (tree : ChoiceTree) (n : ℕ) → StandsAt nodes n tree → n < length nodes
StandsAt-within nodes (settles_content g) n h = slice_get_within nodes n (Content (record { number = g })) h
StandsAt-within nodes (settles_rest g) n h = slice_get_within nodes n (Rest (record { number = g })) h
StandsAt-within nodes (split_on j a b) n h = slice_get_within nodes n (Split j h.0 h.1) h.2

pub HasOpenTree-within : (t : TableView) (Kind : ChoiceTree → Type 0) (owner : GoalCase) (root : ℕ) → HasOpenTree t Kind owner root → root < length t.nodes
HasOpenTree-within t Kind owner root h = StandsAt-within t.nodes h.has.tree root h.has.stands

pub open_within-grows : (t u : TableView) → Grows t u → (Kind : ChoiceTree → Type 0) (owner : GoalCase) (root : ℕ) → HasOpenTree t Kind owner root → root < length u.nodes
open_within-grows t u h Kind owner root k = StandsAt-within u.nodes k.has.tree root (StandsAt-more t.nodes u.nodes h.nodes k.has.tree root k.has.stands)

pub gathered-below : (n : ℕ) (states : List State) (sides : List Side) → AreBelow n states → AllByRecursion (λ (s : Side). (s.content.number < n) × (s.rest.number < n)) sides → AreBelow n (gathered states sides)
gathered-below n states [] h k = h
gathered-below n states (s ∷ ss) h k = gathered-below n (with_state s.rest states) ss (with_state-below n s.rest states k.0.1 h) k.1

pub gathered-order : (states : List State) (sides : List Side) → IsInOrder states → IsInOrder (gathered states sides)
gathered-order states [] h = h
gathered-order states (s ∷ ss) h = gathered-order (with_state s.rest states) ss (with_state-order s.rest states h)

-- the leaf of a text
pub text_leaf : (task : Task) (sides : List Side) (t u : TableView) (g : GoalId) (n : ℕ) (rests : List State) → rests ≡ gathered [] sides
    → IsLeafFor t task.owner (claim_with task.rest rests) g.number → ¬ (IsRefuted t.rows g.number)
    → Grows t u → slice_get u.nodes n ≡ Some (Rest g) → HasOpenTree u (IsTextTree u.rows task sides) task.owner n
text_leaf task sides t u g n rests same l o h e = record {
  has = record {
    tree = settles_rest g.number;
    stands = e;
    kind = subst (λ (rs : List State). claim_at u.rows g.number ≡ Some (claim_with task.rest rs)) same (claim_at-grows t u h g.number (claim_with task.rest rests) l.claim);
    listed = h.listed g.number task.owner l.listed;
  };
  open_ = open-grows t u h g.number o;
}
