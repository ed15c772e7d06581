-- Trees as steps: what is still to come of them, and how many steps.
use Rattle.std.proofs.Common.{◌≡◌, ℕ, zero, suc, ◌+◌, ◌<◌, List, [], ◌∷◌, ◌++◌, length, Option, Some, None, refl, sym, ap, subst, ◌∙◌, arith, append_assoc, append-nil}
use Rattle.std.specs.List.{AllZip, slice_get}
use Rattle.xd_rules.specs.Rules.{ChoiceTree, settles_content, settles_rest, split_on}
use Rattle.xd_goals.specs.Trees.{StandsAt}
use Rattle.xd_goals.specs.declared.table.ChoiceNode.{ChoiceNode}
use Rattle.xd_goals.specs.declared.table.ChoiceNode.TheVariants as nodes
use Rattle.xd_goals.proofs.Trees.{StandsAt-one, StandsAt-within}
use Rattle.xd_proof.specs.declared.steps.Step.{Step}
use Rattle.xd_proof.specs.declared.steps.Step.TheVariants.{Split}
use Rattle.xd_proof_make.specs.Steps.{table_steps, node_step, node_parts, IsOpened, HasTree}

-- ---- how many steps a node has

step_count : ChoiceTree → ℕ
step_count (settles_content g) = 1
step_count (settles_rest g) = 1
step_count (split_on j a b) = 1 + (step_count a + step_count b)

-- as far as a node's tree has no more than so many levels
count_by : (ℕ → ℕ) → Option ChoiceNode → ℕ
count_by F None = 1
count_by F (Some (nodes.Content g)) = 1
count_by F (Some (nodes.Rest g)) = 1
count_by F (Some (nodes.Split j x y)) = 1 + (F x + F y)

count_within : ℕ → List ChoiceNode → ℕ → ℕ
count_within zero ns n = 1
count_within (suc f) ns n = count_by (count_within f ns) (slice_get ns n)

count-is : (ns : List ChoiceNode) (t : ChoiceTree) (f n : ℕ) → StandsAt ns n t → n < f → count_within f ns n ≡ step_count t
unfolding count_within count_by step_count
count-is ns t zero n s lt = absurd (omega arith)
count-is ns (settles_content g) (suc f) n s lt = at (slice_get ns n) s
  where
    at : (o : Option ChoiceNode) → o ≡ Some (nodes.Content (record { number = g })) → count_by (count_within f ns) o ≡ step_count (settles_content g)
    at o e = ap (count_by (count_within f ns)) e
count-is ns (settles_rest g) (suc f) n s lt = at (slice_get ns n) s
  where
    at : (o : Option ChoiceNode) → o ≡ Some (nodes.Rest (record { number = g })) → count_by (count_within f ns) o ≡ step_count (settles_rest g)
    at o e = ap (count_by (count_within f ns)) e
count-is ns (split_on j a b) (suc f) n s lt =
    let x = s.0 in let y = s.1 in
    let p = s.3 in let q = s.4 in
    at (slice_get ns n) x y s.2 (count-is ns a f x s.5 (omega arith)) (count-is ns b f y s.6 (omega arith))
  where
    at : (o : Option ChoiceNode) (x y : ℕ) → o ≡ Some (nodes.Split j x y) → count_within f ns x ≡ step_count a → count_within f ns y ≡ step_count b → count_by (count_within f ns) o ≡ step_count (split_on j a b)
    at o x y e g h = ap (count_by (count_within f ns)) e ∙ (ap (λ (k : ℕ). 1 + (k + count_within f ns y)) g ∙ ap (λ (k : ℕ). 1 + (step_count a + k)) h)

-- the steps that the nodes on a stack have
pub count_all : List ChoiceNode → List ℕ → ℕ
count_all ns [] = 0
count_all ns (n ∷ stack) = count_within (length ns) ns n + count_all ns stack

all_steps : List ChoiceTree → ℕ
all_steps [] = 0
all_steps (t ∷ ts) = step_count t + all_steps ts

count_all-is : (ns : List ChoiceNode) (stack : List ℕ) (ts : List ChoiceTree) → AllZip (StandsAt ns) stack ts → count_all ns stack ≡ all_steps ts
unfolding count_all all_steps
count_all-is ns [] [] z = refl
count_all-is ns [] (t ∷ ts) z = absurd z
count_all-is ns (n ∷ stack) [] z = absurd z
count_all-is ns (n ∷ stack) (t ∷ ts) z =
    let e = count-is ns t (length ns) n z.0 (StandsAt-within ns t n z.0) in
    let i = count_all-is ns stack ts z.1 in
    ap (λ (k : ℕ). k + count_all ns stack) e ∙ ap (λ (k : ℕ). step_count t + k) i

-- ---- what is to come of the trees on a stack, whose last is the next

pub waiting : List ChoiceTree → List Step
waiting [] = []
waiting (t ∷ ts) = waiting ts ++ table_steps t

waiting-push : (ts : List ChoiceTree) (t : ChoiceTree) → waiting (ts ++ t ∷ []) ≡ table_steps t ++ waiting ts
unfolding waiting
waiting-push [] t = sym (append-nil (table_steps t))
waiting-push (u ∷ ts) t = ap (λ (w : List Step). w ++ table_steps u) (waiting-push ts t) ∙ append_assoc (table_steps t) (waiting ts) (table_steps u)

all_steps-push : (ts : List ChoiceTree) (t : ChoiceTree) → all_steps (ts ++ t ∷ []) ≡ all_steps ts + step_count t
unfolding all_steps
all_steps-push [] t = omega arith
all_steps-push (u ∷ ts) t = let i = all_steps-push ts t in omega arith

-- the last tree of a stack, and those below it
pub record IsTopped (ns : List ChoiceNode) (below : List ℕ) (n : ℕ) (ts : List ChoiceTree) : Type 0 where
  pub under : List ChoiceTree
  pub top : ChoiceTree
  pub whole : ts ≡ under ++ top ∷ []
  pub stand : AllZip (StandsAt ns) below under
  pub top_stands : StandsAt ns n top

topped : (ns : List ChoiceNode) (below : List ℕ) (n : ℕ) (ts : List ChoiceTree) → AllZip (StandsAt ns) (below ++ n ∷ []) ts → IsTopped ns below n ts
topped ns [] n [] z = absurd z
topped ns [] n (t ∷ []) z = record { under = []; top = t; whole = refl; stand = tt; top_stands = z.0 }
topped ns [] n (t ∷ (u ∷ ts)) z = absurd z.1
topped ns (m ∷ below) n [] z = absurd z
topped ns (m ∷ below) n (t ∷ ts) z =
    let i = topped ns below n ts z.1 in
    record { under = t ∷ i.under; top = i.top; whole = ap (λ (us : List ChoiceTree). t ∷ us) i.whole; stand = (z.0, i.stand); top_stands = i.top_stands }

zip_more : (ns : List ChoiceNode) (xs ys : List ℕ) (ts us : List ChoiceTree) → AllZip (StandsAt ns) xs ts → AllZip (StandsAt ns) ys us → AllZip (StandsAt ns) (xs ++ ys) (ts ++ us)
zip_more ns [] ys [] us h k = k
zip_more ns [] ys (t ∷ ts) us h k = absurd h
zip_more ns (x ∷ xs) ys [] us h k = absurd h
zip_more ns (x ∷ xs) ys (t ∷ ts) us h k = (h.0, zip_more ns xs ys ts us h.1 k)

-- ---- the walk

-- so far: the steps that were taken, and those of the trees on the stack
pub record IsWalked (ns : List ChoiceNode) (root : ℕ) (stack : List ℕ) (steps : List Step) : Type 0 where
  pub trees : List ChoiceTree
  pub stand : AllZip (StandsAt ns) stack trees
  pub done : (tree : ChoiceTree) → StandsAt ns root tree → steps ++ waiting trees ≡ table_steps tree

pub walked_first : (ns : List ChoiceNode) (root : ℕ) (stack : List ℕ) (steps : List Step) → HasTree ns root → stack ≡ root ∷ [] → steps ≡ [] → IsWalked ns root stack steps
unfolding waiting
walked_first ns root stack steps h e f = record {
  trees = h.0 ∷ [];
  stand = subst (λ (s : List ℕ). AllZip (StandsAt ns) s (h.0 ∷ [])) (sym e) (h.1, tt);
  done = λ tree s. ap (λ (x : List Step). x ++ table_steps h.0) f ∙ ap table_steps (StandsAt-one ns h.0 tree root h.1 s);
}

-- a node that was opened: its tree is its step and then those of its parts
record IsTurned (ns : List ChoiceNode) (under : List ChoiceTree) (below : List ℕ) (top : ChoiceTree) (step : Step) (new : List ℕ) : Type 0 where
  more : List ChoiceTree
  stand : AllZip (StandsAt ns) new more
  same : table_steps top ++ waiting under ≡ step ∷ waiting more
  fewer : all_steps more < all_steps under + step_count top

turned : (ns : List ChoiceNode) (under : List ChoiceTree) (below : List ℕ) (n : ℕ) (top : ChoiceTree) (node : ChoiceNode) → AllZip (StandsAt ns) below under → StandsAt ns n top → slice_get ns n ≡ Some node
    → IsTurned ns under below top (node_step node) (below ++ node_parts node)
unfolding step_count
turned ns under below n (settles_content g) node z s e =
    let q : nodes.Content (record { number = g }) ≡ node = cc in
    subst (λ (x : ChoiceNode). IsTurned ns under below (settles_content g) (node_step x) (below ++ node_parts x)) q
    (record { more = under; stand = subst (λ (b : List ℕ). AllZip (StandsAt ns) b under) (sym (append-nil below)) z; same = refl; fewer = omega arith })
turned ns under below n (settles_rest g) node z s e =
    let q : nodes.Rest (record { number = g }) ≡ node = cc in
    subst (λ (x : ChoiceNode). IsTurned ns under below (settles_rest g) (node_step x) (below ++ node_parts x)) q
    (record { more = under; stand = subst (λ (b : List ℕ). AllZip (StandsAt ns) b under) (sym (append-nil below)) z; same = refl; fewer = omega arith })
turned ns under below n (split_on j a b) node z s e =
    let q : nodes.Split j s.0 s.1 ≡ node = (let k = s.2 in cc) in
    subst (λ (x : ChoiceNode). IsTurned ns under below (split_on j a b) (node_step x) (below ++ node_parts x)) q
    (record {
      more = (under ++ b ∷ []) ++ a ∷ [];
      stand = subst (λ (l : List ℕ). AllZip (StandsAt ns) l ((under ++ b ∷ []) ++ a ∷ [])) (append_assoc below (s.1 ∷ []) (s.0 ∷ []))
          (zip_more ns (below ++ s.1 ∷ []) (s.0 ∷ []) (under ++ b ∷ []) (a ∷ []) (zip_more ns below (s.1 ∷ []) under (b ∷ []) z (s.6, tt)) (s.5, tt));
      same = ap (λ (l : List Step). Split j ∷ l)
          (append_assoc (table_steps a) (table_steps b) (waiting under) ∙ ap (λ (l : List Step). table_steps a ++ l) (sym (waiting-push under b)) ∙ sym (waiting-push (under ++ b ∷ []) a));
      fewer = let x = all_steps-push under b in let y = all_steps-push (under ++ b ∷ []) a in omega arith;
    })

-- the node on top is there
pub walked_there : (ns : List ChoiceNode) (root : ℕ) (stack below : List ℕ) (n : ℕ) (steps : List Step) → IsWalked ns root stack steps → stack ≡ below ++ n ∷ [] → n < length ns
walked_there ns root stack below n steps w popped =
    let t = topped ns below n w.trees (subst (λ (s : List ℕ). AllZip (StandsAt ns) s w.trees) popped w.stand) in StandsAt-within ns t.top n t.top_stands

-- one turn of the walk
module _ (ns : List ChoiceNode) (root : ℕ) (stack below new : List ℕ) (n : ℕ) (steps : List Step) (step : Step)
    (w : IsWalked ns root stack steps) (popped : stack ≡ below ++ n ∷ []) (opened : IsOpened ns n step below new) where
  abbrev top_of : IsTopped ns below n w.trees
  top_of = topped ns below n w.trees (subst (λ (s : List ℕ). AllZip (StandsAt ns) s w.trees) popped w.stand)

  turn : IsTurned ns top_of.under below top_of.top step new
  turn =
      subst (λ (l : List ℕ). IsTurned ns top_of.under below top_of.top step l) (sym opened.grown)
      (subst (λ (s : Step). IsTurned ns top_of.under below top_of.top s (below ++ node_parts opened.node)) (sym opened.of_node)
      (turned ns top_of.under below n top_of.top opened.node top_of.stand top_of.top_stands opened.stands))

  pub walked_next : (steps2 : List Step) → steps2 ≡ steps ++ step ∷ [] → IsWalked ns root new steps2
  walked_next steps2 e = record {
    trees = turn.more;
    stand = turn.stand;
    done = λ tree s.
        ap (λ (l : List Step). l ++ waiting turn.more) e
        ∙ append_assoc steps (step ∷ []) (waiting turn.more)
        ∙ ap (λ (l : List Step). steps ++ l) (sym turn.same ∙ sym (waiting-push top_of.under top_of.top) ∙ ap waiting (sym top_of.whole))
        ∙ w.done tree s;
  }

  pub walked_fewer : count_all ns new < count_all ns stack
  walked_fewer =
      let a = count_all-is ns new turn.more turn.stand in
      let b = count_all-is ns stack w.trees w.stand in
      let d = ap all_steps top_of.whole in
      let f = all_steps-push top_of.under top_of.top in
      let h = turn.fewer in omega arith

pub walked_all : (ns : List ChoiceNode) (root : ℕ) (stack : List ℕ) (steps : List Step) → IsWalked ns root stack steps → stack ≡ [] → (tree : ChoiceTree) → StandsAt ns root tree → steps ≡ table_steps tree
unfolding waiting
walked_all ns root stack steps w e tree s = go w.trees (subst (λ (l : List ℕ). AllZip (StandsAt ns) l w.trees) e w.stand) (w.done tree s)
  where
    go : (ts : List ChoiceTree) → AllZip (StandsAt ns) [] ts → steps ++ waiting ts ≡ table_steps tree → steps ≡ table_steps tree
    go [] z d = sym (append-nil steps) ∙ d
    go (t ∷ ts) z d = absurd z
