-- Goals that are met.
use Rattle.std.proofs.Common.{◌≡◌, ℕ, zero, suc, ◌+◌, ◌<◌, ◌≤◌, Bool, true, List, [], ◌∷◌, ◌++◌, length, get_or, set, take, Some, ⊎_elim, refl, sym, ap, subst, ◌∙◌, arith, length-append, length-set, nat_eq, eq-eqb, eqb-true}
use Rattle.std.specs.List.{AllByRecursion, slice_get}
use Rattle.std.proofs.lemmas.Bool.{cases_lt, cases_eq}
use Rattle.std.proofs.lemmas.Option.{slice_get_within, slice_get-get_or}
use Rattle.xd_doc.proofs.Lists.{there_front, last_at, all_more as all_map, all_append, all_taken, all_parts}
use Rattle.xd_rules.specs.Rules.{ChoiceTree, settles_content, settles_rest, split_on}
use Rattle.xd_rules.specs.Meaning.{AllLeaves}
use Rattle.xd_rules.proofs.Members.{get-one_of}
use Rattle.xd_goals.specs.Rows.{TableView, row_at}
use Rattle.xd_goals.specs.Trees.{StandsAt}
use Rattle.xd_goals.specs.Reached.{HasTreeWithin}
use Rattle.xd_goals.specs.declared.table.Choice.{Choice}
use Rattle.xd_goals.specs.declared.table.ChoiceNode.{ChoiceNode}
use Rattle.xd_rules.proofs.Lists.{slice_get-push_cases}
use Rattle.xd_goals.proofs.Trees.{AllLeaves-map}
use Rattle.xd_proof.specs.declared.steps.Step.{Step}
use Rattle.xd_proof.specs.declared.steps.Step.TheVariants.{Content, Rest, Split}
use Rattle.xd_proof_make.specs.Steps.{table_steps}
use Rattle.xd_proof_make.specs.Met.{IsMet, AreNumbered, unmet, MeetsMore, AllPass, LeadsTo, IsStepTo, AreReached}

-- ---- a number is set

get-set_same : (ns : List ℕ) (g n : ℕ) → g < length ns → slice_get (set ns g n) g ≡ Some n
get-set_same [] g n lt = absurd (omega arith)
get-set_same (m ∷ ns) zero n lt = refl
get-set_same (m ∷ ns) (suc g) n lt = get-set_same ns g n (omega arith)

get-set_other : (ns : List ℕ) (g h n : ℕ) → (h ≡ g → ⊥) → slice_get (set ns g n) h ≡ slice_get ns h
get-set_other [] g h n ne = refl
get-set_other (m ∷ ns) zero zero n ne = absurd (ne refl)
get-set_other (m ∷ ns) zero (suc h) n ne = refl
get-set_other (m ∷ ns) (suc g) zero n ne = refl
get-set_other (m ∷ ns) (suc g) (suc h) n ne = get-set_other ns g h n (λ e. ne (ap suc e))

unmet-set : (ns : List ℕ) (g n : ℕ) → slice_get ns g ≡ Some 0 → unmet (set ns g (suc n)) + 1 ≡ unmet ns
unmet-set [] g n e = absurd (cc)
unmet-set (zero ∷ ns) zero n e = omega arith
unmet-set (suc m ∷ ns) zero n e = absurd (let k : suc m ≡ 0 = cc in omega arith)
unmet-set (zero ∷ ns) (suc g) n e = let h = unmet-set ns g n e in omega arith
unmet-set (suc m ∷ ns) (suc g) n e = unmet-set ns g n e

-- ---- more are met

pub meets-then : (o n o2 n2 o3 n3 : List ℕ) → MeetsMore o n o2 n2 → MeetsMore o2 n2 o3 n3 → MeetsMore o n o3 n3
meets-then o n o2 n2 o3 n3 h k = record {
  sized = k.sized ∙ h.sized;
  kept = λ g i e. k.kept g i (h.kept g i e);
  front = λ i g e. k.front i g (h.front i g e);
  numbered = λ e. k.numbered (h.numbered e);
  fewer = k.fewer ∙ h.fewer;
}

pub meets-one : (order numbers : List ℕ) (g : ℕ) (order2 numbers2 : List ℕ) → slice_get numbers g ≡ Some 0 → order2 ≡ order ++ g ∷ [] → numbers2 ≡ set numbers g (length order2) → MeetsMore order numbers order2 numbers2
meets-one order numbers g order2 numbers2 none e f = record {
  sized = ap length f ∙ length-set numbers g (length order2);
  kept = λ h k x. ap (λ (ns : List ℕ). slice_get ns h) f ∙ get-set_other numbers g h (length order2) (unlike h k x) ∙ x;
  front = λ k h x. ap (λ (os : List ℕ). slice_get os k) e ∙ there_front order (g ∷ []) k h x;
  numbered = numbered;
  fewer = (let c = count in let u = unmet-set numbers g (length order) none in let v = ap unmet (f ∙ ap (set numbers g) count) in omega arith);
}
  where
    there : g < length numbers
    there = slice_get_within numbers g 0 none

    count : length order2 ≡ suc (length order)
    count = let l = ap length e in let m = length-append order (g ∷ []) in omega arith

    unlike : (h k : ℕ) → slice_get numbers h ≡ Some (suc k) → h ≡ g → ⊥
    unlike h k x q = let y : slice_get numbers g ≡ Some (suc k) = subst (λ (i : ℕ). slice_get numbers i ≡ Some (suc k)) q x in let z : suc k ≡ 0 = cc in omega arith

    numbered : AreNumbered order numbers → AreNumbered order2 numbers2
    numbered a = record { to = to; from = from }
      where
        to : (k h : ℕ) → slice_get order2 k ≡ Some h → slice_get numbers2 h ≡ Some (suc k)
        to k h x =
            ⊎_elim
            (λ y. (let z = a.to k h y in ap (λ (ns : List ℕ). slice_get ns h) f ∙ get-set_other numbers g h (length order2) (unlike h k z) ∙ z))
            (λ y. ap (λ (ns : List ℕ). slice_get ns h) f ∙ ap (slice_get (set numbers g (length order2))) (sym y.1) ∙ get-set_same numbers g (length order2) there ∙ ap Some (count ∙ ap suc (sym y.0)))
            (slice_get-push_cases order g h k (ap (λ (os : List ℕ). slice_get os k) (sym e) ∙ x))

        from : (h k : ℕ) → slice_get numbers2 h ≡ Some (suc k) → slice_get order2 k ≡ Some h
        from h k x = ⊎_elim
            (λ q. let y = ap (λ (ns : List ℕ). slice_get ns h) f ∙ ap (slice_get (set numbers g (length order2))) q ∙ get-set_same numbers g (length order2) there in
            let z : length order2 ≡ suc k = cc in
            let n = count in
            let w : k ≡ length order = omega arith in
            ap (λ (os : List ℕ). slice_get os k) e ∙ ap (slice_get (order ++ g ∷ [])) w ∙ last_at order g ∙ ap Some (sym q))
            (λ ne. ap (λ (os : List ℕ). slice_get os k) e ∙ there_front order (g ∷ []) k h
            (a.from h k (sym (get-set_other numbers g h (length order2) ne) ∙ ap (λ (ns : List ℕ). slice_get ns h) (sym f) ∙ x)))
            (cases_eq h g)

pub met-set : (numbers : List ℕ) (g n : ℕ) (numbers2 : List ℕ) → g < length numbers → 0 < n → numbers2 ≡ set numbers g n → IsMet numbers2 g
met-set numbers g zero numbers2 lt p f = absurd (omega arith)
met-set numbers g (suc n) numbers2 lt p f = record { before = n; is = ap (λ (ns : List ℕ). slice_get ns g) f ∙ get-set_same numbers g (suc n) lt }

pub met-read : (numbers : List ℕ) (g n : ℕ) → g < length numbers → n ≡ get_or numbers g n → (n ≡ 0 → ⊥) → IsMet numbers g
met-read numbers g zero lt e ne = absurd (ne refl)
met-read numbers g (suc n) lt e ne = record { before = n; is = slice_get-get_or numbers g (suc n) lt ∙ ap Some (sym e) }

pub unmet-read : (numbers : List ℕ) (g n : ℕ) → g < length numbers → n ≡ get_or numbers g n → n ≡ 0 → slice_get numbers g ≡ Some 0
unmet-read numbers g n lt e z = slice_get-get_or numbers g n lt ∙ ap Some (sym e ∙ z)

pub met-kept : (o n o2 n2 : List ℕ) → MeetsMore o n o2 n2 → (g : ℕ) → IsMet n g → IsMet n2 g
met-kept o n o2 n2 m g h = record { before = h.before; is = m.kept g h.before h.is }

-- ---- steps and trees

pub steps-kept : (P Q : ℕ → Type 0) → ((g : ℕ) → P g → Q g) → (steps : List Step) → AllByRecursion (IsStepTo P) steps → AllByRecursion (IsStepTo Q) steps
steps-kept P Q f steps h = all_map (IsStepTo P) (IsStepTo Q) steps one h
  where
    one : (s : Step) → IsStepTo P s → IsStepTo Q s
    one (Content g) k = f g k
    one (Rest g) k = f g k
    one (Split j) k = tt

pub tree-steps : (P : ℕ → Type 0) (tree : ChoiceTree) → AllLeaves P tree → AllByRecursion (IsStepTo P) (table_steps tree)
tree-steps P (settles_content g) h = (h, tt)
tree-steps P (settles_rest g) h = (h, tt)
tree-steps P (split_on j a b) h = (tt, all_append (IsStepTo P) (table_steps a) (table_steps b) (tree-steps P a h.0) (tree-steps P b h.1))

pub steps-tree : (P : ℕ → Type 0) (tree : ChoiceTree) → AllByRecursion (IsStepTo P) (table_steps tree) → AllLeaves P tree
steps-tree P (settles_content g) h = h.0
steps-tree P (settles_rest g) h = h.0
steps-tree P (split_on j a b) h = let i = all_parts (IsStepTo P) (table_steps a) (table_steps b) h.1 in (steps-tree P a i.0, steps-tree P b i.1)

-- the tree that stands at a choice's root, by its steps
pub leads-steps : (nodes : List ChoiceNode) (P : ℕ → Type 0) (k : Choice) (steps : List Step) → ((tree : ChoiceTree) → StandsAt nodes k.root tree → steps ≡ table_steps tree) → AllByRecursion (IsStepTo P) steps → LeadsTo nodes P k
leads-steps nodes P k steps e h tree s = steps-tree P tree (subst (AllByRecursion (IsStepTo P)) (e tree s) h)

pub steps-lead : (nodes : List ChoiceNode) (P : ℕ → Type 0) (n : ℕ) (k : Choice) (steps : List Step) → HasTreeWithin nodes n k.root → ((tree : ChoiceTree) → StandsAt nodes k.root tree → steps ≡ table_steps tree) → LeadsTo nodes P k
    → AllByRecursion (IsStepTo P) steps
steps-lead nodes P n k steps t e h = subst (AllByRecursion (IsStepTo P)) (sym (e t.tree t.stands)) (tree-steps P t.tree (h t.tree t.stands))

pub steps-within : (nodes : List ChoiceNode) (n : ℕ) (k : Choice) (steps : List Step) → HasTreeWithin nodes n k.root → ((tree : ChoiceTree) → StandsAt nodes k.root tree → steps ≡ table_steps tree) → AllByRecursion (IsStepTo (λ g. g < n)) steps
steps-within nodes n k steps t e = subst (AllByRecursion (IsStepTo (λ g. g < n))) (sym (e t.tree t.stands)) (tree-steps (λ g. g < n) t.tree t.within)

pub leads-kept : (nodes : List ChoiceNode) (P Q : ℕ → Type 0) → ((g : ℕ) → P g → Q g) → (ks : List Choice) → AllByRecursion (LeadsTo nodes P) ks → AllByRecursion (LeadsTo nodes Q) ks
leads-kept nodes P Q f ks h = all_map (LeadsTo nodes P) (LeadsTo nodes Q) ks (λ k x tree s. AllLeaves-map P Q f tree (x tree s)) h

pub all_get : {X : Type 0} (P : X → Type 0) (xs : List X) (i : ℕ) (x : X) → i < length xs → x ≡ get_or xs i x → AllByRecursion P xs → P x
all_get P [] i x lt e h = absurd (omega arith)
all_get P (y ∷ xs) zero x lt e h = subst P (sym e) h.0
all_get P (y ∷ xs) (suc i) x lt e h = all_get P xs i x (omega arith) e h.1

-- the same where what stands past the end is given
pub all_more_by : {X : Type 0} (P : X → Type 0) (xs : List X) (i : ℕ) (d : X) → i < length xs → AllByRecursion P (take i xs) → P (get_or xs i d) → AllByRecursion P (take (i + 1) xs)
all_more_by {X} P xs i d lt h p = all_taken P xs i (get_or xs i d) lt (same xs i lt) h p
  where
    same : (ys : List X) (n : ℕ) → n < length ys → get_or ys n d ≡ get_or ys n (get_or xs i d)
    same [] n l = absurd (omega arith)
    same (y ∷ ys) zero l = refl
    same (y ∷ ys) (suc n) l = same ys n (omega arith)

pub all_get_by : {X : Type 0} (P : X → Type 0) (xs : List X) (i : ℕ) (d : X) → i < length xs → AllByRecursion P xs → P (get_or xs i d)
all_get_by P [] i d lt h = absurd (omega arith)
all_get_by P (y ∷ xs) zero d lt h = h.0
all_get_by P (y ∷ xs) (suc i) d lt h = all_get_by P xs i d (omega arith) h.1

-- ---- the walk

pub record IsOnTheWay (t : TableView) (start : ℕ) (order numbers : List ℕ) (next : ℕ) : Type 0 where
  pub first : slice_get order 0 ≡ Some start
  pub sized : length numbers ≡ length t.rows
  pub numbered : AreNumbered order numbers
  pub within : next ≤ length order
  pub closed : (k g : ℕ) → k < next → slice_get order k ≡ Some g → AllByRecursion (LeadsTo t.nodes (IsMet numbers)) (row_at t.rows g).choices
  pub only : (p : ℕ → Bool) → p start ≡ true → ((g : ℕ) → p g ≡ true → AllByRecursion (LeadsTo t.nodes (λ h. p h ≡ true)) (row_at t.rows g).choices) → AllPass p order

none_numbered : (numbers : List ℕ) → ((g : ℕ) → IsMet numbers g → ⊥) → AreNumbered [] numbers
none_numbered numbers none = record { to = λ k g e. absurd (cc); from = λ g k e. absurd (none g (record { before = k; is = e })) }

pub way_first : (t : TableView) (start : ℕ) (o n order numbers : List ℕ) → length n ≡ length t.rows → ((g : ℕ) → IsMet n g → ⊥) → o ≡ [] → MeetsMore o n order numbers → IsMet numbers start
    → ((p : ℕ → Bool) → p start ≡ true → AllPass p o → AllPass p order) → IsOnTheWay t start order numbers 0
way_first t start o n order numbers sized none e m met only = record {
  first = at order met.before (only (λ g. nat_eq g start) (eq-eqb start start refl) (subst (AllPass (λ g. nat_eq g start)) (sym e) tt)) (numbered.from start met.before met.is);
  sized = m.sized ∙ sized;
  numbered = numbered;
  within = omega arith;
  closed = λ k g lt x. absurd (omega arith);
  only = λ p h c. only p h (subst (AllPass p) (sym e) tt);
}
  where
    numbered : AreNumbered order numbers
    numbered = m.numbered (subst (λ (x : List ℕ). AreNumbered x n) (sym e) (none_numbered n none))

    at : (xs : List ℕ) (k : ℕ) → AllPass (λ g. nat_eq g start) xs → slice_get xs k ≡ Some start → slice_get xs 0 ≡ Some start
    at [] k a x = absurd (cc)
    at (y ∷ xs) k a x = ap Some (eqb-true y start a.0)

pub way_there : (t : TableView) (start : ℕ) (order numbers : List ℕ) (next g : ℕ) → IsOnTheWay t start order numbers next → next < length order → g ≡ get_or order next g → g < length t.rows
way_there t start order numbers next g w lt e =
    let x = w.numbered.to next g (slice_get-get_or order next g lt ∙ ap Some (sym e)) in
    let l = slice_get_within numbers g (suc next) x in
    let s = w.sized in omega arith

pub way_next : (t : TableView) (start : ℕ) (order numbers : List ℕ) (next g : ℕ) (order2 numbers2 : List ℕ) → IsOnTheWay t start order numbers next → next < length order → g ≡ get_or order next g → MeetsMore order numbers order2 numbers2
    → AllByRecursion (LeadsTo t.nodes (IsMet numbers2)) (row_at t.rows g).choices
    → ((p : ℕ → Bool) → AllByRecursion (LeadsTo t.nodes (λ h. p h ≡ true)) (row_at t.rows g).choices → AllPass p order → AllPass p order2) → IsOnTheWay t start order2 numbers2 (next + 1)
way_next t start order numbers next g order2 numbers2 w lt e m leads only = record {
  first = m.front 0 start w.first;
  sized = m.sized ∙ w.sized;
  numbered = m.numbered w.numbered;
  within = (let l = slice_get_within order2 next g (m.front next g at) in omega arith);
  closed = λ k h l x. ⊎_elim
      (λ b. leads-kept t.nodes (IsMet numbers) (IsMet numbers2) (met-kept order numbers order2 numbers2 m) (row_at t.rows h).choices (w.closed k h b (before k h (omega arith) x)))
      (λ b. let q : k ≡ next = omega arith in
      let y : slice_get order2 next ≡ Some h = subst (λ (i : ℕ). slice_get order2 i ≡ Some h) q x in
      let z = m.front next g at in
      let s : g ≡ h = cc in
      subst (λ (i : ℕ). AllByRecursion (LeadsTo t.nodes (IsMet numbers2)) (row_at t.rows i).choices) s leads)
      (cases_lt k next);
  only = λ p h c. only p (c g (passes p (w.only p h c))) (w.only p h c);
}
  where
    at : slice_get order next ≡ Some g
    at = slice_get-get_or order next g lt ∙ ap Some (sym e)

    before : (k h : ℕ) → k < length order → slice_get order2 k ≡ Some h → slice_get order k ≡ Some h
    before k h l x =
        let y = slice_get-get_or order k 0 l in
        let z = m.front k (get_or order k 0) y in
        let s : get_or order k 0 ≡ h = cc in y ∙ ap Some s

    passes : (p : ℕ → Bool) → AllPass p order → p g ≡ true
    passes p a = all_get (λ i. p i ≡ true) order next g lt e a

pub way_ends : (t : TableView) (start : ℕ) (order numbers : List ℕ) (next : ℕ) → IsOnTheWay t start order numbers next → length order ≤ next → AreReached t start order numbers
way_ends t start order numbers next w le = record {
  first = w.first;
  sized = w.sized;
  numbered = w.numbered;
  closed = λ g m. let k = get-one_of g order m in w.closed k.0 g (let l = slice_get_within order k.0 g k.1 in omega arith) k.1;
  only = w.only;
}
