-- The numbers of goals that keep the rules are small: each is that of an item of a list that is
-- short.
use Rattle.std.proofs.Common.{◌≡◌, ℕ, zero, suc, ◌<◌, ◌≤◌, ◌^◌, Bool, true, false, not, cond, filter, List, [], ◌∷◌, ◌++◌, length, Option, Some, None, inl, inr, ⊎_elim, refl, sym, ap, subst, ◌∙◌, arith}
use Rattle.std.specs.List.{AllByRecursion, AllZip}
use Rattle.std.proofs.lemmas.Bool.{cases_lt}
use Rattle.xd_doc.proofs.Numbers.{le_lt}
use Rattle.xd_doc.specs.Members.{IsOneOf}
use Rattle.xd_syntax.specs.Tree.{Tree, Definitions}
use Rattle.xd_auto.specs.declared.auto.State.{State}
use Rattle.xd_rules.specs.Heads.{Head}
use Rattle.xd_meaning.specs.Heads.{heads}
use Rattle.xd_laws.specs.SameTree.{same_tree}
use Rattle.xd_rules.specs.declared.atom.Atom.{Atom}
use Rattle.xd_rules.specs.declared.atom.Atom.TheVariants.{Label, OtherLabel, Text, OtherText}
use Rattle.xd_rules.specs.Rules.{Claim, ChoiceTree, settles_content, settles_rest, split_on, Case, numbered, Sides, no_sides, on_content, on_rest, LabelTree, TextTree, TreeRule, CaseRule}
use Rattle.xd_meaning.specs.Consistent.{Goal, claims, right_heads, EmptyRule, KeepsRules}
use Rattle.xd_laws.proofs.Claims.{goal_of}
use Rattle.xd_laws.proofs.Pigeon.{NoRepeat, pigeon}
use Rattle.xd_laws.proofs.SameTrees.{tree_same}
use Rattle.xd_goals.specs.Rows.{GoalRow, IsRowBelow, row_at}
use Rattle.xd_proof.specs.Lines.{IsNumber}
use Rattle.xd_proof.specs.Parts.{IsAtom, HasNumbers}
use Rattle.xd_proof_write.specs.SecondText.{each_once, types_of, distinct_types}
use Rattle.xd_proof_write.specs.Laws.{IsWritableCase, IsWritableNumber, IsWritableGoal}
use Rattle.xd_proof_make.specs.Written.{AreTypes}
use Rattle.xd_proof_make.specs.Few.{AreFew, IsSmall}
use Rattle.xd_proof_make.specs.Made.{IsBetween}

pub number_within : {A : Type 0} (xs : List A) (n : ℕ) (x : A) → numbered xs n ≡ Some x → (0 < n) × (n ≤ length xs)
number_within [] zero x e = absurd (cc)
number_within [] (suc n) x e = absurd (cc)
number_within (y ∷ xs) zero x e = absurd (cc)
number_within (y ∷ xs) (suc zero) x e = (omega arith, omega arith)
number_within (y ∷ xs) (suc (suc n)) x e = let i = (number_within xs (suc n) x e).1 in (omega arith, omega arith)

pub some_there : {A : Type 0} (xs : List A) (x : A) → numbered xs 1 ≡ Some x → 0 < length xs
some_there [] x e = absurd (cc)
some_there (y ∷ xs) x e = omega arith

is_number : {A : Type 0} (xs : List A) (n : ℕ) (x : A) → numbered xs n ≡ Some x → AreFew xs → IsNumber n
is_number xs n x e few = let i = number_within xs n x e in record { least = i.0; most = le_lt n (length xs) (10 ^ 18) i.1 few }

-- ---- the numbers of a goal

module _ (gs : List Goal) (few_goals : AreFew gs) (left : Head Tree) (hs : List (Head Tree)) (few_heads : AreFew hs) where
  goal_number : (n : ℕ) (c : Claim Tree) → claims gs n ≡ Some c → IsNumber n
  goal_number n c e = let g = goal_of gs n c e in is_number gs n g.0 g.1 few_goals

  label_tree : (a : Atom) (s : Sides) (tree : ChoiceTree) → LabelTree (claims gs) a left hs s tree → HasNumbers tree
  label_tree a s (settles_content n) k = goal_number n k.claim k.stands
  label_tree a s (settles_rest n) k = goal_number n k.claim k.stands
  label_tree a s (split_on n t u) k = (is_number hs n (k.0).head (k.0).stands few_heads, label_tree a (on_content n s) t k.1, label_tree a (on_rest n s) u k.2)

  text_tree : (a : Atom) (tree : ChoiceTree) → TextTree (claims gs) a left hs tree → HasNumbers tree
  text_tree a (settles_content n) k = absurd k
  text_tree a (settles_rest n) k = goal_number n k.claim k.stands
  text_tree a (split_on n t u) k = absurd k

  tree_numbers : (a : Atom) (tree : ChoiceTree) → TreeRule (claims gs) a left hs tree → HasNumbers tree
  tree_numbers (Label l) tree k = label_tree (Label l) no_sides tree k
  tree_numbers OtherLabel tree k = label_tree OtherLabel no_sides tree k
  tree_numbers (Text s) tree k = text_tree (Text s) tree k
  tree_numbers OtherText tree k = text_tree OtherText tree k

module _ (E : Definitions) (gs : List Goal) (few : AreFew gs) where
  cases_writable : (g : Goal) → IsSmall E g → (cs : List Case) → AllByRecursion (CaseRule (claims gs) (heads E g.left) (right_heads E g)) cs → AllByRecursion (λ (c : Case). IsAtom c.atom) cs → AllByRecursion IsWritableCase cs
  cases_writable g s [] k a = tt
  cases_writable g s (c ∷ cs) k a =
      let r = k.0 in (
        record {
          head = is_number (heads E g.left) c.head r.left_head r.stands s.on_left;
          atom = a.0;
          choice = tree_numbers gs few r.left_head (right_heads E g) s.on_right c.atom c.choice r.tree;
        },
        cases_writable g s cs k.1 a.1,
      )

  right_writable : (g : Goal) → IsSmall E g → (o : Option ℕ) → EmptyRule E g o → IsWritableNumber o
  right_writable g s None k = tt
  right_writable g s (Some n) k = is_number g.rights n k.1 k.2 s.rights

  pub goals_writable : (some : List Goal) → AllByRecursion (KeepsRules E gs) some → AllByRecursion (IsSmall E) some → AllByRecursion IsWritableGoal some
  goals_writable [] k s = tt
  goals_writable (g ∷ some) k s =
      (record { empty_right = right_writable g s.0 g.empty_right (k.0).empty; cases = cases_writable g s.0 g.cases (k.0).trees (s.0).atoms }, goals_writable some k.1 s.1)

-- ---- each once

among_filter : {A : Type 0} (q : A → Bool) (x : A) (xs : List A) → IsOneOf x (filter q xs) → IsOneOf x xs × (q x ≡ true)
among_filter q x [] m = absurd m
among_filter {A} q x (y ∷ xs) m = by (q y) refl m (λ n. among_filter q x xs n)
  where
    by : (b : Bool) → q y ≡ b → IsOneOf x (cond b (y ∷ filter q xs) (filter q xs)) → (IsOneOf x (filter q xs) → IsOneOf x xs × (q x ≡ true)) → IsOneOf x (y ∷ xs) × (q x ≡ true)
    by true e (inl f) rest = (inl f, subst (λ (z : A). q z ≡ true) f e)
    by true e (inr n) rest = let i = rest n in (inr i.0, i.1)
    by false e n rest = let i = rest n in (inr i.0, i.1)

filter_no_repeat : {A : Type 0} (q : A → Bool) (xs : List A) → NoRepeat xs → NoRepeat (filter q xs)
filter_no_repeat q [] n = tt
filter_no_repeat q (x ∷ xs) n = by (q x) (filter_no_repeat q xs n.1)
  where
    by : (b : Bool) → NoRepeat (filter q xs) → NoRepeat (cond b (x ∷ filter q xs) (filter q xs))
    by true i = (λ m. n.0 (among_filter q x xs m).0, i)
    by false i = i

module _ {A : Type 0} (same : A → A → Bool) (self : (x : A) → same x x ≡ true) where
  once_no_repeat : (xs : List A) → NoRepeat (each_once same xs)
  once_no_repeat [] = tt
  once_no_repeat (x ∷ xs) =
      (λ m. (let e = (among_filter (λ y. not (same x y)) x (each_once same xs) m).1 in let f : false ≡ true = sym (ap not (self x)) ∙ e in cc), filter_no_repeat (λ y. not (same x y)) (each_once same xs) (once_no_repeat xs))

  among_once : (x : A) (xs : List A) → IsOneOf x (each_once same xs) → IsOneOf x xs
  among_once x [] m = m
  among_once x (y ∷ xs) (inl e) = inl e
  among_once x (y ∷ xs) (inr m) = inr (among_once x xs (among_filter (λ z. not (same y z)) x (each_once same xs) m).0)

-- ---- types of states

module _ (C : State → Option Tree) where
  abbrev with_type : Option Tree → List Tree → List Tree
  with_type None Ts = Ts
  with_type (Some T) Ts = T ∷ Ts

  -- those of the states whose numbers are below n
  abbrev types_below : ℕ → List Tree
  types_below zero = []
  types_below (suc n) = with_type (C (record { number = n })) (types_below n)

  types_below-count : (n : ℕ) → length (types_below n) ≤ n
  types_below-count zero = omega arith
  types_below-count (suc n) = by (C (record { number = n })) (types_below-count n)
    where
      by : (o : Option Tree) → length (types_below n) ≤ n → length (with_type o (types_below n)) ≤ suc n
      by None i = omega arith
      by (Some T) i = omega arith

  -- the type of one of them
  abbrev IsTypeBelow : ℕ → Tree → Type 0
  IsTypeBelow n T = (s : State) × (s.number < n) × (C s ≡ Some T)

  type_there : (n : ℕ) (s : State) (T : Tree) → s.number < n → C s ≡ Some T → IsOneOf T (types_below n)
  type_there zero s T lt e = absurd (omega arith)
  type_there (suc n) s T lt e = ⊎_elim (λ h. later (C (record { number = n })) (type_there n s T h e)) (λ ge. here (omega arith)) (cases_lt s.number n)
    where
      here : s.number ≡ n → IsOneOf T (with_type (C (record { number = n })) (types_below n))
      here q =
          let f : C (record { number = n }) ≡ Some T = sym (ap (λ (k : ℕ). C (record { number = k })) q) ∙ e in
          subst (λ (o : Option Tree). IsOneOf T (with_type o (types_below n))) (sym f) (inl refl)

      later : (o : Option Tree) → IsOneOf T (types_below n) → IsOneOf T (with_type o (types_below n))
      later None m = m
      later (Some U) m = inr m

  among_all : (P : Tree → Type 0) (T : Tree) (Ts : List Tree) → AllByRecursion P Ts → IsOneOf T Ts → P T
  among_all P T [] a m = absurd m
  among_all P T (U ∷ Ts) a (inl e) = subst P e a.0
  among_all P T (U ∷ Ts) a (inr m) = among_all P T Ts a.1 m

  types_count : (n : ℕ) (Ts : List Tree) → AllByRecursion (IsTypeBelow n) Ts → length (each_once same_tree Ts) ≤ n
  types_count n Ts a =
      let h = pigeon (each_once same_tree Ts) (types_below n) (once_no_repeat same_tree tree_same Ts)
      (λ T m. let i = among_all (IsTypeBelow n) T Ts a (among_once same_tree tree_same T Ts m) in type_there n i.0 T i.1 i.2) in
      let k = types_below-count n in
      omega arith

  all_append : {X : Type 0} (P : X → Type 0) (xs ys : List X) → AllByRecursion P xs → AllByRecursion P ys → AllByRecursion P (xs ++ ys)
  all_append P [] ys h k = k
  all_append P (x ∷ xs) ys h k = (h.0, all_append P xs ys h.1 k)

  rights_below : (n : ℕ) (ss : List State) (Ts : List Tree) → AreTypes C ss Ts → AllByRecursion (λ (s : State). s.number < n) ss → AllByRecursion (IsTypeBelow n) Ts
  rights_below n [] [] z b = tt
  rights_below n [] (T ∷ Ts) z b = absurd z
  rights_below n (s ∷ ss) [] z b = absurd z
  rights_below n (s ∷ ss) (T ∷ Ts) z b = ((s, b.0, z.0), rights_below n ss Ts z.1 b.1)

  -- the types of goals between the types of rows
  types_of_rows : (n : ℕ) (rows : List GoalRow) (order : List ℕ) (gs : List Goal) → AllZip (λ g made. IsBetween C (row_at rows g) made) order gs → AllByRecursion (λ g. IsRowBelow n (row_at rows g)) order
      → AllByRecursion (IsTypeBelow n) (types_of gs)
  types_of_rows n rows [] [] z b = tt
  types_of_rows n rows [] (g ∷ gs) z b = absurd z
  types_of_rows n rows (i ∷ order) [] z b = absurd z
  types_of_rows n rows (i ∷ order) (g ∷ gs) z b =
      (((row_at rows i).left, (b.0).left, (z.0).left), all_append (IsTypeBelow n) g.rights (types_of gs) (rights_below n (row_at rows i).rights g.rights (z.0).rights (b.0).rights) (types_of_rows n rows order gs z.1 b.1))

  -- no more types than states
  pub distinct_below : (n : ℕ) (rows : List GoalRow) (order : List ℕ) (gs : List Goal) → AllZip (λ g made. IsBetween C (row_at rows g) made) order gs → AllByRecursion (λ g. IsRowBelow n (row_at rows g)) order
      → length (distinct_types gs) ≤ n
  distinct_below n rows order gs z b = types_count n (types_of gs) (types_of_rows n rows order gs z b)

-- and one at least
pub some_types : (gs : List Goal) (g : Goal) → numbered gs 1 ≡ Some g → 0 < length (distinct_types gs)
some_types [] g e = absurd (cc)
some_types (h ∷ gs) g e = omega arith
