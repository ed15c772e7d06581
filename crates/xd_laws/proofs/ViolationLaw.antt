-- What is computed is the first violation; and there is a first violation exactly where the rules do not
-- hold.
use Rattle.std.proofs.Common.{◌≡◌, ℕ, suc, ◌+◌, arith, Bool, true, false, not, ◌||◌, nat_eq, List, [], ◌∷◌, ◌++◌, map, Option, Some, None, refl, ap, sym, subst, ◌∙◌, ◌⊎◌, inl, inr}
use Rattle.std.specs.List.{AllByRecursion}
use Rattle.std.proofs.lemmas.Bool.{eq-eqb, eqb-true, and_from, or_left, or_right}
use Rattle.std.proofs.lemmas.Slice.Eq.{bytes_eq-Decides}
use Rattle.xd_doc.proofs.Bools.{and_parts, or_cases, not_true}
use Rattle.xd_syntax.specs.Tree.{Tree, Definitions}
use Rattle.xd_meaning.specs.CanBeEmpty.{can_be_empty}
use Rattle.xd_rules.specs.Heads.{Head, atoms_of, Named, named_in, matches}
use Rattle.xd_meaning.specs.Heads.{heads}
use Rattle.xd_rules.specs.declared.atom.Atom.{Atom}
use Rattle.xd_rules.specs.declared.atom.Atom.TheVariants.{Label, OtherLabel, Text, OtherText}
use Rattle.xd_rules.specs.Rules.{Claim, ChoiceTree, settles_content, settles_rest, split_on, Case, HeadAtom, head_atom, atoms_from, wanted, numbered, matching, Sides, no_sides, on_content, on_rest, HasPart, LeafRule, SplitRule, LabelTree, TextTree, TreeRule, CaseRule}
use Rattle.xd_meaning.specs.Consistent.{Goal, claim_of, claims, right_heads, EmptyRule, KeepsRules}
use Rattle.xd_meaning.specs.Violation.{Reason, bad_empty, bad_case, bad_split, bad_leaf, Lined, line_behind, empty_lines, goals_of, TreeViolation, content_leaf, rest_leaf, at_split, in_content, in_rest, TextViolation, text_leaf, text_content, text_split, ChoiceViolation, CasesViolation, too_many, too_few, other_case, in_tree, later_case, GoalViolation, on_empty, in_cases, GoalsViolation, this_goal, later_goal, IsFirstViolation}
use Rattle.xd_syntax.proofs.Members.{mem_append, mem_map}
use Rattle.xd_laws.specs.Laws.{ViolationsAreFound, RulesAreTested, ViolationIsOne}
use Rattle.xd_doc.specs.Members.{IsOneOf}
use Rattle.xd_laws.proofs.Claims.{goal_of, goal_claim}
use Rattle.xd_laws.proofs.SameTrees.{same_tree-is, tree_same}
use Rattle.xd_laws.proofs.FirstWrong.{same_tree, same_atom, head_matches, has_number, has_part, some_head, each_some_head, leaf_stands, split_allowed, reason_unless, or_next, wrong_choice, wrong_text, wrong_tree, wrong_case, Refusal, at_line, same_head_atom, wrong_cases, right_is_empty, empty_stands, wrong_goal, wrong_goals, first_wrong}

-- The tests of leaves, splits, atoms and the empty document decide their rules.

true_not : (a : Bool) → (a ≡ true → ⊥) → not a ≡ true
true_not true p = absurd (p refl)
true_not false p = refl

same_from : (T U : Tree) → T ≡ U → same_tree T U ≡ true
same_from T U e = subst (λ V. same_tree T V ≡ true) e (tree_same T)

number_in : (ns : List ℕ) (n : ℕ) → has_number ns n ≡ true → IsOneOf n ns
number_in [] n e = absurd (cc)
number_in (m ∷ ms) n e = elim (or_cases (nat_eq m n) (has_number ms n) e) [ inl p ↦ inl (eqb-true m n p) | inr q ↦ inr (number_in ms n q) ]

in_number : (ns : List ℕ) (n : ℕ) → IsOneOf n ns → has_number ns n ≡ true
in_number [] n a = absurd a
in_number (m ∷ ms) n (inl e) = or_left (nat_eq m n) (has_number ms n) (eq-eqb m n e)
in_number (m ∷ ms) n (inr a) = or_right (nat_eq m n) (has_number ms n) (in_number ms n a)

module _ (part : Head Tree → Tree) (hs : List (Head Tree)) where
  part_there : (T : Tree) (o : Option (Head Tree)) → has_part part T o ≡ true → (h : Head Tree) × (o ≡ Some h) × (part h ≡ T)
  part_there T None e = absurd (cc)
  part_there T (Some h) e = (h, refl, same_tree-is (part h) T e)

  there_part : (T : Tree) (o : Option (Head Tree)) (h : Head Tree) → o ≡ Some h → part h ≡ T → has_part part T o ≡ true
  there_part T o h e p = subst (λ (q : Option (Head Tree)). has_part part T q ≡ true) (sym e) (same_from (part h) T p)

  some_there : (ns : List ℕ) (T : Tree) → some_head part hs ns T ≡ true → HasPart part hs ns T
  some_there [] T e = absurd (cc)
  some_there (n ∷ ns) T e = go (λ q. some_there ns T q) (or_cases (has_part part T (numbered hs n)) (some_head part hs ns T) e)
    where
      go : (some_head part hs ns T ≡ true → HasPart part hs ns T) → (has_part part T (numbered hs n) ≡ true) ⊎ (some_head part hs ns T ≡ true) → HasPart part hs (n ∷ ns) T
      go rec (inl p) = let r = part_there T (numbered hs n) p in (n, r.0, inl refl, r.1, r.2)
      go rec (inr q) = let r = rec q in (r.0, r.1, inr r.2, r.3, r.4)

  there_some : (ns : List ℕ) (T : Tree) (n : ℕ) (h : Head Tree) → IsOneOf n ns → numbered hs n ≡ Some h → part h ≡ T → some_head part hs ns T ≡ true
  there_some [] T n h a e p = absurd a
  there_some (m ∷ ns) T n h (inl s) e p = or_left (has_part part T (numbered hs m)) (some_head part hs ns T) (there_part T (numbered hs m) h (ap (numbered hs) s ∙ e) p)
  there_some (m ∷ ns) T n h (inr a) e p = or_right (has_part part T (numbered hs m)) (some_head part hs ns T) (there_some ns T n h a e p)

  each_there : (ns : List ℕ) (Ts : List Tree) → each_some_head part hs ns Ts ≡ true → AllByRecursion (HasPart part hs ns) Ts
  each_there ns [] e = tt
  each_there ns (T ∷ Ts) e = let r = and_parts (some_head part hs ns T) (each_some_head part hs ns Ts) e in (some_there ns T r.0, each_there ns Ts r.1)

  there_each : (ns : List ℕ) (Ts : List Tree) → AllByRecursion (HasPart part hs ns) Ts → each_some_head part hs ns Ts ≡ true
  there_each ns [] a = refl
  there_each ns (T ∷ Ts) a = and_from (some_head part hs ns T) (each_some_head part hs ns Ts) (let r = a.0 in there_some ns T r.0 r.1 r.2 r.3 r.4) (there_each ns Ts a.1)

  leaf_rule_of : (gs : List Goal) (left : Head Tree) (ns : List ℕ) (n : ℕ) (o : Option Goal) → numbered gs n ≡ o → leaf_stands part left hs ns o ≡ true →
      LeafRule part (claims gs) left hs ns n
  leaf_rule_of gs left ns n None q e = absurd (cc)
  leaf_rule_of gs left ns n (Some g) q e =
      let r = and_parts (same_tree g.left (part left)) (each_some_head part hs ns g.rights) e in
      record { claim = claim_of g; stands = goal_claim gs n g q; same_left = same_tree-is g.left (part left) r.0; rights_stand = each_there ns g.rights r.1 }

  rule_leaf : (gs : List Goal) (left : Head Tree) (ns : List ℕ) (n : ℕ) → LeafRule part (claims gs) left hs ns n → leaf_stands part left hs ns (numbered gs n) ≡ true
  rule_leaf gs left ns n r =
      let g = goal_of gs n r.claim r.stands in
      subst (λ (o : Option Goal). leaf_stands part left hs ns o ≡ true) (sym g.1)
      (and_from (same_tree (g.0).left (part left)) (each_some_head part hs ns (g.0).rights) (same_from (g.0).left (part left) (ap (λ (c : Claim Tree). c.left) g.2 ∙ r.same_left))
      (there_each ns (g.0).rights (subst (λ (c : Claim Tree). AllByRecursion (HasPart part hs ns) c.rights) (sym g.2) r.rights_stand)))

module _ (a : Atom) (hs : List (Head Tree)) where
  head_there : (o : Option (Head Tree)) → head_matches a o ≡ true → (h : Head Tree) × (o ≡ Some h) × (matches h.kind a ≡ true)
  head_there None e = absurd (cc)
  head_there (Some h) e = (h, refl, e)

  split_rule : (s : Sides) (n : ℕ) → split_allowed a hs s n ≡ true → SplitRule a hs s n
  split_rule s n e =
      let r = and_parts (head_matches a (numbered hs n)) (not (has_number s.content n || has_number s.rest n)) e in
      let h = head_there (numbered hs n) r.0 in
      let f = not_true (has_number s.content n || has_number s.rest n) r.1 in
      record {
        head = h.0;
        stands = h.1;
        fits = h.2;
        new_to_content = λ m. let w = or_left (has_number s.content n) (has_number s.rest n) (in_number s.content n m) in cc;
        new_to_rest = λ m. let w = or_right (has_number s.content n) (has_number s.rest n) (in_number s.rest n m) in cc;
      }

  rule_split : (s : Sides) (n : ℕ) → SplitRule a hs s n → split_allowed a hs s n ≡ true
  rule_split s n r =
      and_from (head_matches a (numbered hs n)) (not (has_number s.content n || has_number s.rest n))
      (subst (λ (o : Option (Head Tree)). head_matches a o ≡ true) (sym r.stands) r.fits)
      (true_not (has_number s.content n || has_number s.rest n)
      (λ e. elim (or_cases (has_number s.content n) (has_number s.rest n) e) [ inl p ↦ r.new_to_content (number_in s.content n p) | inr q ↦ r.new_to_rest (number_in s.rest n q) ]))

atom_is : (a b : Atom) → same_atom a b ≡ true → a ≡ b
atom_is (Label l) (Label m) e = ap Label ((bytes_eq-Decides l m).0 e)
atom_is OtherLabel OtherLabel e = refl
atom_is (Text s) (Text t) e = ap Text ((bytes_eq-Decides s t).0 e)
atom_is OtherText OtherText e = refl
atom_is _ _ e = absurd (cc)

atom_same : (a : Atom) → same_atom a a ≡ true
atom_same (Label l) = (bytes_eq-Decides l l).1 refl
atom_same OtherLabel = refl
atom_same (Text s) = (bytes_eq-Decides s s).1 refl
atom_same OtherText = refl

abbrev pair : ℕ → Atom → HeadAtom
pair n a = (n, a)

head_atom_is : (c : Case) (w : HeadAtom) → same_head_atom c w ≡ true → head_atom c ≡ w
head_atom_is c w e =
    let r = and_parts (nat_eq c.head w.0) (same_atom c.atom w.1) e in ap (λ n. pair n c.atom) (eqb-true c.head w.0 r.0) ∙ ap (pair w.0) (atom_is c.atom w.1 r.1)

is_head_atom : (c : Case) (w : HeadAtom) → head_atom c ≡ w → same_head_atom c w ≡ true
is_head_atom c w e = subst (λ (v : HeadAtom). same_head_atom c v ≡ true) e (and_from (nat_eq c.head c.head) (same_atom c.atom c.atom) (eq-eqb c.head c.head refl) (atom_same c.atom))

-- What an answer says: nothing is broken where it is none, and else what is.

abbrev Says : Type 0 → (Reason → Type 0) → Option Reason → Type 0
Says H B None = H
Says H B (Some r) = B r

abbrev SaysAt : Type 0 → (ℕ → Reason → Type 0) → Option Refusal → Type 0
SaysAt H B None = H
SaysAt H B (Some p) = B p.0 p.1

test_says : (H : Type 0) (B : Reason → Type 0) (b : Bool) (r : Reason) → (b ≡ true → H) → (H → b ≡ true) → ((H → ⊥) → B r) → Says H B (reason_unless b r)
test_says H B true r f g k = f refl
test_says H B false r f g k = k (λ h. let e : false ≡ true = g h in cc)

test_says_at : (H : Type 0) (B : ℕ → Reason → Type 0) (n : ℕ) (b : Bool) (r : Reason) → (b ≡ true → H) → (H → b ≡ true) → ((H → ⊥) → B n r) →
    SaysAt H B (at_line n (reason_unless b r))
test_says_at H B n true r f g k = f refl
test_says_at H B n false r f g k = k (λ h. let e : false ≡ true = g h in cc)

split_says : (H K L : Type 0) (C D F : Reason → Type 0) (o p q : Option Reason) → Says H F o → Says K C p → Says L D q → (H → (r : Reason) → C r → F r) →
    (H → K → (r : Reason) → D r → F r) → Says (H × K × L) F (or_next o (or_next p q))
split_says H K L C D F None None None h k l f g = (h, k, l)
split_says H K L C D F None None (Some r) h k l f g = g h k r l
split_says H K L C D F None (Some r) q h k l f g = f h r k
split_says H K L C D F (Some r) p q h k l f g = h

module _ (gs : List Goal) (a : Atom) (left : Head Tree) (hs : List (Head Tree)) where
  choice_says : (s : Sides) (t : ChoiceTree) → Says (LabelTree (claims gs) a left hs s t) (TreeViolation (claims gs) a left hs s t) (wrong_choice gs a left hs s t)
  choice_says s (settles_content n) =
      test_says (LeafRule (λ h. h.content) (claims gs) left hs s.content n) (TreeViolation (claims gs) a left hs s (settles_content n)) (leaf_stands (λ h. h.content) left hs s.content (numbered gs n)) bad_leaf
      (leaf_rule_of (λ h. h.content) hs gs left s.content n (numbered gs n) refl) (rule_leaf (λ h. h.content) hs gs left s.content n) (λ f. content_leaf f)
  choice_says s (settles_rest n) =
      test_says (LeafRule (λ h. h.rest) (claims gs) left hs s.rest n) (TreeViolation (claims gs) a left hs s (settles_rest n)) (leaf_stands (λ h. h.rest) left hs s.rest (numbered gs n)) bad_leaf
      (leaf_rule_of (λ h. h.rest) hs gs left s.rest n (numbered gs n) refl) (rule_leaf (λ h. h.rest) hs gs left s.rest n) (λ f. rest_leaf f)
  choice_says s (split_on n t u) =
      split_says (SplitRule a hs s n) (LabelTree (claims gs) a left hs (on_content n s) t) (LabelTree (claims gs) a left hs (on_rest n s) u)
      (TreeViolation (claims gs) a left hs (on_content n s) t) (TreeViolation (claims gs) a left hs (on_rest n s) u) (TreeViolation (claims gs) a left hs s (split_on n t u))
      (reason_unless (split_allowed a hs s n) bad_split) (wrong_choice gs a left hs (on_content n s) t) (wrong_choice gs a left hs (on_rest n s) u)
      (test_says (SplitRule a hs s n) (TreeViolation (claims gs) a left hs s (split_on n t u)) (split_allowed a hs s n) bad_split (split_rule a hs s n) (rule_split a hs s n) (λ f. at_split f))
      (choice_says (on_content n s) t) (choice_says (on_rest n s) u) (λ h r b. in_content h b) (λ h k r b. in_rest h k b)

  text_says : (t : ChoiceTree) → Says (TextTree (claims gs) a left hs t) (TextViolation (claims gs) a left hs t) (wrong_text gs a left hs t)
  text_says (settles_content n) = text_content
  text_says (split_on n t u) = text_split
  text_says (settles_rest n) =
      test_says (LeafRule (λ h. h.rest) (claims gs) left hs (matching a 1 hs) n) (TextViolation (claims gs) a left hs (settles_rest n)) (leaf_stands (λ h. h.rest) left hs (matching a 1 hs) (numbered gs n)) bad_leaf
      (leaf_rule_of (λ h. h.rest) hs gs left (matching a 1 hs) n (numbered gs n) refl) (rule_leaf (λ h. h.rest) hs gs left (matching a 1 hs) n) (λ f. text_leaf f)

  -- the rules allow no violation
  tree_not : {s : Sides} {t : ChoiceTree} {r : Reason} → TreeViolation (claims gs) a left hs s t r → LabelTree (claims gs) a left hs s t → ⊥
  tree_not (content_leaf f) l = f l
  tree_not (rest_leaf f) l = f l
  tree_not (at_split f) l = f l.0
  tree_not (in_content h b) l = tree_not b l.1
  tree_not (in_rest h k b) l = tree_not b l.2

  text_not : {t : ChoiceTree} {r : Reason} → TextViolation (claims gs) a left hs t r → TextTree (claims gs) a left hs t → ⊥
  text_not (text_leaf f) l = f l
  text_not text_content l = l
  text_not text_split l = l

  -- and there is one at most
  tree_one : {s : Sides} {t : ChoiceTree} {r q : Reason} → TreeViolation (claims gs) a left hs s t r → TreeViolation (claims gs) a left hs s t q → r ≡ q
  tree_one (content_leaf f) (content_leaf g) = refl
  tree_one (rest_leaf f) (rest_leaf g) = refl
  tree_one (at_split f) (at_split g) = refl
  tree_one (at_split f) (in_content h c) = absurd (f h)
  tree_one (at_split f) (in_rest h k c) = absurd (f h)
  tree_one (in_content h b) (at_split g) = absurd (g h)
  tree_one (in_content h b) (in_content i c) = tree_one b c
  tree_one (in_content h b) (in_rest i k c) = absurd (tree_not b k)
  tree_one (in_rest h k b) (at_split g) = absurd (g h)
  tree_one (in_rest h k b) (in_content i c) = absurd (tree_not c k)
  tree_one (in_rest h k b) (in_rest i j c) = tree_one b c

  text_one : {t : ChoiceTree} {r q : Reason} → TextViolation (claims gs) a left hs t r → TextViolation (claims gs) a left hs t q → r ≡ q
  text_one (text_leaf f) (text_leaf g) = refl
  text_one text_content text_content = refl
  text_one text_split text_split = refl

module _ (gs : List Goal) (left : Head Tree) (hs : List (Head Tree)) where
  tree_says : (a : Atom) (t : ChoiceTree) → Says (TreeRule (claims gs) a left hs t) (ChoiceViolation (claims gs) a left hs t) (wrong_tree gs a left hs t)
  tree_says (Label l) t = choice_says gs (Label l) left hs no_sides t
  tree_says OtherLabel t = choice_says gs OtherLabel left hs no_sides t
  tree_says (Text s) t = text_says gs (Text s) left hs t
  tree_says OtherText t = text_says gs OtherText left hs t

  choice_not : (a : Atom) (t : ChoiceTree) (r : Reason) → ChoiceViolation (claims gs) a left hs t r → TreeRule (claims gs) a left hs t → ⊥
  choice_not (Label l) t r b k = tree_not gs (Label l) left hs b k
  choice_not OtherLabel t r b k = tree_not gs OtherLabel left hs b k
  choice_not (Text s) t r b k = text_not gs (Text s) left hs b k
  choice_not OtherText t r b k = text_not gs OtherText left hs b k

  choice_one : (a : Atom) (t : ChoiceTree) (r q : Reason) → ChoiceViolation (claims gs) a left hs t r → ChoiceViolation (claims gs) a left hs t q → r ≡ q
  choice_one (Label l) t r q b c = tree_one gs (Label l) left hs b c
  choice_one OtherLabel t r q b c = tree_one gs OtherLabel left hs b c
  choice_one (Text s) t r q b c = text_one gs (Text s) left hs b c
  choice_one OtherText t r q b c = text_one gs OtherText left hs b c

-- the head and atom are of one of these heads
abbrev Stands : List (Head Tree) → HeadAtom → Type 0
Stands hs w = (h : Head Tree) × (numbered hs w.0 ≡ Some h)

atoms_stand : (names : Named) (n : ℕ) (hs : List (Head Tree)) (w : HeadAtom) → IsOneOf w (atoms_from names n hs)
    → (k : ℕ) × (w.0 ≡ n + k) × (h : Head Tree) × (numbered hs (suc k) ≡ Some h)
atoms_stand names n [] w m = absurd m
atoms_stand names n (g ∷ hs) w m =
    elim (mem_append w (map (pair n) (atoms_of names g.kind)) (atoms_from names (n + 1) hs) m) [
      | inl i ↦ let r = mem_map (pair n) w (atoms_of names g.kind) i in let e : n ≡ w.0 = ap (λ (v : HeadAtom). v.0) r.2 in (0, omega (arith, e), g, refl)
      | inr i ↦ let r = atoms_stand names (n + 1) hs w i in (suc r.0, omega (arith, r.1), r.2, r.3)
    ]

module _ (E : Definitions) (gs : List Goal) (g : Goal) where
  abbrev Stand : List HeadAtom → Type 0
  Stand ws = (w : HeadAtom) → IsOneOf w ws → Stands (heads E g.left) w

  wanted_stand : Stand (wanted (heads E g.left) (right_heads E g))
  wanted_stand w m =
      let r = atoms_stand (named_in (heads E g.left ++ right_heads E g)) 1 (heads E g.left) w m in
      let e : w.0 ≡ suc r.0 = omega (arith, r.1) in
      (r.2, ap (numbered (heads E g.left)) e ∙ r.3)

  abbrev Cases : List HeadAtom → List Case → Type 0
  Cases ws cs = (map head_atom cs ≡ ws) × AllByRecursion (CaseRule (claims gs) (heads E g.left) (right_heads E g)) cs

  cases_joined : (c : Case) (cs : List Case) (w : HeadAtom) (ws : List HeadAtom) → head_atom c ≡ w → CaseRule (claims gs) (heads E g.left) (right_heads E g) c → Cases ws cs → Cases (w ∷ ws) (c ∷ cs)
  cases_joined c cs w ws e r k = (ap (λ (v : HeadAtom). v ∷ map head_atom cs) e ∙ ap (λ l. w ∷ l) k.0, (r, k.1))

  cases_says : (n : ℕ) (ws : List HeadAtom) (cs : List Case) → Stand ws → SaysAt (Cases ws cs) (CasesViolation E gs g n ws cs) (wrong_cases E gs g n ws cs)
  cases_says n [] [] W = (refl, tt)
  cases_says n [] (c ∷ cs) W = too_many
  cases_says n (w ∷ ws) [] W = too_few
  cases_says n (w ∷ ws) (c ∷ cs) W = by_case (same_head_atom c w) refl (cases_says (n + 1) ws cs (λ v i. W v (inr i)))
    where
      by_rest : (p : Option Refusal) → SaysAt (Cases ws cs) (CasesViolation E gs g (n + 1) ws cs) p → head_atom c ≡ w → CaseRule (claims gs) (heads E g.left) (right_heads E g) c →
          SaysAt (Cases (w ∷ ws) (c ∷ cs)) (CasesViolation E gs g n (w ∷ ws) (c ∷ cs)) p
      by_rest None k e r = cases_joined c cs w ws e r k
      by_rest (Some q) b e r = later_case e r b

      by_tree : (left : Head Tree) → numbered (heads E g.left) c.head ≡ Some left → head_atom c ≡ w → (o : Option Reason)
          → Says (TreeRule (claims gs) c.atom left (right_heads E g) c.choice) (ChoiceViolation (claims gs) c.atom left (right_heads E g) c.choice) o → SaysAt (Cases ws cs) (CasesViolation E gs g (n + 1) ws cs) (wrong_cases E gs g (n + 1) ws cs)
          → SaysAt (Cases (w ∷ ws) (c ∷ cs)) (CasesViolation E gs g n (w ∷ ws) (c ∷ cs)) (or_next (at_line n o) (wrong_cases E gs g (n + 1) ws cs))
      by_tree left q e None k m = by_rest (wrong_cases E gs g (n + 1) ws cs) m e (record { left_head = left; stands = q; tree = k })
      by_tree left q e (Some r) b m = in_tree e left q b

      by_head : (o : Option (Head Tree)) → numbered (heads E g.left) c.head ≡ o → head_atom c ≡ w → SaysAt (Cases ws cs) (CasesViolation E gs g (n + 1) ws cs) (wrong_cases E gs g (n + 1) ws cs)
          → SaysAt (Cases (w ∷ ws) (c ∷ cs)) (CasesViolation E gs g n (w ∷ ws) (c ∷ cs)) (or_next (at_line n (wrong_case gs (right_heads E g) c o)) (wrong_cases E gs g (n + 1) ws cs))
      by_head None q e m =
          let x = W w (inl refl) in
          let k : c.head ≡ w.0 = ap (λ (v : HeadAtom). v.0) e in
          let z : numbered (heads E g.left) c.head ≡ Some x.0 = ap (numbered (heads E g.left)) k ∙ x.1 in
          absurd (cc)
      by_head (Some left) q e m = by_tree left q e (wrong_tree gs c.atom left (right_heads E g) c.choice) (tree_says gs left (right_heads E g) c.atom c.choice) m

      by_case : (b : Bool) → same_head_atom c w ≡ b → SaysAt (Cases ws cs) (CasesViolation E gs g (n + 1) ws cs) (wrong_cases E gs g (n + 1) ws cs)
          → SaysAt (Cases (w ∷ ws) (c ∷ cs)) (CasesViolation E gs g n (w ∷ ws) (c ∷ cs))
          (or_next (at_line n (reason_unless b bad_case)) (or_next (at_line n (wrong_case gs (right_heads E g) c (numbered (heads E g.left) c.head))) (wrong_cases E gs g (n + 1) ws cs)))
      by_case true e m = by_head (numbered (heads E g.left) c.head) refl (head_atom_is c w e) m
      by_case false e m = other_case (λ q. let k = is_head_atom c w q in cc)

  in_case : (c : Case) (r : Reason) (left : Head Tree) → numbered (heads E g.left) c.head ≡ Some left → ChoiceViolation (claims gs) c.atom left (right_heads E g) c.choice r → CaseRule (claims gs) (heads E g.left) (right_heads E g) c → ⊥
  in_case c r left q b z =
      let there = z.stands in
      let s : z.left_head ≡ left = cc in
      choice_not gs left (right_heads E g) c.atom c.choice r b (subst (λ h. TreeRule (claims gs) c.atom h (right_heads E g) c.choice) s z.tree)

  cases_not : {n : ℕ} {ws : List HeadAtom} {cs : List Case} {m : ℕ} {r : Reason} → CasesViolation E gs g n ws cs m r → Cases ws cs → ⊥
  cases_not too_many k = let e = k.0 in cc
  cases_not too_few k = let e = k.0 in cc
  cases_not (other_case f) k = let e = k.0 in f (cc)
  cases_not (in_tree {c} {r} e left q b) k = in_case c r left q b (k.1).0
  cases_not (later_case {ws} {cs} e z b) k = let e = k.0 in let l : map head_atom cs ≡ ws = cc in cases_not b (l, (k.1).1)

  cases_one : {n : ℕ} {ws : List HeadAtom} {cs : List Case} {m k : ℕ} {r q : Reason} → CasesViolation E gs g n ws cs m r → CasesViolation E gs g n ws cs k q → (m ≡ k) × (r ≡ q)
  cases_one too_many too_many = (refl, refl)
  cases_one too_few too_few = (refl, refl)
  cases_one (other_case f) (other_case h) = (refl, refl)
  cases_one (other_case f) (in_tree e left p b) = absurd (f e)
  cases_one (other_case f) (later_case e z b) = absurd (f e)
  cases_one (in_tree e left p b) (other_case f) = absurd (f e)
  cases_one (in_tree {c} {r} e left p b) (in_tree {r = q} i other o d) =
      let s : other ≡ left = cc in
      (refl, choice_one gs left (right_heads E g) c.atom c.choice r q b (subst (λ h. ChoiceViolation (claims gs) c.atom h (right_heads E g) c.choice q) s d))
  cases_one (in_tree {c} {r} e left p b) (later_case i z d) = absurd (in_case c r left p b z)
  cases_one (later_case e z b) (other_case f) = absurd (f e)
  cases_one (later_case e z b) (in_tree {c} {r} i left p d) = absurd (in_case c r left p d z)
  cases_one (later_case e z b) (later_case i y d) = cases_one b d

  right_there : (o : Option Tree) → right_is_empty E o ≡ true → (T : Tree) × (o ≡ Some T) × (can_be_empty E T ≡ true)
  right_there None e = absurd (cc)
  right_there (Some T) e = (T, refl, e)

  empty_rule : (o : Option ℕ) → empty_stands E g o ≡ true → EmptyRule E g o
  empty_rule None e = not_true (can_be_empty E g.left) e
  empty_rule (Some n) e =
      let r = and_parts (can_be_empty E g.left) (right_is_empty E (numbered g.rights n)) e in
      let t = right_there (numbered g.rights n) r.1 in
      (r.0, t.0, t.1, t.2)

  rule_empty : (o : Option ℕ) → EmptyRule E g o → empty_stands E g o ≡ true
  rule_empty None r = true_not (can_be_empty E g.left) (λ e. cc)
  rule_empty (Some n) r =
      and_from (can_be_empty E g.left) (right_is_empty E (numbered g.rights n)) r.0 (subst (λ (o : Option Tree). right_is_empty E o ≡ true) (sym r.2) r.3)

module _ (E : Definitions) (gs : List Goal) where
  goal_says : (l : Lined) → SaysAt (KeepsRules E gs l.goal) (GoalViolation E gs l) (wrong_goal E gs l)
  goal_says l = by_empty (empty_stands E l.goal (l.goal).empty_right) refl
    where
      by_cases : EmptyRule E l.goal (l.goal).empty_right → (o : Option Refusal)
          → SaysAt (Cases E gs l.goal (wanted (heads E (l.goal).left) (right_heads E l.goal)) (l.goal).cases) (CasesViolation E gs l.goal (line_behind l + empty_lines (l.goal).empty_right) (wanted (heads E (l.goal).left) (right_heads E l.goal)) (l.goal).cases) o
          → SaysAt (KeepsRules E gs l.goal) (GoalViolation E gs l) o
      by_cases e None k = record { empty = e; cases = k.0; trees = k.1 }
      by_cases e (Some p) b = in_cases e b

      by_empty : (b : Bool) → empty_stands E l.goal (l.goal).empty_right ≡ b
          → SaysAt (KeepsRules E gs l.goal) (GoalViolation E gs l)
          (or_next (at_line (line_behind l) (reason_unless b bad_empty)) (wrong_cases E gs l.goal (line_behind l + empty_lines (l.goal).empty_right) (wanted (heads E (l.goal).left) (right_heads E l.goal)) (l.goal).cases))
      by_empty true e =
          by_cases (empty_rule E gs l.goal (l.goal).empty_right e) (wrong_cases E gs l.goal (line_behind l + empty_lines (l.goal).empty_right) (wanted (heads E (l.goal).left) (right_heads E l.goal)) (l.goal).cases)
          (cases_says E gs l.goal (line_behind l + empty_lines (l.goal).empty_right) (wanted (heads E (l.goal).left) (right_heads E l.goal)) (l.goal).cases (wanted_stand E gs l.goal))
      by_empty false e = on_empty (λ r. let k = rule_empty E gs l.goal (l.goal).empty_right r in cc)

  goal_not : {l : Lined} {m : ℕ} {r : Reason} → GoalViolation E gs l m r → KeepsRules E gs l.goal → ⊥
  goal_not (on_empty f) k = f k.empty
  goal_not {l} (in_cases e b) k = cases_not E gs l.goal b (k.cases, k.trees)

  goal_one : {l : Lined} {m k : ℕ} {r q : Reason} → GoalViolation E gs l m r → GoalViolation E gs l k q → (m ≡ k) × (r ≡ q)
  goal_one (on_empty f) (on_empty g) = (refl, refl)
  goal_one (on_empty f) (in_cases e b) = absurd (f e)
  goal_one (in_cases e b) (on_empty f) = absurd (f e)
  goal_one {l} (in_cases e b) (in_cases i c) = cases_one E gs l.goal b c

  goals_says : (ls : List Lined) → SaysAt (AllByRecursion (KeepsRules E gs) (goals_of ls)) (GoalsViolation E gs ls) (wrong_goals E gs ls)
  goals_says [] = tt
  goals_says (l ∷ ls) = by_first (wrong_goal E gs l) (goal_says l) (wrong_goals E gs ls) (goals_says ls)
    where
      by_first : (o : Option Refusal) → SaysAt (KeepsRules E gs l.goal) (GoalViolation E gs l) o → (p : Option Refusal)
          → SaysAt (AllByRecursion (KeepsRules E gs) (goals_of ls)) (GoalsViolation E gs ls) p
          → SaysAt (AllByRecursion (KeepsRules E gs) (goals_of (l ∷ ls))) (GoalsViolation E gs (l ∷ ls)) (or_next o p)
      by_first None k None m = (k, m)
      by_first None k (Some q) b = later_goal k b
      by_first (Some q) b p m = this_goal b

  goals_not : {ls : List Lined} {m : ℕ} {r : Reason} → GoalsViolation E gs ls m r → AllByRecursion (KeepsRules E gs) (goals_of ls) → ⊥
  goals_not (this_goal b) k = goal_not b k.0
  goals_not (later_goal h b) k = goals_not b k.1

  goals_one : {ls : List Lined} {m k : ℕ} {r q : Reason} → GoalsViolation E gs ls m r → GoalsViolation E gs ls k q → (m ≡ k) × (r ≡ q)
  goals_one (this_goal b) (this_goal c) = goal_one b c
  goals_one (this_goal b) (later_goal h c) = absurd (goal_not b h)
  goals_one (later_goal h b) (this_goal c) = absurd (goal_not c h)
  goals_one (later_goal h b) (later_goal i c) = goals_one b c

-- what is computed says whether the rules hold, and else which is broken first
pub computed : (E : Definitions) (ls : List Lined) → SaysAt (AllByRecursion (KeepsRules E (goals_of ls)) (goals_of ls)) (GoalsViolation E (goals_of ls) ls) (first_wrong E ls)
computed E ls = goals_says E (goals_of ls) ls

pub first_is : (E : Definitions) (ls : List Lined) (n : ℕ) (r : Reason) → first_wrong E ls ≡ Some (n, r) → IsFirstViolation E ls n r
first_is E ls n r e =
    subst (λ (o : Option Refusal). SaysAt (AllByRecursion (KeepsRules E (goals_of ls)) (goals_of ls)) (GoalsViolation E (goals_of ls) ls) o) e (computed E ls)

pub none_is : (E : Definitions) (ls : List Lined) → first_wrong E ls ≡ None → AllByRecursion (KeepsRules E (goals_of ls)) (goals_of ls)
none_is E ls e =
    subst (λ (o : Option Refusal). SaysAt (AllByRecursion (KeepsRules E (goals_of ls)) (goals_of ls)) (GoalsViolation E (goals_of ls) ls) o) e (computed E ls)

pub violations_are_found : ViolationsAreFound
violations_are_found E ls = by_answer (first_wrong E ls) (computed E ls)
  where
    by_answer : (o : Option Refusal) → SaysAt (AllByRecursion (KeepsRules E (goals_of ls)) (goals_of ls)) (GoalsViolation E (goals_of ls) ls) o
        → AllByRecursion (KeepsRules E (goals_of ls)) (goals_of ls) ⊎ ((n : ℕ) × (r : Reason) × IsFirstViolation E ls n r)
    by_answer None k = inl k
    by_answer (Some p) b = inr (p.0, p.1, b)

pub rules_are_tested : RulesAreTested
rules_are_tested E ls = (
  λ f. elim (violations_are_found E ls) [ inl k ↦ k | inr b ↦ absurd (f b.0 b.1 b.2) ],
  λ k n r b. goals_not E (goals_of ls) b k,
)

pub violation_is_one : ViolationIsOne
violation_is_one E ls n m r q b c = goals_one E (goals_of ls) b c
