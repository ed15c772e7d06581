-- Codes of forms differ where the forms' trees do.
use Rattle.std.proofs.Common.{◌≡◌, ℕ, ◌+◌, ◌<◌, ◌≤◌, arith, Bool, true, false, ◌||◌, List, [], ◌∷◌, ◌++◌, map, length, take, drop, get_or, refl, ap, sym, subst, ◌∙◌, append_assoc, append-nil}
use Rattle.std.specs.List.{AllByRecursion}
use Rattle.std.proofs.lemmas.List.{take_more, take-append-drop}
use Rattle.xd_doc.specs.Classes.{LabelClass}
use Rattle.xd_doc.proofs.Lists.{same_fronts}
use Rattle.xd_syntax.specs.Tree.{Tree, Empty, Text, Words, Name, Elem, Seq, Alt, Star, Plus, Opt, Val, seq_of, is_empty}
use Rattle.xd_syntax.specs.TreeForms.{alt_of, is_seq, is_alt}
use Rattle.xd_syntax.specs.Table.{Row, Form, empty_form, text_form, words_form, name_form, elem_form, seq_form, alt_form, star_form, plus_form, opt_form, val_form, form_tree, tree_at, CanFollow, IsSeqPart, IsAltPart, PartsBelow}
use Rattle.xd_syntax.proofs.Trees.{tree_kept}
use Rattle.xd_moves.specs.Codes.{code_names, code_except, form_code}

-- ---- a form's code reads the numbers of its parts alone

same_numbers : (f g : ℕ → ℕ) (n : ℕ) → ((i : ℕ) → i < n → f i ≡ g i) → (is : List ℕ) → AllByRecursion (λ i. i < n) is → map f is ≡ map g is
same_numbers f g n h [] a = refl
same_numbers f g n h (i ∷ is) a = let e = h i a.0 in let k = same_numbers f g n h is a.1 in cc

pub same_code : (f g : ℕ → ℕ) (n : ℕ) → ((i : ℕ) → i < n → f i ≡ g i) → (F : Form) → PartsBelow n F → form_code f F ≡ form_code g F
same_code f g n h empty_form p = refl
same_code f g n h text_form p = refl
same_code f g n h (words_form w) p = refl
same_code f g n h (name_form w) p = refl
same_code f g n h (elem_form c i) p = ap (λ k. 4 ∷ (k ∷ (code_except c.except ∷ code_names c.names))) (h i p)
same_code f g n h (seq_form is) p = ap (λ ks. 5 ∷ ks) (same_numbers f g n h is p)
same_code f g n h (alt_form is) p = ap (λ ks. 6 ∷ ks) (same_numbers f g n h is p)
same_code f g n h (star_form i) p = ap (λ k. 7 ∷ (k ∷ [])) (h i p)
same_code f g n h (plus_form i) p = ap (λ k. 8 ∷ (k ∷ [])) (h i p)
same_code f g n h (opt_form i) p = ap (λ k. 9 ∷ (k ∷ [])) (h i p)
same_code f g n h (val_form x q i) p = ap (λ k. 10 ∷ (k ∷ x)) (h i p)

-- ---- lists of numbers that are equal

same_cons : (x y : ℕ) (xs ys : List ℕ) → (x ∷ xs) ≡ (y ∷ ys) → (x ≡ y) × (xs ≡ ys)
same_cons x y xs ys e = (cc, cc)

same_names : (vs ws : List (List ℕ)) → code_names vs ≡ code_names ws → vs ≡ ws
same_names [] [] e = refl
same_names [] (w ∷ ws) e = cc
same_names (v ∷ vs) [] e = cc
same_names (v ∷ vs) (w ∷ ws) e =
    let c = same_cons (length v) (length w) (v ++ code_names vs) (w ++ code_names ws) e in
    let f = same_fronts v w (code_names vs) (code_names ws) c.0 c.1 in
    let r = same_names vs ws f.1 in
    let a = f.0 in cc

same_except : (a b : Bool) → code_except a ≡ code_except b → a ≡ b
same_except false false e = refl
same_except false true e = absurd (omega arith)
same_except true false e = absurd (omega arith)
same_except true true e = refl

same_class : (c e : LabelClass) → c.except ≡ e.except → c.names ≡ e.names → c ≡ e
same_class c e x n =
    ap (λ ns. let k : LabelClass = record { names = ns; except = c.except } in k) n ∙ ap (λ b. let k : LabelClass = record { names = e.names; except = b } in k) x

class_coded : (c e : LabelClass) → (code_except c.except ∷ code_names c.names) ≡ (code_except e.except ∷ code_names e.names) → c ≡ e
class_coded c e h =
    let r = same_cons (code_except c.except) (code_except e.except) (code_names c.names) (code_names e.names) h in
    same_class c e (same_except c.except e.except r.0) (same_names c.names e.names r.1)

first_number : List ℕ → ℕ
first_number [] = 11
first_number (x ∷ xs) = x

-- ---- from codes to trees

module _ (num : ℕ → ℕ) (t : ℕ → Tree) (m n : ℕ) (h : (i j : ℕ) → i < m → j < n → num i ≡ num j → t i ≡ t j) where
  parts_coded : (is js : List ℕ) → AllByRecursion (λ i. i < m) is → AllByRecursion (λ j. j < n) js → map num is ≡ map num js → map t is ≡ map t js
  parts_coded [] [] a b e = refl
  parts_coded [] (j ∷ js) a b e = cc
  parts_coded (i ∷ is) [] a b e = cc
  parts_coded (i ∷ is) (j ∷ js) a b e =
      let c = same_cons (num i) (num j) (map num is) (map num js) e in
      let p = h i j a.0 b.0 c.0 in
      let q = parts_coded is js a.1 b.1 c.1 in cc

  part_coded : (k l i j : ℕ) → i < m → j < n → (k ∷ (num i ∷ [])) ≡ (l ∷ (num j ∷ [])) → t i ≡ t j
  part_coded k l i j p q e = h i j p q (same_cons (num i) (num j) [] [] (same_cons k l (num i ∷ []) (num j ∷ []) e).1).0

  tail_coded : (k l : ℕ) (xs ys : List ℕ) → (k ∷ xs) ≡ (l ∷ ys) → xs ≡ ys
  tail_coded k l xs ys e = (same_cons k l xs ys e).1

  pub coded : (F G : Form) → PartsBelow m F → PartsBelow n G → form_code num F ≡ form_code num G → form_tree t F ≡ form_tree t G
  unfolding first_number
  coded empty_form empty_form p q e = refl
  coded text_form text_form p q e = refl
  coded (words_form v) (words_form w) p q e = ap Words (class_coded v w (tail_coded 2 2 (code_except v.except ∷ code_names v.names) (code_except w.except ∷ code_names w.names) e))
  coded (name_form x) (name_form y) p q e = ap Name (tail_coded 3 3 x y e)
  coded (elem_form c i) (elem_form d j) p q e =
      let r = same_cons (num i) (num j) (code_except c.except ∷ code_names c.names) (code_except d.except ∷ code_names d.names)
      (tail_coded 4 4 (num i ∷ (code_except c.except ∷ code_names c.names)) (num j ∷ (code_except d.except ∷ code_names d.names)) e) in
      let a = class_coded c d r.1 in
      let b = h i j p q r.0 in cc
  coded (seq_form is) (seq_form js) p q e = ap seq_of (parts_coded is js p q (tail_coded 5 5 (map num is) (map num js) e))
  coded (alt_form is) (alt_form js) p q e = ap alt_of (parts_coded is js p q (tail_coded 6 6 (map num is) (map num js) e))
  coded (star_form i) (star_form j) p q e = ap Star (part_coded 7 7 i j p q e)
  coded (plus_form i) (plus_form j) p q e = ap Plus (part_coded 8 8 i j p q e)
  coded (opt_form i) (opt_form j) p q e = ap Opt (part_coded 9 9 i j p q e)
  coded (val_form x a i) (val_form y b j) p q e =
      let r = same_cons (num i) (num j) x y (tail_coded 10 10 (num i ∷ x) (num j ∷ y) e) in
      let f = h i j p q r.0 in
      let g = r.1 in cc
  coded F G p q e = absurd (let f = ap first_number e in omega arith)

-- ---- from trees to codes

tree_kind : Tree → ℕ
tree_kind Empty = 0
tree_kind Text = 1
tree_kind (Words w) = 2
tree_kind (Name x) = 3
tree_kind (Elem c T) = 4
tree_kind (Seq T U) = 5
tree_kind (Alt T U) = 6
tree_kind (Star T) = 7
tree_kind (Plus T) = 8
tree_kind (Opt T) = 9
tree_kind (Val x T) = 10

form_kind : Form → ℕ
form_kind empty_form = 0
form_kind text_form = 1
form_kind (words_form w) = 2
form_kind (name_form x) = 3
form_kind (elem_form c i) = 4
form_kind (seq_form is) = 5
form_kind (alt_form is) = 6
form_kind (star_form i) = 7
form_kind (plus_form i) = 8
form_kind (opt_form i) = 9
form_kind (val_form x p i) = 10

pub IsSeqTree : (ℕ → Tree) → ℕ → Type 0
IsSeqTree t i = (is_seq (t i) || is_empty (t i)) ≡ false

pub IsAltTree : (ℕ → Tree) → ℕ → Type 0
IsAltTree t i = is_alt (t i) ≡ false

-- the form is merged, where its parts have these trees
abbrev pub AreMerged : (ℕ → Tree) → Form → Type 0
AreMerged t (seq_form is) = (2 ≤ length is) × AllByRecursion (IsSeqTree t) is
AreMerged t (alt_form is) = (2 ≤ length is) × AllByRecursion (IsAltTree t) is
AreMerged t F = Unit {0}

module _ (rows : List Row) (i : ℕ) where
  taken : (j : ℕ) → j < length (take i rows) → tree_at (take i rows) j ≡ tree_at rows j
  taken j h = sym (tree_kept (take i rows) (drop i rows) j h) ∙ ap (λ rs. tree_at rs j) (take-append-drop i rows)

  seq_parts : (is : List ℕ) → AllByRecursion (IsSeqPart (take i rows)) is → AllByRecursion (IsSeqTree (tree_at rows)) is
  unfolding IsSeqTree
  seq_parts [] a = tt
  seq_parts (j ∷ js) a = (let b = a.0 in subst (λ T. (is_seq T || is_empty T) ≡ false) (taken j b.0) b.1, seq_parts js a.1)

  alt_parts : (is : List ℕ) → AllByRecursion (IsAltPart (take i rows)) is → AllByRecursion (IsAltTree (tree_at rows)) is
  unfolding IsAltTree
  alt_parts [] a = tt
  alt_parts (j ∷ js) a = (let b = a.0 in subst (λ T. is_alt T ≡ false) (taken j b.0) b.1, alt_parts js a.1)

  pub merged : (F : Form) → CanFollow false (take i rows) F → AreMerged (tree_at rows) F
  merged (seq_form is) a = (a.0, seq_parts is a.1)
  merged (alt_form is) a = (a.0, alt_parts is a.1)
  merged F a = tt

same_tag : (t : ℕ → Tree) (F : Form) → AreMerged t F → tree_kind (form_tree t F) ≡ form_kind F
unfolding tree_kind form_kind
same_tag t empty_form a = refl
same_tag t text_form a = refl
same_tag t (words_form w) a = refl
same_tag t (name_form x) a = refl
same_tag t (elem_form c i) a = refl
same_tag t (seq_form []) a = absurd (let h = a.0 in omega arith)
same_tag t (seq_form (i ∷ [])) a = absurd (let h = a.0 in omega arith)
same_tag t (seq_form (i ∷ (j ∷ is))) a = refl
same_tag t (alt_form []) a = absurd (let h = a.0 in omega arith)
same_tag t (alt_form (i ∷ [])) a = absurd (let h = a.0 in omega arith)
same_tag t (alt_form (i ∷ (j ∷ is))) a = refl
same_tag t (star_form i) a = refl
same_tag t (plus_form i) a = refl
same_tag t (opt_form i) a = refl
same_tag t (val_form x p i) a = refl

-- the parts of a sequence, and of an alternative
parts_of_seq : Tree → List Tree
parts_of_seq (Seq T U) = T ∷ parts_of_seq U
parts_of_seq T = T ∷ []

parts_of_alt : Tree → List Tree
parts_of_alt (Alt T U) = T ∷ parts_of_alt U
parts_of_alt T = T ∷ []

one_seq : (T : Tree) → (is_seq T || is_empty T) ≡ false → parts_of_seq T ≡ T ∷ []
unfolding parts_of_seq
one_seq (Seq T U) h = cc
one_seq T h = refl

one_alt : (T : Tree) → is_alt T ≡ false → parts_of_alt T ≡ T ∷ []
unfolding parts_of_alt
one_alt (Alt T U) h = cc
one_alt T h = refl

seq_again : (t : ℕ → Tree) (i : ℕ) (is : List ℕ) → AllByRecursion (IsSeqTree t) (i ∷ is) → parts_of_seq (seq_of (map t (i ∷ is))) ≡ map t (i ∷ is)
unfolding parts_of_seq IsSeqTree
seq_again t i [] a = one_seq (t i) a.0
seq_again t i (j ∷ js) a = ap (λ Ts. t i ∷ Ts) (seq_again t j js a.1)

alt_again : (t : ℕ → Tree) (i : ℕ) (is : List ℕ) → AllByRecursion (IsAltTree t) (i ∷ is) → parts_of_alt (alt_of (map t (i ∷ is))) ≡ map t (i ∷ is)
unfolding parts_of_alt IsAltTree
alt_again t i [] a = one_alt (t i) a.0
alt_again t i (j ∷ js) a = ap (λ Ts. t i ∷ Ts) (alt_again t j js a.1)

seq_same : (t : ℕ → Tree) (is js : List ℕ) → AreMerged t (seq_form is) → AreMerged t (seq_form js) → seq_of (map t is) ≡ seq_of (map t js) → map t is ≡ map t js
seq_same t [] js a b e = absurd (let h = a.0 in omega arith)
seq_same t (i ∷ is) [] a b e = absurd (let h = b.0 in omega arith)
seq_same t (i ∷ is) (j ∷ js) a b e = sym (seq_again t i is a.1) ∙ ap parts_of_seq e ∙ seq_again t j js b.1

alt_same : (t : ℕ → Tree) (is js : List ℕ) → AreMerged t (alt_form is) → AreMerged t (alt_form js) → alt_of (map t is) ≡ alt_of (map t js) → map t is ≡ map t js
alt_same t [] js a b e = absurd (let h = a.0 in omega arith)
alt_same t (i ∷ is) [] a b e = absurd (let h = b.0 in omega arith)
alt_same t (i ∷ is) (j ∷ js) a b e = sym (alt_again t i is a.1) ∙ ap parts_of_alt e ∙ alt_again t j js b.1

same_trees : (x y : Tree) (xs ys : List Tree) → (x ∷ xs) ≡ (y ∷ ys) → (x ≡ y) × (xs ≡ ys)
same_trees x y xs ys e = (cc, cc)

module _ (num : ℕ → ℕ) (t : ℕ → Tree) (m n : ℕ) (h : (i j : ℕ) → i < m → j < n → t i ≡ t j → num i ≡ num j) where
  parts_numbered : (is js : List ℕ) → AllByRecursion (λ i. i < m) is → AllByRecursion (λ j. j < n) js → map t is ≡ map t js → map num is ≡ map num js
  parts_numbered [] [] a b e = refl
  parts_numbered [] (j ∷ js) a b e = cc
  parts_numbered (i ∷ is) [] a b e = cc
  parts_numbered (i ∷ is) (j ∷ js) a b e =
      let c = same_trees (t i) (t j) (map t is) (map t js) e in
      let p = h i j a.0 b.0 c.0 in
      let q = parts_numbered is js a.1 b.1 c.1 in cc

  pub encoded : (F G : Form) → PartsBelow m F → PartsBelow n G → AreMerged t F → AreMerged t G → form_tree t F ≡ form_tree t G → form_code num F ≡ form_code num G
  unfolding form_kind
  encoded empty_form empty_form p q a b e = refl
  encoded text_form text_form p q a b e = refl
  encoded (words_form v) (words_form w) p q a b e = let f : v ≡ w = cc in ap (λ (c : LabelClass). 2 ∷ (code_except c.except ∷ code_names c.names)) f
  encoded (name_form x) (name_form y) p q a b e = let f : x ≡ y = cc in ap (λ ns. 3 ∷ ns) f
  encoded (elem_form c i) (elem_form d j) p q a b e =
      let f : c ≡ d = cc in
      let g : t i ≡ t j = cc in
      ap (λ k. 4 ∷ (k ∷ (code_except c.except ∷ code_names c.names))) (h i j p q g) ∙ ap (λ (s : LabelClass). 4 ∷ (num j ∷ (code_except s.except ∷ code_names s.names))) f
  encoded (seq_form is) (seq_form js) p q a b e = ap (λ ks. 5 ∷ ks) (parts_numbered is js p q (seq_same t is js a b e))
  encoded (alt_form is) (alt_form js) p q a b e = ap (λ ks. 6 ∷ ks) (parts_numbered is js p q (alt_same t is js a b e))
  encoded (star_form i) (star_form j) p q a b e = let g : t i ≡ t j = cc in ap (λ k. 7 ∷ (k ∷ [])) (h i j p q g)
  encoded (plus_form i) (plus_form j) p q a b e = let g : t i ≡ t j = cc in ap (λ k. 8 ∷ (k ∷ [])) (h i j p q g)
  encoded (opt_form i) (opt_form j) p q a b e = let g : t i ≡ t j = cc in ap (λ k. 9 ∷ (k ∷ [])) (h i j p q g)
  encoded (val_form x u i) (val_form y v j) p q a b e =
      let f : x ≡ y = cc in
      let g : t i ≡ t j = cc in
      ap (λ k. 10 ∷ (k ∷ x)) (h i j p q g) ∙ ap (λ z. 10 ∷ (num j ∷ z)) f
  encoded F G p q a b e = absurd (let f = sym (same_tag t F a) ∙ ap tree_kind e ∙ same_tag t G b in omega arith)

-- ---- one more name, and one more part

names_more : (xs : List (List ℕ)) (w : List ℕ) → code_names (xs ++ w ∷ []) ≡ code_names xs ++ (length w ∷ w)
names_more [] w = ap (λ k. length w ∷ k) (append-nil w)
names_more (x ∷ xs) w =
    ap (λ k. length x ∷ (x ++ k)) (names_more xs w) ∙ ap (λ k. length x ∷ k) (sym (append_assoc x (code_names xs) (length w ∷ w)))

pub names_taken : (ws : List (List ℕ)) (n : ℕ) (w : List ℕ) → n < length ws → w ≡ get_or ws n w → code_names (take (n + 1) ws) ≡ code_names (take n ws) ++ (length w ∷ w)
names_taken ws n w h e = ap code_names (take_more ws n w h ∙ ap (λ v. take n ws ++ v ∷ []) (sym e)) ∙ names_more (take n ws) w
