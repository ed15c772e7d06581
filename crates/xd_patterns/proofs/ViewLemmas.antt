-- What a piece is, by the form of its node.
use Rattle.std.proofs.Common.{◌≡◌, ℕ, zero, suc, ◌+◌, ◌-◌, ◌<◌, ◌≤◌, nat_eq, arith, Bool, true, false, cond, List, [], ◌∷◌, map, length, get_or, drop, take, refl, ap, sym, subst, ◌∙◌}
use Rattle.std.proofs.lemmas.Bool.Decides.{nat_tests}
use Rattle.std.specs.List.{AllByRecursion}
use Rattle.xd_doc.proofs.Lists.{all_below}
use Rattle.xd_syntax.specs.Tree.{Tree, Seq, Alt, seq_of}
use Rattle.xd_syntax.specs.TreeForms.{alt_of}
use Rattle.xd_base.specs.declared.Place.{Place}
use Rattle.xd_syntax.specs.Table.{Row, Form, seq_form, alt_form, form_tree, tree_at, PartsBelow, CanFollow}
use Rattle.xd_syntax.specs.Nodes.{IsNode}
use Rattle.xd_patterns.specs.declared.chains.Piece.{Piece}
use Rattle.xd_patterns.specs.Pieces.{form_at, form_rest, part_from, part_of, HasRest, HasTurns, IsFormPart, IsPieceOf, IsLike, node_piece, rest_piece}

pub same_row : (rows : List Row) (i : ℕ) (r : Row) → i < length rows → r ≡ get_or rows i r → form_at rows i ≡ r.form
same_row [] i r h e = absurd (omega arith)
same_row (x ∷ rows) zero r h e = ap (λ (z : Row). z.form) (sym e)
same_row (x ∷ rows) (suc i) r h e = same_row rows i r (omega arith) e

pub like_node : (rows : List Row) (b : Bool) (m i : ℕ) → i < length rows → IsLike rows b m (node_piece b i m)
like_node rows b m i h = record { source = refl; marked = refl; piece = record { there = h; part = tt } }

-- the first of the parts from there on, and the others
module _ (F : List Tree → Tree) (G : Tree → Tree → Tree) (one : (T : Tree) → F (T ∷ []) ≡ T) (more : (T U : Tree) (Us : List Tree) → F (T ∷ (U ∷ Us)) ≡ G T (F (U ∷ Us))) (t : ℕ → Tree) where
  last_one : (is : List ℕ) (d : ℕ) → length is ≡ 1 → F (map t is) ≡ t (get_or is 0 d)
  last_one [] d h = absurd (omega arith)
  last_one (i ∷ []) d h = one (t i)
  last_one (i ∷ (j ∷ is)) d h = absurd (omega arith)

  next_part : (is : List ℕ) (n d : ℕ) → n + 2 ≤ length is → F (map t (drop n is)) ≡ G (t (get_or is n d)) (F (map t (drop (suc n) is)))
  next_part [] n d h = absurd (omega arith)
  next_part (i ∷ []) zero d h = absurd (omega arith)
  next_part (i ∷ (j ∷ is)) zero d h = more (t i) (t j) (map t is)
  next_part (i ∷ is) (suc n) d h = next_part is n d (omega arith)

  pub first_part : (is : List ℕ) (n d : ℕ) → n + 2 ≤ length is → F (map t (drop n is)) ≡ G (t (get_or is n d)) (F (map t (drop (n + 1) is)))
  first_part is n d h =
      let e : suc n ≡ n + 1 = omega arith in
      next_part is n d h ∙ ap (λ m. G (t (get_or is n d)) (F (map t (drop m is)))) e

  pub last_part : (is : List ℕ) (n d : ℕ) → n + 1 ≡ length is → F (map t (drop n is)) ≡ t (get_or is n d)
  last_part [] n d h = absurd (omega arith)
  last_part (i ∷ is) zero d h = last_one (i ∷ is) d (omega arith)
  last_part (i ∷ is) (suc n) d h = last_part is n d (omega arith)

get_below : (m : ℕ) (is : List ℕ) (i d : ℕ) → AllByRecursion (λ j. j < m) is → i < length is → get_or is i d < m
get_below m [] i d a h = absurd (omega arith)
get_below m (j ∷ is) zero d a h = a.0
get_below m (j ∷ is) (suc i) d a h = get_below m is i d a.1 (omega arith)

-- The form is a row of these parts: a sequence or an alternative.
pub record IsRow (f : Form) (is : List ℕ) (F : List Tree → Tree) (G : Tree → Tree → Tree) : Type 0 where
  pub one : (T : Tree) → F (T ∷ []) ≡ T
  pub more : (T U : Tree) (Us : List Tree) → F (T ∷ (U ∷ Us)) ≡ G T (F (U ∷ Us))
  pub tree : (t : ℕ → Tree) → form_tree t f ≡ F (map t is)
  pub rest : (t : ℕ → Tree) (n : ℕ) → form_rest t n f ≡ F (map t (drop n is))
  pub turns : HasTurns f → ⊥
  pub left : (n : ℕ) → HasRest n f → n + 2 ≤ length is
  pub has : (n : ℕ) → n + 2 ≤ length is → HasRest n f
  pub two : (b : Bool) (rows : List Row) → CanFollow b rows f → 2 ≤ length is
  pub below : (n : ℕ) → PartsBelow n f → AllByRecursion (λ j. j < n) is

pub seq_row : (is : List ℕ) → IsRow (seq_form is) is seq_of Seq
seq_row is = record {
  one = λ T. refl;
  more = λ T U Us. refl;
  tree = λ t. refl;
  rest = λ t n. refl;
  turns = λ h. h;
  left = λ n h. h;
  has = λ n h. h;
  two = λ b rows h. h.0;
  below = λ n h. h;
}

pub alt_row : (is : List ℕ) → IsRow (alt_form is) is alt_of Alt
alt_row is = record {
  one = λ T. refl;
  more = λ T U Us. refl;
  tree = λ t. refl;
  rest = λ t n. refl;
  turns = λ h. h;
  left = λ n h. h;
  has = λ n h. h;
  two = λ b rows h. h.0;
  below = λ n h. h;
}

-- a piece whose node is neither a row nor a repetition of at least one turn is the whole node
module _ (rows : List Row) (p : Piece) (piece : IsPieceOf rows p) (b : Bool) (i : ℕ) (same : i ≡ p.node) (place : Place) (seen : Form) (node : IsNode b rows i place seen) (f : Form) (is : seen ≡ f)
    (no_rest : (n : ℕ) → HasRest n f → ⊥) (no_turns : HasTurns f → ⊥) where
  pub whole_seen : part_of rows p ≡ form_tree (tree_at rows) f
  whole_seen = go p.is_turns p.from (subst (IsFormPart p.is_turns p.from) form_is piece.part)
    where
      form_is : form_at rows p.node ≡ f
      form_is = same_row rows p.node (record { place = place; form = seen }) piece.there (subst (λ n. record { place = place; form = seen } ≡ get_or rows n (record { place = place; form = seen })) same node.row) ∙ is

      go : (s : Bool) (n : ℕ) → IsFormPart s n f → part_from rows s n p.node ≡ form_tree (tree_at rows) f
      go false zero q = sym (ap (tree_at rows) same) ∙ node.tree ∙ ap (form_tree (tree_at rows)) is
      go false (suc n) q = absurd (no_rest (suc n) q)
      go true zero q = absurd (no_turns q)
      go true (suc n) q = absurd q

  -- with its only part
  pub part_seen : (G : Tree → Tree) (j marks : ℕ) (q : Piece) → form_tree (tree_at rows) f ≡ G (tree_at rows j) → (PartsBelow i f → j < i) → q ≡ node_piece p.of_pattern j marks
      → (part_of rows p ≡ G (part_of rows q)) × IsLike rows p.of_pattern marks q
  part_seen G j marks q tree below e =
      let lt : j < i = below (subst (PartsBelow i) is node.parts) in
      let there = piece.there in
      let h : j < length rows = omega arith in
      subst (λ (r : Piece). (part_of rows p ≡ G (part_of rows r)) × IsLike rows p.of_pattern marks r) (sym e) (whole_seen ∙ tree, like_node rows p.of_pattern marks j h)

-- a piece whose node is a row: the first part that it has, and the others
module _ (rows : List Row) (p : Piece) (piece : IsPieceOf rows p) (b : Bool) (i : ℕ) (same : i ≡ p.node) (place : Place) (f : Form) (node : IsNode b rows i place f) (is : List ℕ) (F : List Tree → Tree) (G : Tree → Tree → Tree)
    (row : IsRow f is F G) where
  formed : form_at rows p.node ≡ f
  formed = same_row rows p.node (record { place = place; form = f }) piece.there (subst (λ n. record { place = place; form = f } ≡ get_or rows n (record { place = place; form = f })) same node.row)

  -- it is no star
  no_star : p.is_turns ≡ false
  no_star = go p.is_turns p.from (subst (IsFormPart p.is_turns p.from) formed piece.part)
    where
      go : (s : Bool) (n : ℕ) → IsFormPart s n f → s ≡ false
      go false n q = refl
      go true zero q = absurd (row.turns q)
      go true (suc n) q = absurd q

  -- two parts are left or more
  two_left : p.from + 2 ≤ length is
  two_left = go p.from (subst (λ s. IsFormPart s p.from f) no_star (subst (IsFormPart p.is_turns p.from) formed piece.part))
    where
      go : (n : ℕ) → IsFormPart false n f → n + 2 ≤ length is
      go zero q = row.two b (take i rows) node.merged
      go (suc n) q = row.left (suc n) q

  part_left : (n : ℕ) → part_from rows false n p.node ≡ F (map (tree_at rows) (drop n is))
  part_left zero = sym (ap (tree_at rows) same) ∙ node.tree ∙ row.tree (tree_at rows)
  part_left (suc n) = ap (form_rest (tree_at rows) (suc n)) formed ∙ row.rest (tree_at rows) (suc n)

  is_part : (n : ℕ) → 0 < n → n + 2 ≤ length is → IsFormPart false n (form_at rows p.node)
  is_part zero z k = absurd (omega arith)
  is_part (suc n) z k = subst (HasRest (suc n)) (sym formed) (row.has (suc n) k)

  like_part : (n : ℕ) → n < length is → IsLike rows p.of_pattern p.marks (node_piece p.of_pattern (get_or is n 0) p.marks)
  like_part n h =
      let below = all_below i (length rows) (let t = piece.there in omega arith) is (row.below i node.parts) in
      like_node rows p.of_pattern p.marks (get_or is n 0) (get_below (length rows) is n 0 below h)

  count : (s : Bool) → nat_eq (p.from + 2) (length is) ≡ s → (s ≡ true → p.from + 2 ≡ length is) × (s ≡ false → p.from + 1 + 2 ≤ length is)
  count true q = (λ z. (grind (arith, nat_tests)), λ z. absurd (cc))
  count false q = (λ z. absurd (cc), λ z. let two = two_left in grind (arith, nat_tests))

  abbrev later : Bool → Piece
  later s =
      cond s (record { of_pattern = p.of_pattern; node = get_or is (length is - 1) 0; from = 0; is_turns = false; marks = p.marks })
      (record { of_pattern = p.of_pattern; node = p.node; from = p.from + 1; is_turns = p.is_turns; marks = p.marks })

  later_is : (s : Bool) → nat_eq (p.from + 2) (length is) ≡ s → part_of rows (later s) ≡ F (map (tree_at rows) (drop (p.from + 1) is))
  later_is true q =
      let c = (count true q).0 refl in
      let s : length is - 1 ≡ p.from + 1 = omega arith in
      ap (λ m. tree_at rows (get_or is m 0)) s ∙ sym (last_part F G row.one row.more (tree_at rows) is (p.from + 1) 0 (omega arith))
  later_is false q = ap (λ s. part_from rows s (p.from + 1) p.node) no_star ∙ part_left (p.from + 1)

  later_like : (s : Bool) → nat_eq (p.from + 2) (length is) ≡ s → IsLike rows p.of_pattern p.marks (later s)
  later_like true q = like_part (length is - 1) (let two = two_left in omega arith)
  later_like false q = record {
    source = refl;
    marked = refl;
    piece = record { there = piece.there; part = subst (λ s. IsFormPart s (p.from + 1) (form_at rows p.node)) (sym no_star) (is_part (p.from + 1) (omega arith) ((count false q).1 refl)) };
  }

  abbrev AreSeen : Piece → Piece → Type 0
  AreSeen first others =
      (part_of rows p ≡ G (part_of rows first) (part_of rows others)) × IsLike rows p.of_pattern p.marks first × IsLike rows p.of_pattern p.marks others

  pub row_seen : (first others : Piece) → first ≡ node_piece p.of_pattern (get_or is p.from 0) p.marks → others ≡ rest_piece p (length is) (get_or is (length is - 1) 0) → AreSeen first others
  row_seen first others fe oe =
      let two = two_left in
      let whole : part_of rows p ≡ F (map (tree_at rows) (drop p.from is)) = ap (λ s. part_from rows s p.from p.node) no_star ∙ part_left p.from in
      subst (λ q. AreSeen q others) (sym fe) (subst (AreSeen (node_piece p.of_pattern (get_or is p.from 0) p.marks)) (sym oe) (
        whole ∙ first_part F G row.one row.more (tree_at rows) is p.from 0 two_left ∙ ap (G (tree_at rows (get_or is p.from 0))) (sym (later_is (nat_eq (p.from + 2) (length is)) refl)),
        like_part p.from (omega arith),
        later_like (nat_eq (p.from + 2) (length is)) refl,
      ))
