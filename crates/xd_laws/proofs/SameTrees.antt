-- Trees that are tested to be the same are equal.
use Rattle.std.proofs.Common.{◌≡◌, Bool, true, false, cond, not, refl, ap, ◌∙◌}
use Rattle.std.specs.Str.{bytes_eq}
use Rattle.std.specs.Cmp.Lexicographic.{pointwise}
use Rattle.std.proofs.lemmas.Slice.Eq.{bytes_eq-Decides, slice_eq-Decides}
use Rattle.std.proofs.lemmas.Bool.{and_from}
use Rattle.xd_doc.specs.Classes.{LabelClass}
use Rattle.xd_doc.proofs.Bools.{and_parts}
use Rattle.xd_syntax.specs.Tree.{Tree, Empty, Text, Words, Name, Elem, Seq, Alt, Star, Plus, Opt, Val}
use Rattle.xd_laws.proofs.FirstWrong.{same_class, same_tree}

same_flag : (x y : Bool) → cond x y (not y) ≡ true → x ≡ y
same_flag true true e = refl
same_flag true false e = absurd (cc)
same_flag false true e = absurd (cc)
same_flag false false e = refl

same_class-is : (c e : LabelClass) → same_class c e ≡ true → c ≡ e
same_class-is c e h =
    let r = and_parts (cond c.except e.except (not e.except)) (pointwise bytes_eq c.names e.names) h in
    let n : c.names ≡ e.names = (slice_eq-Decides bytes_eq-Decides c.names e.names (pointwise bytes_eq c.names e.names) refl).0 r.1 in
    ap (λ ns. let k : LabelClass = record { names = ns; except = c.except } in k) n
    ∙ ap (λ b. let k : LabelClass = record { names = e.names; except = b } in k) (same_flag c.except e.except r.0)

pub same_tree-is : (T U : Tree) → same_tree T U ≡ true → T ≡ U
same_tree-is Empty Empty h = refl
same_tree-is Text Text h = refl
same_tree-is (Words v) (Words w) h = ap Words (same_class-is v w h)
same_tree-is (Name x) (Name y) h = ap Name ((bytes_eq-Decides x y).0 h)
same_tree-is (Elem c T) (Elem e U) h =
    let r = and_parts (same_class c e) (same_tree T U) h in
    ap (λ k. Elem k T) (same_class-is c e r.0) ∙ ap (Elem e) (same_tree-is T U r.1)
same_tree-is (Seq T U) (Seq S R) h =
    let r = and_parts (same_tree T S) (same_tree U R) h in
    ap (λ k. Seq k U) (same_tree-is T S r.0) ∙ ap (Seq S) (same_tree-is U R r.1)
same_tree-is (Alt T U) (Alt S R) h =
    let r = and_parts (same_tree T S) (same_tree U R) h in
    ap (λ k. Alt k U) (same_tree-is T S r.0) ∙ ap (Alt S) (same_tree-is U R r.1)
same_tree-is (Star T) (Star U) h = ap Star (same_tree-is T U h)
same_tree-is (Plus T) (Plus U) h = ap Plus (same_tree-is T U h)
same_tree-is (Opt T) (Opt U) h = ap Opt (same_tree-is T U h)
same_tree-is (Val x T) (Val y U) h =
    let r = and_parts (bytes_eq x y) (same_tree T U) h in
    ap (λ k. Val k T) ((bytes_eq-Decides x y).0 r.0) ∙ ap (Val y) (same_tree-is T U r.1)
same_tree-is _ _ h = absurd (cc)

flag_same : (b : Bool) → cond b b (not b) ≡ true
flag_same true = refl
flag_same false = refl

class_same : (c : LabelClass) → same_class c c ≡ true
class_same c =
    and_from (cond c.except c.except (not c.except)) (pointwise bytes_eq c.names c.names) (flag_same c.except) ((slice_eq-Decides bytes_eq-Decides c.names c.names (pointwise bytes_eq c.names c.names) refl).1 refl)

pub tree_same : (T : Tree) → same_tree T T ≡ true
tree_same Empty = refl
tree_same Text = refl
tree_same (Words w) = class_same w
tree_same (Name x) = (bytes_eq-Decides x x).1 refl
tree_same (Elem c T) = and_from (same_class c c) (same_tree T T) (class_same c) (tree_same T)
tree_same (Seq T U) = and_from (same_tree T T) (same_tree U U) (tree_same T) (tree_same U)
tree_same (Alt T U) = and_from (same_tree T T) (same_tree U U) (tree_same T) (tree_same U)
tree_same (Star T) = tree_same T
tree_same (Plus T) = tree_same T
tree_same (Opt T) = tree_same T
tree_same (Val x T) = and_from (bytes_eq x x) (same_tree T T) ((bytes_eq-Decides x x).1 refl) (tree_same T)
