-- Types that the same documents fit.
use Rattle.std.proofs.Common.{◌≡◌, ◌⊎◌, ◌↔◌, inl, inr, true, refl, sym, ◌∙◌, subst, List, [], ◌∷◌, ◌++◌}
use Rattle.xd_doc.specs.Document.{Document, empty, text, element, has_item}
use Rattle.xd_doc.specs.Classes.{LabelClass}
use Rattle.xd_doc.proofs.Bools.{and_true, and_assoc}
use Rattle.xd_doc.proofs.Logic.{sum_map}
use Rattle.xd_syntax.specs.Tree.{Tree, Empty, Elem, Seq, Alt, Star, Plus, Opt, seq_of}
use Rattle.xd_syntax.specs.TreeForms.{alt_of}
use Rattle.xd_meaning.specs.FitsWithin.{Repeats, no_turn}
use Rattle.xd_same_types.specs.Same.{Meaning, FitsAs, MeansSame, TakesItem, SomeFits, tops_only}
use Rattle.xd_same_types.proofs.Tops.{and_same, and_itself}
use Rattle.xd_same_types.proofs.Splits.{split_map, split_left, split_right, none_then, then_only, then_none, first_only, item_first, item_second, rep_one, rep_map, front_plus, back_plus, twice, once_more}

pub same_refl : (T : Tree) → MeansSame T T
same_refl T = record { both = λ N d. (λ f. f, λ f. f); tops = λ known. refl }

pub same_of : {T U : Tree} → T ≡ U → MeansSame T U
same_of {T} e = subst (λ V. MeansSame T V) e (same_refl T)

pub same_back : {T U : Tree} → MeansSame T U → MeansSame U T
same_back s = record { both = λ N d. ((s.both N d).1, (s.both N d).0); tops = λ known. sym (s.tops known) }

pub same_then : {T U V : Tree} → MeansSame T U → MeansSame U V → MeansSame T V
same_then s t = record {
  both = λ N d. (λ f. (t.both N d).0 ((s.both N d).0 f), λ f. (s.both N d).1 ((t.both N d).1 f));
  tops = λ known. s.tops known ∙ t.tops known;
}

-- the same with others in their places
pub same_at : {T U V W : Tree} → T ≡ V → U ≡ W → MeansSame V W → MeansSame T U
same_at {T} {U} {V} {W} e f s = subst (λ x. MeansSame x U) (sym e) (subst (λ x. MeansSame V x) (sym f) s)

pub seq_same : {T U V W : Tree} → MeansSame T V → MeansSame U W → MeansSame (Seq T U) (Seq V W)
seq_same {T} {U} {V} {W} s t = record {
  both = λ N d. (
    split_map (FitsAs N T) (FitsAs N U) (FitsAs N V) (FitsAs N W) (λ e. (s.both N e).0) (λ e. (t.both N e).0) d,
    split_map (FitsAs N V) (FitsAs N W) (FitsAs N T) (FitsAs N U) (λ e. (s.both N e).1) (λ e. (t.both N e).1) d,
  );
  tops = λ known. and_same (s.tops known) (t.tops known);
}

pub alt_same : {T U V W : Tree} → MeansSame T V → MeansSame U W → MeansSame (Alt T U) (Alt V W)
alt_same s t = record {
  both = λ N d. (sum_map (s.both N d).0 (t.both N d).0, sum_map (s.both N d).1 (t.both N d).1);
  tops = λ known. and_same (s.tops known) (t.tops known);
}

pub star_same : {T U : Tree} → MeansSame T U → MeansSame (Star T) (Star U)
star_same {T} {U} s = record {
  both = λ N d.
      (rep_map (FitsAs N T) (FitsAs N U) (λ e. (s.both N e).0) d, rep_map (FitsAs N U) (FitsAs N T) (λ e. (s.both N e).1) d);
  tops = s.tops;
}

pub opt_same : {T U : Tree} → MeansSame T U → MeansSame (Opt T) (Opt U)
opt_same s = record { both = λ N d. (sum_map (λ e. e) (s.both N d).0, sum_map (λ e. e) (s.both N d).1); tops = s.tops }

pub seq_assoc : (T U V : Tree) → MeansSame (Seq (Seq T U) V) (Seq T (Seq U V))
seq_assoc T U V = record {
  both = λ N d. (split_right (FitsAs N T) (FitsAs N U) (FitsAs N V) d, split_left (FitsAs N T) (FitsAs N U) (FitsAs N V) d);
  tops = λ known. and_assoc (tops_only known T) (tops_only known U) (tops_only known V);
}

pub empty_seq : (T : Tree) → MeansSame (Seq Empty T) T
empty_seq T = record { both = λ N d. (then_only (FitsAs N T) d, none_then (FitsAs N T) d); tops = λ known. refl }

pub seq_empty : (T : Tree) → MeansSame (Seq T Empty) T
seq_empty T = record { both = λ N d. (first_only (FitsAs N T) d, then_none (FitsAs N T) d); tops = λ known. and_true (tops_only known T) }

pub seq_cons : (T : Tree) (Ts : List Tree) → MeansSame (seq_of (T ∷ Ts)) (Seq T (seq_of Ts))
seq_cons T [] = same_back (seq_empty T)
seq_cons T (U ∷ Us) = same_refl (Seq T (seq_of (U ∷ Us)))

pub seq_append : (Ts Us : List Tree) → MeansSame (seq_of (Ts ++ Us)) (Seq (seq_of Ts) (seq_of Us))
seq_append [] Us = same_back (empty_seq (seq_of Us))
seq_append (T ∷ Ts) Us =
    same_then (seq_cons T (Ts ++ Us)) (same_then (seq_same (same_refl T) (seq_append Ts Us))
    (same_then (same_back (seq_assoc T (seq_of Ts) (seq_of Us))) (seq_same (same_back (seq_cons T Ts)) (same_refl (seq_of Us)))))

pub seq_push : (Ts : List Tree) (U : Tree) → MeansSame (seq_of (Ts ++ U ∷ [])) (Seq (seq_of Ts) U)
seq_push Ts U = seq_append Ts (U ∷ [])

-- one type for two
pub one_star : (T : Tree) → MeansSame (Seq T (Star T)) (Plus T)
one_star T = record { both = λ N d. (λ f. f, λ f. f); tops = λ known. and_itself (tops_only known T) }

pub star_one : (T : Tree) → MeansSame (Seq (Star T) T) (Plus T)
star_one T = record { both = λ N d. (front_plus (FitsAs N T) d, back_plus (FitsAs N T) d); tops = λ known. and_itself (tops_only known T) }

pub star_star : (T : Tree) → MeansSame (Seq (Star T) (Star T)) (Star T)
star_star T = record { both = λ N d. (twice (FitsAs N T) d, once_more (FitsAs N T) d); tops = λ known. and_itself (tops_only known T) }

pub plus_then_star : (T : Tree) → MeansSame (Seq (Plus T) (Star T)) (Plus T)
plus_then_star T =
    same_then (seq_same (same_back (one_star T)) (same_refl (Star T)))
    (same_then (seq_assoc T (Star T) (Star T)) (same_then (seq_same (same_refl T) (star_star T)) (one_star T)))

pub star_then_plus : (T : Tree) → MeansSame (Seq (Star T) (Plus T)) (Plus T)
star_then_plus T =
    same_then (seq_same (same_refl (Star T)) (same_back (one_star T)))
    (same_then (same_back (seq_assoc (Star T) T (Star T)))
    (same_then (seq_same (star_one T) (same_refl (Star T))) (plus_then_star T)))

opt_rep : (P : Document → Type 0) (e : Document) → (e ≡ empty) ⊎ P e → Repeats P e
opt_rep P e (inl q) = subst (Repeats P) (sym q) no_turn
opt_rep P e (inr q) = rep_one P e q

pub opt_then_star : (T : Tree) → MeansSame (Seq (Opt T) (Star T)) (Star T)
opt_then_star T = record {
  both = λ N d.
      (λ f. twice (FitsAs N T) d (f.0, f.1, f.2, opt_rep (FitsAs N T) f.0 f.3, f.4), λ f. (empty, d, refl, inl refl, f));
  tops = λ known. and_itself (tops_only known T);
}

pub star_then_opt : (T : Tree) → MeansSame (Seq (Star T) (Opt T)) (Star T)
star_then_opt T = record {
  both = λ N d. (
    λ f. twice (FitsAs N T) d (f.0, f.1, f.2, f.3, opt_rep (FitsAs N T) f.1 f.4),
    λ f. let n = then_none (Repeats (FitsAs N T)) d f in (n.0, n.1, n.2, n.3, inl n.4),
  );
  tops = λ known. and_itself (tops_only known T);
}

-- the same of types of these forms
pub fuse_star_star : (A B X : Tree) → A ≡ Star X → B ≡ Star X → MeansSame A (Seq A B)
fuse_star_star A B X e f = subst (λ a. MeansSame a (Seq a B)) (sym e) (subst (λ b. MeansSame (Star X) (Seq (Star X) b)) (sym f) (same_back (star_star X)))

pub fuse_plus_star : (A B X : Tree) → A ≡ Plus X → B ≡ Star X → MeansSame A (Seq A B)
fuse_plus_star A B X e f = subst (λ a. MeansSame a (Seq a B)) (sym e) (subst (λ b. MeansSame (Plus X) (Seq (Plus X) b)) (sym f) (same_back (plus_then_star X)))

pub fuse_opt_star : (A B X : Tree) → A ≡ Opt X → B ≡ Star X → MeansSame B (Seq A B)
fuse_opt_star A B X e f = subst (λ a. MeansSame B (Seq a B)) (sym e) (subst (λ b. MeansSame b (Seq (Opt X) b)) (sym f) (same_back (opt_then_star X)))

pub fuse_star_plus : (A B X : Tree) → A ≡ Star X → B ≡ Plus X → MeansSame B (Seq A B)
fuse_star_plus A B X e f = subst (λ a. MeansSame B (Seq a B)) (sym e) (subst (λ b. MeansSame b (Seq (Star X) b)) (sym f) (same_back (star_then_plus X)))

pub fuse_star_opt : (A B X : Tree) → A ≡ Star X → B ≡ Opt X → MeansSame A (Seq A B)
fuse_star_opt A B X e f = subst (λ a. MeansSame a (Seq a B)) (sym e) (subst (λ b. MeansSame (Star X) (Seq (Star X) b)) (sym f) (same_back (star_then_opt X)))

pub fuse_one_star : (A B : Tree) → B ≡ Star A → MeansSame (Plus A) (Seq A B)
fuse_one_star A B f = subst (λ b. MeansSame (Plus A) (Seq A b)) (sym f) (same_back (one_star A))

pub fuse_star_one : (A B : Tree) → A ≡ Star B → MeansSame (Plus B) (Seq A B)
fuse_star_one A B e = subst (λ a. MeansSame (Plus B) (Seq a B)) (sym e) (same_back (star_one B))

-- what takes an item
pub takes_same : {T U : Tree} → MeansSame T U → TakesItem U → TakesItem T
takes_same s t = record { item = λ N d f. t.item N d ((s.both N d).0 f) }

pub takes_seq_left : (T U : Tree) → TakesItem T → TakesItem (Seq T U)
takes_seq_left T U t = record { item = λ N d f. let i = item_first f.0 f.1 (t.item N f.0 f.3) in subst (λ e. has_item e ≡ true) f.2 i }

pub takes_seq_right : (T U : Tree) → TakesItem U → TakesItem (Seq T U)
takes_seq_right T U t = record { item = λ N d f. let i = item_second f.0 f.1 (t.item N f.1 f.4) in subst (λ e. has_item e ≡ true) f.2 i }

pub takes_alt : (T U : Tree) → TakesItem T → TakesItem U → TakesItem (Alt T U)
takes_alt T U t u = record { item = λ N d f. go N d f }
  where
    go : (N : Meaning) (d : Document) → FitsAs N T d ⊎ FitsAs N U d → has_item d ≡ true
    go N d (inl f) = t.item N d f
    go N d (inr f) = u.item N d f

pub takes_elem : (c : LabelClass) (T : Tree) → TakesItem (Elem c T)
takes_elem c T = record { item = λ N d f. go N d f }
  where
    go : (N : Meaning) (d : Document) → FitsAs N (Elem c T) d → has_item d ≡ true
    go N empty f = absurd f
    go N (text s r) f = refl
    go N (element l k r) f = refl

-- alternatives
pub some_alt : (T : Tree) (Ts : List Tree) (N : Meaning) (d : Document) → FitsAs N (alt_of (T ∷ Ts)) d ↔ SomeFits N d (T ∷ Ts)
some_alt T [] N d = (λ f. inl f, λ f. only f)
  where
    only : FitsAs N T d ⊎ ⊥ → FitsAs N T d
    only (inl f) = f
    only (inr n) = absurd n
some_alt T (U ∷ Us) N d = let i = some_alt U Us N d in (sum_map (λ f. f) i.0, sum_map (λ f. f) i.1)
