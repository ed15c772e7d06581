-- Laws of alternatives.
use Rattle.std.proofs.Common.{◌≡◌, ◌⊎◌, ◌↔◌, inl, inr, ℕ, zero, suc, ◌<◌, Bool, true, false, ◌||◌, ◌&&◌, refl, sym, ap, ◌∙◌, subst, List, [], ◌∷◌, ◌++◌, length, get_or, set, arith}
use Rattle.std.specs.List.{AllByRecursion}
use Rattle.xd_doc.specs.Document.{Document, empty, text, element, join}
use Rattle.xd_doc.specs.Classes.{LabelClass, TextClass, class_has}
use Rattle.xd_doc.proofs.Bools.{and_true, or_cases, and_assoc}
use Rattle.xd_doc.proofs.Logic.{sum_map}
use Rattle.xd_syntax.specs.Tree.{Tree, Empty, Text, Words, Elem, Alt, Star, Plus, Opt, seq_of}
use Rattle.xd_syntax.specs.TreeForms.{alt_of}
use Rattle.xd_syntax.specs.Table.{Row}
use Rattle.xd_syntax.specs.Types.{tree}
use Rattle.xd_syntax.specs.declared.types.TypeId.{TypeId}
use Rattle.xd_meaning.specs.FitsWithin.{no_turn}
use Rattle.xd_same_types.specs.Same.{Meaning, FitsAs, MeansSame, SomeFits, CanBeEmpty, TakesIn, AddsFit, AddsFits, IsChoice, trees, tops_only, all_tops_only}
use Rattle.xd_same_types.proofs.Tops.{and_same, and_itself, and_swap, tops_alt, tops_push, tops_set}
use Rattle.xd_same_types.proofs.Splits.{rep_one, plus_star, star_cases}
use Rattle.xd_same_types.proofs.Laws.{some_alt, seq_cons}
use Rattle.xd_same_types.proofs.Facts.{or_left, or_right, or_swap, or_none, none_or, iff_then, iff_back}

-- what can be empty
pub empty_empty : (T : Tree) → T ≡ Empty → CanBeEmpty T
empty_empty T e = subst CanBeEmpty (sym e) (record { fits = λ N. refl })

pub star_empty : (T X : Tree) → T ≡ Star X → CanBeEmpty T
star_empty T X e = subst CanBeEmpty (sym e) (record { fits = λ N. no_turn })

pub opt_empty : (T X : Tree) → T ≡ Opt X → CanBeEmpty T
opt_empty T X e = subst CanBeEmpty (sym e) (record { fits = λ N. inl refl })

pub seq_parts_empty : (rs : List Row) (ids : List TypeId) → AllByRecursion (λ (id : TypeId). CanBeEmpty (tree rs id)) ids → CanBeEmpty (seq_of (trees rs ids))
seq_parts_empty rs [] h = record { fits = λ N. refl }
seq_parts_empty rs (id ∷ ids) h =
    let i = seq_parts_empty rs ids h.1 in
    record { fits = λ N. ((seq_cons (tree rs id) (trees rs ids)).both N empty).1 (empty, empty, refl, h.0.fits N, i.fits N) }

some_at : (N : Meaning) (Ts : List Tree) (k : ℕ) (T : Tree) → k < length Ts → T ≡ get_or Ts k T → CanBeEmpty T → SomeFits N empty Ts
some_at N [] k T l e c = absurd (omega arith)
some_at N (U ∷ Us) zero T l e c = inl (subst (λ x. FitsAs N x empty) e (c.fits N))
some_at N (U ∷ Us) (suc k) T l e c = let m : k < length Us = omega arith in inr (some_at N Us k T m e c)

pub alt_part_empty : (Ts : List Tree) (k : ℕ) (T : Tree) → k < length Ts → T ≡ get_or Ts k T → CanBeEmpty T → CanBeEmpty (alt_of Ts)
alt_part_empty [] k T l e c = absurd (omega arith)
alt_part_empty (U ∷ Us) k T l e c = record { fits = λ N. (some_alt U Us N empty).1 (some_at N (U ∷ Us) k T l e c) }

pub opt_nothing : (T : Tree) → CanBeEmpty T → MeansSame T (Opt T)
opt_nothing T c = record { both = λ N d. (λ f. inr f, λ f. back N d f); tops = λ known. refl }
  where
    back : (N : Meaning) (d : Document) → (d ≡ empty) ⊎ FitsAs N T d → FitsAs N T d
    back N d (inl e) = subst (FitsAs N T) (sym e) (c.fits N)
    back N d (inr f) = f

pub opt_plus : (T X : Tree) → T ≡ Plus X → MeansSame (Star X) (Opt T)
opt_plus T X e = subst (λ x. MeansSame (Star X) (Opt x)) (sym e) (record { both = λ N d. (λ f. star_cases (FitsAs N X) f, λ f. back N d f); tops = λ known. refl })
  where
    back : (N : Meaning) (d : Document) → (d ≡ empty) ⊎ FitsAs N (Plus X) d → FitsAs N (Star X) d
    back N d (inl q) = subst (FitsAs N (Star X)) (sym q) no_turn
    back N d (inr f) = plus_star (FitsAs N X) d f

-- what is in another
pub in_itself : (T U : Tree) → T ≡ U → TakesIn T U
in_itself T U e = subst (λ x. TakesIn T x) e (record { fits = λ N d f. f; tops = λ known. and_itself (tops_only known T) })

pub in_star : (T U : Tree) → T ≡ Star U → TakesIn T U
in_star T U e = subst (λ x. TakesIn x U) (sym e) (record { fits = λ N d f. rep_one (FitsAs N U) d f; tops = λ known. and_itself (tops_only known U) })

pub in_plus : (T U : Tree) → T ≡ Plus U → TakesIn T U
in_plus T U e = subst (λ x. TakesIn x U) (sym e) (record { fits = λ N d f. go N d f; tops = λ known. and_itself (tops_only known U) })
  where
    use_right : (N : Meaning) (d : Document) → join d empty ≡ d → FitsAs N U d → FitsAs N (Plus U) d
    use_right N d q f = (d, empty, q, f, no_turn)

    right : (d : Document) → join d empty ≡ d
    right empty = refl
    right (text s r) = ap (text s) (right r)
    right (element l k r) = ap (element l k) (right r)

    go : (N : Meaning) (d : Document) → FitsAs N U d → FitsAs N (Plus U) d
    go N d f = use_right N d (right d) f

pub plus_in_star : (T U X : Tree) → T ≡ Star X → U ≡ Plus X → TakesIn T U
plus_in_star T U X e f = subst (λ x. TakesIn x U) (sym e) (subst (λ x. TakesIn (Star X) x) (sym f) (record { fits = λ N d g. plus_star (FitsAs N X) d g; tops = λ known. and_itself (tops_only known X) }))

pub words_in_text : (T U : Tree) (w : TextClass) → T ≡ Text → U ≡ Words w → TakesIn T U
words_in_text T U w e f = subst (λ x. TakesIn x U) (sym e) (subst (λ x. TakesIn Text x) (sym f) (record { fits = λ N d g. go N d g; tops = λ known. refl }))
  where
    go : (N : Meaning) (d : Document) → FitsAs N (Words w) d → FitsAs N Text d
    go N empty g = absurd g
    go N (text s r) g = g.0
    go N (element l k r) g = absurd g

pub first_of_both : {T U : Tree} → TakesIn T U → MeansSame T (Alt T U)
first_of_both {T} {U} t = record { both = λ N d. (λ f. inl f, λ f. back N d f); tops = λ known. sym (t.tops known) }
  where
    back : (N : Meaning) (d : Document) → FitsAs N T d ⊎ FitsAs N U d → FitsAs N T d
    back N d (inl f) = f
    back N d (inr f) = t.fits N d f

pub second_of_both : {T U : Tree} → TakesIn U T → MeansSame U (Alt T U)
second_of_both {T} {U} t = record { both = λ N d. (λ f. inr f, λ f. back N d f); tops = λ known. sym (t.tops known) ∙ and_swap (tops_only known U) (tops_only known T) }
  where
    back : (N : Meaning) (d : Document) → FitsAs N T d ⊎ FitsAs N U d → FitsAs N U d
    back N d (inl f) = t.fits N d f
    back N d (inr f) = f

-- elements of two classes
pub united_elements : (c e k : LabelClass) (T : Tree) → ((l : List ℕ) → class_has c l ≡ (class_has e l || class_has k l)) → MeansSame (Elem c T) (Alt (Elem e T) (Elem k T))
united_elements c e k T h = record { both = λ N d. (λ f. to N d f, λ f. back N d f); tops = λ known. refl }
  where
    to : (N : Meaning) (d : Document) → FitsAs N (Elem c T) d → FitsAs N (Elem e T) d ⊎ FitsAs N (Elem k T) d
    to N empty f = absurd f
    to N (text s r) f = absurd f
    to N (element l i r) f = elim (or_cases (class_has e l) (class_has k l) (sym (h l) ∙ f.1)) [
      | inl a ↦ inl (f.0, a, f.2)
      | inr a ↦ inr (f.0, a, f.2)
    ]

    left : (l : List ℕ) → class_has e l ≡ true → class_has c l ≡ true
    left l a = h l ∙ ap (λ x. x || class_has k l) a

    or_right_true : (a b : Bool) → b ≡ true → (a || b) ≡ true
    or_right_true true b q = refl
    or_right_true false b q = q

    right : (l : List ℕ) → class_has k l ≡ true → class_has c l ≡ true
    right l a = h l ∙ or_right_true (class_has e l) (class_has k l) a

    back : (N : Meaning) (d : Document) → FitsAs N (Elem e T) d ⊎ FitsAs N (Elem k T) d → FitsAs N (Elem c T) d
    back N empty (inl f) = absurd f
    back N (text s r) (inl f) = absurd f
    back N (element l i r) (inl f) = (f.0, left l f.1, f.2)
    back N empty (inr f) = absurd f
    back N (text s r) (inr f) = absurd f
    back N (element l i r) (inr f) = (f.0, right l f.1, f.2)

-- one alternative more
pub some_push : (N : Meaning) (d : Document) (Ts : List Tree) (T : Tree) → SomeFits N d (Ts ++ T ∷ []) ↔ (SomeFits N d Ts ⊎ FitsAs N T d)
some_push N d [] T = iff_then or_none (iff_back none_or)
some_push N d (U ∷ Us) T =
    let i = some_push N d Us T in (λ h. or_left (sum_map (λ k. k) i.0 h), λ h. sum_map (λ k. k) i.1 (or_right h))

pub adds_push : (Ts : List Tree) (T : Tree) → AddsFit Ts T (Ts ++ T ∷ [])
adds_push Ts T = record { both = λ N d. some_push N d Ts T; tops = λ known. tops_push known Ts T }

some_put : (N : Meaning) (d : Document) (Ts : List Tree) (k : ℕ) (o q T : Tree) → k < length Ts → o ≡ get_or Ts k o → FitsAs N q d ↔ (FitsAs N o d ⊎ FitsAs N T d) →
    SomeFits N d (set Ts k q) ↔ (SomeFits N d Ts ⊎ FitsAs N T d)
some_put N d [] k o q T l e h = absurd (omega arith)
some_put N d (U ∷ Us) zero o q T l e h =
    let g : FitsAs N q d ↔ (FitsAs N U d ⊎ FitsAs N T d) = subst (λ x. FitsAs N q d ↔ (FitsAs N x d ⊎ FitsAs N T d)) e h in
    (λ k. or_swap (sum_map g.0 (λ s. s) k), λ k. sum_map g.1 (λ s. s) (or_swap k))
some_put N d (U ∷ Us) (suc k) o q T l e h =
    let m : k < length Us = omega arith in
    let i = some_put N d Us k o q T m e h in
    (λ s. or_left (sum_map (λ x. x) i.0 s), λ s. sum_map (λ x. x) i.1 (or_right s))

pub adds_put : (Ts : List Tree) (k : ℕ) (o q T : Tree) → k < length Ts → o ≡ get_or Ts k o → MeansSame q (Alt o T) → AddsFit Ts T (set Ts k q)
adds_put Ts k o q T l e s = record { both = λ N d. some_put N d Ts k o q T l e (s.both N d); tops = λ known. tops_set known Ts k o q T l e (s.tops known) }

-- one alternative more
pub alt_push : (T : Tree) (Ts : List Tree) (U : Tree) → MeansSame (alt_of ((T ∷ Ts) ++ U ∷ [])) (Alt (alt_of (T ∷ Ts)) U)
alt_push T Ts U = record {
  both = λ N d. iff_then (some_alt T (Ts ++ U ∷ []) N d) (iff_then (some_push N d (T ∷ Ts) U) (sum_map (some_alt T Ts N d).1 (λ f. f), sum_map (some_alt T Ts N d).0 (λ f. f)));
  tops = λ known. tops_alt known (T ∷ (Ts ++ U ∷ [])) ∙ tops_push known (T ∷ Ts) U ∙ ap (λ x. x && tops_only known U) (sym (tops_alt known (T ∷ Ts)));
}

pub adds_none : (Ts : List Tree) → AddsFits Ts [] Ts
adds_none Ts = record { both = λ N d. iff_back or_none; tops = λ known. sym (and_true (all_tops_only known Ts)) }

pub adds_more : (old more mid new : List Tree) (T : Tree) → AddsFits old more mid → AddsFit mid T new → AddsFits old (more ++ T ∷ []) new
adds_more old more mid new T a b = record {
  both = λ N d.
      let i = some_push N d more T in (
        λ h. sum_map (λ x. x) i.1 (or_right (sum_map (a.both N d).0 (λ x. x) ((b.both N d).0 h))),
        λ h. (b.both N d).1 (sum_map (a.both N d).1 (λ x. x) (or_left (sum_map (λ x. x) i.0 h))),
      );
  tops = λ known.
      b.tops known ∙ ap (λ x. x && tops_only known T) (a.tops known) ∙ and_assoc (all_tops_only known old) (all_tops_only known more) (tops_only known T)
      ∙ ap (λ x. all_tops_only known old && x) (sym (tops_push known more T));
}

-- choices
pub choice_nothing : (T : Tree) → T ≡ Empty → IsChoice T [] true
choice_nothing T e = subst (λ x. IsChoice x [] true) (sym e) (record { both = λ N d. (λ f. inr (refl, f), λ f. back N d f); tops = λ known. refl })
  where
    back : (N : Meaning) (d : Document) → ⊥ ⊎ ((true ≡ true) × (d ≡ empty)) → d ≡ empty
    back N d (inl n) = absurd n
    back N d (inr f) = f.1

pub choice_plain : (T : Tree) (Ts : List Tree) → 0 < length Ts → alt_of Ts ≡ T → IsChoice T Ts false
choice_plain T [] l e = absurd (omega arith)
choice_plain T (U ∷ Us) l e = subst (λ x. IsChoice x (U ∷ Us) false) e (record { both = λ N d. (λ f. inl ((some_alt U Us N d).0 f), λ f. back N d f); tops = λ known. tops_alt known (U ∷ Us) })
  where
    back : (N : Meaning) (d : Document) → SomeFits N d (U ∷ Us) ⊎ ((false ≡ true) × (d ≡ empty)) → FitsAs N (alt_of (U ∷ Us)) d
    back N d (inl f) = (some_alt U Us N d).1 f
    back N d (inr f) = absurd (let h = f.0 in cc)

pub choice_opt : (T X : Tree) (Ts : List Tree) → T ≡ Opt X → 0 < length Ts → alt_of Ts ≡ X → IsChoice T Ts true
choice_opt T X [] q l e = absurd (omega arith)
choice_opt T X (U ∷ Us) q l e =
    subst (λ x. IsChoice x (U ∷ Us) true) (sym q) (subst (λ x. IsChoice (Opt x) (U ∷ Us) true) e (record { both = λ N d. (λ f. to N d f, λ f. back N d f); tops = λ known. tops_alt known (U ∷ Us) }))
  where
    to : (N : Meaning) (d : Document) → (d ≡ empty) ⊎ FitsAs N (alt_of (U ∷ Us)) d → SomeFits N d (U ∷ Us) ⊎ ((true ≡ true) × (d ≡ empty))
    to N d (inl h) = inr (refl, h)
    to N d (inr f) = inl ((some_alt U Us N d).0 f)

    back : (N : Meaning) (d : Document) → SomeFits N d (U ∷ Us) ⊎ ((true ≡ true) × (d ≡ empty)) → (d ≡ empty) ⊎ FitsAs N (alt_of (U ∷ Us)) d
    back N d (inl f) = inr ((some_alt U Us N d).1 f)
    back N d (inr h) = inl h.1

-- the alternatives of two types are those of their alternative
pub choice_both : (T U : Tree) (Ts Us made : List Tree) (a b : Bool) → IsChoice T Ts a → IsChoice U Us b → AddsFits Ts Us made → IsChoice (Alt T U) made (a || b)
choice_both T U Ts Us made a b h k s = record { both = λ N d. (λ f. to N d f, λ f. back N d f); tops = λ known. and_same (h.tops known) (k.tops known) ∙ sym (s.tops known) }
  where
    to : (N : Meaning) (d : Document) → FitsAs N T d ⊎ FitsAs N U d → SomeFits N d made ⊎ (((a || b) ≡ true) × (d ≡ empty))
    to N d (inl f) = elim ((h.both N d).0 f) [
      | inl g ↦ inl ((s.both N d).1 (inl g))
      | inr g ↦ inr (ap (λ x. x || b) g.0, g.1)
    ]
    to N d (inr f) = elim ((k.both N d).0 f) [
      | inl g ↦ inl ((s.both N d).1 (inr g))
      | inr g ↦ inr (or_second a b g.0, g.1)
    ]
      where
        or_second : (a b : Bool) → b ≡ true → (a || b) ≡ true
        or_second true b q = refl
        or_second false b q = q

    back : (N : Meaning) (d : Document) → SomeFits N d made ⊎ (((a || b) ≡ true) × (d ≡ empty)) → FitsAs N T d ⊎ FitsAs N U d
    back N d (inl f) = elim ((s.both N d).0 f) [
      | inl g ↦ inl ((h.both N d).1 (inl g))
      | inr g ↦ inr ((k.both N d).1 (inl g))
    ]
    back N d (inr f) = elim (or_cases a b f.0) [
      | inl q ↦ inl ((h.both N d).1 (inr (q, f.1)))
      | inr q ↦ inr ((k.both N d).1 (inr (q, f.1)))
    ]

-- the same alternatives, each once
pub choice_again : (T : Tree) (Ts made : List Tree) (e : Bool) → IsChoice T Ts e → AddsFits [] Ts made → IsChoice T made e
choice_again T Ts made e h a = record {
  both = λ N d.
      let s = iff_then (a.both N d) none_or in
      iff_then (h.both N d) (sum_map s.1 (λ f. f), sum_map s.0 (λ f. f));
  tops = λ known. h.tops known ∙ sym (a.tops known);
}

pub choice_same : (T U : Tree) (Ts : List Tree) (e : Bool) → MeansSame U T → IsChoice T Ts e → IsChoice U Ts e
choice_same T U Ts e s h = record { both = λ N d. iff_then (s.both N d) (h.both N d); tops = λ known. s.tops known ∙ h.tops known }

-- one type more, as the table had it before
pub choice_more : (T U V : Tree) (Ts made : List Tree) {e : Bool} → V ≡ U → IsChoice (Alt (alt_of (T ∷ Ts)) V) made e → IsChoice (alt_of (T ∷ (Ts ++ U ∷ []))) made e
choice_more T U V Ts made {e} q h = choice_same _ _ made e (alt_push T Ts U) (subst (λ x. IsChoice (Alt (alt_of (T ∷ Ts)) x) made e) q h)

pub some_stays : {A B : Type 0} (a b : Bool) → A ⊎ (a ≡ true) → (A → B) → B ⊎ ((a || b) ≡ true)
some_stays a b (inl x) f = inl (f x)
some_stays a b (inr e) f = inr (ap (λ x. x || b) e)

-- choices as types
pub choice_is_alt : (T : Tree) (Ts : List Tree) → 0 < length Ts → IsChoice T Ts false → MeansSame (alt_of Ts) T
choice_is_alt T [] l h = absurd (omega arith)
choice_is_alt T (U ∷ Us) l h = record { both = λ N d. (λ f. (h.both N d).1 (inl ((some_alt U Us N d).0 f)), λ f. (some_alt U Us N d).1 (only N d ((h.both N d).0 f))); tops = λ known. tops_alt known (U ∷ Us) ∙ sym (h.tops known) }
  where
    only : (N : Meaning) (d : Document) → SomeFits N d (U ∷ Us) ⊎ ((false ≡ true) × (d ≡ empty)) → SomeFits N d (U ∷ Us)
    only N d (inl f) = f
    only N d (inr f) = absurd (let e = f.0 in cc)

pub choice_is_opt : (T : Tree) (Ts : List Tree) → 0 < length Ts → IsChoice T Ts true → MeansSame (Opt (alt_of Ts)) T
choice_is_opt T [] l h = absurd (omega arith)
choice_is_opt T (U ∷ Us) l h = record { both = λ N d. (λ f. to N d f, λ f. back N d ((h.both N d).0 f)); tops = λ known. tops_alt known (U ∷ Us) ∙ sym (h.tops known) }
  where
    to : (N : Meaning) (d : Document) → (d ≡ empty) ⊎ FitsAs N (alt_of (U ∷ Us)) d → FitsAs N T d
    to N d (inl e) = (h.both N d).1 (inr (refl, e))
    to N d (inr f) = (h.both N d).1 (inl ((some_alt U Us N d).0 f))

    back : (N : Meaning) (d : Document) → SomeFits N d (U ∷ Us) ⊎ ((true ≡ true) × (d ≡ empty)) → (d ≡ empty) ⊎ FitsAs N (alt_of (U ∷ Us)) d
    back N d (inl f) = inr ((some_alt U Us N d).1 f)
    back N d (inr f) = inl f.1

pub choice_is_nothing : (T : Tree) → IsChoice T [] true → MeansSame Empty T
choice_is_nothing T h = record { both = λ N d. (λ f. (h.both N d).1 (inr (refl, f)), λ f. only N d ((h.both N d).0 f)); tops = λ known. sym (h.tops known) }
  where
    only : (N : Meaning) (d : Document) → ⊥ ⊎ ((true ≡ true) × (d ≡ empty)) → d ≡ empty
    only N d (inl n) = absurd n
    only N d (inr f) = f.1
