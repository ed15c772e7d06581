-- Repetitions that every document fits.
use Rattle.std.proofs.Common.{◌≡◌, ◌⊎◌, inl, inr, ℕ, zero, suc, ◌<◌, Bool, true, false, not, ◌&&◌, ◌==◌, cond, refl, sym, subst, List, [], ◌∷◌, length, get_or, arith}
use Rattle.xd_doc.specs.Document.{Document, empty, text, element, has_item}
use Rattle.xd_doc.specs.Classes.{LabelClass, class_has, is_named}
use Rattle.xd_doc.proofs.Numbers.{same_number}
use Rattle.xd_syntax.specs.Table.{Row}
use Rattle.xd_syntax.specs.Types.{tree}
use Rattle.xd_syntax.specs.Words.{any_word}
use Rattle.xd_syntax.specs.declared.types.TypeId.{TypeId}
use Rattle.xd_syntax.specs.Tree.{Tree, Text, Elem, Name, Seq, Star, Opt, seq_of}
use Rattle.xd_syntax.specs.TreeForms.{alt_of}
use Rattle.xd_meaning.specs.FitsWithin.{Repeats, no_turn, one_turn}
use Rattle.xd_same_types.specs.Same.{Meaning, FitsAs, SomeFits, trees}
use Rattle.xd_same_types.proofs.Laws.{some_alt}
use Rattle.xd_named_parts.specs.Copies.{MeansEach, TakesAll, TakesElements, TakesMore, TakesTexts, has_each}

-- each document has items one after the other
each_fits : (M : Meaning) (T : Tree) → ((s : List ℕ) → FitsAs M T (text s empty)) → ((l : List ℕ) (c : Document) → FitsAs M T (element l c empty)) → (d : Document) → Repeats (FitsAs M T) d
each_fits M T t e empty = no_turn
each_fits M T t e (text s r) = one_turn (text s empty) r refl refl (t s) (each_fits M T t e r)
each_fits M T t e (element l c r) = one_turn (element l c empty) r refl refl (e l c) (each_fits M T t e r)

pub star_all : (T : Tree) → TakesTexts T → TakesElements T → TakesAll (Star T)
star_all T t e = record { fits = λ M a d. each_fits M T (t.fits M) (e.fits M a) d }

pub name_all : (T : Tree) → T ≡ Name any_word → TakesAll T
name_all T q = subst TakesAll (sym q) (record { fits = λ M a d. a d })

pub name_more : (T : Tree) → T ≡ Name any_word → TakesMore T
name_more T q = subst TakesMore (sym q) (record { fits = λ M a d h. a d })

-- a document with an item has a first one
pub row_more : (T U : Tree) → TakesTexts T → TakesElements T → U ≡ Name any_word → TakesMore (Seq T U)
row_more T U t e n = subst (λ x. TakesMore (Seq T x)) (sym n) (record { fits = go })
  where
    go : (M : Meaning) → MeansEach M → (d : Document) → has_item d ≡ true → FitsAs M (Seq T (Name any_word)) d
    go M a empty h = absurd (cc)
    go M a (text s r) h = (text s empty, r, refl, t.fits M s, a r)
    go M a (element l c r) h = (element l c empty, r, refl, e.fits M a l c, a r)

-- of two parts in a table
pub two_more : (rs : List Row) (ids : List TypeId) (p q : TypeId) → length ids ≡ 2 → p ≡ get_or ids 0 p → q ≡ get_or ids 1 q → TakesTexts (tree rs p) → TakesElements (tree rs p) → tree rs q ≡ Name any_word →
    TakesMore (seq_of (trees rs ids))
two_more rs [] p q l e f t u n = absurd (omega arith)
two_more rs (x ∷ []) p q l e f t u n = absurd (omega arith)
two_more rs (x ∷ (y ∷ [])) p q l e f t u n =
    row_more (tree rs x) (tree rs y) (subst (λ (i : TypeId). TakesTexts (tree rs i)) e t) (subst (λ (i : TypeId). TakesElements (tree rs i)) e u) (subst (λ (i : TypeId). tree rs i ≡ Name any_word) f n)
two_more rs (x ∷ (y ∷ (z ∷ zs))) p q l e f t u n = absurd (omega arith)

pub opt_all : (T : Tree) → TakesMore T → TakesAll (Opt T)
opt_all T t = record { fits = go }
  where
    go : (M : Meaning) → MeansEach M → (d : Document) → (d ≡ empty) ⊎ FitsAs M T d
    go M a empty = inl refl
    go M a (text s r) = inr (t.fits M a (text s r) refl)
    go M a (element l c r) = inr (t.fits M a (element l c r) refl)

pub all_texts : (T : Tree) → T ≡ Text → TakesTexts T
all_texts T q = subst TakesTexts (sym q) (record { fits = λ M s. refl })

has_all : (k : LabelClass) (l : List ℕ) → has_each k ≡ true → class_has k l ≡ true
has_all k l e = go k.except k.names e
  where
    go : (b : Bool) (names : List (List ℕ)) → (b && (length names == 0)) ≡ true → cond b (not (is_named names l)) (is_named names l) ≡ true
    go false names h = absurd (cc)
    go true [] h = refl
    go true (n ∷ ns) h = let none : length (n ∷ ns) ≡ 0 = same_number (length (n ∷ ns)) 0 h in absurd (omega arith)

pub all_elements : (T C : Tree) (k : LabelClass) → T ≡ Elem k C → has_each k ≡ true → C ≡ Name any_word → TakesElements T
all_elements T C k q h e = subst TakesElements (sym q) (record { fits = λ M a l c. (refl, has_all k l h, subst (λ x. FitsAs M x c) (sym e) (a c)) })

-- what fits one of the alternatives fits the type
some_there : (M : Meaning) (d : Document) (Ts : List Tree) (k : ℕ) (T : Tree) → k < length Ts → T ≡ get_or Ts k T → FitsAs M T d → SomeFits M d Ts
some_there M d [] k T l e f = absurd (omega arith)
some_there M d (U ∷ Us) zero T l e f = inl (subst (λ x. FitsAs M x d) e f)
some_there M d (U ∷ Us) (suc k) T l e f = let m : k < length Us = omega arith in inr (some_there M d Us k T m e f)

alt_there : (M : Meaning) (d : Document) (Ts : List Tree) (k : ℕ) (T : Tree) → k < length Ts → T ≡ get_or Ts k T → FitsAs M T d → FitsAs M (alt_of Ts) d
alt_there M d [] k T l e f = absurd (omega arith)
alt_there M d (U ∷ Us) k T l e f = (some_alt U Us M d).1 (some_there M d (U ∷ Us) k T l e f)

pub alt_texts : (Ts : List Tree) (k : ℕ) (T : Tree) → k < length Ts → T ≡ get_or Ts k T → TakesTexts T → TakesTexts (alt_of Ts)
alt_texts Ts k T l e t = record { fits = λ M s. alt_there M (text s empty) Ts k T l e (t.fits M s) }

pub alt_elements : (Ts : List Tree) (k : ℕ) (T : Tree) → k < length Ts → T ≡ get_or Ts k T → TakesElements T → TakesElements (alt_of Ts)
alt_elements Ts k T l e t = record { fits = λ M a s c. alt_there M (element s c empty) Ts k T l e (t.fits M a s c) }

pub alt_all : (Ts : List Tree) (k : ℕ) (T : Tree) → k < length Ts → T ≡ get_or Ts k T → TakesAll T → TakesAll (alt_of Ts)
alt_all Ts k T l e t = record { fits = λ M a d. alt_there M d Ts k T l e (t.fits M a d) }

pub alt_more : (Ts : List Tree) (k : ℕ) (T : Tree) → k < length Ts → T ≡ get_or Ts k T → TakesMore T → TakesMore (alt_of Ts)
alt_more Ts k T l e t = record { fits = λ M a d h. alt_there M d Ts k T l e (t.fits M a d h) }
