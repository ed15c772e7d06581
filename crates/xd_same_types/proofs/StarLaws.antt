-- Laws of what is repeated.
use Rattle.std.proofs.Common.{◌≡◌, ◌⊎◌, inl, inr, ℕ, ◌<◌, ◌&&◌, refl, sym, ap, ◌∙◌, subst, List, [], ◌∷◌, ◌++◌, length, take, get_or, ◌+◌, arith}
use Rattle.xd_doc.specs.Document.{Document, empty}
use Rattle.xd_doc.proofs.Lists.{all_there}
use Rattle.xd_syntax.specs.Tree.{Tree, Star, Plus, Opt}
use Rattle.xd_syntax.specs.TreeForms.{alt_of}
use Rattle.xd_meaning.specs.FitsWithin.{Repeats, no_turn, one_turn}
use Rattle.xd_same_types.specs.Same.{Meaning, FitsAs, MeansSame, SomeFits, RepeatSame, AddsFits, AddsStripped, AreStripped, tops_only, all_tops_only}
use Rattle.xd_same_types.proofs.Tops.{tops_alt, tops_push}
use Rattle.xd_same_types.proofs.Splits.{rep_one, rep_bind, rep_map, plus_star}
use Rattle.xd_same_types.proofs.Laws.{some_alt}
use Rattle.xd_same_types.proofs.AltLaws.{some_push, in_plus}
use Rattle.xd_syntax.specs.Table.{Row}
use Rattle.xd_same_types.specs.Grown.{GrowsTypes}
use Rattle.xd_syntax.specs.Types.{BelongsTo, tree}
use Rattle.xd_syntax.specs.declared.types.TypeId.{TypeId}
use Rattle.xd_same_types.specs.Same.{AreAltParts, trees}
use Rattle.xd_same_types.proofs.Ids.{take_read}
use Rattle.xd_same_types.proofs.Tables.{kept_tree, alt_belong, trees_append}

pub strip_none : (T : Tree) → RepeatSame T T
strip_none T = record { once = λ N d f. f; again = λ N d f. rep_one (FitsAs N T) d f; tops = λ known. refl }

pub strip_star : (T X : Tree) → T ≡ Star X → RepeatSame X T
strip_star T X e = subst (RepeatSame X) (sym e) (record { once = λ N d f. rep_one (FitsAs N X) d f; again = λ N d f. f; tops = λ known. refl })

pub strip_plus : (T X : Tree) → T ≡ Plus X → RepeatSame X T
strip_plus T X e = subst (RepeatSame X) (sym e) (record { once = (in_plus (Plus X) X refl).fits; again = λ N d f. plus_star (FitsAs N X) d f; tops = λ known. refl })

pub strip_opt : (T X : Tree) → T ≡ Opt X → RepeatSame X T
strip_opt T X e = subst (RepeatSame X) (sym e) (record { once = λ N d f. inr f; again = λ N d f. back N d f; tops = λ known. refl })
  where
    back : (N : Meaning) (d : Document) → (d ≡ empty) ⊎ FitsAs N X d → Repeats (FitsAs N X) d
    back N d (inl q) = subst (Repeats (FitsAs N X)) (sym q) no_turn
    back N d (inr f) = rep_one (FitsAs N X) d f

pub strip_then : {T U V : Tree} → RepeatSame T U → RepeatSame U V → RepeatSame T V
strip_then {T} {U} s t = record {
  once = λ N d f. t.once N d (s.once N d f);
  again = λ N d f. rep_bind (FitsAs N U) (FitsAs N T) (s.again N) (t.again N d f);
  tops = λ known. s.tops known ∙ t.tops known;
}

pub stars_same : {T U : Tree} → RepeatSame T U → MeansSame (Star T) (Star U)
stars_same {T} {U} s = record {
  both = λ N d.
      (λ f. rep_map (FitsAs N T) (FitsAs N U) (s.once N) d f, λ f. rep_bind (FitsAs N U) (FitsAs N T) (s.again N) f);
  tops = s.tops;
}

-- the alternatives of what is repeated, put to others
pub adds_stripped : (old pieces new : List Tree) (B T : Tree) → RepeatSame B T → alt_of pieces ≡ B → 0 < length pieces → AddsFits old pieces new → AddsStripped old T new
adds_stripped old [] new B T s e l a = absurd (omega arith)
adds_stripped old (P ∷ Ps) new B T s e l a = record {
  kept = λ N d f. (a.both N d).1 (inl f);
  once = λ N d f. go N d ((a.both N d).0 f);
  again = λ N d f. rep_map (FitsAs N B) (λ x. SomeFits N x new) (λ x g. (a.both N x).1 (inr (into N x g))) d (s.again N d f);
  tops = λ known. a.tops known ∙ ap (λ x. all_tops_only known old && x) (sym (tops_alt known (P ∷ Ps)) ∙ ap (tops_only known) e ∙ s.tops known);
}
  where
    into : (N : Meaning) (d : Document) → FitsAs N B d → SomeFits N d (P ∷ Ps)
    into N d f = (some_alt P Ps N d).0 (subst (λ x. FitsAs N x d) (sym e) f)

    go : (N : Meaning) (d : Document) → SomeFits N d old ⊎ SomeFits N d (P ∷ Ps) → SomeFits N d old ⊎ FitsAs N T d
    go N d (inl f) = inl f
    go N d (inr f) = inr (s.once N d (subst (λ x. FitsAs N x d) e ((some_alt P Ps N d).1 f)))

pub stripped_none : AreStripped [] []
stripped_none = record { once = λ N d f. f; again = λ N d f. absurd f; tops = λ known. refl }

pub stripped_more : (made Ts new : List Tree) (T : Tree) → AreStripped made Ts → AddsStripped made T new → AreStripped new (Ts ++ T ∷ [])
stripped_more made Ts new T s a = record {
  once = λ N d f. (some_push N d Ts T).1 (left N d (a.once N d f));
  again = λ N d f. go N d ((some_push N d Ts T).0 f);
  tops = λ known. a.tops known ∙ ap (λ x. x && tops_only known T) (s.tops known) ∙ sym (tops_push known Ts T);
}
  where
    left : (N : Meaning) (d : Document) → SomeFits N d made ⊎ FitsAs N T d → SomeFits N d Ts ⊎ FitsAs N T d
    left N d (inl f) = inl (s.once N d f)
    left N d (inr f) = inr f

    go : (N : Meaning) (d : Document) → SomeFits N d Ts ⊎ FitsAs N T d → Repeats (λ x. SomeFits N x new) d
    go N d (inl f) = rep_map (λ x. SomeFits N x made) (λ x. SomeFits N x new) (a.kept N) d (s.again N d f)
    go N d (inr f) = a.again N d f

-- nothing is repeated but nothing
repeats_nothing : {d : Document} → Repeats (λ x. ⊥) d → d ≡ empty
repeats_nothing no_turn = refl
repeats_nothing (one_turn a b e h p r) = absurd p

pub stripped_star : (made Ts : List Tree) (I T : Tree) → AreStripped made Ts → alt_of Ts ≡ I → 0 < length Ts → RepeatSame I T → MeansSame (Star (alt_of made)) (Star T)
stripped_star made [] I T s e l r = absurd (omega arith)
stripped_star [] (U ∷ Us) I T s e l r = record {
  both = λ N d. (
    λ f. rep_bind (λ x. x ≡ empty) (FitsAs N T) (λ x q. subst (Repeats (FitsAs N T)) (sym q) no_turn) f,
    λ f. rep_bind (FitsAs N T) (λ x. x ≡ empty) (λ x g. none N x g) f,
  );
  tops = λ known. s.tops known ∙ sym (tops_alt known (U ∷ Us)) ∙ ap (tops_only known) e ∙ r.tops known;
}
  where
    into : (N : Meaning) (d : Document) → FitsAs N I d → SomeFits N d (U ∷ Us)
    into N d f = (some_alt U Us N d).0 (subst (λ x. FitsAs N x d) (sym e) f)

    none : (N : Meaning) (d : Document) → FitsAs N T d → Repeats (λ x. x ≡ empty) d
    none N d f = subst (Repeats (λ x. x ≡ empty)) (sym (repeats_nothing (rep_bind (FitsAs N I) (λ x. ⊥) (λ x g. s.again N x (into N x g)) (r.again N d f)))) no_turn
stripped_star (M ∷ Ms) (U ∷ Us) I T s e l r = stars_same (strip_then (record {
  once = λ N d f. once N d f;
  again = λ N d f. again N d f;
  tops = λ known. tops_alt known (M ∷ Ms) ∙ s.tops known ∙ sym (tops_alt known (U ∷ Us)) ∙ ap (tops_only known) e;
}) r)
  where
    once : (N : Meaning) (d : Document) → FitsAs N (alt_of (M ∷ Ms)) d → FitsAs N I d
    once N d f = subst (λ x. FitsAs N x d) e ((some_alt U Us N d).1 (s.once N d ((some_alt M Ms N d).0 f)))

    again : (N : Meaning) (d : Document) → FitsAs N I d → Repeats (FitsAs N (alt_of (M ∷ Ms))) d
    again N d f =
        rep_map (λ x. SomeFits N x (M ∷ Ms)) (FitsAs N (alt_of (M ∷ Ms))) (λ x g. (some_alt M Ms N x).1 g) d
        (s.again N d ((some_alt U Us N d).0 (subst (λ x. FitsAs N x d) (sym e) f)))

-- one more of a list of parts in a table
pub strip_more : (a m b : List Row) → GrowsTypes a m → (now new parts : List TypeId) (i : ℕ) (part : TypeId) → AreAltParts a parts → i < length parts → part ≡ get_or parts i part →
    AreStripped (trees m now) (trees a (take i parts)) → AddsStripped (trees m now) (tree m part) (trees b new) → AreStripped (trees b new) (trees a (take (i + 1) parts))
strip_more a m b am now new parts i part h l e s t =
    let bp : BelongsTo a part = all_there (BelongsTo a) parts i part (alt_belong a parts h) l e in
    subst (AreStripped (trees b new)) (sym (ap (trees a) (take_read parts i part l e) ∙ trees_append a (take i parts) (part ∷ [])))
    (stripped_more (trees m now) (trees a (take i parts)) (trees b new) (tree a part) s (subst (λ x. AddsStripped (trees m now) x (trees b new)) (kept_tree a m am part bp) t))
