-- Choice trees, read by a count of those to come.
use Rattle.std.proofs.Common.{◌≡◌, ◌⊎◌, ℕ, suc, arith, List, [], ◌∷◌, ◌++◌, flat_map, length, get_or, drop, append_assoc, refl, ap, sym, ◌∙◌, inl, inr}
use Rattle.std.specs.Prelude.{codes}
use Rattle.std.specs.List.{AllByRecursion}
use Rattle.std.specs.Fmt.{decimal}
use Rattle.xd_rules.specs.Rules.{ChoiceTree, settles_content, settles_rest, split_on}
use Rattle.xd_proof.specs.Lines.{IsNumber}
use Rattle.xd_proof.specs.Parts.{tree_words, HasNumbers}
use Rattle.xd_proof.specs.Forest.{SpellsTrees, HasNumber, TreesAreCounted}

number : (w : List ℕ) (k : ℕ) → decimal k ≡ w → IsNumber k → HasNumber w
number w k e h = (k, record { digits = sym e; number = h })

module _ (n : ℕ) (w : List ℕ) (more : List (List ℕ)) where
  content_there : (ts : List ChoiceTree) → length ts ≡ suc n → AllByRecursion HasNumbers ts → flat_map tree_words ts ≡ codes "c" ∷ w ∷ more → HasNumber w × SpellsTrees n more
  content_there [] m h e = absurd (omega (arith, m))
  content_there (settles_content k ∷ ts) m h e =
      (number w k (ap (λ l. get_or l 1 []) e) h.0, record { trees = ts; many = omega (arith, m); numbers = h.1; spelled = ap (λ l. drop 2 l) e })
  content_there (settles_rest k ∷ ts) m h e = let z : 114 ≡ 99 = ap (λ l. get_or (get_or l 0 []) 0 0) e in absurd (omega (arith, z))
  content_there (split_on k A B ∷ ts) m h e = let z : 63 ≡ 99 = ap (λ l. get_or (get_or l 0 []) 0 0) e in absurd (omega (arith, z))

  rest_there : (ts : List ChoiceTree) → length ts ≡ suc n → AllByRecursion HasNumbers ts → flat_map tree_words ts ≡ codes "r" ∷ w ∷ more → HasNumber w × SpellsTrees n more
  rest_there [] m h e = absurd (omega (arith, m))
  rest_there (settles_rest k ∷ ts) m h e =
      (number w k (ap (λ l. get_or l 1 []) e) h.0, record { trees = ts; many = omega (arith, m); numbers = h.1; spelled = ap (λ l. drop 2 l) e })
  rest_there (settles_content k ∷ ts) m h e = let z : 99 ≡ 114 = ap (λ l. get_or (get_or l 0 []) 0 0) e in absurd (omega (arith, z))
  rest_there (split_on k A B ∷ ts) m h e = let z : 63 ≡ 114 = ap (λ l. get_or (get_or l 0 []) 0 0) e in absurd (omega (arith, z))

  split_there : (ts : List ChoiceTree) → length ts ≡ suc n → AllByRecursion HasNumbers ts → flat_map tree_words ts ≡ codes "?" ∷ w ∷ more → HasNumber w × SpellsTrees (suc (suc n)) more
  split_there [] m h e = absurd (omega (arith, m))
  split_there (split_on k A B ∷ ts) m h e =
      let r = h.0 in (
        number w k (ap (λ l. get_or l 1 []) e) r.0,
        record {
          trees = A ∷ B ∷ ts;
          many = omega (arith, m);
          numbers = (r.1, (r.2, h.1));
          spelled = sym (append_assoc (tree_words A) (tree_words B) (flat_map tree_words ts)) ∙ ap (λ l. drop 2 l) e;
        },
      )
  split_there (settles_content k ∷ ts) m h e = let z : 99 ≡ 63 = ap (λ l. get_or (get_or l 0 []) 0 0) e in absurd (omega (arith, z))
  split_there (settles_rest k ∷ ts) m h e = let z : 114 ≡ 63 = ap (λ l. get_or (get_or l 0 []) 0 0) e in absurd (omega (arith, z))

  content_back : HasNumber w → SpellsTrees n more → SpellsTrees (suc n) (codes "c" ∷ w ∷ more)
  content_back k s =
      let d = (k.1).digits in
      record {
        trees = settles_content k.0 ∷ s.trees;
        many = ap suc s.many;
        numbers = ((k.1).number, s.numbers);
        spelled = ap (λ v. codes "c" ∷ v ∷ flat_map tree_words s.trees) (sym d) ∙ ap (λ l. codes "c" ∷ w ∷ l) s.spelled;
      }

  rest_back : HasNumber w → SpellsTrees n more → SpellsTrees (suc n) (codes "r" ∷ w ∷ more)
  rest_back k s =
      let d = (k.1).digits in
      record {
        trees = settles_rest k.0 ∷ s.trees;
        many = ap suc s.many;
        numbers = ((k.1).number, s.numbers);
        spelled = ap (λ v. codes "r" ∷ v ∷ flat_map tree_words s.trees) (sym d) ∙ ap (λ l. codes "r" ∷ w ∷ l) s.spelled;
      }

  split_from : HasNumber w → (ts : List ChoiceTree) → length ts ≡ suc (suc n) → AllByRecursion HasNumbers ts → flat_map tree_words ts ≡ more → SpellsTrees (suc n) (codes "?" ∷ w ∷ more)
  split_from k [] m h e = absurd (omega (arith, m))
  split_from k (A ∷ []) m h e = absurd (omega (arith, m))
  split_from k (A ∷ (B ∷ ts)) m h e =
      let d = (k.1).digits in
      let q = h.1 in
      record {
        trees = split_on k.0 A B ∷ ts;
        many = omega (arith, m);
        numbers = (((k.1).number, h.0, q.0), q.1);
        spelled =
            ap (λ v. codes "?" ∷ v ∷ ((tree_words A ++ tree_words B) ++ flat_map tree_words ts)) (sym d)
            ∙ ap (λ l. codes "?" ∷ w ∷ l) (append_assoc (tree_words A) (tree_words B) (flat_map tree_words ts) ∙ e);
      }

none_there : (words : List (List ℕ)) (ts : List ChoiceTree) → length ts ≡ 0 → flat_map tree_words ts ≡ words → words ≡ []
none_there words [] m e = sym e
none_there words (t ∷ ts) m e = absurd (omega (arith, m))

other_there : (n : ℕ) (words : List (List ℕ)) (ts : List ChoiceTree) → length ts ≡ suc n → flat_map tree_words ts ≡ words →
    (v : List ℕ) × (w : List ℕ) × (rest : List (List ℕ)) × (words ≡ v ∷ w ∷ rest) × ((v ≡ codes "c") ⊎ (v ≡ codes "r") ⊎ (v ≡ codes "?"))
other_there n words [] m e = absurd (omega (arith, m))
other_there n words (settles_content k ∷ ts) m e = (codes "c", decimal k, flat_map tree_words ts, sym e, inl refl)
other_there n words (settles_rest k ∷ ts) m e = (codes "r", decimal k, flat_map tree_words ts, sym e, inr (inl refl))
other_there n words (split_on k A B ∷ ts) m e = (codes "?", decimal k, (tree_words A ++ tree_words B) ++ flat_map tree_words ts, sym e, inr (inr refl))

pub trees_are_counted : TreesAreCounted
trees_are_counted = record {
  none = λ words. ((λ s. none_there words s.trees s.many s.spelled), (λ e. record { trees = []; many = refl; numbers = tt; spelled = sym e }));
  content = λ n w more. ((λ s. content_there n w more s.trees s.many s.numbers s.spelled), (λ p. content_back n w more p.0 p.1));
  rest = λ n w more. ((λ s. rest_there n w more s.trees s.many s.numbers s.spelled), (λ p. rest_back n w more p.0 p.1));
  split = λ n w more. ((λ s. split_there n w more s.trees s.many s.numbers s.spelled), (λ p. let s = p.1 in split_from n w more p.0 s.trees s.many s.numbers s.spelled));
  other = λ n words s. other_there n words s.trees s.many s.spelled;
}
