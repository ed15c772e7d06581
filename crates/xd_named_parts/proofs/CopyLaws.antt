-- Laws of copies.
use Rattle.std.proofs.Common.{◌≡◌, ◌≢◌, ◌⊎◌, ◌↔◌, inl, inr, ℕ, zero, suc, ◌+◌, ◌<◌, arith, refl, sym, ap, ◌∙◌, subst, true, List, [], ◌∷◌, ◌++◌, map, length, take, get_or, set, length-append, Option, Some, None, Result, Ok, Err}
use Rattle.std.specs.Option.{IfSome}
use Rattle.std.specs.Result.{IfOk}
use Rattle.std.specs.List.{AllByRecursion}
use Rattle.std.proofs.lemmas.List.{length-set, get_or-set_same, get_or-set_other}
use Rattle.xd_doc.specs.Classes.{LabelClass}
use Rattle.xd_doc.proofs.Lists.{all_push, same_at}
use Rattle.xd_doc.proofs.Options.{some_map}
use Rattle.xd_syntax.specs.Words.{any_word}
use Rattle.xd_syntax.specs.Tree.{Tree, Elem, Star, Plus, Opt, Name}
use Rattle.xd_syntax.specs.TreeForms.{alt_of}
use Rattle.xd_syntax.specs.Table.{Row, Form, KeepsRows, form_tree, elem_form, star_form, plus_form, opt_form, seq_form, alt_form, tree_at}
use Rattle.xd_syntax.specs.Types.{BelongsTo, type_numbers}
use Rattle.xd_syntax.specs.declared.types.TypeId.{TypeId}
use Rattle.xd_syntax.proofs.TableRows.{KeepsRows-length, KeepsRows-tree}
use Rattle.xd_same_types.specs.Same.{Meaning, FitsAs, HasTops, trees}
use Rattle.xd_same_types.proofs.Ids.{take_read}
use Rattle.xd_same_types.proofs.Tables.{map_numbers}
use Rattle.xd_shown.specs.Bodies.{AreMeant}
use Rattle.xd_named_parts.specs.Copies.{Alike, AllCopied, AreBare, AreCopies, AreNoCopies, CopiesBelong, GrowsCopies, IsFormCopy, IsMeantCopy, IsNodeCopy, MeansEach, StandForNodes, StandsForNode, TakesAll, copy_in}
use Rattle.xd_named_parts.proofs.AlikeLaws.{alike_elem, alike_seqs, alike_alts, alike_star, alike_plus, alike_opt, bare_seqs, bare_alts}

pub copies_kept : (N M : Meaning) (old mid new : List Row) (table : List (Option TypeId)) → KeepsRows mid new → CopiesBelong mid table → AreCopies N M old mid table → AreCopies N M old new table
copies_kept N M old mid new table k b h = λ i id e. subst (λ T. Alike N M (tree_at old i) T) (sym (KeepsRows-tree mid new k id.at (b i id e))) (h i id e)

pub belong_kept : (mid new : List Row) (table : List (Option TypeId)) → KeepsRows mid new → CopiesBelong mid table → CopiesBelong new table
belong_kept mid new table k b = λ i id e. let l = KeepsRows-length mid new k in let m = b i id e in omega arith

pub bare_kept : (mid new : List Row) (table : List (Option TypeId)) → KeepsRows mid new → CopiesBelong mid table → AreBare mid table → AreBare new table
bare_kept mid new table k b h = λ i id e. subst (λ T. HasTops (any_word ∷ []) T) (sym (KeepsRows-tree mid new k id.at (b i id e))) (h i id e)

pub grows_refl : (P : Meaning → Meaning → Type 0) (old mid : List Row) (table : List (Option TypeId)) → GrowsCopies P old mid table mid table
grows_refl P old mid table = record { count = refl; right = λ N M p h. h; belong = λ h. h }

pub grows_then : (P : Meaning → Meaning → Type 0) (old x y z : List Row) (u v w : List (Option TypeId)) → GrowsCopies P old x u y v → GrowsCopies P old y v z w → GrowsCopies P old x u z w
grows_then P old x y z u v w g h = record {
  count = h.count ∙ g.count;
  right = λ N M p k. h.right N M p (g.right N M p k);
  belong = λ k. h.belong (g.belong k);
}

pub grows_by : (P Q : Meaning → Meaning → Type 0) (old x y : List Row) (u v : List (Option TypeId)) → ((N M : Meaning) → Q N M → P N M) → GrowsCopies P old x u y v → GrowsCopies Q old x u y v
grows_by P Q old x y u v f g = record { count = g.count; right = λ N M q k. g.right N M (f N M q) k; belong = g.belong }

-- the rows grow, and nothing is copied
pub grows_rows : (P : Meaning → Meaning → Type 0) (old mid new : List Row) (table : List (Option TypeId)) → KeepsRows mid new → CopiesBelong mid table → GrowsCopies P old mid table new table
grows_rows P old mid new table k b = record { count = refl; right = λ N M p h. copies_kept N M old mid new table k b h; belong = λ h. belong_kept mid new table k h }

-- a node gets a copy
module _ (table : List (Option TypeId)) (n : ℕ) (id : TypeId) (l : n < length table) where
  abbrev pub after : List (Option TypeId)
  after = set table n (Some id)

  here : copy_in after n ≡ Some id
  here = get_or-set_same table n (Some id) None l

  equal_or_not : (m k : ℕ) → (m ≡ k) ⊎ (m ≢ k)
  equal_or_not zero zero = inl refl
  equal_or_not zero (suc k) = inr (λ e. omega arith)
  equal_or_not (suc m) zero = inr (λ e. omega arith)
  equal_or_not (suc m) (suc k) = elim (equal_or_not m k) [ inl e ↦ inl (ap suc e) | inr f ↦ inr (λ e. f (omega arith)) ]

  same_or_other : (i : ℕ) → (i ≡ n) ⊎ (copy_in after i ≡ copy_in table i)
  same_or_other i = elim (equal_or_not i n) [
    | inl e ↦ inl e
    | inr f ↦ inr (get_or-set_other table n i (Some id) None f)
  ]

  is_id : (i : ℕ) (x : TypeId) → i ≡ n → copy_in after i ≡ Some x → x ≡ id
  is_id i x e f = let g : Some id ≡ Some x = sym here ∙ subst (λ u. copy_in after u ≡ Some x) e f in cc

  -- what holds of the new copy and of the old ones holds of each
  pub each_after : (Q : ℕ → TypeId → Type 0) → Q n id → ((i : ℕ) (x : TypeId) → copy_in table i ≡ Some x → Q i x) → (i : ℕ) (x : TypeId) → copy_in after i ≡ Some x → Q i x
  each_after Q q h i x e = elim (same_or_other i) [
    | inl f ↦ subst (λ j. Q j x) (sym f) (subst (λ (y : TypeId). Q n y) (sym (is_id i x f e)) q)
    | inr f ↦ h i x (sym f ∙ e)
  ]

pub copies_set : (P : Meaning → Meaning → Type 0) (old mid new : List Row) (table : List (Option TypeId)) (n : ℕ) (id : TypeId) → KeepsRows mid new → CopiesBelong mid table → n < length table →
    ((N M : Meaning) → P N M → AreCopies N M old mid table → Alike N M (tree_at old n) (tree_at new id.at)) → BelongsTo new id → GrowsCopies P old mid table new (set table n (Some id))
copies_set P old mid new table n id k b l same belongs = record {
  count = length-set table n (Some id);
  right = λ N M p h. each_after table n id l (λ i x. Alike N M (tree_at old i) (tree_at new x.at)) (same N M p h) (copies_kept N M old mid new table k b h);
  belong = λ h. each_after table n id l (λ i x. x.at < length new) belongs (belong_kept mid new table k h);
}

pub bare_set : (mid new : List Row) (table : List (Option TypeId)) (n : ℕ) (id : TypeId) → KeepsRows mid new → CopiesBelong mid table → n < length table →
    HasTops (any_word ∷ []) (tree_at new id.at) → AreBare mid table → AreBare new (set table n (Some id))
bare_set mid new table n id k b l t h = each_after table n id l (λ i x. HasTops (any_word ∷ []) (tree_at new x.at)) t (bare_kept mid new table k b h)

-- ---- forms
pub copied_more : (table : List (Option TypeId)) (ps qs : List TypeId) (p q : TypeId) → AllCopied table ps qs → copy_in table p.at ≡ Some q → AllCopied table (ps ++ p ∷ []) (qs ++ q ∷ [])
copied_more table [] [] p q h e = (e, tt)
copied_more table [] (y ∷ qs) p q h e = absurd h
copied_more table (x ∷ ps) [] p q h e = absurd h
copied_more table (x ∷ ps) (y ∷ qs) p q h e = (h.0, copied_more table ps qs p q h.1 e)

pub copied_count : (table : List (Option TypeId)) (ps qs : List TypeId) → AllCopied table ps qs → length qs ≡ length ps
copied_count table [] [] h = refl
copied_count table [] (y ∷ qs) h = absurd h
copied_count table (x ∷ ps) [] h = absurd h
copied_count table (x ∷ ps) (y ∷ qs) h = ap suc (copied_count table ps qs h.1)

pub copied_belong : (mid : List Row) (table : List (Option TypeId)) (ps qs : List TypeId) → CopiesBelong mid table → AllCopied table ps qs → AllByRecursion (BelongsTo mid) qs
copied_belong mid table [] [] b h = tt
copied_belong mid table [] (y ∷ qs) b h = absurd h
copied_belong mid table (x ∷ ps) [] b h = absurd h
copied_belong mid table (x ∷ ps) (y ∷ qs) b h = (b x.at y h.0, copied_belong mid table ps qs b h.1)

module _ (tops inner : List (Option TypeId)) (mid new : List Row) (id : TypeId) (b : BelongsTo new id) where
  pub seq_is : (ps qs : List TypeId) → AllCopied tops ps qs → tree_at new id.at ≡ form_tree (tree_at mid) (seq_form (type_numbers qs)) → IsFormCopy (seq_form (type_numbers ps)) tops inner mid new id
  seq_is ps qs c e = record {
    same = λ old N M a h i. subst (λ T. Alike N M (form_tree (tree_at old) (seq_form (type_numbers ps))) T) (sym e) (alike_seqs N M old mid tops h ps qs c);
    bare = λ h. subst (λ T. HasTops (any_word ∷ []) T) (sym e) (bare_seqs mid tops h ps qs c);
    belongs = b;
  }

  pub alt_is : (ps qs : List TypeId) → 0 < length qs → AllCopied tops ps qs → tree_at new id.at ≡ form_tree (tree_at mid) (alt_form (type_numbers qs)) → IsFormCopy (alt_form (type_numbers ps)) tops inner mid new id
  alt_is ps qs l c e =
      let n = copied_count tops ps qs c in
      record {
        same = λ old N M a h i. subst (λ T. Alike N M (form_tree (tree_at old) (alt_form (type_numbers ps))) T) (sym e) (alike_alts N M old mid tops h ps qs (omega arith) c);
        bare = λ h. subst (λ T. HasTops (any_word ∷ []) T) (sym e) (bare_alts mid tops h ps qs l c);
        belongs = b;
      }

  pub elem_is : (k : LabelClass) (p : ℕ) (q : TypeId) → copy_in inner p ≡ Some q → tree_at new id.at ≡ form_tree (tree_at mid) (elem_form k q.at) → IsFormCopy (elem_form k p) tops inner mid new id
  elem_is k p q c e = record {
    same = λ old N M a h i. subst (λ T. Alike N M (Elem k (tree_at old p)) T) (sym e) (alike_elem N M k (tree_at old p) (tree_at mid q.at) (i p q c));
    bare = λ h. subst (λ T. HasTops (any_word ∷ []) T) (sym e) refl;
    belongs = b;
  }

  pub star_is : (p : ℕ) (q : TypeId) → copy_in tops p ≡ Some q → tree_at new id.at ≡ form_tree (tree_at mid) (star_form q.at) → IsFormCopy (star_form p) tops inner mid new id
  star_is p q c e = record {
    same = λ old N M a h i. subst (λ T. Alike N M (Star (tree_at old p)) T) (sym e) (alike_star N M (tree_at old p) (tree_at mid q.at) (h p q c));
    bare = λ h. subst (λ T. HasTops (any_word ∷ []) T) (sym e) (h p q c);
    belongs = b;
  }

  pub plus_is : (p : ℕ) (q : TypeId) → copy_in tops p ≡ Some q → tree_at new id.at ≡ form_tree (tree_at mid) (plus_form q.at) → IsFormCopy (plus_form p) tops inner mid new id
  plus_is p q c e = record {
    same = λ old N M a h i. subst (λ T. Alike N M (Plus (tree_at old p)) T) (sym e) (alike_plus N M (tree_at old p) (tree_at mid q.at) (h p q c));
    bare = λ h. subst (λ T. HasTops (any_word ∷ []) T) (sym e) (h p q c);
    belongs = b;
  }

  pub opt_is : (p : ℕ) (q : TypeId) → copy_in tops p ≡ Some q → tree_at new id.at ≡ form_tree (tree_at mid) (opt_form q.at) → IsFormCopy (opt_form p) tops inner mid new id
  opt_is p q c e = record {
    same = λ old N M a h i. subst (λ T. Alike N M (Opt (tree_at old p)) T) (sym e) (alike_opt N M (tree_at old p) (tree_at mid q.at) (h p q c));
    bare = λ h. subst (λ T. HasTops (any_word ∷ []) T) (sym e) (h p q c);
    belongs = b;
  }

  -- `Any` for a form that would become a type that every document fits
  pub any_is : (T : Tree) (f : Form) → ((old : List Row) (N M : Meaning) → AreCopies N M old mid tops → Alike N M (form_tree (tree_at old) f) T) → TakesAll T → tree_at new id.at ≡ Name any_word → IsFormCopy f tops inner mid new id
  any_is T f like t e = record {
    same = λ old N M a h i d. subst (λ U. FitsAs N (form_tree (tree_at old) f) d ↔ FitsAs M U d) (sym e) (λ g. a d, λ g. (like old N M h d).1 (t.fits M a d));
    bare = λ h. subst (λ T. HasTops (any_word ∷ []) T) (sym e) refl;
    belongs = b;
  }

  pub star_any : (p : ℕ) (q : TypeId) → copy_in tops p ≡ Some q → TakesAll (Star (tree_at mid q.at)) → tree_at new id.at ≡ Name any_word → IsFormCopy (star_form p) tops inner mid new id
  star_any p q c t e = any_is (Star (tree_at mid q.at)) (star_form p) (λ old N M h. alike_star N M (tree_at old p) (tree_at mid q.at) (h p q c)) t e

  pub opt_any : (p : ℕ) (q : TypeId) → copy_in tops p ≡ Some q → TakesAll (Opt (tree_at mid q.at)) → tree_at new id.at ≡ Name any_word → IsFormCopy (opt_form p) tops inner mid new id
  opt_any p q c t e = any_is (Opt (tree_at mid q.at)) (opt_form p) (λ old N M h. alike_opt N M (tree_at old p) (tree_at mid q.at) (h p q c)) t e

  pub alt_any : (ps qs : List TypeId) → 0 < length qs → AllCopied tops ps qs → TakesAll (alt_of (trees mid qs)) → tree_at new id.at ≡ Name any_word → IsFormCopy (alt_form (type_numbers ps)) tops inner mid new id
  alt_any ps qs l c t e =
      let n = copied_count tops ps qs c in
      any_is (alt_of (map (tree_at mid) (type_numbers qs))) (alt_form (type_numbers ps)) (λ old N M h. alike_alts N M old mid tops h ps qs (omega arith) c)
      (subst (λ Ts. TakesAll (alt_of Ts)) (sym (map_numbers (tree_at mid) qs)) t) e

  -- a form without parts stays what it is
  pub leaf_is : (T : Tree) (f : Form) → ((old : List Row) → form_tree (tree_at old) f ≡ T) → ((N M : Meaning) → Alike N M T T) → HasTops (any_word ∷ []) T → tree_at new id.at ≡ T → IsFormCopy f tops inner mid new id
  leaf_is T f g same t e = record {
    same = λ old N M a h i. subst (λ U. Alike N M (form_tree (tree_at old) f) U) (sym e) (subst (λ U. Alike N M U T) (sym (g old)) (same N M));
    bare = λ h. subst (λ U. HasTops (any_word ∷ []) U) (sym e) t;
    belongs = b;
  }

-- ---- nodes
pub node_by_form : (old : List Row) (words : List (List ℕ)) (bodies : List TypeId) (i : ℕ) (tops inner : List (Option TypeId)) (mid new : List Row) (f : Form) (id : TypeId) →
    tree_at old i ≡ form_tree (tree_at old) f → IsFormCopy f tops inner mid new id → IsNodeCopy old words bodies i tops inner mid new id
node_by_form old words bodies i tops inner mid new f id e h = record {
  same = λ N M m a t k. subst (λ T. Alike N M T (tree_at new id.at)) (sym e) (h.same old N M a t k);
  belongs = h.belongs;
}

-- `Any` stands for every document on both sides
pub node_by_any : (old : List Row) (words : List (List ℕ)) (bodies : List TypeId) (i : ℕ) (tops inner : List (Option TypeId)) (mid new : List Row) (id : TypeId) →
    tree_at old i ≡ Name any_word → tree_at new id.at ≡ Name any_word → BelongsTo new id → IsNodeCopy old words bodies i tops inner mid new id
node_by_any old words bodies i tops inner mid new id e f b = record {
  same = λ N M m a t k d. subst (λ T. FitsAs N T d ↔ FitsAs M (tree_at new id.at) d) (sym e) (subst (λ T. FitsAs N (Name any_word) d ↔ FitsAs M T d) (sym f) (λ g. a d, λ g. m.any d));
  belongs = b;
}

-- a name stands for what its definition does
pub node_by_name : (old : List Row) (words : List (List ℕ)) (bodies : List TypeId) (i : ℕ) (inner : List (Option TypeId)) (mid : List Row) (w : List ℕ) (id : TypeId) →
    tree_at old i ≡ Name w → CopiesBelong mid inner → IsMeantCopy words bodies inner w id → IsNodeCopy old words bodies i inner inner mid mid id
node_by_name old words bodies i inner mid w id e c h = record { same = same; belongs = c (body).at id at_body }
  where
    body : TypeId
    body = get_or bodies h.place id

    is_body : body ≡ get_or bodies h.place body
    is_body = same_at bodies h.place id body h.there

    at_body : copy_in inner body.at ≡ Some id
    at_body = h.copy body is_body

    named : get_or words h.place [] ≡ w
    named = same_at words h.place [] w h.within ∙ h.name

    same : (N M : Meaning) → AreMeant N old words bodies → MeansEach M → AreCopies N M old mid inner → AreCopies N M old mid inner → Alike N M (tree_at old i) (tree_at mid id.at)
    same N M m a t k d =
        let it = m.each h.place body h.within is_body d in
        let there = k body.at id at_body d in
        subst (λ T. FitsAs N T d ↔ FitsAs M (tree_at mid id.at) d) (sym e)
        (λ f. there.0 (it.0 (subst (λ v. N v d ≡ true) (sym named) f)), λ f. subst (λ v. N v d ≡ true) named (it.1 (there.1 f)))

-- no node has a copy
pub no_copy : (n : ℕ) (table : List (Option TypeId)) → AreNoCopies n table → (i : ℕ) (id : TypeId) → copy_in table i ≡ Some id → ⊥
no_copy n table h i id e = let f = go table i h.none in let g : None ≡ Some id = sym f ∙ e in cc
  where
    go : (xs : List (Option TypeId)) (k : ℕ) → AllByRecursion (λ o. o ≡ None) xs → get_or xs k None ≡ None
    go [] k h = refl
    go (x ∷ xs) zero h = h.0
    go (x ∷ xs) (suc k) h = go xs k h.1

-- ---- steps of loops
pub copied_step : (table : List (Option TypeId)) (ps qs : List TypeId) (k : ℕ) (p q : TypeId) → k < length ps → p ≡ get_or ps k p → AllCopied table (take k ps) qs → copy_in table p.at ≡ Some q → AllCopied table (take (k + 1) ps) (qs ++ q ∷ [])
copied_step table ps qs k p q l e h c = subst (λ xs. AllCopied table xs (qs ++ q ∷ [])) (sym (take_read ps k p l e)) (copied_more table (take k ps) qs p q h c)

pub none_step : (n : ℕ) (table : List (Option TypeId)) → AreNoCopies n table → AreNoCopies (n + 1) (table ++ None ∷ [])
none_step n table h = record { count = length-append table (None ∷ []) ∙ ap (λ m. m + 1) h.count; none = all_push (λ o. o ≡ None) table None h.none refl }

-- a node gets a name
pub named_set : (old mid new : List Row) (table : List (Option TypeId)) (w : List ℕ) (n id : TypeId) → KeepsRows mid new → CopiesBelong mid table → n.at < length table → tree_at new id.at ≡ Name w → BelongsTo new id →
    GrowsCopies (StandsForNode old w n.at) old mid table new (set table n.at (Some id))
named_set old mid new table w n id k b l e belongs =
    copies_set (StandsForNode old w n.at) old mid new table n.at id k b l (λ N M p h d. subst (λ T. FitsAs N (tree_at old n.at) d ↔ FitsAs M T d) (sym e) ((p d).1, (p d).0)) belongs

-- the names of all nodes, by that of one
pub name_among : (old : List Row) (names : List (List ℕ)) (named : List TypeId) (k : ℕ) (w : List ℕ) (id : TypeId) → k < length named → w ≡ get_or names k w → id ≡ get_or named k id → (N M : Meaning) → StandForNodes old names named N M → StandsForNode old w id.at N M
name_among old names named k w id l e f N M h = h k w id l e f

pub ok_some_map : {A E : Type 0} (r : Result (Option A) E) (P Q : A → Type 0) → ((x : A) → P x → Q x) → IfOk r (λ o. IfSome o P) → IfOk r (λ o. IfSome o Q)
ok_some_map (Ok o) P Q f h = some_map o P Q f h
ok_some_map (Err e) P Q f h = tt

-- the same where the table has grown
pub node_by_name_grown : (old : List Row) (words : List (List ℕ)) (bodies : List TypeId) (i : ℕ) (inner : List (Option TypeId)) (mid new : List Row) (w : List ℕ) (id : TypeId) →
    tree_at old i ≡ Name w → KeepsRows mid new → CopiesBelong mid inner → IsMeantCopy words bodies inner w id → IsNodeCopy old words bodies i inner inner mid new id
node_by_name_grown old words bodies i inner mid new w id e k c h =
    let it = node_by_name old words bodies i inner mid w id e c h in
    let l = KeepsRows-length mid new k in
    let b = it.belongs in
    record {
      same = λ N M m a t u. subst (λ T. Alike N M (tree_at old i) T) (sym (KeepsRows-tree mid new k id.at b)) (it.same N M m a t u);
      belongs = omega arith;
    }
