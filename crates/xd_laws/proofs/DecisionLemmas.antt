-- Whether a pattern takes a document, and whether a document fits a type of a sound program: by the
-- first match.
use Rattle.std.proofs.Common.{◌≡◌, Bool, true, false, cond, ◌⊎◌, inl, inr, List, [], ◌∷◌, Option, Some, None, refl, sym, subst, ◌∙◌}
use Rattle.xd_doc.specs.Document.{Document}
use Rattle.xd_doc.specs.Members.{IsOneOf}
use Rattle.xd_syntax.specs.Tree.{Tree, Definitions}
use Rattle.xd_syntax.specs.Fits.{Fits}
use Rattle.xd_syntax.specs.Ways.{Way, ways, is_whole, IsWholeWay, Takes}
use Rattle.xd_meaning.specs.FirstMatch.{first_whole, first}
use Rattle.xd_meaning.specs.Meaning.{Environment}
use Rattle.xd_laws.specs.Guarded.{Guarded}
use Rattle.xd_laws.proofs.Unfoldings.{takes_fits, fits_takes}

whole_found : (ws : List Way) (vs : Environment) → first_whole ws ≡ Some vs → (w : Way) × IsOneOf w ws × (is_whole w ≡ true) × (w.bindings ≡ vs)
whole_found [] vs e = cc
whole_found (u ∷ us) vs e = go (is_whole u) refl e (λ k. whole_found us vs k)
  where
    go : (b : Bool) → is_whole u ≡ b → cond b (Some u.bindings) (first_whole us) ≡ Some vs →
        (first_whole us ≡ Some vs → (w : Way) × IsOneOf w us × (is_whole w ≡ true) × (w.bindings ≡ vs)) →
        (w : Way) × IsOneOf w (u ∷ us) × (is_whole w ≡ true) × (w.bindings ≡ vs)
    go true q k rec = (u, inl refl, q, cc)
    go false q k rec = let r = rec k in (r.0, inr r.1, r.2, r.3)

whole_missing : (ws : List Way) → first_whole ws ≡ None → (w : Way) → IsOneOf w ws → is_whole w ≡ true → ⊥
whole_missing [] e w m h = m
whole_missing (u ∷ us) e w m h = go (is_whole u) refl e m (λ k. whole_missing us k w)
  where
    go : (b : Bool) → is_whole u ≡ b → cond b (Some u.bindings) (first_whole us) ≡ None → IsOneOf w (u ∷ us) → (first_whole us ≡ None → IsOneOf w us → is_whole w ≡ true → ⊥) → ⊥
    go true q k m rec = cc
    go false q k (inl e) rec = let f : true ≡ false = sym h ∙ subst (λ v. is_whole v ≡ false) e q in cc
    go false q k (inr m) rec = rec k m h

-- the way that the first match is
pub first_way : (E : Definitions) (A : Tree) (d : Document) (vs : Environment) → first E A d ≡ Some vs → (w : Way) × IsWholeWay E A d w × (w.bindings ≡ vs)
first_way E A d vs e = let r = whole_found (ways E A d) vs e in (r.0, (r.1, r.2), r.3)

pub takes_not : (E : Definitions) (A : Tree) (d : Document) → first E A d ≡ None → Takes E A d → ⊥
takes_not E A d e t = whole_missing (ways E A d) e t.0 (t.1).0 (t.1).1

pub decide_fits : (E : Definitions) → Guarded E → (T : Tree) (d : Document) → Fits E T d ⊎ (Fits E T d → ⊥)
decide_fits E g T d = go (first E T d) refl
  where
    go : (o : Option Environment) → first E T d ≡ o → Fits E T d ⊎ (Fits E T d → ⊥)
    go (Some vs) e = let r = first_way E T d vs e in inl (takes_fits E T d (r.0, r.1))
    go None e = inr (λ f. takes_not E T d e (fits_takes E g T d f))

pub fits_not_not : (E : Definitions) → Guarded E → (T : Tree) (d : Document) → ((Fits E T d → ⊥) → ⊥) → Fits E T d
fits_not_not E g T d h = elim (decide_fits E g T d) [ inl f ↦ f | inr n ↦ absurd (h n) ]
