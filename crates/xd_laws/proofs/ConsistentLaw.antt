-- In a consistent proof every goal's claim holds: heads say what fits a type, and the rules are
-- sound.
use Rattle.std.proofs.Common.{◌≡◌, ℕ, zero, suc, true, false, List, [], ◌∷◌, Option, Some, None, refl, ap, sym, subst, ◌∙◌, inl, inr}
use Rattle.std.specs.List.{AllByRecursion, list_any}
use Rattle.xd_doc.specs.Document.{Document, empty, text, element}
use Rattle.xd_syntax.specs.Tree.{Tree, Definitions}
use Rattle.xd_syntax.specs.Fits.{Fits}
use Rattle.xd_rules.specs.Heads.{Head, HeadKind, element_in, text_in}
use Rattle.xd_rules.specs.Listed.{SomeOf}
use Rattle.xd_rules.specs.Rules.{Case, ChoiceTree, settles_content, settles_rest, split_on, Claim, numbered}
use Rattle.xd_rules.specs.Meaning.{AllLeaves, IsMeaning, takes_label, takes_text}
use Rattle.xd_rules.proofs.Members.{any-one_of, one_of-get}
use Rattle.xd_rules.proofs.Lists.{all_at, all_places}
use Rattle.xd_rules.proofs.Soundness.{IsSettled, holds}
use Rattle.xd_meaning.specs.Included.{FitsSome}
use Rattle.xd_meaning.specs.CanBeEmpty.{can_be_empty}
use Rattle.xd_meaning.specs.Heads.{heads}
use Rattle.xd_meaning.specs.HeadBegins.{Begins}
use Rattle.xd_meaning.specs.Consistent.{Goal, claim_of, claims, EmptyRule, KeepsRules, IsConsistent, ClaimHolds}
use Rattle.xd_laws.specs.Guarded.{Guarded}
use Rattle.xd_laws.proofs.Claims.{goal_of, goal_claim}
use Rattle.xd_laws.proofs.Documents.{filled}
use Rattle.xd_laws.proofs.HeadsLaw.{head_fits, fits_head, empty_right, empty_exact}

module _ (E : Definitions) where
  -- what begins as a head is taken by the head's class
  text_taken : (h : Head Tree) (t : List ℕ) (d : Document) → Begins E h (text t d) → (takes_text h.kind t ≡ true) × Fits E h.rest d
  text_taken h t d b = (ap (λ (k : HeadKind). takes_text k t) b.1 ∙ b.2, b.3)

  text_begins : (h : Head Tree) (t : List ℕ) (d : Document) → takes_text h.kind t ≡ true → Fits E h.rest d → Begins E h (text t d)
  text_begins h t d e f = by_kind h.kind refl
    where
      by_kind : (k : HeadKind) → h.kind ≡ k → Begins E h (text t d)
      by_kind (text_in w) q = (w, q, ap (λ (x : HeadKind). takes_text x t) (sym q) ∙ e, f)
      by_kind (element_in c) q = let none : takes_text h.kind t ≡ false = ap (λ (x : HeadKind). takes_text x t) q in absurd (cc)

  element_taken : (h : Head Tree) (l : List ℕ) (c d : Document) → Begins E h (element l c d) → (takes_label h.kind l ≡ true) × Fits E h.content c × Fits E h.rest d
  element_taken h l c d b = (ap (λ (k : HeadKind). takes_label k l) b.1 ∙ b.2, b.3, b.4)

  element_begins : (h : Head Tree) (l : List ℕ) (c d : Document) → takes_label h.kind l ≡ true → Fits E h.content c → Fits E h.rest d → Begins E h (element l c d)
  element_begins h l c d e f g = by_kind h.kind refl
    where
      by_kind : (k : HeadKind) → h.kind ≡ k → Begins E h (element l c d)
      by_kind (element_in w) q = (w, q, ap (λ (x : HeadKind). takes_label x l) (sym q) ∙ e, f, g)
      by_kind (text_in w) q = let none : takes_label h.kind l ≡ false = ap (λ (x : HeadKind). takes_label x l) q in absurd (cc)

  fits_some : (Ts : List Tree) (d : Document) → SomeOf (λ T. Fits E T d) Ts → FitsSome E Ts d
  fits_some [] d s = absurd s.1
  fits_some (T ∷ Ts) d s = elim s.1 [ inl e ↦ inl (subst (λ U. Fits E U d) (sym e) s.2) | inr m ↦ inr (fits_some Ts d (s.0, m, s.2)) ]

  -- the heads of types say what fits them
  types_meaning : Guarded E → IsMeaning (Fits E) (heads E) (can_be_empty E)
  types_meaning guarded = record {
    empty_from = empty_exact E guarded;
    empty_to = empty_right E;
    text_from = λ T t d f.
        let h = fits_head E guarded T (text t d) f (filled (text t d) refl) in
        let b = text_taken h.0 t d h.2 in
        (h.0, h.1, b.0, b.1);
    text_to = λ T t d h m e f. head_fits E T h (text t d) m (text_begins h t d e f);
    element_from = λ T l c d f.
        let h = fits_head E guarded T (element l c d) f (filled (element l c d) refl) in
        let b = element_taken h.0 l c d h.2 in
        (h.0, h.1, b.0, b.1, b.2);
    element_to = λ T l c d h m e f g. head_fits E T h (element l c d) m (element_begins h l c d e f g);
  }

every_leaf : (t : ChoiceTree) → AllLeaves (λ n. Unit {0}) t
every_leaf (settles_content n) = tt
every_leaf (settles_rest n) = tt
every_leaf (split_on n t u) = (every_leaf t, every_leaf u)

every_case : (cs : List Case) → AllByRecursion (λ (c : Case). AllLeaves (λ n. Unit {0}) c.choice) cs
every_case [] = tt
every_case (c ∷ cs) = (every_leaf c.choice, every_case cs)

module _ (E : Definitions) (guarded : Guarded E) (gs : List Goal) (consistent : IsConsistent E gs) where
  last : (g : Goal) (o : Option ℕ) → EmptyRule E g o → can_be_empty E g.left ≡ true → list_any (can_be_empty E) g.rights ≡ true
  last g None e can = absurd (cc)
  last g (Some zero) e can = absurd (let none = e.2 in cc)
  last g (Some (suc n)) e can = any-one_of (can_be_empty E) e.1 g.rights (one_of-get e.1 g.rights n e.2) e.3

  goal_settled : (n : ℕ) (g : Goal) → numbered gs n ≡ Some g → IsSettled (heads E) (can_be_empty E) (claims gs) (λ n. Unit {0}) (claim_of g)
  goal_settled zero g e = absurd (cc)
  goal_settled (suc n) g e =
      let rules = all_at (KeepsRules E gs) gs n g consistent e in
      record {
        cases = g.cases;
        rules = record { last = last g g.empty_right rules.empty; complete = rules.cases; each = rules.trees };
        leaves = every_case g.cases;
      }

  settled : (n : ℕ) → Unit {0} → (c : Claim Tree) → claims gs n ≡ Some c → IsSettled (heads E) (can_be_empty E) (claims gs) (λ n. Unit {0}) c
  settled n u c e = let g = goal_of gs n c e in subst (IsSettled (heads E) (can_be_empty E) (claims gs) (λ n. Unit {0})) g.2 (goal_settled n g.0 g.1)

  pub all_claims : AllByRecursion (ClaimHolds E) gs
  all_claims = all_places (ClaimHolds E) gs (λ n g at d proper f.
      fits_some E g.rights d (holds (Fits E) (heads E) (can_be_empty E) (types_meaning E guarded) (claims gs) (λ n. Unit {0}) settled d (suc n) tt (claim_of g) (goal_claim gs (suc n) g at) f))
