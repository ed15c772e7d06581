-- Claims whose trees keep the rules hold of every document, by induction on the document.
use Rattle.std.proofs.Common.{ℕ, suc, ◌+◌, ◌≡◌, Bool, true, false, List, ◌++◌, map, Option, Some, inl, inr, sym, ap, ◌∙◌, subst, arith}
use Rattle.std.specs.List.{AllByRecursion}
use Rattle.xd_doc.specs.Document.{Document, empty, text, element}
use Rattle.xd_doc.specs.Classes.{is_named}
use Rattle.xd_rules.specs.declared.atom.Atom.{Atom}
use Rattle.xd_doc.specs.Members.{IsOneOf}
use Rattle.xd_rules.specs.Listed.{SomeOf}
use Rattle.xd_rules.specs.Heads.{Head, Named, matches, atoms_of, named_in}
use Rattle.xd_rules.specs.Rules.{numbered, Claim, ChoiceTree, settles_content, settles_rest, split_on, no_sides, matching, LabelTree, TextTree, TreeRule, Case, CaseRule, HeadAtom, head_atom}
use Rattle.xd_rules.specs.Meaning.{IsMeaning, Covered, ClaimKeeps, AllLeaves, keyed, right_heads, takes_label, takes_text}
use Rattle.xd_rules.proofs.Members.{one_of-all, one_of-append_left, one_of-append_right, one_of-from_flat_map, one_of-from_map, one_of-any, one_of-wanted}
use Rattle.xd_rules.proofs.NamesInOrder.{named_in-names}
use Rattle.xd_rules.proofs.Walk.{walk, Found, leaf_some, some_matching}
use Rattle.xd_rules.proofs.Atoms.{label_atom, label_atom_by, text_atom, text_atom_by, matches-label_atom, matches-text_atom, one_of-atoms_of_label, one_of-atoms_of_text, labels_are_named, texts_are_named}

-- a claim has cases, which keep the rules, with good leaves
pub record IsSettled {S : Type 0} (heads : S → List (Head S)) (is_last : S → Bool) (claim_at : ℕ → Option (Claim S)) (Good : ℕ → Type 0) (claim : Claim S) : Type 0 where
  pub cases : List Case
  pub rules : ClaimKeeps heads is_last claim_at claim cases
  pub leaves : AllByRecursion (λ (k : Case). AllLeaves Good k.choice) cases

module _ {S : Type 0} (heads : S → List (Head S)) (is_last : S → Bool) (claim_at : ℕ → Option (Claim S)) (Good : ℕ → Type 0) (c : Claim S) (settled : IsSettled heads is_last claim_at Good c) where
  -- a good tree for a head at an atom
  pub record HasTree (h : Head S) (a : Atom) : Type 0 where
    pub tree : ChoiceTree
    pub keeps : TreeRule claim_at a h (right_heads heads c) tree
    pub good : AllLeaves Good tree

  -- the tree for a head of a claim's left at one of the head's atoms
  pub tree_for : (h : Head S) → IsOneOf h (heads c.left) → (a : Atom) → IsOneOf a (atoms_of (named_in (heads c.left ++ right_heads heads c)) h.kind) → HasTree h a
  tree_for h m a ma =
      let w = one_of-wanted (named_in (heads c.left ++ right_heads heads c)) 1 (heads c.left) h a m ma in
      let there : IsOneOf (keyed (1 + w.0) a) (map head_atom settled.cases) = subst (λ ws. IsOneOf (keyed (1 + w.0) a) ws) (sym settled.rules.complete) w.2 in
      let k = one_of-from_map head_atom (keyed (1 + w.0) a) settled.cases there in
      let r = one_of-all (CaseRule claim_at (heads c.left) (right_heads heads c)) k.0 settled.cases settled.rules.each k.1 in
      let is_atom : (k.0).atom ≡ a = ap (λ (v : HeadAtom). v.1) k.2 in
      let number : (k.0).head ≡ suc w.0 = ap (λ (v : HeadAtom). v.0) k.2 ∙ omega arith in
      let at : numbered (heads c.left) (k.0).head ≡ Some h = ap (numbered (heads c.left)) number ∙ w.1 in
      let found : numbered (heads c.left) (k.0).head ≡ Some r.left_head = r.stands in
      let same : r.left_head ≡ h = cc in
      record {
        tree = (k.0).choice;
        keeps = subst (λ x. TreeRule claim_at a x (right_heads heads c) (k.0).choice) same
            (subst (λ x. TreeRule claim_at x r.left_head (right_heads heads c) (k.0).choice) is_atom r.tree);
        good = one_of-all (λ (x : Case). AllLeaves Good x.choice) k.0 settled.cases settled.leaves k.1;
      }

module _ {S : Type 0} (Accepts : S → Document → Type 0) (heads : S → List (Head S)) (is_last : S → Bool) (meaning : IsMeaning Accepts heads is_last)
    (claim_at : ℕ → Option (Claim S)) (Good : ℕ → Type 0) (settled : (g : ℕ) → Good g → (c : Claim S) → claim_at g ≡ Some c → IsSettled heads is_last claim_at Good c) where
  -- the document is no exception to a good claim
  abbrev pub HoldsAt : Document → Type 0
  HoldsAt d = (g : ℕ) → Good g → (c : Claim S) → claim_at g ≡ Some c → Covered (λ s. Accepts s d) c

  module _ (c : Claim S) (is : IsSettled heads is_last claim_at Good c) where
    abbrev all_heads : List (Head S)
    all_heads = heads c.left ++ right_heads heads c

    abbrev names : Named
    names = named_in all_heads

    at_empty : Covered (λ s. Accepts s empty) c
    at_empty p =
        let r = one_of-any is_last c.rights (is.rules.last (meaning.empty_from c.left p)) in
        (r.0, r.1, meaning.empty_to r.0 r.2)

    at_text : (t : List ℕ) (d : Document) → HoldsAt d → Covered (λ s. Accepts s (text t d)) c
    at_text t d rest_holds p = from_head (meaning.text_from c.left t d p)
      where
        atom : Atom
        atom = text_atom names t

        text_tree : (b : Bool) (h : Head S) (tree : ChoiceTree) → TreeRule claim_at (text_atom_by b t) h (right_heads heads c) tree → TextTree claim_at (text_atom_by b t) h (right_heads heads c) tree
        text_tree true h tree k = k
        text_tree false h tree k = k

        by_right : (h : Head S) × IsOneOf h (right_heads heads c) × (matches h.kind atom ≡ true) × Accepts h.rest d → SomeOf (λ s. Accepts s (text t d)) c.rights
        by_right k =
            let r = one_of-from_flat_map heads k.0 c.rights k.1 in
            let are = texts_are_named all_heads names (named_in-names all_heads) k.0 (one_of-append_right k.0 (heads c.left) (right_heads heads c) k.1) in
            (r.0, r.1, meaning.text_to r.0 t d k.0 r.2 (sym (matches-text_atom names t k.0.kind are) ∙ k.2) k.3)

        by_tree : (h : Head S) → Accepts h.rest d → (tree : ChoiceTree) → TextTree claim_at atom h (right_heads heads c) tree → AllLeaves Good tree → SomeOf (λ s. Accepts s (text t d)) c.rights
        by_tree h q (settles_content g) k good = absurd k
        by_tree h q (split_on j x y) k good = absurd k
        by_tree h q (settles_rest g) k good =
            by_right (some_matching (right_heads heads c) (λ x. Accepts x.rest d) atom (matching atom 1 (right_heads heads c)) (λ n i. i)
            (leaf_some (λ x. x.rest) (right_heads heads c) (λ s. Accepts s d) claim_at h (matching atom 1 (right_heads heads c)) g k (rest_holds g good) q))

        from_head : (h : Head S) × IsOneOf h (heads c.left) × (takes_text h.kind t ≡ true) × Accepts h.rest d → SomeOf (λ s. Accepts s (text t d)) c.rights
        from_head f =
            let are = texts_are_named all_heads names (named_in-names all_heads) f.0 (one_of-append_left f.0 (heads c.left) (right_heads heads c) f.1) in
            let k = tree_for heads is_last claim_at Good c is f.0 f.1 atom (one_of-atoms_of_text names t f.0 are f.2) in
            by_tree f.0 f.3 k.tree (text_tree (is_named names.texts t) f.0 k.tree k.keeps) k.good

    at_element : (l : List ℕ) (content d : Document) → HoldsAt content → HoldsAt d → Covered (λ s. Accepts s (element l content d)) c
    at_element l content d content_holds rest_holds p = from_head (meaning.element_from c.left l content d p)
      where
        atom : Atom
        atom = label_atom names l

        label_tree : (b : Bool) (h : Head S) (tree : ChoiceTree) → TreeRule claim_at (label_atom_by b l) h (right_heads heads c) tree → LabelTree claim_at (label_atom_by b l) h (right_heads heads c) no_sides tree
        label_tree true h tree k = k
        label_tree false h tree k = k

        from_found : Found (λ s. Accepts s content) (λ s. Accepts s d) atom (right_heads heads c) no_sides → SomeOf (λ s. Accepts s (element l content d)) c.rights
        from_found (inr (inl x)) = absurd x
        from_found (inr (inr x)) = absurd x
        from_found (inl w) =
            let r = one_of-from_flat_map heads w.0 c.rights w.1 in
            let are = labels_are_named all_heads names (named_in-names all_heads) w.0 (one_of-append_right w.0 (heads c.left) (right_heads heads c) w.1) in
            (r.0, r.1, meaning.element_to r.0 l content d w.0 r.2 (sym (matches-label_atom names l w.0.kind are) ∙ w.2) w.3 w.4)

        from_head : (h : Head S) × IsOneOf h (heads c.left) × (takes_label h.kind l ≡ true) × Accepts h.content content × Accepts h.rest d
            → SomeOf (λ s. Accepts s (element l content d)) c.rights
        from_head f =
            let are = labels_are_named all_heads names (named_in-names all_heads) f.0 (one_of-append_left f.0 (heads c.left) (right_heads heads c) f.1) in
            let k = tree_for heads is_last claim_at Good c is f.0 f.1 atom (one_of-atoms_of_label names l f.0 are f.2) in
            from_found
            (walk claim_at (λ s. Accepts s content) (λ s. Accepts s d) Good content_holds rest_holds f.0 f.3 f.4 atom (right_heads heads c)
            k.tree no_sides (label_tree (is_named names.labels l) f.0 k.tree k.keeps) k.good)

  pub holds : (d : Document) → HoldsAt d
  holds empty g good c found = at_empty c (settled g good c found)
  holds (text t d) g good c found = at_text c (settled g good c found) t d (holds d)
  holds (element l content d) g good c found = at_element c (settled g good c found) l content d (holds content) (holds d)
