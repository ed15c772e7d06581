-- Documents that the left of a claim accepts and no right does.
use Rattle.std.proofs.Common.{ℕ, ◌≡◌, Bool, true, false, List, ◌++◌, sym, ◌∙◌}
use Rattle.std.specs.List.{AllByRecursion}
use Rattle.xd_doc.specs.Document.{Document, empty, text}
use Rattle.xd_rules.specs.declared.atom.Atom.{Atom}
use Rattle.xd_doc.specs.Members.{IsOneOf}
use Rattle.xd_rules.specs.Listed.{NoneOf}
use Rattle.xd_rules.specs.Heads.{Head, matches}
use Rattle.xd_rules.specs.Rules.{Claim}
use Rattle.xd_rules.specs.Meaning.{IsMeaning, Separates, right_heads, takes_text}
use Rattle.xd_rules.proofs.Members.{one_of-append_left, one_of-append_right, one_of-to_flat_map, one_of-all}

module _ {S : Type 0} (Accepts : S → Document → Type 0) (heads : S → List (Head S)) (is_last : S → Bool) (meaning : IsMeaning Accepts heads is_last) where
  pub separates-empty : (c : Claim S) → is_last c.left ≡ true → AllByRecursion (λ r. is_last r ≡ false) c.rights → Separates Accepts c empty
  separates-empty c left rights =
      record {
        accepted = meaning.empty_to c.left left;
        refused = λ r m p. let f = one_of-all (λ x. is_last x ≡ false) r c.rights rights m in let t = meaning.empty_from r p in cc;
      }

  pub separates-text : (c : Claim S) (h : Head S) → IsOneOf h (heads c.left) → (atom : Atom) (t : List ℕ)
      → ((k : Head S) → IsOneOf k (heads c.left ++ right_heads heads c) → matches k.kind atom ≡ takes_text k.kind t) → matches h.kind atom ≡ true
      → (rests : List S) → ((k : Head S) → IsOneOf k (right_heads heads c) → matches k.kind atom ≡ true → IsOneOf k.rest rests)
      → (d : Document) → Accepts h.rest d → NoneOf (λ s. Accepts s d) rests → Separates Accepts c (text t d)
  separates-text c h m atom t same matched rests sides d q no_rest =
      record {
        accepted = meaning.text_to c.left t d h m (sym (same h (one_of-append_left h (heads c.left) (right_heads heads c) m)) ∙ matched) q;
        refused = λ r rm a. from_head r rm (meaning.text_from r t d a);
      }
    where
      from_head : (r : S) → IsOneOf r c.rights → (k : Head S) × IsOneOf k (heads r) × (takes_text k.kind t ≡ true) × Accepts k.rest d → ⊥
      from_head r rm k =
          let km = one_of-to_flat_map heads k.0 r c.rights rm k.1 in
          let hit : matches k.0.kind atom ≡ true = same k.0 (one_of-append_right k.0 (heads c.left) (right_heads heads c) km) ∙ k.2 in
          one_of-all (λ s. ¬ (Accepts s d)) k.0.rest rests no_rest (sides k.0 km hit) k.3
