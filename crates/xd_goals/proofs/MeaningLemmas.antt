-- What a state accepts, said by its heads.
use Rattle.std.proofs.Common.{ℕ, ◌≡◌, true, false, ◌&&◌, List, map, inl, inr, sym, subst}
use Rattle.std.proofs.lemmas.Bool.{and_from}
use Rattle.xd_doc.specs.Document.{Document, text, element}
use Rattle.xd_doc.specs.Classes.{class_has}
use Rattle.xd_doc.proofs.Bools.{and_parts}
use Rattle.xd_auto.specs.declared.auto.State.{State}
use Rattle.xd_auto.specs.declared.auto.LabelMove.{LabelMove}
use Rattle.xd_auto.specs.declared.auto.TextMove.{TextMove}
use Rattle.xd_auto.specs.Automaton.{Automaton, accepts, moves_at}
use Rattle.xd_doc.specs.Members.{IsOneOf}
use Rattle.xd_rules.specs.Heads.{Head}
use Rattle.xd_rules.specs.Meaning.{takes_label, takes_text, IsMeaning}
use Rattle.xd_rules.proofs.Members.{one_of-append_left, one_of-append_right, one_of-append_cases, one_of-map, one_of-from_map, one_of-any, any-one_of}
use Rattle.xd_state_heads.specs.Moves.{Accepts, heads_of, is_last_in, label_head, text_head}

accepts-text_from : (a : Automaton) (s : State) (t : List ℕ) (d : Document) → Accepts a s (text t d) → (h : Head State) × IsOneOf h (heads_of a s) × (takes_text h.kind t ≡ true) × Accepts a h.rest d
accepts-text_from a s t d p =
    let m = one_of-any (λ (k : TextMove). class_has k.words t && accepts a d k.rest) (moves_at a s).texts p in
    let e = and_parts (class_has m.0.words t) (accepts a d m.0.rest) m.2 in
    (text_head m.0, one_of-append_right (text_head m.0) (map label_head (moves_at a s).labels) (map text_head (moves_at a s).texts) (one_of-map text_head m.0 (moves_at a s).texts m.1), e.0, e.1)

accepts-element_from : (a : Automaton) (s : State) (l : List ℕ) (c d : Document) → Accepts a s (element l c d)
    → (h : Head State) × IsOneOf h (heads_of a s) × (takes_label h.kind l ≡ true) × Accepts a h.content c × Accepts a h.rest d
accepts-element_from a s l c d p =
    let m = one_of-any (λ (k : LabelMove). class_has k.class l && (accepts a c k.content && accepts a d k.rest)) (moves_at a s).labels p in
    let e = and_parts (class_has m.0.class l) (accepts a c m.0.content && accepts a d m.0.rest) m.2 in
    let f = and_parts (accepts a c m.0.content) (accepts a d m.0.rest) e.1 in
    (label_head m.0, one_of-append_left (label_head m.0) (map label_head (moves_at a s).labels) (map text_head (moves_at a s).texts) (one_of-map label_head m.0 (moves_at a s).labels m.1), e.0, f.0, f.1)

accepts-text_to : (a : Automaton) (s : State) (t : List ℕ) (d : Document) (h : Head State) → IsOneOf h (heads_of a s) → takes_text h.kind t ≡ true → Accepts a h.rest d → Accepts a s (text t d)
accepts-text_to a s t d h m e p =
    elim (one_of-append_cases h (map label_head (moves_at a s).labels) (map text_head (moves_at a s).texts) m) [
      | inl x ↦ let k = one_of-from_map label_head h (moves_at a s).labels x in
          let no : false ≡ true = subst (λ (w : Head State). takes_text w.kind t ≡ true) (sym k.2) e in absurd (cc)
      | inr x ↦ let k = one_of-from_map text_head h (moves_at a s).texts x in
          any-one_of (λ (k : TextMove). class_has k.words t && accepts a d k.rest) k.0 (moves_at a s).texts k.1
          (and_from (class_has k.0.words t) (accepts a d k.0.rest) (subst (λ (w : Head State). takes_text w.kind t ≡ true) (sym k.2) e) (subst (λ (w : Head State). accepts a d w.rest ≡ true) (sym k.2) p))
    ]

accepts-element_to : (a : Automaton) (s : State) (l : List ℕ) (c d : Document) (h : Head State) → IsOneOf h (heads_of a s) → takes_label h.kind l ≡ true
    → Accepts a h.content c → Accepts a h.rest d → Accepts a s (element l c d)
accepts-element_to a s l c d h m e p q =
    elim (one_of-append_cases h (map label_head (moves_at a s).labels) (map text_head (moves_at a s).texts) m) [
      | inr x ↦ let k = one_of-from_map text_head h (moves_at a s).texts x in
          let no : false ≡ true = subst (λ (w : Head State). takes_label w.kind l ≡ true) (sym k.2) e in absurd (cc)
      | inl x ↦ let k = one_of-from_map label_head h (moves_at a s).labels x in
          any-one_of (λ (k : LabelMove). class_has k.class l && (accepts a c k.content && accepts a d k.rest)) k.0 (moves_at a s).labels k.1
          (and_from (class_has k.0.class l) (accepts a c k.0.content && accepts a d k.0.rest) (subst (λ (w : Head State). takes_label w.kind l ≡ true) (sym k.2) e)
          (and_from (accepts a c k.0.content) (accepts a d k.0.rest) (subst (λ (w : Head State). accepts a c w.content ≡ true) (sym k.2) p) (subst (λ (w : Head State). accepts a d w.rest ≡ true) (sym k.2) q)))
    ]

pub automaton_meaning : (a : Automaton) → IsMeaning (Accepts a) (heads_of a) (is_last_in a)
automaton_meaning a = record {
  empty_from = λ s p. p;
  empty_to = λ s p. p;
  text_from = accepts-text_from a;
  text_to = accepts-text_to a;
  element_from = accepts-element_from a;
  element_to = accepts-element_to a;
}
