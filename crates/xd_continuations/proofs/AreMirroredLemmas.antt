-- A state that mirrors a continuation accepts what the continuation means.
use Rattle.std.proofs.Common.{◌≡◌, ℕ, Bool, true, ◌&&◌, ◌↔◌, List, ◌∷◌, Some, refl, sym, subst, ◌∙◌, inl, inr}
use Rattle.std.specs.List.{list_any}
use Rattle.std.proofs.lemmas.Bool.{and_from, or_left, or_right}
use Rattle.xd_doc.specs.Document.{Document, empty, text, element}
use Rattle.xd_doc.specs.Classes.{LabelClass, TextClass, class_has}
use Rattle.xd_doc.specs.Members.{IsOneOf}
use Rattle.xd_doc.proofs.Bools.{and_parts, or_cases}
use Rattle.xd_syntax.specs.Tree.{Tree, Definitions, seq_of}
use Rattle.xd_syntax.specs.Fits.{Fits}
use Rattle.xd_laws.specs.Guarded.{Guarded}
use Rattle.xd_rules.specs.Heads.{HeadKind, element_in, text_in}
use Rattle.xd_meaning.specs.HeadBegins.{Begins}
use Rattle.xd_laws.proofs.Documents.{HasItem}
use Rattle.xd_syntax.proofs.Members.{map_mem, mem_map}
use Rattle.xd_laws.proofs.HeadsLaw.{head_fits, fits_head, empty_exact, empty_right}
use Rattle.xd_auto.specs.Automaton.{Automaton, accepts}
use Rattle.xd_auto.specs.declared.auto.State.{State}
use Rattle.xd_auto.specs.declared.auto.LabelMove.{LabelMove}
use Rattle.xd_auto.specs.declared.auto.TextMove.{TextMove}
use Rattle.xd_continuations.specs.Continuation.{Move, moves, head_of, AreMerged, IsContinuation}
use Rattle.xd_continuations.specs.Mirrors.{Continuations, AreMirrored, no_move, on_label, on_text, AreMirrors}
use Rattle.xd_continuations.proofs.MoveLemmas.{moves_are_heads}

-- a move as a head that a document begins as
abbrev Starts : Definitions → List Move → Document → Type 0
Starts E ms d = (m : Move) × IsOneOf m ms × Begins E (head_of m) d

starts_later : (E : Definitions) (m : Move) (ms : List Move) (d : Document) → Starts E ms d → Starts E (m ∷ ms) d
starts_later E m ms d r = (r.0, inr r.1, r.2)

-- ---- the moves of one state, where P and Q say what the states that they lead to accept

-- a kind has one class, and is of labels or of texts
one_text_class : (k : HeadKind) (v w : TextClass) → k ≡ text_in v → k ≡ text_in w → v ≡ w
one_text_class k v w a b = let e : text_in v ≡ text_in w = sym a ∙ b in cc

one_label_class : (k : HeadKind) (c d : LabelClass) → k ≡ element_in c → k ≡ element_in d → c ≡ d
one_label_class k c d a b = let e : element_in c ≡ element_in d = sym a ∙ b in cc

one_kind : (k : HeadKind) (c : LabelClass) (w : TextClass) → k ≡ element_in c → k ≡ text_in w → ⊥
one_kind k c w a b = let e : element_in c ≡ text_in w = sym a ∙ b in cc

module _ (E : Definitions) (C : Continuations) (s : List ℕ) (r : Document) (P : State → Bool)
    (right : (t : State) (K : List Tree) → C t ≡ Some K → (P t ≡ true) ↔ Fits E (seq_of K) r) where
  abbrev takes_text : TextMove → Bool
  takes_text t = class_has t.words s && P t.rest

  text_starts : {ms : List Move} {ls : List LabelMove} {ts : List TextMove} → AreMirrored C ms ls ts → list_any takes_text ts ≡ true → Starts E ms (text s r)
  text_starts no_move h = cc
  text_starts (on_label {m} {ms} {l} {ls} {ts} k c e a) h = starts_later E m ms (text s r) (text_starts a h)
  text_starts (on_text {m} {ms} {ls} {t} {ts} k e a) h =
      elim (or_cases (takes_text t) (list_any takes_text ts) h) [
        | inl p ↦ let u = and_parts (class_has t.words s) (P t.rest) p in (m, inl refl, (t.words, k, u.0, (right t.rest m.rest e).0 u.1))
        | inr q ↦ starts_later E m ms (text s r) (text_starts a q)
      ]

  starts_text : {ms : List Move} {ls : List LabelMove} {ts : List TextMove} → AreMirrored C ms ls ts → Starts E ms (text s r) → list_any takes_text ts ≡ true
  starts_text no_move h = absurd h.1
  starts_text (on_label {m} {ms} {l} {ls} {ts} k c e a) h =
      elim h.1 [
        | inl q ↦
            let b : Begins E (head_of m) (text s r) = subst (λ v. Begins E (head_of v) (text s r)) (sym q) h.2 in
            absurd (one_kind m.kind l.class b.0 k b.1)
        | inr q ↦ starts_text a (h.0, q, h.2)
      ]
  starts_text (on_text {m} {ms} {ls} {t} {ts} k e a) h =
      elim h.1 [
        | inl q ↦
            let b : Begins E (head_of m) (text s r) = subst (λ v. Begins E (head_of v) (text s r)) (sym q) h.2 in
            let y = one_text_class m.kind b.0 t.words b.1 k in
            or_left (takes_text t) (list_any takes_text ts)
            (and_from (class_has t.words s) (P t.rest) (subst (λ w. class_has w s ≡ true) y b.2) ((right t.rest m.rest e).1 b.3))
        | inr q ↦ or_right (takes_text t) (list_any takes_text ts) (starts_text a (h.0, q, h.2))
      ]

module _ (E : Definitions) (C : Continuations) (w : List ℕ) (k r : Document) (P Q : State → Bool)
    (inside : (t : State) (K : List Tree) → C t ≡ Some K → (P t ≡ true) ↔ Fits E (seq_of K) k)
    (right : (t : State) (K : List Tree) → C t ≡ Some K → (Q t ≡ true) ↔ Fits E (seq_of K) r) where
  abbrev takes : LabelMove → Bool
  takes l = class_has l.class w && (P l.content && Q l.rest)

  element_starts : {ms : List Move} {ls : List LabelMove} {ts : List TextMove} → AreMirrored C ms ls ts → list_any takes ls ≡ true → Starts E ms (element w k r)
  element_starts no_move h = cc
  element_starts (on_label {m} {ms} {l} {ls} {ts} q c e a) h =
      elim (or_cases (takes l) (list_any takes ls) h) [
        | inl p ↦
            let u = and_parts (class_has l.class w) (P l.content && Q l.rest) p in
            let v = and_parts (P l.content) (Q l.rest) u.1 in
            (m, inl refl, (l.class, q, u.0, (inside l.content m.content c).0 v.0, (right l.rest m.rest e).0 v.1))
        | inr p ↦ starts_later E m ms (element w k r) (element_starts a p)
      ]
  element_starts (on_text {m} {ms} {ls} {t} {ts} q e a) h = starts_later E m ms (element w k r) (element_starts a h)

  starts_element : {ms : List Move} {ls : List LabelMove} {ts : List TextMove} → AreMirrored C ms ls ts → Starts E ms (element w k r) → list_any takes ls ≡ true
  starts_element no_move h = absurd h.1
  starts_element (on_label {m} {ms} {l} {ls} {ts} q c e a) h =
      elim h.1 [
        | inl i ↦
            let b : Begins E (head_of m) (element w k r) = subst (λ v. Begins E (head_of v) (element w k r)) (sym i) h.2 in
            let y = one_label_class m.kind b.0 l.class b.1 q in
            or_left (takes l) (list_any takes ls)
            (and_from (class_has l.class w) (P l.content && Q l.rest) (subst (λ d. class_has d w ≡ true) y b.2)
            (and_from (P l.content) (Q l.rest) ((inside l.content m.content c).1 b.3) ((right l.rest m.rest e).1 b.4)))
        | inr i ↦ or_right (takes l) (list_any takes ls) (starts_element a (h.0, i, h.2))
      ]
  starts_element (on_text {m} {ms} {ls} {t} {ts} q e a) h =
      elim h.1 [
        | inl i ↦
            let b : Begins E (head_of m) (element w k r) = subst (λ v. Begins E (head_of v) (element w k r)) (sym i) h.2 in
            absurd (one_kind m.kind b.0 t.words b.1 q)
        | inr i ↦ starts_element a (h.0, i, h.2)
      ]

-- ---- whole documents

module _ (E : Definitions) (guarded : Guarded E) (merged : AreMerged E) (C : Continuations) (a : Automaton) (mirrors : AreMirrors E C a) where
  fits_starts : (K : List Tree) → IsContinuation K → (d : Document) → HasItem d → Fits E (seq_of K) d → Starts E (moves E K) d
  fits_starts K k d i f =
      let r = fits_head E guarded (seq_of K) d f i in
      let q = mem_map head_of r.0 (moves E K) (subst (IsOneOf r.0) (moves_are_heads E merged K k) r.1) in
      (q.0, q.1, subst (λ h. Begins E h d) (sym q.2) r.2)

  starts_fits : (K : List Tree) → IsContinuation K → (d : Document) → Starts E (moves E K) d → Fits E (seq_of K) d
  starts_fits K k d r =
      head_fits E (seq_of K) (head_of r.0) d (subst (IsOneOf (head_of r.0)) (sym (moves_are_heads E merged K k)) (map_mem head_of r.0 (moves E K) r.1)) r.2

  pub mirrors_accept : (d : Document) (s : State) (K : List Tree) → C s ≡ Some K → (accepts a d s ≡ true) ↔ Fits E (seq_of K) d
  mirrors_accept empty s K c =
      let m = mirrors s K c in
      (λ h. empty_right E (seq_of K) (sym m.flag ∙ h), λ f. m.flag ∙ empty_exact E guarded (seq_of K) f)
  mirrors_accept (text w r) s K c =
      let m = mirrors s K c in
      let right = λ (t : State) (L : List Tree) (e : C t ≡ Some L). mirrors_accept r t L e in (
        λ h. starts_fits K m.continuation (text w r) (text_starts E C w r (λ t. accepts a r t) right m.moves h),
        λ f. starts_text E C w r (λ t. accepts a r t) right m.moves (fits_starts K m.continuation (text w r) tt f),
      )
  mirrors_accept (element w k r) s K c =
      let m = mirrors s K c in
      let inside = λ (t : State) (L : List Tree) (e : C t ≡ Some L). mirrors_accept k t L e in
      let right = λ (t : State) (L : List Tree) (e : C t ≡ Some L). mirrors_accept r t L e in (
        λ h. starts_fits K m.continuation (element w k r) (element_starts E C w k r (λ t. accepts a k t) (λ t. accepts a r t) inside right m.moves h),
        λ f. starts_element E C w k r (λ t. accepts a k t) (λ t. accepts a r t) inside right m.moves (fits_starts K m.continuation (element w k r) tt f),
      )
