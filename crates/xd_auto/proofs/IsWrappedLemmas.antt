-- A state that accepts one element around what another accepts.
use Rattle.std.proofs.Common.{ℕ, ◌≡◌, true, false, ◌&&◌, List, refl, sym, ap, subst, ◌∙◌}
use Rattle.std.proofs.Math.Bool.{or-false}
use Rattle.std.specs.List.{list_any}
use Rattle.std.proofs.lemmas.Slice.Eq.{bytes_eq-Decides}
use Rattle.std.proofs.lemmas.Bool.{and_from}
use Rattle.xd_doc.specs.Document.{Document, empty, text, element}
use Rattle.xd_doc.specs.Classes.{class_has}
use Rattle.xd_doc.proofs.Bools.{and_left, and_right}
use Rattle.xd_auto.specs.declared.auto.State.{State}
use Rattle.xd_auto.specs.declared.auto.LabelMove.{LabelMove}
use Rattle.xd_auto.specs.Automaton.{Automaton, StateMoves, IsState, IsWrapped, KeepsAccepting, accepts, moves_at, no_moves, takes_element, takes_word}
use Rattle.xd_auto.specs.Copying.{IsAround}

-- what has no moves accepts no item
pub ends_alone : (b : Automaton) (e : State) → moves_at b e ≡ no_moves true → (d : Document) → accepts b d e ≡ true → d ≡ empty
ends_alone b e is empty h = refl
ends_alone b e is (text t r) h =
    let bad : true ≡ false = sym h ∙ ap (λ (m : StateMoves). list_any (takes_word b t r) m.texts) is in absurd (cc)
ends_alone b e is (element l c r) h =
    let bad : true ≡ false = sym h ∙ ap (λ (m : StateMoves). list_any (takes_element b l c r) m.labels) is in absurd (cc)

module _ (a b : Automaton) (keep : KeepsAccepting a b) (label : List ℕ) (s u e : State) (is : IsState a s) (around : IsAround label s e (moves_at b u)) (end : moves_at b e ≡ no_moves true) where
  abbrev its_move : LabelMove
  its_move = record { class = around.class; content = s; rest = e }

  over_element : (l : List ℕ) (c r : Document) → accepts b (element l c r) u ≡ takes_element b l c r its_move
  over_element l c r = ap (λ (m : StateMoves). list_any (takes_element b l c r) m.labels) around.is ∙ or-false (takes_element b l c r its_move)

  wraps : (d : Document) → accepts b d u ≡ true → IsWrapped a label s d
  wraps empty h = let bad : true ≡ false = sym h ∙ ap (λ (m : StateMoves). m.last) around.is in absurd (cc)
  wraps (text t r) h = let bad : true ≡ false = sym h ∙ ap (λ (m : StateMoves). list_any (takes_word b t r) m.texts) around.is in absurd (cc)
  wraps (element l c r) h =
      let passes : takes_element b l c r its_move ≡ true = sym (over_element l c r) ∙ h in
      let has : class_has around.class l ≡ true = and_left (class_has around.class l) (accepts b c s && accepts b r e) passes in
      let parts : (accepts b c s && accepts b r e) ≡ true = and_right (class_has around.class l) (accepts b c s && accepts b r e) passes in
      let same : label ≡ l = (bytes_eq-Decides label l).0 (sym (around.just l) ∙ has) in
      let nothing : r ≡ empty = ends_alone b e end r (and_right (accepts b c s) (accepts b r e) parts) in
      record {
        inside = c;
        is = ap (λ w. element w c r) (sym same) ∙ ap (λ w. element label c w) nothing;
        accepted = sym (keep c s is) ∙ and_left (accepts b c s) (accepts b r e) parts;
      }

  wrapped : (d : Document) → IsWrapped a label s d → accepts b d u ≡ true
  wrapped d w =
      let has : class_has around.class label ≡ true = around.just label ∙ (bytes_eq-Decides label label).1 refl in
      let passes : takes_element b label w.inside empty its_move ≡ true =
      and_from (class_has around.class label) (accepts b w.inside s && accepts b empty e) has
      (and_from (accepts b w.inside s) (accepts b empty e) (keep w.inside s is ∙ w.accepted) (ap (λ (m : StateMoves). m.last) end)) in
      subst (λ (x : Document). accepts b x u ≡ true) (sym w.is) (over_element label w.inside empty ∙ passes)

  pub wrap_law : (d : Document) → (accepts b d u ≡ true → IsWrapped a label s d) × (IsWrapped a label s d → accepts b d u ≡ true)
  wrap_law d = (wraps d, wrapped d)
