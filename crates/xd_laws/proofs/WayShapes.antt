-- A way by how it comes about, for induction on it.
use Rattle.std.proofs.Common.{◌≡◌, ℕ, suc, zero, ltb, true, cond, List, [], ◌∷◌, map, Option, Some, None, refl, ap, subst, ◌∙◌, inl, inr}
use Rattle.xd_doc.specs.Document.{Document, empty, text, element, join}
use Rattle.xd_doc.specs.Classes.{LabelClass, TextClass, class_has}
use Rattle.xd_doc.specs.Members.{IsOneOf}
use Rattle.xd_doc.proofs.Joins.{join_assoc}
use Rattle.xd_syntax.specs.Tree.{Tree, Empty, Text, Words, Name, Elem, Seq, Alt, Star, Plus, Opt, Val, Definitions, body}
use Rattle.xd_syntax.specs.Ways.{Way, no_item_way, then_way, item_count, turns, repetition, is_whole, binding, ways_by, ways_of_definition, ways_of_name, ways_within}
use Rattle.xd_syntax.proofs.Members.{mem_append, mem_map, mem_flat, cond_true}
use Rattle.xd_laws.proofs.WaysFit.{mem_in_turn, whole_none}

pub data IsWay (E : Definitions) : Tree → Document → Way → Type 0 where
  way_empty : {d : Document} → IsWay E Empty d (no_item_way d)
  way_text : {s : List ℕ} {r : Document} → IsWay E Text (text s r) (record { bindings = []; taken = text s empty; rest = r })
  way_words : {w : TextClass} {s : List ℕ} {r : Document} → class_has w s ≡ true → IsWay E (Words w) (text s r) (record { bindings = []; taken = text s empty; rest = r })
  way_name : {x : List ℕ} {T : Tree} {d : Document} {w : Way} → body E x ≡ Some T → IsWay E T d w → IsWay E (Name x) d w
  way_elem : {c : LabelClass} {T : Tree} {l : List ℕ} {k r : Document} {v : Way} → class_has c l ≡ true → IsWay E T k v → v.rest ≡ empty →
      IsWay E (Elem c T) (element l k r) (record { bindings = v.bindings; taken = element l k empty; rest = r })
  way_seq : {T U : Tree} {d : Document} {v w : Way} → IsWay E T d v → IsWay E U v.rest w → IsWay E (Seq T U) d (then_way v w)
  way_left : {T U : Tree} {d : Document} {w : Way} → IsWay E T d w → IsWay E (Alt T U) d w
  way_right : {T U : Tree} {d : Document} {w : Way} → IsWay E U d w → IsWay E (Alt T U) d w
  way_no_turn : {T : Tree} {d : Document} → IsWay E (Star T) d (no_item_way d)
  way_turn : {T : Tree} {d : Document} {v w : Way} → IsWay E T d v → IsWay E (Star T) v.rest w → IsWay E (Star T) d (then_way v w)
  way_plus : {T : Tree} {d : Document} {v w : Way} → IsWay E T d v → IsWay E (Star T) v.rest w → IsWay E (Plus T) d (then_way v w)
  way_absent : {T : Tree} {d : Document} → IsWay E (Opt T) d (no_item_way d)
  way_present : {T : Tree} {d : Document} {w : Way} → IsWay E T d w → IsWay E (Opt T) d w
  way_val : {x : List ℕ} {T : Tree} {d : Document} {v : Way} → IsWay E T d v → IsWay E (Val x T) d (binding x v)

module _ (E : Definitions) (N : List ℕ → Document → List Way) (names : (x : List ℕ) (d : Document) (w : Way) → IsOneOf w (N x d) → IsWay E (Name x) d w) where
  turns_shape : (T : Tree) (V : Document → List Way) → ((d : Document) (w : Way) → IsOneOf w (V d) → IsWay E T d w) →
      (k : ℕ) (d : Document) (w : Way) → IsOneOf w (turns V k d) → IsWay E (Star T) d w
  turns_shape T V each zero d w (inl e) = subst (IsWay E (Star T) d) e way_no_turn
  turns_shape T V each zero d w (inr h) = absurd h
  turns_shape T V each (suc k) d w h =
      elim (mem_append w _ (no_item_way d ∷ []) h) [
        | inl a ↦
            let r = mem_flat (λ v. cond (ltb (item_count v.rest) (item_count d)) (map (then_way v) (turns V k v.rest)) []) w (V d) a in
            let c = cond_true (ltb (item_count (r.0).rest) (item_count d)) w _ r.2 in
            let q = mem_map (then_way r.0) w (turns V k (r.0).rest) c.1 in
            subst (IsWay E (Star T) d) q.2 (way_turn (each d r.0 r.1) (turns_shape T V each k (r.0).rest q.0 q.1))
        | inr (inl e) ↦ subst (IsWay E (Star T) d) e way_no_turn
        | inr (inr b) ↦ absurd b
      ]

  shape_by : (T : Tree) (d : Document) (w : Way) → IsOneOf w (ways_by N T d) → IsWay E T d w
  shape_by Empty d w (inl e) = subst (IsWay E Empty d) e way_empty
  shape_by Empty d w (inr h) = absurd h
  shape_by Text empty w h = absurd h
  shape_by Text (text s d) w (inl e) = subst (IsWay E Text (text s d)) e way_text
  shape_by Text (text s d) w (inr h) = absurd h
  shape_by Text (element l c d) w h = absurd h
  shape_by (Words t) empty w h = absurd h
  shape_by (Words t) (text s d) w h =
      let a = cond_true (class_has t s) w (record { bindings = []; taken = text s empty; rest = d } ∷ []) h in
      elim a.1 [ inl e ↦ subst (IsWay E (Words t) (text s d)) e (way_words a.0) | inr n ↦ absurd n ]
  shape_by (Words t) (element l c d) w h = absurd h
  shape_by (Name x) d w h = names x d w h
  shape_by (Elem c T) empty w h = absurd h
  shape_by (Elem c T) (text s d) w h = absurd h
  shape_by (Elem c T) (element l k d) w h =
      let a = cond_true (class_has c l) w _ h in
      let r = mem_flat (λ v. cond (is_whole v) (record { bindings = v.bindings; taken = element l k empty; rest = d } ∷ []) []) w (ways_by N T k) a.1 in
      let b = cond_true (is_whole r.0) w _ r.2 in
      let q : IsWay E (Elem c T) (element l k d) (record { bindings = (r.0).bindings; taken = element l k empty; rest = d }) = way_elem a.0 (shape_by T k r.0 r.1) (whole_none r.0 b.0) in
      elim b.1 [ inl e ↦ subst (IsWay E (Elem c T) (element l k d)) e q | inr n ↦ absurd n ]
  shape_by (Seq T U) d w h =
      let r = mem_in_turn (ways_by N T) (ways_by N U) d w h in
      subst (IsWay E (Seq T U) d) r.4 (way_seq (shape_by T d r.0 r.2) (shape_by U (r.0).rest r.1 r.3))
  shape_by (Alt T U) d w h =
      elim (mem_append w (ways_by N T d) (ways_by N U d) h) [ inl a ↦ way_left (shape_by T d w a) | inr b ↦ way_right (shape_by U d w b) ]
  shape_by (Star T) d w h = turns_shape T (ways_by N T) (λ d' w'. shape_by T d' w') (item_count d) d w h
  shape_by (Plus T) d w h =
      let r = mem_in_turn (ways_by N T) (repetition (ways_by N T)) d w h in
      subst (IsWay E (Plus T) d) r.4
      (way_plus (shape_by T d r.0 r.2) (turns_shape T (ways_by N T) (λ d' w'. shape_by T d' w') (item_count (r.0).rest) (r.0).rest r.1 r.3))
  shape_by (Opt T) d w h =
      elim (mem_append w (ways_by N T d) (no_item_way d ∷ []) h) [
        | inl a ↦ way_present (shape_by T d w a)
        | inr (inl e) ↦ subst (IsWay E (Opt T) d) e way_absent
        | inr (inr b) ↦ absurd b
      ]
  shape_by (Val x T) d w h =
      let r = mem_map (binding x) w (ways_by N T d) h in
      subst (IsWay E (Val x T) d) r.2 (way_val (shape_by T d r.0 r.1))

shape_of_definition : (E : Definitions) (N : List ℕ → Document → List Way) → ((x : List ℕ) (d : Document) (w : Way) → IsOneOf w (N x d) → IsWay E (Name x) d w) →
    (x : List ℕ) (o : Option Tree) → body E x ≡ o → (d : Document) (w : Way) → IsOneOf w (ways_of_definition (ways_by N) o d) → IsWay E (Name x) d w
shape_of_definition E N names x None e d w h = absurd h
shape_of_definition E N names x (Some T) e d w h = way_name e (shape_by E N names T d w h)

shape_of_name : (E : Definitions) (n : ℕ) (x : List ℕ) (d : Document) (w : Way) → IsOneOf w (ways_of_name E n x d) → IsWay E (Name x) d w
shape_of_name E zero x d w h = absurd h
shape_of_name E (suc n) x d w h = shape_of_definition E (ways_of_name E n) (shape_of_name E n) x (body E x) refl d w h

pub way_shape : (E : Definitions) (n : ℕ) (T : Tree) (d : Document) (w : Way) → IsOneOf w (ways_within E n T d) → IsWay E T d w
way_shape E n T d w h = shape_by E (ways_of_name E n) (shape_of_name E n) T d w h

then_join : (v w : Way) (d : Document) → join v.taken v.rest ≡ d → join w.taken w.rest ≡ v.rest → join (then_way v w).taken (then_way v w).rest ≡ d
then_join v w d e f = join_assoc v.taken w.taken w.rest ∙ ap (join v.taken) f ∙ e

-- what is taken and what is left join to the document
pub way_join : (E : Definitions) {T : Tree} {d : Document} {w : Way} → IsWay E T d w → join w.taken w.rest ≡ d
way_join E way_empty = refl
way_join E way_text = refl
way_join E (way_words h) = refl
way_join E (way_name e h) = way_join E h
way_join E (way_elem c h e) = refl
way_join E (way_seq {d = d} {v = v} {w = w} h k) = then_join v w d (way_join E h) (way_join E k)
way_join E (way_left h) = way_join E h
way_join E (way_right h) = way_join E h
way_join E way_no_turn = refl
way_join E (way_turn {d = d} {v = v} {w = w} h k) = then_join v w d (way_join E h) (way_join E k)
way_join E (way_plus {d = d} {v = v} {w = w} h k) = then_join v w d (way_join E h) (way_join E k)
way_join E way_absent = refl
way_join E (way_present h) = way_join E h
way_join E (way_val h) = way_join E h
