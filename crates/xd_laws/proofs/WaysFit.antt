-- each way class_has a prefix that fits
use Rattle.std.proofs.Common.{◌≡◌, ℕ, suc, zero, ◌<◌, ltb, ltb-true, arith, true, cond, List, [], ◌∷◌, map, Option, Some, None, refl, ap, sym, subst, ◌∙◌, inl, inr}
use Rattle.xd_doc.specs.Document.{Document, empty, text, element, join}
use Rattle.xd_doc.specs.Classes.{LabelClass, class_has}
use Rattle.xd_doc.specs.Members.{IsOneOf}
use Rattle.xd_doc.proofs.Joins.{join_empty-right, join_assoc}
use Rattle.xd_syntax.specs.Tree.{Tree, Empty, Text, Words, Name, Elem, Seq, Alt, Star, Plus, Opt, Val, Definitions, body}
use Rattle.xd_syntax.specs.Fits.{Fits}
use Rattle.xd_syntax.specs.Ways.{Way, no_item_way, then_way, in_turn, item_count, turns, repetition, is_whole, binding, ways_by, ways_of_definition, ways_of_name, ways_within}
use Rattle.xd_laws.proofs.Documents.{HasItem, has}
use Rattle.xd_syntax.specs.Fits as F
use Rattle.xd_syntax.proofs.Members.{mem_append, mem_map, mem_flat, cond_true}

-- the way class_has a prefix of the document that fits
abbrev pub Good : Definitions → Tree → Document → Way → Type 0
Good E T d w = (join w.taken w.rest ≡ d) × Fits E T w.taken

pub mem_in_turn : (V W : Document → List Way) (d : Document) (w : Way) → IsOneOf w (in_turn V W d) → (v : Way) × (u : Way) × IsOneOf v (V d) × IsOneOf u (W v.rest) × (then_way v u ≡ w)
mem_in_turn V W d w h =
    let r = mem_flat (λ v. map (then_way v) (W v.rest)) w (V d) h in
    let q = mem_map (then_way r.0) w (W (r.0).rest) r.2 in
    (r.0, q.0, r.1, q.1, q.2)

pub whole_none : (w : Way) → is_whole w ≡ true → w.rest ≡ empty
whole_none w h = go w.rest h
  where
    go : (d : Document) → is_whole (record w { rest = d }) ≡ true → d ≡ empty
    go empty e = refl
    go (text s d) e = cc
    go (element l c d) e = cc

-- what is taken isn't empty where the rest is shorter
shorter_some : (a b d : Document) → join a b ≡ d → item_count b < item_count d → HasItem a
shorter_some empty b d e h = let e2 : item_count b ≡ item_count d = ap item_count e in absurd (omega arith)
shorter_some (text s a) b d e h = tt
shorter_some (element l c a) b d e h = tt

nothing_good : (E : Definitions) (T : Tree) (d : Document) (w : Way) → Fits E T empty → no_item_way d ≡ w → Good E T d w
nothing_good E T d w f e = subst (Good E T d) e (refl, f)

elem_good : (E : Definitions) (c : LabelClass) (T : Tree) (l : List ℕ) (k d : Document) (v w : Way) → class_has c l ≡ true → v.rest ≡ empty → Good E T k v →
    IsOneOf w (record { bindings = v.bindings; taken = element l k empty; rest = d } ∷ []) → Good E (Elem c T) (element l k d) w
elem_good E c T l k d v w a e g (inl q) =
    let i : v.taken ≡ k = sym (join_empty-right v.taken) ∙ ap (join v.taken) (sym e) ∙ g.0 in
    subst (Good E (Elem c T) (element l k d)) q (refl, F.fits_elem a (subst (Fits E T) i g.1))
elem_good E c T l k d v w a e g (inr b) = absurd b

module _ (E : Definitions) (N : List ℕ → Document → List Way) (names : (x : List ℕ) (d : Document) (w : Way) → IsOneOf w (N x d) → Good E (Name x) d w) where
  turns_good : (T : Tree) (V : Document → List Way) (good : (d : Document) (w : Way) → IsOneOf w (V d) → Good E T d w)
      (k : ℕ) (d : Document) (w : Way) → IsOneOf w (turns V k d) → Good E (Star T) d w
  turns_good T V good zero d w (inl e) = nothing_good E (Star T) d w F.fits_no_turn e
  turns_good T V good zero d w (inr h) = absurd h
  turns_good T V good (suc k) d w h =
      elim (mem_append w _ (no_item_way d ∷ []) h) [
        | inl a ↦
            let r = mem_flat (λ v. cond (ltb (item_count v.rest) (item_count d)) (map (then_way v) (turns V k v.rest)) []) w (V d) a in
            let c = cond_true (ltb (item_count (r.0).rest) (item_count d)) w _ r.2 in
            let q = mem_map (then_way r.0) w (turns V k (r.0).rest) c.1 in
            let g1 = good d r.0 r.1 in
            let g2 = turns_good T V good k (r.0).rest q.0 q.1 in
            let some = shorter_some (r.0).taken (r.0).rest d g1.0 (ltb-true _ _ c.0) in
            subst (Good E (Star T) d) q.2 (
              join_assoc (r.0).taken (q.0).taken (q.0).rest ∙ ap (join (r.0).taken) g2.0 ∙ g1.0,
              F.fits_turn (r.0).taken (q.0).taken refl (has (r.0).taken some) g1.1 g2.1,
            )
        | inr (inl e) ↦ nothing_good E (Star T) d w F.fits_no_turn e
        | inr (inr b) ↦ absurd b
      ]

  pub sound_by : (T : Tree) (d : Document) (w : Way) → IsOneOf w (ways_by N T d) → Good E T d w
  sound_by Empty d w (inl e) = nothing_good E Empty d w F.fits_empty e
  sound_by Empty d w (inr h) = absurd h
  sound_by Text empty w h = absurd h
  sound_by Text (text s d) w (inl e) = subst (Good E Text (text s d)) e (refl, F.fits_text)
  sound_by Text (text s d) w (inr h) = absurd h
  sound_by Text (element l c d) w h = absurd h
  sound_by (Words t) empty w h = absurd h
  sound_by (Words t) (text s d) w h =
      let a = cond_true (class_has t s) w (record { bindings = []; taken = text s empty; rest = d } ∷ []) h in
      elim a.1 [ inl e ↦ subst (Good E (Words t) (text s d)) e (refl, F.fits_words a.0) | inr n ↦ absurd n ]
  sound_by (Words t) (element l c d) w h = absurd h
  sound_by (Name x) d w h = names x d w h
  sound_by (Elem c T) empty w h = absurd h
  sound_by (Elem c T) (text s d) w h = absurd h
  sound_by (Elem c T) (element l k d) w h =
      let a = cond_true (class_has c l) w _ h in
      let r = mem_flat (λ v. cond (is_whole v) (record { bindings = v.bindings; taken = element l k empty; rest = d } ∷ []) []) w (ways_by N T k) a.1 in
      let b = cond_true (is_whole r.0) w _ r.2 in
      let g = sound_by T k r.0 r.1 in
      elem_good E c T l k d r.0 w a.0 (whole_none r.0 b.0) g b.1
  sound_by (Seq T U) d w h =
      let r = mem_in_turn (ways_by N T) (ways_by N U) d w h in
      let g1 = sound_by T d r.0 r.2 in
      let g2 = sound_by U (r.0).rest r.1 r.3 in
      subst (Good E (Seq T U) d) r.4 (
        join_assoc (r.0).taken (r.1).taken (r.1).rest ∙ ap (join (r.0).taken) g2.0 ∙ g1.0,
        F.fits_seq (r.0).taken (r.1).taken refl g1.1 g2.1,
      )
  sound_by (Alt T U) d w h =
      elim (mem_append w (ways_by N T d) (ways_by N U d) h)
      [ inl a ↦ let g = sound_by T d w a in (g.0, F.fits_left g.1) | inr b ↦ let g = sound_by U d w b in (g.0, F.fits_right g.1) ]
  sound_by (Star T) d w h = turns_good T (ways_by N T) (λ d' w'. sound_by T d' w') (item_count d) d w h
  sound_by (Plus T) d w h =
      let r = mem_in_turn (ways_by N T) (repetition (ways_by N T)) d w h in
      let g1 = sound_by T d r.0 r.2 in
      let g2 = turns_good T (ways_by N T) (λ d' w'. sound_by T d' w') (item_count (r.0).rest) (r.0).rest r.1 r.3 in
      subst (Good E (Plus T) d) r.4 (
        join_assoc (r.0).taken (r.1).taken (r.1).rest ∙ ap (join (r.0).taken) g2.0 ∙ g1.0,
        F.fits_plus (r.0).taken (r.1).taken refl g1.1 g2.1,
      )
  sound_by (Opt T) d w h =
      elim (mem_append w (ways_by N T d) (no_item_way d ∷ []) h) [
        | inl a ↦ let g = sound_by T d w a in (g.0, F.fits_present g.1)
        | inr (inl e) ↦ nothing_good E (Opt T) d w F.fits_absent e
        | inr (inr b) ↦ absurd b
      ]
  sound_by (Val x T) d w h =
      let r = mem_map (binding x) w (ways_by N T d) h in
      let g = sound_by T d r.0 r.1 in
      subst (Good E (Val x T) d) r.2 (g.0, F.fits_val g.1)

-- what is ways_of_name by a definition
body_good : (E : Definitions) (N : List ℕ → Document → List Way) → ((x : List ℕ) (d : Document) (w : Way) → IsOneOf w (N x d) → Good E (Name x) d w) →
    (x : List ℕ) (o : Option Tree) → body E x ≡ o → (d : Document) (w : Way) → IsOneOf w (ways_of_definition (ways_by N) o d) → Good E (Name x) d w
body_good E N names x None e d w h = absurd h
body_good E N names x (Some T) e d w h = let g = sound_by E N names T d w h in (g.0, F.fits_name e g.1)

pub named_good : (E : Definitions) (n : ℕ) (x : List ℕ) (d : Document) (w : Way) → IsOneOf w (ways_of_name E n x d) → Good E (Name x) d w
named_good E zero x d w h = absurd h
named_good E (suc n) x d w h = body_good E (ways_of_name E n) (named_good E n) x (body E x) refl d w h

pub sound : (E : Definitions) (n : ℕ) (T : Tree) (d : Document) (w : Way) → IsOneOf w (ways_within E n T d) → Good E T d w
sound E n T d w h = sound_by E (ways_of_name E n) (named_good E n) T d w h
