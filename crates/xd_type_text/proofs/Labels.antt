-- Lists of labels and of texts as they are written.
use Rattle.std.proofs.Common.{◌≡◌, ℕ, zero, suc, false, ◌+◌, ◌<◌, arith, map, take, length, get_or, List, [], ◌∷◌, ◌++◌, ap, sym, ◌∙◌, append_assoc, append-nil}
use Rattle.std.proofs.lemmas.List.{take_more, map_push, length-map}
use Rattle.std.specs.Prelude.{◌==◌}
use Rattle.xd_syntax.specs.TypeText.{barred, labels_text, quoted_text}
use Rattle.xd_type_text.specs.Waiting.{each_behind_bar}

pub filled : (n : ℕ) → false ≡ (n == 0) → 0 < n
filled zero h = cc
filled (suc n) h = omega arith

barred_more : (w : List ℕ) (ws : List (List ℕ)) → barred (w ∷ ws) ≡ w ++ each_behind_bar ws
barred_more w [] = sym (append-nil w)
barred_more w (v ∷ vs) = append_assoc w (124 ∷ []) (barred (v ∷ vs)) ∙ ap (λ r. w ++ 124 ∷ r) (barred_more v vs)

pub behind_bar_more : (ws : List (List ℕ)) (w : List ℕ) → each_behind_bar (ws ++ w ∷ []) ≡ each_behind_bar ws ++ (124 ∷ w)
behind_bar_more [] w = append-nil (124 ∷ w)
behind_bar_more (v ∷ vs) w = ap (λ r. (124 ∷ v) ++ r) (behind_bar_more vs w) ∙ sym (append_assoc (124 ∷ v) (each_behind_bar vs) (124 ∷ w))

more_written : (old out mid new w : List ℕ) (ws : List (List ℕ)) → out ≡ old ++ each_behind_bar ws → mid ≡ out ++ 124 ∷ [] → new ≡ mid ++ w → new ≡ old ++ each_behind_bar (ws ++ w ∷ [])
more_written old out mid new w ws e f g =
    g ∙ ap (λ l. l ++ w) (f ∙ ap (λ l. l ++ 124 ∷ []) e)
    ∙ append_assoc (old ++ each_behind_bar ws) (124 ∷ []) w ∙ append_assoc old (each_behind_bar ws) (124 ∷ w)
    ∙ ap (λ l. old ++ l) (sym (behind_bar_more ws w))

pub label_more : (old out mid new : List ℕ) (labels : List (List ℕ)) (i : ℕ) (w v : List ℕ) → i < length labels → w ≡ get_or labels i w → v ≡ w →
    out ≡ old ++ each_behind_bar (take i labels) → mid ≡ out ++ 124 ∷ [] → new ≡ mid ++ v → new ≡ old ++ each_behind_bar (take (i + 1) labels)
label_more old out mid new labels i w v h at same e f g =
    more_written old out mid new w (take i labels) e f (g ∙ ap (λ l. mid ++ l) same)
    ∙ ap (λ l. old ++ each_behind_bar l) (ap (λ x. take i labels ++ x ∷ []) at ∙ sym (take_more labels i w h))

pub text_more : (old out mid new : List ℕ) (texts : List (List ℕ)) (i : ℕ) (w v : List ℕ) → i < length texts → w ≡ get_or texts i w → v ≡ w →
    out ≡ old ++ each_behind_bar (map quoted_text (take i texts)) → mid ≡ out ++ 124 ∷ [] → new ≡ mid ++ quoted_text v → new ≡ old ++ each_behind_bar (map quoted_text (take (i + 1) texts))
text_more old out mid new texts i w v h at same e f g =
    more_written old out mid new (quoted_text w) (map quoted_text (take i texts)) e f (g ∙ ap (λ l. mid ++ quoted_text l) same)
    ∙ ap (λ l. old ++ each_behind_bar l) (sym (map_push quoted_text (take i texts) w))
    ∙ ap (λ l. old ++ each_behind_bar (map quoted_text l)) (ap (λ x. take i texts ++ x ∷ []) at ∙ sym (take_more texts i w h))

-- two or more, as they are appended
many_written : (old a b c d w : List ℕ) (vs : List (List ℕ)) → 0 < length vs → a ≡ old ++ 40 ∷ [] → b ≡ a ++ w → c ≡ b ++ each_behind_bar vs → d ≡ c ++ 41 ∷ [] →
    d ≡ old ++ labels_text (w ∷ vs)
many_written old a b c d w [] h p q r s = absurd (omega (arith, h))
many_written old a b c d w (v ∷ vs) h p q r s =
    s ∙ ap (λ l. l ++ 41 ∷ []) (r ∙ ap (λ l. l ++ each_behind_bar (v ∷ vs)) (q ∙ ap (λ l. l ++ w) p))
    ∙ append_assoc ((old ++ 40 ∷ []) ++ w) (each_behind_bar (v ∷ vs)) (41 ∷ [])
    ∙ append_assoc (old ++ 40 ∷ []) w (each_behind_bar (v ∷ vs) ++ 41 ∷ [])
    ∙ append_assoc old (40 ∷ []) (w ++ (each_behind_bar (v ∷ vs) ++ 41 ∷ []))
    ∙ ap (λ l. old ++ 40 ∷ l) (sym (append_assoc w (each_behind_bar (v ∷ vs)) (41 ∷ [])) ∙ ap (λ l. l ++ 41 ∷ []) (sym (barred_more w (v ∷ vs))))

pub labels_written : (old a b c d w v : List ℕ) (all vs : List (List ℕ)) → all ≡ v ∷ vs → 0 < length vs → w ≡ v → a ≡ old ++ 40 ∷ [] → b ≡ a ++ w → c ≡ b ++ each_behind_bar vs → d ≡ c ++ 41 ∷ [] →
    d ≡ old ++ labels_text all
labels_written old a b c d w v all vs e h same p q r s =
    many_written old a b c d w vs h p q r s ∙ ap (λ l. old ++ labels_text (l ∷ vs)) same ∙ ap (λ l. old ++ labels_text l) (sym e)

pub texts_written : (old a b c d w v : List ℕ) (all vs : List (List ℕ)) → all ≡ v ∷ vs → 0 < length vs → w ≡ v → a ≡ old ++ 40 ∷ [] → b ≡ a ++ quoted_text w → c ≡ b ++ each_behind_bar (map quoted_text vs) → d ≡ c ++ 41 ∷ [] →
    d ≡ old ++ labels_text (map quoted_text all)
texts_written old a b c d w v all vs e h same p q r s =
    many_written old a b c d (quoted_text w) (map quoted_text vs) (let k = length-map vs quoted_text in omega (arith, k, h)) p q r s
    ∙ ap (λ l. old ++ labels_text (quoted_text l ∷ map quoted_text vs)) same ∙ ap (λ l. old ++ labels_text (map quoted_text l)) (sym e)
