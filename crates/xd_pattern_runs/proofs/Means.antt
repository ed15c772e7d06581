-- What a continuation and a choice do with a document: for each way, in order, what variables hold
-- and what is left.
use Rattle.std.proofs.Common.{◌≡◌, ℕ, ◌≤◌, arith, Bool, cond, not, List, [], ◌∷◌, ◌++◌, map, flat_map, refl, ap, sym, subst, ◌∙◌, inl, inr}
use Rattle.std.proofs.Math.Path.{fun_ext}
use Rattle.xd_doc.specs.Document.{Document, empty, text, element, join, has_item}
use Rattle.xd_doc.specs.Classes.{LabelClass, class_has, TextClass}
use Rattle.xd_doc.specs.Members.{IsOneOf}
use Rattle.xd_doc.proofs.Joins.{join_empty-right, join_assoc}
use Rattle.xd_doc.proofs.Lists.{append_none}
use Rattle.xd_syntax.specs.Words.{has_word}
use Rattle.xd_syntax.specs.Tree.{Definitions}
use Rattle.xd_syntax.specs.Ways.{Way, item_count, unfoldings, ways}
use Rattle.xd_laws.proofs.Documents.{item_count_le}
use Rattle.xd_syntax.proofs.Members.{mem_flat, mem_map, flat_same}
use Rattle.xd_laws.proofs.WaysFit.{sound}
use Rattle.xd_pattern_runs.specs.Runs.{Piece, Continuation, Choice, stop, take_text, take_element, in_place, then_choices, without_stops, one_stop, if_marked}
use Rattle.xd_pattern_runs.specs.Linear.{given, joined}
use Rattle.xd_pattern_runs.specs.Alike.{Holding, Alike}
use Rattle.xd_pattern_runs.proofs.Alike.{alike_refl, alike_same, alike_sym, alike_trans, alike_append, alike_each, alike_again, append_then, flat_flat, flat_of_map, map_of_flat, map_of_map, map_each, map_none}

-- what variables hold, and what is left of the document
pub record Partial : Type 0 where
  pub holds : Holding
  pub rest : Document

abbrev pub nothing : Document → Partial
nothing d = record { holds = λ x. empty; rest = d }

abbrev pub and_next : Partial → Partial → Partial
and_next v w = record { holds = λ x. join (v.holds x) (w.holds x); rest = w.rest }

abbrev pub then_each : (Document → List Partial) → Partial → List Partial
then_each W v = map (and_next v) (W v.rest)

-- for each of the first, in order, what comes of its rest
abbrev pub bind : (Document → List Partial) → List Partial → List Partial
bind W L = flat_map (then_each W) L

pub partial_same : (h k : Holding) (d : Document) → ((x : List ℕ) → h x ≡ k x) → let p : Partial = record { holds = h; rest = d } in let q : Partial = record { holds = k; rest = d } in p ≡ q
partial_same h k d e = ap (λ (f : Holding). let p : Partial = record { holds = f; rest = d } in p) (fun_ext e)

pub bind_nothing : (W : Document → List Partial) (d : Document) → bind W (nothing d ∷ []) ≡ W d
bind_nothing W d = append_none (map (and_next (nothing d)) (W d)) ∙ map_none (and_next (nothing d)) (W d) (λ w. refl)

pub bind_last : (L : List Partial) → bind (λ d. nothing d ∷ []) L ≡ L
bind_last [] = refl
bind_last (v ∷ L) =
    ap (λ p. p ∷ bind (λ d. nothing d ∷ []) L) (partial_same (λ x. join (v.holds x) empty) v.holds v.rest (λ x. join_empty-right (v.holds x)))
    ∙ ap (λ z. v ∷ z) (bind_last L)

next_assoc : (u v w : Partial) → and_next (and_next u v) w ≡ and_next u (and_next v w)
next_assoc u v w = partial_same _ _ w.rest (λ x. join_assoc (u.holds x) (v.holds x) (w.holds x))

pub bind_bind : (W V : Document → List Partial) (L : List Partial) → bind W (bind V L) ≡ bind (λ d. bind W (V d)) L
bind_bind W V L =
    flat_flat (then_each W) (then_each V) L
    ∙ flat_same (λ v. flat_map (then_each W) (then_each V v)) (then_each (λ d. bind W (V d))) L (λ v m.
    flat_of_map (then_each W) (and_next v) (V v.rest)
    ∙ flat_same (λ u. then_each W (and_next v u)) (λ u. map (and_next v) (then_each W u)) (V v.rest) (λ u n.
    map_each (and_next (and_next v u)) (λ w. and_next v (and_next u w)) (W u.rest) (λ w o. next_assoc v u w)
    ∙ sym (map_of_map (and_next v) (and_next u) (W u.rest)))
    ∙ sym (map_of_flat (and_next v) (then_each W) (V v.rest)))

pub bind_each : (W V : Document → List Partial) (L : List Partial) → ((v : Partial) → IsOneOf v L → W v.rest ≡ V v.rest) → bind W L ≡ bind V L
bind_each W V L h = flat_same (then_each W) (then_each V) L (λ v m. ap (map (and_next v)) (h v m))

-- what a way of a part holds, where the part stands in the binders of the marked variables
abbrev pub share : List (List ℕ) → Way → Partial
share xs v = record { holds = λ x. cond (has_word xs x) v.taken (joined (given x v.bindings)); rest = v.rest }

abbrev pub piece_means : Definitions → Piece → Document → List Partial
piece_means E p d = map (share p.marks) (ways E p.part d)

abbrev pub means : Definitions → Continuation → Document → List Partial
means E [] d = nothing d ∷ []
means E (p ∷ K) d = bind (means E K) (piece_means E p d)

pub means_one : (E : Definitions) (p : Piece) (d : Document) → means E (p ∷ []) d ≡ piece_means E p d
means_one E p d = bind_last (piece_means E p d)

pub means_append : (E : Definitions) (K L : Continuation) (d : Document) → means E (K ++ L) d ≡ bind (means E L) (means E K d)
means_append E [] L d = sym (bind_nothing (means E L) d)
means_append E (p ∷ K) L d =
    bind_each (means E (K ++ L)) (λ e. bind (means E L) (means E K e)) (piece_means E p d) (λ v m. means_append E K L v.rest)
    ∙ sym (bind_bind (means E L) (means E K) (piece_means E p d))

-- what is left has no more items
pub means_within : (E : Definitions) (K : Continuation) (d : Document) (v : Partial) → IsOneOf v (means E K d) → item_count v.rest ≤ item_count d
means_within E [] d v (inl e) = let i : item_count d ≡ item_count v.rest = ap (λ (p : Partial). item_count p.rest) e in omega arith
means_within E [] d v (inr m) = absurd m
means_within E (p ∷ K) d v m =
    let r = mem_flat (then_each (means E K)) v (piece_means E p d) m in
    let q = mem_map (and_next r.0) v (means E K (r.0).rest) r.2 in
    let s = mem_map (share p.marks) r.0 (ways E p.part d) r.1 in
    let g = sound E (unfoldings E d) p.part d s.0 s.1 in
    let i : item_count (s.0).rest ≤ item_count d = subst (λ z. item_count (s.0).rest ≤ item_count z) g.0 (item_count_le (s.0).taken (s.0).rest) in
    let j : item_count (q.0).rest ≤ item_count (r.0).rest = means_within E K (r.0).rest q.0 q.1 in
    let a : item_count (q.0).rest ≡ item_count v.rest = ap (λ (p : Partial). item_count p.rest) q.2 in
    let b : item_count (s.0).rest ≡ item_count (r.0).rest = ap (λ (p : Partial). item_count p.rest) s.2 in
    omega arith

-- the text that the document begins with
abbrev pub text_parts : TextClass → List (List ℕ) → Document → List Partial
text_parts w xs empty = []
text_parts w xs (text s d) = cond (class_has w s) (record { holds = λ x. if_marked xs x (text s empty); rest = d } ∷ []) []
text_parts w xs (element l k d) = []

-- the element that it begins with, with what variables hold of its content
abbrev pub with_content : List (List ℕ) → List ℕ → Document → Document → Partial → Partial
with_content xs l k d v = record { holds = λ x. join (if_marked xs x (element l k empty)) (v.holds x); rest = d }

abbrev pub nothing_left : Partial → Bool
nothing_left v = not (has_item v.rest)

abbrev pub element_parts : Definitions → LabelClass → Continuation → List (List ℕ) → Document → List Partial
element_parts E c C xs empty = []
element_parts E c C xs (text s d) = []
element_parts E c C xs (element l k d) =
    cond (class_has c l) (flat_map (λ v. cond (nothing_left v) (with_content xs l k d v ∷ []) []) (means E C k)) []

-- what a choice does
abbrev pub does : Definitions → Document → Choice → List Partial
does E d stop = nothing d ∷ []
does E d (take_text w xs K) = bind (means E K) (text_parts w xs d)
does E d (take_element c C xs K) = bind (means E K) (element_parts E c C xs d)

abbrev pub all_do : Definitions → Document → List Choice → List Partial
all_do E d cs = flat_map (does E d) cs

pub behind : (E : Definitions) (R K : Continuation) (L : List Partial) → bind (means E (R ++ K)) L ++ [] ≡ bind (means E K) (bind (means E R) L)
behind E R K L =
    append_none (bind (means E (R ++ K)) L)
    ∙ bind_each (means E (R ++ K)) (λ e. bind (means E K) (means E R e)) L (λ v m. means_append E R K v.rest)
    ∙ sym (bind_bind (means E K) (means E R) L)

place_one : (E : Definitions) (K : Continuation) (cs : List Choice) (d : Document) (b : Choice) → (b ≡ stop → Alike (all_do E d cs) (means E K d)) →
    Alike (all_do E d (in_place K cs b)) (bind (means E K) (does E d b))
place_one E K cs d stop h = alike_trans (h refl) (alike_same (sym (bind_nothing (means E K) d)))
place_one E K cs d (take_text w xs R) h = alike_same (behind E R K (text_parts w xs d))
place_one E K cs d (take_element c C xs R) h = alike_same (behind E R K (element_parts E c C xs d))

-- the choices with pieces after them do what the pieces do after the choices
pub place : (E : Definitions) (K : Continuation) (cs : List Choice) (d : Document) (bs : List Choice) → (IsOneOf stop bs → Alike (all_do E d cs) (means E K d)) →
    Alike (all_do E d (then_choices bs K cs)) (bind (means E K) (all_do E d bs))
place E K cs d bs h =
    alike_trans (alike_same (flat_flat (does E d) (in_place K cs) bs))
    (alike_trans
    (alike_each (λ b. all_do E d (in_place K cs b)) (λ b. bind (means E K) (does E d b)) bs (λ b m. place_one E K cs d b (λ e. h (subst (λ c. IsOneOf c bs) e m))))
    (alike_same (sym (flat_flat (then_each (means E K)) (does E d) bs))))

stops_more : (E : Definitions) (d : Document) (L : List Partial) (c : Choice) (fewer cs : List Choice) →
    Alike (nothing d ∷ ((L ++ does E d c) ++ all_do E d fewer)) (nothing d ∷ ((L ++ does E d c) ++ all_do E d cs)) →
    Alike (nothing d ∷ (L ++ (does E d c ++ all_do E d fewer))) (nothing d ∷ (L ++ (does E d c ++ all_do E d cs)))
stops_more E d L c fewer cs h =
    alike_trans (alike_same (ap (λ z. nothing d ∷ z) (sym (append_then L (does E d c) (all_do E d fewer)))))
    (alike_trans h (alike_same (ap (λ z. nothing d ∷ z) (append_then L (does E d c) (all_do E d cs)))))

-- a later stop does nothing new
stops_gone : (E : Definitions) (d : Document) (L : List Partial) (cs : List Choice) → Alike (nothing d ∷ (L ++ all_do E d (without_stops cs))) (nothing d ∷ (L ++ all_do E d cs))
stops_gone E d L [] = alike_refl (nothing d ∷ (L ++ []))
stops_gone E d L (stop ∷ cs) = alike_trans (stops_gone E d L cs) (alike_sym (alike_again (nothing d) L (all_do E d cs)))
stops_gone E d L (take_text w xs R ∷ cs) = stops_more E d L (take_text w xs R) (without_stops cs) cs (stops_gone E d (L ++ does E d (take_text w xs R)) cs)
stops_gone E d L (take_element c C xs R ∷ cs) = stops_more E d L (take_element c C xs R) (without_stops cs) cs (stops_gone E d (L ++ does E d (take_element c C xs R)) cs)

pub one_stop_does : (E : Definitions) (d : Document) (cs : List Choice) → Alike (all_do E d (one_stop cs)) (all_do E d cs)
one_stop_does E d [] = alike_refl []
one_stop_does E d (stop ∷ cs) = stops_gone E d [] cs
one_stop_does E d (take_text w xs R ∷ cs) = alike_append (alike_refl (does E d (take_text w xs R))) (one_stop_does E d cs)
one_stop_does E d (take_element c C xs R ∷ cs) = alike_append (alike_refl (does E d (take_element c C xs R))) (one_stop_does E d cs)
