-- The runs of a continuation hold what the continuation's whole ways hold, in the same order.
use Rattle.std.proofs.Common.{◌≡◌, ℕ, suc, zero, Bool, true, false, cond, List, [], ◌∷◌, ◌++◌, map, flat_map, length, Option, Some, None, refl, ap, sym, subst, ◌∙◌, inl, inr}
use Rattle.std.proofs.Math.Path.{fun_ext}
use Rattle.xd_doc.specs.Document.{Document, empty, text, element, join}
use Rattle.xd_doc.specs.Classes.{class_has}
use Rattle.xd_doc.proofs.Joins.{join_assoc}
use Rattle.xd_doc.proofs.Lists.{append_none}
use Rattle.xd_doc.specs.Runs.{at_end, at_text, at_element, held}
use Rattle.xd_doc.specs.Members.{IsOneOf}
use Rattle.xd_syntax.specs.Tree.{Tree, Empty, Text, Words, Name, Elem, Seq, Alt, Star, Plus, Opt, Val, Definitions, body}
use Rattle.xd_meaning.specs.Heads.{all_texts}
use Rattle.xd_laws.specs.Guarded.{Guarded}
use Rattle.xd_syntax.proofs.Members.{mem_append, mem_flat, flat_same}
use Rattle.xd_pattern_runs.specs.Runs.{Piece, Continuation, Choice, stop, take_text, take_element, start, in_place, then_choices, one_stop, has_stop, turn_choices, some_turn_choices, choices_by, choices_of_definition, choices_of_name, choices_within, choices, MarkedRun, TextMove, ElementMove, texts_of, elements_of, text_runs, element_runs, runs, if_marked, trace}
use Rattle.xd_pattern_runs.specs.Linear.{BindNothing, IsApart}
use Rattle.xd_pattern_runs.specs.Alike.{Holding, Alike}
use Rattle.xd_pattern_runs.proofs.Alike.{alike_refl, alike_same, alike_sym, alike_trans, alike_flat, alike_each, alike_map, alike_again, flat_flat, flat_of_map, map_of_flat, map_of_map, map_each}
use Rattle.xd_pattern_runs.proofs.Means.{Partial, and_next, then_each, bind, means, with_content, nothing_left, does, all_do}
use Rattle.xd_pattern_runs.proofs.Factor.{piece, IsFine, AreFine, factor, fine_seq, fine_alt, fine_val, fine_none, one_stop_in}

-- what the choices lead to is fine

abbrev pub IsFineChoice : Choice → Type 0
IsFineChoice stop = Unit {0}
IsFineChoice (take_text w xs R) = AreFine R
IsFineChoice (take_element c C xs R) = AreFine C × AreFine R

abbrev pub AllFine : List Choice → Type 0
AllFine cs = (c : Choice) → IsOneOf c cs → IsFineChoice c

pub fine_start : (T : Tree) → IsApart T → AreFine (start T)
fine_start T a = ((a, λ x h. cc), tt)

fine_append : (K L : Continuation) → AreFine K → AreFine L → AreFine (K ++ L)
fine_append [] L f g = g
fine_append (p ∷ K) L f g = (f.0, fine_append K L f.1 g)

all_none : AllFine []
all_none c m = absurd m

all_one : (d : Choice) → IsFineChoice d → AllFine (d ∷ [])
all_one d f c (inl e) = subst IsFineChoice e f
all_one d f c (inr m) = absurd m

all_append : (cs ds : List Choice) → AllFine cs → AllFine ds → AllFine (cs ++ ds)
all_append cs ds f g c m = elim (mem_append c cs ds m) [ inl a ↦ f c a | inr b ↦ g c b ]

all_in_place : (K : Continuation) (ds : List Choice) → AreFine K → AllFine ds → (b : Choice) → IsFineChoice b → AllFine (in_place K ds b)
all_in_place K ds f g stop h = g
all_in_place K ds f g (take_text w xs R) h = all_one (take_text w xs (R ++ K)) (fine_append R K h f)
all_in_place K ds f g (take_element c C xs R) h = all_one (take_element c C xs (R ++ K)) (h.0, fine_append R K h.1 f)

all_then : (K : Continuation) (ds cs : List Choice) → AreFine K → AllFine ds → AllFine cs → AllFine (then_choices cs K ds)
all_then K ds cs f g h c m = let r = mem_flat (in_place K ds) c cs m in all_in_place K ds f g r.0 (h r.0 r.1) c r.2

all_one_stop : (cs : List Choice) → AllFine cs → AllFine (one_stop cs)
all_one_stop cs f c m = f c (one_stop_in c cs m)

all_turns : (p : Piece) (cs : List Choice) → IsFine p.marks p.part → AllFine cs → AllFine (turn_choices p cs)
all_turns p cs f g =
    all_append (then_choices cs (p ∷ []) []) (stop ∷ []) (all_then (p ∷ []) [] cs (f, tt) all_none g) (all_one stop tt)

all_some_turns : (p : Piece) (cs : List Choice) → IsFine p.marks p.part → AllFine cs → AllFine (some_turn_choices p cs)
all_some_turns p cs f g =
    all_append (then_choices cs (p ∷ []) []) (cond (has_stop cs) (stop ∷ []) []) (all_then (p ∷ []) [] cs (f, tt) all_none g) (go (has_stop cs))
  where
    go : (b : Bool) → AllFine (cond b (stop ∷ []) [])
    go true = all_one stop tt
    go false = all_none

fine_by : (N : List (List ℕ) → List ℕ → List Choice) → ((xs : List (List ℕ)) (y : List ℕ) → AllFine (N xs y)) → (T : Tree) (xs : List (List ℕ)) → IsFine xs T → AllFine (choices_by N xs T)
fine_by N names Empty xs f = all_one stop tt
fine_by N names Text xs f = all_one (take_text all_texts xs []) tt
fine_by N names (Words w) xs f = all_one (take_text w xs []) tt
fine_by N names (Name y) xs f = names xs y
fine_by N names (Elem c T) xs f = all_one (take_element c (start T) xs []) (fine_start T f.0, tt)
fine_by N names (Seq T U) xs f =
    let g = fine_seq xs T U f in
    all_then (piece xs U ∷ []) (choices_by N xs U) (choices_by N xs T) (g.1, tt) (fine_by N names U xs g.1) (fine_by N names T xs g.0)
fine_by N names (Alt T U) xs f =
    let g = fine_alt xs T U f in
    all_one_stop (choices_by N xs T ++ choices_by N xs U) (all_append (choices_by N xs T) (choices_by N xs U) (fine_by N names T xs g.0) (fine_by N names U xs g.1))
fine_by N names (Star T) xs f = all_turns (piece xs (Star T)) (choices_by N xs T) f (fine_by N names T xs f)
fine_by N names (Plus T) xs f = all_some_turns (piece xs (Star T)) (choices_by N xs T) f (fine_by N names T xs f)
fine_by N names (Opt T) xs f =
    all_one_stop (choices_by N xs T ++ stop ∷ []) (all_append (choices_by N xs T) (stop ∷ []) (fine_by N names T xs f) (all_one stop tt))
fine_by N names (Val y T) xs f = fine_by N names T (y ∷ xs) (fine_val xs y T f)

fine_body : (G : Tree → List Choice) → (o : Option Tree) → ((T : Tree) → o ≡ Some T → AllFine (G T)) → AllFine (choices_of_definition G o)
fine_body G None h = all_none
fine_body G (Some T) h = h T refl

fine_names : (E : Definitions) → BindNothing E → (n : ℕ) (xs : List (List ℕ)) (y : List ℕ) → AllFine (choices_of_name E n xs y)
fine_names E none zero xs y = all_none
fine_names E none (suc n) xs y =
    fine_body (choices_by (choices_of_name E n) xs) (body E y) (λ T e. fine_by (choices_of_name E n) (fine_names E none n) T xs (fine_none xs T (none y T e)))

fine_within : (E : Definitions) → BindNothing E → (n : ℕ) (K : Continuation) → AreFine K → AllFine (choices_within E n K)
fine_within E none n [] f = all_one stop tt
fine_within E none n (p ∷ K) f =
    all_then K (choices_within E n K) (choices_by (choices_of_name E n) p.marks p.part) f.1 (fine_within E none n K f.1)
    (fine_by (choices_of_name E n) (fine_names E none n) p.part p.marks f.0)

-- what is held where nothing is left

abbrev pub done : List Partial → List Holding
done L = flat_map (λ v. cond (nothing_left v) (v.holds ∷ []) []) L

abbrev pub outcome : Document → MarkedRun → Holding
outcome d r = λ x. held d (trace x r)

abbrev after : Partial → Holding → Holding
after v h = λ x. join (v.holds x) (h x)

done_after : (v : Partial) (L : List Partial) → done (map (and_next v) L) ≡ map (after v) (done L)
done_after v [] = refl
done_after v (w ∷ L) = go (nothing_left w) (done_after v L)
  where
    go : (b : Bool) → done (map (and_next v) L) ≡ map (after v) (done L) →
        cond b (after v w.holds ∷ []) [] ++ done (map (and_next v) L) ≡ map (after v) (cond b (w.holds ∷ []) [] ++ done L)
    go true e = ap (λ z. after v w.holds ∷ z) e
    go false e = e

-- what is held after parts that all leave the same document
done_bind : (E : Definitions) (K : Continuation) (L : List Partial) → done (bind (means E K) L) ≡ flat_map (λ v. map (after v) (done (means E K v.rest))) L
done_bind E K L =
    flat_flat (λ v. cond (nothing_left v) (v.holds ∷ []) []) (then_each (means E K)) L
    ∙ flat_same (λ v. done (then_each (means E K) v)) (λ v. map (after v) (done (means E K v.rest))) L (λ v m. done_after v (means E K v.rest))

-- at the end of a document
stops_same : (E : Definitions) (cs : List Choice) → Alike ((λ x. empty) ∷ []) ((λ x. empty) ∷ done (all_do E empty cs))
stops_same E [] = alike_refl ((λ x. empty) ∷ [])
stops_same E (stop ∷ cs) = alike_trans (stops_same E cs) (alike_sym (alike_again (λ x. empty) [] (done (all_do E empty cs))))
stops_same E (take_text w xs R ∷ cs) = stops_same E cs
stops_same E (take_element c C xs R ∷ cs) = stops_same E cs

ends_same : (E : Definitions) (cs : List Choice) → Alike (map (outcome empty) (cond (has_stop cs) (at_end ∷ []) [])) (done (all_do E empty cs))
ends_same E [] = alike_refl []
ends_same E (stop ∷ cs) = stops_same E cs
ends_same E (take_text w xs R ∷ cs) = ends_same E cs
ends_same E (take_element c C xs R ∷ cs) = ends_same E cs

-- the moves on a text, and on an element, by the choices
abbrev pub by_text : {B : Type 0} → (TextMove Continuation → List B) → Choice → List B
by_text f stop = []
by_text f (take_text w xs R) = f (record { words = w; marks = xs; rest = R })
by_text f (take_element c C xs R) = []

abbrev pub by_element : {B : Type 0} → (ElementMove Continuation → List B) → Choice → List B
by_element f stop = []
by_element f (take_text w xs R) = []
by_element f (take_element c C xs R) = f (record { class = c; content = C; marks = xs; rest = R })

pub texts_flat : {B : Type 0} (f : TextMove Continuation → List B) (cs : List Choice) → flat_map f (texts_of cs) ≡ flat_map (by_text f) cs
texts_flat f [] = refl
texts_flat f (stop ∷ cs) = texts_flat f cs
texts_flat f (take_text w xs R ∷ cs) = ap (λ z. f (record { words = w; marks = xs; rest = R }) ++ z) (texts_flat f cs)
texts_flat f (take_element c C xs R ∷ cs) = texts_flat f cs

pub elements_flat : {B : Type 0} (f : ElementMove Continuation → List B) (cs : List Choice) → flat_map f (elements_of cs) ≡ flat_map (by_element f) cs
elements_flat f [] = refl
elements_flat f (stop ∷ cs) = elements_flat f cs
elements_flat f (take_text w xs R ∷ cs) = elements_flat f cs
elements_flat f (take_element c C xs R ∷ cs) = ap (λ z. f (record { class = c; content = C; marks = xs; rest = R }) ++ z) (elements_flat f cs)

-- over a text
text_same : (E : Definitions) (s : List ℕ) (d : Document) (c : Choice) → IsFineChoice c →
    ((K : Continuation) → AreFine K → Alike (map (outcome d) (runs E d K)) (done (means E K d))) →
    Alike (map (outcome (text s d)) (by_text (text_runs (runs E d) s) c)) (done (does E (text s d) c))
text_same E s d stop f h = alike_refl []
text_same E s d (take_element c C xs K) f h = alike_refl []
text_same E s d (take_text w xs K) f h = go (class_has w s)
  where
    p : Partial
    p = record { holds = λ x. if_marked xs x (text s empty); rest = d }

    go : (b : Bool) → Alike (map (outcome (text s d)) (cond b (map (at_text xs) (runs E d K)) [])) (done (bind (means E K) (cond b (p ∷ []) [])))
    go true =
        alike_trans
        (alike_same (map_of_map (outcome (text s d)) (at_text xs) (runs E d K) ∙ sym (map_of_map (after p) (outcome d) (runs E d K))))
        (alike_trans (alike_map (after p) (h K f))
        (alike_same (sym (done_bind E K (p ∷ []) ∙ append_none (map (after p) (done (means E K d)))))))
    go false = alike_refl []

-- over an element
abbrev around : List (List ℕ) → List ℕ → Document → Document → Holding → Partial
around xs l k d h = record { holds = λ x. join (if_marked xs x (element l k empty)) (h x); rest = d }

around_done : (xs : List (List ℕ)) (l : List ℕ) (k d : Document) (L : List Partial) →
    flat_map (λ v. cond (nothing_left v) (with_content xs l k d v ∷ []) []) L ≡ map (around xs l k d) (done L)
around_done xs l k d [] = refl
around_done xs l k d (v ∷ L) = go (nothing_left v) (around_done xs l k d L)
  where
    go : (b : Bool) → flat_map (λ u. cond (nothing_left u) (with_content xs l k d u ∷ []) []) L ≡ map (around xs l k d) (done L) →
        cond b (with_content xs l k d v ∷ []) [] ++ flat_map (λ u. cond (nothing_left u) (with_content xs l k d u ∷ []) []) L ≡ map (around xs l k d) (cond b (v.holds ∷ []) [] ++ done L)
    go true e = ap (λ z. with_content xs l k d v ∷ z) e
    go false e = e

element_inside : (E : Definitions) (xs : List (List ℕ)) (l : List ℕ) (k d : Document) (C K : Continuation) →
    Alike (map (outcome k) (runs E k C)) (done (means E C k)) → Alike (map (outcome d) (runs E d K)) (done (means E K d)) →
    Alike (map (outcome (element l k d)) (flat_map (λ q. map (at_element xs q) (runs E d K)) (runs E k C)))
    (done (bind (means E K) (flat_map (λ v. cond (nothing_left v) (with_content xs l k d v ∷ []) []) (means E C k))))
element_inside E xs l k d C K g h =
    alike_trans
    (alike_same (
    map_of_flat (outcome (element l k d)) (λ q. map (at_element xs q) (runs E d K)) (runs E k C)
    ∙ flat_same (λ q. map (outcome (element l k d)) (map (at_element xs q) (runs E d K))) (λ q. map (after (around xs l k d (outcome k q))) (map (outcome d) (runs E d K))) (runs E k C)
    (λ q m. each q)
    ∙ sym (flat_of_map (λ o. map (after (around xs l k d o)) (map (outcome d) (runs E d K))) (outcome k) (runs E k C))))
    (alike_trans
    (alike_flat (λ o. map (after (around xs l k d o)) (map (outcome d) (runs E d K))) g)
    (alike_trans
    (alike_each (λ o. map (after (around xs l k d o)) (map (outcome d) (runs E d K))) (λ o. map (after (around xs l k d o)) (done (means E K d))) (done (means E C k))
    (λ o m. alike_map (after (around xs l k d o)) h))
    (alike_same (sym (
    done_bind E K (flat_map (λ v. cond (nothing_left v) (with_content xs l k d v ∷ []) []) (means E C k))
    ∙ ap (flat_map (λ v. map (after v) (done (means E K v.rest)))) (around_done xs l k d (means E C k))
    ∙ flat_of_map (λ v. map (after v) (done (means E K v.rest))) (around xs l k d) (done (means E C k)))))))
  where
    each : (q : MarkedRun) → map (outcome (element l k d)) (map (at_element xs q) (runs E d K)) ≡ map (after (around xs l k d (outcome k q))) (map (outcome d) (runs E d K))
    each q =
        map_of_map (outcome (element l k d)) (at_element xs q) (runs E d K)
        ∙ map_each (λ r. outcome (element l k d) (at_element xs q r)) (λ r. after (around xs l k d (outcome k q)) (outcome d r)) (runs E d K)
        (λ r m. fun_ext (λ x. sym (join_assoc (if_marked xs x (element l k empty)) (held k (trace x q)) (held d (trace x r)))))
        ∙ sym (map_of_map (after (around xs l k d (outcome k q))) (outcome d) (runs E d K))

element_same : (E : Definitions) (l : List ℕ) (k d : Document) (c : Choice) → IsFineChoice c →
    ((K : Continuation) → AreFine K → Alike (map (outcome k) (runs E k K)) (done (means E K k))) →
    ((K : Continuation) → AreFine K → Alike (map (outcome d) (runs E d K)) (done (means E K d))) →
    Alike (map (outcome (element l k d)) (by_element (element_runs (runs E k) (runs E d) l) c)) (done (does E (element l k d) c))
element_same E l k d stop f g h = alike_refl []
element_same E l k d (take_text w xs K) f g h = alike_refl []
element_same E l k d (take_element c C xs K) f g h = go (class_has c l)
  where
    go : (b : Bool) → Alike (map (outcome (element l k d)) (cond b (flat_map (λ q. map (at_element xs q) (runs E d K)) (runs E k C)) []))
        (done (bind (means E K) (cond b (flat_map (λ v. cond (nothing_left v) (with_content xs l k d v ∷ []) []) (means E C k)) [])))
    go true = element_inside E xs l k d C K (g C f.0) (h K f.1)
    go false = alike_refl []

-- the runs of a continuation, and what its whole ways hold
pub runs_mean : (E : Definitions) → Guarded E → BindNothing E → (d : Document) (K : Continuation) → AreFine K → Alike (map (outcome d) (runs E d K)) (done (means E K d))
runs_mean E guarded none empty K f =
    alike_trans (ends_same E (choices E K)) (alike_flat (λ v. cond (nothing_left v) (v.holds ∷ []) []) (factor E guarded none K f empty))
runs_mean E guarded none (text s d) K f =
    alike_trans
    (alike_same (ap (map (outcome (text s d))) (texts_flat (text_runs (runs E d) s) (choices E K)) ∙ map_of_flat (outcome (text s d)) (by_text (text_runs (runs E d) s)) (choices E K)))
    (alike_trans
    (alike_each (λ c. map (outcome (text s d)) (by_text (text_runs (runs E d) s) c)) (λ c. done (does E (text s d) c)) (choices E K)
    (λ c m. text_same E s d c (fine_within E none (length E) K f c m) (λ L g. runs_mean E guarded none d L g)))
    (alike_trans
    (alike_same (sym (flat_flat (λ v. cond (nothing_left v) (v.holds ∷ []) []) (does E (text s d)) (choices E K))))
    (alike_flat (λ v. cond (nothing_left v) (v.holds ∷ []) []) (factor E guarded none K f (text s d)))))
runs_mean E guarded none (element l k d) K f =
    alike_trans
    (alike_same (
    ap (map (outcome (element l k d))) (elements_flat (element_runs (runs E k) (runs E d) l) (choices E K))
    ∙ map_of_flat (outcome (element l k d)) (by_element (element_runs (runs E k) (runs E d) l)) (choices E K)))
    (alike_trans
    (alike_each (λ c. map (outcome (element l k d)) (by_element (element_runs (runs E k) (runs E d) l) c)) (λ c. done (does E (element l k d) c)) (choices E K)
    (λ c m. element_same E l k d c (fine_within E none (length E) K f c m) (λ L g. runs_mean E guarded none k L g) (λ L g. runs_mean E guarded none d L g)))
    (alike_trans
    (alike_same (sym (flat_flat (λ v. cond (nothing_left v) (v.holds ∷ []) []) (does E (element l k d)) (choices E K))))
    (alike_flat (λ v. cond (nothing_left v) (v.holds ∷ []) []) (factor E guarded none K f (element l k d)))))
