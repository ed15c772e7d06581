-- In a guarded program the choices of a continuation do what the continuation does.
use Rattle.std.proofs.Common.{◌≡◌, ℕ, suc, zero, ◌+◌, ◌<◌, ◌≤◌, ltb, ltb-true, lt-ltb, arith, Bool, true, false, cond, ◌||◌, List, [], ◌∷◌, ◌++◌, map, flat_map, length, Option, Some, None, refl, ap, sym, subst, ◌∙◌, inl, inr}
use Rattle.std.specs.Str.{bytes_eq}
use Rattle.std.proofs.lemmas.Grind.{flat_map-append}
use Rattle.xd_doc.specs.Document.{Document, empty, text, element, join}
use Rattle.xd_doc.specs.Classes.{LabelClass, TextClass, class_has}
use Rattle.xd_doc.specs.Members.{IsOneOf}
use Rattle.xd_doc.proofs.Bools.{or_right}
use Rattle.xd_doc.proofs.Joins.{join_empty-right, join_assoc}
use Rattle.xd_doc.proofs.Lists.{map_append, append_none}
use Rattle.xd_syntax.specs.Words.{has_word}
use Rattle.xd_syntax.specs.Tree.{Tree, Empty, Text, Words, Name, Elem, Seq, Alt, Star, Plus, Opt, Val, Definitions, body, occurrences}
use Rattle.xd_meaning.specs.Heads.{all_texts}
use Rattle.xd_syntax.specs.Fits.{Fits}
use Rattle.xd_syntax.specs.Ways.{Way, no_item_way, then_way, item_count, is_whole, binding, ways}
use Rattle.xd_laws.specs.Guarded.{Front, Step, Guarded, Defined}
use Rattle.xd_syntax.specs.Fits as F
use Rattle.xd_laws.specs.Guarded as R
use Rattle.xd_syntax.proofs.Members.{mem_append, append_left, append_right, mem_map, mem_flat, cond_true, flat_same}
use Rattle.xd_laws.proofs.Unfoldings.{Trail, trail_short, same_word_eq}
use Rattle.xd_pattern_runs.specs.Runs.{Piece, Continuation, Choice, stop, take_text, take_element, start, in_place, then_choices, without_stops, one_stop, has_stop, turn_choices, some_turn_choices, choices_by, choices_of_definition, choices_of_name, choices, if_marked}
use Rattle.xd_pattern_runs.specs.Linear.{BindNothing, IsApart, given, joined}
use Rattle.xd_pattern_runs.specs.Alike.{Alike}
use Rattle.xd_pattern_runs.proofs.Alike.{alike_refl, alike_same, alike_sym, alike_trans, alike_append, alike_flat, alike_known, alike_twice, append_then, flat_flat, flat_of_map, map_of_flat, map_of_map, map_each}
use Rattle.xd_pattern_runs.proofs.Equations.{turn_ways, ways_seq, ways_plus, ways_star, ways_elem, ways_name, ways_no_name}
use Rattle.xd_pattern_runs.proofs.Means.{Partial, nothing, and_next, then_each, bind, partial_same, bind_last, bind_each, behind, share, piece_means, means, means_one, means_within, text_parts, with_content, nothing_left, element_parts, does, all_do, place, one_stop_does}
use Rattle.xd_pattern_runs.proofs.Bindings.{given_append, in_neither, unbound}

abbrev pub piece : List (List ℕ) → Tree → Piece
piece xs T = record { marks = xs; part = T }

-- no marked variable is bound again inside
abbrev pub IsFine : List (List ℕ) → Tree → Type 0
IsFine xs T = IsApart T × ((x : List ℕ) → has_word xs x ≡ true → has_word (occurrences T) x ≡ false)

-- stops

single : (c d : Choice) → IsOneOf c (d ∷ []) → d ≡ c
single c d (inl e) = e
single c d (inr m) = absurd m

stop_in_place : (K : Continuation) (cs : List Choice) (b : Choice) → IsOneOf stop (in_place K cs b) → (b ≡ stop) × IsOneOf stop cs
stop_in_place K cs stop m = (refl, m)
stop_in_place K cs (take_text w xs R) m = let e = single stop (take_text w xs (R ++ K)) m in cc
stop_in_place K cs (take_element c T xs R) m = let e = single stop (take_element c T xs (R ++ K)) m in cc

pub stop_behind : (K : Continuation) (cs bs : List Choice) → IsOneOf stop (then_choices bs K cs) → IsOneOf stop bs × IsOneOf stop cs
stop_behind K cs bs m =
    let r = mem_flat (in_place K cs) stop bs m in
    let q = stop_in_place K cs r.0 r.2 in (subst (λ b. IsOneOf b bs) q.0 r.1, q.1)

pub stop_there : (cs : List Choice) → has_stop cs ≡ true → IsOneOf stop cs
stop_there [] h = cc
stop_there (stop ∷ cs) h = inl refl
stop_there (take_text w xs R ∷ cs) h = inr (stop_there cs h)
stop_there (take_element c C xs R ∷ cs) h = inr (stop_there cs h)

stop_again : (p : Piece) (cs : List Choice) → IsOneOf stop (some_turn_choices p cs) → IsOneOf stop cs
stop_again p cs m =
    elim (mem_append stop (then_choices cs (p ∷ []) []) (cond (has_stop cs) (stop ∷ []) []) m)
    [ inl a ↦ absurd (stop_behind (p ∷ []) [] cs a).1 | inr b ↦ stop_there cs (cond_true (has_stop cs) stop (stop ∷ []) b).0 ]

without_in : (c : Choice) (cs : List Choice) → IsOneOf c (without_stops cs) → IsOneOf c cs
without_in c [] m = m
without_in c (stop ∷ cs) m = inr (without_in c cs m)
without_in c (take_text w xs R ∷ cs) (inl e) = inl e
without_in c (take_text w xs R ∷ cs) (inr m) = inr (without_in c cs m)
without_in c (take_element k T xs R ∷ cs) (inl e) = inl e
without_in c (take_element k T xs R ∷ cs) (inr m) = inr (without_in c cs m)

pub one_stop_in : (c : Choice) (cs : List Choice) → IsOneOf c (one_stop cs) → IsOneOf c cs
one_stop_in c [] m = m
one_stop_in c (stop ∷ cs) (inl e) = inl e
one_stop_in c (stop ∷ cs) (inr m) = inr (without_in c cs m)
one_stop_in c (take_text w xs R ∷ cs) (inl e) = inl e
one_stop_in c (take_text w xs R ∷ cs) (inr m) = inr (one_stop_in c cs m)
one_stop_in c (take_element k T xs R ∷ cs) (inl e) = inl e
one_stop_in c (take_element k T xs R ∷ cs) (inr m) = inr (one_stop_in c cs m)

-- what may stop can be empty
pub stop_fits_by : (E : Definitions) (N : List (List ℕ) → List ℕ → List Choice) → ((xs : List (List ℕ)) (y : List ℕ) → IsOneOf stop (N xs y) → Fits E (Name y) empty) →
    (T : Tree) (xs : List (List ℕ)) → IsOneOf stop (choices_by N xs T) → Fits E T empty
stop_fits_by E N names Empty xs m = F.fits_empty
stop_fits_by E N names Text xs m = let e = single stop (take_text all_texts xs []) m in cc
stop_fits_by E N names (Words w) xs m = let e = single stop (take_text w xs []) m in cc
stop_fits_by E N names (Name y) xs m = names xs y m
stop_fits_by E N names (Elem c T) xs m = let e = single stop (take_element c (start T) xs []) m in cc
stop_fits_by E N names (Seq T U) xs m =
    let r = stop_behind (piece xs U ∷ []) (choices_by N xs U) (choices_by N xs T) m in
    F.fits_seq empty empty refl (stop_fits_by E N names T xs r.0) (stop_fits_by E N names U xs r.1)
stop_fits_by E N names (Alt T U) xs m =
    elim (mem_append stop (choices_by N xs T) (choices_by N xs U) (one_stop_in stop _ m))
    [ inl a ↦ F.fits_left (stop_fits_by E N names T xs a) | inr b ↦ F.fits_right (stop_fits_by E N names U xs b) ]
stop_fits_by E N names (Star T) xs m = F.fits_no_turn
stop_fits_by E N names (Plus T) xs m =
    F.fits_plus empty empty refl (stop_fits_by E N names T xs (stop_again (piece xs (Star T)) (choices_by N xs T) m)) F.fits_no_turn
stop_fits_by E N names (Opt T) xs m = F.fits_absent
stop_fits_by E N names (Val y T) xs m = F.fits_val (stop_fits_by E N names T (y ∷ xs) m)

stop_fits_body : (E : Definitions) (G : Tree → List Choice) (y : List ℕ) → ((T : Tree) → IsOneOf stop (G T) → Fits E T empty) → (o : Option Tree) → body E y ≡ o →
    IsOneOf stop (choices_of_definition G o) → Fits E (Name y) empty
stop_fits_body E G y h None e m = absurd m
stop_fits_body E G y h (Some T) e m = F.fits_name e (h T m)

pub stop_fits_name : (E : Definitions) (n : ℕ) (xs : List (List ℕ)) (y : List ℕ) → IsOneOf stop (choices_of_name E n xs y) → Fits E (Name y) empty
stop_fits_name E zero xs y m = absurd m
stop_fits_name E (suc n) xs y m =
    stop_fits_body E (choices_by (choices_of_name E n) xs) y (λ T. stop_fits_by E (choices_of_name E n) (stop_fits_name E n) T xs) (body E y) refl m

-- the parts of the main lemma

joined_append : (ds cs : List Document) → joined (ds ++ cs) ≡ join (joined ds) (joined cs)
joined_append [] cs = refl
joined_append (a ∷ ds) cs = ap (join a) (joined_append ds cs) ∙ sym (join_assoc a (joined ds) (joined cs))

share_then : (xs : List (List ℕ)) (v u : Way) → share xs (then_way v u) ≡ and_next (share xs v) (share xs u)
share_then xs v u = partial_same _ _ u.rest (λ x. go x (has_word xs x))
  where
    go : (x : List ℕ) (b : Bool) → cond b (join v.taken u.taken) (joined (given x (v.bindings ++ u.bindings))) ≡ join (cond b v.taken (joined (given x v.bindings))) (cond b u.taken (joined (given x u.bindings)))
    go x true = refl
    go x false = ap joined (given_append x v.bindings u.bindings) ∙ joined_append (given x v.bindings) (given x u.bindings)

share_nothing : (xs : List (List ℕ)) (d : Document) → share xs (no_item_way d) ≡ nothing d
share_nothing xs d = partial_same _ _ d (λ x. go (has_word xs x))
  where
    go : (b : Bool) → cond b empty empty ≡ empty
    go true = refl
    go false = refl

share_each : (xs : List (List ℕ)) (W : Document → List Way) (v : Way) → map (share xs) (map (then_way v) (W v.rest)) ≡ then_each (λ d. map (share xs) (W d)) (share xs v)
share_each xs W v =
    map_of_map (share xs) (then_way v) (W v.rest)
    ∙ map_each (λ u. share xs (then_way v u)) (λ u. and_next (share xs v) (share xs u)) (W v.rest) (λ u m. share_then xs v u)
    ∙ sym (map_of_map (and_next (share xs v)) (share xs) (W v.rest))

-- the ways of two parts one after the other
share_turn : (xs : List (List ℕ)) (W : Document → List Way) (L : List Way) → map (share xs) (flat_map (λ v. map (then_way v) (W v.rest)) L) ≡ bind (λ d. map (share xs) (W d)) (map (share xs) L)
share_turn xs W L =
    map_of_flat (share xs) (λ v. map (then_way v) (W v.rest)) L
    ∙ flat_same (λ v. map (share xs) (map (then_way v) (W v.rest))) (λ v. then_each (λ d. map (share xs) (W d)) (share xs v)) L
    (λ v m. share_each xs W v)
    ∙ sym (flat_of_map (then_each (λ d. map (share xs) (W d))) (share xs) L)

-- a turn that leaves less, and what comes after it
abbrev fewer_each : (Document → List Partial) → Document → Partial → List Partial
fewer_each W d p = cond (ltb (item_count p.rest) (item_count d)) (then_each W p) []

share_fewer : (xs : List (List ℕ)) (W : Document → List Way) (d : Document) (L : List Way) →
    map (share xs) (flat_map (turn_ways W d) L) ≡ flat_map (fewer_each (λ e. map (share xs) (W e)) d) (map (share xs) L)
share_fewer xs W d L =
    map_of_flat (share xs) (turn_ways W d) L
    ∙ flat_same (λ v. map (share xs) (turn_ways W d v)) (λ v. fewer_each (λ e. map (share xs) (W e)) d (share xs v)) L
    (λ v m. go v (ltb (item_count v.rest) (item_count d)))
    ∙ sym (flat_of_map (fewer_each (λ e. map (share xs) (W e)) d) (share xs) L)
  where
    go : (v : Way) (b : Bool) → map (share xs) (cond b (map (then_way v) (W v.rest)) []) ≡ cond b (then_each (λ e. map (share xs) (W e)) (share xs v)) []
    go v true = share_each xs W v
    go v false = refl

not_fewer : (n : ℕ) → ltb n n ≡ false
not_fewer n = go (ltb n n) refl
  where
    go : (b : Bool) → ltb n n ≡ b → ltb n n ≡ false
    go true e = let k = ltb-true _ _ e in absurd (omega arith)
    go false e = e

all_fewer : (W : Document → List Partial) (d : Document) (L : List Partial) → ((p : Partial) → IsOneOf p L → item_count p.rest < item_count d) → flat_map (fewer_each W d) L ≡ bind W L
all_fewer W d L h = flat_same (fewer_each W d) (then_each W) L (λ p m. ap (λ b. cond b (then_each W p) []) (lt-ltb _ _ (h p m)))

-- what is taken leaves less
take_fewer : (E : Definitions) (R : Continuation) (d : Document) (L : List Partial) → ((p : Partial) → IsOneOf p L → item_count p.rest < item_count d) →
    (v : Partial) → IsOneOf v (bind (means E R) L) → item_count v.rest < item_count d
take_fewer E R d L h v m =
    let r = mem_flat (then_each (means E R)) v L m in
    let q = mem_map (and_next r.0) v (means E R (r.0).rest) r.2 in
    let i = h r.0 r.1 in
    let j = means_within E R (r.0).rest q.0 q.1 in
    let a : item_count (q.0).rest ≡ item_count v.rest = ap (λ (p : Partial). item_count p.rest) q.2 in
    omega arith

text_fewer : (w : TextClass) (xs : List (List ℕ)) (d : Document) (p : Partial) → IsOneOf p (text_parts w xs d) → item_count p.rest < item_count d
text_fewer w xs empty p m = absurd m
text_fewer w xs (text s d) p m =
    let a = cond_true (class_has w s) p _ m in
    elim a.1 as (λ _. item_count p.rest < item_count (text s d))
    [ inl e ↦ let i : item_count d ≡ item_count p.rest = ap (λ (q : Partial). item_count q.rest) e in omega arith | inr n ↦ absurd n ]
text_fewer w xs (element l k d) p m = absurd m

element_fewer : (E : Definitions) (c : LabelClass) (C : Continuation) (xs : List (List ℕ)) (d : Document) (p : Partial) → IsOneOf p (element_parts E c C xs d) → item_count p.rest < item_count d
element_fewer E c C xs empty p m = absurd m
element_fewer E c C xs (text s d) p m = absurd m
element_fewer E c C xs (element l k d) p m =
    let a = cond_true (class_has c l) p _ m in
    let r = mem_flat (λ v. cond (nothing_left v) (with_content xs l k d v ∷ []) []) p (means E C k) a.1 in
    let b = cond_true (nothing_left r.0) p _ r.2 in
    elim b.1 [ inl e ↦ (let i : item_count d ≡ item_count p.rest = ap (λ (q : Partial). item_count q.rest) e in omega arith) | inr o ↦ absurd o ]

turn_behind : (E : Definitions) (p : Piece) (R : Continuation) (L : List Partial) → bind (piece_means E p) (bind (means E R) L) ≡ bind (means E (R ++ p ∷ [])) L ++ []
turn_behind E p R L =
    bind_each (piece_means E p) (means E (p ∷ [])) (bind (means E R) L) (λ v m. sym (means_one E p v.rest))
    ∙ sym (behind E R (p ∷ []) L)

-- a turn by each choice
turn_one : (E : Definitions) (p : Piece) (d : Document) (c : Choice) →
    flat_map (fewer_each (piece_means E p) d) (does E d c) ≡ all_do E d (in_place (p ∷ []) [] c)
turn_one E p d stop = append_none _ ∙ ap (λ b. cond b (then_each (piece_means E p) (nothing d)) []) (not_fewer (item_count d))
turn_one E p d (take_text w xs R) =
    all_fewer (piece_means E p) d (bind (means E R) (text_parts w xs d)) (take_fewer E R d (text_parts w xs d) (text_fewer w xs d))
    ∙ turn_behind E p R (text_parts w xs d)
turn_one E p d (take_element c C xs R) =
    all_fewer (piece_means E p) d (bind (means E R) (element_parts E c C xs d)) (take_fewer E R d (element_parts E c C xs d) (element_fewer E c C xs d))
    ∙ turn_behind E p R (element_parts E c C xs d)

star_means : (E : Definitions) → Guarded E → (xs : List (List ℕ)) (T : Tree) (d : Document) →
    piece_means E (piece xs (Star T)) d ≡ flat_map (fewer_each (piece_means E (piece xs (Star T))) d) (piece_means E (piece xs T) d) ++ nothing d ∷ []
star_means E guarded xs T d =
    ap (map (share xs)) (ways_star E guarded T d)
    ∙ map_append (share xs) (flat_map (turn_ways (ways E (Star T)) d) (ways E T d)) (no_item_way d ∷ [])
    ∙ ap (λ z. z ++ share xs (no_item_way d) ∷ []) (share_fewer xs (ways E (Star T)) d (ways E T d))
    ∙ ap (λ z. flat_map (fewer_each (piece_means E (piece xs (Star T))) d) (piece_means E (piece xs T) d) ++ z ∷ []) (share_nothing xs d)

-- the choices of a repetition
turns_alike : (E : Definitions) → Guarded E → (xs : List (List ℕ)) (T : Tree) (d : Document) (cs : List Choice) → Alike (all_do E d cs) (piece_means E (piece xs T) d) →
    Alike (all_do E d (turn_choices (piece xs (Star T)) cs)) (piece_means E (piece xs (Star T)) d)
turns_alike E guarded xs T d cs h =
    alike_trans
    (alike_same (flat_map-append (does E d) (then_choices cs (piece xs (Star T) ∷ []) []) (stop ∷ [])))
    (alike_trans
    (alike_append
    (alike_trans
    (alike_same (turns_do cs))
    (alike_flat (fewer_each (piece_means E (piece xs (Star T))) d) h))
    (alike_refl (nothing d ∷ [])))
    (alike_same (sym (star_means E guarded xs T d))))
  where
    turns_do : (cs : List Choice) → all_do E d (then_choices cs (piece xs (Star T) ∷ []) []) ≡ flat_map (fewer_each (piece_means E (piece xs (Star T))) d) (all_do E d cs)
    turns_do cs =
        flat_flat (does E d) (in_place (piece xs (Star T) ∷ []) []) cs
        ∙ flat_same (λ c. all_do E d (in_place (piece xs (Star T) ∷ []) [] c)) (λ c. flat_map (fewer_each (piece_means E (piece xs (Star T))) d) (does E d c)) cs
        (λ c m. sym (turn_one E (piece xs (Star T)) d c))
        ∙ sym (flat_flat (fewer_each (piece_means E (piece xs (Star T))) d) (does E d) cs)

-- A turn that is made after the stop of another does what a turn alone does: the choices before
-- the stop come again.

stopless : (p : Piece) (T cs : List Choice) → has_stop cs ≡ false → then_choices cs (p ∷ []) T ≡ then_choices cs (p ∷ []) []
stopless p T [] h = refl
stopless p T (stop ∷ cs) h = cc
stopless p T (take_text w xs R ∷ cs) h = ap (λ z. take_text w xs (R ++ p ∷ []) ∷ z) (stopless p T cs h)
stopless p T (take_element c C xs R ∷ cs) h = ap (λ z. take_element c C xs (R ++ p ∷ []) ∷ z) (stopless p T cs h)

-- nothing new comes of choices whose turns came already
turn_known : (p : Piece) (T cs : List Choice) → ((c : Choice) → IsOneOf c (then_choices cs (p ∷ []) []) → IsOneOf c T) → (c : Choice) → IsOneOf c (then_choices cs (p ∷ []) T) → IsOneOf c T
turn_known p T [] h c m = absurd m
turn_known p T (stop ∷ cs) h c m =
    elim (mem_append c T (then_choices cs (p ∷ []) T) m) [ inl a ↦ a | inr b ↦ turn_known p T cs h c b ]
turn_known p T (take_text w xs R ∷ cs) h c (inl e) = h c (inl e)
turn_known p T (take_text w xs R ∷ cs) h c (inr m) = turn_known p T cs (λ b n. h b (inr n)) c m
turn_known p T (take_element k C xs R ∷ cs) h c (inl e) = h c (inl e)
turn_known p T (take_element k C xs R ∷ cs) h c (inr m) = turn_known p T cs (λ b n. h b (inr n)) c m

-- the turns before the first stop stand at the front of all the turns
turns_from : (p : Piece) (before cs T : List Choice) → has_stop cs ≡ true → T ≡ before ++ (then_choices cs (p ∷ []) [] ++ stop ∷ []) → Alike (before ++ then_choices cs (p ∷ []) T) T
turns_from p before [] T h e = cc
turns_from p before (stop ∷ cs) T h e =
    let known : (c : Choice) → IsOneOf c (then_choices cs (p ∷ []) T) → IsOneOf c T =
    turn_known p T cs (λ c m. subst (IsOneOf c) (sym e) (append_right c before _ (append_left c (then_choices cs (p ∷ []) []) (stop ∷ []) m))) in
    alike_trans (alike_append (alike_refl before) (alike_known T (then_choices cs (p ∷ []) T) known))
    (alike_trans (alike_same (ap (λ z. before ++ z) e))
    (alike_trans (alike_twice before (then_choices cs (p ∷ []) [] ++ stop ∷ [])) (alike_same (sym e))))
turns_from p before (take_text w xs R ∷ cs) T h e =
    alike_trans (alike_same (sym (append_then before (take_text w xs (R ++ p ∷ []) ∷ []) (then_choices cs (p ∷ []) T))))
    (turns_from p (before ++ take_text w xs (R ++ p ∷ []) ∷ []) cs T h (e ∙ sym (append_then before (take_text w xs (R ++ p ∷ []) ∷ []) (then_choices cs (p ∷ []) [] ++ stop ∷ []))))
turns_from p before (take_element c C xs R ∷ cs) T h e =
    alike_trans (alike_same (sym (append_then before (take_element c C xs (R ++ p ∷ []) ∷ []) (then_choices cs (p ∷ []) T))))
    (turns_from p (before ++ take_element c C xs (R ++ p ∷ []) ∷ []) cs T h (e ∙ sym (append_then before (take_element c C xs (R ++ p ∷ []) ∷ []) (then_choices cs (p ∷ []) [] ++ stop ∷ []))))

pub some_turns : (p : Piece) (cs : List Choice) → Alike (then_choices cs (p ∷ []) (turn_choices p cs)) (some_turn_choices p cs)
some_turns p cs = go (has_stop cs) refl
  where
    go : (b : Bool) → has_stop cs ≡ b → Alike (then_choices cs (p ∷ []) (turn_choices p cs)) (then_choices cs (p ∷ []) [] ++ cond b (stop ∷ []) [])
    go true h = turns_from p [] cs (turn_choices p cs) h refl
    go false h = alike_same (stopless p (turn_choices p cs) cs h ∙ sym (append_none (then_choices cs (p ∷ []) [])))

-- an element of a class
element_holds : (xs : List (List ℕ)) (l : List ℕ) (k d : Document) (v : Way) → ((x : List ℕ) → has_word xs x ≡ true → given x v.bindings ≡ []) →
    share xs (record { bindings = v.bindings; taken = element l k empty; rest = d }) ≡ with_content xs l k d (share [] v)
element_holds xs l k d v h = partial_same _ _ d (λ x. go x (has_word xs x) (h x))
  where
    go : (x : List ℕ) (b : Bool) → (b ≡ true → given x v.bindings ≡ []) → cond b (element l k empty) (joined (given x v.bindings)) ≡ join (cond b (element l k empty) empty) (joined (given x v.bindings))
    go x true f = ap (λ z. element l k (joined z)) (sym (f refl))
    go x false f = refl

element_alike : (E : Definitions) → Guarded E → BindNothing E → (c : LabelClass) (T : Tree) (xs : List (List ℕ)) → IsFine xs T → (d : Document) →
    element_parts E c (start T) xs d ≡ piece_means E (piece xs (Elem c T)) d
element_alike E guarded none c T xs f empty = refl
element_alike E guarded none c T xs f (text s d) = refl
element_alike E guarded none c T xs f (element l k d) =
    go (class_has c l)
    ∙ sym (ap (map (share xs)) (ways_elem E guarded c T l k d))
  where
    whole : (v : Way) → ((x : List ℕ) → has_word xs x ≡ true → given x v.bindings ≡ []) → (b : Bool) →
        cond b (with_content xs l k d (share [] v) ∷ []) [] ≡ map (share xs) (cond b (record { bindings = v.bindings; taken = element l k empty; rest = d } ∷ []) [])
    whole v h true = ap (λ p. p ∷ []) (sym (element_holds xs l k d v h))
    whole v h false = refl

    inside : flat_map (λ v. cond (nothing_left v) (with_content xs l k d v ∷ []) []) (means E (start T) k)
        ≡ map (share xs) (flat_map (λ v. cond (is_whole v) (record { bindings = v.bindings; taken = element l k empty; rest = d } ∷ []) []) (ways E T k))
    inside =
        ap (flat_map (λ v. cond (nothing_left v) (with_content xs l k d v ∷ []) [])) (means_one E (piece [] T) k)
        ∙ flat_of_map (λ v. cond (nothing_left v) (with_content xs l k d v ∷ []) []) (share []) (ways E T k)
        ∙ flat_same (λ v. cond (nothing_left (share [] v)) (with_content xs l k d (share [] v) ∷ []) [])
        (λ v. map (share xs) (cond (is_whole v) (record { bindings = v.bindings; taken = element l k empty; rest = d } ∷ []) [])) (ways E T k)
        (λ v m. whole v (λ x h. unbound E none T x (f.1 x h) k v m) (is_whole v))
        ∙ sym (map_of_flat (share xs) (λ v. cond (is_whole v) (record { bindings = v.bindings; taken = element l k empty; rest = d } ∷ []) []) (ways E T k))

    go : (b : Bool) → cond b (flat_map (λ v. cond (nothing_left v) (with_content xs l k d v ∷ []) []) (means E (start T) k)) []
        ≡ map (share xs) (cond b (flat_map (λ v. cond (is_whole v) (record { bindings = v.bindings; taken = element l k empty; rest = d } ∷ []) []) (ways E T k)) [])
    go true = inside
    go false = refl

text_alike : (E : Definitions) (xs : List (List ℕ)) (d : Document) → text_parts all_texts xs d ≡ piece_means E (piece xs Text) d
text_alike E xs empty = refl
text_alike E xs (text s d) = ap (λ p. p ∷ []) (partial_same _ _ d (λ x. refl))
text_alike E xs (element l k d) = refl

words_alike : (E : Definitions) (w : TextClass) (xs : List (List ℕ)) (d : Document) → text_parts w xs d ≡ piece_means E (piece xs (Words w)) d
words_alike E w xs empty = refl
words_alike E w xs (text s d) = go (class_has w s)
  where
    go : (b : Bool) → cond b (record { holds = λ x. if_marked xs x (text s empty); rest = d } ∷ []) []
        ≡ map (share xs) (cond b (record { bindings = []; taken = text s empty; rest = d } ∷ []) [])
    go true = ap (λ p. p ∷ []) (partial_same _ _ d (λ x. refl))
    go false = refl
words_alike E w xs (element l k d) = refl

-- a binder
binder_share : (xs : List (List ℕ)) (y : List ℕ) (v : Way) → ((x : List ℕ) → bytes_eq y x ≡ true → given x v.bindings ≡ []) → share (y ∷ xs) v ≡ share xs (binding y v)
binder_share xs y v h = partial_same _ _ v.rest (λ x. go x (bytes_eq y x) (has_word xs x) (h x))
  where
    go : (x : List ℕ) (b a : Bool) → (b ≡ true → given x v.bindings ≡ []) →
        cond (b || a) v.taken (joined (given x v.bindings)) ≡ cond a v.taken (joined (cond b (v.taken ∷ given x v.bindings) (given x v.bindings)))
    go x true true f = refl
    go x true false f = sym (join_empty-right v.taken) ∙ ap (λ z. join v.taken (joined z)) (sym (f refl))
    go x false true f = refl
    go x false false f = refl

pub fine_seq : (xs : List (List ℕ)) (T U : Tree) → IsFine xs (Seq T U) → IsFine xs T × IsFine xs U
fine_seq xs T U f =
    (((f.0).0, λ x h. (in_neither (occurrences T) (occurrences U) x (f.1 x h)).0), ((f.0).1, λ x h. (in_neither (occurrences T) (occurrences U) x (f.1 x h)).1))

pub fine_alt : (xs : List (List ℕ)) (T U : Tree) → IsFine xs (Alt T U) → IsFine xs T × IsFine xs U
fine_alt xs T U f =
    (((f.0).0, λ x h. (in_neither (occurrences T) (occurrences U) x (f.1 x h)).0), ((f.0).1, λ x h. (in_neither (occurrences T) (occurrences U) x (f.1 x h)).1))

pub or_cases : (a b : Bool) → (a || b) ≡ true → (P : Type 0) → (a ≡ true → P) → (b ≡ true → P) → P
or_cases true b h P f g = f refl
or_cases false b h P f g = g h

pub fine_val : (xs : List (List ℕ)) (y : List ℕ) (T : Tree) → IsFine xs (Val y T) → IsFine (y ∷ xs) T
fine_val xs y T f = (
  (f.0).1,
  λ x h. or_cases (bytes_eq y x) (has_word xs x) h (has_word (occurrences T) x ≡ false)
      (λ e. subst (λ z. has_word (occurrences T) z ≡ false) (same_word_eq y x e) (f.0).0)
      (λ e. or_right (bytes_eq y x) (has_word (occurrences T) x) (f.1 x e)),
)

pub nil_append : (xs ys : List (List ℕ)) → xs ++ ys ≡ [] → (xs ≡ []) × (ys ≡ [])
nil_append [] ys e = (refl, e)
nil_append (x ∷ xs) ys e = cc

pub apart_none : (T : Tree) → occurrences T ≡ [] → IsApart T
apart_none Empty e = tt
apart_none Text e = tt
apart_none (Words w) e = tt
apart_none (Name x) e = tt
apart_none (Elem c T) e = apart_none T e
apart_none (Seq T U) e = let r = nil_append (occurrences T) (occurrences U) e in (apart_none T r.0, apart_none U r.1)
apart_none (Alt T U) e = let r = nil_append (occurrences T) (occurrences U) e in (apart_none T r.0, apart_none U r.1)
apart_none (Star T) e = apart_none T e
apart_none (Plus T) e = apart_none T e
apart_none (Opt T) e = apart_none T e
apart_none (Val x T) e = cc

pub fine_none : (xs : List (List ℕ)) (T : Tree) → occurrences T ≡ [] → IsFine xs T
fine_none xs T e = (apart_none T e, λ x h. ap (λ z. has_word z x) e)

-- the main lemma: by unfoldings, and within each by the part; the names that were unfolded since
-- the last item form a chain
module _ (E : Definitions) (guarded : Guarded E) (none : BindNothing E) (n : ℕ) (N : List (List ℕ) → List ℕ → List Choice)
    (stops : (xs : List (List ℕ)) (y : List ℕ) → IsOneOf stop (N xs y) → Fits E (Name y) empty)
    (names : (V : List (List ℕ)) (xs : List (List ℕ)) (y : List ℕ) → (Defined E y → Trail E (y ∷ V)) → length E ≤ n + length V → (d : Document) →
    Alike (all_do E d (N xs y)) (piece_means E (piece xs (Name y)) d)) where
  factor_by : (T : Tree) (V : List (List ℕ)) (xs : List (List ℕ)) → IsFine xs T → ((y : List ℕ) → Front E T y → Defined E y → Trail E (y ∷ V)) → length E ≤ n + length V →
      (d : Document) → Alike (all_do E d (choices_by N xs T)) (piece_means E (piece xs T) d)
  factor_by Empty V xs f t l d = alike_same (ap (λ z. z ∷ []) (sym (share_nothing xs d)))
  factor_by Text V xs f t l d = alike_same (append_none (bind (means E []) (text_parts all_texts xs d)) ∙ bind_last (text_parts all_texts xs d) ∙ text_alike E xs d)
  factor_by (Words w) V xs f t l d = alike_same (append_none (bind (means E []) (text_parts w xs d)) ∙ bind_last (text_parts w xs d) ∙ words_alike E w xs d)
  factor_by (Name y) V xs f t l d = names V xs y (t y R.here) l d
  factor_by (Elem c T) V xs f t l d =
      alike_same (append_none (bind (means E []) (element_parts E c (start T) xs d)) ∙ bind_last (element_parts E c (start T) xs d) ∙ element_alike E guarded none c T xs f d)
  factor_by (Seq T U) V xs f t l d =
      let g = fine_seq xs T U f in
      alike_trans
      (place E (piece xs U ∷ []) (choices_by N xs U) d (choices_by N xs T) (λ m.
      alike_trans (factor_by U V xs g.1 (λ y k. t y (R.seq_next (stop_fits_by E N stops T xs m) k)) l d) (alike_same (sym (means_one E (piece xs U) d)))))
      (alike_trans
      (alike_flat (then_each (means E (piece xs U ∷ []))) (factor_by T V xs g.0 (λ y k. t y (R.seq_first k)) l d))
      (alike_same (
      bind_each (means E (piece xs U ∷ [])) (piece_means E (piece xs U)) (piece_means E (piece xs T) d) (λ v m. means_one E (piece xs U) v.rest)
      ∙ sym (share_turn xs (ways E U) (ways E T d))
      ∙ sym (ap (map (share xs)) (ways_seq E guarded T U d)))))
  factor_by (Alt T U) V xs f t l d =
      let g = fine_alt xs T U f in
      alike_trans (one_stop_does E d (choices_by N xs T ++ choices_by N xs U))
      (alike_trans (alike_same (flat_map-append (does E d) (choices_by N xs T) (choices_by N xs U)))
      (alike_trans
      (alike_append (factor_by T V xs g.0 (λ y k. t y (R.alt_left k)) l d) (factor_by U V xs g.1 (λ y k. t y (R.alt_right k)) l d))
      (alike_same (sym (map_append (share xs) (ways E T d) (ways E U d))))))
  factor_by (Star T) V xs f t l d = turns_alike E guarded xs T d (choices_by N xs T) (factor_by T V xs f (λ y k. t y (R.star k)) l d)
  factor_by (Plus T) V xs f t l d =
      let i = factor_by T V xs f (λ y k. t y (R.plus k)) l d in
      alike_trans
      (alike_sym (alike_flat (does E d) (some_turns (piece xs (Star T)) (choices_by N xs T))))
      (alike_trans
      (place E (piece xs (Star T) ∷ []) (turn_choices (piece xs (Star T)) (choices_by N xs T)) d (choices_by N xs T) (λ m.
      alike_trans (turns_alike E guarded xs T d (choices_by N xs T) i) (alike_same (sym (means_one E (piece xs (Star T)) d)))))
      (alike_trans
      (alike_flat (then_each (means E (piece xs (Star T) ∷ []))) i)
      (alike_same (
      bind_each (means E (piece xs (Star T) ∷ [])) (piece_means E (piece xs (Star T))) (piece_means E (piece xs T) d) (λ v m. means_one E (piece xs (Star T)) v.rest)
      ∙ sym (share_turn xs (ways E (Star T)) (ways E T d))
      ∙ sym (ap (map (share xs)) (ways_plus E guarded T d))))))
  factor_by (Opt T) V xs f t l d =
      alike_trans (one_stop_does E d (choices_by N xs T ++ stop ∷ []))
      (alike_trans (alike_same (flat_map-append (does E d) (choices_by N xs T) (stop ∷ [])))
      (alike_trans
      (alike_append (factor_by T V xs f (λ y k. t y (R.opt k)) l d) (alike_same (ap (λ z. z ∷ []) (sym (share_nothing xs d)))))
      (alike_same (sym (map_append (share xs) (ways E T d) (no_item_way d ∷ []))))))
  factor_by (Val y T) V xs f t l d =
      alike_trans (factor_by T V (y ∷ xs) (fine_val xs y T f) (λ z k. t z (R.val k)) l d)
      (alike_same (
      map_each (share (y ∷ xs)) (λ v. share xs (binding y v)) (ways E T d)
      (λ v m. binder_share xs y v (λ x e. unbound E none T x (subst (λ z. has_word (occurrences T) z ≡ false) (same_word_eq y x e) (f.0).0) d v m))
      ∙ sym (map_of_map (share xs) (binding y) (ways E T d))))

names_factor : (E : Definitions) → Guarded E → BindNothing E → (n : ℕ) (V : List (List ℕ)) (xs : List (List ℕ)) (y : List ℕ) → (Defined E y → Trail E (y ∷ V)) →
    length E ≤ n + length V → (d : Document) → (o : Option Tree) → body E y ≡ o → Alike (all_do E d (choices_of_name E n xs y)) (piece_means E (piece xs (Name y)) d)
names_factor E guarded none zero V xs y t l d None e = alike_same (ap (map (share xs)) (sym (ways_no_name E guarded y d e)))
names_factor E guarded none (suc n) V xs y t l d None e =
    alike_same (ap (λ o. all_do E d (choices_of_definition (choices_by (choices_of_name E n) xs) o)) e ∙ ap (map (share xs)) (sym (ways_no_name E guarded y d e)))
names_factor E guarded none zero V xs y t l d (Some T) e = let k = trail_short E guarded (y ∷ V) (t (T, e)) in absurd (omega arith)
names_factor E guarded none (suc n) V xs y t l d (Some T) e =
    alike_trans (alike_same (ap (λ o. all_do E d (choices_of_definition (choices_by (choices_of_name E n) xs) o)) e))
    (alike_trans
    (factor_by E guarded none n (choices_of_name E n) (stop_fits_name E n)
    (λ W zs z s k c. names_factor E guarded none n W zs z s k c (body E z) refl)
    T (y ∷ V) xs (fine_none xs T (none y T e)) (λ z k def. (def, (T, e, k), t (T, e))) (omega arith) d)
    (alike_same (ap (map (share xs)) (sym (ways_name E guarded y T d e)))))

abbrev pub AreFine : Continuation → Type 0
AreFine [] = Unit {0}
AreFine (p ∷ K) = IsFine p.marks p.part × AreFine K

-- the choices of a continuation do what it does
pub factor : (E : Definitions) → Guarded E → BindNothing E → (K : Continuation) → AreFine K → (d : Document) → Alike (all_do E d (choices E K)) (means E K d)
factor E guarded none [] f d = alike_refl (nothing d ∷ [])
factor E guarded none (p ∷ K) f d =
    alike_trans
    (place E K (choices E K) d (choices_by (choices_of_name E (length E)) p.marks p.part) (λ m. factor E guarded none K f.1 d))
    (alike_flat (then_each (means E K))
    (factor_by E guarded none (length E) (choices_of_name E (length E)) (stop_fits_name E (length E))
    (λ V xs y t l e. names_factor E guarded none (length E) V xs y t l e (body E y) refl)
    p.part [] p.marks f.0 (λ y k def. def) (omega arith) d))
