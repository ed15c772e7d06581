-- Choices stop once at most.
use Rattle.std.proofs.Common.{◌≡◌, ℕ, suc, zero, Bool, true, false, cond, List, [], ◌∷◌, ◌++◌, length, Option, Some, None, refl}
use Rattle.xd_syntax.specs.Tree.{Tree, Empty, Text, Words, Name, Elem, Seq, Alt, Star, Plus, Opt, Val, Definitions, body}
use Rattle.xd_pattern_runs.specs.Runs.{Continuation, Choice, stop, take_text, take_element, then_choices, without_stops, one_stop, has_stop, choices_by, choices_of_definition, choices_of_name, choices_within}
use Rattle.xd_pattern_runs.specs.Finite.{StopsOnce, ChoicesStopOnce}

none_then : (K : Continuation) (ds cs : List Choice) → has_stop cs ≡ false → has_stop (then_choices cs K ds) ≡ false
none_then K ds [] h = refl
none_then K ds (stop ∷ cs) h = cc
none_then K ds (take_text w xs R ∷ cs) h = none_then K ds cs h
none_then K ds (take_element c C xs R ∷ cs) h = none_then K ds cs h

none_once : (cs : List Choice) → has_stop cs ≡ false → StopsOnce cs
none_once [] h = tt
none_once (stop ∷ cs) h = cc
none_once (take_text w xs R ∷ cs) h = none_once cs h
none_once (take_element c C xs R ∷ cs) h = none_once cs h

none_append : (cs ds : List Choice) → has_stop cs ≡ false → has_stop ds ≡ false → has_stop (cs ++ ds) ≡ false
none_append [] ds g h = h
none_append (stop ∷ cs) ds g h = cc
none_append (take_text w xs R ∷ cs) ds g h = none_append cs ds g h
none_append (take_element c C xs R ∷ cs) ds g h = none_append cs ds g h

once_append : (cs ds : List Choice) → StopsOnce cs → has_stop ds ≡ false → StopsOnce (cs ++ ds)
once_append [] ds f h = none_once ds h
once_append (stop ∷ cs) ds f h = none_append cs ds f h
once_append (take_text w xs R ∷ cs) ds f h = once_append cs ds f h
once_append (take_element c C xs R ∷ cs) ds f h = once_append cs ds f h

once_then : (K : Continuation) (ds cs : List Choice) → StopsOnce ds → StopsOnce cs → StopsOnce (then_choices cs K ds)
once_then K ds [] f g = tt
once_then K ds (stop ∷ cs) f g = once_append ds (then_choices cs K ds) f (none_then K ds cs g)
once_then K ds (take_text w xs R ∷ cs) f g = once_then K ds cs f g
once_then K ds (take_element c C xs R ∷ cs) f g = once_then K ds cs f g

takes_alone : (K : Continuation) (cs : List Choice) → has_stop (then_choices cs K []) ≡ false
takes_alone K [] = refl
takes_alone K (stop ∷ cs) = takes_alone K cs
takes_alone K (take_text w xs R ∷ cs) = takes_alone K cs
takes_alone K (take_element c C xs R ∷ cs) = takes_alone K cs

stop_last : (cs : List Choice) (b : Bool) → has_stop cs ≡ false → StopsOnce (cs ++ cond b (stop ∷ []) [])
stop_last [] true h = refl
stop_last [] false h = tt
stop_last (stop ∷ cs) b h = cc
stop_last (take_text w xs R ∷ cs) b h = stop_last cs b h
stop_last (take_element c C xs R ∷ cs) b h = stop_last cs b h

without_none : (cs : List Choice) → has_stop (without_stops cs) ≡ false
without_none [] = refl
without_none (stop ∷ cs) = without_none cs
without_none (take_text w xs R ∷ cs) = without_none cs
without_none (take_element c C xs R ∷ cs) = without_none cs

one_once : (cs : List Choice) → StopsOnce (one_stop cs)
one_once [] = tt
one_once (stop ∷ cs) = without_none cs
one_once (take_text w xs R ∷ cs) = one_once cs
one_once (take_element c C xs R ∷ cs) = one_once cs

once_by : (N : List (List ℕ) → List ℕ → List Choice) → ((xs : List (List ℕ)) (y : List ℕ) → StopsOnce (N xs y)) → (T : Tree) (xs : List (List ℕ)) → StopsOnce (choices_by N xs T)
once_by N names Empty xs = refl
once_by N names Text xs = tt
once_by N names (Words w) xs = tt
once_by N names (Name y) xs = names xs y
once_by N names (Elem c T) xs = tt
once_by N names (Seq T U) xs = once_then (record { marks = xs; part = U } ∷ []) (choices_by N xs U) (choices_by N xs T) (once_by N names U xs) (once_by N names T xs)
once_by N names (Alt T U) xs = one_once (choices_by N xs T ++ choices_by N xs U)
once_by N names (Star T) xs =
    stop_last (then_choices (choices_by N xs T) (record { marks = xs; part = Star T } ∷ []) []) true (takes_alone (record { marks = xs; part = Star T } ∷ []) (choices_by N xs T))
once_by N names (Plus T) xs =
    stop_last (then_choices (choices_by N xs T) (record { marks = xs; part = Star T } ∷ []) []) (has_stop (choices_by N xs T))
    (takes_alone (record { marks = xs; part = Star T } ∷ []) (choices_by N xs T))
once_by N names (Opt T) xs = one_once (choices_by N xs T ++ stop ∷ [])
once_by N names (Val y T) xs = once_by N names T (y ∷ xs)

once_definition : (F : Tree → List Choice) → ((T : Tree) → StopsOnce (F T)) → (o : Option Tree) → StopsOnce (choices_of_definition F o)
once_definition F h None = tt
once_definition F h (Some T) = h T

once_names : (E : Definitions) (n : ℕ) (xs : List (List ℕ)) (y : List ℕ) → StopsOnce (choices_of_name E n xs y)
once_names E zero xs y = tt
once_names E (suc n) xs y =
    once_definition (choices_by (choices_of_name E n) xs) (λ T. once_by (choices_of_name E n) (once_names E n) T xs) (body E y)

once_within : (E : Definitions) (n : ℕ) (K : Continuation) → StopsOnce (choices_within E n K)
once_within E n [] = refl
once_within E n (p ∷ K) =
    once_then K (choices_within E n K) (choices_by (choices_of_name E n) p.marks p.part) (once_within E n K) (once_by (choices_of_name E n) (once_names E n) p.part p.marks)

pub choices_stop_once : ChoicesStopOnce
choices_stop_once E K = once_within E (length E) K
