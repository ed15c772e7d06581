-- Choices are found step by step.
use Rattle.std.proofs.Common.{◌≡◌, ℕ, suc, zero, ◌+◌, ◌≤◌, arith, Bool, true, false, List, [], ◌∷◌, ◌++◌, flat_map, length, Option, Some, None, refl, ap, sym, subst, ◌∙◌, inl, inr}
use Rattle.std.proofs.lemmas.Grind.{flat_map-append}
use Rattle.xd_doc.specs.Document.{empty}
use Rattle.xd_doc.specs.Members.{IsOneOf}
use Rattle.xd_doc.proofs.Lists.{append_none}
use Rattle.xd_syntax.specs.Tree.{Tree, Empty, Text, Words, Name, Elem, Seq, Alt, Star, Plus, Opt, Val, Definitions, body}
use Rattle.xd_syntax.specs.TreeForms.{alt_of}
use Rattle.xd_syntax.specs.Fits.{Fits}
use Rattle.xd_laws.specs.Guarded.{Front, Guarded, Defined}
use Rattle.xd_laws.specs.Guarded as R
use Rattle.xd_laws.proofs.Unfoldings.{Trail, trail_short}
use Rattle.xd_syntax.proofs.Members.{append_left}
use Rattle.xd_pattern_runs.specs.Alike.{Alike}
use Rattle.xd_pattern_runs.specs.Runs.{Piece, Continuation, Choice, stop, take_text, take_element, in_place, then_choices, without_stops, one_stop, has_stop, turn_choices, some_turn_choices, choices_by, choices_of_definition, choices_of_name, choices}
use Rattle.xd_pattern_runs.specs.Steps.{Ahead, ahead, behind_turn, in_turn_of, choices_ahead, marked, body_steps, StepsFind, OptionsFind}
use Rattle.xd_pattern_runs.proofs.Alike.{append_then, alike_refl, alike_same, alike_sym, alike_trans, alike_append, alike_flat, alike_known}
use Rattle.xd_pattern_runs.proofs.Factor.{stop_there, stop_fits_by, stop_fits_name, some_turns}

-- what the names in front give is all that is read

stopless : (K : Continuation) (ds es cs : List Choice) → has_stop cs ≡ false → then_choices cs K ds ≡ then_choices cs K es
stopless K ds es [] h = refl
stopless K ds es (stop ∷ cs) h = cc
stopless K ds es (take_text w xs R ∷ cs) h = ap (λ z. take_text w xs (R ++ K) ∷ z) (stopless K ds es cs h)
stopless K ds es (take_element c C xs R ∷ cs) h = ap (λ z. take_element c C xs (R ++ K) ∷ z) (stopless K ds es cs h)

abbrev Names : Type 0
Names = List (List ℕ) → List ℕ → List Choice

abbrev Stops : Definitions → Names → Type 0
Stops E N = (xs : List (List ℕ)) (y : List ℕ) → IsOneOf stop (N xs y) → Fits E (Name y) empty

reads : (E : Definitions) (N M : Names) → Stops E M → (T : Tree) (xs : List (List ℕ)) → ((y : List ℕ) (zs : List (List ℕ)) → Front E T y → N zs y ≡ M zs y) → choices_by N xs T ≡ choices_by M xs T
reads E N M s Empty xs h = refl
reads E N M s Text xs h = refl
reads E N M s (Words w) xs h = refl
reads E N M s (Name y) xs h = h y xs R.here
reads E N M s (Elem c T) xs h = refl
reads E N M s (Seq T U) xs h =
    ap (λ z. then_choices z (marked xs U ∷ []) (choices_by N xs U)) (reads E N M s T xs (λ y zs k. h y zs (R.seq_first k)))
    ∙ go (has_stop (choices_by M xs T)) refl (λ e. reads E N M s U xs (λ y zs k. h y zs (R.seq_next (stop_fits_by E M s T xs (stop_there (choices_by M xs T) e)) k)))
  where
    go : (b : Bool) → has_stop (choices_by M xs T) ≡ b → (has_stop (choices_by M xs T) ≡ true → choices_by N xs U ≡ choices_by M xs U) →
        then_choices (choices_by M xs T) (marked xs U ∷ []) (choices_by N xs U) ≡ then_choices (choices_by M xs T) (marked xs U ∷ []) (choices_by M xs U)
    go false e k = stopless (marked xs U ∷ []) (choices_by N xs U) (choices_by M xs U) (choices_by M xs T) e
    go true e k = ap (then_choices (choices_by M xs T) (marked xs U ∷ [])) (k e)
reads E N M s (Alt T U) xs h =
    ap one_stop
    (ap (λ z. z ++ choices_by N xs U) (reads E N M s T xs (λ y zs k. h y zs (R.alt_left k)))
    ∙ ap (λ z. choices_by M xs T ++ z) (reads E N M s U xs (λ y zs k. h y zs (R.alt_right k))))
reads E N M s (Star T) xs h = ap (turn_choices (marked xs (Star T))) (reads E N M s T xs (λ y zs k. h y zs (R.star k)))
reads E N M s (Plus T) xs h = ap (some_turn_choices (marked xs (Star T))) (reads E N M s T xs (λ y zs k. h y zs (R.plus k)))
reads E N M s (Opt T) xs h = ap (λ z. one_stop (z ++ stop ∷ [])) (reads E N M s T xs (λ y zs k. h y zs (R.opt k)))
reads E N M s (Val x T) xs h = reads E N M s T (x ∷ xs) (λ y zs k. h y zs (R.val k))

module _ (E : Definitions) (guarded : Guarded E) where
  none_at : (n : ℕ) (xs : List (List ℕ)) (y : List ℕ) → body E y ≡ None → choices_of_name E n xs y ≡ []
  none_at zero xs y e = refl
  none_at (suc n) xs y e = ap (choices_of_definition (choices_by (choices_of_name E n) xs)) e

  some_at : (n : ℕ) (xs : List (List ℕ)) (y : List ℕ) (T : Tree) → body E y ≡ Some T → choices_of_name E (suc n) xs y ≡ choices_by (choices_of_name E n) xs T
  some_at n xs y T e = ap (choices_of_definition (choices_by (choices_of_name E n) xs)) e

  same_at : (n m : ℕ) → n ≤ m → (V : List (List ℕ)) (y : List ℕ) → (Defined E y → Trail E (y ∷ V)) → length E ≤ n + length V →
      (o : Option Tree) → body E y ≡ o → (xs : List (List ℕ)) → choices_of_name E n xs y ≡ choices_of_name E m xs y
  same_at n m h V y t r None e xs = none_at n xs y e ∙ sym (none_at m xs y e)
  same_at zero m h V y t r (Some T) e xs = let k = trail_short E guarded (y ∷ V) (t (T, e)) in absurd (omega arith)
  same_at (suc n) zero h V y t r (Some T) e xs = absurd (omega arith)
  same_at (suc n) (suc m) h V y t r (Some T) e xs =
      some_at n xs y T e
      ∙ reads E (choices_of_name E n) (choices_of_name E m) (stop_fits_name E m) T xs
      (λ z zs f. same_at n m (omega arith) (y ∷ V) z (λ def. (def, (T, e, f), t (T, e))) (omega arith) (body E z) refl zs)
      ∙ sym (some_at m xs y T e)

  -- a name gives what its definition does
  pub named : (xs : List (List ℕ)) (y : List ℕ) (T : Tree) → body E y ≡ Some T → choices_of_name E (length E) xs y ≡ choices_by (choices_of_name E (length E)) xs T
  named xs y T e = same_at (length E) (suc (length E)) (omega arith) [] y (λ def. def) (omega arith) (body E y) refl xs ∙ some_at (length E) xs y T e

-- choices after choices

then_then : (K F : Continuation) (ds es cs : List Choice) → then_choices (then_choices cs K ds) F es ≡ then_choices cs (K ++ F) (then_choices ds F es)
then_then K F ds es [] = refl
then_then K F ds es (stop ∷ cs) = flat_map-append (in_place F es) ds (then_choices cs K ds) ∙ ap (λ z. then_choices ds F es ++ z) (then_then K F ds es cs)
then_then K F ds es (take_text w xs R ∷ cs) =
    ap (λ z. take_text w xs z ∷ then_choices (then_choices cs K ds) F es) (append_then R K F) ∙ ap (λ z. take_text w xs (R ++ (K ++ F)) ∷ z) (then_then K F ds es cs)
then_then K F ds es (take_element c C xs R ∷ cs) =
    ap (λ z. take_element c C xs z ∷ then_choices (then_choices cs K ds) F es) (append_then R K F) ∙ ap (λ z. take_element c C xs (R ++ (K ++ F)) ∷ z) (then_then K F ds es cs)

one_step : (E : Definitions) (a : Ahead) → flat_map (choices_ahead E) (a ∷ []) ≡ choices_ahead E a
one_step E a = append_none (choices_ahead E a)

two_steps : (E : Definitions) (a b : Ahead) → flat_map (choices_ahead E) (a ∷ (b ∷ [])) ≡ choices_ahead E a ++ choices_ahead E b
two_steps E a b = ap (λ z. choices_ahead E a ++ z) (append_none (choices_ahead E b))

abbrev by_parts : Definitions → List (List ℕ) → Tree → List Choice
by_parts E xs T = choices_by (choices_of_name E (length E)) xs T

-- of stops after one that was there already none counts
known_stops : (before cs : List Choice) → IsOneOf stop before → Alike (before ++ without_stops cs) (before ++ cs)
known_stops before [] m = alike_refl (before ++ [])
known_stops before (stop ∷ cs) m =
    alike_trans (known_stops before cs m)
    (alike_trans (alike_append (alike_sym (alike_known before (stop ∷ []) (λ c k. elim k [ inl e ↦ subst (λ d. IsOneOf d before) e m | inr n ↦ absurd n ]))) (alike_refl cs))
    (alike_same (append_then before (stop ∷ []) cs)))
known_stops before (take_text w xs R ∷ cs) m =
    alike_trans (alike_same (sym (append_then before (take_text w xs R ∷ []) (without_stops cs))))
    (alike_trans (known_stops (before ++ take_text w xs R ∷ []) cs (append_left stop before (take_text w xs R ∷ []) m))
    (alike_same (append_then before (take_text w xs R ∷ []) cs)))
known_stops before (take_element c C xs R ∷ cs) m =
    alike_trans (alike_same (sym (append_then before (take_element c C xs R ∷ []) (without_stops cs))))
    (alike_trans (known_stops (before ++ take_element c C xs R ∷ []) cs (append_left stop before (take_element c C xs R ∷ []) m))
    (alike_same (append_then before (take_element c C xs R ∷ []) cs)))

one_stop_alike : (cs : List Choice) → Alike (one_stop cs) cs
one_stop_alike [] = alike_refl []
one_stop_alike (stop ∷ cs) = known_stops (stop ∷ []) cs (inl refl)
one_stop_alike (take_text w xs R ∷ cs) = alike_append (alike_refl (take_text w xs R ∷ [])) (one_stop_alike cs)
one_stop_alike (take_element c C xs R ∷ cs) = alike_append (alike_refl (take_element c C xs R ∷ [])) (one_stop_alike cs)

-- one stop, and then what stands after
stop_then : (F : Continuation) (cs : List Choice) → then_choices (stop ∷ []) F cs ≡ cs
stop_then F cs = append_none cs

in_turn : Option Continuation → List Choice → List Choice
in_turn u cs = flat_map (in_turn_of u) cs

turn_append : (u : Option Continuation) (cs ds : List Choice) → flat_map (in_turn_of u) (cs ++ ds) ≡ flat_map (in_turn_of u) cs ++ flat_map (in_turn_of u) ds
turn_append u cs ds = flat_map-append (in_turn_of u) cs ds

-- the takes of a turn
inner_turn : (again : Piece) (F : Continuation) (u : Option Continuation) (cs : List Choice) →
    flat_map (in_turn_of u) (then_choices (then_choices cs (again ∷ []) []) F []) ≡ flat_map (in_turn_of (Some (again ∷ (F ++ behind_turn u)))) (then_choices cs [] (stop ∷ []))
inner_turn again F u [] = refl
inner_turn again F u (stop ∷ cs) = inner_turn again F u cs
inner_turn again F None (take_text w xs R ∷ cs) =
    ap (λ z. take_text w xs z ∷ flat_map (in_turn_of None) (then_choices (then_choices cs (again ∷ []) []) F []))
    (append_then R (again ∷ []) F ∙ ap (λ z. R ++ (again ∷ z)) (sym (append_none F)) ∙ ap (λ z. z ++ (again ∷ (F ++ []))) (sym (append_none R)))
    ∙ ap (λ z. take_text w xs ((R ++ []) ++ (again ∷ (F ++ []))) ∷ z) (inner_turn again F None cs)
inner_turn again F (Some K) (take_text w xs R ∷ cs) =
    ap (λ z. take_text w xs z ∷ flat_map (in_turn_of (Some K)) (then_choices (then_choices cs (again ∷ []) []) F []))
    (ap (λ z. z ++ K) (append_then R (again ∷ []) F) ∙ append_then R (again ∷ F) K ∙ ap (λ z. z ++ (again ∷ (F ++ K))) (sym (append_none R)))
    ∙ ap (λ z. take_text w xs ((R ++ []) ++ (again ∷ (F ++ K))) ∷ z) (inner_turn again F (Some K) cs)
inner_turn again F None (take_element c C xs R ∷ cs) =
    ap (λ z. take_element c C xs z ∷ flat_map (in_turn_of None) (then_choices (then_choices cs (again ∷ []) []) F []))
    (append_then R (again ∷ []) F ∙ ap (λ z. R ++ (again ∷ z)) (sym (append_none F)) ∙ ap (λ z. z ++ (again ∷ (F ++ []))) (sym (append_none R)))
    ∙ ap (λ z. take_element c C xs ((R ++ []) ++ (again ∷ (F ++ []))) ∷ z) (inner_turn again F None cs)
inner_turn again F (Some K) (take_element c C xs R ∷ cs) =
    ap (λ z. take_element c C xs z ∷ flat_map (in_turn_of (Some K)) (then_choices (then_choices cs (again ∷ []) []) F []))
    (ap (λ z. z ++ K) (append_then R (again ∷ []) F) ∙ append_then R (again ∷ F) K ∙ ap (λ z. z ++ (again ∷ (F ++ K))) (sym (append_none R)))
    ∙ ap (λ z. take_element c C xs ((R ++ []) ++ (again ∷ (F ++ K))) ∷ z) (inner_turn again F (Some K) cs)

-- without a stop nothing comes in its place
all_takes : (K F : Continuation) (es cs : List Choice) → then_choices (then_choices cs K []) F es ≡ then_choices (then_choices cs K []) F []
all_takes K F es cs = then_then K F [] es cs ∙ sym (then_then K F [] [] cs)

pub steps_find : StepsFind
steps_find E guarded xs Empty F u = alike_same (ap (flat_map (in_turn_of u)) (stop_then F (choices E F)) ∙ sym (one_step E (ahead F u)))
steps_find E guarded xs Text F u = alike_same refl
steps_find E guarded xs (Words w) F u = alike_same refl
steps_find E guarded xs (Elem c T) F u = alike_same refl
steps_find E guarded xs (Name y) F u = go (body E y) refl
  where
    go : (o : Option Tree) → body E y ≡ o → Alike (choices_ahead E (ahead (marked xs (Name y) ∷ F) u)) (flat_map (choices_ahead E) (body_steps xs o F u))
    go None e = alike_same (ap (λ z. flat_map (in_turn_of u) (then_choices z F (choices E F))) (none_at E guarded (length E) xs y e))
    go (Some T) e =
        alike_same (ap (λ z. flat_map (in_turn_of u) (then_choices z F (choices E F))) (named E guarded xs y T e) ∙ sym (one_step E (ahead (marked xs T ∷ F) u)))
steps_find E guarded xs (Seq T U) F u =
    alike_same (
    ap (flat_map (in_turn_of u)) (then_then (marked xs U ∷ []) F (by_parts E xs U) (choices E F) (by_parts E xs T))
    ∙ sym (one_step E (ahead (marked xs T ∷ (marked xs U ∷ F)) u)))
steps_find E guarded xs (Alt T U) F u =
    alike_trans
    (alike_flat (in_turn_of u) (alike_flat (in_place F (choices E F)) (one_stop_alike (by_parts E xs T ++ by_parts E xs U))))
    (alike_same (
    ap (flat_map (in_turn_of u)) (flat_map-append (in_place F (choices E F)) (by_parts E xs T) (by_parts E xs U))
    ∙ turn_append u (then_choices (by_parts E xs T) F (choices E F)) (then_choices (by_parts E xs U) F (choices E F))
    ∙ sym (two_steps E (ahead (marked xs T ∷ F) u) (ahead (marked xs U ∷ F) u))))
steps_find E guarded xs (Star T) F u =
    let again : Piece = marked xs (Star T) in
    alike_same (
    ap (flat_map (in_turn_of u))
    (flat_map-append (in_place F (choices E F)) (then_choices (by_parts E xs T) (again ∷ []) []) (stop ∷ [])
    ∙ ap (λ z. then_choices (then_choices (by_parts E xs T) (again ∷ []) []) F (choices E F) ++ z) (stop_then F (choices E F))
    ∙ ap (λ z. z ++ choices E F) (all_takes (again ∷ []) F (choices E F) (by_parts E xs T)))
    ∙ turn_append u (then_choices (then_choices (by_parts E xs T) (again ∷ []) []) F []) (choices E F)
    ∙ ap (λ z. z ++ choices_ahead E (ahead F u)) (inner_turn again F u (by_parts E xs T))
    ∙ sym (two_steps E (ahead (marked xs T ∷ []) (Some (again ∷ (F ++ behind_turn u)))) (ahead F u)))
steps_find E guarded xs (Plus T) F u =
    let again : Piece = marked xs (Star T) in
    alike_trans
    (alike_flat (in_turn_of u) (alike_flat (in_place F (choices E F)) (alike_sym (some_turns again (by_parts E xs T)))))
    (alike_same (
    ap (flat_map (in_turn_of u)) (then_then (again ∷ []) F (turn_choices again (by_parts E xs T)) (choices E F) (by_parts E xs T))
    ∙ sym (one_step E (ahead (marked xs T ∷ (again ∷ F)) u))))
steps_find E guarded xs (Opt T) F u =
    alike_trans
    (alike_flat (in_turn_of u) (alike_flat (in_place F (choices E F)) (one_stop_alike (by_parts E xs T ++ stop ∷ []))))
    (alike_same (
    ap (flat_map (in_turn_of u))
    (flat_map-append (in_place F (choices E F)) (by_parts E xs T) (stop ∷ []) ∙ ap (λ z. then_choices (by_parts E xs T) F (choices E F) ++ z) (stop_then F (choices E F)))
    ∙ turn_append u (then_choices (by_parts E xs T) F (choices E F)) (choices E F)
    ∙ sym (two_steps E (ahead (marked xs T ∷ F) u) (ahead F u))))
steps_find E guarded xs (Val y T) F u = alike_same (sym (one_step E (ahead (marked (y ∷ xs) T ∷ F) u)))

pub options_find : OptionsFind
options_find E guarded xs T [] F u = alike_same (sym (append_none (choices_ahead E (ahead (marked xs T ∷ F) u))))
options_find E guarded xs T (U ∷ Us) F u =
    alike_trans (steps_find E guarded xs (Alt T (alt_of (U ∷ Us))) F u)
    (alike_append (alike_refl (choices_ahead E (ahead (marked xs T ∷ F) u)))
    (alike_trans (alike_same (append_none (choices_ahead E (ahead (marked xs (alt_of (U ∷ Us)) ∷ F) u)))) (options_find E guarded xs U Us F u)))
