-- A variable is ahead of a continuation, open in it, or clear of it; and so are the runs from
-- there.
use Rattle.std.proofs.Common.{◌≡◌, ℕ, suc, zero, Bool, true, false, cond, ◌||◌, ◌⊎◌, List, [], ◌∷◌, ◌++◌, map, flat_map, length, Option, Some, None, refl, ap, subst, ◌∙◌, inl, inr}
use Rattle.std.specs.Str.{bytes_eq}
use Rattle.std.proofs.lemmas.Bool.{or_parts}
use Rattle.xd_doc.specs.Document.{Document, empty, text, element}
use Rattle.xd_doc.specs.Classes.{LabelClass, class_has, TextClass}
use Rattle.xd_doc.specs.Runs.{at_end, at_text, at_element, IsFree, IsBlock, IsTogether}
use Rattle.xd_doc.specs.Members.{IsOneOf}
use Rattle.xd_syntax.specs.Words.{has_word}
use Rattle.xd_syntax.specs.Tree.{Tree, Empty, Text, Words, Name, Elem, Seq, Alt, Star, Plus, Opt, Val, Definitions, body, occurrences}
use Rattle.xd_meaning.specs.Heads.{all_texts}
use Rattle.xd_syntax.proofs.Members.{mem_append, mem_map, mem_flat, cond_true}
use Rattle.xd_laws.proofs.Unfoldings.{same_word_eq}
use Rattle.xd_pattern_runs.specs.Runs.{Piece, Continuation, Choice, stop, take_text, take_element, start, in_place, then_choices, one_stop, has_stop, choices_by, choices_of_definition, choices_of_name, choices_within, choices, MarkedRun, texts_of, elements_of, text_runs, element_runs, runs, trace}
use Rattle.xd_pattern_runs.specs.Linear.{BindNothing, IsLinear}
use Rattle.xd_pattern_runs.specs.Finite.{IsReached, from_start, behind_text, behind_element, in_element, IsUnmarked, MarksAreVariables}
use Rattle.xd_pattern_runs.specs.Together.{RunsKeepTogether}
use Rattle.xd_pattern_runs.proofs.Bindings.{in_neither}
use Rattle.xd_pattern_runs.proofs.Factor.{piece, one_stop_in}
use Rattle.xd_pattern_runs.proofs.RunsMean.{by_text, by_element, texts_flat, elements_flat}
use Rattle.xd_pattern_runs.proofs.ClausesLaw.{no_word}

-- choices that all have a property

abbrev pub AllHave : (Choice → Type 0) → List Choice → Type 0
AllHave Q cs = (c : Choice) → IsOneOf c cs → Q c

pub have_one : (Q : Choice → Type 0) (d : Choice) → Q d → AllHave Q (d ∷ [])
have_one Q d q c (inl e) = subst Q e q
have_one Q d q c (inr m) = absurd m

pub have_stop : (Q : Choice → Type 0) → Q stop → (b : Bool) → AllHave Q (cond b (stop ∷ []) [])
have_stop Q q true = have_one Q stop q
have_stop Q q false = λ c m. absurd m

pub have_append : (Q : Choice → Type 0) (cs ds : List Choice) → AllHave Q cs → AllHave Q ds → AllHave Q (cs ++ ds)
have_append Q cs ds f g c m = elim (mem_append c cs ds m) [ inl a ↦ f c a | inr b ↦ g c b ]

pub have_one_stop : (Q : Choice → Type 0) (cs : List Choice) → AllHave Q cs → AllHave Q (one_stop cs)
have_one_stop Q cs f c m = f c (one_stop_in c cs m)

pub have_then : (Q Q' : Choice → Type 0) (K : Continuation) (cs bs : List Choice) → ((b : Choice) → Q b → AllHave Q' (in_place K cs b)) → AllHave Q bs → AllHave Q' (then_choices bs K cs)
have_then Q Q' K cs bs f h c m = let r = mem_flat (in_place K cs) c bs m in f r.0 (h r.0 r.1) c r.2

-- the variable isn't in the pattern, and is among the words or isn't: inside of a binder of it, or
-- outside
abbrev IsPlaced : Bool → List ℕ → List (List ℕ) → Tree → Type 0
IsPlaced inside x xs T = (has_word xs x ≡ inside) × (has_word (occurrences T) x ≡ false)

abbrev ArePlaced : Bool → List ℕ → Continuation → Type 0
ArePlaced inside x [] = Unit {0}
ArePlaced inside x (p ∷ K) = IsPlaced inside x p.marks p.part × ArePlaced inside x K

abbrev IsOutside : List ℕ → List (List ℕ) → Tree → Type 0
IsOutside x xs T = IsPlaced false x xs T

abbrev IsInside : List ℕ → List (List ℕ) → Tree → Type 0
IsInside x xs T = IsPlaced true x xs T

abbrev IsClear : List ℕ → Continuation → Type 0
IsClear x K = ArePlaced false x K

abbrev AllInside : List ℕ → Continuation → Type 0
AllInside x K = ArePlaced true x K

abbrev IsOpen : List ℕ → Continuation → Type 0
IsOpen x [] = Unit {0}
IsOpen x (p ∷ K) = (IsInside x p.marks p.part × IsOpen x K) ⊎ IsClear x (p ∷ K)

abbrev IsBinding : List ℕ → Piece → Type 0
IsBinding x p = (has_word p.marks x ≡ false) × IsLinear p.part

abbrev IsAhead : List ℕ → Continuation → Type 0
IsAhead x [] = Unit {0}
IsAhead x (p ∷ K) = (IsOutside x p.marks p.part × IsAhead x K) ⊎ ((IsBinding x p × IsClear x K) ⊎ IsOpen x (p ∷ K))

start_clear : (x : List ℕ) (T : Tree) → has_word (occurrences T) x ≡ false → IsClear x (start T)
start_clear x T h = ((refl, h), tt)

clear_open : (x : List ℕ) (K : Continuation) → IsClear x K → IsOpen x K
clear_open x [] f = tt
clear_open x (p ∷ K) f = inr f

open_ahead : (x : List ℕ) (K : Continuation) → IsOpen x K → IsAhead x K
open_ahead x [] f = tt
open_ahead x (p ∷ K) f = inr (inr f)

clear_ahead : (x : List ℕ) (K : Continuation) → IsClear x K → IsAhead x K
clear_ahead x K f = open_ahead x K (clear_open x K f)

inside_open : (x : List ℕ) (K L : Continuation) → AllInside x K → IsOpen x L → IsOpen x (K ++ L)
inside_open x [] L f g = g
inside_open x (p ∷ K) L f g = inl (f.0, inside_open x K L f.1 g)

inside_is_open : (x : List ℕ) (K : Continuation) → AllInside x K → IsOpen x K
inside_is_open x [] f = tt
inside_is_open x (p ∷ K) f = inl (f.0, inside_is_open x K f.1)

placed_append : (b : Bool) (x : List ℕ) (K L : Continuation) → ArePlaced b x K → ArePlaced b x L → ArePlaced b x (K ++ L)
placed_append b x [] L f g = g
placed_append b x (p ∷ K) L f g = (f.0, placed_append b x K L f.1 g)

open_append : (x : List ℕ) (K L : Continuation) → IsOpen x K → IsClear x L → IsOpen x (K ++ L)
open_append x [] L f g = clear_open x L g
open_append x (p ∷ K) L (inl f) g = inl (f.0, open_append x K L f.1 g)
open_append x (p ∷ K) L (inr f) g = inr (placed_append false x (p ∷ K) L f g)

ahead_append : (x : List ℕ) (K L : Continuation) → IsAhead x K → IsClear x L → IsAhead x (K ++ L)
ahead_append x [] L f g = clear_ahead x L g
ahead_append x (p ∷ K) L (inl f) g = inl (f.0, ahead_append x K L f.1 g)
ahead_append x (p ∷ K) L (inr (inl f)) g = inr (inl (f.0, placed_append false x K L f.1 g))
ahead_append x (p ∷ K) L (inr (inr f)) g = inr (inr (open_append x (p ∷ K) L f g))

clear_then : (x : List ℕ) (K L : Continuation) → IsClear x K → IsAhead x L → IsAhead x (K ++ L)
clear_then x [] L f g = g
clear_then x (p ∷ K) L f g = inl (f.0, clear_then x K L f.1 g)

-- choices by which the variable stays clear, stays open, or stays ahead

abbrev StayPlaced : Bool → List ℕ → Choice → Type 0
StayPlaced b x stop = Unit {0}
StayPlaced b x (take_text w xs R) = (has_word xs x ≡ b) × ArePlaced b x R
StayPlaced b x (take_element c C xs R) = (has_word xs x ≡ b) × IsClear x C × ArePlaced b x R

abbrev StayClear : List ℕ → Choice → Type 0
StayClear x c = StayPlaced false x c

abbrev StayInside : List ℕ → Choice → Type 0
StayInside x c = StayPlaced true x c

abbrev StayOpen : List ℕ → Choice → Type 0
StayOpen x stop = Unit {0}
StayOpen x (take_text w xs R) = ((has_word xs x ≡ true) × IsOpen x R) ⊎ ((has_word xs x ≡ false) × IsClear x R)
StayOpen x (take_element c C xs R) = ((has_word xs x ≡ true) × IsClear x C × IsOpen x R) ⊎ ((has_word xs x ≡ false) × IsClear x C × IsClear x R)

abbrev StayAhead : List ℕ → Choice → Type 0
StayAhead x stop = Unit {0}
StayAhead x (take_text w xs R) = ((has_word xs x ≡ false) × IsAhead x R) ⊎ ((has_word xs x ≡ true) × IsOpen x R)
StayAhead x (take_element c C xs R) =
    ((has_word xs x ≡ false) × IsClear x C × IsAhead x R)
    ⊎ (((has_word xs x ≡ true) × IsClear x C × IsOpen x R) ⊎ ((has_word xs x ≡ false) × IsAhead x C × IsClear x R))

clear_stays : (x : List ℕ) (c : Choice) → StayClear x c → StayOpen x c
clear_stays x stop q = tt
clear_stays x (take_text w xs R) q = inr q
clear_stays x (take_element c C xs R) q = inr q

open_stays : (x : List ℕ) (c : Choice) → StayOpen x c → StayAhead x c
open_stays x stop q = tt
open_stays x (take_text w xs R) (inl q) = inr q
open_stays x (take_text w xs R) (inr q) = inl (q.0, clear_ahead x R q.1)
open_stays x (take_element c C xs R) (inl q) = inr (inl q)
open_stays x (take_element c C xs R) (inr q) = inl (q.0, q.1, clear_ahead x R q.2)

inside_stays : (x : List ℕ) (c : Choice) → StayInside x c → StayAhead x c
inside_stays x stop q = tt
inside_stays x (take_text w xs R) q = inr (q.0, inside_is_open x R q.1)
inside_stays x (take_element c C xs R) q = inr (inl (q.0, q.1, inside_is_open x R q.2))

-- pieces and choices after a choice

placed_behind : (b : Bool) (x : List ℕ) (K : Continuation) (cs : List Choice) → ArePlaced b x K → AllHave (StayPlaced b x) cs → (d : Choice) → StayPlaced b x d → AllHave (StayPlaced b x) (in_place K cs d)
placed_behind b x K cs f g stop q = g
placed_behind b x K cs f g (take_text w xs R) q = have_one (StayPlaced b x) (take_text w xs (R ++ K)) (q.0, placed_append b x R K q.1 f)
placed_behind b x K cs f g (take_element c C xs R) q = have_one (StayPlaced b x) (take_element c C xs (R ++ K)) (q.0, q.1, placed_append b x R K q.2 f)

-- inside, with something open after
opens_place : (x : List ℕ) (K : Continuation) (cs : List Choice) → IsOpen x K → AllHave (StayOpen x) cs → (b : Choice) → StayInside x b → AllHave (StayOpen x) (in_place K cs b)
opens_place x K cs f g stop q = g
opens_place x K cs f g (take_text w xs R) q = have_one (StayOpen x) (take_text w xs (R ++ K)) (inl (q.0, inside_open x R K q.1 f))
opens_place x K cs f g (take_element c C xs R) q = have_one (StayOpen x) (take_element c C xs (R ++ K)) (inl (q.0, q.1, inside_open x R K q.2 f))

-- clear, with something ahead after
before_place : (x : List ℕ) (K : Continuation) (cs : List Choice) → IsAhead x K → AllHave (StayAhead x) cs → (b : Choice) → StayClear x b → AllHave (StayAhead x) (in_place K cs b)
before_place x K cs f g stop q = g
before_place x K cs f g (take_text w xs R) q = have_one (StayAhead x) (take_text w xs (R ++ K)) (inl (q.0, clear_then x R K q.1 f))
before_place x K cs f g (take_element c C xs R) q = have_one (StayAhead x) (take_element c C xs (R ++ K)) (inl (q.0, q.1, clear_then x R K q.2 f))

-- ahead, with nothing after
ahead_place : (x : List ℕ) (K : Continuation) (cs : List Choice) → IsClear x K → AllHave (StayAhead x) cs → (b : Choice) → StayAhead x b → AllHave (StayAhead x) (in_place K cs b)
ahead_place x K cs f g stop q = g
ahead_place x K cs f g (take_text w xs R) (inl q) = have_one (StayAhead x) (take_text w xs (R ++ K)) (inl (q.0, ahead_append x R K q.1 f))
ahead_place x K cs f g (take_text w xs R) (inr q) = have_one (StayAhead x) (take_text w xs (R ++ K)) (inr (q.0, open_append x R K q.1 f))
ahead_place x K cs f g (take_element c C xs R) (inl q) = have_one (StayAhead x) (take_element c C xs (R ++ K)) (inl (q.0, q.1, ahead_append x R K q.2 f))
ahead_place x K cs f g (take_element c C xs R) (inr (inl q)) = have_one (StayAhead x) (take_element c C xs (R ++ K)) (inr (inl (q.0, q.1, open_append x R K q.2 f)))
ahead_place x K cs f g (take_element c C xs R) (inr (inr q)) = have_one (StayAhead x) (take_element c C xs (R ++ K)) (inr (inr (q.0, q.1, placed_append false x R K q.2 f)))

-- the choices of a part, where the variable is outside of it, or inside
module _ (N : List (List ℕ) → List ℕ → List Choice) (b : Bool) (x : List ℕ) (named : (xs : List (List ℕ)) (y : List ℕ) → has_word xs x ≡ b → AllHave (StayPlaced b x) (N xs y)) where
  placed_turns : (xs : List (List ℕ)) (T : Tree) (cs : List Choice) → IsPlaced b x xs T → AllHave (StayPlaced b x) cs → AllHave (StayPlaced b x) (then_choices cs (piece xs (Star T) ∷ []) [])
  placed_turns xs T cs f g =
      have_then (StayPlaced b x) (StayPlaced b x) (piece xs (Star T) ∷ []) [] cs (placed_behind b x (piece xs (Star T) ∷ []) [] (f, tt) (λ c m. absurd m)) g

  placed_by : (T : Tree) (xs : List (List ℕ)) → IsPlaced b x xs T → AllHave (StayPlaced b x) (choices_by N xs T)
  placed_by Empty xs f = have_one (StayPlaced b x) stop tt
  placed_by Text xs f = have_one (StayPlaced b x) (take_text all_texts xs []) (f.0, tt)
  placed_by (Words w) xs f = have_one (StayPlaced b x) (take_text w xs []) (f.0, tt)
  placed_by (Name y) xs f = named xs y f.0
  placed_by (Elem c T) xs f = have_one (StayPlaced b x) (take_element c (start T) xs []) (f.0, start_clear x T f.1, tt)
  placed_by (Seq T U) xs f =
      let o = in_neither (occurrences T) (occurrences U) x f.1 in
      have_then (StayPlaced b x) (StayPlaced b x) (piece xs U ∷ []) (choices_by N xs U) (choices_by N xs T)
      (placed_behind b x (piece xs U ∷ []) (choices_by N xs U) ((f.0, o.1), tt) (placed_by U xs (f.0, o.1))) (placed_by T xs (f.0, o.0))
  placed_by (Alt T U) xs f =
      let o = in_neither (occurrences T) (occurrences U) x f.1 in
      have_one_stop (StayPlaced b x) (choices_by N xs T ++ choices_by N xs U)
      (have_append (StayPlaced b x) (choices_by N xs T) (choices_by N xs U) (placed_by T xs (f.0, o.0)) (placed_by U xs (f.0, o.1)))
  placed_by (Star T) xs f =
      have_append (StayPlaced b x) (then_choices (choices_by N xs T) (piece xs (Star T) ∷ []) []) (stop ∷ []) (placed_turns xs T (choices_by N xs T) f (placed_by T xs f)) (have_one (StayPlaced b x) stop tt)
  placed_by (Plus T) xs f =
      have_append (StayPlaced b x) (then_choices (choices_by N xs T) (piece xs (Star T) ∷ []) []) (cond (has_stop (choices_by N xs T)) (stop ∷ []) []) (placed_turns xs T (choices_by N xs T) f (placed_by T xs f))
      (have_stop (StayPlaced b x) tt (has_stop (choices_by N xs T)))
  placed_by (Opt T) xs f =
      have_one_stop (StayPlaced b x) (choices_by N xs T ++ stop ∷ [])
      (have_append (StayPlaced b x) (choices_by N xs T) (stop ∷ []) (placed_by T xs f) (have_one (StayPlaced b x) stop tt))
  placed_by (Val y T) xs f =
      let o = or_parts (bytes_eq y x) (has_word (occurrences T) x) f.1 in
      placed_by T (y ∷ xs) (ap (λ b. b || has_word xs x) o.0 ∙ f.0, o.1)

-- the choices of a part that has the variable, in no binder of it
module _ (N : List (List ℕ) → List ℕ → List Choice) (x : List ℕ) (named : (b : Bool) (xs : List (List ℕ)) (y : List ℕ) → has_word xs x ≡ b → AllHave (StayPlaced b x) (N xs y)) where
  clear_all : (xs : List (List ℕ)) (T : Tree) → has_word xs x ≡ false → occurrences T ≡ [] → AllHave (StayAhead x) (choices_by N xs T)
  clear_all xs T h e c m = open_stays x c (clear_stays x c (placed_by N false x (named false) T xs (h, no_word (occurrences T) x e) c m))

  -- a sequence, by the part that has the variable
  ahead_seq : (T U : Tree) (xs : List (List ℕ)) → has_word xs x ≡ false → IsLinear U → (has_word (occurrences T) x ≡ true → has_word (occurrences U) x ≡ false) →
      AllHave (StayAhead x) (choices_by N xs T) → AllHave (StayAhead x) (choices_by N xs U) → (t : Bool) → has_word (occurrences T) x ≡ t →
      AllHave (StayAhead x) (choices_by N xs (Seq T U))
  ahead_seq T U xs h l apart f g true e =
      have_then (StayAhead x) (StayAhead x) (piece xs U ∷ []) (choices_by N xs U) (choices_by N xs T)
      (ahead_place x (piece xs U ∷ []) (choices_by N xs U) ((h, apart e), tt) g) f
  ahead_seq T U xs h l apart f g false e =
      have_then (StayClear x) (StayAhead x) (piece xs U ∷ []) (choices_by N xs U) (choices_by N xs T)
      (before_place x (piece xs U ∷ []) (choices_by N xs U) (inr (inl ((h, l), tt))) g) (placed_by N false x (named false) T xs (h, e))

  ahead_val : (y : List ℕ) (T : Tree) (xs : List (List ℕ)) → has_word xs x ≡ false → has_word (occurrences T) y ≡ false →
      (has_word (y ∷ xs) x ≡ false → AllHave (StayAhead x) (choices_by N (y ∷ xs) T)) → (t : Bool) → bytes_eq y x ≡ t → AllHave (StayAhead x) (choices_by N (y ∷ xs) T)
  ahead_val y T xs h l f true e = λ c m.
      inside_stays x c
      (placed_by N true x (named true) T (y ∷ xs) (ap (λ b. b || has_word xs x) e, subst (λ z. has_word (occurrences T) z ≡ false) (same_word_eq y x e) l) c m)
  ahead_val y T xs h l f false e = f (ap (λ b. b || has_word xs x) e ∙ h)

  -- the choices of a linear part that is in no binder of the variable
  ahead_by : (T : Tree) (xs : List (List ℕ)) → has_word xs x ≡ false → IsLinear T → AllHave (StayAhead x) (choices_by N xs T)
  ahead_by Empty xs h l = clear_all xs Empty h refl
  ahead_by Text xs h l = clear_all xs Text h refl
  ahead_by (Words w) xs h l = clear_all xs (Words w) h refl
  ahead_by (Name y) xs h l = clear_all xs (Name y) h refl
  ahead_by (Elem c T) xs h l = have_one (StayAhead x) (take_element c (start T) xs []) (inr (inr (h, inr (inl ((refl, l), tt)), tt)))
  ahead_by (Seq T U) xs h l = ahead_seq T U xs h l.1 (l.2 x) (ahead_by T xs h l.0) (ahead_by U xs h l.1) (has_word (occurrences T) x) refl
  ahead_by (Alt T U) xs h l =
      have_one_stop (StayAhead x) (choices_by N xs T ++ choices_by N xs U)
      (have_append (StayAhead x) (choices_by N xs T) (choices_by N xs U) (ahead_by T xs h l.0) (ahead_by U xs h l.1))
  ahead_by (Star T) xs h l = clear_all xs (Star T) h l
  ahead_by (Plus T) xs h l = clear_all xs (Plus T) h l
  ahead_by (Opt T) xs h l = clear_all xs (Opt T) h l
  ahead_by (Val y T) xs h l = ahead_val y T xs h l.0 (λ k. ahead_by T (y ∷ xs) k l.1) (bytes_eq y x) refl

pub of_definition : (Q : Choice → Type 0) (G : Tree → List Choice) (o : Option Tree) → ((T : Tree) → o ≡ Some T → AllHave Q (G T)) → AllHave Q (choices_of_definition G o)
of_definition Q G None h = λ c m. absurd m
of_definition Q G (Some T) h = h T refl

-- names bind nothing
names_placed : (E : Definitions) → BindNothing E → (x : List ℕ) (n : ℕ) (b : Bool) (xs : List (List ℕ)) (y : List ℕ) → has_word xs x ≡ b → AllHave (StayPlaced b x) (choices_of_name E n xs y)
names_placed E none x zero b xs y h = λ c m. absurd m
names_placed E none x (suc n) b xs y h =
    of_definition (StayPlaced b x) (choices_by (choices_of_name E n) xs) (body E y) (λ T e.
    placed_by (choices_of_name E n) b x (λ zs z. names_placed E none x n b zs z) T xs (h, no_word (occurrences T) x (none y T e)))

-- the choices of a continuation

module _ (E : Definitions) (none : BindNothing E) (x : List ℕ) (n : ℕ) where
  part_placed : (b : Bool) (p : Piece) → IsPlaced b x p.marks p.part → AllHave (StayPlaced b x) (choices_by (choices_of_name E n) p.marks p.part)
  part_placed b p f = placed_by (choices_of_name E n) b x (names_placed E none x n b) p.part p.marks f

  clear_within : (K : Continuation) → IsClear x K → AllHave (StayClear x) (choices_within E n K)
  clear_within [] f = have_one (StayClear x) stop tt
  clear_within (p ∷ K) f =
      have_then (StayClear x) (StayClear x) K (choices_within E n K) (choices_by (choices_of_name E n) p.marks p.part)
      (placed_behind false x K (choices_within E n K) f.1 (clear_within K f.1)) (part_placed false p f.0)

  open_within : (K : Continuation) → IsOpen x K → AllHave (StayOpen x) (choices_within E n K)
  open_within [] f = have_one (StayOpen x) stop tt
  open_within (p ∷ K) (inl f) =
      have_then (StayInside x) (StayOpen x) K (choices_within E n K) (choices_by (choices_of_name E n) p.marks p.part)
      (opens_place x K (choices_within E n K) f.1 (open_within K f.1)) (part_placed true p f.0)
  open_within (p ∷ K) (inr f) = λ c m. clear_stays x c (clear_within (p ∷ K) f c m)

  ahead_within : (K : Continuation) → IsAhead x K → AllHave (StayAhead x) (choices_within E n K)
  ahead_within [] f = have_one (StayAhead x) stop tt
  ahead_within (p ∷ K) (inl f) =
      have_then (StayClear x) (StayAhead x) K (choices_within E n K) (choices_by (choices_of_name E n) p.marks p.part)
      (before_place x K (choices_within E n K) f.1 (ahead_within K f.1)) (part_placed false p f.0)
  ahead_within (p ∷ K) (inr (inl f)) =
      have_then (StayAhead x) (StayAhead x) K (choices_within E n K) (choices_by (choices_of_name E n) p.marks p.part)
      (ahead_place x K (choices_within E n K) f.1 (λ c m. open_stays x c (clear_stays x c (clear_within K f.1 c m))))
      (ahead_by (choices_of_name E n) x (names_placed E none x n) p.part p.marks (f.0).0 (f.0).1)
  ahead_within (p ∷ K) (inr (inr f)) = λ c m. open_stays x c (open_within (p ∷ K) f c m)

-- the runs, and what they give the variable

abbrev FreeOf : List ℕ → MarkedRun → Type 0
FreeOf x r = IsFree (trace x r)

abbrev BlockOf : List ℕ → MarkedRun → Type 0
BlockOf x r = IsBlock (trace x r)

abbrev TogetherOf : List ℕ → MarkedRun → Type 0
TogetherOf x r = IsTogether (trace x r)

abbrev AllRuns : (MarkedRun → Type 0) → List MarkedRun → Type 0
AllRuns Q rs = (r : MarkedRun) → IsOneOf r rs → Q r

run_one : (Q : MarkedRun → Type 0) (s r : MarkedRun) → Q s → IsOneOf r (s ∷ []) → Q r
run_one Q s r q (inl e) = subst Q e q
run_one Q s r q (inr m) = absurd m

-- the runs by a choice over a text, from those over the rest
text_all : (Q : MarkedRun → Type 0) (R : Continuation → List MarkedRun) (t : List ℕ) (c : Choice) →
    ((w : TextClass) (xs : List (List ℕ)) (K : Continuation) → c ≡ take_text w xs K → (r : MarkedRun) → IsOneOf r (R K) → Q (at_text xs r)) → AllRuns Q (by_text (text_runs R t) c)
text_all Q R t stop h r m = absurd m
text_all Q R t (take_element c C xs K) h r m = absurd m
text_all Q R t (take_text w xs K) h r m =
    let a = cond_true (class_has w t) r (map (at_text xs) (R K)) m in
    let q = mem_map (at_text xs) r (R K) a.1 in subst Q q.2 (h w xs K refl q.0 q.1)

element_all : (Q : MarkedRun → Type 0) (I R : Continuation → List MarkedRun) (l : List ℕ) (c : Choice) →
    ((k : LabelClass) (C : Continuation) (xs : List (List ℕ)) (K : Continuation) → c ≡ take_element k C xs K → (q r : MarkedRun) → IsOneOf q (I C) → IsOneOf r (R K) → Q (at_element xs q r)) →
    AllRuns Q (by_element (element_runs I R l) c)
element_all Q I R l stop h r m = absurd m
element_all Q I R l (take_text w xs K) h r m = absurd m
element_all Q I R l (take_element k C xs K) h r m =
    let a = cond_true (class_has k l) r _ m in
    let p = mem_flat (λ q. map (at_element xs q) (R K)) r (I C) a.1 in
    let q = mem_map (at_element xs p.0) r (R K) p.2 in
    subst Q q.2 (h k C xs K refl p.0 q.0 p.1 q.1)

text_choice : (E : Definitions) (t : List ℕ) (d : Document) (K : Continuation) (r : MarkedRun) → IsOneOf r (flat_map (text_runs (runs E d) t) (texts_of (choices E K))) →
    (c : Choice) × IsOneOf c (choices E K) × IsOneOf r (by_text (text_runs (runs E d) t) c)
text_choice E t d K r m = mem_flat (by_text (text_runs (runs E d) t)) r (choices E K) (subst (IsOneOf r) (texts_flat (text_runs (runs E d) t) (choices E K)) m)

element_choice : (E : Definitions) (l : List ℕ) (k d : Document) (K : Continuation) (r : MarkedRun) → IsOneOf r (flat_map (element_runs (runs E k) (runs E d) l) (elements_of (choices E K))) →
    (c : Choice) × IsOneOf c (choices E K) × IsOneOf r (by_element (element_runs (runs E k) (runs E d) l) c)
element_choice E l k d K r m =
    mem_flat (by_element (element_runs (runs E k) (runs E d) l)) r (choices E K) (subst (IsOneOf r) (elements_flat (element_runs (runs E k) (runs E d) l) (choices E K)) m)

end_all : (Q : MarkedRun → Type 0) → Q at_end → (b : Bool) → AllRuns Q (cond b (at_end ∷ []) [])
end_all Q q b r m = let a = cond_true b r (at_end ∷ []) m in run_one Q at_end r q a.1

module _ (E : Definitions) (none : BindNothing E) (x : List ℕ) where
  stay_clear : (K : Continuation) → IsClear x K → AllHave (StayClear x) (choices E K)
  stay_clear K f = clear_within E none x (length E) K f

  free_runs : (d : Document) (K : Continuation) → IsClear x K → AllRuns (FreeOf x) (runs E d K)
  free_runs empty K f = end_all (FreeOf x) tt (has_stop (choices E K))
  free_runs (text s d) K f = λ r m.
      let p = text_choice E s d K r m in
      text_all (FreeOf x) (runs E d) s p.0 (λ u xs L e q n. let w : StayClear x (take_text u xs L) = subst (StayClear x) e (stay_clear K f p.0 p.1) in
      (w.0, free_runs d L w.1 q n)) r p.2
  free_runs (element l k d) K f = λ r m.
      let p = element_choice E l k d K r m in
      element_all (FreeOf x) (runs E k) (runs E d) l p.0 (λ c C xs L e q o n i. let w : StayClear x (take_element c C xs L) = subst (StayClear x) e (stay_clear K f p.0 p.1) in
      (w.0, free_runs k C w.1 q n, free_runs d L w.2 o i)) r p.2

  block_by_text : (d : Document) → ((K : Continuation) → IsOpen x K → AllRuns (BlockOf x) (runs E d K)) → (u : TextClass) (xs : List (List ℕ)) (L : Continuation) → StayOpen x (take_text u xs L) →
      (q : MarkedRun) → IsOneOf q (runs E d L) → BlockOf x (at_text xs q)
  block_by_text d h u xs L (inl w) q n = inl (w.0, h L w.1 q n)
  block_by_text d h u xs L (inr w) q n = inr (w.0, free_runs d L w.1 q n)

  block_by_element : (k d : Document) → ((K : Continuation) → IsOpen x K → AllRuns (BlockOf x) (runs E d K)) → (c : LabelClass) (C : Continuation) (xs : List (List ℕ)) (L : Continuation) →
      StayOpen x (take_element c C xs L) → (q o : MarkedRun) → IsOneOf q (runs E k C) → IsOneOf o (runs E d L) → BlockOf x (at_element xs q o)
  block_by_element k d h c C xs L (inl w) q o n i = inl (w.0, free_runs k C w.1 q n, h L w.2 o i)
  block_by_element k d h c C xs L (inr w) q o n i = inr (w.0, free_runs k C w.1 q n, free_runs d L w.2 o i)

  block_runs : (d : Document) (K : Continuation) → IsOpen x K → AllRuns (BlockOf x) (runs E d K)
  block_runs empty K f = end_all (BlockOf x) tt (has_stop (choices E K))
  block_runs (text s d) K f = λ r m.
      let p = text_choice E s d K r m in
      text_all (BlockOf x) (runs E d) s p.0 (λ u xs L e q n.
      block_by_text d (λ M g. block_runs d M g) u xs L (subst (StayOpen x) e (open_within E none x (length E) K f p.0 p.1)) q n) r p.2
  block_runs (element l k d) K f = λ r m.
      let p = element_choice E l k d K r m in
      element_all (BlockOf x) (runs E k) (runs E d) l p.0 (λ c C xs L e q o n i.
      block_by_element k d (λ M g. block_runs d M g) c C xs L (subst (StayOpen x) e (open_within E none x (length E) K f p.0 p.1)) q o n i) r p.2

  together_by_text : (d : Document) → ((K : Continuation) → IsAhead x K → AllRuns (TogetherOf x) (runs E d K)) → (u : TextClass) (xs : List (List ℕ)) (L : Continuation) → StayAhead x (take_text u xs L) →
      (q : MarkedRun) → IsOneOf q (runs E d L) → TogetherOf x (at_text xs q)
  together_by_text d h u xs L (inl w) q n = inr (w.0, h L w.1 q n)
  together_by_text d h u xs L (inr w) q n = inl (w.0, block_runs d L w.1 q n)

  together_by_element : (k d : Document) → ((K : Continuation) → IsAhead x K → AllRuns (TogetherOf x) (runs E k K)) → ((K : Continuation) → IsAhead x K → AllRuns (TogetherOf x) (runs E d K)) →
      (c : LabelClass) (C : Continuation) (xs : List (List ℕ)) (L : Continuation) →
      StayAhead x (take_element c C xs L) → (q o : MarkedRun) → IsOneOf q (runs E k C) → IsOneOf o (runs E d L) → TogetherOf x (at_element xs q o)
  together_by_element k d g h c C xs L (inl w) q o n i = inr (w.0, inl (free_runs k C w.1 q n, h L w.2 o i))
  together_by_element k d g h c C xs L (inr (inl w)) q o n i = inl (w.0, free_runs k C w.1 q n, block_runs d L w.2 o i)
  together_by_element k d g h c C xs L (inr (inr w)) q o n i = inr (w.0, inr (g C w.1 q n, free_runs d L w.2 o i))

  together_runs : (d : Document) (K : Continuation) → IsAhead x K → AllRuns (TogetherOf x) (runs E d K)
  together_runs empty K f = end_all (TogetherOf x) tt (has_stop (choices E K))
  together_runs (text s d) K f = λ r m.
      let p = text_choice E s d K r m in
      text_all (TogetherOf x) (runs E d) s p.0 (λ u xs L e q n.
      together_by_text d (λ M g. together_runs d M g) u xs L (subst (StayAhead x) e (ahead_within E none x (length E) K f p.0 p.1)) q n) r p.2
  together_runs (element l k d) K f = λ r m.
      let p = element_choice E l k d K r m in
      element_all (TogetherOf x) (runs E k) (runs E d) l p.0 (λ c C xs L e q o n i.
      together_by_element k d (λ M g. together_runs k M g) (λ M g. together_runs d M g) c C xs L (subst (StayAhead x) e (ahead_within E none x (length E) K f p.0 p.1)) q o n i) r p.2

-- the items of a variable stand together
pub runs_keep_together : RunsKeepTogether
runs_keep_together E none P l d r m x = together_runs E none x d (start P) (inr (inl ((refl, l), tt))) r m

-- what is reached is clear of a variable that the pattern lacks
reached_clear : (E : Definitions) → BindNothing E → (P : Tree) (x : List ℕ) → has_word (occurrences P) x ≡ false → (K : Continuation) → IsReached E P K → IsClear x K
reached_clear E none P x h _ from_start = start_clear x P h
reached_clear E none P x h _ (behind_text K R w xs r m) = (clear_within E none x (length E) K (reached_clear E none P x h K r) (take_text w xs R) m).1
reached_clear E none P x h _ (behind_element K R C c xs r m) = (clear_within E none x (length E) K (reached_clear E none P x h K r) (take_element c C xs R) m).2
reached_clear E none P x h _ (in_element K R C c xs r m) = (clear_within E none x (length E) K (reached_clear E none P x h K r) (take_element c C xs R) m).1

clear_unmarked : (x : List ℕ) (c : Choice) → StayClear x c → IsUnmarked x c
clear_unmarked x stop q = tt
clear_unmarked x (take_text w xs R) q = q.0
clear_unmarked x (take_element c C xs R) q = q.0

pub marks_are_variables : MarksAreVariables
marks_are_variables E none P K r c m x h = clear_unmarked x c (clear_within E none x (length E) K (reached_clear E none P x h K r) c m)
