-- The continuations that are reached are short lists of few pieces.
use Rattle.std.proofs.Common.{◌≡◌, ℕ, suc, zero, ◌+◌, ◌≤◌, arith, Bool, true, false, cond, ◌⊎◌, List, [], ◌∷◌, ◌++◌, map, flat_map, length, Some, refl, ap, sym, subst, inl, inr}
use Rattle.std.specs.Str.{bytes_eq}
use Rattle.std.proofs.lemmas.List.{length-append}
use Rattle.xd_doc.specs.Members.{IsOneOf}
use Rattle.xd_syntax.specs.Tree.{Tree, Empty, Text, Words, Name, Elem, Seq, Alt, Star, Plus, Opt, Val, Definitions, body, occurrences}
use Rattle.xd_meaning.specs.Heads.{all_texts}
use Rattle.xd_syntax.proofs.Members.{mem_append, append_left, append_right, map_mem, flat_mem}
use Rattle.xd_pattern_runs.specs.Runs.{Piece, Continuation, Choice, stop, take_text, take_element, start, in_place, then_choices, has_stop, choices_by, choices_of_name, choices_within}
use Rattle.xd_pattern_runs.specs.Linear.{BindNothing}
use Rattle.xd_pattern_runs.specs.Finite.{IsLow, HaveHeights, IsReached, from_start, behind_text, behind_element, in_element, FinitelyManyReached}
use Rattle.xd_pattern_runs.proofs.Factor.{piece, nil_append}
use Rattle.xd_pattern_runs.proofs.TogetherLaw.{AllHave, have_one, have_append, have_stop, have_one_stop, have_then, of_definition}

-- higher is low too
pub low_more : (H : List ℕ → ℕ) (a b : ℕ) → a ≤ b → (T : Tree) → IsLow H a T → IsLow H b T
low_more H a b h Empty l = tt
low_more H a b h Text l = tt
low_more H a b h (Words w) l = tt
low_more H a b h (Name y) l = omega (arith, l)
low_more H a b h (Elem c T) l = tt
low_more H a b h (Seq T U) l = let k = l.1 in (l.0, omega arith, l.2, low_more H a b h U l.3)
low_more H a b h (Alt T U) l = (low_more H a b h T l.0, low_more H a b h U l.1)
low_more H a b h (Star T) l = let k = l.1 in (l.0, omega arith, l.2)
low_more H a b h (Plus T) l = let k = l.1 in (l.0, omega arith, l.2)
low_more H a b h (Opt T) l = low_more H a b h T l
low_more H a b h (Val x T) l = low_more H a b h T l

-- a height at which the type is low
pub low_at : (H : List ℕ → ℕ) (T : Tree) → (b : ℕ) × IsLow H b T
low_at H Empty = (0, tt)
low_at H Text = (0, tt)
low_at H (Words w) = (0, tt)
low_at H (Name y) = (H y, omega arith)
low_at H (Elem c T) = (0, tt)
low_at H (Seq T U) = let p = low_at H T in let q = low_at H U in (p.0 + 1 + q.0, (p.0, omega arith, p.1, low_more H q.0 (p.0 + 1 + q.0) (omega arith) U q.1))
low_at H (Alt T U) = let p = low_at H T in let q = low_at H U in (p.0 + q.0, (low_more H p.0 (p.0 + q.0) (omega arith) T p.1, low_more H q.0 (p.0 + q.0) (omega arith) U q.1))
low_at H (Star T) = let p = low_at H T in (p.0 + 1, (p.0, omega arith, p.1))
low_at H (Plus T) = let p = low_at H T in (p.0 + 1, (p.0, omega arith, p.1))
low_at H (Opt T) = low_at H T
low_at H (Val x T) = low_at H T

-- each content is low
abbrev pub LowInside : (List ℕ → ℕ) → ℕ → Tree → Type 0
LowInside H b Empty = Unit {0}
LowInside H b Text = Unit {0}
LowInside H b (Words w) = Unit {0}
LowInside H b (Name y) = Unit {0}
LowInside H b (Elem c T) = IsLow H b T × LowInside H b T
LowInside H b (Seq T U) = LowInside H b T × LowInside H b U
LowInside H b (Alt T U) = LowInside H b T × LowInside H b U
LowInside H b (Star T) = LowInside H b T
LowInside H b (Plus T) = LowInside H b T
LowInside H b (Opt T) = LowInside H b T
LowInside H b (Val x T) = LowInside H b T

pub inside_more : (H : List ℕ → ℕ) (a b : ℕ) → a ≤ b → (T : Tree) → LowInside H a T → LowInside H b T
inside_more H a b h Empty l = tt
inside_more H a b h Text l = tt
inside_more H a b h (Words w) l = tt
inside_more H a b h (Name y) l = tt
inside_more H a b h (Elem c T) l = (low_more H a b h T l.0, inside_more H a b h T l.1)
inside_more H a b h (Seq T U) l = (inside_more H a b h T l.0, inside_more H a b h U l.1)
inside_more H a b h (Alt T U) l = (inside_more H a b h T l.0, inside_more H a b h U l.1)
inside_more H a b h (Star T) l = inside_more H a b h T l
inside_more H a b h (Plus T) l = inside_more H a b h T l
inside_more H a b h (Opt T) l = inside_more H a b h T l
inside_more H a b h (Val x T) l = inside_more H a b h T l

pub inside_at : (H : List ℕ → ℕ) (T : Tree) → (b : ℕ) × LowInside H b T
inside_at H Empty = (0, tt)
inside_at H Text = (0, tt)
inside_at H (Words w) = (0, tt)
inside_at H (Name y) = (0, tt)
inside_at H (Elem c T) =
    let p = low_at H T in let q = inside_at H T in (p.0 + q.0, (low_more H p.0 (p.0 + q.0) (omega arith) T p.1, inside_more H q.0 (p.0 + q.0) (omega arith) T q.1))
inside_at H (Seq T U) =
    let p = inside_at H T in let q = inside_at H U in (p.0 + q.0, (inside_more H p.0 (p.0 + q.0) (omega arith) T p.1, inside_more H q.0 (p.0 + q.0) (omega arith) U q.1))
inside_at H (Alt T U) =
    let p = inside_at H T in let q = inside_at H U in (p.0 + q.0, (inside_more H p.0 (p.0 + q.0) (omega arith) T p.1, inside_more H q.0 (p.0 + q.0) (omega arith) U q.1))
inside_at H (Star T) = inside_at H T
inside_at H (Plus T) = inside_at H T
inside_at H (Opt T) = inside_at H T
inside_at H (Val x T) = inside_at H T

-- a height at which the contents of all definitions are low
pub inside_all : (H : List ℕ → ℕ) (E : Definitions) → (b : ℕ) × ((y : List ℕ) (T : Tree) → body E y ≡ Some T → LowInside H b T)
inside_all H [] = (0, λ y T e. cc)
inside_all H (p ∷ E) =
    let q = inside_at H p.1 in let r = inside_all H E in (q.0 + r.0, λ y T e. go q r y T (bytes_eq p.0 y) e)
  where
    go : (q : (b : ℕ) × LowInside H b p.1) (r : (b : ℕ) × ((y : List ℕ) (T : Tree) → body E y ≡ Some T → LowInside H b T)) (y : List ℕ) (T : Tree) (t : Bool) →
        cond t (Some p.1) (body E y) ≡ Some T → LowInside H (q.0 + r.0) T
    go q r y T true e = let s : p.1 ≡ T = cc in subst (LowInside H (q.0 + r.0)) s (inside_more H q.0 (q.0 + r.0) (omega arith) p.1 q.1)
    go q r y T false e = inside_more H r.0 (q.0 + r.0) (omega arith) T (r.1 y T e)

-- the pieces that may come of a part, and the marks under which its names may stand

abbrev pieces_of : List (List ℕ) → Tree → List Piece
pieces_of xs Empty = piece xs Empty ∷ []
pieces_of xs Text = piece xs Text ∷ []
pieces_of xs (Words w) = piece xs (Words w) ∷ []
pieces_of xs (Name y) = piece xs (Name y) ∷ []
pieces_of xs (Elem c T) = piece xs (Elem c T) ∷ pieces_of [] T
pieces_of xs (Seq T U) = piece xs (Seq T U) ∷ (pieces_of xs T ++ pieces_of xs U)
pieces_of xs (Alt T U) = piece xs (Alt T U) ∷ (pieces_of xs T ++ pieces_of xs U)
pieces_of xs (Star T) = piece xs (Star T) ∷ pieces_of xs T
pieces_of xs (Plus T) = piece xs (Plus T) ∷ (piece xs (Star T) ∷ pieces_of xs T)
pieces_of xs (Opt T) = piece xs (Opt T) ∷ pieces_of xs T
pieces_of xs (Val y T) = piece xs (Val y T) ∷ pieces_of (y ∷ xs) T

abbrev marks_of : List (List ℕ) → Tree → List (List (List ℕ))
marks_of xs Empty = []
marks_of xs Text = []
marks_of xs (Words w) = []
marks_of xs (Name y) = xs ∷ []
marks_of xs (Elem c T) = marks_of [] T
marks_of xs (Seq T U) = marks_of xs T ++ marks_of xs U
marks_of xs (Alt T U) = marks_of xs T ++ marks_of xs U
marks_of xs (Star T) = marks_of xs T
marks_of xs (Plus T) = marks_of xs T
marks_of xs (Opt T) = marks_of xs T
marks_of xs (Val y T) = marks_of (y ∷ xs) T

-- all of them have a property
abbrev PiecesIn : (Piece → Type 0) → (List (List ℕ) → Type 0) → List (List ℕ) → Tree → Type 0
PiecesIn Q G xs Empty = Q (piece xs Empty)
PiecesIn Q G xs Text = Q (piece xs Text)
PiecesIn Q G xs (Words w) = Q (piece xs (Words w))
PiecesIn Q G xs (Name y) = Q (piece xs (Name y)) × G xs
PiecesIn Q G xs (Elem c T) = Q (piece xs (Elem c T)) × PiecesIn Q G [] T
PiecesIn Q G xs (Seq T U) = Q (piece xs (Seq T U)) × PiecesIn Q G xs T × PiecesIn Q G xs U
PiecesIn Q G xs (Alt T U) = Q (piece xs (Alt T U)) × PiecesIn Q G xs T × PiecesIn Q G xs U
PiecesIn Q G xs (Star T) = Q (piece xs (Star T)) × PiecesIn Q G xs T
PiecesIn Q G xs (Plus T) = Q (piece xs (Plus T)) × Q (piece xs (Star T)) × PiecesIn Q G xs T
PiecesIn Q G xs (Opt T) = Q (piece xs (Opt T)) × PiecesIn Q G xs T
PiecesIn Q G xs (Val y T) = Q (piece xs (Val y T)) × PiecesIn Q G (y ∷ xs) T

-- the part itself is one
itself : (Q : Piece → Type 0) (G : List (List ℕ) → Type 0) (xs : List (List ℕ)) (T : Tree) → PiecesIn Q G xs T → Q (piece xs T)
itself Q G xs Empty f = f
itself Q G xs Text f = f
itself Q G xs (Words w) f = f
itself Q G xs (Name y) f = f.0
itself Q G xs (Elem c T) f = f.0
itself Q G xs (Seq T U) f = f.0
itself Q G xs (Alt T U) f = f.0
itself Q G xs (Star T) f = f.0
itself Q G xs (Plus T) f = f.0
itself Q G xs (Opt T) f = f.0
itself Q G xs (Val y T) f = f.0

pieces_in : (Q : Piece → Type 0) (G : List (List ℕ) → Type 0) (T : Tree) (xs : List (List ℕ)) → ((p : Piece) → IsOneOf p (pieces_of xs T) → Q p) →
    ((ys : List (List ℕ)) → IsOneOf ys (marks_of xs T) → G ys) → PiecesIn Q G xs T
pieces_in Q G Empty xs f g = f (piece xs Empty) (inl refl)
pieces_in Q G Text xs f g = f (piece xs Text) (inl refl)
pieces_in Q G (Words w) xs f g = f (piece xs (Words w)) (inl refl)
pieces_in Q G (Name y) xs f g = (f (piece xs (Name y)) (inl refl), g xs (inl refl))
pieces_in Q G (Elem c T) xs f g = (f (piece xs (Elem c T)) (inl refl), pieces_in Q G T [] (λ p m. f p (inr m)) g)
pieces_in Q G (Seq T U) xs f g = (
  f (piece xs (Seq T U)) (inl refl),
  pieces_in Q G T xs (λ p m. f p (inr (append_left p (pieces_of xs T) (pieces_of xs U) m))) (λ ys m. g ys (append_left ys (marks_of xs T) (marks_of xs U) m)),
  pieces_in Q G U xs (λ p m. f p (inr (append_right p (pieces_of xs T) (pieces_of xs U) m))) (λ ys m. g ys (append_right ys (marks_of xs T) (marks_of xs U) m)),
)
pieces_in Q G (Alt T U) xs f g = (
  f (piece xs (Alt T U)) (inl refl),
  pieces_in Q G T xs (λ p m. f p (inr (append_left p (pieces_of xs T) (pieces_of xs U) m))) (λ ys m. g ys (append_left ys (marks_of xs T) (marks_of xs U) m)),
  pieces_in Q G U xs (λ p m. f p (inr (append_right p (pieces_of xs T) (pieces_of xs U) m))) (λ ys m. g ys (append_right ys (marks_of xs T) (marks_of xs U) m)),
)
pieces_in Q G (Star T) xs f g = (f (piece xs (Star T)) (inl refl), pieces_in Q G T xs (λ p m. f p (inr m)) g)
pieces_in Q G (Plus T) xs f g = (f (piece xs (Plus T)) (inl refl), f (piece xs (Star T)) (inr (inl refl)), pieces_in Q G T xs (λ p m. f p (inr (inr m))) g)
pieces_in Q G (Opt T) xs f g = (f (piece xs (Opt T)) (inl refl), pieces_in Q G T xs (λ p m. f p (inr m)) g)
pieces_in Q G (Val y T) xs f g = (f (piece xs (Val y T)) (inl refl), pieces_in Q G T (y ∷ xs) (λ p m. f p (inr m)) g)

-- where nothing is bound the marks stay, or there are none
marks_stay : (T : Tree) (xs ys : List (List ℕ)) → occurrences T ≡ [] → IsOneOf ys (marks_of xs T) → (ys ≡ xs) ⊎ (ys ≡ [])
marks_stay Empty xs ys e m = absurd m
marks_stay Text xs ys e m = absurd m
marks_stay (Words w) xs ys e m = absurd m
marks_stay (Name y) xs ys e (inl i) = inl (sym i)
marks_stay (Name y) xs ys e (inr m) = absurd m
marks_stay (Elem c T) xs ys e m = elim (marks_stay T [] ys e m) [ inl i ↦ inr i | inr i ↦ inr i ]
marks_stay (Seq T U) xs ys e m =
    let k = nil_append (occurrences T) (occurrences U) e in
    elim (mem_append ys (marks_of xs T) (marks_of xs U) m) [ inl a ↦ marks_stay T xs ys k.0 a | inr b ↦ marks_stay U xs ys k.1 b ]
marks_stay (Alt T U) xs ys e m =
    let k = nil_append (occurrences T) (occurrences U) e in
    elim (mem_append ys (marks_of xs T) (marks_of xs U) m) [ inl a ↦ marks_stay T xs ys k.0 a | inr b ↦ marks_stay U xs ys k.1 b ]
marks_stay (Star T) xs ys e m = marks_stay T xs ys e m
marks_stay (Plus T) xs ys e m = marks_stay T xs ys e m
marks_stay (Opt T) xs ys e m = marks_stay T xs ys e m
marks_stay (Val y T) xs ys e m = cc

abbrev AllPieces : (Piece → Type 0) → Continuation → Type 0
AllPieces Q [] = Unit {0}
AllPieces Q (p ∷ K) = Q p × AllPieces Q K

-- the pieces that come of a continuation, and the choices that lead to such

module _ (E : Definitions) (H : List ℕ → ℕ) (heights : HaveHeights E H) (B : ℕ) (Q : Piece → Type 0) (G : List (List ℕ) → Type 0)
    (inside : (y : List ℕ) (T : Tree) → body E y ≡ Some T → LowInside H B T) (pieces : (xs : List (List ℕ)) → G xs → (y : List ℕ) (T : Tree) → body E y ≡ Some T → PiecesIn Q G xs T) where
  abbrev IsGood : List (List ℕ) → Tree → Type 0
  IsGood xs T = PiecesIn Q G xs T × LowInside H B T

  -- no more than b pieces, and those that come in the place of one with those after it no more
  -- either
  abbrev IsStack : ℕ → Continuation → Type 0
  IsStack b [] = Unit {0}
  IsStack b (p ∷ K) = ((a : ℕ) × IsLow H a p.part × (a + length K ≤ b)) × IsGood p.marks p.part × IsStack b K

  abbrev IsGoodChoice : ℕ → Choice → Type 0
  IsGoodChoice b stop = Unit {0}
  IsGoodChoice b (take_text w xs R) = IsStack b R
  IsGoodChoice b (take_element c C xs R) = IsStack B C × IsStack b R

  stack_behind : (a b : ℕ) (R K : Continuation) → IsStack a R → IsStack b K → a + length K ≤ b → IsStack b (R ++ K)
  stack_behind a b [] K f g h = g
  stack_behind a b (p ∷ R) K f g h =
      let i = (f.0).2 in let l = length-append R K in (((f.0).0, (f.0).1, omega arith), f.1, stack_behind a b R K f.2 g h)

  stack_one : (b : ℕ) (xs : List (List ℕ)) (T : Tree) → IsLow H b T → IsGood xs T → IsStack b (piece xs T ∷ [])
  stack_one b xs T l g = ((b, l, omega arith), g, tt)

  good_place : (a b : ℕ) (K : Continuation) (cs : List Choice) → IsStack b K → a + length K ≤ b → AllHave (IsGoodChoice b) cs → (c : Choice) → IsGoodChoice a c →
      AllHave (IsGoodChoice b) (in_place K cs c)
  good_place a b K cs f h g stop q = g
  good_place a b K cs f h g (take_text w xs R) q = have_one (IsGoodChoice b) (take_text w xs (R ++ K)) (stack_behind a b R K q f h)
  good_place a b K cs f h g (take_element c C xs R) q = have_one (IsGoodChoice b) (take_element c C xs (R ++ K)) (q.0, stack_behind a b R K q.1 f h)

  good_by : (N : List (List ℕ) → List ℕ → List Choice) → ((xs : List (List ℕ)) (y : List ℕ) (b : ℕ) → H y ≤ b → G xs → AllHave (IsGoodChoice b) (N xs y)) →
      (T : Tree) (xs : List (List ℕ)) (b : ℕ) → IsLow H b T → IsGood xs T → AllHave (IsGoodChoice b) (choices_by N xs T)
  good_by N names Empty xs b l g = have_one (IsGoodChoice b) stop tt
  good_by N names Text xs b l g = have_one (IsGoodChoice b) (take_text all_texts xs []) tt
  good_by N names (Words w) xs b l g = have_one (IsGoodChoice b) (take_text w xs []) tt
  good_by N names (Name y) xs b l g = names xs y b l (g.0).1
  good_by N names (Elem c T) xs b l g = have_one (IsGoodChoice b) (take_element c (start T) xs []) (stack_one B [] T (g.1).0 ((g.0).1, (g.1).1), tt)
  good_by N names (Seq T U) xs b l g =
      have_then (IsGoodChoice l.0) (IsGoodChoice b) (piece xs U ∷ []) (choices_by N xs U) (choices_by N xs T)
      (good_place l.0 b (piece xs U ∷ []) (choices_by N xs U) (stack_one b xs U l.3 ((g.0).2, (g.1).1)) l.1 (good_by N names U xs b l.3 ((g.0).2, (g.1).1)))
      (good_by N names T xs l.0 l.2 ((g.0).1, (g.1).0))
  good_by N names (Alt T U) xs b l g =
      have_one_stop (IsGoodChoice b) (choices_by N xs T ++ choices_by N xs U)
      (have_append (IsGoodChoice b) (choices_by N xs T) (choices_by N xs U) (good_by N names T xs b l.0 ((g.0).1, (g.1).0)) (good_by N names U xs b l.1 ((g.0).2, (g.1).1)))
  good_by N names (Star T) xs b l g =
      have_append (IsGoodChoice b) (then_choices (choices_by N xs T) (piece xs (Star T) ∷ []) []) (stop ∷ [])
      (have_then (IsGoodChoice l.0) (IsGoodChoice b) (piece xs (Star T) ∷ []) [] (choices_by N xs T)
      (good_place l.0 b (piece xs (Star T) ∷ []) [] (stack_one b xs (Star T) l g) l.1 (λ c m. absurd m)) (good_by N names T xs l.0 l.2 ((g.0).1, g.1)))
      (have_one (IsGoodChoice b) stop tt)
  good_by N names (Plus T) xs b l g =
      have_append (IsGoodChoice b) (then_choices (choices_by N xs T) (piece xs (Star T) ∷ []) []) (cond (has_stop (choices_by N xs T)) (stop ∷ []) [])
      (have_then (IsGoodChoice l.0) (IsGoodChoice b) (piece xs (Star T) ∷ []) [] (choices_by N xs T)
      (good_place l.0 b (piece xs (Star T) ∷ []) [] (stack_one b xs (Star T) l (((g.0).1, (g.0).2), g.1)) l.1 (λ c m. absurd m)) (good_by N names T xs l.0 l.2 ((g.0).2, g.1)))
      (have_stop (IsGoodChoice b) tt (has_stop (choices_by N xs T)))
  good_by N names (Opt T) xs b l g =
      have_one_stop (IsGoodChoice b) (choices_by N xs T ++ stop ∷ [])
      (have_append (IsGoodChoice b) (choices_by N xs T) (stop ∷ []) (good_by N names T xs b l ((g.0).1, g.1)) (have_one (IsGoodChoice b) stop tt))
  good_by N names (Val y T) xs b l g = good_by N names T (y ∷ xs) b l ((g.0).1, g.1)

  good_names : (n : ℕ) (xs : List (List ℕ)) (y : List ℕ) (b : ℕ) → H y ≤ b → G xs → AllHave (IsGoodChoice b) (choices_of_name E n xs y)
  good_names zero xs y b h g = λ c m. absurd m
  good_names (suc n) xs y b h g =
      of_definition (IsGoodChoice b) (choices_by (choices_of_name E n) xs) (body E y) (λ T e.
      good_by (choices_of_name E n) (good_names n) T xs b (low_more H (H y) b h T (heights y T e)) (pieces xs g y T e, inside y T e))

  good_within : (n : ℕ) (K : Continuation) → IsStack B K → AllHave (IsGoodChoice B) (choices_within E n K)
  good_within n [] f = have_one (IsGoodChoice B) stop tt
  good_within n (p ∷ K) f =
      have_then (IsGoodChoice (f.0).0) (IsGoodChoice B) K (choices_within E n K) (choices_by (choices_of_name E n) p.marks p.part)
      (good_place (f.0).0 B K (choices_within E n K) f.2 (f.0).2 (good_within n K f.2))
      (good_by (choices_of_name E n) (good_names n) p.part p.marks (f.0).0 (f.0).1 f.1)

  reached_stack : (P : Tree) → IsStack B (start P) → (K : Continuation) → IsReached E P K → IsStack B K
  reached_stack P s _ from_start = s
  reached_stack P s _ (behind_text K R w xs r m) = good_within (length E) K (reached_stack P s K r) (take_text w xs R) m
  reached_stack P s _ (behind_element K R C c xs r m) = (good_within (length E) K (reached_stack P s K r) (take_element c C xs R) m).1
  reached_stack P s _ (in_element K R C c xs r m) = (good_within (length E) K (reached_stack P s K r) (take_element c C xs R) m).0

  stack_pieces : (K : Continuation) → IsStack B K → AllPieces Q K
  stack_pieces [] f = tt
  stack_pieces (p ∷ K) f = (itself Q G p.marks p.part (f.1).0, stack_pieces K f.2)

  stack_short : (K : Continuation) → IsStack B K → length K ≤ B + 1
  stack_short [] f = omega arith
  stack_short (p ∷ K) f = let i = (f.0).2 in omega arith

-- the lists of no more than n of these pieces
abbrev lists_of : ℕ → List Piece → List Continuation
lists_of zero ps = [] ∷ []
lists_of (suc n) ps = [] ∷ flat_map (λ p. map (λ K. p ∷ K) (lists_of n ps)) ps

in_lists : (n : ℕ) (ps : List Piece) (K : Continuation) → length K ≤ n → AllPieces (λ p. IsOneOf p ps) K → IsOneOf K (lists_of n ps)
in_lists zero ps [] h f = inl refl
in_lists zero ps (p ∷ K) h f = absurd (omega arith)
in_lists (suc n) ps [] h f = inl refl
in_lists (suc n) ps (p ∷ K) h f =
    inr (flat_mem (λ q. map (λ L. q ∷ L) (lists_of n ps)) (p ∷ K) p ps f.0 (map_mem (λ L. p ∷ L) K (lists_of n ps) (in_lists n ps K (omega arith) f.1)))

-- the pieces of a pattern and of all definitions
abbrev all_marks : Tree → List (List (List ℕ))
all_marks P = [] ∷ marks_of [] P

abbrev all_pieces : Definitions → Tree → List Piece
all_pieces E P = pieces_of [] P ++ flat_map (λ xs. flat_map (λ (t : List ℕ × Tree). pieces_of xs t.1) E) (all_marks P)

in_definitions : (E : Definitions) (y : List ℕ) (T : Tree) → body E y ≡ Some T → (x : List ℕ) × IsOneOf (x, T) E
in_definitions [] y T e = cc
in_definitions (p ∷ E) y T e = go (bytes_eq p.0 y) e (in_definitions E y T)
  where
    go : (b : Bool) → cond b (Some p.1) (body E y) ≡ Some T → (body E y ≡ Some T → (x : List ℕ) × IsOneOf (x, T) E) → (x : List ℕ) × IsOneOf (x, T) (p ∷ E)
    go true k rec = let s : p.1 ≡ T = cc in (p.0, inl (ap (λ U. (p.0, U)) s))
    go false k rec = let r = rec k in (r.0, inr r.1)

definition_pieces : (E : Definitions) → BindNothing E → (P : Tree) (xs : List (List ℕ)) → IsOneOf xs (all_marks P) → (y : List ℕ) (T : Tree) → body E y ≡ Some T →
    PiecesIn (λ p. IsOneOf p (all_pieces E P)) (λ ys. IsOneOf ys (all_marks P)) xs T
definition_pieces E none P xs g y T e =
    let d = in_definitions E y T e in
    pieces_in (λ p. IsOneOf p (all_pieces E P)) (λ ys. IsOneOf ys (all_marks P)) T xs
    (λ p m. append_right p (pieces_of [] P) _ (flat_mem (λ zs. flat_map (λ (t : List ℕ × Tree). pieces_of zs t.1) E) p xs (all_marks P) g (flat_mem (λ (t : List ℕ × Tree). pieces_of xs t.1) p (d.0, T) E d.1 m)))
    (λ ys m. kept ys (marks_stay T xs ys (none y T e) m))
  where
    kept : (ys : List (List ℕ)) → (ys ≡ xs) ⊎ (ys ≡ []) → IsOneOf ys (all_marks P)
    kept ys (inl i) = subst (λ z. IsOneOf z (all_marks P)) (sym i) g
    kept ys (inr i) = inl (sym i)

pub finitely_many_reached : FinitelyManyReached
finitely_many_reached E none H heights P =
    let ps : List Piece = all_pieces E P in
    let a = low_at H P in
    let b = inside_at H P in
    let c = inside_all H E in
    let B : ℕ = a.0 + b.0 + c.0 in
    let inside : (y : List ℕ) (T : Tree) → body E y ≡ Some T → LowInside H B T = λ y T e. inside_more H c.0 B (omega arith) T (c.1 y T e) in
    let pieces = definition_pieces E none P in
    let own = pieces_in (λ p. IsOneOf p ps) (λ ys. IsOneOf ys (all_marks P)) P [] (λ p m. append_left p (pieces_of [] P) _ m) (λ ys m. inr m) in
    let first = stack_one E H heights B (λ p. IsOneOf p ps) (λ ys. IsOneOf ys (all_marks P)) inside pieces B [] P (low_more H a.0 B (omega arith) P a.1) (own, inside_more H b.0 B (omega arith) P b.1) in (
      lists_of (B + 1) ps,
      λ K r.
          let s = reached_stack E H heights B (λ p. IsOneOf p ps) (λ ys. IsOneOf ys (all_marks P)) inside pieces P first K r in
          in_lists (B + 1) ps K (stack_short E H heights B (λ p. IsOneOf p ps) (λ ys. IsOneOf ys (all_marks P)) inside pieces K s)
          (stack_pieces E H heights B (λ p. IsOneOf p ps) (λ ys. IsOneOf ys (all_marks P)) inside pieces K s),
    )
