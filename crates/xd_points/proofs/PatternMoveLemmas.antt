-- Moves of states with like ones made one tell what those of the states as they are do.
use Rattle.std.proofs.Common.{◌≡◌, ℕ, zero, suc, ◌<◌, Bool, true, false, not, ◌&&◌, ◌||◌, List, [], ◌∷◌, map, length, take, get_or, Some, refl, sym, ap, subst, ◌∙◌, arith}
use Rattle.std.specs.List.{list_any, slice_get}
use Rattle.xd_auto.specs.declared.auto.State.{State}
use Rattle.xd_auto.specs.Automaton.{Automaton, moves_at}
use Rattle.xd_auto.specs.Matching.{AreMatching}
use Rattle.xd_points.specs.Meaning.{ServePoints}
use Rattle.xd_points.specs.declared.patterns.PatternStates.{PatternStates}
use Rattle.xd_boole.specs.Groups.{passes_at}
use Rattle.xd_boole.specs.Meaning.{ElementFirst, TextFirst, move_takes, text_takes}
use Rattle.xd_boole.proofs.MatchLemmas.{matching_tells}

any_take : {X Y : Type 0} (f : X → Bool) (g : Y → Bool) (xs : List X) (ys : List Y) (n : ℕ) → map f xs ≡ map g ys → list_any f (take n xs) ≡ list_any g (take n ys)
any_take f g xs ys zero e = refl
any_take f g [] [] (suc n) e = refl
any_take f g [] (y ∷ ys) (suc n) e = absurd (cc)
any_take f g (x ∷ xs) [] (suc n) e = absurd (cc)
any_take f g (x ∷ xs) (y ∷ ys) (suc n) e =
    let first : f x ≡ g y = cc in
    let others : map f xs ≡ map g ys = cc in
    ap (λ w. w || list_any f (take n xs)) first ∙ ap (λ w. g y || w) (any_take f g xs ys n others)

module _ (a : Automaton) (b : PatternStates) (is : ServePoints a b) (s : State) (n : ℕ) where
  pub before_same : (q : ElementFirst) → list_any (move_takes b.taken.auto q) (take n (moves_at b.taken.auto s).labels) ≡ list_any (move_takes b.auto q) (take n (moves_at b.auto s).labels)
  before_same q = any_take (move_takes b.taken.auto q) (move_takes b.auto q) (moves_at b.taken.auto s).labels (moves_at b.auto s).labels n (is.moves.labels q s)

  pub text_before_same : (q : TextFirst) → list_any (text_takes b.taken.auto q) (take n (moves_at b.taken.auto s).texts) ≡ list_any (text_takes b.auto q) (take n (moves_at b.auto s).texts)
  text_before_same q = any_take (text_takes b.taken.auto q) (text_takes b.auto q) (moves_at b.taken.auto s).texts (moves_at b.auto s).texts n (is.moves.texts q s)

-- what stands at a place
pub record PlaceOf {X : Type 0} (xs : List X) (i : ℕ) : Type 0 where
  pub item : X
  pub at : item ≡ get_or xs i item
  pub there : slice_get xs i ≡ Some item

pub place_of : {X : Type 0} (xs : List X) (i : ℕ) → i < length xs → PlaceOf xs i
place_of [] i lt = absurd (omega arith)
place_of (x ∷ xs) zero lt = record { item = x; at = refl; there = refl }
place_of (x ∷ xs) (suc i) lt = let p = place_of xs i (omega arith) in record { item = p.item; at = p.at; there = p.there }

-- a move of a pattern's state, and the moves of the left that may share a name with it: these tell
-- what all moves of the left do
pub met_tell : {M : Type 0} (has : M → List ℕ → Bool) (x : List ℕ) (t takes : M → Bool) (step : M) (moves : List M) (numbers : List ℕ) (k taken r : Bool)
    → takes ≡ (λ m. has m x && t m) → taken ≡ (has step x && k) → AreMatching has step moves numbers
    → (list_any (passes_at takes moves) numbers && (taken && not r)) ≡ (list_any takes moves && (taken && not r))
met_tell {M} has x t takes step moves numbers k taken r takes_is taken_is are =
    subst (λ (f : M → Bool). (list_any (passes_at f moves) numbers && (taken && not r)) ≡ (list_any f moves && (taken && not r))) (sym takes_is)
    (subst (λ (w : Bool). (some && (w && not r)) ≡ (all && (w && not r))) (sym taken_is) (go (has step x) refl))
  where
    some : Bool
    some = list_any (passes_at (λ m. has m x && t m) moves) numbers

    all : Bool
    all = list_any (λ m. has m x && t m) moves

    and_false : (w : Bool) → (w && false) ≡ false
    and_false true = refl
    and_false false = refl

    go : (b : Bool) → has step x ≡ b → (some && ((b && k) && not r)) ≡ (all && ((b && k) && not r))
    go true e = ap (λ w. w && ((true && k) && not r)) (matching_tells has t step moves numbers are x e)
    go false e = and_false some ∙ sym (and_false all)
