-- Leaves, by what is counted.
use Rattle.std.proofs.Common.{◌≡◌, ℕ, zero, suc, ◌+◌, ◌-◌, ◌<◌, ◌≤◌, arith, Bool, true, false, cond, ◌||◌, ◌&&◌, nat_eq, Option, Some, None, List, [], ◌∷◌, length, take, get_or, refl, ap, sym, subst, ◌∙◌, Bor, MatchOption}
use Rattle.std.specs.List.{list_all}
use Rattle.std.specs.Option.{option_copied}
use Rattle.xd_syntax.specs.declared.types.TypeId.{TypeId}
use Rattle.xd_rules.specs.Rules.{numbered}
use Rattle.xd_proof.specs.declared.proof.ProofGoal.{ProofGoal}
use Rattle.xd_moves.specs.Codes.{number_at}
use Rattle.xd_proof_check.specs.Paths.{AreCounts, count_of}
use Rattle.xd_proof_check.specs.Leaves.{GoalBelongs, GoalsBelong, is_among, leaf_numbered}

numbered_none : {X : Type 0} (xs : List X) (k : ℕ) → length xs ≤ k → numbered xs (suc k) ≡ None
numbered_none [] k h = refl
numbered_none (x ∷ xs) zero h = absurd (omega arith)
numbered_none (x ∷ xs) (suc k) h = numbered_none xs k (omega arith)

pub numbered_some : {X : Type 0} (xs : List X) (k : ℕ) (d : X) → k < length xs → numbered xs (suc k) ≡ Some (get_or xs k d)
numbered_some [] k d h = absurd (omega arith)
numbered_some (x ∷ xs) zero d h = refl
numbered_some (x ∷ xs) (suc k) d h = numbered_some xs k d (omega arith)

pub copied_numbered : {X : Type 0} (xs : List X) (n : ℕ) (r : Option (Bor X)) → (n ≡ 0 → ⊥) → MatchOption r (length xs ≤ n - 1) (λ x. (n - 1 < length xs) × ((d : X) → x.now ≡ get_or xs (n - 1) d)) →
    option_copied r ≡ numbered xs n
copied_numbered xs n None p m = let e : suc (n - 1) ≡ n = omega arith in sym (numbered_none xs (n - 1) m) ∙ ap (numbered xs) e
copied_numbered xs n (Some x) p m =
    let e : suc (n - 1) ≡ n = omega arith in
    ap (λ y. Some y) (m.1 x.now) ∙ sym (numbered_some xs (n - 1) x.now m.0) ∙ ap (numbered xs) e

pub goal_there : (n : ℕ) (goals : List ProofGoal) (k : ℕ) (g : ProofGoal) → GoalsBelong n goals → Some g ≡ numbered goals k → GoalBelongs n g
goal_there n goals zero g b e = cc
goal_there n [] (suc k) g b e = cc
goal_there n (h ∷ hs) (suc zero) g b e = let q : h ≡ g = cc in subst (GoalBelongs n) q b.0
goal_there n (h ∷ hs) (suc (suc k)) g b e = goal_there n hs (suc k) g b.1 e

-- what is counted is among
not_counted : (ns : List ℕ) (m : ℕ) → count_of m ns ≡ 0 → is_among ns m ≡ false
not_counted [] m e = refl
not_counted (n ∷ ns) m e = go (nat_eq n m) e (λ q. not_counted ns m q)
  where
    go : (b : Bool) → cond b (count_of m ns + 1) (count_of m ns) ≡ 0 → (count_of m ns ≡ 0 → is_among ns m ≡ false) → (b || is_among ns m) ≡ false
    go true q f = absurd (omega arith)
    go false q f = f q

is_counted : (ns : List ℕ) (m : ℕ) → (count_of m ns ≡ 0 → ⊥) → is_among ns m ≡ true
is_counted [] m f = absurd (f refl)
is_counted (n ∷ ns) m f = go (nat_eq n m) f (λ q. is_counted ns m q)
  where
    go : (b : Bool) → (cond b (count_of m ns + 1) (count_of m ns) ≡ 0 → ⊥) → ((count_of m ns ≡ 0 → ⊥) → is_among ns m ≡ true) → (b || is_among ns m) ≡ true
    go true q f = refl
    go false q f = f q

pub zero_not : (counts ns : List ℕ) (m : ℕ) → AreCounts counts ns → number_at counts m ≡ 0 → is_among ns m ≡ false
zero_not counts ns m a e = not_counted ns m (sym (a m) ∙ e)

pub more_is : (counts ns : List ℕ) (m : ℕ) → AreCounts counts ns → (number_at counts m ≡ 0 → ⊥) → is_among ns m ≡ true
more_is counts ns m a f = is_counted ns m (λ q. f (a m ∙ q))

module _ (p : TypeId → Bool) where
  pub some_not : (xs : List TypeId) (i : ℕ) (d : TypeId) → i < length xs → p (get_or xs i d) ≡ false → list_all p xs ≡ false
  some_not [] i d h e = absurd (omega arith)
  some_not (x ∷ xs) zero d h e = ap (λ b. b && list_all p xs) e
  some_not (x ∷ xs) (suc i) d h e = ap (λ b. p x && b) (some_not xs i d (omega arith) e) ∙ and_false (p x)
    where
      and_false : (b : Bool) → (b && false) ≡ false
      and_false true = refl
      and_false false = refl

  both_hold : (a b : Bool) → (a && b) ≡ true → (a ≡ true) × (b ≡ true)
  both_hold true b e = (refl, e)
  both_hold false b e = cc

  pub one_more : (xs : List TypeId) (i : ℕ) (d : TypeId) → i < length xs → list_all p (take i xs) ≡ true → p (get_or xs i d) ≡ true → list_all p (take (suc i) xs) ≡ true
  one_more [] i d h a e = refl
  one_more (x ∷ xs) zero d h a e = ap (λ b. b && true) e
  one_more (x ∷ xs) (suc i) d h a e =
      let r = both_hold (p x) (list_all p (take i xs)) a in
      ap (λ b. b && list_all p (take (suc i) xs)) r.0 ∙ one_more xs i d (omega arith) r.1 e

-- a goal that is there, whose left has the number
pub leaf_left : (numbers : List ℕ) (left : ℕ) (ns : List ℕ) (o : Option ProofGoal) (g : ProofGoal) (b : Bool) → Some g ≡ o → nat_eq (number_at numbers g.left.at) left ≡ true →
    b ≡ list_all (λ (id : TypeId). is_among ns (number_at numbers id.at)) g.rights.items → b ≡ leaf_numbered numbers left ns o
leaf_left numbers left ns o g b e q h =
    h ∙ ap (λ c. c && list_all (λ (id : TypeId). is_among ns (number_at numbers id.at)) g.rights.items) (sym q) ∙ ap (leaf_numbered numbers left ns) e
