-- The claims of goals, by number.
use Rattle.std.proofs.Common.{◌≡◌, ℕ, zero, suc, List, [], ◌∷◌, Some, refl, ap}
use Rattle.xd_syntax.specs.Tree.{Tree}
use Rattle.xd_rules.specs.Rules.{Claim, numbered}
use Rattle.xd_meaning.specs.Consistent.{Goal, claim_of, claims}

pub goal_of : (gs : List Goal) (n : ℕ) (c : Claim Tree) → claims gs n ≡ Some c → (g : Goal) × (numbered gs n ≡ Some g) × (claim_of g ≡ c)
goal_of gs zero c e = absurd (cc)
goal_of [] (suc n) c e = absurd (cc)
goal_of (g ∷ gs) (suc zero) c e = (g, refl, (cc))
goal_of (g ∷ gs) (suc (suc n)) c e = goal_of gs (suc n) c e

pub goal_claim : (gs : List Goal) (n : ℕ) (g : Goal) → numbered gs n ≡ Some g → claims gs n ≡ Some (claim_of g)
goal_claim gs zero g e = absurd (cc)
goal_claim [] (suc n) g e = absurd (cc)
goal_claim (h ∷ gs) (suc zero) g e = let same : h ≡ g = cc in ap (λ (x : Goal). Some (claim_of x)) same
goal_claim (h ∷ gs) (suc (suc n)) g e = goal_claim gs (suc n) g e
