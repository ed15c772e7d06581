-- States that have names, as their automaton grows.
use Rattle.std.proofs.Common.{◌≡◌, ◌++◌, ◌∷◌, [], List}
use Rattle.std.specs.List.{AllByRecursion}
use Rattle.xd_auto.specs.Automaton.{Automaton, Extends, IsState}
use Rattle.xd_doc.proofs.Lists.{all_more, all_push}
use Rattle.xd_calls_goals.specs.declared.named.NamedState.{NamedState}

-- names stay those of states as the automaton grows, and one more is put after them
pub named_more : (old new : Automaton) (xs ys : List NamedState) (n : NamedState) → Extends old new → AllByRecursion (λ (m : NamedState). IsState old m.state) xs → IsState new n.state → ys ≡ xs ++ n ∷ []
    → AllByRecursion (λ (m : NamedState). IsState new m.state) ys
named_more old new xs ys n more h k e =
    rw e (all_push (λ (m : NamedState). IsState new m.state) xs n (all_more (λ (m : NamedState). IsState old m.state) (λ (m : NamedState). IsState new m.state) xs (λ m s. more.states m.state s) h) k)
