use Rattle.std.proofs.Common.{◌≡◌, ℕ, ◌-◌, ◌++◌, ◌∷◌, [], Option, unwrap_or, arith, rules, ap, subst, ◌∙◌}
use Rattle.std.specs.Prelude.{IsSome}
use Rattle.xd_names.specs.Counts.{occurrences}
use Rattle.xd_names.proofs.WordLemmas.{occurs_last, count_pop}
use Rattle.xd_names.proofs.scope.Scope.pop.Goals as goal

pub overflow_sub-count : goal.overflow_sub-count
overflow_sub-count c =
    let n : c.in-Some-get_mut.count.now ≡ occurrences (c.pop.new.self.items ++ c.in-Some.word ∷ []) c.in-Some.word
    = ap (λ (o : Option ℕ). unwrap_or o 0) c.in-Some-get_mut.ensures.value ∙ c.self.invariant c.in-Some.word ∙ ap (λ xs. occurrences xs c.in-Some.word) c.in-Some.ensures.items in
    omega (arith, occurs_last c.in-Some.word c.pop.new.self.items)

pub invariant_of-self : goal.invariant_of-self
invariant_of-self c w =
    let n : c.in-Some-get_mut.count.now ≡ occurrences (c.pop.new.self.items ++ c.in-Some.word ∷ []) c.in-Some.word
    = ap (λ (o : Option ℕ). unwrap_or o 0) c.in-Some-get_mut.ensures.value ∙ c.self.invariant c.in-Some.word ∙ ap (λ xs. occurrences xs c.in-Some.word) c.in-Some.ensures.items in
    count_pop c.in-Some.word w c.pop.new.self.items c.in-Some-get_mut.count.now _ _ n
    (c.self.invariant w ∙ ap (λ xs. occurrences xs w) c.in-Some.ensures.items)
    (((c.get_mut.follows.holds (c.in-Some-get_mut.count.now - 1)).3 (subst IsSome c.in-Some-get_mut.ensures.value (search rules))).0 w)

pub invariant_of-self-in-Some : goal.invariant_of-self-in-Some
invariant_of-self-in-Some c w =
    let n : 0 ≡ occurrences (c.pop.new.self.items ++ c.in-Some.word ∷ []) c.in-Some.word
    = ap (λ (o : Option ℕ). unwrap_or o 0) c.in_default-get_mut.ensures.value ∙ c.self.invariant c.in-Some.word ∙ ap (λ xs. occurrences xs c.in-Some.word) c.in-Some.ensures.items in
    absurd (omega (arith, occurs_last c.in-Some.word c.pop.new.self.items))
