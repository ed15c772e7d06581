use Rattle.std.proofs.Common.{ℕ, List, nat_lt, Option, unwrap_or, ap, ◌∙◌}
use Rattle.xd_syntax.specs.Words.{has_word}
use Rattle.xd_names.proofs.WordLemmas.{count_has}
use Rattle.xd_names.proofs.scope.Scope.has.Goals as goal

pub returns-in-Some : goal.returns-in-Some
returns-in-Some c =
    ap (nat_lt 0) (ap (λ (o : Option ℕ). unwrap_or o 0) c.in-Some.ensures.value ∙ c.self.invariant c.args.word.now)
    ∙ count_has c.args.word.now c.self.inside.variables.items
    ∙ ap (λ (xs : List (List ℕ)). has_word xs c.args.word.now) c.self.view_is

pub returns-in-None : goal.returns-in-None
returns-in-None c =
    ap (nat_lt 0) (ap (λ (o : Option ℕ). unwrap_or o 0) c.in-None.ensures.value ∙ c.self.invariant c.args.word.now)
    ∙ count_has c.args.word.now c.self.inside.variables.items
    ∙ ap (λ (xs : List (List ℕ)). has_word xs c.args.word.now) c.self.view_is
