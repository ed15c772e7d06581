use Rattle.std.proofs.Common.{◌++◌, ◌≡◌, List, [], ap, sym, ◌∙◌, rules, vec_len}
use Rattle.std.proofs.lemmas.List.{nil_from_length}
use Rattle.xd_bind.specs.declared.tracks.Given.{Given}
use Rattle.xd_check_steps.specs.InScope.{given_variables}
use Rattle.xd_check_steps.specs.declared.variables.Variable.{Variable}
use Rattle.xd_check_steps.proofs.InScopeLemmas.{given_more}
use Rattle.xd_check_steps.proofs.clauses.bring_in.Goals as goal

pub loop-given-preserved : goal.loop-given-preserved
loop-given-preserved c =
    c.loop-given.invariant ∙ given_more c.loop-given.givens.items c.pop.new.self.items c.loop-given.variables c.in-Some.given c.in-Some.ensures.items
    ∙ ap (λ (vs : List Variable). given_variables c.pop.new.self.items ++ vs) (sym c.in_ok-push.ensures)

pub returns : goal.returns
returns c =
    let none : c.loop-given.givens.items ≡ [] = nil_from_length c.loop-given.givens.items (let h : vec_len c.loop-given.givens ≡ 0 = c.in_default.ensures.cases.0 in search rules) in
    sym (c.loop-given.invariant ∙ ap (λ (gs : List Given). given_variables gs ++ c.loop-given.variables) none)
