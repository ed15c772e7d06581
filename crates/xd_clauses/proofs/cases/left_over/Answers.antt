use Rattle.std.proofs.Common.{◌↔◌, ◌≤◌, Vec, List, length, take, arith, ap, sym, subst, ◌∙◌}
use Rattle.std.proofs.lemmas.List.{take_all}
use Rattle.std.specs.List.{AllByRecursion}
use Rattle.xd_syntax.specs.Kept.{program_tree}
use Rattle.xd_syntax.specs.May.{NoneTakes}
use Rattle.xd_syntax.specs.Program.{names_of}
use Rattle.xd_syntax.specs.declared.patterns.PatternId.{PatternId}
use Rattle.xd_patterns.specs.CompiledProgram.{IsLinearPattern}
use Rattle.xd_boole.proofs.MoveBelowLemmas.{all_recursion}
use Rattle.xd_clauses.specs.Cases.{placed_patterns}
use Rattle.xd_clauses.specs.Clauses.{Accepted}
use Rattle.xd_clauses.proofs.cases.left_over.Goals as goal

pub compiled_of-requires : goal.compiled_of-requires
compiled_of-requires c =
    subst (λ (ids : List PatternId). AllByRecursion (IsLinearPattern c.args.sound.now.patterns) ids) (sym (c.in_ok-ids.ensures.items_if_clones_equal (λ x y e. e))) (all_recursion (IsLinearPattern c.args.sound.now.patterns) c.args.patterns.now c.requires.patterns)

pub left_behind-requires-clause-patterns : goal.left_behind-requires-clause-patterns
left_behind-requires-clause-patterns c = (names_of (program_tree c.args.sound.now), c.args.sound.now.patterns, c.in_ok-compiled.ensures.patterns)

pub left_behind-requires-clause-count : goal.left_behind-requires-clause-count
left_behind-requires-clause-count c =
    let same = ap (λ (v : Vec PatternId _). v.items) c.in_ok-compiled.ensures.ids ∙ c.in_ok-ids.ensures.items_if_clones_equal (λ x y e. e) in
    subst (λ (ids : List PatternId). length c.args.patterns.now ≤ length ids) (sym same) (omega arith)

pub returns-clause-exact : goal.returns-clause-exact
returns-clause-exact c = λ d.
    let E = names_of (program_tree c.args.sound.now) in
    let rows = c.args.sound.now.patterns in
    let ids = c.args.patterns.now in
    let same = ap (λ (v : Vec PatternId _). v.items) c.in_ok-compiled.ensures.ids ∙ c.in_ok-ids.ensures.items_if_clones_equal (λ x y e. e) in
    let all = ap (λ (is : List PatternId). take (length ids) is) same ∙ take_all (length ids) ids (omega arith) in
    subst (λ (is : List PatternId). Accepted c.in_ok-own.own c.in_ok-own.left d ↔ (Accepted c.args.auto.now c.args.state d × NoneTakes E (placed_patterns rows is) d)) all
    (c.in_ok-own.ensures.exact E rows c.in_ok-compiled.ensures.patterns d)
