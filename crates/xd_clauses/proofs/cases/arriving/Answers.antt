use Rattle.std.proofs.Common.{◌≡◌, ◌↔◌, ◌+◌, ◌++◌, ◌∷◌, [], Vec, List, length, length-append, take, arith, ap, sym, subst, ◌∙◌}
use Rattle.std.proofs.Math.Seq.{take-append_seam}
use Rattle.std.specs.List.{AllByRecursion}
use Rattle.xd_doc.proofs.Lists.{all_push}
use Rattle.xd_syntax.specs.Kept.{program_tree}
use Rattle.xd_syntax.specs.May.{NoneTakes}
use Rattle.xd_syntax.specs.Program.{names_of}
use Rattle.xd_syntax.specs.declared.patterns.PatternId.{PatternId}
use Rattle.xd_patterns.specs.CompiledProgram.{IsLinearPattern}
use Rattle.xd_boole.proofs.MoveBelowLemmas.{all_recursion}
use Rattle.xd_clauses.specs.Cases.{placed_patterns}
use Rattle.xd_clauses.specs.Clauses.{Accepted}
use Rattle.xd_clauses.proofs.NumberedLemmas.{last_numbered}
use Rattle.xd_clauses.proofs.cases.arriving.Goals as goal

pub compiled_of-requires : goal.compiled_of-requires
compiled_of-requires c =
    let L = IsLinearPattern c.args.sound.now.patterns in
    let e = c.args.earlier.now in
    let same = c.in_ok-push.ensures.items ∙ ap (λ (ids : List PatternId). ids ++ c.args.pattern ∷ []) (c.in_ok-ids.ensures.items_if_clones_equal (λ x y q. q)) in
    subst (λ (ids : List PatternId). AllByRecursion L ids) (sym same) (all_push L e c.args.pattern (all_recursion L e c.requires.earlier) c.requires.pattern)

pub left_behind-requires-clause-patterns : goal.left_behind-requires-clause-patterns
left_behind-requires-clause-patterns c = (names_of (program_tree c.args.sound.now), c.args.sound.now.patterns, c.in_ok-patterns.ensures.patterns)

pub left_behind-requires-clause-count : goal.left_behind-requires-clause-count
left_behind-requires-clause-count c =
    let e = c.args.earlier.now in
    let same = ap (λ (v : Vec PatternId _). v.items) c.in_ok-patterns.ensures.ids ∙ c.in_ok-push.ensures.items ∙ ap (λ (ids : List PatternId). ids ++ c.args.pattern ∷ []) (c.in_ok-ids.ensures.items_if_clones_equal (λ x y q. q)) in
    let count : length c.in_ok-patterns.patterns.ids.items ≡ length e + 1 = ap (λ (ids : List PatternId). length ids) same ∙ length-append e (c.args.pattern ∷ []) in
    omega arith

pub returns-clause-exact : goal.returns-clause-exact
returns-clause-exact c = λ d.
    let E = names_of (program_tree c.args.sound.now) in
    let rows = c.args.sound.now.patterns in
    let e = c.args.earlier.now in
    let same = ap (λ (v : Vec PatternId _). v.items) c.in_ok-patterns.ensures.ids ∙ c.in_ok-push.ensures.items ∙ ap (λ (ids : List PatternId). ids ++ c.args.pattern ∷ []) (c.in_ok-ids.ensures.items_if_clones_equal (λ x y q. q)) in
    let firsts = ap (λ (ids : List PatternId). take (length e) ids) same ∙ take-append_seam e (c.args.pattern ∷ []) in
    subst (λ (ids : List PatternId). Accepted c.in_ok-auto.auto c.in_ok-auto.state d ↔ (Accepted c.args.auto.now c.args.state d × NoneTakes E (placed_patterns rows ids) d)) firsts
    (c.in_ok-auto.ensures.exact E rows c.in_ok-patterns.ensures.patterns d)

pub returns-clause-pattern : goal.returns-clause-pattern
returns-clause-pattern c =
    let E = names_of (program_tree c.args.sound.now) in
    let rows = c.args.sound.now.patterns in
    let e = c.args.earlier.now in
    let same = ap (λ (v : Vec PatternId _). v.items) c.in_ok-patterns.ensures.ids ∙ c.in_ok-push.ensures.items ∙ ap (λ (ids : List PatternId). ids ++ c.args.pattern ∷ []) (c.in_ok-ids.ensures.items_if_clones_equal (λ x y q. q)) in
    last_numbered E rows c.in_ok-patterns.patterns c.in_ok-patterns.ensures.patterns e c.args.pattern same
