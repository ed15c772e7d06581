use Rattle.std.proofs.Common.{◌≡◌, [], ap, sym, subst, ◌∙◌, vec_len, arith, rules}
use Rattle.std.proofs.lemmas.List.{nil_from_length}
use Rattle.std.proofs.lemmas.Bool.Decides.{nat_tests}
use Rattle.xd_least.specs.Least.{size_limit}
use Rattle.xd_syntax.specs.Kept.{AddsTypes, ProgramTable, program_tree}
use Rattle.xd_laws.proofs.LeastLines.{lines_without_fault}
use Rattle.xd_check.proofs.Outcomes.{no_fault, some_fault}
use Rattle.xd_check.proofs.outcome.outcome_of.Goals as goal

pub returns-then-not-is_empty : goal.returns-then-not-is_empty
returns-then-not-is_empty c = λ given ds t adds same.
    (t.0, t.1, some_fault ds t.0 c.args.told.faults.items t.2 (λ e. (let z : vec_len c.args.told.faults ≡ 0 = search rules in let n = c.is_empty.ensures in let m = c.if-not-is_empty.true in grind arith)), t.2, t.3)

pub new-requires : goal.new-requires
new-requires c =
    let v = c.args.told.faults in
    let none : v.items ≡ [] = nil_from_length v.items (let t = sym c.is_empty.ensures ∙ c.if-not-is_empty.false in let z : vec_len v ≡ 0 = grind (arith, nat_tests) in search rules) in
    let t = c.requires.1 in
    let accepted = no_fault c.requires.0 t.0 v.items t.2 none in
    (t.0, lines_without_fault size_limit (program_tree c.args.sound) t.0 accepted t.1, accepted)

pub returns : goal.returns
returns c = λ given ds t adds same.
    let v = c.args.told.faults in
    let none : v.items ≡ [] = nil_from_length v.items (let t = sym c.is_empty.ensures ∙ c.if-not-is_empty.false in let z : vec_len v ≡ 0 = grind (arith, nat_tests) in search rules) in
    let accepted = no_fault ds t.0 v.items t.2 none in
    (t.0, lines_without_fault size_limit (program_tree given) t.0 accepted t.1, accepted, t.3, subst (λ (p : ProgramTable). AddsTypes given p) (sym c.new.ensures) adds, ap program_tree c.new.ensures ∙ same)
