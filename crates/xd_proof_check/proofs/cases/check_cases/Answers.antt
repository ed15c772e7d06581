use Rattle.std.proofs.Common.{◌+◌, ◌∙◌, drop, ap, arith}
use Rattle.xd_laws.proofs.FirstWrong.{wrong_cases}
use Rattle.xd_proof_check.specs.CaseWalk.{cases_of}
use Rattle.xd_proof_check.proofs.CaseLemmas.{cases_done, cases_left, heads_done}
use Rattle.xd_proof_check.proofs.cases.check_cases.Goals as goal

pub returns-then-at-cases-clause-found : goal.returns-then-at-cases-clause-found
returns-then-at-cases-clause-found c =
    let v = cases_of c.args.cases.now in
    let at = c.loop-left.at in
    λ types cells E gs g line m.
    c.loop-left.invariant.found types cells E gs g line m
    ∙ ap (λ ws. wrong_cases E gs g (line + at) ws (drop at g.cases)) (heads_done types cells E gs g v c.args.path.now c.requires.fit m c.loop-left.left (omega (arith, c.loop-left-test.false)))
    ∙ cases_left types cells E gs g v c.args.path.now c.requires.fit m at (line + at) c.if-at-cases.true

pub returns-clause-found : goal.returns-clause-found
returns-clause-found c =
    let v = cases_of c.args.cases.now in
    let at = c.loop-left.at in
    λ types cells E gs g line m.
    c.loop-left.invariant.found types cells E gs g line m
    ∙ ap (λ ws. wrong_cases E gs g (line + at) ws (drop at g.cases)) (heads_done types cells E gs g v c.args.path.now c.requires.fit m c.loop-left.left (omega (arith, c.loop-left-test.false)))
    ∙ cases_done types cells E gs g v c.args.path.now c.requires.fit m at (line + at) c.if-at-cases.false
