use Rattle.std.proofs.Common.{◌≡◌, ◌+◌, ◌∙◌, ◌<◌, arith, List, Bool, length, ap, sym, subst}
use Rattle.xd_doc.proofs.Results.{on_ok}
use Rattle.xd_syntax.specs.Kept.{program_tree}
use Rattle.xd_syntax.specs.Program.{names_of}
use Rattle.xd_syntax.specs.declared.types.TypeId.{TypeId}
use Rattle.xd_proof_check.specs.GoalWalk.{Stands, empty_marked}
use Rattle.xd_proof_check.specs.Leaves.{GoalsBelong}
use Rattle.xd_moves.specs.Codes.{number_at}
use Rattle.xd_proof_check.proofs.AcceptLemmas.{marks_decide, stands}
use Rattle.xd_proof_check.proofs.GoalLemmas.{goal_found, goal_refused}
use Rattle.xd_proof_check.proofs.HeadLemmas.{numbers_within, rights_fit}
use Rattle.xd_proof_check.proofs.check.check_goal.Goals as goal

pub returns-then-not-empty_stands-clause-found : goal.returns-then-not-empty_stands-clause-found
returns-then-not-empty_stands-clause-found c =
    let p = c.args.program.now in
    let l = c.args.lister.now in
    let g = c.args.goal.now in
    let n = length c.as_slice-rights.result.now in
    λ gs lined z i.
    goal_refused p.types (names_of (program_tree p)) l.empty_marks.items (marks_decide p l c.requires.serves) gs g (g.line + 2 + n)
    (ap (λ (ids : List TypeId). g.line + 2 + length ids) c.as_slice-rights.ensures.value)
    (ap (λ (marks : List Bool). empty_marked marks g) (sym c.empty_marks.ensures) ∙ sym c.empty_stands.ensures ∙ c.if-not-empty_stands.true) lined i

pub check_cases_of-requires-clause-fits : goal.check_cases_of-requires-clause-fits
check_cases_of-requires-clause-fits c =
    let p = c.args.program.now in
    let l = c.goal_heads.new.lister in
    let s = c.in_ok-heads.ensures.serves in
    let q = c.widen.new.self in
    let w = c.in_ok-widen.ensures in
    let content : length l.cells < length q.content.items = omega (arith, w.content, c.bound.ensures) in
    let rest : length l.cells < length q.rest.items = omega (arith, w.rest, c.bound.ensures) in
    let h = c.in_ok-heads.ensures.heads in
    let numbers = c.numbers.result.now in
    let n : length numbers ≡ length p.types = ap length c.numbers.ensures ∙ s.count in
    record {
      belong = subst (λ k. GoalsBelong k c.args.goals.now) (sym n) c.requires.belong;
      rights = rights_fit p.types l.cells (names_of (program_tree p)) c.args.goal.now c.in_ok-heads.heads q h content rest;
      on_content = λ i. subst (λ ns. number_at ns i < length q.content.items) (sym c.numbers.ensures) (omega (arith, numbers_within p l s i));
      on_rest = λ i. subst (λ ns. number_at ns i < length q.rest.items) (sym c.numbers.ensures) (omega (arith, numbers_within p l s i));
      split = omega (arith, w.split, c.len.ensures);
      trees = c.requires.trees;
    }

pub returns-clause-found : goal.returns-clause-found
returns-clause-found c =
    let p = c.args.program.now in
    let E = names_of (program_tree p) in
    let goals = c.args.goals.now in
    let g = c.args.goal.now in
    let old = c.args.lister.now in
    let new = c.goal_heads.new.lister in
    let n = length c.as_slice-rights.result.now in
    goal_found p.types new.cells E goals old.empty_marks.items c.numbers.result.now g c.in_ok-heads.heads (g.line + 2 + n) (g.line + 2 + n + c.empty_lines.result) c.check_cases_of.result
    (marks_decide p old c.requires.serves)
    (λ gs z.
    subst (λ ns. Stands p.types new.cells gs (record { goals = goals; numbers = ns })) (sym c.numbers.ensures) (stands p new c.in_ok-heads.ensures.serves goals gs z))
    (ap (λ (ids : List TypeId). g.line + 2 + length ids) c.as_slice-rights.ensures.value) (ap (λ k. g.line + 2 + n + k) c.empty_lines.ensures.value)
    (ap (λ (marks : List Bool). empty_marked marks g) (sym c.empty_marks.ensures) ∙ sym c.empty_stands.ensures ∙ c.if-not-empty_stands.false)
    c.in_ok-heads.ensures.heads c.check_cases_of.ensures.found

pub check_cases_of-requires-clause-clear : goal.check_cases_of-requires-clause-clear
check_cases_of-requires-clause-clear c = c.in_ok-widen.ensures.clear

pub widen-requires : goal.widen-requires
widen-requires c = c.requires.clear

pub returns-then-not-empty_stands-clause-serves : goal.returns-then-not-empty_stands-clause-serves
returns-then-not-empty_stands-clause-serves c = c.requires.serves

pub goal_heads-requires-clause-belongs : goal.goal_heads-requires-clause-belongs
goal_heads-requires-clause-belongs c = c.requires.here

pub goal_heads-requires-clause-serves : goal.goal_heads-requires-clause-serves
goal_heads-requires-clause-serves c = c.requires.serves

pub returns-clause-serves : goal.returns-clause-serves
returns-clause-serves c = on_ok c.check_cases_of.result _ c.in_ok-heads.ensures.serves
