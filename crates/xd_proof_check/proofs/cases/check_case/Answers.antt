use Rattle.std.proofs.Common.{◌∙◌, ◌+◌, get_or, ap, sym}
use Rattle.xd_heads.specs.declared.lister.NumberedHead.{NumberedHead}
use Rattle.xd_proof_check.specs.CaseWalk.{cases_of}
use Rattle.xd_proof_check.specs.Paths.{IsClear}
use Rattle.xd_proof_check.proofs.CaseLemmas.{case_missing, case_other, case_says, fits_setting, tree_at_case, tree_clears}
use Rattle.xd_proof_check.proofs.cases.check_case.Goals as goal

pub returns-in_default-clause-found : goal.returns-in_default-clause-found
returns-in_default-clause-found c =
    let v = cases_of c.args.cases.now in
    λ types cells E gs g line ws m. case_missing types cells E gs g v c.args.path.now c.requires.fit m c.args.at line (c.args.left + 1, c.args.atom.now) ws c.in_default.ensures.lookup.3

pub returns-then-not-is_wanted-clause-found : goal.returns-then-not-is_wanted-clause-found
returns-then-not-is_wanted-clause-found c =
    let v = cases_of c.args.cases.now in
    let made = c.in-Some.case.now in
    let l = c.in-Some.ensures.lookup.3 in
    λ types cells E gs g line ws m.
    case_other types cells E gs g v c.args.path.now c.requires.fit m c.args.at line (c.args.left + 1) c.args.atom.now ws made made l.0 (l.1 made)
    (sym c.is_wanted.ensures ∙ c.if-not-is_wanted.true)

pub check_tree-requires-clause-setting : goal.check_tree-requires-clause-setting
check_tree-requires-clause-setting c =
    let v = cases_of c.args.cases.now in
    let k = fits_setting v c.in-Some.case.now.atom c.index-cases-left.result c.args.path.now c.requires.fit in
    record { belong = k.belong; contents = k.contents; rests = k.rests; heads = k.heads; room = k.room }

pub returns-clause-found : goal.returns-clause-found
returns-clause-found c =
    let v = cases_of c.args.cases.now in
    let made = c.in-Some.case.now in
    let l = c.in-Some.ensures.lookup.3 in
    case_says v c.args.path.now c.requires.fit c.args.at c.args.left c.args.atom.now made c.index-cases-left.result (get_or v.left c.args.left c.index-cases-left.result).content (get_or v.left c.args.left c.index-cases-left.result).rest
    c.deref.result.now c.check_tree.result l.0 c.requires.left (l.1 made) c.index-cases-left.is
    (ap (λ (h : NumberedHead). h.content) (sym c.index-cases-left.is)) (ap (λ (h : NumberedHead). h.rest) (sym c.index-cases-left.is)) c.deref.ensures.value
    (sym c.is_wanted.ensures ∙ c.if-not-is_wanted.false) c.check_tree.ensures.found

pub returns-clause-clear : goal.returns-clause-clear
returns-clause-clear c =
    let v = cases_of c.args.cases.now in
    let made = c.in-Some.case.now in
    let l = c.in-Some.ensures.lookup.3 in
    let t = tree_at_case v.cases c.args.at made c.requires.fit.trees l.0 (l.1 made) in
    tree_clears (IsClear c.check_tree.new.path) c.deref.result.now t.0 c.check_tree.result (c.deref.ensures.value ∙ t.1) c.check_tree.ensures.clear
