use Rattle.std.proofs.Common.{◌+◌, ◌∙◌, ◌++◌, suc, drop, ap, arith, ◌≡◌, add-one, sym, ◌<◌, length}
use Rattle.std.proofs.lemmas.List.{drop_all}
use Rattle.xd_meaning.specs.Heads.{heads}
use Rattle.xd_meaning.specs.Consistent.{right_heads}
use Rattle.xd_rules.specs.Heads.{named_in}
use Rattle.xd_rules.specs.Rules.{atoms_from}
use Rattle.xd_proof_check.specs.CaseWalk.{cases_of, wrong_after}
use Rattle.xd_proof_check.proofs.PathLemmas.{keeps_then}
use Rattle.xd_laws.proofs.FirstWrong.{wrong_cases}
use Rattle.xd_proof_check.proofs.CaseLemmas.{head_start, named_for, wanted_next, wanted_of, fits_kept}
use Rattle.xd_proof_check.proofs.cases.head_cases.Goals as goal

pub atoms_of-requires : goal.atoms_of-requires
atoms_of-requires c = named_for c.args.cases.now.left.now c.args.cases.now.rights.now c.args.named.now c.requires.named c.args.left c.index-cases-left.result c.requires.left

pub returns-in-Some-clause-found : goal.returns-in-Some-clause-found
returns-in-Some-clause-found c =
    let v = cases_of c.args.cases.now in
    let left = c.args.left in
    let items = c.deref-atom-items.result.now in
    let i = c.loop-atom.atom-index in
    let a = c.atom-item.result in
    let at = c.loop-atom.at in
    λ types cells E gs g line m.
    let rest = atoms_from (named_in (heads E g.left ++ right_heads E g)) (left + 1 + 1) (drop (left + 1) (heads E g.left)) in
    ap (λ ws. wrong_cases E gs g (line + c.args.at) ws (drop c.args.at g.cases))
    (head_start types cells E gs g v c.args.path.now c.requires.fit m c.args.named.now c.requires.named left c.index-cases-left.result c.requires.left c.in_ok-atoms.atoms.items items c.in_ok-atoms.ensures
    c.deref-atom-items.ensures.value)
    ∙ c.loop-atom.invariant.found types cells E gs g line rest m
    ∙ ap (λ ws. wrong_cases E gs g (line + at) ws (drop at g.cases)) (wanted_next (left + 1) items i a rest c.loop-atom-test.true c.atom-item.is)
    ∙ c.in_ok-reason.ensures.found types cells E gs g (line + at) (wanted_of (left + 1) (drop (suc i) items) ++ rest) m
    ∙ ap (λ o. wrong_after (line + at) o (wrong_cases E gs g (line + at + 1) (wanted_of (left + 1) (drop (suc i) items) ++ rest) (drop (at + 1) g.cases))) c.in-Some.is

pub returns-clause-found : goal.returns-clause-found
returns-clause-found c =
    let v = cases_of c.args.cases.now in
    let left = c.args.left in
    let items = c.deref-atom-items.result.now in
    let i = c.loop-atom.atom-index in
    let at = c.loop-atom.at in
    λ types cells E gs g line m.
    let rest = atoms_from (named_in (heads E g.left ++ right_heads E g)) (left + 1 + 1) (drop (left + 1) (heads E g.left)) in
    ap (λ ws. wrong_cases E gs g (line + c.args.at) ws (drop c.args.at g.cases))
    (head_start types cells E gs g v c.args.path.now c.requires.fit m c.args.named.now c.requires.named left c.index-cases-left.result c.requires.left c.in_ok-atoms.atoms.items items c.in_ok-atoms.ensures
    c.deref-atom-items.ensures.value)
    ∙ c.loop-atom.invariant.found types cells E gs g line rest m
    ∙ ap (λ xs. wrong_cases E gs g (line + at) (wanted_of (left + 1) xs ++ rest) (drop at g.cases)) (drop_all i items (omega (arith, c.loop-atom-test.false)))

pub loop-atom-preserved : goal.loop-atom-preserved
loop-atom-preserved c =
    let v = cases_of c.args.cases.now in
    let left = c.args.left in
    let items = c.deref-atom-items.result.now in
    let i = c.loop-atom.atom-index in
    let at = c.loop-atom.at in
    let w : at < length c.args.cases.now.cases.now = rw c.in_default.is at c.in_ok-reason.ensures.within in
    let k = rw c.in_default.is at c.in_ok-reason.ensures.keeps in
    record {
      fit = fits_kept v c.loop-atom.path c.check_case.new.path k c.loop-atom.invariant.fit;
      clear = rw c.in_default.is at c.in_ok-reason.ensures.clear;
      within = omega arith;
      keeps = keeps_then c.args.path.now c.loop-atom.path c.check_case.new.path c.loop-atom.invariant.keeps k;
      found = λ types cells E gs g line ws m.
          let n : line + at + 1 ≡ line + (at + 1) = omega arith in
          c.loop-atom.invariant.found types cells E gs g line ws m
          ∙ ap (λ xs. wrong_cases E gs g (line + at) xs (drop at g.cases)) (wanted_next (left + 1) items i c.atom-item.result ws c.loop-atom-test.true c.atom-item.is)
          ∙ c.in_ok-reason.ensures.found types cells E gs g (line + at) (wanted_of (left + 1) (drop (suc i) items) ++ ws) m
          ∙ ap (λ o. wrong_after (line + at) o (wrong_cases E gs g (line + at + 1) (wanted_of (left + 1) (drop (suc i) items) ++ ws) (drop (at + 1) g.cases))) c.in_default.is
          ∙ ap (λ l. wrong_cases E gs g l (wanted_of (left + 1) (drop (suc i) items) ++ ws) (drop (at + 1) g.cases)) n
          ∙ ap (λ j. wrong_cases E gs g (line + (at + 1)) (wanted_of (left + 1) (drop j items) ++ ws) (drop (at + 1) g.cases)) (sym (add-one i));
    }
