use Rattle.std.proofs.lemmas.Result.{IfOk-from_err}
use Rattle.std.proofs.Common.{sym, subst}
use Rattle.xd_doc.proofs.StoredLemmas.{Keeps-same}
use Rattle.xd_syntax.specs.Kept.{ProgramTable, program_tree}
use Rattle.xd_syntax.specs.Program.{ProgramTree}
use Rattle.xd_check.specs.Outcome.{AreTold}
use Rattle.xd_check.proofs.outcome.check_in.Goals as goal

pub told_by-requires : goal.told_by-requires
told_by-requires c = c.in_ok-checker.ensures.ready

pub outcome_of-requires : goal.outcome_of-requires
outcome_of-requires c =
    (c.told_by.new.store, subst (λ (p : ProgramTable). AreTold (program_tree p) c.told_by.new.store c.in_ok-told.told) (sym c.into_sound.ensures) c.in_ok-told.ensures.told)

pub returns : goal.returns
returns c =
    record {
      outcome =
          let ds = c.told_by.new.store in
          let same = c.in_ok-checker.ensures.same in
          c.outcome_of.ensures c.args.sound ds (subst (λ (P : ProgramTree). AreTold P ds c.in_ok-told.told) same c.in_ok-told.ensures.told)
          (rw c.into_sound.ensures c.in_ok-checker.ensures.adds) (rw c.into_sound.ensures same);
      keeps = c.in_ok-told.ensures.keeps;
    }

pub returns-in_err-checker : goal.returns-in_err-checker
returns-in_err-checker c =
    let e = c.from_residual.ensures.0 in
    let r = c.from_residual.result in
    record {
      outcome = IfOk-from_err r _ e;
      keeps = Keeps-same c.args.store.now;
    }

pub returns-in_err-told : goal.returns-in_err-told
returns-in_err-told c =
    let e = c.from_residual-in_err-told.ensures.0 in
    let r = c.from_residual-in_err-told.result in
    record {
      outcome = IfOk-from_err r _ e;
      keeps = c.told_by.ensures.keeps;
    }
