use Rattle.std.proofs.Common.{subst, sym}
use Rattle.xd_doc.proofs.StoredLemmas.{Keeps-same, Keeps-trans}
use Rattle.xd_doc.specs.StoreNodes.{Keeps}
use Rattle.xd_command_programs.proofs.command.sample.person.Goals.{then-number-ne0+in_ok-made, else-number-ne0}
use Rattle.xd_command_programs.proofs.command.sample.person.Goals as goal

pub returns-clause-keeps : goal.returns-clause-keeps
returns-clause-keeps c =
    let O = c.args.store.now in
    let J = c.if-number-ne0.store in
    let joined : Keeps O J = elim c.if-number-ne0.branch [
      | then-number-ne0+in_ok-made w ↦ subst (Keeps O) (sym w.store-is) w.in_ok-made.ensures.keeps
      | else-number-ne0 w ↦ subst (Keeps O) (sym w.store-is) (Keeps-same O)
    ] in
    Keeps-trans O J c.field-3.new.store joined (Keeps-trans J c.field-2.new.store c.field-3.new.store c.field-2.ensures.keeps c.field-3.ensures.keeps)

pub returns-in_err-made-2-clause-keeps : goal.returns-in_err-made-2-clause-keeps
returns-in_err-made-2-clause-keeps c =
    let O = c.args.store.now in
    let J = c.if-number-ne0.store in
    let joined : Keeps O J = elim c.if-number-ne0.branch [
      | then-number-ne0+in_ok-made w ↦ subst (Keeps O) (sym w.store-is) w.in_ok-made.ensures.keeps
      | else-number-ne0 w ↦ subst (Keeps O) (sym w.store-is) (Keeps-same O)
    ] in
    Keeps-trans O J c.field-2.new.store joined c.field-2.ensures.keeps
