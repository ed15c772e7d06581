use Rattle.std.proofs.Common.{◌≡◌, true, drop}
use Rattle.std.specs.List.{AllByRecursion}
use Rattle.xd_doc.specs.Word.{is_word}
use Rattle.xd_syntax.specs.declared.program.Param.{Param}
use Rattle.xd_syntax.proofs.program.see_parameters.Given as goal

abbrev pub invariant-loop-param : goal.invariant-loop-param
invariant-loop-param l =
    AllByRecursion (λ (q : Param). is_word q.name ≡ true) (drop l.param-index l.params) → AllByRecursion (λ (q : Param). is_word q.name ≡ true) l.params
