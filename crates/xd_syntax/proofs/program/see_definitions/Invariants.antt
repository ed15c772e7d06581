use Rattle.std.proofs.Common.{◌≡◌, true, drop}
use Rattle.std.specs.List.{AllByRecursion}
use Rattle.xd_doc.specs.Word.{is_word}
use Rattle.xd_syntax.specs.declared.types.TypeDef.{TypeDef}
use Rattle.xd_syntax.proofs.program.see_definitions.Given as goal

abbrev pub invariant-loop-def : goal.invariant-loop-def
invariant-loop-def l =
    AllByRecursion (λ (d : TypeDef). is_word d.name ≡ true) (drop l.def-index l.defs) → AllByRecursion (λ (d : TypeDef). is_word d.name ≡ true) l.defs
