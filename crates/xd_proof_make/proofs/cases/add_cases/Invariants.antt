use Rattle.std.proofs.Common.{◌≡◌, ◌++◌, List, take}
use Rattle.std.specs.List.{AllZip}
use Rattle.xd_proof.specs.declared.cases.ReadCase.{ReadCase}
use Rattle.xd_proof_make.specs.Places.{new_numbers}
use Rattle.xd_proof_make.specs.Ordered.{IsMadeOf}
use Rattle.xd_proof_make.proofs.cases.add_cases.Given as goal

abbrev pub invariant-loop-choice : goal.invariant-loop-choice
invariant-loop-choice l = (more : List ReadCase) × (l.cases.items ≡ l.initial.cases.items ++ more) × AllZip (IsMadeOf l.table.nodes (new_numbers l.heads) l.goals l.head) (take l.choice-index l.choices) more
