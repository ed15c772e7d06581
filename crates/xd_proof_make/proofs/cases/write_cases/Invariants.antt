use Rattle.xd_proof_make.specs.Places.{new_numbers}
use Rattle.xd_proof_make.proofs.ReadCaseLemmas.{IsWriting}
use Rattle.xd_proof_make.proofs.cases.write_cases.Given as goal

abbrev pub invariant-loop-index : goal.invariant-loop-index
invariant-loop-index l =
    IsWriting l.table.nodes (new_numbers l.heads) l.goals l.sorts l.fn.elements l.choices l.index l.element l.text l.at_elements l.at_texts l.cases.items
