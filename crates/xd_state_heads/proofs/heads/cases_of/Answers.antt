use Rattle.std.proofs.Common.{map}
use Rattle.xd_doc.proofs.Lists.{all_parts}
use Rattle.xd_auto.specs.Automaton.{moves_at}
use Rattle.xd_state_heads.specs.Moves.{label_head, text_head}
use Rattle.xd_state_heads.specs.Wants.{IsHeadNamed, names_in}
use Rattle.xd_state_heads.proofs.IsHeadNamedLemmas.{both_kinds}
use Rattle.xd_state_heads.proofs.heads.cases_of.Goals as goal

pub add_cases-requires-clause-named : goal.add_cases-requires-clause-named
add_cases-requires-clause-named c = (all_parts (IsHeadNamed (names_in c.args.unnamed.now.labels c.args.unnamed.now.texts)) (map label_head (moves_at c.args.auto.now c.args.left).labels) (map text_head (moves_at c.args.auto.now c.args.left).texts) c.requires.named).0

pub add_cases-requires-2-clause-named : goal.add_cases-requires-2-clause-named
add_cases-requires-2-clause-named c = (all_parts (IsHeadNamed (names_in c.args.unnamed.now.labels c.args.unnamed.now.texts)) (map label_head (moves_at c.args.auto.now c.args.left).labels) (map text_head (moves_at c.args.auto.now c.args.left).texts) c.requires.named).1

pub returns : goal.returns
returns c =
    both_kinds (names_in c.args.unnamed.now.labels c.args.unnamed.now.texts) c.args.auto.now c.args.left c.add_cases.new.cases.items c.add_cases-2.new.cases.items (rw c.new-cases.ensures.items at c.in_ok-add_cases.ensures)
    (rw c.label_moves-labels.ensures.value at c.in_ok-add_cases-2.ensures)
