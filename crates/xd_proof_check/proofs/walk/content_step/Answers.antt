use Rattle.xd_proof_check.proofs.walk.content_step.Goals as goal

pub next_branch-requires-clause-room : goal.next_branch-requires-clause-room
next_branch-requires-clause-room c = c.requires.setting.room

pub next_branch-requires-clause-path : goal.next_branch-requires-clause-path
next_branch-requires-clause-path c = c.requires.path

pub leaf_stands-requires-clause-room : goal.leaf_stands-requires-clause-room
leaf_stands-requires-clause-room c = rw c.deref.ensures.value c.requires.setting.contents

pub returns-clause-path : goal.returns-clause-path
returns-clause-path c = (c.in_ok-next_branch.ensures.path, c.in_ok-next_branch.ensures.turns)

pub returns-clause-keeps : goal.returns-clause-keeps
returns-clause-keeps c = c.in_ok-next_branch.ensures.keeps
