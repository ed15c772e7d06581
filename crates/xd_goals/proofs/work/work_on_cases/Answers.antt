use Rattle.xd_goals.proofs.work.work_on_cases.Goals as goal

pub returns-then-is_empty-clause-progresses : goal.returns-then-is_empty-clause-progresses
returns-then-is_empty-clause-progresses c = c.begin_goal.ensures.progresses

pub returns-then-is_empty-clause-settles : goal.returns-then-is_empty-clause-settles
returns-then-is_empty-clause-settles c = c.begin_goal.ensures.settles

pub returns-else-is_empty-clause-progresses : goal.returns-else-is_empty-clause-progresses
returns-else-is_empty-clause-progresses c = c.mend_goal.ensures.progresses

pub returns-else-is_empty-clause-settles : goal.returns-else-is_empty-clause-settles
returns-else-is_empty-clause-settles c = c.mend_goal.ensures.settles

pub begin_goal-requires-clause-can : goal.begin_goal-requires-clause-can
begin_goal-requires-clause-can c = c.requires.can

pub begin_goal-requires-clause-waits : goal.begin_goal-requires-clause-waits
begin_goal-requires-clause-waits c = c.requires.waits

pub begin_goal-requires-clause-claim : goal.begin_goal-requires-clause-claim
begin_goal-requires-clause-claim c = c.requires.claim

pub begin_goal-requires-clause-last : goal.begin_goal-requires-clause-last
begin_goal-requires-clause-last c = c.requires.last

pub mend_goal-requires-clause-can : goal.mend_goal-requires-clause-can
mend_goal-requires-clause-can c = c.requires.can

pub mend_goal-requires-clause-waits : goal.mend_goal-requires-clause-waits
mend_goal-requires-clause-waits c = c.requires.waits

pub mend_goal-requires-clause-claim : goal.mend_goal-requires-clause-claim
mend_goal-requires-clause-claim c = c.requires.claim
