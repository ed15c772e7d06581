use Rattle.xd_proof_check.proofs.walk.take_step.Goals as goal

pub returns-in-Content-clause-found : goal.returns-in-Content-clause-found
returns-in-Content-clause-found c = rw c.in-Content.is c.content_step.ensures.found

pub returns-in-Content-clause-path : goal.returns-in-Content-clause-path
returns-in-Content-clause-path c = rw c.in-Content.is c.content_step.ensures.path

pub returns-in-Content-clause-keeps : goal.returns-in-Content-clause-keeps
returns-in-Content-clause-keeps c = c.content_step.ensures.keeps

pub returns-in-Rest-clause-found : goal.returns-in-Rest-clause-found
returns-in-Rest-clause-found c = rw c.in-Rest.is c.rest_step.ensures.found

pub returns-in-Rest-clause-path : goal.returns-in-Rest-clause-path
returns-in-Rest-clause-path c = rw c.in-Rest.is c.rest_step.ensures.path

pub returns-in-Rest-clause-keeps : goal.returns-in-Rest-clause-keeps
returns-in-Rest-clause-keeps c = c.rest_step.ensures.keeps

pub returns-in-Split-clause-found : goal.returns-in-Split-clause-found
returns-in-Split-clause-found c = rw c.in-Split.is c.split_step.ensures.found

pub returns-in-Split-clause-path : goal.returns-in-Split-clause-path
returns-in-Split-clause-path c = rw c.in-Split.is c.split_step.ensures.path

pub returns-in-Split-clause-keeps : goal.returns-in-Split-clause-keeps
returns-in-Split-clause-keeps c = c.split_step.ensures.keeps
