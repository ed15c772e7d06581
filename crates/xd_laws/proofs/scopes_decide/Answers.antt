use Rattle.xd_laws.proofs.SameScopes.{more_is_allowed, scopes_decide_may, scopes_decide_lines}
use Rattle.xd_laws.proofs.scopes_decide.Goals as goal

pub returns : goal.returns
returns c = record { more = more_is_allowed; documents = scopes_decide_may; lines = scopes_decide_lines }
