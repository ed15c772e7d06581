use Rattle.xd_heads.proofs.Mirrored as laws
use Rattle.xd_heads.proofs.types.mirrors_stay.Goals as goal

pub returns : goal.returns
returns c = laws.mirrors_stay
