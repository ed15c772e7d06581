use Rattle.xd_type_laws.proofs.Defined as law
use Rattle.xd_type_laws.proofs.definitions_read_back.Goals as goal

pub returns : goal.returns
returns c = record { definitions = law.definitions_read_back; kept = law.kept_definitions_read_back }
