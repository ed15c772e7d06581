use Rattle.xd_type_laws.proofs.TheLaw as law
use Rattle.xd_type_laws.proofs.Tables as tables
use Rattle.xd_type_laws.proofs.types_read_back.Goals as goal

pub returns : goal.returns
returns c = record { types = law.types_read_back; nodes = tables.nodes_read_back }
