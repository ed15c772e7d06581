use Rattle.xd_proof_write.proofs.TheLaw as law
use Rattle.xd_proof_write.proofs.laws.second_texts_read_back.Goals as goal

pub returns : goal.returns
returns c = record { read = law.second_texts_read_back; same = law.same_types_are_equal }
