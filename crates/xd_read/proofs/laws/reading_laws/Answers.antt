use Rattle.xd_read.proofs.Machine.{one_document}
use Rattle.xd_read.proofs.CanonicalSpells.{canonical_text_spells}
use Rattle.xd_read.proofs.OneFault.{malformed_at_one_place}
use Rattle.xd_read.proofs.Runs.{malformed_spells_nothing}
use Rattle.xd_read.proofs.laws.reading_laws.Goals as goal

pub returns : goal.returns
returns c = record {
  canonical = canonical_text_spells;
  unique = λ bytes d e p q. one_document _ d e p.spells q.spells;
  one_place = malformed_at_one_place;
  nothing = malformed_spells_nothing;
  read_back = λ d e h s. one_document _ e d s.spells (canonical_text_spells d h).spells;
}
