-- What is known stays known.
use Rattle.std.proofs.Common.{List, Option}
use Rattle.xd_doc.specs.Document.{Document}
use Rattle.xd_doc.specs.StoreNodes.{Keeps}
use Rattle.xd_auto.specs.Automaton.{Automaton}
use Rattle.xd_least.specs.Least.{Knows}
use Rattle.xd_least.proofs.KnownLemmas.{stays_known}
use Rattle.xd_least.specs.declared.document.LeastDocument.{LeastDocument}
use Rattle.xd_goals.specs.Rows.{TableView}
use Rattle.xd_goals.specs.Standing.{StandsOn}
use Rattle.xd_goals.proofs.Facts.{stands_on-keeps}
use Rattle.xd_goals.proofs.StandsOnLemmas.{longer, stands_on-extends}
use Rattle.xd_check_steps.specs.Known.{IsKnown}
use Rattle.xd_check_steps.specs.declared.known.Known.{Known}
use Rattle.xd_check_steps.specs.States.{Grows}
use Rattle.xd_check_steps.proofs.GrowsLemmas.{grows_none}

table_kept : (a b : Automaton) (ds es : List Document) (t : TableView) → Grows a b → Keeps ds es → StandsOn a ds t → StandsOn b es t
table_kept a b ds es t g q h = stands_on-keeps b ds es t q (stands_on-extends a b g.extends g.keeps (longer a b g.extends) ds t h)

pub known_kept : (a b : Automaton) (ds es : List Document) (k : Known) → Grows a b → Keeps ds es → IsKnown a ds k → IsKnown b es k
known_kept a b ds es k g q h = record {
  inhabitants = stays_known k.inhabitants a b ds es g.extends q h.inhabitants;
  table = table_kept a b ds es k.table g q h.table;
}

-- more is known of the states
pub known_learnt : (a b : Automaton) (ds es : List Document) (k : Known) (m : List (Option LeastDocument)) → Grows a b → Keeps ds es → IsKnown a ds k → Knows b es m → IsKnown b es (record { inhabitants = m; table = k.table })
known_learnt a b ds es k m g q h n = record { inhabitants = n; table = table_kept a b ds es k.table g q h.table }

-- more goals are known
pub known_decided : (a : Automaton) (ds es : List Document) (k : Known) (t : TableView) → Keeps ds es → IsKnown a ds k → StandsOn a es t → IsKnown a es (record { inhabitants = k.inhabitants; table = t })
known_decided a ds es k t q h s = record { inhabitants = stays_known k.inhabitants a a ds es (let g = grows_none a in g.extends) q h.inhabitants; table = s }
