-- Matchers, while the store grows.
use Rattle.std.proofs.Common.{get_or}
use Rattle.xd_doc.specs.Document.{Document}
use Rattle.xd_doc.specs.StoreNodes.{Keeps}
use Rattle.std.proofs.Common.{List}
use Rattle.xd_auto.proofs.KeepsAnswerLemmas.{stay_right_for_store}
use Rattle.xd_syntax.specs.Kept.{ProgramTable}
use Rattle.xd_match.specs.declared.matcher.Matcher.{Matcher}
use Rattle.xd_match.specs.declared.matchers.Matchers.{Matchers}
use Rattle.xd_match.specs.Matcher.{Stands}
use Rattle.xd_match.specs.Serving.{Serves}

pub stands_stay : (m : Matcher) (old new : List Document) → Stands old m → Keeps old new → Stands new m
stands_stay m old new s k = record { compiled = s.compiled; right = stay_right_for_store m.answers m.compiled.auto old new k s.right }

pub serves_stays : (m : Matchers) (p : ProgramTable) (old new : List Document) → Serves p old m → Keeps old new → Serves p new m
serves_stays m p old new s k =
    record { meanings = s.meanings; stand = λ i e lt. stands_stay (get_or m.matchers.items i e) old new (s.stand i e lt) k; numbered = s.numbered }
