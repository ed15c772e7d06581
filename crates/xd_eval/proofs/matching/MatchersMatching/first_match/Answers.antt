use Rattle.std.proofs.Common.{IfOk, sym, subst}
use Rattle.xd_doc.specs.Stored.{document_at}
use Rattle.xd_syntax.specs.Tree.{Tree}
use Rattle.xd_meaning.specs.Bindings.{first_bindings}
use Rattle.xd_syntax.specs.Kept.{program_tree}
use Rattle.xd_syntax.specs.Program.{names_of}
use Rattle.xd_syntax.proofs.PlacedTrees.{unplaced_at}
use Rattle.xd_pattern_runs.specs.Linear.{IsLinear}
use Rattle.xd_match.specs.Matches.{AreBindings}
use Rattle.xd_eval.proofs.matching.MatchersMatching.first_match.Goals as goal

pub first_way-requires-clause-linear : goal.first_way-requires-clause-linear
first_way-requires-clause-linear c = subst IsLinear (unplaced_at c.args.sound.now.patterns c.args.pattern.at) c.requires.linear

pub returns-clause-found : goal.returns-clause-found
returns-clause-found c =
    subst (λ (T : Tree). IfOk c.first_way.result (AreBindings c.first_way.new.store (first_bindings (names_of (program_tree c.args.sound.now)) T (document_at c.args.store.now c.args.seq))))
    (sym (unplaced_at c.args.sound.now.patterns c.args.pattern.at)) c.first_way.ensures.found
