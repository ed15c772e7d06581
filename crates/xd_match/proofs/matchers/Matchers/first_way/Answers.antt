use Rattle.xd_syntax.specs.Kept.{program_tree}
use Rattle.xd_syntax.specs.Program.{names_of}
use Rattle.xd_syntax.specs.Table.{tree_at}
use Rattle.xd_syntax.specs.Patterns.{pattern_tree}
use Rattle.xd_match.proofs.matchers.Matchers.first_way.Goals as goal

pub returns-in_err-number-clause-serves : goal.returns-in_err-number-clause-serves
returns-in_err-number-clause-serves c = record {
  meanings = c.number_of.ensures.meanings;
  stand = c.number_of.ensures.stand c.args.store.now c.requires.serves.stand;
  numbered = c.number_of.ensures.numbered;
}

pub first_way_of-requires-clause-stand : goal.first_way_of-requires-clause-stand
first_way_of-requires-clause-stand c = c.number_of.ensures.stand c.args.store.now c.requires.serves.stand

pub returns-clause-found : goal.returns-clause-found
returns-clause-found c = c.first_way_of.ensures.found (names_of (program_tree c.args.sound.now)) (pattern_tree c.args.sound.now.patterns c.args.pattern) c.in_ok-number.ensures.found

pub returns-clause-serves : goal.returns-clause-serves
returns-clause-serves c = record {
  meanings = c.number_of.ensures.meanings;
  stand = c.first_way_of.ensures.stand;
  numbered = λ n i e. c.first_way_of.ensures.same (names_of (program_tree c.args.sound.now)) (tree_at c.args.sound.now.patterns n) i (c.number_of.ensures.numbered n i e);
}
