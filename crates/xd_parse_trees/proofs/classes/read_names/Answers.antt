use Rattle.std.proofs.Common.{List, subst}
use Rattle.xd_lex.specs.Tokens.{Lexeme}
use Rattle.xd_parse_trees.specs.Reading.{ReadsListed}
use Rattle.xd_parse_trees.proofs.ClassRows.{names_reads}
use Rattle.xd_parse_trees.proofs.classes.read_names.Goals as goal

pub returns-clause-reads : goal.returns-clause-reads
returns-clause-reads c =
    rw (c.step.ensures.left, c.step-place.ensures.place)
    (names_reads c.args.cursor.now c.read_listed.new.cursor c.in_ok-names.names.items (subst (λ (x : List Lexeme). ReadsListed x c.read_listed.new.cursor c.in_ok-names.names.items) c.step-place.ensures.left c.in_ok-names.ensures.reads))
