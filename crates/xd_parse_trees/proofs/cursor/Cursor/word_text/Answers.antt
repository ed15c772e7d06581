use Rattle.xd_parse_trees.proofs.Keywords.{ahead_plain}
use Rattle.xd_parse_trees.proofs.cursor.Cursor.word_text.Goals as goal

pub returns-in-Word-clause-plain : goal.returns-in-Word-clause-plain
returns-in-Word-clause-plain c = ahead_plain c.self.inside.next c.in-Some.ahead c.self.inside.lexer c.self.invariant c.in-Some.is c.in-Word.is
