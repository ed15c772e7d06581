use Rattle.std.proofs.Common.{sym}
use Rattle.xd_grammar.proofs.Courses.{main_advances, listed_advances, both_advances}
use Rattle.xd_grammar.proofs.machine.advance.Goals as goal

pub returns-in-Both : goal.returns-in-Both
returns-in-Both c = both_advances _ _ _ _ _ (sym c.in-Both.ensures)

pub returns-in_ok-step-in-Main : goal.returns-in_ok-step-in-Main
returns-in_ok-step-in-Main c = main_advances _ _ _ _ _ _ _ (sym c.in-Main.ensures) (rw c.in_ok-push_main-in-Main.ensures at c.in_ok-step-in-Main.ensures)

pub returns-in_ok-step-in-Listed : goal.returns-in_ok-step-in-Listed
returns-in_ok-step-in-Listed c = listed_advances _ _ _ _ _ _ _ (sym c.in-Listed.ensures) (rw c.in_ok-push_listed-in-Listed.ensures at c.in_ok-step-in-Listed.ensures)
