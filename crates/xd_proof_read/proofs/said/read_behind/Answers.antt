use Rattle.xd_proof_read.specs.declared.said.Keyword.TheVariants as keywords
use Rattle.xd_proof_read.proofs.LineFacts.{begins_as, count_said, goal_said, left_said, right_said, empty_said, case_said}
use Rattle.xd_proof_read.proofs.said.read_behind.Goals as goal

pub returns-in-Some-clause-said : goal.returns-in-Some-clause-said
returns-in-Some-clause-said c =
    count_said c.args.sound.now c.args.naming.now c.args.line.now c.args.behind.now c.args.sound.now.types c.in-Some.count
    (begins_as c.args.line.now c.args.behind.now c.args.keyword keywords.Goals c.requires.line c.in-Goals.is) c.in-Some.ensures

pub returns-in-Some-read_number-clause-said : goal.returns-in-Some-read_number-clause-said
returns-in-Some-read_number-clause-said c =
    goal_said c.args.sound.now c.args.naming.now c.args.line.now c.args.behind.now c.args.sound.now.types c.in-Some-read_number.number
    (begins_as c.args.line.now c.args.behind.now c.args.keyword keywords.Goal c.requires.line c.in-Goal.is) c.in-Some-read_number.ensures

pub returns-in-Some-2-clause-said : goal.returns-in-Some-2-clause-said
returns-in-Some-2-clause-said c =
    left_said c.args.sound.now c.args.naming.now c.args.line.now c.args.behind.now c.read.new.sound.types c.in-Some-2.left
    (begins_as c.args.line.now c.args.behind.now c.args.keyword keywords.Left c.requires.line c.in-Left.is) (rw c.in-Some-2.is at c.in_ok-left-in-Left.ensures.read)

pub returns-in-Some-3-clause-said : goal.returns-in-Some-3-clause-said
returns-in-Some-3-clause-said c =
    right_said c.args.sound.now c.args.naming.now c.args.line.now c.args.behind.now c.read-in-Right.new.sound.types c.in-Some-3.right
    (begins_as c.args.line.now c.args.behind.now c.args.keyword keywords.Right c.requires.line c.in-Right.is) (rw c.in-Some-3.is at c.in_ok-right-in-Right.ensures.read)

pub returns-in-Some-read_number-2-clause-said : goal.returns-in-Some-read_number-2-clause-said
returns-in-Some-read_number-2-clause-said c =
    empty_said c.args.sound.now c.args.naming.now c.args.line.now c.args.behind.now c.args.sound.now.types c.in-Some-read_number-2.number
    (begins_as c.args.line.now c.args.behind.now c.args.keyword keywords.Empty c.requires.line c.in-Empty.is) c.in-Some-read_number-2.ensures

pub returns-in-Some-4-clause-said : goal.returns-in-Some-4-clause-said
returns-in-Some-4-clause-said c =
    case_said c.args.sound.now c.args.naming.now c.args.line.now c.args.behind.now c.args.sound.now.types c.in-Some-4.case (rw c.in-Some-4.is at c.in_ok-case-in-Case.ensures)
