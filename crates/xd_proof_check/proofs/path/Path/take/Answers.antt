use Rattle.std.proofs.Common.{slice_index, arith, rules}
use Rattle.xd_proof_check.specs.Paths.{turns_of}
use Rattle.xd_proof_check.proofs.PathLemmas.{content_few, rest_few, split_few, turns_long, turns_pushed}
use Rattle.xd_proof_check.proofs.path.Path.take.Goals as goal

pub count-requires-clause-room : goal.count-requires-clause-room
count-requires-clause-room c =
    let p = c.args.self.now in
    let few = split_few p.split.items (turns_of p) c.args.turn.right c.requires.path.marks.on_path in
    let long = turns_long p in
    omega (arith, c.in_ok-push.ensures.len, c.len-turns.ensures)

pub count-requires-then-turn-clause-room : goal.count-requires-then-turn-clause-room
count-requires-then-turn-clause-room c =
    let p = c.args.self.now in
    let rests = c.args.rests.now in
    let few = rest_few rests p.rest.items (turns_of p) (slice_index rests c.args.turn.right) c.requires.path.marks.on_rest in
    let long = turns_long p in
    omega (arith, c.in_ok-push.ensures.len, c.len-turns.ensures)

pub count-requires-else-turn-clause-room : goal.count-requires-else-turn-clause-room
count-requires-else-turn-clause-room c =
    let p = c.args.self.now in
    let contents = c.args.contents.now in
    let few = content_few contents p.content.items (turns_of p) (slice_index contents c.args.turn.right) c.requires.path.marks.on_content in
    let long = turns_long p in
    omega (arith, c.in_ok-push.ensures.len, c.len-turns.ensures)

pub returns-then-turn-clause-path : goal.returns-then-turn-clause-path
returns-then-turn-clause-path c =
    let e = turns_pushed c.args.self.now.turns.items c.push.new.self.items c.args.turn c.in_ok-push.ensures.items in
    record { marks = rw e (search rules) }

pub returns-else-turn-clause-path : goal.returns-else-turn-clause-path
returns-else-turn-clause-path c =
    let e = turns_pushed c.args.self.now.turns.items c.push.new.self.items c.args.turn c.in_ok-push.ensures.items in
    record { marks = rw e (search rules) }
