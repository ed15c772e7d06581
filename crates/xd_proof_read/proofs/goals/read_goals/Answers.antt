use Rattle.std.proofs.Common.{◌+◌, arith, sym, subst}
use Rattle.xd_proof.specs.Form.{goals_from}
use Rattle.xd_proof.specs.Goals.{AreGoalsAt}
use Rattle.xd_proof.proofs.GoalLemmas.{goals_have_trees}
use Rattle.xd_proof_read.proofs.NamingFacts.{grows_none, grows_then, naming_stands, can_name}
use Rattle.xd_proof_read.proofs.GoalFacts.{way_begins, length-texts, loop_on, loop_stops, loop_short, loop_ends}
use Rattle.xd_proof_read.proofs.goals.read_goals.Goals as goal

pub loop-line-init : goal.loop-line-init
loop-line-init c = record { grows = grows_none c.args.sound.now; way = way_begins _ _ _ _; number = omega arith }

pub take_line-requires : goal.take_line-requires
take_line-requires c = naming_stands c.args.sound.now c.loop-line.sound c.args.naming.now c.requires.stands c.loop-line.invariant.grows

pub returns-in_err-next-clause-grows : goal.returns-in_err-next-clause-grows
returns-in_err-next-clause-grows c = grows_then c.args.sound.now c.loop-line.sound c.take_line.new.sound c.loop-line.invariant.grows c.take_line.ensures.grows

pub returns-in-None-clause-grows : goal.returns-in-None-clause-grows
returns-in-None-clause-grows c = grows_then c.args.sound.now c.loop-line.sound c.take_line.new.sound c.loop-line.invariant.grows c.take_line.ensures.grows

pub returns-in-None-clause-bad : goal.returns-in-None-clause-bad
returns-in-None-clause-bad c =
    let i = c.loop-line.invariant in
    loop_stops c.args.sound.now c.loop-line.sound c.args.naming.now c.requires.stands i.grows c.args.before c.loop-line.number c.loop-line.line-index c.args.lines.now _ c.loop-line.stage c.loop-line-test.true i.number i.way
    (can_name c.args.sound.now c.args.naming.now c.requires.stands) c.take_line.new.sound.types c.in_ok-next.field-0 c.in_ok-next.ensures.next c.in-None.is

pub loop-line-preserved : goal.loop-line-preserved
loop-line-preserved c =
    let i = c.loop-line.invariant in
    record {
      grows = grows_then c.args.sound.now c.loop-line.sound c.take_line.new.sound i.grows c.take_line.ensures.grows;
      way =
          loop_on c.args.sound.now c.loop-line.sound c.args.naming.now c.requires.stands i.grows c.args.before c.loop-line.number c.loop-line.line-index c.args.lines.now _ c.loop-line.stage c.loop-line-test.true i.number i.way
          c.take_line.new.sound.types c.in_ok-next.field-0 c.in-Some.next c.in_ok-next.ensures.next c.in-Some.is;
      number = (let e = i.number in omega (arith, e));
    }

pub new-requires-clause-some : goal.new-requires-clause-some
new-requires-clause-some c =
    let i = c.loop-line.invariant in
    (loop_ends _ _ (can_name c.args.sound.now c.args.naming.now c.requires.stands) c.loop-line.sound.types c.args.before c.loop-line.number c.loop-line.line-index c.args.lines.now c.loop-line.stage c.loop-line-test.false
    c.loop-line.auto.line-index-end i.number i.way c.in-AtEnd.goals c.in-AtEnd.is).some

pub new-requires-clause-lines : goal.new-requires-clause-lines
new-requires-clause-lines c =
    let i = c.loop-line.invariant in
    let l = length-texts c.args.lines.now in
    let h = c.requires.fits in
    (loop_ends _ _ (can_name c.args.sound.now c.args.naming.now c.requires.stands) c.loop-line.sound.types c.args.before c.loop-line.number c.loop-line.line-index c.args.lines.now c.loop-line.stage c.loop-line-test.false
    c.loop-line.auto.line-index-end i.number i.way c.in-AtEnd.goals c.in-AtEnd.is).fit (omega (arith, l, h))

pub new-requires-clause-trees : goal.new-requires-clause-trees
new-requires-clause-trees c =
    let i = c.loop-line.invariant in
    let r = loop_ends _ _ (can_name c.args.sound.now c.args.naming.now c.requires.stands) c.loop-line.sound.types c.args.before c.loop-line.number c.loop-line.line-index c.args.lines.now c.loop-line.stage c.loop-line-test.false
    c.loop-line.auto.line-index-end i.number i.way c.in-AtEnd.goals c.in-AtEnd.is in
    goals_have_trees c.loop-line.sound.types c.in-AtEnd.goals.items (goals_from (c.args.before + 2) r.blocks) r.goals

pub returns-in-AtEnd-clause-ok : goal.returns-in-AtEnd-clause-ok
returns-in-AtEnd-clause-ok c =
    let i = c.loop-line.invariant in
    let r = loop_ends _ _ (can_name c.args.sound.now c.args.naming.now c.requires.stands) c.loop-line.sound.types c.args.before c.loop-line.number c.loop-line.line-index c.args.lines.now c.loop-line.stage c.loop-line-test.false
    c.loop-line.auto.line-index-end i.number i.way c.in-AtEnd.goals c.in-AtEnd.is in
    (r.blocks, r.spelled, subst (λ made. AreGoalsAt c.loop-line.sound.types made (goals_from (c.args.before + 2) r.blocks)) (sym c.new.ensures) r.goals)

pub returns : goal.returns
returns c =
    let i = c.loop-line.invariant in
    record {
      ok = tt;
      bad =
          loop_short _ _ (can_name c.args.sound.now c.args.naming.now c.requires.stands) c.loop-line.sound.types c.args.before c.loop-line.number c.loop-line.line-index c.args.lines.now c.loop-line.stage c.loop-line-test.false
          c.loop-line.auto.line-index-end i.number i.way c.in_default.not-AtEnd;
      grows = i.grows;
    }
