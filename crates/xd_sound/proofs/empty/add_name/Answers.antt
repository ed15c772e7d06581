use Rattle.std.proofs.Common.{[], length, sym, subst}
use Rattle.xd_syntax.specs.SoundTables.{definition_of}
use Rattle.xd_sound.specs.Emptiness.{AddsEdges}
use Rattle.xd_sound.proofs.EmptyLemmas.{body_in, number_some, number_none, adds_none, adds_more}
use Rattle.xd_sound.proofs.empty.add_name.Goals as goal

pub add-requires-clause-from : goal.add-requires-clause-from
add-requires-clause-from c = body_in _ c.args.defs.now c.args.name.now c.in-Some.body c.requires.bodies c.in-Some.ensures

pub returns-in_ok-add : goal.returns-in_ok-add
returns-in_ok-add c =
    let g = c.args.graph.now in
    let l = body_in (length g) c.args.defs.now c.args.name.now c.in-Some.body c.requires.bodies c.in-Some.ensures in
    rw (c.in_ok-add.ensures, number_some (definition_of c.args.defs.now c.args.name.now) c.in-Some.body c.in-Some.ensures)
    (adds_more g g c.args.at c.in-Some.body [] (adds_none g c.args.at) l)

pub returns-in_default : goal.returns-in_default
returns-in_default c =
    subst (AddsEdges c.args.graph.now c.args.graph.now c.args.at) (sym (number_none (definition_of c.args.defs.now c.args.name.now) c.in_default.ensures)) (adds_none c.args.graph.now c.args.at)
