use Rattle.std.proofs.Common.{List, ap, subst, ◌∙◌}
use Rattle.xd_syntax.specs.Table.{Row, tree_at}
use Rattle.xd_syntax.specs.Kept.{ProgramTable}
use Rattle.xd_heads.specs.HeadList.{ContentBelongs, IsKindOf}
use Rattle.xd_heads.proofs.GrowsTypesLemmas.{grows_none, grows_then}
use Rattle.xd_heads.proofs.HeadLists.{content_belongs, head_made, nodes_stay}
use Rattle.xd_heads.proofs.listing.head_of.Goals as goal

pub returns-clause-grows : goal.returns-clause-grows
returns-clause-grows c = grows_then c.args.sound.now c.rest_type.new.sound c.content_type.new.sound c.rest_type.ensures.grows c.content_type.ensures.grows

pub returns-clause-ok : goal.returns-clause-ok
returns-clause-ok c =
    let e = c.types.ensures.types ∙ ap (λ (p : ProgramTable). p.types) c.program.ensures.program in
    head_made c.args.sound.now c.rest_type.new.sound c.content_type.new.sound c.rest_type.ensures.grows c.content_type.ensures.grows c.args.cells.now c.args.found c.requires.found
    c.in_ok-kind.kind c.in_ok-kind.inside (subst (λ (t : List Row). IsKindOf t (tree_at t c.args.found.node) (c.in_ok-kind.kind, c.in_ok-kind.inside)) e c.in_ok-kind.ensures)
    c.in_ok-rest.rest c.in_ok-rest.ensures.ok c.in_ok-content.content c.in_ok-content.ensures.ok

pub returns-in_err-kind-clause-grows : goal.returns-in_err-kind-clause-grows
returns-in_err-kind-clause-grows c = grows_none c.args.sound.now

pub rest_type-requires-clause-nodes : goal.rest_type-requires-clause-nodes
rest_type-requires-clause-nodes c = c.requires.nodes

pub rest_type-requires-clause-rests : goal.rest_type-requires-clause-rests
rest_type-requires-clause-rests c = c.requires.rests

pub rest_type-requires-clause-number : goal.rest_type-requires-clause-number
rest_type-requires-clause-number c = c.requires.found.found.1

pub rest_type-requires-clause-pieces : goal.rest_type-requires-clause-pieces
rest_type-requires-clause-pieces c = c.requires.found.pieces

pub rest_type-requires-clause-shallow : goal.rest_type-requires-clause-shallow
rest_type-requires-clause-shallow c = c.requires.found.shallow

pub returns-in_err-rest-clause-grows : goal.returns-in_err-rest-clause-grows
returns-in_err-rest-clause-grows c = c.rest_type.ensures.grows

pub content_type-requires-clause-nodes : goal.content_type-requires-clause-nodes
content_type-requires-clause-nodes c = nodes_stay c.args.sound.now.types c.rest_type.new.sound.types c.rest_type.ensures.grows.adds.types c.args.cells.now c.requires.nodes

pub content_type-requires-clause-rests : goal.content_type-requires-clause-rests
content_type-requires-clause-rests c = c.in_ok-rest.ensures.rests

pub content_type-requires-clause-inside : goal.content_type-requires-clause-inside
content_type-requires-clause-inside c =
    let e = c.types.ensures.types ∙ ap (λ (p : ProgramTable). p.types) c.program.ensures.program in
    content_belongs c.args.sound.now.types c.rest_type.new.sound.types c.rest_type.ensures.grows.adds.types c.in_ok-kind.inside
    (subst (λ (t : List Row). ContentBelongs t c.in_ok-kind.inside) e c.in_ok-kind.ensures.belongs)

pub returns-in_err-content-clause-grows : goal.returns-in_err-content-clause-grows
returns-in_err-content-clause-grows c = grows_then c.args.sound.now c.rest_type.new.sound c.content_type.new.sound c.rest_type.ensures.grows c.content_type.ensures.grows

pub returns-clause-rests : goal.returns-clause-rests
returns-clause-rests c = c.in_ok-content.ensures.rests
