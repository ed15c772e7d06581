use Rattle.std.proofs.Common.{◌<◌, [], ◌∷◌, ◌++◌, length, set, sym, subst}
use Rattle.xd_syntax.specs.Types.{form_of}
use Rattle.xd_syntax.specs.Table.{PartsBelow}
use Rattle.xd_sound.specs.Graph.{successors}
use Rattle.xd_sound.specs.Emptiness.{AddsEdges, depends_on}
use Rattle.xd_sound.proofs.EmptyLemmas.{adds_none, adds_more}
use Rattle.xd_sound.proofs.empty.add_edges_to.Goals as goal

pub returns-in_ok-add-in-Plus : goal.returns-in_ok-add-in-Plus
returns-in_ok-add-in-Plus c =
    let g = c.args.graph.now in
    let l : c.in-Plus.part.at < length g = subst (λ f. PartsBelow (length g) (form_of f)) c.in-Plus.is c.requires.parts in
    let d = adds_more g g c.args.at c.in-Plus.part.at [] (adds_none g c.args.at) l in
    let k = subst (λ f. AddsEdges g (set g c.in-Plus.part.at (successors g c.in-Plus.part.at ++ c.args.at ∷ [])) c.args.at (depends_on c.args.defs.now (form_of f))) (sym c.in-Plus.is) d in
    rw (c.in_ok-add-in-Plus.ensures, c.at.ensures) k
