use Rattle.std.proofs.Common.{◌≡◌, [], List, sym, subst}
use Rattle.xd_syntax.specs.Table.{Row, tree_at}
use Rattle.xd_meaning.specs.Heads.{pieces}
use Rattle.xd_continuations.proofs.ChainLemmas.{kept_then}
use Rattle.xd_continuations.specs.Chains.{KeepsLinks}
use Rattle.xd_moves.specs.Cells.{Cell}
use Rattle.xd_moves.specs.Found.{AreOfTypes, continuation}
use Rattle.xd_heads.proofs.listing.find_heads.Goals as goal

pub find_moves-requires-clause-nodes : goal.find_moves-requires-clause-nodes
find_moves-requires-clause-nodes c =
    subst (λ (t : List Row). AreOfTypes t c.content.new.cells) c.types-types.ensures.types
    (c.in_ok-number.ensures.content.cells.nodes (subst (AreOfTypes c.types-types.result.now) (sym c.new-cells.ensures) tt))

pub returns : goal.returns
returns c =
    let pieces = subst (λ (t : List Row). continuation t c.content.new.cells c.in_ok-number.number ≡ pieces (tree_at t c.args.id.at)) c.types-types.ensures.types c.in_ok-number.ensures.content.same in
    let f = c.in_ok-found.ensures.found c.args.id c.requires.belongs pieces in
    record {
      kept = kept_then [] c.content.new.cells c.find_moves.new.cells (subst (λ (cs : List Cell). KeepsLinks cs c.content.new.cells) c.new-cells.ensures c.in_ok-number.ensures.content.cells.kept) f.kept;
      nodes = f.nodes;
      each = f.each;
      same = f.same;
    }
