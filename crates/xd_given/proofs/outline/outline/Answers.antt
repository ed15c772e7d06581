use Rattle.std.proofs.Common.{Bool, List, subst}
use Rattle.xd_empty.specs.Parts.{is_marked}
use Rattle.xd_bind.specs.Ahead.{IsSearched}
use Rattle.xd_given.specs.Owning.{point_moves}
use Rattle.xd_given.proofs.outline.outline.Goals as goal

pub returns-clause-outline : goal.returns-clause-outline
returns-clause-outline g c =
    let b = point_moves c.args.of.now.table.now (g.H.Holds.owned c.args.of.now.owner.now c.args.variable) in
    record {
      complete = c.in_ok-free.ensures.free;
      searched = subst (λ (ms : List Bool). IsSearched c.args.of.now.drawing.now b c.args.start (is_marked ms) c.in_ok-ahead.ahead.items) c.deref.ensures.value c.in_ok-ahead.ensures;
    }
