use Rattle.std.proofs.Common.{ℕ, List, subst}
use Rattle.std.proofs.lemmas.Result.{IfOk-weaker}
use Rattle.xd_syntax.specs.Placed.{Name_at}
use Rattle.xd_syntax.proofs.TableRows.{KeepsRows-trans}
use Rattle.xd_parse_trees.specs.Nodes.{IsAdded}
use Rattle.xd_parse_trees.proofs.Kept.{KeepsRows-refl}
use Rattle.xd_parse_trees.proofs.trees.add_unbound.Goals as goal

pub returns-clause-adds : goal.returns-clause-adds
returns-clause-adds g c =
    IfOk-weaker c.add_part.result _ _
    (λ parts m. record {
      middle = g.N.Nodes.rows c.add.new.self;
      number = g.N.Nodes.at c.in_ok-bound.bound;
      added = subst (λ (x : List ℕ). IsAdded (g.N.Nodes.rows c.args.nodes.now) (g.N.Nodes.rows c.add.new.self) (Name_at c.args.variable.place x) (g.N.Nodes.at c.in_ok-bound.bound)) c.in_ok-any.ensures c.in_ok-bound.ensures.added;
      merges = m;
    })
    c.add_part.ensures.merges

pub returns-in_err-any-clause-keeps : goal.returns-in_err-any-clause-keeps
returns-in_err-any-clause-keeps g c = KeepsRows-refl _

pub returns-in_err-bound-clause-keeps : goal.returns-in_err-bound-clause-keeps
returns-in_err-bound-clause-keeps g c = c.add.ensures.keeps

pub returns-clause-keeps : goal.returns-clause-keeps
returns-clause-keeps g c = KeepsRows-trans _ _ _ c.add.ensures.keeps c.add_part.ensures.keeps
