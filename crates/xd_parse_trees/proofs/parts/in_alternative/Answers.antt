use Rattle.xd_syntax.proofs.TableRows.{KeepsRows-trans}
use Rattle.xd_parse_trees.proofs.StandLemmas.{in_one_choice, stand_stays}
use Rattle.xd_parse_trees.proofs.parts.in_alternative.Goals as goal

pub with_branches-requires-2 : goal.with_branches-requires-2
with_branches-requires-2 g c = stand_stays _ _ _ c.with_branches.ensures.keeps c.requires.back

pub returns-clause-merges : goal.returns-clause-merges
returns-clause-merges g c =
    in_one_choice g.N.Nodes.at _ _ _ c.args.front c.args.back c.place_of-place.result c.new.result.items c.in_ok-first.first.items c.in_ok-branches.branches.items c.requires.front c.requires.back
    c.place_of-place.ensures c.new.ensures.items c.in_ok-first.ensures.extends c.in_ok-branches.ensures.extends

pub returns-in_err-first-clause-keeps : goal.returns-in_err-first-clause-keeps
returns-in_err-first-clause-keeps g c = c.with_branches.ensures.keeps

pub returns-in_err-branches-clause-keeps : goal.returns-in_err-branches-clause-keeps
returns-in_err-branches-clause-keeps g c = KeepsRows-trans _ _ _ c.with_branches.ensures.keeps c.with_branches-2.ensures.keeps

pub returns-clause-keeps : goal.returns-clause-keeps
returns-clause-keeps g c = KeepsRows-trans _ _ _ c.with_branches.ensures.keeps c.with_branches-2.ensures.keeps
