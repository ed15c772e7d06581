use Rattle.std.proofs.Common.{sym, ◌∙◌}
use Rattle.xd_syntax.proofs.TableRows.{KeepsRows-trans}
use Rattle.xd_parse_trees.proofs.StandLemmas.{back_none, front_none, in_one_row, stand_stays}
use Rattle.xd_parse_trees.proofs.Kept.{KeepsRows-refl}
use Rattle.xd_parse_trees.proofs.parts.in_sequence.Goals as goal

pub returns-then-is_none-clause-merges : goal.returns-then-is_none-clause-merges
returns-then-is_none-clause-merges g c = back_none g.N.Nodes.at _ c.args.front c.args.back c.requires.front (sym c.is_none.ensures ∙ c.if-is_none.true)

pub returns-then-is_none-2-clause-merges : goal.returns-then-is_none-2-clause-merges
returns-then-is_none-2-clause-merges g c =
    front_none g.N.Nodes.at _ c.args.front c.args.back c.requires.back (sym c.is_none-2.ensures ∙ c.if-is_none-2.true) (sym c.is_none.ensures ∙ c.if-is_none.false)

pub with_parts-requires-2 : goal.with_parts-requires-2
with_parts-requires-2 g c = stand_stays _ _ _ c.with_parts.ensures.keeps c.requires.back

pub returns-clause-merges : goal.returns-clause-merges
returns-clause-merges g c =
    in_one_row g.N.Nodes.at _ _ _ c.args.front c.args.back c.place_of-place.result c.new.result.items c.in_ok-first.first.items c.in_ok-row.row.items c.requires.front c.requires.back
    (sym c.is_none-2.ensures ∙ c.if-is_none-2.false) (sym c.is_none.ensures ∙ c.if-is_none.false) c.place_of-place.ensures c.new.ensures.items c.in_ok-first.ensures.extends c.in_ok-row.ensures.extends

pub returns-then-is_none-clause-keeps : goal.returns-then-is_none-clause-keeps
returns-then-is_none-clause-keeps g c = KeepsRows-refl _

pub returns-then-is_none-2-clause-keeps : goal.returns-then-is_none-2-clause-keeps
returns-then-is_none-2-clause-keeps g c = KeepsRows-refl _

pub returns-in_err-first-clause-keeps : goal.returns-in_err-first-clause-keeps
returns-in_err-first-clause-keeps g c = c.with_parts.ensures.keeps

pub returns-in_err-row-clause-keeps : goal.returns-in_err-row-clause-keeps
returns-in_err-row-clause-keeps g c = KeepsRows-trans _ _ _ c.with_parts.ensures.keeps c.with_parts-2.ensures.keeps

pub returns-clause-keeps : goal.returns-clause-keeps
returns-clause-keeps g c = KeepsRows-trans _ _ _ c.with_parts.ensures.keeps c.with_parts-2.ensures.keeps
