use Rattle.std.proofs.Common.{◌≡◌, true, ap, sym, subst, ◌∙◌, List, take}
use Rattle.xd_syntax.specs.Kept.{ProgramTable}
use Rattle.xd_syntax.specs.Table.{Row}
use Rattle.xd_syntax.specs.Placed.{place_of}
use Rattle.xd_syntax.specs.PlacedTable.{placed_at, placed_form}
use Rattle.xd_check.proofs.Places.{form_place}
use Rattle.xd_check.proofs.checker.Checker.pattern_place.Goals as goal

pub returns : goal.returns
returns c =
    let p : ProgramTable = c.args.self.now.sound in
    let same : c.patterns.result.now ≡ p.patterns = c.patterns.ensures.patterns ∙ ap (λ (q : ProgramTable). q.patterns) c.program.ensures.program in
    let n = c.node.result.now in
    let tree = subst (λ (rs : List Row). placed_at rs c.args.id.at ≡ placed_form (placed_at rs) n.place n.form) same c.node.ensures.placed in
    c.place.ensures ∙ sym (ap place_of tree ∙ form_place (placed_at p.patterns) n.place true (take c.args.id.at c.patterns.result.now) n.form c.node.ensures.merged)
