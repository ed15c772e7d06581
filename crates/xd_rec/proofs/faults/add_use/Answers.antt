use Rattle.std.proofs.Common.{arith, sym, subst, ◌∙◌}
use Rattle.xd_rec.specs.Faults.{AddsUse}
use Rattle.xd_sound.proofs.EmptyLemmas.{defined_in}
use Rattle.xd_rec.proofs.FaultLemmas.{use_added}
use Rattle.xd_rec.proofs.faults.add_use.Goals as goal
use Rattle.xd_rec.proofs.faults.add_use.Goals.{else-front_only-via-then-front_only+else-not-top_use, else-front_only-via-else-front_only}

pub add-requires-clause-to : goal.add-requires-clause-to
add-requires-clause-to c =
    let l = defined_in c.args.defs.now c.args.top_use.now.name c.in-Some.target (sym (c.requires.numbered c.args.top_use.now.name) ∙ sym c.in-Some.ensures) in
    let n = c.requires.count in
    omega arith

pub returns-in_ok-add : goal.returns-in_ok-add
returns-in_ok-add c =
    let e = sym (c.requires.numbered c.args.top_use.now.name) ∙ sym c.in-Some.ensures in
    subst (AddsUse c.args.defs.now c.args.top_use.now c.args.front_only c.args.graph.now) (sym c.in_ok-add.ensures)
    (use_added c.args.defs.now c.args.top_use.now c.args.front_only c.args.graph.now c.in-Some.target c.requires.owner e
    (elim c.else-front_only.branch [ else-front_only-via-then-front_only+else-not-top_use w ↦ (λ q. w.if-not-top_use.false) | else-front_only-via-else-front_only w ↦ (λ q. absurd (let z = w.if-front_only.false in cc)) ]))
