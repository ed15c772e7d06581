use Rattle.std.proofs.Common.{arith, sym, ◌∙◌}
use Rattle.xd_sound.proofs.EmptyLemmas.{defined_in}
use Rattle.xd_rec.proofs.faults.leads_back.Goals as goal

pub are_together-requires-clause-two : goal.are_together-requires-clause-two
are_together-requires-clause-two c =
    let l = defined_in c.args.defs.now c.args.top_use.now.name c.in-Some.target (sym (c.requires.numbered c.args.top_use.now.name) ∙ sym c.in-Some.ensures) in
    let n = c.requires.count in
    omega arith
