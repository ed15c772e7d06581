use Rattle.std.proofs.Common.{inl, inr, subst, sym, ◌∙◌}
use Rattle.xd_show_solve.specs.Rounds.{LackOut}
use Rattle.xd_show_solve.specs.declared.sums.Sum.{Sum}
use Rattle.xd_show_solve.proofs.RoundLaws.{same_read, takes_nothing}
use Rattle.xd_show_solve.proofs.SystemLaws.{all_stand_set}
use Rattle.xd_show_solve.proofs.rounds.take_at.Goals as goal

pub returns-then-is_out-clause-takes : goal.returns-then-is_out-clause-takes
returns-then-is_out-clause-takes c = takes_nothing _ c.args.owns.now c.args.sums.now.items c.args.number c.requires.number (λ s e. inl (sym c.is_out.ensures ∙ c.if-is_out.true))

pub returns-then-lack_out-clause-takes : goal.returns-then-lack_out-clause-takes
returns-then-lack_out-clause-takes c =
    let sums = c.args.sums.now.items in
    let lack = subst (LackOut c.args.owns.now) c.deref.ensures.value (c.lack_out.ensures c.if-lack_out.true) in
    takes_nothing _ c.args.owns.now sums c.args.number c.requires.number (λ s e. inr (subst (λ (x : Sum). LackOut c.args.owns.now x.terms.items) (c.index.ensures ∙ same_read sums c.args.number _ s c.requires.number ∙ sym e) lack))

pub returns-clause-stand : goal.returns-clause-stand
returns-clause-stand c = all_stand_set _ _ c.taken.ensures.keeps c.args.sums.now.items c.args.number c.in_ok-made.made c.requires.sums c.in_ok-made.ensures.stands
