use Rattle.std.proofs.Common.{refl, sym, ap, ◌∙◌}
use Rattle.std.proofs.lemmas.List.{append-nil}
use Rattle.xd_auto.specs.Automaton.{moves_at}
use Rattle.xd_rules.specs.Heads.{matches}
use Rattle.xd_state_heads.proofs.Sides.{sides_done, sides_hit, sides_miss}
use Rattle.xd_state_heads.proofs.heads.add_with_others.Goals as goal

pub loop-number-preserved-then-not-takes_others : goal.loop-number-preserved-then-not-takes_others
loop-number-preserved-then-not-takes_others g c = record {
  made = sides_miss g.M.Headed.head g.C.Names.others c.args.before c.moves-moves.result.now c.loop-number.number c.index-moves-number.result c.args.sides.now.items c.loop-number.sides.items c.loop-number-test.true
      (ap (λ step. matches (g.M.Headed.head step).kind g.C.Names.others) (sym c.index-moves-number.is) ∙ sym (g.met.M.Headed.matches_others c.index-moves-number.result) ∙ ap g.C.Names.excepts (sym c.class.ensures) ∙ sym c.takes_others.ensures ∙ c.if-not-takes_others.true) c.loop-number.invariant.made;
  end_is = refl;
}

pub loop-number-preserved : goal.loop-number-preserved
loop-number-preserved g c = record {
  made = sides_hit g.M.Headed.head g.C.Names.others c.args.before c.moves-moves.result.now c.loop-number.number c.index-moves-number.result c.args.sides.now.items c.loop-number.sides.items c.push.new.self.items c.loop-number-test.true c.index-moves-number.is
      (sym (g.met.M.Headed.matches_others c.index-moves-number.result) ∙ ap g.C.Names.excepts (sym c.class.ensures) ∙ sym c.takes_others.ensures ∙ c.if-not-takes_others.false) c.loop-number.invariant.made (rw c.side.ensures at c.in_ok-push.ensures.items);
  end_is = refl;
}

pub loop-number-init : goal.loop-number-init
loop-number-init g c = record { made = sym (append-nil c.args.sides.now.items); end_is = refl }

pub returns : goal.returns
returns g c =
    let ms = c.moves-moves.result.now in
    sides_done g.M.Headed.head g.C.Names.others c.args.before ms (g.M.Move.moves_in (moves_at c.args.auto.now c.args.state)) c.loop-number.number c.args.sides.now.items c.loop-number.sides.items c.moves-moves.ensures.value c.loop-number-test.false c.loop-number.invariant.made
