use Rattle.std.proofs.Common.{refl}
use Rattle.xd_patterns.proofs.StateLemmas.{finds_adds, finds_bounded}
use Rattle.xd_patterns.proofs.SparesLemmas.{spares_then, spares_changed}
use Rattle.xd_patterns.proofs.compile.add_text.Goals as goal

pub returns-clause-made : goal.returns-clause-made
returns-clause-made c = record {
  made = c.state_of.new.auto;
  states = finds_adds c.args.one.rest c.args.target.base c.args.states.now.keys c.state_of.new.states.keys c.args.auto.now c.state_of.new.auto c.in_ok-rest.rest c.in_ok-rest.ensures.finds;
  rest = c.in_ok-rest.rest;
  after = c.in_ok-rest.ensures.finds.after;
  there = c.in_ok-rest.ensures.finds.there;
  auto = c.in_ok-add_text_move.ensures.ok;
  marked = c.in_ok-push.ensures.items;
  others = refl;
  bounded = finds_bounded c.args.one.rest c.args.target.base c.args.states.now.keys c.state_of.new.states.keys c.args.auto.now c.state_of.new.auto c.in_ok-rest.rest c.in_ok-rest.ensures.finds;
}

-- ---- old states stay as they were
pub returns-in_err-push-clause-spares : goal.returns-in_err-push-clause-spares
returns-in_err-push-clause-spares c = spares_then _ _ _ _ c.state_of.ensures.spares (spares_changed _ c.args.target.from _ _ c.requires.target.after c.add_text_move.ensures.others)

pub returns-clause-spares : goal.returns-clause-spares
returns-clause-spares c = spares_then _ _ _ _ c.state_of.ensures.spares (spares_changed _ c.args.target.from _ _ c.requires.target.after c.add_text_move.ensures.others)
