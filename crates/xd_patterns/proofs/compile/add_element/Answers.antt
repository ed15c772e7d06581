use Rattle.std.proofs.Common.{refl}
use Rattle.xd_patterns.proofs.StateLemmas.{finds_adds, finds_bounded, adds_states_then, there_kept}
use Rattle.xd_patterns.proofs.SparesLemmas.{spares_then, spares_changed}
use Rattle.xd_patterns.proofs.compile.add_element.Goals as goal

pub returns-clause-made : goal.returns-clause-made
returns-clause-made c =
    let one = finds_adds c.args.inside c.args.target.base c.args.states.now.keys c.state_of.new.states.keys c.args.auto.now c.state_of.new.auto c.in_ok-content.content c.in_ok-content.ensures.finds in
    let two = finds_adds c.args.one.rest c.args.target.base c.state_of.new.states.keys c.state_of-2.new.states.keys c.state_of.new.auto c.state_of-2.new.auto c.in_ok-rest.rest c.in_ok-rest.ensures.finds in record {
      made = c.state_of-2.new.auto;
      states = adds_states_then c.args.target.base c.args.states.now.keys c.state_of.new.states.keys c.state_of-2.new.states.keys c.args.auto.now c.state_of.new.auto c.state_of-2.new.auto one two;
      content = c.in_ok-content.content;
      content_after = c.in_ok-content.ensures.finds.after;
      content_there = there_kept c.args.target.base c.state_of.new.states.keys c.state_of-2.new.states.keys c.state_of.new.auto c.state_of-2.new.auto _ c.args.inside two c.in_ok-content.ensures.finds.there;
      rest = c.in_ok-rest.rest;
      after = c.in_ok-rest.ensures.finds.after;
      there = c.in_ok-rest.ensures.finds.there;
      auto = c.in_ok-add_label_move.ensures.ok;
      marked = c.in_ok-push.ensures.items;
      others = refl;
      bounded = λ k h i x.
          finds_bounded c.args.one.rest c.args.target.base c.state_of.new.states.keys c.state_of-2.new.states.keys c.state_of.new.auto c.state_of-2.new.auto c.in_ok-rest.rest c.in_ok-rest.ensures.finds k h
          (finds_bounded c.args.inside c.args.target.base c.args.states.now.keys c.state_of.new.states.keys c.args.auto.now c.state_of.new.auto c.in_ok-content.content c.in_ok-content.ensures.finds k i x);
    }

-- ---- old states stay as they were
pub returns-in_err-rest-clause-spares : goal.returns-in_err-rest-clause-spares
returns-in_err-rest-clause-spares c = spares_then _ _ _ _ c.state_of.ensures.spares c.state_of-2.ensures.spares

pub returns-in_err-add_label_move-clause-spares : goal.returns-in_err-add_label_move-clause-spares
returns-in_err-add_label_move-clause-spares c =
    spares_then _ _ _ _ (spares_then _ _ _ _ c.state_of.ensures.spares c.state_of-2.ensures.spares) (spares_changed _ c.args.target.from _ _ c.requires.target.after c.add_label_move.ensures.others)

pub returns-in_err-push-clause-spares : goal.returns-in_err-push-clause-spares
returns-in_err-push-clause-spares c =
    spares_then _ _ _ _ (spares_then _ _ _ _ c.state_of.ensures.spares c.state_of-2.ensures.spares) (spares_changed _ c.args.target.from _ _ c.requires.target.after c.add_label_move.ensures.others)

pub returns-clause-spares : goal.returns-clause-spares
returns-clause-spares c =
    spares_then _ _ _ _ (spares_then _ _ _ _ c.state_of.ensures.spares c.state_of-2.ensures.spares) (spares_changed _ c.args.target.from _ _ c.requires.target.after c.add_label_move.ensures.others)
