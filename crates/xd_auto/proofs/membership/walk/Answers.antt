use Rattle.std.proofs.Common.{◌≡◌, ◌+◌, ◌≤◌, ◌<◌, [], ◌∷◌, ◌++◌, length, sym, ◌∙◌, arith, rules, vec_len}
use Rattle.xd_doc.proofs.Results.{on_err}
use Rattle.xd_auto.specs.Automaton.{accepts}
use Rattle.xd_auto.specs.Kept.{words_of}
use Rattle.xd_auto.specs.Membership.{IsFrame, MayWait, Walk, from_node}
use Rattle.xd_auto.proofs.ProgressLemmas.{done_is, waits_is, fails_at_first}
use Rattle.xd_auto.proofs.Walks.{frame, keeps_on, keeps_one, steps_settle, steps_wait, top_frame, walk_done, walk_waits}
use Rattle.xd_auto.proofs.membership.walk.Goals as goal

pub loop-frame-preserved-in-Continue-branch-2 : goal.loop-frame-preserved-in-Continue-branch-2
loop-frame-preserved-in-Continue-branch-2 c =
    let walk : Walk c.args.auto.now c.args.store.now c.args.node c.args.state (words_of c.loop-frame.known.rows.items) (c.pop.new.self.items ++ c.in-Some.frame ∷ []) =
    rw c.in-Some.ensures.items at c.loop-frame.invariant.walk in
    let here : IsFrame c.args.auto.now c.args.store.now (words_of c.loop-frame.known.rows.items) c.args.node (length c.pop.new.self.items) c.in-Some.frame =
    top_frame c.args.auto.now c.args.store.now c.args.node c.args.state (words_of c.loop-frame.known.rows.items) c.pop.new.self.items c.in-Some.frame walk in
    let is : c.in-Done.answer ≡ accepts c.args.auto.now (from_node c.args.store.now c.in-Some.frame.node) c.in-Some.frame.state =
    done_is c.args.auto.now c.in-Some.frame.state c.in-Some.frame.tried (from_node c.args.store.now c.in-Some.frame.node) _ c.in-Done.answer c.in-Done.ensures.progress in
    record {
      walk =
          walk_done c.args.auto.now c.args.store.now c.args.node c.args.state (words_of c.loop-frame.known.rows.items) (words_of c.keep.new.self.rows.items) c.pop.new.self.items c.in-Some.frame c.in-Done.answer walk
          c.in-Done.ensures.belongs is (rw c.number.ensures at c.in_ok-keep-in-Done.ensures.ok);
      keeps =
          keeps_on _ (words_of c.loop-frame.known.rows.items) _ c.loop-frame.invariant.keeps
          (keeps_one c.in-Some.frame.node c.in-Some.frame.state.number c.in-Done.answer (words_of c.loop-frame.known.rows.items) (words_of c.keep.new.self.rows.items) here.unknown (rw c.number.ensures at c.in_ok-keep-in-Done.ensures.ok));
      capacity = search rules;
      room = λ states words h. c.in_ok-keep-in-Done.ensures.room states words (c.loop-frame.invariant.room states words h);
    }

pub loop-frame-smaller-in-Continue-branch-2 : goal.loop-frame-smaller-in-Continue-branch-2
loop-frame-smaller-in-Continue-branch-2 c =
    let walk : Walk c.args.auto.now c.args.store.now c.args.node c.args.state (words_of c.loop-frame.known.rows.items) (c.pop.new.self.items ++ c.in-Some.frame ∷ []) =
    rw c.in-Some.ensures.items at c.loop-frame.invariant.walk in
    let here : IsFrame c.args.auto.now c.args.store.now (words_of c.loop-frame.known.rows.items) c.args.node (length c.pop.new.self.items) c.in-Some.frame =
    top_frame c.args.auto.now c.args.store.now c.args.node c.args.state (words_of c.loop-frame.known.rows.items) c.pop.new.self.items c.in-Some.frame walk in
    rw c.in-Some.ensures.items
    (steps_settle c.args.auto.now c.args.node (words_of c.loop-frame.known.rows.items) (words_of c.keep.new.self.rows.items) c.pop.new.self.items c.in-Some.frame c.in-Done.answer
    (omega (arith, here.high)) here.state here.unknown (rw c.number.ensures at c.in_ok-keep-in-Done.ensures.ok))

pub returns-in_err-keep-in-Done-clause-room : goal.returns-in_err-keep-in-Done-clause-room
returns-in_err-keep-in-Done-clause-room c states words h = c.in_err-keep-in-Done.ensures.room states words (c.loop-frame.invariant.room states words h)

pub returns-in_err-keep-in-Done-clause-full : goal.returns-in_err-keep-in-Done-clause-full
returns-in_err-keep-in-Done-clause-full c =
    let walk : Walk c.args.auto.now c.args.store.now c.args.node c.args.state (words_of c.loop-frame.known.rows.items) (c.pop.new.self.items ++ c.in-Some.frame ∷ []) =
    rw c.in-Some.ensures.items at c.loop-frame.invariant.walk in
    let here : IsFrame c.args.auto.now c.args.store.now (words_of c.loop-frame.known.rows.items) c.args.node (length c.pop.new.self.items) c.in-Some.frame =
    top_frame c.args.auto.now c.args.store.now c.args.node c.args.state (words_of c.loop-frame.known.rows.items) c.pop.new.self.items c.in-Some.frame walk in
    on_err c.from_residual-in_err-keep-in-Done.result
    (λ room high. c.in_err-keep-in-Done.ensures.full (length c.args.auto.now) _ (c.loop-frame.invariant.room _ _ room) (rw c.number.ensures here.state) (omega (arith, here.high)))

pub loop-frame-smaller : goal.loop-frame-smaller
loop-frame-smaller c =
    let walk : Walk c.args.auto.now c.args.store.now c.args.node c.args.state (words_of c.loop-frame.known.rows.items) (c.pop.new.self.items ++ c.in-Some.frame ∷ []) =
    rw c.in-Some.ensures.items at c.loop-frame.invariant.walk in
    let here : IsFrame c.args.auto.now c.args.store.now (words_of c.loop-frame.known.rows.items) c.args.node (length c.pop.new.self.items) c.in-Some.frame =
    top_frame c.args.auto.now c.args.store.now c.args.node c.args.state (words_of c.loop-frame.known.rows.items) c.pop.new.self.items c.in-Some.frame walk in
    let waits = waits_is c.args.auto.now c.in-Some.frame.state c.in-Some.frame.tried (from_node c.args.store.now c.in-Some.frame.node) (MayWait c.args.auto.now (words_of c.loop-frame.known.rows.items) c.in-Some.frame.node)
    c.in-Waits.tried c.in-Waits.older c.in-Waits.asked c.in-Waits.ensures.progress in
    let older : c.in-Waits.older < c.in-Some.frame.node = waits.1.older in
    let high : c.in-Some.frame.node + length c.pop.new.self.items ≤ c.args.node = here.high in
    rw (c.in_ok-push-in-Waits-2.ensures.items, c.in_ok-push-in-Waits.ensures.items, c.in-Some.ensures.items)
    (steps_wait c.args.auto.now c.args.node (words_of c.loop-frame.known.rows.items) c.pop.new.self.items c.in-Some.frame
    (frame c.in-Some.frame.node c.in-Some.frame.state c.in-Waits.tried) (frame c.in-Waits.older c.in-Waits.asked 0) (omega arith))

pub loop-frame-preserved : goal.loop-frame-preserved
loop-frame-preserved c =
    let walk : Walk c.args.auto.now c.args.store.now c.args.node c.args.state (words_of c.loop-frame.known.rows.items) (c.pop.new.self.items ++ c.in-Some.frame ∷ []) =
    rw c.in-Some.ensures.items at c.loop-frame.invariant.walk in
    let here : IsFrame c.args.auto.now c.args.store.now (words_of c.loop-frame.known.rows.items) c.args.node (length c.pop.new.self.items) c.in-Some.frame =
    top_frame c.args.auto.now c.args.store.now c.args.node c.args.state (words_of c.loop-frame.known.rows.items) c.pop.new.self.items c.in-Some.frame walk in
    let waits = waits_is c.args.auto.now c.in-Some.frame.state c.in-Some.frame.tried (from_node c.args.store.now c.in-Some.frame.node) (MayWait c.args.auto.now (words_of c.loop-frame.known.rows.items) c.in-Some.frame.node)
    c.in-Waits.tried c.in-Waits.older c.in-Waits.asked c.in-Waits.ensures.progress in
    let older : c.in-Waits.older < c.in-Some.frame.node = waits.1.older in
    let high : c.in-Some.frame.node + length c.pop.new.self.items ≤ c.args.node = here.high in
    record {
      walk = rw (c.in_ok-push-in-Waits-2.ensures.items, c.in_ok-push-in-Waits.ensures.items)
          (walk_waits c.args.auto.now c.args.store.now c.args.node c.args.state (words_of c.loop-frame.known.rows.items) c.pop.new.self.items c.in-Some.frame c.in-Waits.tried c.in-Waits.older c.in-Waits.asked walk waits.0
          (fails_at_first c.args.auto.now c.in-Waits.asked (from_node c.args.store.now c.in-Waits.older)) waits.1);
      keeps = c.loop-frame.invariant.keeps;
      capacity = omega (arith, c.in_ok-push-in-Waits-2.ensures.capacity, c.in_ok-push-in-Waits.ensures.capacity, c.loop-frame.invariant.capacity);
      room = c.loop-frame.invariant.room;
    }

pub returns-in_err-push-in-Waits-2-clause-full : goal.returns-in_err-push-in-Waits-2-clause-full
returns-in_err-push-in-Waits-2-clause-full c =
    let walk : Walk c.args.auto.now c.args.store.now c.args.node c.args.state (words_of c.loop-frame.known.rows.items) (c.pop.new.self.items ++ c.in-Some.frame ∷ []) =
    rw c.in-Some.ensures.items at c.loop-frame.invariant.walk in
    let here : IsFrame c.args.auto.now c.args.store.now (words_of c.loop-frame.known.rows.items) c.args.node (length c.pop.new.self.items) c.in-Some.frame =
    top_frame c.args.auto.now c.args.store.now c.args.node c.args.state (words_of c.loop-frame.known.rows.items) c.pop.new.self.items c.in-Some.frame walk in
    let waits = waits_is c.args.auto.now c.in-Some.frame.state c.in-Some.frame.tried (from_node c.args.store.now c.in-Some.frame.node) (MayWait c.args.auto.now (words_of c.loop-frame.known.rows.items) c.in-Some.frame.node)
    c.in-Waits.tried c.in-Waits.older c.in-Waits.asked c.in-Waits.ensures.progress in
    let older : c.in-Waits.older < c.in-Some.frame.node = waits.1.older in
    let high : c.in-Some.frame.node + length c.pop.new.self.items ≤ c.args.node = here.high in
    let len : vec_len c.pop.new.self ≡ length c.pop.new.self.items = search rules in
    on_err c.from_residual-in_err-push-in-Waits-2.result
    (λ room tall. omega (arith, c.in_err-push-in-Waits-2.ensures.full, c.in_ok-push-in-Waits.ensures.len, c.in_ok-push-in-Waits.ensures.capacity))

pub advance-requires-clause-node : goal.advance-requires-clause-node
advance-requires-clause-node c =
    let here : IsFrame c.args.auto.now c.args.store.now (words_of c.loop-frame.known.rows.items) c.args.node (length c.pop.new.self.items) c.in-Some.frame =
    top_frame c.args.auto.now c.args.store.now c.args.node c.args.state (words_of c.loop-frame.known.rows.items) c.pop.new.self.items c.in-Some.frame (rw c.in-Some.ensures.items at c.loop-frame.invariant.walk) in
    omega (arith, here.high, c.requires.node)

pub advance-requires-clause-state : goal.advance-requires-clause-state
advance-requires-clause-state c =
    let here : IsFrame c.args.auto.now c.args.store.now (words_of c.loop-frame.known.rows.items) c.args.node (length c.pop.new.self.items) c.in-Some.frame =
    top_frame c.args.auto.now c.args.store.now c.args.node c.args.state (words_of c.loop-frame.known.rows.items) c.pop.new.self.items c.in-Some.frame (rw c.in-Some.ensures.items at c.loop-frame.invariant.walk) in
    here.state

pub advance-requires-clause-fails : goal.advance-requires-clause-fails
advance-requires-clause-fails c =
    let here : IsFrame c.args.auto.now c.args.store.now (words_of c.loop-frame.known.rows.items) c.args.node (length c.pop.new.self.items) c.in-Some.frame =
    top_frame c.args.auto.now c.args.store.now c.args.node c.args.state (words_of c.loop-frame.known.rows.items) c.pop.new.self.items c.in-Some.frame (rw c.in-Some.ensures.items at c.loop-frame.invariant.walk) in
    here.fails

pub returns-in_err-keep-in-Done-clause-right : goal.returns-in_err-keep-in-Done-clause-right
returns-in_err-keep-in-Done-clause-right c node s answer kept = c.loop-frame.invariant.walk.right node s answer (sym (c.in_err-keep-in-Done.ensures.err node s.number) ∙ kept)

pub returns-in_err-keep-in-Done-clause-keeps : goal.returns-in_err-keep-in-Done-clause-keeps
returns-in_err-keep-in-Done-clause-keeps c node s answer kept = c.in_err-keep-in-Done.ensures.err node s ∙ c.loop-frame.invariant.keeps node s answer kept
