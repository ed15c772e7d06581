use Rattle.std.proofs.Common.{List, ℕ, [], ◌++◌, rules, sym, ap, ◌∙◌, append_assoc}
use Rattle.std.specs.Slice.Iter.{chunks_rest}
use Rattle.std.proofs.lemmas.Result.{IfErr-weaker, on_ok_weaker}
use Rattle.xd_stream.specs.Fed.{StopsAs}
use Rattle.xd_stream.specs.Streams.{automaton_of, start_of}
use Rattle.xd_command_documents.proofs.Streams.{nothing_more, spells_too, stops_too}
use Rattle.xd_command_documents.proofs.command.stream.feed_all.Goals as goal

pub loop-next-init : goal.loop-next-init
loop-next-init c = record {
  fed = [];
  stands = c.in_ok-stream.ensures.stands;
  rest = sym (ap chunks_rest c.into_iter-next-iterator.ensures.into_iter_gives ∙ c.chunks-next-items.ensures.rest);
  automaton = c.in_ok-stream.ensures.automaton;
  start = c.in_ok-stream.ensures.start;
}

pub loop-next-preserved : goal.loop-next-preserved
loop-next-preserved c =
    let i = c.loop-next.invariant in
    let next : List ℕ = c.in-Some.next.now in
    record {
      fed = i.fed ++ next;
      stands = c.in_ok-feed.ensures.ok i.fed i.stands;
      rest = i.rest ∙ ap (λ (xs : List ℕ). i.fed ++ xs) c.in-Some.ensures.steps.1.0 ∙ sym (append_assoc i.fed next (chunks_rest c.next.new.self));
      automaton = c.in_ok-feed.ensures.automaton ∙ i.automaton;
      start = c.in_ok-feed.ensures.start ∙ i.start;
    }

pub returns-in_err-feed-clause-err : goal.returns-in_err-feed-clause-err
returns-in_err-feed-clause-err c =
    let i = c.loop-next.invariant in
    let next : List ℕ = c.in-Some.next.now in
    let e = c.in_err-feed.field-0.0 in
    let stopped : StopsAs c.args.auto c.args.state c.args.bytes.now e =
    stops_too _ _ _ _ _ _ e i.automaton i.start
    (append_assoc i.fed next (chunks_rest c.next.new.self) ∙ sym (i.rest ∙ ap (λ (xs : List ℕ). i.fed ++ xs) c.in-Some.ensures.steps.1.0))
    ((c.in_err-feed.ensures.err i.fed i.stands).1 (chunks_rest c.next.new.self)) in
    search (rules, stopped)

pub returns-clause-ok : goal.returns-clause-ok
returns-clause-ok c =
    let i = c.loop-next.invariant in
    on_ok_weaker c.finish.result
    (λ f. spells_too (automaton_of c.loop-next.stream) c.args.auto (start_of c.loop-next.stream) c.args.state i.fed c.args.bytes.now i.automaton i.start (nothing_more c.args.bytes.now i.fed (chunks_rest c.loop-next.next-iterator) i.rest c.in-None.ensures.steps.1.0) (f i.fed i.stands))
    c.finish.ensures.ok

pub returns-clause-err : goal.returns-clause-err
returns-clause-err c =
    let i = c.loop-next.invariant in
    IfErr-weaker c.finish.result _ (StopsAs c.args.auto c.args.state c.args.bytes.now)
    (λ e f. stops_too (automaton_of c.loop-next.stream) c.args.auto (start_of c.loop-next.stream) c.args.state i.fed c.args.bytes.now e i.automaton i.start (nothing_more c.args.bytes.now i.fed (chunks_rest c.loop-next.next-iterator) i.rest c.in-None.ensures.steps.1.0) (f i.fed i.stands))
    c.finish.ensures.err
