use Rattle.std.proofs.Common.{◌≡◌, ◌∙◌, Ok, ap, arith, false, length, subst, sym, true}
use Rattle.xd_auto.specs.Automaton.{Automaton, IsState}
use Rattle.xd_least.specs.Least.{Knows}
use Rattle.xd_apart.proofs.SearchLemmas.{root_accepts, root_below, root_least, searches_first, searches_more, searches_on}
use Rattle.xd_apart.proofs.search.search.Goals as goal

pub learn-requires : goal.learn-requires
learn-requires c = c.new-known.ensures c.in_ok-approximation.approximation.over c.args.store.now

pub find_or_add-requires-clause-left : goal.find_or_add-requires-clause-left
find_or_add-requires-clause-left c = subst (λ (a : Automaton). IsState a c.in_ok-part.start) (sym c.in_ok-approximation.ensures.lefts) c.in_ok-part.ensures.belongs

pub loop-init : goal.loop-init
loop-init c =
    searches_first c.args.auto.now c.args.left c.args.right c.in_ok-part.start c.in_ok-root.root c.find_or_add.new.self c.in_ok-part.part c.learn.new.store c.learn.new.self c.in_ok-root.ensures.approximation
    (c.in_ok-root.ensures.grows.lefts ∙ c.in_ok-approximation.ensures.lefts) c.in_ok-part.ensures.ok c.in_ok-root.ensures.state
    (subst (λ (a : Automaton). Knows a c.learn.new.store c.learn.new.self) c.in_ok-approximation.ensures.over c.in_ok-learn.ensures.knows) (c.in_ok-learn.ensures.all ∙ ap length c.in_ok-approximation.ensures.over)

pub find_or_add-requires-clause-approximation : goal.find_or_add-requires-clause-approximation
find_or_add-requires-clause-approximation c = c.in_ok-approximation.ensures.approximation c.args.auto.now

pub candidate-requires-clause-within : goal.candidate-requires-clause-within
candidate-requires-clause-within c = c.loop.invariant.approximation.within

pub candidate-requires-clause-known : goal.candidate-requires-clause-known
candidate-requires-clause-known c = c.loop.invariant.knows

pub candidate-requires-clause-root : goal.candidate-requires-clause-root
candidate-requires-clause-root c = omega (arith, c.loop.invariant.stands.there, c.loop.invariant.approximation.approximates.count)

pub returns-then-bound-least : goal.returns-then-bound-least
returns-then-bound-least c = λ d h.
    root_below c.args.auto.now c.args.left c.args.right c.in_ok-root.root c.loop.approximation c.loop.store c.loop.known c.loop.invariant c.candidate.new.store c.in-Some.least c.args.bound
    (rw c.in-Some.is at c.in_ok-least.ensures.least) c.if-bound-least.true d h

pub returns-then-branch : goal.returns-then-branch
returns-then-branch c =
    let w = rw c.in-Some.is at c.in_ok-least.ensures.least in
    (w.belongs, root_least c.args.auto.now c.args.left c.args.right c.in_ok-root.root c.loop.approximation c.loop.store c.loop.known c.loop.invariant c.candidate.new.store c.in-Some.least w (c.in_ok-separates.ensures c.if-branch.true))

pub close_in-requires-clause-approximation : goal.close_in-requires-clause-approximation
close_in-requires-clause-approximation c = c.loop.invariant.approximation

pub close_in-requires-clause-at : goal.close_in-requires-clause-at
close_in-requires-clause-at c =
    let w = rw c.in-Some.is at c.in_ok-least.ensures.least in
    record { state = omega (arith, c.loop.invariant.stands.there, c.loop.invariant.approximation.approximates.count); seq = w.belongs }

pub loop-preserved : goal.loop-preserved
loop-preserved c =
    searches_on c.args.auto.now c.args.left c.args.right c.in_ok-root.root c.loop.approximation c.close_in.new.approximation c.candidate.new.store c.candidate.new.known
    (searches_more c.args.auto.now c.args.left c.args.right c.in_ok-root.root c.loop.approximation c.loop.store c.candidate.new.store c.loop.known c.candidate.new.known c.loop.invariant c.in_ok-least.ensures.known)
    c.in_ok-close_in.ensures.approximation c.in_ok-close_in.ensures.lefts c.in_ok-close_in.ensures.points

pub unreachable-requires : goal.unreachable-requires
unreachable-requires c =
    let some = c.requires.some in
    let taken = root_accepts c.args.auto.now c.args.left c.args.right c.in_ok-root.root c.loop.approximation c.loop.store c.loop.known c.loop.invariant some.0 some.1 in
    let none = c.in_ok-least.ensures.none (ap Ok c.in_default.is) some.0 in
    let bad : true ≡ false = sym taken ∙ none in
    cc bad
