use Rattle.std.proofs.Common.{ℕ, List, ap, ◌∙◌}
use Rattle.xd_doc.specs.Stored.{document_at}
use Rattle.xd_patterns.specs.Held.{marking_of, variables_in}
use Rattle.xd_match.specs.First.{AreHeld}
use Rattle.xd_match.specs.Matches.{named}
use Rattle.xd_match.proofs.Variables.{bindings_named}
use Rattle.xd_match.proofs.matcher.Matcher.first_way.Goals as goal

pub returns-in_ok-with_names-in-Some-clause-found : goal.returns-in_ok-with_names-in-Some-clause-found
returns-in_ok-with_names-in-Some-clause-found c =
    let m = c.args.self.now.compiled in
    let vs = variables_in m.marked in
    let d = document_at c.args.store.now c.args.seq in
    let held : AreHeld m.auto (marking_of m.marked) d m.marked.start vs c.first_items.new.store c.in-Some.bound.items = rw c.in-Some.is at c.in_ok-found.ensures.found in
    bindings_named m.auto (marking_of m.marked) d m.marked.start vs c.first_items.new.store c.in-Some.bound.items c.in_ok-with_names-in-Some.field-0 held
    (c.in_ok-with_names-in-Some.ensures ∙ ap (λ (xs : List (List ℕ)). named xs c.deref.result.now) c.variables-variables.ensures ∙ ap (named vs) c.deref.ensures.value)
