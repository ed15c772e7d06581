use Rattle.std.proofs.Common.{arith, ◌≡◌, ◌<◌, ◌∙◌, None, length, sym}
use Rattle.xd_empty.proofs.SearchLemmas.{found_at, if_some, none_at}
use Rattle.xd_empty.proofs.inhabit.inhabitant.Goals as goal

pub returns-clause-accepted : goal.returns-clause-accepted
returns-clause-accepted c =
    let all = c.in_ok-found.ensures.inhabitants in
    let lt : c.in_ok-part.start.number < length c.in_ok-found.found.items = omega (arith, all.count, c.in_ok-part.ensures.belongs) in
    if_some c.index.result.now _ (λ seq e.
    sym (c.in_ok-part.ensures.ok _) ∙ (all.witnesses c.in_ok-part.start seq (found_at c.in_ok-found.found.items c.in_ok-part.start.number c.index.result.now seq lt (rw c.number.ensures at c.index.ensures) e)).accepted)

pub returns-clause-none : goal.returns-clause-none
returns-clause-none c = λ h d.
    let all = c.in_ok-found.ensures.inhabitants in
    let lt : c.in_ok-part.start.number < length c.in_ok-found.found.items = omega (arith, all.count, c.in_ok-part.ensures.belongs) in
    let e : c.index.result.now ≡ None = cc in
    sym (c.in_ok-part.ensures.ok d) ∙ all.none c.in_ok-part.start (none_at c.in_ok-found.found.items c.in_ok-part.start.number c.index.result.now lt (rw c.number.ensures at c.index.ensures) e) d

pub returns-clause-belongs : goal.returns-clause-belongs
returns-clause-belongs c =
    let all = c.in_ok-found.ensures.inhabitants in
    let lt : c.in_ok-part.start.number < length c.in_ok-found.found.items = omega (arith, all.count, c.in_ok-part.ensures.belongs) in
    if_some c.index.result.now _ (λ seq e.
    (all.witnesses c.in_ok-part.start seq (found_at c.in_ok-found.found.items c.in_ok-part.start.number c.index.result.now seq lt (rw c.number.ensures at c.index.ensures) e)).belongs)
