use Rattle.std.proofs.Common.{◌≡◌, ◌<◌, length, get_or, sym, ◌∙◌, subst}
use Rattle.xd_doc.proofs.Options.{none_if}
use Rattle.xd_auto.specs.Automaton.{state_number}
use Rattle.xd_show_solve.proofs.PlaceLaws.{level_pushed, read_of, some_of}
use Rattle.xd_show_solve.proofs.places.see.Goals as goal

pub returns-then-is_some-clause-placed : goal.returns-then-is_some-clause-placed
returns-then-is_some-clause-placed c =
    let places = c.args.level.now.places.items in
    let o = c.index.result.now in
    let l = subst (λ n. state_number c.args.state < n) (sym c.requires.level.count) c.requires.state in
    let e = subst (λ n. o ≡ get_or places n o) c.number.ensures c.index.ensures in
    let x = some_of o (sym c.is_some.ensures ∙ c.if-is_some.true) in
    (x.0, read_of places c.args.state o l e ∙ x.1)

pub returns-clause-level : goal.returns-clause-level
returns-clause-level c =
    let places = c.args.level.now.places.items in
    let o = c.index.result.now in
    let l = subst (λ n. state_number c.args.state < n) (sym c.requires.level.count) c.requires.state in
    let e = subst (λ n. o ≡ get_or places n o) c.number.ensures c.index.ensures in
    let none = read_of places c.args.state o l e ∙ none_if o (sym c.is_some.ensures ∙ c.if-is_some.false) in
    let n : c.len-place.result ≡ length c.args.level.now.states.items = c.len-place.ensures ∙ c.args.level.now.states.ok.0 in
    rw c.in_ok-push.ensures.items (rw c.number-2.ensures (rw n (level_pushed c.args.auto.now c.args.level.now.states.items places c.args.state c.requires.state c.requires.level none)))
