use Rattle.std.proofs.Common.{List, flat_map, sym, subst}
use Rattle.std.specs.List.{AllByRecursion, AllZip}
use Rattle.xd_syntax.specs.Kept.{program_tree}
use Rattle.xd_check_steps.specs.Found.{IsMet}
use Rattle.xd_variables.specs.Bound.{reading_of}
use Rattle.xd_variables.specs.Read.{AddsVariables, CanBeRead}
use Rattle.xd_variables.specs.Seen.{variables_of_match}
use Rattle.xd_variables.specs.declared.variables.BoundVariable.{BoundVariable}
use Rattle.xd_variables.proofs.InOrder.{bound_in_order, readable}
use Rattle.xd_variables.proofs.variables.variables_in.Goals as goal

pub read_matches-requires-clause-ready : goal.read_matches-requires-clause-ready
read_matches-requires-clause-ready c =
    let h = c.in_ok-met.ensures in record { serves = h.serves; patterns = h.patterns; points = h.points }

pub read_matches-requires-clause-matches : goal.read_matches-requires-clause-matches
read_matches-requires-clause-matches c =
    let m = c.in_ok-met.met in
    let h = c.in_ok-met.ensures in
    let a = c.met_matches.new.auto in
    subst (AllByRecursion (CanBeRead m.sound a)) (sym c.deref.ensures.value) (readable m.sound a h.found m.matches.items h.each)

pub returns : goal.returns
returns c =
    let m = c.in_ok-met.met in
    let a = c.met_matches.new.auto in
    let b = c.read_matches.new.auto in
    let B = reading_of c.args.ways in
    let xs : List BoundVariable = c.read_matches.new.found.variables.items in
    bound_in_order B c.args.checked.now a b m xs c.sort_variables.new.variables.items c.in_ok-met.ensures
    (λ ms k. subst (λ (ys : List BoundVariable). AddsVariables B (program_tree m.sound) b (flat_map variables_of_match ms) ys xs) c.new.ensures.items
    (c.in_ok-read_matches.ensures ms (subst (AllZip (IsMet m.sound a) ms) (sym c.deref.ensures.value) k))) c.in_ok-sort_variables.ensures
