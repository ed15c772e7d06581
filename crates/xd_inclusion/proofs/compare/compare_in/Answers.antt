use Rattle.std.proofs.Common.{sym, subst}
use Rattle.std.specs.Result.{IfOk}
use Rattle.xd_proof_make.specs.Made.{UsesDefined}
use Rattle.xd_syntax.specs.Types.{tree}
use Rattle.xd_sound.proofs.AdoptLaws.{AddsTypes-trans}
use Rattle.xd_inclusion.specs.Compared.{IsInclusion}
use Rattle.xd_inclusion.proofs.compare.compare_in.Goals as goal

pub compare_states-requires-clause-left : goal.compare_states-requires-clause-left
compare_states-requires-clause-left c =
    let T = tree c.args.sound.now.types c.args.left in
    record { T = T; stands = c.in_ok-one.ensures.left; names = subst (λ P. UsesDefined P T) (sym c.in_ok-one.ensures.same) c.requires.left_names }

pub compare_states-requires-clause-right : goal.compare_states-requires-clause-right
compare_states-requires-clause-right c =
    let T = tree c.args.sound.now.types c.args.right in
    record { T = T; stands = c.in_ok-one.ensures.right; names = subst (λ P. UsesDefined P T) (sym c.in_ok-one.ensures.same) c.requires.right_names }

pub returns-clause-inclusion : goal.returns-clause-inclusion
returns-clause-inclusion c =
    let types = c.args.sound.now.types in
    let L = tree types c.args.left in
    let R = tree types c.args.right in
    subst (λ P. IfOk c.compare_states.result (IsInclusion P L R c.compare_states.new.store)) c.in_ok-one.ensures.same
    (c.compare_states.ensures.inclusion L R c.in_ok-one.ensures.left c.in_ok-one.ensures.right)

pub returns-clause-adds : goal.returns-clause-adds
returns-clause-adds c = AddsTypes-trans c.args.sound.now c.compile_both.new.sound c.compare_states.new.sound c.in_ok-one.ensures.adds c.compare_states.ensures.adds
