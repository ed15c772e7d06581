use Rattle.std.proofs.Common.{◌≡◌, ◌+◌, ◌∙◌, suc, take, ap, sym, arith}
use Rattle.std.proofs.lemmas.List.{take_all}
use Rattle.std.specs.List.{list_all}
use Rattle.xd_syntax.specs.declared.types.TypeId.{TypeId}
use Rattle.xd_proof_check.specs.Leaves.{is_among}
use Rattle.xd_moves.specs.Codes.{number_at}
use Rattle.xd_proof_check.proofs.LeafLemmas.{more_is, one_more, some_not, zero_not}
use Rattle.xd_proof_check.proofs.leaves.rights_stand.Goals as goal

no_type : TypeId
no_type = record { at = 0 }

pub returns-then-counts-numbers-eq0 : goal.returns-then-counts-numbers-eq0
unfolding no_type
returns-then-counts-numbers-eq0 c =
    let numbers = c.args.numbers.now in
    let rights = c.args.rights.now in
    let i = c.loop-id.id-index in
    λ ns a.
    sym (some_not (λ (id : TypeId). is_among ns (number_at numbers id.at)) rights i no_type c.loop-id-test.true
    (ap (λ k. is_among ns (number_at numbers k)) (sym c.at.ensures) ∙ zero_not c.args.counts.now ns (number_at numbers c.at.result) a c.if-counts-numbers-eq0.true))

pub loop-id-preserved : goal.loop-id-preserved
unfolding no_type
loop-id-preserved c =
    let numbers = c.args.numbers.now in
    let rights = c.args.rights.now in
    let i = c.loop-id.id-index in
    λ ns a.
    let e : suc i ≡ i + 1 = omega arith in
    ap (λ k. list_all (λ (id : TypeId). is_among ns (number_at numbers id.at)) (take k rights)) (sym e)
    ∙ one_more (λ (id : TypeId). is_among ns (number_at numbers id.at)) rights i no_type c.loop-id-test.true (c.loop-id.invariant ns a)
    (ap (λ k. is_among ns (number_at numbers k)) (sym c.at.ensures) ∙ more_is c.args.counts.now ns (number_at numbers c.at.result) a c.if-counts-numbers-eq0.false)

pub returns : goal.returns
returns c =
    let numbers = c.args.numbers.now in
    let rights = c.args.rights.now in
    λ ns a.
    sym (c.loop-id.invariant ns a) ∙ ap (list_all (λ (id : TypeId). is_among ns (number_at numbers id.at))) (take_all c.loop-id.id-index rights (omega (arith, c.loop-id-test.false)))
