use Rattle.std.proofs.Common.{[], ◌∷◌, codes, false, subst}
use Rattle.xd_doc.proofs.Options.{some_holds}
use Rattle.xd_syntax.specs.Types.{BelongsTo}
use Rattle.xd_same_types.proofs.Ids.{ok_map}
use Rattle.xd_show_solve.specs.Levels.{IsStateType, MeansAny}
use Rattle.xd_show.specs.Contents.{MeansAnyAnd}
use Rattle.xd_show.proofs.ContentLaws.{nones_found, type_by, type_of_state}
use Rattle.xd_show.proofs.bodies.body_of.Goals as goal

pub returns-in-Some-clause-body : goal.returns-in-Some-clause-body
returns-in-Some-clause-body c =
    let a = c.args.auto.now in
    let s = c.args.state in
    let old = c.args.pool.now.types in
    let new = c.state_type.new.pool.types in
    let written = c.args.written.now in
    let id = c.in-Some.id in
    let found = subst (IsStateType a old written s new) c.in-Some.is c.in_ok-id.ensures.exact in
    let belongs = some_holds (BelongsTo new) c.in_ok-id.field-0 id c.in-Some.is c.in_ok-id.ensures.belongs in
    type_by MeansAny (MeansAnyAnd a c.args.name.now s) a old written s new id (λ N p. p.0) (type_of_state a old written s new id found belongs)

pub returns-clause-body : goal.returns-clause-body
returns-clause-body c =
    let a = c.args.auto.now in
    let s = c.args.state in
    let old = c.args.pool.now.types in
    let mid = c.state_type.new.pool.types in
    let written = c.args.written.now in
    let found = subst (IsStateType a old written s mid) c.in-None.is c.in_ok-id.ensures.exact in
    nones_found a c.args.name.now old written s mid c.none_around.new.pool.types c.none_around.result found (ok_map c.none_around.result _ _ (λ id e. (record { names = codes "none" ∷ []; except = false }, e)) c.none_around.ensures.tree) c.none_around.ensures.belongs
