use Rattle.std.proofs.Common.{◌≡◌, ◌∷◌, refl, sym, subst}
use Rattle.xd_syntax.specs.Words.{any_word}
use Rattle.xd_syntax.specs.Kept.{program_tree}
use Rattle.xd_show_solve.specs.Levels.{WrittenBelong}
use Rattle.xd_same_types.proofs.Ids.{ok_map}
use Rattle.xd_named_parts.specs.declared.parts.Definitions.{Definitions}
use Rattle.xd_show.specs.Contents.{GrowsNames}
use Rattle.xd_show.proofs.SettledLaws.{bodies_moved, settled_bodies, settled_shown}
use Rattle.xd_show.proofs.states.show_some.Goals as goal

pub bodies_by-requires-clause-belong : goal.bodies_by-requires-clause-belong
bodies_by-requires-clause-belong c =
    let made = c.in_ok-pool.field-0 in
    let e : c.deref-3.result.now ≡ made.written.items = cc in
    subst (WrittenBelong made.pool.types) (sym e) c.in_ok-pool.ensures.settled.contents.belong

pub shown-requires-clause-given : goal.shown-requires-clause-given
shown-requires-clause-given c =
    let a = c.args.auto.now in
    let made = c.in_ok-pool.field-0 in
    let new = c.bodies_by.new.pool.types in
    let bodies = c.in_ok-bodies.bodies.items in
    let written : c.deref-3.result.now ≡ made.written.items = cc in
    let named : c.deref-4.result.now ≡ made.named.items = cc in
    let names : c.deref-5.result.now ≡ made.names.items = cc in
    let by = bodies_moved a c.deref-5.result.now made.names.items c.deref-4.result.now made.named.items made.pool.types new c.deref-3.result.now made.written.items bodies names named written c.in_ok-bodies.ensures.bodies in
    let grows = subst (λ ws. GrowsNames (any_word ∷ ws) made.pool.types new) names c.in_ok-bodies.ensures.grows in
    record { names = c.in_ok-pool.ensures.settled.new; bodies = settled_bodies a c.args.start c.args.taken.now made new bodies c.in_ok-pool.ensures.settled by grows }

pub returns : goal.returns
returns c =
    let a = c.args.auto.now in
    let made = c.in_ok-pool.field-0 in
    let new = c.bodies_by.new.pool.types in
    let bodies = c.in_ok-bodies.bodies.items in
    let written : c.deref-3.result.now ≡ made.written.items = cc in
    let named : c.deref-4.result.now ≡ made.named.items = cc in
    let names : c.deref-5.result.now ≡ made.names.items = cc in
    let by = bodies_moved a c.deref-5.result.now made.names.items c.deref-4.result.now made.named.items made.pool.types new c.deref-3.result.now made.written.items bodies names named written c.in_ok-bodies.ensures.bodies in
    let D : Definitions = record { pool = c.bodies_by.new.pool; names = made.names; bodies = c.in_ok-bodies.bodies } in
    ok_map c.shown.result _ _
    (λ shown h. settled_shown a c.args.start c.args.taken.now made new bodies c.in_ok-pool.ensures.settled by c.requires.some (program_tree shown.sound) shown.start D refl refl refl h)
    c.shown.ensures
