use Rattle.std.proofs.Common.{◌≡◌, ◌+◌, ◌<◌, ◌∷◌, [], length, get_or, sym, ap, ◌∙◌, subst, arith}
use Rattle.xd_doc.proofs.Lists.{length_push}
use Rattle.xd_auto.specs.declared.auto.State.{State}
use Rattle.xd_syntax.specs.Words.{any_word}
use Rattle.xd_same_types.proofs.Ids.{got}
use Rattle.xd_show.proofs.ContentLaws.{AreBodiesBelow, bodies_more, known_at, names_by, names_then}
use Rattle.xd_show.proofs.bodies.bodies_by.Goals as goal

pub loop-number-preserved : goal.loop-number-preserved
loop-number-preserved c =
    let a = c.args.auto.now in
    let words = c.args.names.now in
    let named = c.args.named.now in
    let k = c.loop-number.number in
    let w = c.index-names-number.result in
    let none : State = record { number = 0 } in
    let s : State = get_or named k none in
    let m : k < length named = omega arith in
    let l : k < length words = omega (arith, c.requires.count) in
    let inv = c.loop-number.invariant in
    let old = c.args.pool.now.types in
    let mid = c.loop-number.pool.types in
    let new = c.body_of.new.pool.types in
    let made = c.loop-number.made.items in
    let id = c.in_ok-body.body in
    let written = c.args.written.now in
    let items = c.in_ok-push.ensures.items in
    record {
      grows = names_then (any_word ∷ words) old mid new inv.grows (names_by (any_word ∷ w ∷ []) (any_word ∷ words) mid new (λ known h. (h.0, known_at known words k w l c.index-names-number.is h.1)) c.body_of.ensures.grows);
      count = ap length items ∙ length_push made id ∙ ap (λ n. n + 1) inv.count;
      each = subst (λ xs. AreBodiesBelow a words named old written new xs (k + 1)) (sym items)
          (bodies_more a words named old mid new written made k w s id inv.grows.rows c.body_of.ensures.grows.rows c.requires.belong inv.count l m c.index-names-number.is (got named k none m) inv.each c.in_ok-body.ensures.body);
    }

pub returns-clause-bodies : goal.returns-clause-bodies
returns-clause-bodies c =
    let end : c.loop-number.number ≡ length c.args.named.now = omega arith in
    record {
      count = c.loop-number.invariant.count ∙ end;
      each = λ k w s id l. c.loop-number.invariant.each k w s id (subst (λ n. k < n) (sym end) l);
    }
