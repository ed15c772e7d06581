use Rattle.std.proofs.Common.{◌<◌, arith, [], ap, sym, subst, ◌∙◌}
use Rattle.xd_doc.specs.Document.{Document}
use Rattle.xd_eval.specs.Values.{AreMet, Stands, World, fronts_then, joined_after, place_of_value, value_at, world}
use Rattle.xd_eval.specs.declared.joins.Met.{Met}
use Rattle.xd_eval.specs.declared.joins.Value.TheVariants.{Joined}
use Rattle.xd_eval.proofs.ValueLemmas.{IsJoin, join_at, length-joined}
use Rattle.xd_eval.proofs.ReadLemmas.{fronts_then-push, met_push}
use Rattle.xd_eval.proofs.joins.last_of.Goals as goal

pub join_at-join-requires : goal.join_at-join-requires
join_at-join-requires c =
    let s : Stands (world c.args.store.now c.args.joins.now) (Joined c.in-Joined.number) = subst (Stands (world c.args.store.now c.args.joins.now)) c.in-Joined.is c.loop-last.invariant.stands in
    omega (arith, s, length-joined c.args.store.now c.args.joins.now)

pub loop-last-smaller : goal.loop-last-smaller
loop-last-smaller c =
    let s : Stands (world c.args.store.now c.args.joins.now) (Joined c.in-Joined.number) = subst (Stands (world c.args.store.now c.args.joins.now)) c.in-Joined.is c.loop-last.invariant.stands in
    let h = join_at c.args.store.now c.args.joins.now c.in-Joined.number c.join_at-join.result c.requires.joins (omega (arith, s, length-joined c.args.store.now c.args.joins.now)) c.join_at-join.ensures in
    let e = ap place_of_value c.in-Joined.is in
    let r : place_of_value c.join_at-join.result.back < place_of_value c.loop-last.last = omega (arith, h.back_before, e) in r

pub loop-last-preserved : goal.loop-last-preserved
loop-last-preserved c =
    let w : World = world c.args.store.now c.args.joins.now in
    let i = c.loop-last.invariant in
    let j = c.join_at-join.result in
    let ms = c.loop-last.met.items in
    let m : Met = record { number = c.in-Joined.number; front = j.front } in
    let s : Stands w (Joined c.in-Joined.number) = subst (Stands w) c.in-Joined.is i.stands in
    let h : IsJoin c.args.store.now (joined_after c.args.store.now [] c.args.joins.now) c.in-Joined.number j =
    join_at c.args.store.now c.args.joins.now c.in-Joined.number j c.requires.joins (omega (arith, s, length-joined c.args.store.now c.args.joins.now)) c.join_at-join.ensures in
    let v = ap (value_at w) c.in-Joined.is in
    let d : Document = value_at w j.back in
    record {
      stands = h.back;
      met = subst (λ xs. AreMet w xs d) (sym c.in_ok-push-in-Joined.ensures.items) (met_push w ms m d (value_at w c.loop-last.last) i.met s h.front (sym v) (v ∙ h.document));
      value = ap (λ xs. fronts_then w xs d) c.in_ok-push-in-Joined.ensures.items ∙ fronts_then-push w ms m d ∙ ap (fronts_then w ms) (sym (v ∙ h.document)) ∙ i.value;
    }
