use Rattle.std.proofs.Common.{◌≡◌, ◌<◌, arith, List, [], length, get_or, set, vec_len, rules, ap, sym, subst, ◌∙◌}
use Rattle.xd_doc.specs.Document.{Document, empty, join}
use Rattle.xd_doc.specs.Stored.{document_at}
use Rattle.xd_doc.proofs.StoredLemmas.{Keeps-trans}
use Rattle.xd_eval.specs.Values.{AreMet, JoinsStand, Stands, World, fronts_then, joined_after, value_at, value_of, world}
use Rattle.xd_eval.specs.declared.joins.Join.{Join}
use Rattle.xd_eval.specs.declared.joins.Value.{Value}
use Rattle.xd_eval.specs.declared.joins.Value.TheVariants.{Empty}
use Rattle.xd_eval.proofs.ValueLemmas.{joined_same, joins_kept, length-joined, set_same, set_stand, world_same}
use Rattle.xd_eval.proofs.ReadLemmas.{fronts_then-push, met_pop}
use Rattle.xd_eval.proofs.joins.read.Goals as goal

pub put_before-requires-clause-front : goal.put_before-requires-clause-front
put_before-requires-clause-front c =
    let w : World = world c.args.store.now c.args.joins.now.items in
    let i = c.loop-join.invariant in
    let d : Document = document_at c.loop-join.store c.loop-join.made in
    let m = met_pop w c.pop.new.self.items c.in-Some.join d (subst (λ ms. AreMet w ms d) c.in-Some.ensures.items i.met) in
    subst (λ (js : List Join). Stands (world c.loop-join.store js) c.in-Some.join.front) (sym c.deref-in-Some.ensures.value)
    ((world_same c.args.store.now c.loop-join.store i.keeps (joined_after c.args.store.now [] c.args.joins.now.items) (joined_after c.loop-join.store [] c.loop-join.joins.items) i.joined).stands c.in-Some.join.front m.front)

pub index_mut-requires : goal.index_mut-requires
index_mut-requires c =
    let w : World = world c.args.store.now c.args.joins.now.items in
    let i = c.loop-join.invariant in
    let d : Document = document_at c.loop-join.store c.loop-join.made in
    let m = met_pop w c.pop.new.self.items c.in-Some.join d (subst (λ ms. AreMet w ms d) c.in-Some.ensures.items i.met) in
    let v : vec_len c.loop-join.joins ≡ length c.loop-join.joins.items = search rules in
    omega (arith, m.there, ap length i.joined, length-joined c.loop-join.store c.loop-join.joins.items, v)

pub loop-join-preserved : goal.loop-join-preserved
loop-join-preserved c =
    let w : World = world c.args.store.now c.args.joins.now.items in
    let here : List Document = c.loop-join.store in
    let new : List Document = c.put_before.new.store in
    let js : List Join = c.loop-join.joins.items in
    let ms = c.pop.new.self.items in
    let join_met = c.in-Some.join in
    let seq = c.in_ok-made-2.made in
    let i = c.loop-join.invariant in
    let e = c.in_ok-made-2.ensures in
    let d : Document = document_at here c.loop-join.made in
    let m = met_pop w ms join_met d (subst (λ xs. AreMet w xs d) c.in-Some.ensures.items i.met) in
    let k = world_same c.args.store.now here i.keeps (joined_after c.args.store.now [] c.args.joins.now.items) (joined_after here [] js) i.joined in
    let made : document_at new seq ≡ join (value_at w join_met.front) d =
    e.document ∙ ap (λ (xs : List Join). join (value_at (world here xs) join_met.front) d) c.deref-in-Some.ensures.value ∙ ap (λ x. join x d) (k.same join_met.front m.front) in
    let same : joined_after new [] js ≡ joined_after c.args.store.now [] c.args.joins.now.items = joined_same here new e.keeps js i.joins ∙ i.joined in
    let there : get_or (joined_after new [] js) join_met.number empty ≡ document_at new seq = ap (λ xs. get_or xs join_met.number empty) same ∙ m.value ∙ sym made in
    let l : join_met.number < length js = omega (arith, m.there, ap length i.joined, length-joined here js) in
    let is : set js join_met.number record { front = Empty; back = c.of.result } ≡ set js join_met.number record { front = Empty; back = value_of seq } =
    ap (λ (v : Value). set js join_met.number record { front = Empty; back = v }) c.of.ensures in
    record {
      joins = subst (JoinsStand new) (sym is) (set_stand new seq e.belongs js join_met.number l there (joins_kept here new e.keeps js i.joins));
      joined = ap (joined_after new []) is ∙ set_same new seq e.belongs js join_met.number l there ∙ same;
      keeps = Keeps-trans _ _ _ i.keeps e.keeps;
      made = e.belongs;
      met = subst (AreMet w ms) (sym made) m.others;
      document = ap (fronts_then w ms) made ∙ sym (fronts_then-push w ms join_met d) ∙ ap (λ xs. fronts_then w xs d) (sym c.in-Some.ensures.items) ∙ i.document;
    }

pub returns-clause-same : goal.returns-clause-same
returns-clause-same c =
    let i = c.loop-join.invariant in
    world_same c.args.store.now c.loop-join.store i.keeps (joined_after c.args.store.now [] c.args.joins.now.items) (joined_after c.loop-join.store [] c.loop-join.joins.items) i.joined
