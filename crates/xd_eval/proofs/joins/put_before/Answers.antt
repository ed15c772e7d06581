use Rattle.std.proofs.Common.{◌≡◌, ◌<◌, arith, List, [], ◌∷◌, ◌++◌, ap, sym, subst, ◌∙◌}
use Rattle.std.specs.List.{AllByRecursion}
use Rattle.xd_doc.specs.Document.{Document, join}
use Rattle.xd_doc.specs.Stored.{document_at}
use Rattle.xd_doc.specs.StoreNodes.{node_seq}
use Rattle.xd_doc.proofs.Joins.{join_assoc}
use Rattle.xd_doc.proofs.Lists.{all_but_last, all_push}
use Rattle.xd_doc.proofs.StoredLemmas.{Keeps-trans}
use Rattle.xd_eval.specs.Values.{Stands, World, joined_after, value_at, values_then, weights, world}
use Rattle.xd_eval.specs.declared.joins.Value.{Value}
use Rattle.xd_eval.specs.declared.joins.Value.TheVariants.{Stored, Joined}
use Rattle.xd_eval.proofs.ValueLemmas.{IsJoin, join_at, length-joined}
use Rattle.xd_eval.proofs.ReadLemmas.{values_then-push, weights_fewer, weights_less}
use Rattle.xd_eval.proofs.joins.put_before.Goals as goal

-- the last value that waits, in front of what was made
taken : (w : World) (all vs : List Value) (v : Value) (d e : Document) → all ≡ vs ++ v ∷ [] → values_then w all d ≡ e → values_then w vs (join (value_at w v) d) ≡ e
taken w all vs v d e i h = sym (values_then-push w vs v d) ∙ ap (λ xs. values_then w xs d) (sym i) ∙ h

parted : (w : World) (all vs : List Value) (v : Value) → all ≡ vs ++ v ∷ [] → AllByRecursion (Stands w) all → AllByRecursion (Stands w) vs × Stands w v
parted w all vs v i a = all_but_last (Stands w) vs v (subst (AllByRecursion (Stands w)) i a)

fewer : (all vs : List Value) (v : Value) → all ≡ vs ++ v ∷ [] → weights vs < weights all
fewer all vs v i = subst (λ xs. weights vs < weights xs) (sym i) (weights_fewer vs v)

pub loop-value-smaller-in-Empty : goal.loop-value-smaller-in-Empty
loop-value-smaller-in-Empty c = fewer c.loop-value.waiting.items c.pop.new.self.items c.in-Some.value c.in-Some.ensures.items

pub loop-value-preserved-in-Empty : goal.loop-value-preserved-in-Empty
loop-value-preserved-in-Empty c =
    let w : World = world c.args.store.now c.args.joins.now in
    let i = c.loop-value.invariant in
    let d : Document = document_at c.loop-value.store c.loop-value.made in
    record {
      waiting = (parted w c.loop-value.waiting.items c.pop.new.self.items c.in-Some.value c.in-Some.ensures.items i.waiting).0;
      made = i.made;
      keeps = i.keeps;
      document = ap (λ v. values_then w c.pop.new.self.items (join (value_at w v) d)) (sym c.in-Empty.is)
          ∙ taken w c.loop-value.waiting.items c.pop.new.self.items c.in-Some.value d _ c.in-Some.ensures.items i.document;
    }

pub at-requires : goal.at-requires
at-requires c =
    let w : World = world c.args.store.now c.args.joins.now in
    let i = c.loop-value.invariant in
    let s : Stands w (Stored c.in-Stored.node) = subst (Stands w) c.in-Stored.is (parted w c.loop-value.waiting.items c.pop.new.self.items c.in-Some.value c.in-Some.ensures.items i.waiting).1 in
    (i.keeps.belongs (node_seq c.in-Stored.node) s).place

pub loop-value-smaller-in-Stored : goal.loop-value-smaller-in-Stored
loop-value-smaller-in-Stored c = fewer c.loop-value.waiting.items c.pop.new.self.items c.in-Some.value c.in-Some.ensures.items

pub loop-value-preserved-in-Stored : goal.loop-value-preserved-in-Stored
loop-value-preserved-in-Stored c =
    let w : World = world c.args.store.now c.args.joins.now in
    let i = c.loop-value.invariant in
    let d : Document = document_at c.loop-value.store c.loop-value.made in
    let p = parted w c.loop-value.waiting.items c.pop.new.self.items c.in-Some.value c.in-Some.ensures.items i.waiting in
    let s : Stands w (Stored c.in-Stored.node) = subst (Stands w) c.in-Stored.is p.1 in
    let e = c.in_ok-made-in-Stored.ensures in
    let front = c.at.ensures.document ∙ i.keeps.same (node_seq c.in-Stored.node) s ∙ sym (ap (value_at w) c.in-Stored.is) in
    record {
      waiting = p.0;
      made = e.belongs;
      keeps = Keeps-trans _ _ _ i.keeps e.keeps;
      document = ap (values_then w c.pop.new.self.items) (e.ok ∙ ap (λ x. join x d) front)
          ∙ taken w c.loop-value.waiting.items c.pop.new.self.items c.in-Some.value d _ c.in-Some.ensures.items i.document;
    }

pub join_at-join-requires : goal.join_at-join-requires
join_at-join-requires c =
    let w : World = world c.args.store.now c.args.joins.now in
    let s : Stands w (Joined c.in-Joined.number) =
    subst (Stands w) c.in-Joined.is (parted w c.loop-value.waiting.items c.pop.new.self.items c.in-Some.value c.in-Some.ensures.items c.loop-value.invariant.waiting).1 in
    omega (arith, s, length-joined c.args.store.now c.args.joins.now)

pub loop-value-smaller : goal.loop-value-smaller
loop-value-smaller c =
    let w : World = world c.args.store.now c.args.joins.now in
    let vs = c.pop.new.self.items in
    let s : Stands w (Joined c.in-Joined.number) =
    subst (Stands w) c.in-Joined.is (parted w c.loop-value.waiting.items vs c.in-Some.value c.in-Some.ensures.items c.loop-value.invariant.waiting).1 in
    let j = c.join_at-join.result in
    let h : IsJoin c.args.store.now (joined_after c.args.store.now [] c.args.joins.now) c.in-Joined.number j =
    join_at c.args.store.now c.args.joins.now c.in-Joined.number j c.requires.joins (omega (arith, s, length-joined c.args.store.now c.args.joins.now)) c.join_at-join.ensures in
    let more : c.push-in-Joined-2.new.self.items ≡ (vs ++ j.front ∷ []) ++ j.back ∷ [] = c.in_ok-push-in-Joined-2.ensures.items ∙ ap (λ xs. xs ++ j.back ∷ []) c.in_ok-push-in-Joined.ensures.items in
    let old : c.loop-value.waiting.items ≡ vs ++ Joined c.in-Joined.number ∷ [] = c.in-Some.ensures.items ∙ ap (λ v. vs ++ v ∷ []) c.in-Joined.is in
    subst (λ xs. weights xs < weights c.loop-value.waiting.items) (sym more) (subst (λ xs. weights ((vs ++ j.front ∷ []) ++ j.back ∷ []) < weights xs) (sym old)
    (weights_less vs j.front j.back c.in-Joined.number h.front_before h.back_before))

pub loop-value-preserved : goal.loop-value-preserved
loop-value-preserved c =
    let w : World = world c.args.store.now c.args.joins.now in
    let i = c.loop-value.invariant in
    let vs = c.pop.new.self.items in
    let d : Document = document_at c.loop-value.store c.loop-value.made in
    let p = parted w c.loop-value.waiting.items vs c.in-Some.value c.in-Some.ensures.items i.waiting in
    let s : Stands w (Joined c.in-Joined.number) = subst (Stands w) c.in-Joined.is p.1 in
    let j = c.join_at-join.result in
    let h : IsJoin c.args.store.now (joined_after c.args.store.now [] c.args.joins.now) c.in-Joined.number j =
    join_at c.args.store.now c.args.joins.now c.in-Joined.number j c.requires.joins (omega (arith, s, length-joined c.args.store.now c.args.joins.now)) c.join_at-join.ensures in
    let more : c.push-in-Joined-2.new.self.items ≡ (vs ++ j.front ∷ []) ++ j.back ∷ [] = c.in_ok-push-in-Joined-2.ensures.items ∙ ap (λ xs. xs ++ j.back ∷ []) c.in_ok-push-in-Joined.ensures.items in
    record {
      waiting = subst (AllByRecursion (Stands w)) (sym more) (all_push (Stands w) (vs ++ j.front ∷ []) j.back (all_push (Stands w) vs j.front p.0 h.front) h.back);
      made = i.made;
      keeps = i.keeps;
      document = ap (λ xs. values_then w xs d) more ∙ values_then-push w (vs ++ j.front ∷ []) j.back d ∙ values_then-push w vs j.front (join (value_at w j.back) d)
          ∙ ap (values_then w vs) (sym (join_assoc (value_at w j.front) (value_at w j.back) d) ∙ ap (λ x. join x d) (sym (ap (value_at w) c.in-Joined.is ∙ h.document)))
          ∙ taken w c.loop-value.waiting.items vs c.in-Some.value d _ c.in-Some.ensures.items i.document;
    }
