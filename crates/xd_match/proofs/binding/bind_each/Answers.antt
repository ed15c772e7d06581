use Rattle.std.proofs.Common.{ℕ, ◌≡◌, ◌<◌, length, arith, rules, get_or, Vec, Global, ◌∙◌}
use Rattle.std.specs.List.{AllByRecursion}
use Rattle.std.proofs.lemmas.List.{get_or_read, length_push}
use Rattle.xd_doc.specs.Document.{empty}
use Rattle.xd_doc.specs.Stored.{document_at}
use Rattle.xd_doc.specs.StoredSeq.{BelongsTo}
use Rattle.xd_doc.specs.declared.store.Seq.{Seq}
use Rattle.xd_doc.proofs.StoredLemmas.{Keeps-trans}
use Rattle.xd_auto.proofs.Walks.{places_push}
use Rattle.xd_match.specs.declared.binding.Piece.{Piece}
use Rattle.xd_match.specs.Taking.{PieceBelongs, pieces_then}
use Rattle.xd_match.proofs.Pieces.{pieces_kept, all_kept}
use Rattle.xd_match.proofs.binding.bind_each.Goals as goal

pub loop-x-preserved : goal.loop-x-preserved
loop-x-preserved c =
    let inside : c.loop-x.x < length c.args.items.now.items = search rules in
    let read : (f : Vec Piece Global) → c.index.result.now ≡ get_or c.args.items.now.items c.loop-x.x f =
    λ f. get_or_read c.args.items.now.items c.loop-x.x c.index.result.now inside c.index.ensures f in
    let all : AllByRecursion (PieceBelongs c.args.store.now) c.index.result.now.items = rw (read c.index.result.now) (c.requires c.loop-x.x c.index.result.now inside) in
    let here : document_at c.bind.new.store c.in_ok-made.made ≡ pieces_then c.args.store.now c.index.result.now.items empty =
    rw c.deref.ensures.value at c.in_ok-made.ensures.ok ∙ pieces_kept c.args.store.now c.loop-x.store c.index.result.now.items empty c.loop-x.invariant.keeps all in
    record {
      count = search rules;
      end_is = c.loop-x.invariant.end_is;
      keeps = Keeps-trans _ _ _ c.loop-x.invariant.keeps c.bind.ensures.keeps;
      belong = λ k e lt. rw c.in_ok-push.ensures.items
          (places_push (λ (i : ℕ) (s : Seq). BelongsTo c.bind.new.store s) c.loop-x.bound.items c.in_ok-made.made
          (λ i g below. c.bind.ensures.keeps.belongs _ (c.loop-x.invariant.belong i g (omega (arith, c.loop-x.invariant.count)))) c.in_ok-made.ensures.belongs k e
          (omega (arith, length_push c.loop-x.bound.items c.in_ok-made.made, c.loop-x.invariant.count)));
      bindings = λ k e f lt. rw c.in_ok-push.ensures.items
          (places_push (λ (i : ℕ) (s : Seq). document_at c.bind.new.store s ≡ pieces_then c.args.store.now (get_or c.args.items.now.items i f).items empty) c.loop-x.bound.items c.in_ok-made.made
          (λ i g below.
          let less : i < c.loop-x.x = omega (arith, c.loop-x.invariant.count) in
          c.bind.ensures.keeps.same _ (c.loop-x.invariant.belong i g less) ∙ c.loop-x.invariant.bindings i g f less)
          (rw (c.loop-x.invariant.count, ← read f) here) k e
          (omega (arith, length_push c.loop-x.bound.items c.in_ok-made.made, c.loop-x.invariant.count)));
    }

pub bind-requires : goal.bind-requires
bind-requires c =
    let inside : c.loop-x.x < length c.args.items.now.items = search rules in
    let read = get_or_read c.args.items.now.items c.loop-x.x c.index.result.now inside c.index.ensures c.index.result.now in
    let all : AllByRecursion (PieceBelongs c.args.store.now) c.index.result.now.items = rw read (c.requires c.loop-x.x c.index.result.now inside) in
    rw c.deref.ensures.value (all_kept c.args.store.now c.loop-x.store c.index.result.now.items c.loop-x.invariant.keeps all)

pub returns-in_err-made-clause-keeps : goal.returns-in_err-made-clause-keeps
returns-in_err-made-clause-keeps c = Keeps-trans _ _ _ c.loop-x.invariant.keeps c.bind.ensures.keeps

pub returns-in_err-push-clause-keeps : goal.returns-in_err-push-clause-keeps
returns-in_err-push-clause-keeps c = Keeps-trans _ _ _ c.loop-x.invariant.keeps c.bind.ensures.keeps
