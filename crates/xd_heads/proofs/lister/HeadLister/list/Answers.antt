use Rattle.std.proofs.Common.{◌∷◌, ◌++◌, [], map, take, get_or, sym, subst, ap, ◌∙◌}
use Rattle.std.specs.List.{AllZip}
use Rattle.std.proofs.lemmas.List.{take_more}
use Rattle.xd_doc.proofs.Lists.{zip_push, map_append}
use Rattle.xd_continuations.specs.Continuation.{head_of}
use Rattle.xd_moves.specs.Found.{move_at}
use Rattle.xd_heads.specs.HeadList.{IsHeadFound}
use Rattle.xd_heads.specs.Numbered.{IsHeadIn}
use Rattle.xd_moves.specs.declared.expansion.Found.{Found}
use Rattle.xd_heads.proofs.HeadLists.{each_found}
use Rattle.xd_heads.proofs.lister.HeadLister.list.Goals as goal

no_move : Found
no_move = record { node = 0; rest = 0 }

pub head_of-requires : goal.head_of-requires
unfolding no_move
head_of-requires c =
    let r = c.requires.serves in
    record { serves = (r.0, r.1, r.2, each_found (IsHeadFound r.0 c.args.self.now.cells) c.args.found.now c.loop-one.one-index no_move r.3 c.loop-one-test.true) }

pub loop-one-preserved : goal.loop-one-preserved
unfolding no_move
loop-one-preserved c =
    let types = c.args.types.now in
    let cells = c.args.self.now.cells in
    let fs = c.args.found.now in
    let i = c.loop-one.one-index in
    let f = get_or fs i no_move in
    let h = c.in_ok-head_of.field-0 in
    let hs = map head_of (map (move_at types cells) (take i fs)) in
    let e = ap (λ xs. map head_of (map (move_at types cells) xs)) (take_more fs i no_move c.loop-one-test.true)
    ∙ ap (map head_of) (map_append (move_at types cells) (take i fs) (f ∷ [])) ∙ map_append head_of (map (move_at types cells) (take i fs)) (move_at types cells f ∷ []) in
    subst (λ ys. AllZip (IsHeadIn types cells) c.push.new.self.items ys) (sym e)
    (subst (λ xs. AllZip (IsHeadIn types cells) xs (hs ++ head_of (move_at types cells f) ∷ [])) (sym c.in_ok-push.ensures.items)
    (zip_push (IsHeadIn types cells) c.loop-one.made.items hs h (head_of (move_at types cells f)) c.loop-one.invariant c.in_ok-head_of.ensures))
