use Rattle.std.proofs.Common.{◌≡◌, ℕ, [], Vec, Global, arith}
use Rattle.std.proofs.lemmas.List.{length_push}
use Rattle.xd_auto.proofs.Walks.{places_push}
use Rattle.xd_match.specs.declared.binding.Piece.{Piece}
use Rattle.xd_match.proofs.front.empty_rows.Goals as goal

pub loop-preserved : goal.loop-preserved
loop-preserved c =
    let long = length_push c.loop.rows.items c.new.result in
    record {
      count = rw c.in_ok-push.ensures.items (omega (arith, long, c.loop.invariant.count));
      bare = λ x e lt. rw c.in_ok-push.ensures.items
          (places_push (λ (i : ℕ) (v : Vec Piece Global). v.items ≡ []) c.loop.rows.items c.new.result (λ i g below. c.loop.invariant.bare i g (omega (arith, c.loop.invariant.count)))
          c.new.ensures.items x e (omega (arith, long, c.loop.invariant.count)));
    }
