use Rattle.std.proofs.Common.{◌≡◌, true}
use Rattle.xd_doc.proofs.Lists.{all_more}
use Rattle.xd_auto.specs.Automaton.{moves_at}
use Rattle.xd_boole.specs.Groups.{is_side, label_side, side_accepts}
use Rattle.xd_boole.specs.Points.{MoveBelow}
use Rattle.xd_boole.proofs.MoveBelowLemmas.{labels_are}
use Rattle.xd_boole.proofs.AnyAcceptsLemmas.{side_is}
use Rattle.std.proofs.Common.{length, refl}
use Rattle.xd_boole.proofs.matching.moves_before.Goals as goal

pub returns : goal.returns
returns c =
    let a = c.args.auto.now in
    record {
      taken = λ q had. c.in_ok-made.ensures.taken q.label had (λ m. side_accepts a q.content q.rest (label_side m));
      inside = c.in_ok-made.ensures.inside (λ m. is_side a (label_side m))
          (λ s leads. all_more (MoveBelow (length a)) (λ m. is_side a (label_side m) ≡ true) (moves_at a s).labels (side_is a) (labels_are a s (moves_at a s).labels refl leads));
    }
