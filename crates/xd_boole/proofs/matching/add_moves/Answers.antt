use Rattle.std.proofs.Common.{◌<◌, ◌++◌, ◌∷◌, [], length, get_or, ap, ◌∙◌}
use Rattle.std.proofs.lemmas.List.{take_all}
use Rattle.xd_boole.proofs.Lists.{at_itself}
use Rattle.xd_boole.proofs.MatchLemmas.{adds_all, adds_more, adds_none}
use Rattle.xd_boole.proofs.matching.add_moves.Goals as goal

pub loop-number-init : goal.loop-number-init
loop-number-init g c = adds_none c.args.moves.now c.args.numbers.now c.args.made.now.items

pub loop-number-preserved : goal.loop-number-preserved
loop-number-preserved g c =
    let numbers = c.args.numbers.now in
    let i = c.loop-number.number-index in
    let k = get_or numbers i 0 in
    let within : k < length c.args.moves.now = c.requires i 0 c.loop-number-test.true in
    let m = c.index-moves-number.result in
    adds_more c.args.moves.now numbers i k m c.args.made.now.items c.loop-number.made.items c.push.new.self.items c.loop-number-test.true (at_itself numbers i 0 c.loop-number-test.true) within c.index-moves-number.is
    (c.in_ok-push.ensures.items ∙ ap (λ x. c.loop-number.made.items ++ x ∷ []) c.in_ok-share.ensures) c.loop-number.invariant

pub returns : goal.returns
returns g c =
    adds_all c.args.moves.now c.args.numbers.now c.loop-number.number-index c.args.made.now.items c.loop-number.made.items (take_all c.loop-number.number-index c.args.numbers.now c.loop-number-test.false) c.loop-number.invariant
