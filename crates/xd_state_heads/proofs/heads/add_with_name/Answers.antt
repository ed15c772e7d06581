use Rattle.std.proofs.Common.{◌<◌, sym, ap, ◌∙◌, arith, length}
use Rattle.std.proofs.lemmas.List.{append-nil}
use Rattle.xd_auto.specs.Automaton.{moves_at}
use Rattle.xd_state_heads.proofs.Sides.{sides_hit, sides_next, sides_done}
use Rattle.xd_state_heads.proofs.heads.add_with_name.Goals as goal

pub loop-number-preserved : goal.loop-number-preserved
loop-number-preserved g c =
    let head = g.M.Headed.head in
    let name = c.args.name.now in
    let ms = c.moves-moves.result.now in
    let m = c.index-moves-number.result in
    let count = ap length c.moves-moves.ensures.value in
    let below : c.in-Some.number < length ms = omega (arith, c.in-Some.ensures.some, count) in
    let next = rw (← c.moves-moves.ensures.value) at c.in-Some.ensures.next in
    record {
      within = omega arith;
      made = sides_hit head (g.C.Names.named name) c.args.before ms c.in-Some.number m c.args.sides.now.items c.loop-number.sides.items c.push.new.self.items below c.index-moves-number.is
          (sym (g.met.M.Headed.matches_named m name) ∙ ap (λ step. g.C.Names.has_name (g.M.Headed.class_of step) name) c.index-moves-number.is ∙ next.here m below)
          (sides_next head (g.C.Names.named name) c.args.before ms (λ step. g.C.Names.has_name (g.M.Headed.class_of step)) name (λ step. g.met.M.Headed.matches_named step name) c.loop-number.from c.in-Some.number next c.args.sides.now.items c.loop-number.sides.items c.loop-number.invariant.made)
          (rw c.side.ensures at c.in_ok-push.ensures.items);
    }

pub returns : goal.returns
returns g c =
    let head = g.M.Headed.head in
    let name = c.args.name.now in
    let ms = c.moves-moves.result.now in
    sides_done head (g.C.Names.named name) c.args.before ms (g.M.Move.moves_in (moves_at c.args.auto.now c.args.state)) (length ms) c.args.sides.now.items c.loop-number.sides.items c.moves-moves.ensures.value (omega arith)
    (sides_next head (g.C.Names.named name) c.args.before ms (λ step. g.C.Names.has_name (g.M.Headed.class_of step)) name (λ step. g.met.M.Headed.matches_named step name) c.loop-number.from (length ms) (rw (← c.moves-moves.ensures.value) at c.in_default.ensures.next)
    c.args.sides.now.items c.loop-number.sides.items c.loop-number.invariant.made)

pub loop-number-init : goal.loop-number-init
loop-number-init g c = record { within = omega arith; made = sym (append-nil c.args.sides.now.items) }
