use Rattle.std.proofs.Common.{◌+◌, ◌++◌, List, ap, map, refl, arith, ◌∙◌}
use Rattle.xd_auto.specs.Automaton.{moves_at}
use Rattle.xd_rules.specs.declared.atom.Atom.{Atom}
use Rattle.xd_state_heads.specs.Wants.{IsHeadNamed, names_in, want_of}
use Rattle.xd_state_heads.proofs.IsHeadNamedLemmas.{heads_step, heads_done}
use Rattle.xd_rules.proofs.Lists.{all_mapped}
use Rattle.xd_state_heads.proofs.heads.add_cases.Goals as goal

pub atoms-requires : goal.atoms-requires
atoms-requires g c =
    all_mapped (IsHeadNamed (names_in c.args.unnamed.now.labels c.args.unnamed.now.texts)) g.M.Headed.head c.moves-moves.result.now c.loop-number.number c.index-moves-number.result
    (rw c.moves-moves.ensures.value c.requires.named) c.loop-number-test.true c.index-moves-number.is

pub loop-number-preserved : goal.loop-number-preserved
loop-number-preserved g c =
    let head = g.M.Headed.head c.index-moves-number.result in
    let number = c.args.before + c.loop-number.number + 1 in
    record {
      made = heads_step g.M.Headed.head (names_in c.args.unnamed.now.labels c.args.unnamed.now.texts) (1 + c.args.before) c.moves-moves.result.now c.loop-number.number c.index-moves-number.result c.args.cases.now.items c.loop-number.cases.items c.add_at_atoms.new.cases.items number head
          c.loop-number-test.true c.index-moves-number.is (omega arith) refl c.loop-number.invariant.made
          ((rw c.side.ensures at c.in_ok-add_at_atoms.ensures) ∙ ap (λ (atoms : List Atom). c.loop-number.cases.items ++ map (want_of number head) atoms) (c.deref.ensures.value ∙ c.in_ok-atoms.ensures));
      end_is = refl;
    }

pub returns : goal.returns
returns g c =
    heads_done g.M.Headed.head (names_in c.args.unnamed.now.labels c.args.unnamed.now.texts) (1 + c.args.before) c.moves-moves.result.now (g.M.Move.moves_in (moves_at c.args.auto.now c.args.left)) c.loop-number.number c.args.cases.now.items c.loop-number.cases.items
    c.moves-moves.ensures.value c.loop-number-test.false c.loop-number.invariant.made
