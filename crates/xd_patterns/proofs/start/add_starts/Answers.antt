use Rattle.std.proofs.Common.{◌++◌, ◌∷◌, [], false, take, get_or, sym, subst}
use Rattle.std.proofs.lemmas.List.{take_more, take_all}
use Rattle.xd_patterns.specs.declared.chains.Piece.{Piece}
use Rattle.xd_patterns.specs.Starting.{AddsStarts}
use Rattle.xd_patterns.proofs.SparesLemmas.{spares_none, spares_then}
use Rattle.xd_patterns.proofs.Starting.{starts_none, starts_more}
use Rattle.xd_patterns.proofs.start.add_starts.Goals as goal

no_piece : Piece
no_piece = record { of_pattern = false; node = 0; from = 0; is_turns = false; marks = 0 }

pub loop-piece-init : goal.loop-piece-init
loop-piece-init c = record {
  starts =
      subst (AddsStarts c.args.base [] c.args.cells.now c.args.states.now.keys c.args.auto.now c.args.auto.now) (sym c.new-starts.ensures.items)
      (starts_none c.args.base c.args.auto.now c.args.cells.now c.args.states.now.keys c.requires.base c.requires.cells c.requires.states);
  spares = spares_none c.args.base c.args.auto.now;
}

pub loop-piece-preserved : goal.loop-piece-preserved
unfolding no_piece
loop-piece-preserved c =
    let qs = c.args.pieces.now in
    let i = c.loop-piece.piece-index in
    let old = c.loop-piece.invariant in
    let base = c.args.base in record {
      starts =
          subst (λ ps. AddsStarts base ps c.put.new.self c.state_of.new.states.keys c.args.auto.now c.state_of.new.auto c.push.new.self.items) (sym (take_more qs i no_piece c.loop-piece-test.true))
          (subst (AddsStarts base (take i qs ++ get_or qs i no_piece ∷ []) c.put.new.self c.state_of.new.states.keys c.args.auto.now c.state_of.new.auto) (sym c.in_ok-push.ensures.items)
          (starts_more base (take i qs) c.loop-piece.cells c.put.new.self c.loop-piece.states.keys c.state_of.new.states.keys c.args.auto.now c.loop-piece.auto' c.state_of.new.auto c.loop-piece.starts.items (get_or qs i no_piece)
          c.in_ok-number.number c.in_ok-start.start old.starts c.in_ok-number.ensures.within.1 c.in_ok-number.ensures.list c.in_ok-number.ensures.links c.in_ok-start.ensures.finds));
      spares = spares_then base c.args.auto.now c.loop-piece.auto' c.state_of.new.auto old.spares c.in_ok-start.ensures.spares;
    }

pub returns-clause-starts : goal.returns-clause-starts
returns-clause-starts c =
    let test = c.loop-piece-test.false in
    subst (λ ps. AddsStarts c.args.base ps c.loop-piece.cells c.loop-piece.states.keys c.args.auto.now c.loop-piece.auto' c.loop-piece.starts.items) (take_all c.loop-piece.piece-index c.args.pieces.now test)
    c.loop-piece.invariant.starts

pub returns-in_err-start-clause-spares : goal.returns-in_err-start-clause-spares
returns-in_err-start-clause-spares c = spares_then c.args.base c.args.auto.now c.loop-piece.auto' c.state_of.new.auto c.loop-piece.invariant.spares c.state_of.ensures.spares

pub returns-in_err-push-clause-spares : goal.returns-in_err-push-clause-spares
returns-in_err-push-clause-spares c = spares_then c.args.base c.args.auto.now c.loop-piece.auto' c.state_of.new.auto c.loop-piece.invariant.spares c.in_ok-start.ensures.spares
