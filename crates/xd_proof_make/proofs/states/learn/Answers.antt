use Rattle.std.proofs.Common.{◌≡◌, ℕ, Some, get_or, set, ap, subst}
use Rattle.xd_proof_make.proofs.KeepsKnownLemmas.{all_grow, found_known, grows_by, set_known, set_has, set_keeps, read_none, read_known}
use Rattle.xd_proof_make.proofs.states.learn.Goals as goal

pub returns-in_err-id-clause-known : goal.returns-in_err-id-clause-known
returns-in_err-id-clause-known c = all_grow c.args.sound.now c.state_type.new.sound c.args.cells.now c.args.states.now.items c.requires.mirrors (grows_by c.args.sound.now c.state_type.new.sound c.state_type.ensures.adds c.state_type.ensures.same c.state_type.ensures.shallow)

pub returns-in_ok-id-clause-known : goal.returns-in_ok-id-clause-known
returns-in_ok-id-clause-known c =
    set_known c.args.states.now.items _ c.args.state c.in_ok-id.id c.requires.there (ap (λ (n : ℕ). set c.args.states.now.items n (Some c.in_ok-id.id)) c.number-then-is_none.ensures)
    c.args.sound.now c.state_type.new.sound c.args.cells.now c.requires.mirrors
    (grows_by c.args.sound.now c.state_type.new.sound c.state_type.ensures.adds c.state_type.ensures.same c.state_type.ensures.shallow)
    (found_known c.args.sound.now c.state_type.new.sound c.args.cells.now c.requires.mirrors.0 c.args.state c.in_ok-id.id c.requires.mirrors.1 c.state_type.ensures.adds c.in_ok-id.ensures.belongs c.in_ok-id.ensures.continuation)

pub returns-in_ok-id-clause-has : goal.returns-in_ok-id-clause-has
returns-in_ok-id-clause-has c =
    set_has c.args.states.now.items _ c.args.state c.in_ok-id.id c.requires.there (ap (λ (n : ℕ). set c.args.states.now.items n (Some c.in_ok-id.id)) c.number-then-is_none.ensures)

pub returns-in_ok-id-clause-keeps : goal.returns-in_ok-id-clause-keeps
returns-in_ok-id-clause-keeps c =
    set_keeps c.args.states.now.items _ c.args.state c.in_ok-id.id c.requires.there (ap (λ (n : ℕ). set c.args.states.now.items n (Some c.in_ok-id.id)) c.number-then-is_none.ensures)
    (read_none c.args.states.now.items c.args.state.number c.index.result.now c.requires.there (subst (λ (n : ℕ). c.index.result.now ≡ get_or c.args.states.now.items n c.index.result.now) c.number.ensures c.index.ensures) c.if-is_none.ensures)

pub returns-else-is_none-clause-has : goal.returns-else-is_none-clause-has
returns-else-is_none-clause-has c =
    read_known c.args.states.now.items c.args.state c.index.result.now c.requires.there (subst (λ (n : ℕ). c.index.result.now ≡ get_or c.args.states.now.items n c.index.result.now) c.number.ensures c.index.ensures) c.if-is_none.ensures

pub returns-in_err-id-clause-grows : goal.returns-in_err-id-clause-grows
returns-in_err-id-clause-grows c = grows_by c.args.sound.now c.state_type.new.sound c.state_type.ensures.adds c.state_type.ensures.same c.state_type.ensures.shallow

pub returns-in_ok-id-clause-grows : goal.returns-in_ok-id-clause-grows
returns-in_ok-id-clause-grows c = grows_by c.args.sound.now c.state_type.new.sound c.state_type.ensures.adds c.state_type.ensures.same c.state_type.ensures.shallow
