use Rattle.std.proofs.Common.{◌≡◌, ◌↔◌, true, refl, sym, subst, ap, ◌∙◌}
use Rattle.xd_auto.specs.Automaton.{accepts}
use Rattle.xd_syntax.specs.Fits.{Fits}
use Rattle.xd_syntax.specs.Types.{tree}
use Rattle.xd_syntax.specs.Program.{names_of}
use Rattle.xd_sound.proofs.AdoptLaws.{AddsTypes-trans, type_kept}
use Rattle.xd_inclusion.specs.States.{IsStateOf}
use Rattle.xd_inclusion.proofs.states.compile_both.Goals as goal

pub returns-clause-left : goal.returns-clause-left
returns-clause-left c =
    let e = c.in_ok-other.ensures in
    let o = c.in_ok-one.ensures in
    let T = tree c.args.sound.now.types c.args.left in
    let P = ap names_of (e.same ∙ o.same) in
    let auto = c.compile_type-2.new.auto in
    record {
      state = e.extends.states c.in_ok-one.one o.state;
      exact = λ d. subst (λ E. (accepts auto d c.in_ok-one.one ≡ true) ↔ Fits E T d) (sym P) (
          let k = e.keeps d c.in_ok-one.one o.state in ((λ t. (o.accepts d).0 (sym k ∙ t)), (λ f. k ∙ (o.accepts d).1 f)));
      continuation = e.owners.types c.in_ok-one.one T o.continuation;
    }

pub returns-clause-right : goal.returns-clause-right
returns-clause-right c =
    let e = c.in_ok-other.ensures in
    let mid = c.compile_type.new.sound in
    let T = tree c.args.sound.now.types c.args.right in
    let t = type_kept c.args.sound.now.types mid.types T c.args.right c.in_ok-one.ensures.adds.types (record { belongs = c.requires.right; same = refl }) in
    let U = tree mid.types c.args.right in
    subst (λ V. IsStateOf c.compile_type-2.new.sound c.compile_type-2.new.cells c.compile_type-2.new.auto V c.in_ok-other.other) t.same
    (record {
      state = e.state;
      exact = λ d. subst (λ E. (accepts c.compile_type-2.new.auto d c.in_ok-other.other ≡ true) ↔ Fits E U d) (sym (ap names_of e.same)) (e.accepts d);
      continuation = e.continuation;
    })

pub compile_type-requires-2-clause-belongs : goal.compile_type-requires-2-clause-belongs
compile_type-requires-2-clause-belongs c =
    let types = c.args.sound.now.types in
    (type_kept types c.compile_type.new.sound.types (tree types c.args.right) c.args.right c.in_ok-one.ensures.adds.types (record { belongs = c.requires.right; same = refl })).belongs

pub returns-clause-adds : goal.returns-clause-adds
returns-clause-adds c = AddsTypes-trans c.args.sound.now c.compile_type.new.sound c.compile_type-2.new.sound c.in_ok-one.ensures.adds c.in_ok-other.ensures.adds

pub returns-in_err-other-clause-adds : goal.returns-in_err-other-clause-adds
returns-in_err-other-clause-adds c = AddsTypes-trans c.args.sound.now c.compile_type.new.sound c.compile_type-2.new.sound c.in_ok-one.ensures.adds c.in_err-other.ensures.adds

pub returns-clause-same : goal.returns-clause-same
returns-clause-same c = c.in_ok-other.ensures.same ∙ c.in_ok-one.ensures.same

pub returns-clause-shallow : goal.returns-clause-shallow
returns-clause-shallow c = λ h. c.in_ok-other.ensures.shallow (c.in_ok-one.ensures.shallow h)

pub returns-in_err-other-clause-shallow : goal.returns-in_err-other-clause-shallow
returns-in_err-other-clause-shallow c = λ h. c.in_err-other.ensures.shallow (c.in_ok-one.ensures.shallow h)
