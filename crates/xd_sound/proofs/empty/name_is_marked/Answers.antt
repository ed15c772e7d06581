use Rattle.std.proofs.Common.{◌≡◌, false, length, ap, sym, subst, ◌∙◌}
use Rattle.std.proofs.Common.{◌||◌}
use Rattle.xd_syntax.specs.SoundTables.{definition_of}
use Rattle.std.specs.Str.{bytes_eq}
use Rattle.xd_syntax.specs.Words.{any_word}
use Rattle.xd_syntax.proofs.Words.{bytes_eq-turned}
use Rattle.xd_sound.specs.Emptiness.{body_marked}
use Rattle.xd_sound.proofs.EmptyLemmas.{body_in, marked_some, marked_none}
use Rattle.xd_sound.proofs.empty.name_is_marked.Goals as goal

pub bounds-marks-body : goal.bounds-marks-body
bounds-marks-body c = body_in (length c.args.marks.now) c.args.defs.now c.args.name.now c.in-Some.body c.requires.bodies c.in-Some.ensures

pub returns-in-Some : goal.returns-in-Some
returns-in-Some c =
    let b = bytes_eq-turned c.args.name.now any_word (subst (λ w. bytes_eq w any_word ≡ false) c.as_str.ensures.bytes (sym c.eq.ensures ∙ c.if-eq.false)) in
    marked_some c.args.marks.now (definition_of c.args.defs.now c.args.name.now) c.in-Some.body c.in-Some.ensures
    ∙ ap (λ x. x || body_marked c.args.marks.now (definition_of c.args.defs.now c.args.name.now)) (sym b)

pub returns-in-None : goal.returns-in-None
returns-in-None c =
    let b = bytes_eq-turned c.args.name.now any_word (subst (λ w. bytes_eq w any_word ≡ false) c.as_str.ensures.bytes (sym c.eq.ensures ∙ c.if-eq.false)) in
    marked_none c.args.marks.now (definition_of c.args.defs.now c.args.name.now) c.in-None.ensures
    ∙ ap (λ x. x || body_marked c.args.marks.now (definition_of c.args.defs.now c.args.name.now)) (sym b)
