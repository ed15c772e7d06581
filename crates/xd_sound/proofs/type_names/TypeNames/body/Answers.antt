use Rattle.std.proofs.Common.{rules, Some, ap, sym, ◌∙◌}
use Rattle.xd_sound.specs.TypeNames.{body_at}
use Rattle.xd_sound.proofs.NameLemmas.{first_missing}
use Rattle.xd_sound.proofs.EmptyLemmas.{defined_at, defined_in}
use Rattle.xd_sound.proofs.type_names.TypeNames.body.Goals as goal

pub offset_bounds-defs-number : goal.offset_bounds-defs-number
offset_bounds-defs-number c =
    let l = defined_in c.args.defs.now c.args.name.now c.in-Some.number (sym (c.requires c.args.name.now) ∙ sym c.in-Some.ensures) in search rules

pub bounds-defs-number : goal.bounds-defs-number
bounds-defs-number c = defined_in c.args.defs.now c.args.name.now c.in-Some.number (sym (c.requires c.args.name.now) ∙ sym c.in-Some.ensures)

pub bounds-defs-number-in-Some : goal.bounds-defs-number-in-Some
bounds-defs-number-in-Some c = defined_in c.args.defs.now c.args.name.now c.in-Some.number (sym (c.requires c.args.name.now) ∙ sym c.in-Some.ensures)

pub returns-in-Some : goal.returns-in-Some
returns-in-Some c =
    let d = defined_at c.args.defs.now c.args.name.now c.in-Some.number c.index-defs-number.result (sym (c.requires c.args.name.now) ∙ sym c.in-Some.ensures) in
    ap Some c.at.ensures ∙ ap body_at (sym d.1)

pub returns-in-None : goal.returns-in-None
returns-in-None c = ap body_at (sym (first_missing 0 c.args.defs.now c.args.name.now (sym (c.requires c.args.name.now) ∙ sym c.in-None.ensures)))
