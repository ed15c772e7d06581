use Rattle.std.proofs.Common.{◌≡◌, ap, length, sym, subst, List, ◌∙◌}
use Rattle.std.proofs.lemmas.Result.{IfOk-weaker}
use Rattle.xd_syntax.specs.Table.{PartsBelow, text_form, words_form, name_form, elem_form, seq_form, alt_form, star_form, plus_form, opt_form}
use Rattle.xd_syntax.specs.Types.{form_of, type_numbers}
use Rattle.xd_syntax.specs.declared.types.TypeId.{TypeId}
use Rattle.xd_moves.specs.Found.{continuation}
use Rattle.xd_moves.proofs.PutsTasksLemmas.{adds_none, bounded_same, puts_none}
use Rattle.xd_moves.proofs.FindsLemmas.{finds_none, finds_one, form_done, on_ok, puts_one}
use Rattle.xd_moves.proofs.expansion.work_form.Goals as goal

pub returns-in-Text : goal.returns-in-Text
returns-in-Text g c =
    let types = c.args.sources.now.types.now in
    let old = c.args.cells.now in
    let tasks = c.args.tasks.now.items in
    let r = c.push_found.result in
    let w = form_done r types c.args.sources.now.defs.now c.args.sources.now.marks.now c.args.task old old tasks tasks c.args.found.now.items c.push_found.new.found.items (form_of c.args.form.now) text_form (ap form_of c.in-Text.is)
    (on_ok r (bounded_same types old (continuation types old c.args.task.behind))) (on_ok r (puts_none types old tasks)) (finds_one r types old c.args.task c.requires.task c.args.found.now.items c.push_found.new.found.items c.push_found.ensures) in
    record { cells = on_ok r (adds_none types old); bounded = w.0; tasks = w.1; moves = w.2; chosen = on_ok r (λ a. a) }

pub returns-in-Words : goal.returns-in-Words
returns-in-Words g c =
    let types = c.args.sources.now.types.now in
    let old = c.args.cells.now in
    let tasks = c.args.tasks.now.items in
    let r = c.push_found-in-Words.result in
    let w = form_done r types c.args.sources.now.defs.now c.args.sources.now.marks.now c.args.task old old tasks tasks c.args.found.now.items c.push_found-in-Words.new.found.items (form_of c.args.form.now) (words_form c.in-Words.field-0) (ap form_of c.in-Words.is)
    (on_ok r (bounded_same types old (continuation types old c.args.task.behind))) (on_ok r (puts_none types old tasks)) (finds_one r types old c.args.task c.requires.task c.args.found.now.items c.push_found-in-Words.new.found.items c.push_found-in-Words.ensures) in
    record { cells = on_ok r (adds_none types old); bounded = w.0; tasks = w.1; moves = w.2; chosen = on_ok r (λ a. a) }

pub returns-in-Name : goal.returns-in-Name
returns-in-Name g c =
    let types = c.args.sources.now.types.now in
    let old = c.args.cells.now in
    let found = c.args.found.now.items in
    let r = c.push_body.result in
    let w = form_done r types c.args.sources.now.defs.now c.args.sources.now.marks.now c.args.task old old c.args.tasks.now.items c.push_body.new.tasks.items found found (form_of c.args.form.now) (name_form c.in-Name.name) (ap form_of c.in-Name.is)
    (on_ok r (bounded_same types old (continuation types old c.args.task.behind))) (IfOk-weaker r _ _ (λ _ h. h old c.requires.task.1) c.push_body.ensures) (on_ok r (finds_none types old found)) in
    record { cells = on_ok r (adds_none types old); bounded = w.0; tasks = w.1; moves = w.2; chosen = on_ok r (λ a. a) }

pub returns-in-Elem : goal.returns-in-Elem
returns-in-Elem g c =
    let types = c.args.sources.now.types.now in
    let old = c.args.cells.now in
    let tasks = c.args.tasks.now.items in
    let r = c.push_found-in-Elem.result in
    let w = form_done r types c.args.sources.now.defs.now c.args.sources.now.marks.now c.args.task old old tasks tasks c.args.found.now.items c.push_found-in-Elem.new.found.items (form_of c.args.form.now) (elem_form c.in-Elem.field-0 c.in-Elem.field-1.at) (ap form_of c.in-Elem.is)
    (on_ok r (bounded_same types old (continuation types old c.args.task.behind))) (on_ok r (puts_none types old tasks)) (finds_one r types old c.args.task c.requires.task c.args.found.now.items c.push_found-in-Elem.new.found.items c.push_found-in-Elem.ensures) in
    record { cells = on_ok r (adds_none types old); bounded = w.0; tasks = w.1; moves = w.2; chosen = on_ok r (λ a. a) }

pub returns-in-Seq : goal.returns-in-Seq
returns-in-Seq g c =
    let types = c.args.sources.now.types.now in
    let new = c.push_sequence.new.cells in
    let found = c.args.found.now.items in
    let r = c.push_sequence.result in
    let w = form_done r types c.args.sources.now.defs.now c.args.sources.now.marks.now c.args.task c.args.cells.now new c.args.tasks.now.items c.push_sequence.new.tasks.items found found (form_of c.args.form.now) (seq_form (type_numbers c.deref.result.now)) (ap form_of c.in-Seq.is ∙ ap (λ (ps : List TypeId). seq_form (type_numbers ps)) (sym c.deref.ensures.value))
    c.push_sequence.ensures.bounded c.push_sequence.ensures.tasks (on_ok r (finds_none types new found)) in
    record { cells = c.push_sequence.ensures.cells; bounded = w.0; tasks = w.1; moves = w.2; chosen = c.push_sequence.ensures.chosen }

pub returns-in-Alt : goal.returns-in-Alt
returns-in-Alt g c =
    let types = c.args.sources.now.types.now in
    let old = c.args.cells.now in
    let found = c.args.found.now.items in
    let r = c.push_options.result in
    let e : form_of c.args.form.now ≡ alt_form (type_numbers c.deref-in-Alt.result.now) = ap form_of c.in-Alt.is ∙ ap (λ (ps : List TypeId). alt_form (type_numbers ps)) (sym c.deref-in-Alt.ensures.value) in
    let w = form_done r types c.args.sources.now.defs.now c.args.sources.now.marks.now c.args.task old old c.args.tasks.now.items c.push_options.new.tasks.items found found (form_of c.args.form.now) (alt_form (type_numbers c.deref-in-Alt.result.now)) e
    (on_ok r (bounded_same types old (continuation types old c.args.task.behind))) (IfOk-weaker r _ _ (λ _ h. h types old (subst (PartsBelow (length types)) e c.requires.parts) c.requires.task.1) c.push_options.ensures) (on_ok r (finds_none types old found)) in
    record { cells = on_ok r (adds_none types old); bounded = w.0; tasks = w.1; moves = w.2; chosen = on_ok r (λ a. a) }

pub returns-in-Star : goal.returns-in-Star
returns-in-Star g c =
    let types = c.args.sources.now.types.now in
    let new = c.push_turn.new.cells in
    let found = c.args.found.now.items in
    let r = c.push_turn.result in
    let w = form_done r types c.args.sources.now.defs.now c.args.sources.now.marks.now c.args.task c.args.cells.now new c.args.tasks.now.items c.push_turn.new.tasks.items found found (form_of c.args.form.now) (star_form c.in-Star.part.at) (ap form_of c.in-Star.is)
    c.push_turn.ensures.bounded c.push_turn.ensures.tasks (on_ok r (finds_none types new found)) in
    record { cells = c.push_turn.ensures.cells; bounded = w.0; tasks = w.1; moves = w.2; chosen = c.push_turn.ensures.chosen }

pub returns-in-Plus : goal.returns-in-Plus
returns-in-Plus g c =
    let types = c.args.sources.now.types.now in
    let new = c.push_turn-in-Plus.new.cells in
    let found = c.args.found.now.items in
    let r = c.push_turn-in-Plus.result in
    let w = form_done r types c.args.sources.now.defs.now c.args.sources.now.marks.now c.args.task c.args.cells.now new c.args.tasks.now.items c.push_turn-in-Plus.new.tasks.items found found (form_of c.args.form.now) (plus_form c.in-Plus.part.at) (ap form_of c.in-Plus.is)
    c.push_turn-in-Plus.ensures.bounded c.push_turn-in-Plus.ensures.tasks (on_ok r (finds_none types new found)) in
    record { cells = c.push_turn-in-Plus.ensures.cells; bounded = w.0; tasks = w.1; moves = w.2; chosen = c.push_turn-in-Plus.ensures.chosen }

pub returns-in-Opt : goal.returns-in-Opt
returns-in-Opt g c =
    let types = c.args.sources.now.types.now in
    let old = c.args.cells.now in
    let found = c.args.found.now.items in
    let r = c.push_part.result in
    let w = form_done r types c.args.sources.now.defs.now c.args.sources.now.marks.now c.args.task old old c.args.tasks.now.items c.push_part.new.tasks.items found found (form_of c.args.form.now) (opt_form c.in-Opt.part.at) (ap form_of c.in-Opt.is)
    (on_ok r (bounded_same types old (continuation types old c.args.task.behind))) (puts_one r types old c.args.tasks.now.items c.push_part.new.tasks.items c.in-Opt.part.at c.args.task.behind (subst (PartsBelow (length types)) (ap form_of c.in-Opt.is) c.requires.parts) c.requires.task.1 c.push_part.ensures) (on_ok r (finds_none types old found)) in
    record { cells = on_ok r (adds_none types old); bounded = w.0; tasks = w.1; moves = w.2; chosen = on_ok r (λ a. a) }
