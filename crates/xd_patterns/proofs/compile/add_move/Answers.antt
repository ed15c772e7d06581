use Rattle.std.proofs.Common.{refl, ap, sym, subst, cond}
use Rattle.xd_syntax.specs.Tree.{Text, Words}
use Rattle.xd_meaning.specs.Heads.{all_texts}
use Rattle.xd_pattern_runs.specs.Runs.{stop}
use Rattle.xd_patterns.specs.Pieces.{Sees}
use Rattle.xd_patterns.specs.Tasks.{rows_of, words_at, piece_part, continuation, item_choice}
use Rattle.xd_patterns.specs.Compiling.{AddsMove}
use Rattle.xd_patterns.specs.declared.expand.Found.{Found}
use Rattle.xd_patterns.proofs.StateLemmas.{adds_stop}
use Rattle.xd_patterns.proofs.MoveLemmas.{not_stop, text_arm, elem_arm}
use Rattle.xd_patterns.specs.Sources.{tables}
use Rattle.xd_patterns.proofs.compile.add_move.Goals as goal

pub returns-then-one-clause-made : goal.returns-then-one-clause-made
returns-then-one-clause-made c =
    let t = tables c.args.sources.now in
    let m = c.args.marks.now in
    let k = c.args.lists.now.cells in
    let f : Found = c.args.one in
    subst (AddsMove t m k k c.args.target.base c.args.lists.now.states.keys c.args.lists.now.states.keys c.args.auto.now c.set_last.new.self c.args.target.from c.args.made.now.texts.items c.args.made.now.texts.items c.args.made.now.labels.items c.args.made.now.labels.items)
    (sym (ap (λ b. cond b stop (item_choice (words_at t m f.piece.marks) (piece_part t f.piece) (continuation t m k f.rest))) c.if-one.true))
    (adds_stop t m k c.args.target.base c.args.lists.now.states.keys c.args.auto.now c.args.target.from c.requires.target.from c.requires.lists.count c.requires.lists.pieces c.requires.lists.numbers c.args.made.now.texts.items c.args.made.now.labels.items c.set_last.new.self c.set_last.ensures.value)

pub returns-in_ok-add_text-in-Text-clause-made : goal.returns-in_ok-add_text-in-Text-clause-made
returns-in_ok-add_text-in-Text-clause-made c =
    let t = tables c.args.sources.now in
    let m = c.args.marks.now in
    let k = c.args.lists.now.cells in
    let f : Found = c.args.one in
    let plain = c.if-one.false in
    let found = not_stop t m k f plain c.requires.found in
    let sees = subst (Sees (rows_of t f.piece.of_pattern) f.piece) c.in-Text.is c.view.ensures in
    text_arm t m k c.args.target.base c.args.lists.now.states.keys c.args.auto.now c.args.target.from c.requires.target.from c.requires.lists.count c.requires.lists.pieces c.requires.lists.numbers f plain found Text all_texts c.in_ok-all-in-Text.all sees c.in_ok-all-in-Text.ensures (λ xs K. refl) c.add_text.new.states.keys c.add_text.new.auto c.args.made.now.texts.items c.add_text.new.made.texts.items c.args.made.now.labels.items c.add_text.new.made.labels.items c.in_ok-add_text-in-Text.ensures.made

pub returns-in_ok-add_text-in-Words-clause-made : goal.returns-in_ok-add_text-in-Words-clause-made
returns-in_ok-add_text-in-Words-clause-made c =
    let t = tables c.args.sources.now in
    let m = c.args.marks.now in
    let k = c.args.lists.now.cells in
    let f : Found = c.args.one in
    let plain = c.if-one.false in
    let found = not_stop t m k f plain c.requires.found in
    let sees = subst (Sees (rows_of t f.piece.of_pattern) f.piece) c.in-Words.is c.view.ensures in
    text_arm t m k c.args.target.base c.args.lists.now.states.keys c.args.auto.now c.args.target.from c.requires.target.from c.requires.lists.count c.requires.lists.pieces c.requires.lists.numbers f plain found (Words c.in-Words.words.now) c.in-Words.words.now c.in_ok-copy-in-Words.copy sees c.in_ok-copy-in-Words.ensures.same (λ xs K. refl) c.add_text-in-Words.new.states.keys c.add_text-in-Words.new.auto c.args.made.now.texts.items c.add_text-in-Words.new.made.texts.items c.args.made.now.labels.items c.add_text-in-Words.new.made.labels.items c.in_ok-add_text-in-Words.ensures.made

pub returns-in_ok-add_element-in-Elem-clause-made : goal.returns-in_ok-add_element-in-Elem-clause-made
returns-in_ok-add_element-in-Elem-clause-made c =
    let t = tables c.args.sources.now in
    let m = c.args.marks.now in
    let k = c.args.lists.now.cells in
    let f : Found = c.args.one in
    let plain = c.if-one.false in
    let found = not_stop t m k f plain c.requires.found in
    let sees = subst (Sees (rows_of t f.piece.of_pattern) f.piece) c.in-Elem.is c.view.ensures in
    elem_arm t m k c.args.target.base c.args.lists.now.states.keys c.args.auto.now c.args.target.from c.requires.target.from c.requires.lists.count c.requires.lists.pieces c.requires.lists.numbers f plain found c.in-Elem.class.now c.in_ok-copy-in-Elem.copy c.in-Elem.part sees.0 sees.1 c.in_ok-copy-in-Elem.ensures.same c.put.new.self c.in_ok-inside-in-Elem.inside c.in_ok-inside-in-Elem.ensures.within.1 c.in_ok-inside-in-Elem.ensures.links c.in_ok-inside-in-Elem.ensures.list c.add_element.new.states.keys c.add_element.new.auto c.args.made.now.texts.items c.add_element.new.made.texts.items c.args.made.now.labels.items c.add_element.new.made.labels.items c.in_ok-add_element-in-Elem.ensures.made

-- ---- old states stay as they were
pub returns-in_ok-add_text-in-Text-clause-spares : goal.returns-in_ok-add_text-in-Text-clause-spares
returns-in_ok-add_text-in-Text-clause-spares c = c.add_text.ensures.spares

pub returns-in_ok-add_text-in-Words-clause-spares : goal.returns-in_ok-add_text-in-Words-clause-spares
returns-in_ok-add_text-in-Words-clause-spares c = c.add_text-in-Words.ensures.spares

pub returns-in_ok-add_element-in-Elem-clause-spares : goal.returns-in_ok-add_element-in-Elem-clause-spares
returns-in_ok-add_element-in-Elem-clause-spares c = c.add_element.ensures.spares

pub returns-in_err-add_element-in-Elem-clause-spares : goal.returns-in_err-add_element-in-Elem-clause-spares
returns-in_err-add_element-in-Elem-clause-spares c = c.add_element.ensures.spares

-- ---- what the calls ask
pub add_element-requires-clause-count : goal.add_element-requires-clause-count
add_element-requires-clause-count c = c.requires.lists.count

pub add_element-requires-clause-target : goal.add_element-requires-clause-target
add_element-requires-clause-target c = c.requires.target
