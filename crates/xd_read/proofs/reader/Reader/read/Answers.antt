use Rattle.std.proofs.Common.{◌≡◌, ◌<◌, length, refl, sym, ◌∙◌, rules}
use Rattle.std.proofs.lemmas.List.{nil_from_length}
use Rattle.xd_read.proofs.Steps.{passes_by, text_passes, open_passes, close_passes, none_open, some_open, refused, ended}
use Rattle.xd_read.proofs.reader.Reader.read.Goals as goal

pub returns-then-not-is_empty-clause-stops : goal.returns-then-not-is_empty-clause-stops
returns-then-not-is_empty-clause-stops c =
    let lt : 0 < length c.args.self.now.elements.items = search rules in
    λ _. some_open _ _ _ _ _ _ (sym c.move_for.ensures ∙ c.in-End.is) lt

pub returns-in_ok-take_text-in-Text-clause-passes :
    goal.returns-in_ok-take_text-in-Text-clause-passes
returns-in_ok-take_text-in-Text-clause-passes c =
    let e = c.in_ok-take_text-in-Text.ensures in
    rw (e.expect, e.elements) (text_passes _ _ _ _ _ _ _ _ (sym c.move_for.ensures ∙ c.in-Text.is) c.requires.ready c.in_ok-text-in-Text.ensures e.finished)

pub returns-in_ok-open_element-in-Open-clause-passes :
    goal.returns-in_ok-open_element-in-Open-clause-passes
returns-in_ok-open_element-in-Open-clause-passes c =
    let e = c.in_ok-open_element-in-Open.ensures in
    rw (e.expect, e.finished) (open_passes _ _ _ _ _ _ _ _ (sym c.move_for.ensures ∙ c.in-Open.is) c.requires.ready c.in_ok-label-in-Open.ensures refl e.elements)

pub returns-in_ok-close_element-in-Some-clause-passes :
    goal.returns-in_ok-close_element-in-Some-clause-passes
returns-in_ok-close_element-in-Some-clause-passes c =
    let e = c.in_ok-close_element-in-Some.ensures in
    rw (e.expect, e.elements) (close_passes _ _ _ _ _ _ _ _ _ _ _ (sym c.move_for.ensures ∙ c.in-Close.is) c.requires.ready c.in-Some.ensures.items e.keeps e.closed.belongs e.closed.document e.closed.items)

pub returns-in-None-clause-stops : goal.returns-in-None-clause-stops
returns-in-None-clause-stops c =
    let e : length c.args.self.now.elements.items ≡ 0 = search rules in
    λ _. none_open _ _ _ _ _ _ (sym c.move_for.ensures ∙ c.in-Close.is) (nil_from_length _ e)

pub returns-in_ok-seq-in-End-clause-ends : goal.returns-in_ok-seq-in-End-clause-ends
returns-in_ok-seq-in-End-clause-ends c =
    let e : length c.args.self.now.elements.items ≡ 0 = search rules in
    ended _ _ _ _ _ _ _ (sym c.move_for.ensures ∙ c.in-End.is) (nil_from_length _ e) c.in_ok-seq-in-End.ensures.document

pub returns-in-Refuse-clause-stops : goal.returns-in-Refuse-clause-stops
returns-in-Refuse-clause-stops c = λ _. refused c.args.store.now _ c.args.self.now.finished.items c.args.self.now.elements.items _ _ (sym c.move_for.ensures ∙ c.in-Refuse.is)

pub returns-in-Go-clause-passes : goal.returns-in-Go-clause-passes
returns-in-Go-clause-passes c = passes_by _ _ _ _ _ _ _ _ _ _ _ (sym c.move_for.ensures ∙ c.in-Go.is) c.requires.ready refl
