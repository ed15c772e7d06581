use Rattle.std.proofs.Common.{◌≡◌, [], ◌∷◌, ◌++◌, ap, sym, subst, ◌∙◌}
use Rattle.xd_doc.specs.Document.{element, empty}
use Rattle.xd_doc.specs.Stored.{document_at}
use Rattle.xd_doc.specs.declared.store.Seq.{Seq}
use Rattle.xd_doc.proofs.Lists.{all_push}
use Rattle.xd_syntax.specs.ExpressionTable.{shape_at}
use Rattle.xd_eval.specs.Machine.{FrameStands, IsStep, IsChosen, Leads, clause_numbers_of}
use Rattle.xd_eval.specs.Values.{World, value_at, value_of, world}
use Rattle.xd_eval.specs.declared.frame.Frame.{Frame}
use Rattle.xd_eval.specs.declared.frame.Frame.TheVariants.{Match}
use Rattle.xd_eval.specs.declared.frame.Control.TheVariants.{Give}
use Rattle.xd_eval.specs.declared.frame.Step.TheVariants as step
use Rattle.xd_eval.specs.declared.joins.Value.{Value}
use Rattle.xd_eval.proofs.Chosen.{element_leads, match_steps, step_from}
use Rattle.xd_eval.proofs.ValueLemmas.{joins_kept, value_of-at, value_of-stands, world_kept}
use Rattle.xd_eval.proofs.Waits.{frames_kept, scope_kept}
use Rattle.xd_eval.proofs.resuming.resume.Goals as goal

pub returns-in_ok-made-in-Element-clause-step : goal.returns-in_ok-made-in-Element-clause-step
returns-in_ok-made-in-Element-clause-step g c =
    let p = c.args.program.sound.now in
    let fs = c.args.machine.now.frames.items in
    let n = c.args.machine.now.left in
    let js = c.read.new.joins.items in
    let old : World = world c.args.store.now c.args.machine.now.joins.items in
    let mid : World = world c.read.new.store js in
    let new : World = world c.elem_node.new.self js in
    let r = c.in_ok-content-in-Element.ensures in
    let e = c.in_ok-made-in-Element.ensures in
    let label = c.in-Element.label in
    let content : Seq = c.in_ok-content-in-Element.content in
    let made : Seq = c.in_ok-made-in-Element.made in
    let d : value_at new (value_of made) ≡ element label (value_at mid (value_of content)) empty =
    value_of-at new made ∙ e.ok ∙ ap (λ (x : Seq). element label (document_at c.read.new.store content) (document_at c.read.new.store x)) c.empty.ensures
    ∙ ap (λ x. element label x empty) (sym (value_of-at mid content)) in
    let l = element_leads p mid new (world_kept c.read.new.store c.elem_node.new.self e.keeps js r.joins) fs (frames_kept old mid r.same p fs c.requires.awaited.frames) label (value_of content) (value_of made)
    (value_of-stands new made e.belongs) d n in
    subst (λ (v : Value). Leads p old (fs ++ c.args.frame ∷ []) (Give c.args.value) n new fs n (Give v)) (sym c.of.ensures)
    (step_from p old mid new r.same (fs ++ c.args.frame ∷ []) (all_push (FrameStands p old) fs c.args.frame c.requires.awaited.frames c.requires.awaited.frame) c.args.value (value_of content)
    (value_of-at mid content ∙ r.document) n fs n (step.Next (Give (value_of made)))
    (subst (λ (f : Frame). Leads p mid (fs ++ f ∷ []) (Give (value_of content)) n new fs n (Give (value_of made))) (sym c.in-Element.is) l))

pub returns-in_ok-made-in-Element-clause-joins : goal.returns-in_ok-made-in-Element-clause-joins
returns-in_ok-made-in-Element-clause-joins g c =
    joins_kept c.read.new.store c.elem_node.new.self c.in_ok-made-in-Element.ensures.keeps c.read.new.joins.items c.in_ok-content-in-Element.ensures.joins

pub returns-in_ok-step-in-Match-clause-step : goal.returns-in_ok-step-in-Match-clause-step
returns-in_ok-step-in-Match-clause-step g c =
    let p = c.args.program.sound.now in
    let fs = c.args.machine.now.frames.items in
    let n = c.args.machine.now.left in
    let js = c.read-in-Match.new.joins.items in
    let old : World = world c.args.store.now c.args.machine.now.joins.items in
    let mid : World = world c.read-in-Match.new.store js in
    let new : World = world c.choose.new.store js in
    let r = c.in_ok-seq-in-Match.ensures in
    let e = c.in_ok-step-in-Match.ensures in
    let id = c.in-Match.id in
    let scope = c.in-Match.scope in
    let bs = scope.bindings.value.items in
    let seq : Seq = c.in_ok-seq-in-Match.seq in
    let s = c.in_ok-step-in-Match.step in
    let stands : FrameStands p old (Match id scope) = subst (FrameStands p old) c.in-Match.is c.requires.awaited.frame in
    let chosen : IsChosen p mid new (clause_numbers_of (shape_at p.exprs id.at)) bs (value_at mid (value_of seq)) s =
    subst (λ d. IsChosen p mid new (clause_numbers_of (shape_at p.exprs id.at)) bs d s) (sym (value_of-at mid seq))
    (subst (λ cs. IsChosen p mid new cs bs (document_at c.read-in-Match.new.store seq) s) c.clauses_of-clauses.ensures.numbers (e.chosen js r.joins (scope_kept old mid r.same bs stands.2))) in
    let l = match_steps p mid new (world_kept c.read-in-Match.new.store c.choose.new.store e.keeps js r.joins) fs (frames_kept old mid r.same p fs c.requires.awaited.frames) id scope (value_of seq) n s chosen in
    step_from p old mid new r.same (fs ++ c.args.frame ∷ []) (all_push (FrameStands p old) fs c.args.frame c.requires.awaited.frames c.requires.awaited.frame) c.args.value (value_of seq)
    (value_of-at mid seq ∙ r.document) n fs n s (subst (λ (f : Frame). IsStep p mid (fs ++ f ∷ []) (Give (value_of seq)) n new fs n s) (sym c.in-Match.is) l)

pub returns-in_ok-step-in-Match-clause-joins : goal.returns-in_ok-step-in-Match-clause-joins
returns-in_ok-step-in-Match-clause-joins g c =
    joins_kept c.read-in-Match.new.store c.choose.new.store c.in_ok-step-in-Match.ensures.keeps c.read-in-Match.new.joins.items c.in_ok-seq-in-Match.ensures.joins
