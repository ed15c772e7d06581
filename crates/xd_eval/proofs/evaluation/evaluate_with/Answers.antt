use Rattle.std.proofs.Common.{◌≡◌, ◌-◌, arith, ap, sym, subst, ◌∙◌}
use Rattle.xd_doc.specs.Stored.{document_at}
use Rattle.xd_syntax.specs.Kept.{ProgramTable, program_tree}
use Rattle.xd_syntax.specs.Words.{main_word}
use Rattle.xd_syntax.specs.RecursionFaults.{IsSound}
use Rattle.xd_meaning.specs.Meaning.{Done}
use Rattle.xd_eval.specs.Functions.{row_of}
use Rattle.xd_eval.specs.Machine.{IsStart}
use Rattle.xd_eval.specs.Machine.{IsEnding}
use Rattle.xd_eval.proofs.AcceptedLemmas.{ran, left_within, stuck_never, main_missing, value_declared}
use Rattle.xd_eval.proofs.evaluation.evaluate_with.Goals as goal

pub overflow_sub-result : goal.overflow_sub-result
overflow_sub-result g c =
    let p = c.args.checked.now in
    let s = c.sound-sound.ensures in
    let a = c.bindings_are_in_order.ensures.agree in
    let e = subst (IsEnding c.run.new.store _) c.in-Value.is
    (ran p c.sound-sound.result.now s.sound s.proper a c.args.fuel c.requires.fuel c.args.store.now c.run.new.store c.args.input c.in_ok-start.field-0 c.in-Some.start c.in_ok-seq.field-0
    c.in_ok-start.ensures c.in-Some.is c.in_ok-seq.ensures.ending) in
    left_within p s.proper a c.args.fuel (document_at c.args.store.now c.args.input) (document_at c.run.new.store c.in-Value.seq) c.in-Value.left e.1

pub returns-in-Value-clause-evaluated : goal.returns-in-Value-clause-evaluated
returns-in-Value-clause-evaluated g c =
    let p = c.args.checked.now in
    let s = c.sound-sound.ensures in
    let a = c.bindings_are_in_order.ensures.agree in
    let e = subst (IsEnding c.run.new.store _) c.in-Value.is
    (ran p c.sound-sound.result.now s.sound s.proper a c.args.fuel c.requires.fuel c.args.store.now c.run.new.store c.args.input c.in_ok-start.field-0 c.in-Some.start c.in_ok-seq.field-0
    c.in_ok-start.ensures c.in-Some.is c.in_ok-seq.ensures.ending) in
    let l = left_within p s.proper a c.args.fuel (document_at c.args.store.now c.args.input) (document_at c.run.new.store c.in-Value.seq) c.in-Value.left e.1 in
    let back : c.args.fuel - (c.args.fuel - c.in-Value.left) ≡ c.in-Value.left = omega arith in
    (e.0, omega arith, e.1 ∙ ap (Done (document_at c.run.new.store c.in-Value.seq)) (sym back))

pub returns-in-Value-clause-declared : goal.returns-in-Value-clause-declared
returns-in-Value-clause-declared g c =
    let p = c.args.checked.now in
    let s = c.sound-sound.ensures in
    let a = c.bindings_are_in_order.ensures.agree in
    let e = subst (IsEnding c.run.new.store _) c.in-Value.is
    (ran p c.sound-sound.result.now s.sound s.proper a c.args.fuel c.requires.fuel c.args.store.now c.run.new.store c.args.input c.in_ok-start.field-0 c.in-Some.start c.in_ok-seq.field-0
    c.in_ok-start.ensures c.in-Some.is c.in_ok-seq.ensures.ending) in
    let sound = subst (λ (q : ProgramTable). IsSound (program_tree q)) s.sound c.program.ensures.sound in
    value_declared p (c.accepted_programs_are_safe.ensures.programs (program_tree p) s.proper sound s.accepted) (document_at c.args.store.now c.args.input) c.requires.seq.proper c.requires.input c.args.fuel
    (document_at c.run.new.store c.in-Value.seq) c.in-Value.left e.1

pub returns-in-Spent-clause-evaluated : goal.returns-in-Spent-clause-evaluated
returns-in-Spent-clause-evaluated g c =
    let p = c.args.checked.now in
    let s = c.sound-sound.ensures in
    let a = c.bindings_are_in_order.ensures.agree in
    subst (IsEnding c.run.new.store _) c.in-Spent.is
    (ran p c.sound-sound.result.now s.sound s.proper a c.args.fuel c.requires.fuel c.args.store.now c.run.new.store c.args.input c.in_ok-start.field-0 c.in-Some.start c.in_ok-seq.field-0
    c.in_ok-start.ensures c.in-Some.is c.in_ok-seq.ensures.ending)

-- an accepted program is never stuck
pub unreachable-requires-in-Stuck : goal.unreachable-requires-in-Stuck
unreachable-requires-in-Stuck g c =
    let p = c.args.checked.now in
    let s = c.sound-sound.ensures in
    let a = c.bindings_are_in_order.ensures.agree in
    let e = subst (IsEnding c.run.new.store _) c.in-Stuck.is
    (ran p c.sound-sound.result.now s.sound s.proper a c.args.fuel c.requires.fuel c.args.store.now c.run.new.store c.args.input c.in_ok-start.field-0 c.in-Some.start c.in_ok-seq.field-0
    c.in_ok-start.ensures c.in-Some.is c.in_ok-seq.ensures.ending) in
    let sound = subst (λ (q : ProgramTable). IsSound (program_tree q)) s.sound c.program.ensures.sound in
    (stuck_never p (c.accepted_programs_are_safe.ensures.programs (program_tree p) s.proper sound s.accepted) (document_at c.args.store.now c.args.input) c.requires.seq.proper c.requires.input c.args.fuel e)

-- a program with a document for `main` has a `main`
pub unreachable-requires : goal.unreachable-requires
unreachable-requires g c =
    let p = c.args.checked.now in
    let s = c.sound-sound.ensures in
    let sound = subst (λ (q : ProgramTable). IsSound (program_tree q)) s.sound c.program.ensures.sound in
    let none = subst (IsStart c.sound-sound.result.now c.args.store.now c.args.input) c.in_default.is c.in_ok-start.ensures in
    (main_missing p (c.accepted_programs_are_safe.ensures.programs (program_tree p) s.proper sound s.accepted) (document_at c.args.store.now c.args.input) c.requires.seq.proper c.requires.input
    (ap (λ (q : ProgramTable). row_of q.functions main_word) (sym s.sound) ∙ none))
