use Rattle.std.proofs.lemmas.Result.{IfOk-from_err}
use Rattle.std.proofs.Common.{◌≡◌, ◌<◌, List, [], get_or, length, ap, sym, subst, ◌∙◌}
use Rattle.std.proofs.lemmas.List.{get_or_default}
use Rattle.xd_doc.proofs.Lists.{all_get}
use Rattle.xd_doc.specs.Members.{IsOneOf}
use Rattle.xd_syntax.specs.FunctionRow.{FunctionRow}
use Rattle.xd_syntax.specs.Kept.{FunctionStands, ProgramStands, ProgramTable, function_definition, program_tree}
use Rattle.xd_syntax.specs.Program.{ProgramTree}
use Rattle.xd_syntax.specs.NameFaults.{name_faults}
use Rattle.xd_sound.proofs.Lists.{among_at}
use Rattle.xd_syntax.proofs.Members.{map_mem}
use Rattle.xd_check_steps.specs.declared.signatures.Signature.{Signature}
use Rattle.xd_check_steps.specs.Found.{AddsFound, found_in}
use Rattle.xd_check.specs.Walked.{SeenInFunction}
use Rattle.xd_check_steps.proofs.Walkable.{walk_body}
use Rattle.xd_check.proofs.FunctionLoop.{rows_count, signature_at_row}
use Rattle.xd_check.proofs.checker.Checker.in_function.Goals as goal

pub in_body-requires : goal.in_body-requires
in_body-requires c =
    let p : ProgramTable = c.args.self.now.sound in
    let P : ProgramTree = program_tree p in
    let f : FunctionRow = c.index-functions-number.result in
    let same : c.functions.result.now ≡ p.functions = c.functions.ensures.functions ∙ ap (λ (q : ProgramTable). q.functions) c.program.ensures.program in
    let at : f ≡ get_or p.functions c.args.number f = c.index-functions-number.is ∙ ap (λ fs. get_or fs c.args.number f) same in
    let stands : ProgramStands p = subst ProgramStands c.program.ensures.program c.functions.ensures.stands in
    let there : FunctionStands p.types p.exprs f = subst (FunctionStands p.types p.exprs) (sym at) (all_get (FunctionStands p.types p.exprs) p.functions c.args.number f stands.functions c.requires.number) in
    let g : Signature = c.index-rows-number.result in
    let row : g ≡ get_or c.args.self.now.signatures.rows.items c.args.number g = c.index-rows-number.is ∙ ap (λ gs. get_or gs c.args.number g) c.rows.ensures in
    let mine : IsOneOf (function_definition p f) P.functions = map_mem (function_definition p) f p.functions (subst (λ x. IsOneOf x p.functions) (sym at) (among_at f p.functions c.args.number c.requires.number)) in
    let faults : name_faults P ≡ [] = c.program.ensures.sound.names in
    record {
      ready = c.requires.ready;
      body = walk_body p f.body.at there.body (λ A m. c.programs_are_linear.ensures.clauses P faults (function_definition p f) mine A m);
      signature = signature_at_row p c.args.auto.now p.functions c.args.self.now.signatures.rows.items c.args.number f g c.requires.number at row c.requires.ready.signatures.each;
      known = c.requires.known;
    }

pub returns : goal.returns
returns c =
    record {
      found = λ h k.
          let p : ProgramTable = c.args.self.now.sound in
          let f : FunctionRow = c.index-functions-number.result in
          let same : c.functions.result.now ≡ p.functions = c.functions.ensures.functions ∙ ap (λ (q : ProgramTable). q.functions) c.program.ensures.program in
          let at : f ≡ get_or p.functions c.args.number f = c.index-functions-number.is ∙ ap (λ fs. get_or fs c.args.number f) same in
          let twin : h ≡ f = k ∙ sym (get_or_default p.functions c.args.number f h c.requires.number) ∙ sym at in
          subst (λ (y : FunctionRow). AddsFound p c.in_body.new.auto c.in_body.new.store (SeenInFunction (program_tree p) (function_definition p y)) (found_in c.args.findings.now) (found_in c.in_body.new.findings)) (sym twin) c.in_ok-in_body.ensures.found;
      grows = c.in_ok-in_body.ensures.grows;
      known = c.in_ok-in_body.ensures.known;
      keeps = c.in_ok-in_body.ensures.keeps;
    }

pub bounds-rows-number : goal.bounds-rows-number
bounds-rows-number c =
    let p : ProgramTable = c.args.self.now.sound in
    let count = rows_count p c.args.auto.now p.functions c.args.self.now.signatures.rows.items c.requires.ready.signatures.each in
    let within : c.args.number < length c.args.self.now.signatures.rows.items = subst (λ n. c.args.number < n) count c.requires.number in
    subst (λ (gs : List Signature). c.args.number < length gs) (sym c.rows.ensures) within

pub returns-in_err-in_body : goal.returns-in_err-in_body
returns-in_err-in_body c =
    let e = c.from_residual.ensures.0 in
    let r = c.from_residual.result in
    record {
      found = IfOk-from_err r _ e;
      grows = IfOk-from_err r _ e;
      known = IfOk-from_err r _ e;
      keeps = c.in_body.ensures.keeps;
    }
