use Rattle.std.proofs.Common.{◌≡◌, List, ◌-◌, [], ◌∷◌, ◌++◌, refl, ap, sym, subst, ◌∙◌}
use Rattle.std.specs.List.{AllByRecursion}
use Rattle.xd_eval.specs.Values.{Stands, world}
use Rattle.xd_eval.specs.declared.joins.Join.{Join}
use Rattle.xd_syntax.specs.ExpressionTable.{shape_at}
use Rattle.xd_syntax.specs.Kept.{ProgramTable}
use Rattle.xd_eval.specs.Functions.{row_of}
use Rattle.xd_syntax.specs.declared.exprs.ExprId.{ExprId}
use Rattle.xd_eval.specs.Machine.{function_named, Leads, bound_values}
use Rattle.xd_eval.specs.declared.frame.Frame.TheVariants.{Call}
use Rattle.xd_eval.proofs.Resumed.{next_in_call, stands_of}
use Rattle.xd_eval.proofs.Called.{call_stuck, call_leads}
use Rattle.xd_doc.proofs.Lists.{all_append}
use Rattle.std.specs.Option.{option_copied}
use Rattle.xd_eval.specs.declared.frame.Control.TheVariants.{Evaluate, Give}
use Rattle.xd_eval.proofs.resuming.next_of_call.Goals as goal

row_kept : (p : ProgramTable) {new old : ExprId} → new ≡ old → row_of p.functions (function_named (shape_at p.exprs old.at)) ≡ row_of p.functions (function_named (shape_at p.exprs new.at))
row_kept p e = ap (λ (id : ExprId). row_of p.functions (function_named (shape_at p.exprs id.at))) (sym e)

pub returns-in-Some : goal.returns-in-Some
returns-in-Some c = record {
  step = next_in_call c.args.program.sound.now (world c.args.store.now c.args.machine.now.joins.items) c.args.parts c.take_value.new.parts c.args.value c.in_ok-next.ensures.more c.args.machine.now.frames.items c.push.new.self.items c.requires.awaited.frames c.requires.awaited.frame.1 c.requires.awaited.value
      c.args.machine.now.left c.in-Some.next c.in-Some.scope (rw c.in-Some.is at c.in_ok-next.ensures.next) c.in_ok-push.ensures.items c.requires.awaited.frame.0;
  joins = refl {A = List Join};
}

pub returns-in-None : goal.returns-in-None
returns-in-None c =
    let h = c.in_ok-next.ensures.more in
    record {
      step = call_stuck c.args.program.sound.now (world c.args.store.now c.args.machine.now.joins.items) c.args.parts c.take_value.new.parts c.args.value h c.args.machine.now.frames.items (rw c.in_default.is at c.in_ok-next.ensures.next) c.args.machine.now.left c.if-machine-eq0.false
          (row_kept c.args.program.sound.now h.expr ∙ sym c.called.ensures.found ∙ ap option_copied c.in-None.is);
      joins = refl {A = List Join};
    }

pub returns : goal.returns
returns c =
    let p = c.args.program.sound.now in
    let parts = c.args.parts in
    let more = c.take_value.new.parts in
    let h = c.in_ok-next.ensures.more in
    let function = c.in-Some-called.function.now in
    let scope = c.in_ok-scope-in-Some-called.scope in
    let found = row_kept p h.expr ∙ sym c.called.ensures.found ∙ ap option_copied c.in-Some-called.is in
    record {
      step = subst (λ (id : ExprId). Leads p (world c.args.store.now c.args.machine.now.joins.items) (c.args.machine.now.frames.items ++ Call parts ∷ []) (Give c.args.value) c.args.machine.now.left (world c.args.store.now c.args.machine.now.joins.items) c.args.machine.now.frames.items (c.args.machine.now.left - 1) (Evaluate id scope)) (sym c.body.ensures)
          (call_leads p (world c.args.store.now c.args.machine.now.joins.items) parts more c.args.value h c.args.machine.now.frames.items (rw c.in_default.is at c.in_ok-next.ensures.next) c.requires.awaited.frames c.args.machine.now.left c.if-machine-eq0.false function found
          (stands_of p _ function (ap option_copied c.in-Some-called.is) c.called.ensures.stands) scope
          (c.in_ok-scope-in-Some-called.ensures ∙ c.in_ok-bound-in-Some-called.ensures ∙ ap (λ qs. bound_values qs c.deref.result.now) c.params.ensures.params ∙ ap (bound_values function.params) c.deref.ensures.value)
          (subst (AllByRecursion (Stands (world c.args.store.now c.args.machine.now.joins.items))) (sym h.values) (all_append (Stands (world c.args.store.now c.args.machine.now.joins.items)) parts.values.items (c.args.value ∷ []) c.requires.awaited.frame.1.values_there (c.requires.awaited.value, tt))));
      joins = refl {A = List Join};
    }
