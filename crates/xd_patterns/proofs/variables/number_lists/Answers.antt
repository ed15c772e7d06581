use Rattle.std.proofs.Common.{◌≡◌, ◌+◌, ◌++◌, ◌∷◌, [], arith, length, length-append, ap, sym, subst, ◌∙◌}
use Rattle.xd_patterns.specs.Pieces.{IsBinder, form_at, variable_of}
use Rattle.xd_patterns.specs.Variables.{AreNumbered, numbers_in, with_number}
use Rattle.xd_continuations.specs.declared.links.Link.{Link}
use Rattle.xd_patterns.specs.declared.variables.Numbers.{Numbers}
use Rattle.std.proofs.Common.{ℕ, List}
use Rattle.xd_continuations.proofs.FiniteLemmas.{all_among}
use Rattle.xd_patterns.proofs.VariableLemmas.{numbered_none, numbered_next, numbers_push, number_got}
use Rattle.xd_patterns.proofs.variables.number_lists.Goals as goal

pub loop-done-init : goal.loop-done-init
loop-done-init c =
    let e = c.in_ok-push.ensures.items ∙ ap (λ (ls : List Numbers). ls ++ record { list = c.new.result } ∷ []) c.new-lists.ensures.items in
    let l : length c.push.new.self.items ≡ 1 = ap length e in (
      subst (AreNumbered c.args.patterns.now c.args.variables.now.keys c.args.marks.now 1) (sym (ap numbers_in e ∙ ap (λ ns. ns ∷ []) c.new.ensures.items)) (numbered_none c.args.patterns.now c.args.variables.now.keys c.args.marks.now),
      l,
    )

pub with_variable-requires : goal.with_variable-requires
with_variable-requires c = all_among (λ (l : Link ℕ). IsBinder c.args.patterns.now l.item) c.args.marks.now c.requires c.link-link.result c.link-link.ensures.stands

pub loop-done-preserved : goal.loop-done-preserved
loop-done-preserved c =
    let ls : List Numbers = c.loop-done.lists.items in
    let vs = c.args.variables.now.keys in
    let k : Link ℕ = c.link-link.result in
    let n = c.loop-done.done + 1 in
    let old = c.loop-done.invariant.1 in
    let older = c.link-link.ensures.older in
    let made : Numbers = record { list = c.in_ok-list.list } in
    let e = c.in_ok-push-2.ensures.items in
    let behind = c.as_slice-behind.ensures.value ∙ ap (λ (x : Numbers). x.list.items) c.index.ensures ∙ sym (number_got ls k.behind c.index.result.now (omega arith)) in
    let items = c.in_ok-list.ensures ∙ ap (λ ns. with_number vs ns (variable_of (form_at c.args.patterns.now k.item))) behind in (
      subst (AreNumbered c.args.patterns.now vs c.args.marks.now (n + 1)) (sym (ap numbers_in e ∙ numbers_push ls made))
          (numbered_next c.args.patterns.now vs c.args.marks.now n (numbers_in ls) k c.in_ok-list.list.items c.loop-done.invariant.0 older c.link-link.ensures.list items),
      ap length e ∙ length-append ls (made ∷ []) ∙ (omega arith),
    )
