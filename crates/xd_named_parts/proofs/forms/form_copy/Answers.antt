use Rattle.std.proofs.Common.{sym, ap, ◌∙◌, subst}
use Rattle.xd_syntax.specs.Table.{seq_form, alt_form}
use Rattle.xd_syntax.specs.Types.{form_of, type_numbers}
use Rattle.xd_named_parts.specs.Copies.{IsFormCopy}
use Rattle.xd_named_parts.proofs.CopyLaws.{ok_some_map}
use Rattle.xd_named_parts.proofs.forms.form_copy.Goals as goal

pub returns-in-Elem-clause-copy : goal.returns-in-Elem-clause-copy
returns-in-Elem-clause-copy c =
    let tops = c.args.tops.now in
    let inner = c.args.inner.now in
    ok_some_map c.elem_copy.result _ _
    (λ x h. subst (λ f. IsFormCopy f tops inner c.args.pool.now.types c.elem_copy.new.pool.types x) (sym (ap form_of c.in-Elem.is)) (h tops))
    c.elem_copy.ensures.copy

pub returns-in-Seq-clause-copy : goal.returns-in-Seq-clause-copy
returns-in-Seq-clause-copy c =
    let tops = c.args.tops.now in
    let inner = c.args.inner.now in
    ok_some_map c.seq_copy.result _ _
    (λ x h. subst (λ f. IsFormCopy f tops inner c.args.pool.now.types c.seq_copy.new.pool.types x) (ap (λ xs. seq_form (type_numbers xs)) c.deref.ensures.value ∙ sym (ap form_of c.in-Seq.is)) (h inner))
    c.seq_copy.ensures.copy

pub returns-in-Alt-clause-copy : goal.returns-in-Alt-clause-copy
returns-in-Alt-clause-copy c =
    let tops = c.args.tops.now in
    let inner = c.args.inner.now in
    ok_some_map c.alt_copy.result _ _
    (λ x h. subst (λ f. IsFormCopy f tops inner c.args.pool.now.types c.alt_copy.new.pool.types x) (ap (λ xs. alt_form (type_numbers xs)) c.deref-in-Alt.ensures.value ∙ sym (ap form_of c.in-Alt.is)) (h inner))
    c.alt_copy.ensures.copy

pub returns-in-Star-clause-copy : goal.returns-in-Star-clause-copy
returns-in-Star-clause-copy c =
    let tops = c.args.tops.now in
    let inner = c.args.inner.now in
    ok_some_map c.star_copy.result _ _
    (λ x h. subst (λ f. IsFormCopy f tops inner c.args.pool.now.types c.star_copy.new.pool.types x) (sym (ap form_of c.in-Star.is)) (h inner))
    c.star_copy.ensures.copy

pub returns-in-Plus-clause-copy : goal.returns-in-Plus-clause-copy
returns-in-Plus-clause-copy c =
    let tops = c.args.tops.now in
    let inner = c.args.inner.now in
    ok_some_map c.plus_copy.result _ _
    (λ x h. subst (λ f. IsFormCopy f tops inner c.args.pool.now.types c.plus_copy.new.pool.types x) (sym (ap form_of c.in-Plus.is)) (h inner))
    c.plus_copy.ensures.copy

pub returns-in-Opt-clause-copy : goal.returns-in-Opt-clause-copy
returns-in-Opt-clause-copy c =
    let tops = c.args.tops.now in
    let inner = c.args.inner.now in
    ok_some_map c.opt_copy.result _ _
    (λ x h. subst (λ f. IsFormCopy f tops inner c.args.pool.now.types c.opt_copy.new.pool.types x) (sym (ap form_of c.in-Opt.is)) (h inner))
    c.opt_copy.ensures.copy
