use Rattle.std.proofs.Common.{◌≡◌, ℕ, List, ap, sym, subst, refl, ◌∙◌, get_or}
use Rattle.xd_base.specs.declared.Place.{Place}
use Rattle.xd_syntax.specs.declared.patterns.PatternForm.{PatternForm}
use Rattle.xd_syntax.specs.declared.patterns.PatternForm.TheVariants.{Empty, Text, Words, Name, Elem, Seq, Alt, Star, Plus, Opt, Val}
use Rattle.std.specs.Str.{bytes_eq}
use Rattle.std.specs.Prelude.{position}
use Rattle.xd_syntax.specs.Patterns.{form_of_pattern}
use Rattle.xd_syntax.specs.declared.patterns.PatternId.{PatternId}
use Rattle.xd_patterns.specs.Pieces.{variable_of, IsBinderForm}
use Rattle.xd_patterns.proofs.ViewLemmas.{same_row}
use Rattle.xd_patterns.proofs.variables.number_of.Goals as goal

pub returns-in-Val : goal.returns-in-Val
returns-in-Val c =
    let rows = c.args.patterns.now in
    let at : c.of.result.at ≡ c.args.node = ap (λ (x : PatternId). x.at) c.of.ensures in
    let row = same_row rows c.args.node c.node-binder.result.now c.requires.0 (subst (λ i. c.node-binder.result.now ≡ get_or rows i c.node-binder.result.now) at c.node-binder.ensures.row) ∙ sym c.form.ensures ∙ ap form_of_pattern c.in-Val.is in
    c.get_index_of.ensures.index ∙ ap (λ w. position (bytes_eq w) c.args.variables.now.keys) (sym (ap variable_of row))

no_binder : (f : PatternForm) → IsBinderForm (form_of_pattern f) → ((x : List ℕ) (p : Place) (i : PatternId) → f ≡ Val x p i → ⊥) → ⊥
no_binder Empty b n = b
no_binder Text b n = b
no_binder (Words w) b n = b
no_binder (Name w) b n = b
no_binder (Elem c i) b n = b
no_binder (Seq parts) b n = b
no_binder (Alt parts) b n = b
no_binder (Star i) b n = b
no_binder (Plus i) b n = b
no_binder (Opt i) b n = b
no_binder (Val x p i) b n = n x p i refl

pub returns-in_default : goal.returns-in_default
returns-in_default c =
    let rows = c.args.patterns.now in
    let at : c.of.result.at ≡ c.args.node = ap (λ (x : PatternId). x.at) c.of.ensures in
    let row = same_row rows c.args.node c.node-binder.result.now c.requires.0 (subst (λ i. c.node-binder.result.now ≡ get_or rows i c.node-binder.result.now) at c.node-binder.ensures.row) ∙ sym c.form.ensures in
    absurd (no_binder c.form.result.now (subst IsBinderForm row c.requires.1) c.in_default.not-Val)
