use Rattle.std.proofs.Common.{◌≡◌, ◌++◌, List, [], ◌∷◌, ap, sym, ◌∙◌, append_assoc}
use Rattle.std.proofs.lemmas.List.{drop_all, map-append}
use Rattle.xd_syntax.specs.Matches.{variable_spots}
use Rattle.xd_syntax.specs.NameFaults.{Spot}
use Rattle.xd_syntax.specs.Nodes.{view_form}
use Rattle.xd_syntax.specs.PlacedTable.{placed_at, placed_form}
use Rattle.xd_syntax.specs.declared.nodes.FormView.{FormView}
use Rattle.xd_syntax.specs.declared.patterns.PatternId.{PatternId}
use Rattle.xd_variables.specs.Binders.{spot_of, spots_of}
use Rattle.xd_variables.specs.declared.binders.Binder.{Binder}
use Rattle.xd_variables.proofs.BinderLemmas.{binders_done}
use Rattle.xd_variables.proofs.binders.+push_binders.Goals as goal

pub returns-in_ok-push_binders-in-Val : goal.returns-in_ok-push_binders-in-Val
returns-in_ok-push_binders-in-Val t c =
    let rows = c.args.patterns.now in
    let old : List Binder = c.args.found.now.items in
    let q = c.in-Val.place in
    let rest : List Spot = variable_spots (placed_at rows c.in-Val.part.at) in
    let b : Binder = record { variable = c.in_ok-variable-in-Val.variable; place = q } in
    let tree : variable_spots (placed_at rows c.args.id.at) ≡ record { word = c.in-Val.word.now; place = q } ∷ rest = ap variable_spots c.view-node.ensures.node.placed
    ∙ ap (λ (f : FormView PatternId). variable_spots (placed_form (placed_at rows) c.view-node.result.place (view_form (λ (id : PatternId). id.at) f))) c.in-Val.is in
    c.in_ok-push_binders-in-Val.ensures ∙ ap (λ (bs : List Binder). spots_of bs ++ rest) c.in_ok-push-in-Val.ensures.items
    ∙ ap (λ os. os ++ rest) (map-append spot_of old (b ∷ [])) ∙ append_assoc (spots_of old) (spot_of b ∷ []) rest
    ∙ ap (λ os. spots_of old ++ os) (ap (λ w. let o : Spot = record { word = w; place = q } in o ∷ rest) c.in_ok-variable-in-Val.ensures ∙ sym tree)

pub returns-after-loop-part : goal.returns-after-loop-part
returns-after-loop-part t c =
    binders_done (λ (id : PatternId). id.at) _ c.args.patterns.now _ c.view-node.result.place c.view-node.result.form c.view-node.result.parts.now _ _ _
    c.view-node.ensures.node c.view-node.ensures.parts c.in_default.not-Val (drop_all c.loop-part.part-index c.view-node.result.parts.now c.loop-part-test.false) c.loop-part.invariant.found
