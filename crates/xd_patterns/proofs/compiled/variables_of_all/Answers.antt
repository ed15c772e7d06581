use Rattle.std.proofs.Common.{◌++◌, ◌∷◌, [], take, get_or, ap, sym, subst, ◌∙◌}
use Rattle.std.specs.List.{AllByRecursion}
use Rattle.std.proofs.lemmas.List.{take_more, take_all}
use Rattle.xd_doc.proofs.Lists.{all_get, all_append}
use Rattle.xd_meaning.specs.Bindings.{variables_of}
use Rattle.xd_syntax.specs.Patterns.{pattern_tree}
use Rattle.xd_syntax.specs.declared.patterns.PatternId.{PatternId}
use Rattle.xd_patterns.specs.CompiledProgram.{AreWithin, IsLinearPattern, each_variables, variables_of_patterns}
use Rattle.xd_patterns.specs.Variables.{put_each}
use Rattle.xd_patterns.specs.declared.compiled.PatternVariables.{PatternVariables}
use Rattle.xd_patterns.proofs.Together.{all_within_put, each_push, variables_push, within_new}
use Rattle.xd_patterns.proofs.compiled.variables_of_all.Goals as goal

no_id : PatternId
no_id = record { at = 0 }

pub variables-requires : goal.variables-requires
unfolding no_id
variables-requires c = (all_get (IsLinearPattern c.args.patterns.now) c.args.ids.now c.loop-id.id-index no_id c.requires c.loop-id-test.true).there

pub loop-id-init : goal.loop-id-init
loop-id-init c = record { each = ap each_variables c.new-each.ensures.items; all = tt }

pub loop-id-preserved : goal.loop-id-preserved
unfolding no_id
loop-id-preserved c =
    let rows = c.args.patterns.now in
    let ids = c.args.ids.now in
    let i = c.loop-id.id-index in
    let id = get_or ids i no_id in
    let made : PatternVariables = record { words = c.in_ok-words.words } in
    let vs = c.in_ok-words.words.keys in
    let more = ap (variables_of_patterns rows) (take_more ids i no_id c.loop-id-test.true) ∙ variables_push rows (take i ids) id in
    let old = c.loop-id.invariant in
    let all = c.loop-id.all.keys in record {
      each =
          ap each_variables c.in_ok-push.ensures.items ∙ each_push c.loop-id.each.items made
          ∙ ap (λ z. z ++ vs ∷ []) old.each ∙ ap (λ ws. variables_of_patterns rows (take i ids) ++ ws ∷ []) c.in_ok-words.ensures ∙ sym more;
      all =
          subst (AllByRecursion (AreWithin c.put_words.new.words.keys)) (sym more)
          (subst (λ ks. AllByRecursion (AreWithin ks) (variables_of_patterns rows (take i ids) ++ variables_of (pattern_tree rows id) ∷ [])) (sym c.in_ok-put_words.ensures)
          (all_append (AreWithin (put_each all vs)) (variables_of_patterns rows (take i ids)) (variables_of (pattern_tree rows id) ∷ [])
          (all_within_put all vs (variables_of_patterns rows (take i ids)) old.all)
          (subst (AreWithin (put_each all vs)) c.in_ok-words.ensures (within_new all vs), tt)));
    }

pub returns-clause-each : goal.returns-clause-each
returns-clause-each c =
    let test = c.loop-id-test.false in
    c.loop-id.invariant.each ∙ ap (variables_of_patterns c.args.patterns.now) (take_all c.loop-id.id-index c.args.ids.now test)

pub returns-clause-all : goal.returns-clause-all
returns-clause-all c =
    let test = c.loop-id-test.false in
    subst (λ ids. AllByRecursion (AreWithin c.loop-id.all.keys) (variables_of_patterns c.args.patterns.now ids)) (take_all c.loop-id.id-index c.args.ids.now test) c.loop-id.invariant.all
