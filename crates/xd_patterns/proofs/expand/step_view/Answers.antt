use Rattle.std.proofs.lemmas.Result.{IfOk-weaker}
use Rattle.std.proofs.Common.{subst}
use Rattle.xd_patterns.specs.Pieces.{Sees}
use Rattle.xd_patterns.specs.Tasks.{rows_of}
use Rattle.xd_patterns.proofs.StepArms.{empty_arm, text_arm, words_arm, elem_arm, name_arm, seq_arm, plus_arm, alt_arm, opt_arm, star_arm, val_arm}
use Rattle.xd_patterns.specs.Sources.{tables}
use Rattle.xd_patterns.proofs.expand.step_view.Goals as goal

pub returns-in_ok-push-in-Empty : goal.returns-in_ok-push-in-Empty
returns-in_ok-push-in-Empty c =
    let sees = subst (Sees (rows_of (tables c.args.sources.now) c.args.first.item.of_pattern) c.args.first.item) c.in-Empty.is c.requires.sees in
    empty_arm _ _ _ _ _ c.requires.piece _ c.requires.behind _ _ _ _ sees c.in_ok-push-in-Empty.ensures.items

pub returns-in-Text : goal.returns-in-Text
returns-in-Text c =
    let sees = subst (Sees (rows_of (tables c.args.sources.now) c.args.first.item.of_pattern) c.args.first.item) c.in-Text.is c.requires.sees in
    IfOk-weaker c.keep_item.result _ _ (λ _ h. text_arm _ _ _ _ _ c.requires.piece _ c.requires.behind _ _ _ _ sees h) c.keep_item.ensures

pub returns-in-Words : goal.returns-in-Words
returns-in-Words c =
    let sees = subst (Sees (rows_of (tables c.args.sources.now) c.args.first.item.of_pattern) c.args.first.item) c.in-Words.is c.requires.sees in
    IfOk-weaker c.keep_item-in-Words.result _ _ (λ _ h. words_arm _ _ _ _ _ c.requires.piece _ c.requires.behind _ _ _ _ _ sees h) c.keep_item-in-Words.ensures

pub returns-in-Elem : goal.returns-in-Elem
returns-in-Elem c =
    let sees = subst (Sees (rows_of (tables c.args.sources.now) c.args.first.item.of_pattern) c.args.first.item) c.in-Elem.is c.requires.sees in
    IfOk-weaker c.keep_item-in-Elem.result _ _ (λ _ h. elem_arm _ _ _ _ _ c.requires.piece _ c.requires.behind _ _ _ _ _ _ sees.0 h) c.keep_item-in-Elem.ensures

pub returns-in-Name : goal.returns-in-Name
returns-in-Name c =
    let sees = subst (Sees (rows_of (tables c.args.sources.now) c.args.first.item.of_pattern) c.args.first.item) c.in-Name.is c.requires.sees in
    IfOk-weaker c.push_body.result _ _ (λ _ h. name_arm _ _ _ _ _ c.requires.piece _ c.requires.behind _ _ _ _ _ _ _ (c.requires.bodies.right c.in-Name.name.now) (c.requires.bodies.within c.in-Name.name.now) sees h) c.push_body.ensures

pub returns-in-Seq : goal.returns-in-Seq
returns-in-Seq c =
    let sees = subst (Sees (rows_of (tables c.args.sources.now) c.args.first.item.of_pattern) c.args.first.item) c.in-Seq.is c.requires.sees in
    IfOk-weaker c.push_row.result _ _ (λ _ h. seq_arm _ _ _ _ _ c.requires.piece _ c.requires.behind _ _ _ _ _ _ _ sees h) c.push_row.ensures

pub returns-in-Plus : goal.returns-in-Plus
returns-in-Plus c =
    let sees = subst (Sees (rows_of (tables c.args.sources.now) c.args.first.item.of_pattern) c.args.first.item) c.in-Plus.is c.requires.sees in
    IfOk-weaker c.push_row-in-Plus.result _ _ (λ _ h. plus_arm _ _ _ _ _ c.requires.piece _ c.requires.behind _ _ _ _ _ _ _ sees h) c.push_row-in-Plus.ensures

pub returns-in_ok-push_part-in-Alt : goal.returns-in_ok-push_part-in-Alt
returns-in_ok-push_part-in-Alt c =
    let sees = subst (Sees (rows_of (tables c.args.sources.now) c.args.first.item.of_pattern) c.args.first.item) c.in-Alt.is c.requires.sees in
    IfOk-weaker c.push_part-in-Alt.result _ _ (λ _ h. alt_arm _ _ _ _ _ c.requires.piece _ c.requires.behind _ _ _ _ _ _ _ _ _ sees c.in_ok-push_part-in-Alt.ensures h) c.push_part-in-Alt.ensures

pub returns-in_ok-push-in-Star : goal.returns-in_ok-push-in-Star
returns-in_ok-push-in-Star c =
    let sees = subst (Sees (rows_of (tables c.args.sources.now) c.args.first.item.of_pattern) c.args.first.item) c.in-Star.is c.requires.sees in
    IfOk-weaker c.push_part-in-Star.result _ _ (λ _ h. star_arm _ _ _ _ _ c.requires.piece _ c.requires.behind _ _ _ _ _ _ _ _ c.requires.cell c.requires.list sees c.in_ok-push-in-Star.ensures.items h) c.push_part-in-Star.ensures

pub returns-in_ok-push-in-Opt : goal.returns-in_ok-push-in-Opt
returns-in_ok-push-in-Opt c =
    let sees = subst (Sees (rows_of (tables c.args.sources.now) c.args.first.item.of_pattern) c.args.first.item) c.in-Opt.is c.requires.sees in
    IfOk-weaker c.push_part-in-Opt.result _ _ (λ _ h. opt_arm _ _ _ _ _ c.requires.piece _ c.requires.behind _ _ _ _ _ _ _ sees c.in_ok-push-in-Opt.ensures.items h) c.push_part-in-Opt.ensures

pub returns-in_ok-bound-in-Val : goal.returns-in_ok-bound-in-Val
returns-in_ok-bound-in-Val c =
    let sees = subst (Sees (rows_of (tables c.args.sources.now) c.args.first.item.of_pattern) c.args.first.item) c.in-Val.is c.requires.sees in
    IfOk-weaker c.push_part-in-Val.result _ _ (λ _ h. val_arm _ _ _ _ _ c.requires.piece _ c.requires.behind _ _ _ _ _ _ _ _ sees c.in_ok-bound-in-Val.ensures h) c.push_part-in-Val.ensures
