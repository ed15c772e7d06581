use Rattle.std.proofs.Common.{subst}
use Rattle.xd_syntax.specs.Tree.{Alt}
use Rattle.xd_syntax.specs.Types.{tree}
use Rattle.xd_same_types.specs.Same.{MeansSame}
use Rattle.xd_same_types.proofs.Tables.{keeps_then, kept_tree}
use Rattle.xd_same_types.proofs.TextLaws.{texts_more}
use Rattle.xd_same_types.proofs.texts.named_type.Goals as goal

pub loop-number-preserved : goal.loop-number-preserved
loop-number-preserved c =
    let inv = c.loop-number.invariant in
    let now = c.loop-number.pool.types in
    let mid = c.one_text-in-loop-number.new.pool.types in
    let new = c.alt.new.pool.types in
    let xs = c.args.texts.now in
    let k = c.loop-number.number in
    let T = tree now c.loop-number.made in
    let U = tree mid c.in_ok-one.one in
    let V = tree new c.in_ok-made-2.made in
    record {
      keeps = keeps_then _ _ _ (keeps_then _ _ _ inv.keeps c.one_text-in-loop-number.ensures.keeps) c.alt.ensures.keeps;
      belongs = c.in_ok-made-2.ensures.belongs;
      texts = texts_more xs k _ T U V c.loop-number-test.true c.index-texts-number.is inv.texts c.in_ok-one.ensures.texts
          (subst (λ A. MeansSame V (Alt A U)) (kept_tree now mid c.one_text-in-loop-number.ensures.keeps c.loop-number.made inv.belongs) c.in_ok-made-2.ensures.same);
    }
