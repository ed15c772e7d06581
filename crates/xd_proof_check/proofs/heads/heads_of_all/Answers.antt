use Rattle.std.proofs.lemmas.List.{take_all}
use Rattle.std.proofs.Common.{◌∙◌, length, subst, ◌<◌}
use Rattle.xd_doc.proofs.Lists.{all_get}
use Rattle.xd_proof_check.specs.GoalHeads.{AreHeadsOf}
use Rattle.xd_syntax.specs.Kept.{program_tree}
use Rattle.xd_syntax.specs.Program.{names_of}
use Rattle.xd_syntax.specs.declared.types.TypeId.{TypeId}
use Rattle.xd_continuations.proofs.ChainLemmas.{kept_then}
use Rattle.xd_proof_check.proofs.HeadLemmas.{heads_more}
use Rattle.xd_proof_check.proofs.heads.heads_of_all.Goals as goal

no_type : TypeId
no_type = record { at = 0 }

pub loop-id-preserved : goal.loop-id-preserved
unfolding no_type
loop-id-preserved c =
    let p = c.args.program.now in
    let v = c.loop-id.invariant in
    let k = c.in_ok-more.ensures.keeps in
    let old = c.loop-id.lister.cells in
    let new = c.heads.new.self.cells in
    record {
      serves = c.in_ok-more.ensures.serves;
      keeps = record {
        cells = kept_then c.args.lister.now.cells old new v.keeps.cells k.cells;
        numbers = k.numbers ∙ v.keeps.numbers;
        marks = k.marks ∙ v.keeps.marks;
      };
      heads =
          heads_more p.types old new (names_of (program_tree p)) c.args.types.now c.loop-id.id-index no_type c.loop-id.made.items c.push_heads.new.made.items c.in_ok-more.more.items
          k.cells c.loop-id-test.true v.heads c.in_ok-more.ensures.heads c.in_ok-push_heads.ensures;
    }

pub heads-requires-clause-belongs : goal.heads-requires-clause-belongs
heads-requires-clause-belongs c = all_get (λ (id : TypeId). id.at < length c.args.program.now.types) c.args.types.now c.loop-id.id-index _ c.requires.belong c.loop-id-test.true

pub returns-clause-heads : goal.returns-clause-heads
returns-clause-heads c = subst (λ ids. AreHeadsOf c.args.program.now.types c.loop-id.lister.cells (names_of (program_tree c.args.program.now)) ids c.loop-id.made.items) (take_all c.loop-id.id-index c.args.types.now c.loop-id-test.false) c.loop-id.invariant.heads
