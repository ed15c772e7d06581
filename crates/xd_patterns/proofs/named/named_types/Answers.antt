use Rattle.std.proofs.Common.{List, [], ◌∷◌, ◌++◌, get_or, sym, subst, take}
use Rattle.std.proofs.lemmas.List.{take_more}
use Rattle.xd_doc.proofs.Lists.{all_push}
use Rattle.xd_meaning.specs.KeptFaults.{AllPaired}
use Rattle.xd_syntax.specs.Types.{BelongsTo}
use Rattle.xd_syntax.specs.declared.types.TypeId.{TypeId}
use Rattle.xd_patterns.specs.Named.{StandsForType}
use Rattle.xd_patterns.specs.Sources.{names_in}
use Rattle.xd_patterns.proofs.Pairing.{paired_end}
use Rattle.xd_patterns.proofs.named.named_types.Goals as goal

no_type : TypeId
no_type = record { at = 0 }

pub loop-id-preserved : goal.loop-id-preserved
unfolding no_type
loop-id-preserved c =
    let rows = c.args.sources.now.types.now in
    let R = StandsForType (names_in c.args.sources.now) rows in
    let ids = c.args.ids.now in
    let i = c.loop-id.id-index in
    rw c.in_ok-push.ensures.items (record {
      belong = all_push (BelongsTo rows) c.loop-id.named.items c.named_type.result c.loop-id.invariant.belong c.named_type.ensures.belongs;
      stand =
          subst (λ (xs : List TypeId). AllPaired R xs (c.loop-id.named.items ++ c.named_type.result ∷ [])) (sym (take_more ids i no_type c.loop-id-test.true))
          (paired_end R (take i ids) c.loop-id.named.items (get_or ids i no_type) c.named_type.result c.loop-id.invariant.stand c.named_type.ensures.stands);
    })
