use Rattle.xd_state_heads.proofs.IsHeadNamedLemmas.{head_labels, head_texts, names_sorted, state_labels, state_texts}
use Rattle.xd_state_heads.proofs.heads.unnamed_of.Goals as goal

pub returns-clause-names : goal.returns-clause-names
returns-clause-names c = record {
  labels = names_sorted head_labels _ c.args.auto.now (state_labels c.args.auto.now) c.args.left c.args.rights.now c.in_ok-names.names.items _ c.in_ok-names.ensures c.in_ok-labels.ensures.labels c.in_ok-labels.ensures.valid.sorted;
  texts = names_sorted head_texts _ c.args.auto.now (state_texts c.args.auto.now) c.args.left c.args.rights.now c.in_ok-names-2.names.items _ c.in_ok-names-2.ensures c.in_ok-texts.ensures.texts c.in_ok-texts.ensures.valid.sorted;
}
