use Rattle.std.proofs.Common.{sym, ◌∙◌}
use Rattle.xd_rules.specs.declared.atom.Atom.TheVariants.{Text, OtherText}
use Rattle.xd_rules.proofs.AllAtomsLemmas.{class_atoms_are, text_atoms_are}
use Rattle.xd_rules.proofs.head_atoms.text_atoms.Goals as goal

pub returns : goal.returns
returns c labels =
    class_atoms_are Text OtherText c.args.words.now c.args.unnamed.now c.in_ok-atoms.atoms.items c.texts-names.ensures.valid.sorted c.texts-all.ensures.valid.sorted c.requires c.in_ok-atoms.ensures.own c.in_ok-atoms.ensures.others
    ∙ sym (text_atoms_are (record { labels = labels; texts = c.args.unnamed.now.names }) c.args.words.now)
