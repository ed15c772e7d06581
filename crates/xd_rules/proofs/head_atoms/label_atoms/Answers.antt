use Rattle.std.proofs.Common.{sym, ◌∙◌}
use Rattle.xd_rules.specs.declared.atom.Atom.TheVariants.{Label, OtherLabel}
use Rattle.xd_rules.proofs.AllAtomsLemmas.{class_atoms_are, label_atoms_are}
use Rattle.xd_rules.proofs.head_atoms.label_atoms.Goals as goal

pub returns : goal.returns
returns c texts =
    class_atoms_are Label OtherLabel c.args.class.now c.args.unnamed.now c.in_ok-atoms.atoms.items c.names-names.ensures.valid.sorted c.names-all.ensures.valid.sorted c.requires c.in_ok-atoms.ensures.own c.in_ok-atoms.ensures.others
    ∙ sym (label_atoms_are (record { labels = c.args.unnamed.now.names; texts = texts }) c.args.class.now)
