use Rattle.std.proofs.Common.{subst}
use Rattle.std.specs.Ordering.{nat_cmp}
use Rattle.std.specs.Cmp.Lexicographic.{slice_cmp}
use Rattle.xd_doc.specs.Word.{is_word}
use Rattle.xd_doc.specs.ClassForms.{HasName}
use Rattle.xd_doc.proofs.ClassLemmas.{has_name, exes_word}
use Rattle.xd_doc.proofs.class.Class.has_some.Goals as goal

pub returns : goal.returns
returns c = subst (HasName is_word) c.self.view_is (has_name is_word (slice_cmp nat_cmp) exes_word _ c.self.invariant)
