use Rattle.std.proofs.Common.{subst}
use Rattle.std.specs.Ordering.{nat_cmp}
use Rattle.std.specs.Cmp.Lexicographic.{slice_cmp}
use Rattle.std.specs.Str.{is_utf8}
use Rattle.xd_doc.specs.ClassForms.{HasName}
use Rattle.xd_doc.proofs.ClassLemmas.{has_name, exes_text}
use Rattle.xd_doc.proofs.words.Words.has_some.Goals as goal

pub returns : goal.returns
returns c = subst (HasName is_utf8) c.self.view_is (has_name is_utf8 (slice_cmp nat_cmp) exes_text _ c.self.invariant)
