-- What a comparison of two types says.
use Rattle.std.specs.Prelude.{List, [], ◌∷◌}
use Rattle.xd_doc.specs.Document.{Document}
use Rattle.xd_doc.specs.Stored.{document_at}
use Rattle.xd_doc.specs.StoredSeq.{BelongsTo}
use Rattle.xd_doc.specs.LeastUpTo.{IsLeastUpTo}
use Rattle.xd_least.specs.Least.{size_limit}
use Rattle.xd_syntax.specs.Tree.{Tree}
use Rattle.xd_syntax.specs.Program.{ProgramTree, names_of}
use Rattle.xd_meaning.specs.Included.{Included}
use Rattle.xd_inclusion.specs.Inclusion.{FitsAlone, ProvesInclusion}
use Rattle.xd_inclusion.specs.declared.compare.Inclusion.{Inclusion}
use Rattle.xd_inclusion.specs.declared.compare.Inclusion.TheVariants.{Proved, Separated}

-- Every document of the first type is one of the second, and the text proves it; or the store has a
-- least document of the first type alone.
abbrev pub IsInclusion : ProgramTree → (L R : Tree) → List Document → Inclusion → Type 0
IsInclusion P L R ds (Proved text) = Included (names_of P) L (R ∷ []) × ProvesInclusion P L R text.items
IsInclusion P L R ds (Separated seq) = BelongsTo ds seq × IsLeastUpTo size_limit (FitsAlone (names_of P) L R) (document_at ds seq)
