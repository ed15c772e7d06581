-- Documents that faults carry stand in the store.
use Rattle.std.specs.Prelude.{List}
use Rattle.xd_doc.specs.Document.{Document}
use Rattle.xd_doc.specs.StoredSeq.{BelongsTo}
use Rattle.xd_syntax.specs.declared.fault.FaultKind.{FaultKind}
use Rattle.xd_syntax.specs.declared.fault.FaultKind.TheVariants.{NotExhaustive, Argument, Result}

-- the document that the fault carries, if it carries one, belongs to the store
abbrev pub CarriesFrom : List Document → FaultKind → Type 0
CarriesFrom ds (NotExhaustive d) = BelongsTo ds d
CarriesFrom ds (Argument d) = BelongsTo ds d
CarriesFrom ds (Result d) = BelongsTo ds d
CarriesFrom ds k = Unit {0}
