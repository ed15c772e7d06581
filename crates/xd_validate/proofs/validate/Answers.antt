use Rattle.std.proofs.Common.{Global}
use Rattle.std.specs.String.{string_bytes}
use Rattle.xd_base.specs.Outside.{HasRisen}
use Rattle.xd_validate.proofs.Words.{outcome-of}
use Rattle.xd_validate.proofs.validate.Goals as goal

pub returns-in-len2-up : goal.returns-in-len2-up
returns-in-len2-up g c = record {
  outcome = outcome-of (string_bytes {Z = Global}) _ (HasRisen (g.H.Shelf.faults c.args.shelf.now) (g.H.Shelf.faults c.validate_by.new.shelf)) (HasRisen (g.S.Sink.faults c.args.sink.now) (g.S.Sink.faults c.validate_by.new.sink))
      c.args.words.now c.file-item.result c.name-item.result c.as_str.result.now c.as_str-in-len2-up.result.now c.validate_by.result.code
      c.in-len2-up.len_at_least c.file-item.is c.name-item.is c.as_str.ensures.value c.as_str-in-len2-up.ensures.value c.validate_by.ensures;
}
