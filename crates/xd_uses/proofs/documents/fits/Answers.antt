use Rattle.std.proofs.Common.{◌≡◌, ℕ, true, List, Option, subst}
use Rattle.std.specs.Option.{IfSome}
use Rattle.std.specs.Prelude.{◌↔◌}
use Rattle.xd_doc.specs.Stored.{document_at}
use Rattle.xd_read.specs.Reading.{BytesSpell}
use Rattle.xd_syntax.specs.Fits.{Fits}
use Rattle.xd_syntax.specs.Kept.{program_tree}
use Rattle.xd_syntax.specs.Program.{ProgramTree, names_of}
use Rattle.xd_syntax.specs.SoundTables.{IsTypeAt}
use Rattle.xd_syntax.specs.Sound.{type_named}
use Rattle.xd_syntax.specs.Tree.{Tree}
use Rattle.xd_syntax.specs.Types.{tree}
use Rattle.xd_syntax.specs.declared.types.TypeId.{TypeId}
use Rattle.xd_uses.proofs.documents.fits.Goals as goal

pub fits_type-requires-clause-id : goal.fits_type-requires-clause-id
fits_type-requires-clause-id c =
    (subst (λ (o : Option TypeId). IfSome o (IsTypeAt c.find_type.new.self.types (type_named c.args.name.now))) c.in_ok-id.ensures c.in_ok-find_type.ensures.found).belongs

pub returns : goal.returns
returns c =
    let P = program_tree c.in_ok-sound.sound in
    let q = c.find_type.new.self in
    let d = document_at c.read_document.new.store c.in_ok-seq.seq in
    let at = subst (λ (o : Option TypeId). IfSome o (IsTypeAt q.types (type_named c.args.name.now))) c.in_ok-id.ensures c.in_ok-find_type.ensures.found in
    record {
      program = P;
      document = d;
      defined = c.in_ok-sound.ensures.program;
      spelled = subst (λ (bs : List ℕ). BytesSpell bs d) c.as_bytes.ensures.value c.in_ok-seq.ensures.ok;
      told = subst (λ (T : Tree). (c.in_ok-fits_type.field-0 ≡ true) ↔ Fits (names_of P) T d) at.same
          (subst (λ (Q : ProgramTree). (c.in_ok-fits_type.field-0 ≡ true) ↔ Fits (names_of Q) (tree q.types c.in_ok-id.id) d) c.find_type.ensures.same c.in_ok-fits_type.ensures);
    }
