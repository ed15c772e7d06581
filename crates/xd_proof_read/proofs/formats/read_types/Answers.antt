use Rattle.std.proofs.Common.{◌+◌, arith, refl, subst, sym}
use Rattle.xd_proof_read.specs.Naming.{SpellsTypeOf}
use Rattle.xd_proof_read.proofs.NamingFacts.{grows_then}
use Rattle.xd_proof_read.proofs.TypeFacts.{AreTypesRead, type_read, no_type_read}
use Rattle.xd_proof_read.proofs.formats.read_types.Goals as goal

pub returns-in_err-id-clause-grows : goal.returns-in_err-id-clause-grows
returns-in_err-id-clause-grows c = grows_then c.args.sound.now c.loop-line.sound c.read_type_line.new.sound c.loop-line.invariant.grows c.read_type_line.ensures.grows

pub returns-in_err-push-in-Some-clause-grows : goal.returns-in_err-push-in-Some-clause-grows
returns-in_err-push-in-Some-clause-grows c = grows_then c.args.sound.now c.loop-line.sound c.read_type_line.new.sound c.loop-line.invariant.grows c.read_type_line.ensures.grows

pub returns-in-None-clause-grows : goal.returns-in-None-clause-grows
returns-in-None-clause-grows c = grows_then c.args.sound.now c.loop-line.sound c.read_type_line.new.sound c.loop-line.invariant.grows c.read_type_line.ensures.grows

pub returns-in-None-clause-bad : goal.returns-in-None-clause-bad
returns-in-None-clause-bad c =
    let i = c.loop-line.invariant in (
      c.loop-line.number + 1,
      refl,
      no_type_read c.args.sound.now c.loop-line.sound i.grows c.read_type_line.new.sound.types c.read_type_line.ensures.grows.adds.types c.loop-line.number c.loop-line.line-index c.args.lines.now _ c.loop-line.types.items c.in_ok-id.field-0 c.loop-line-test.true i.number
          i.read c.in_ok-id.ensures.read c.in-None.is,
    )

pub loop-line-preserved : goal.loop-line-preserved
loop-line-preserved c =
    let i = c.loop-line.invariant in
    record {
      grows = grows_then c.args.sound.now c.loop-line.sound c.read_type_line.new.sound i.grows c.read_type_line.ensures.grows;
      number = (let e = i.number in omega (arith, e));
      read =
          subst (AreTypesRead (SpellsTypeOf c.args.sound.now) c.read_type_line.new.sound.types _) (sym c.in_ok-push-in-Some.ensures.items)
          (type_read c.args.sound.now c.loop-line.sound i.grows c.read_type_line.new.sound.types c.read_type_line.ensures.grows.adds.types c.loop-line.number c.loop-line.line-index c.args.lines.now _ c.loop-line.types.items c.in_ok-id.field-0 c.loop-line-test.true i.number
          i.read c.in_ok-id.ensures.read c.in-Some.id c.in-Some.is);
    }
