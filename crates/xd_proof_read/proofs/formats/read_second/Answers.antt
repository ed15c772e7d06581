use Rattle.std.proofs.lemmas.Result.{err_from_is_err_and}
use Rattle.xd_proof_read.proofs.NamingFacts.{grows_then}
use Rattle.xd_proof_read.proofs.FormatFacts.{second_empty, second_no_count, cut_into, types_tell, short_is, numbers_stand, second_tells, second_reads}
use Rattle.xd_proof_read.proofs.formats.read_second.Goals as goal

pub returns-in_default-clause-bad : goal.returns-in_default-clause-bad
returns-in_default-clause-bad c = second_empty c.args.sound.now c.args.lines.now c.in_default.ensures.cases

pub returns-in_default-read_numbered-clause-bad : goal.returns-in_default-read_numbered-clause-bad
returns-in_default-read_numbered-clause-bad c = second_no_count c.args.sound.now c.args.lines.now _ _ c.as_slice.result.now (c.in-Some.ensures.cases).0 c.as_slice.ensures c.in_default-read_numbered.ensures

pub returns-in_err-types-clause-bad : goal.returns-in_err-types-clause-bad
returns-in_err-types-clause-bad c =
    let cut = cut_into c.args.lines.now _ _ _ _ _ c.in-Some-read_numbered.count c.min-many.result (c.in-Some.ensures.cases).0 c.as_slice.ensures c.in-Some-read_numbered.ensures c.min-many.ensures c.split_at.ensures.front c.split_at.ensures.back in
    let p = err_from_is_err_and c.from_residual.result c.from_residual.ensures.1 in
    rw (p.1, p.2) (types_tell c.args.sound.now c.args.lines.now _ _ _ _ _ cut c.in_err-types.field-0.0 c.in_err-types.ensures.bad)

pub returns-then-many-count-clause-bad : goal.returns-then-many-count-clause-bad
returns-then-many-count-clause-bad c =
    let cut = cut_into c.args.lines.now _ _ _ _ _ c.in-Some-read_numbered.count c.min-many.result (c.in-Some.ensures.cases).0 c.as_slice.ensures c.in-Some-read_numbered.ensures c.min-many.ensures c.split_at.ensures.front c.split_at.ensures.back in
    let r = c.in_ok-types.ensures.ok in
    short_is c.args.sound.now c.args.lines.now _ _ _ _ _ cut r.0 r.1 c.if-many-count.true

pub read_goals-requires-clause-stands : goal.read_goals-requires-clause-stands
read_goals-requires-clause-stands c =
    let cut = cut_into c.args.lines.now _ _ _ _ _ c.in-Some-read_numbered.count c.min-many.result (c.in-Some.ensures.cases).0 c.as_slice.ensures c.in-Some-read_numbered.ensures c.min-many.ensures c.split_at.ensures.front c.split_at.ensures.back in
    let r = c.in_ok-types.ensures.ok in
    numbers_stand c.args.sound.now c.args.lines.now _ _ _ _ _ cut c.read_types.new.sound c.read_types.ensures.grows c.in_ok-types.types r.0 r.1 r.2 c.if-many-count.false

pub returns-clause-ok : goal.returns-clause-ok
returns-clause-ok c =
    let cut = cut_into c.args.lines.now _ _ _ _ _ c.in-Some-read_numbered.count c.min-many.result (c.in-Some.ensures.cases).0 c.as_slice.ensures c.in-Some-read_numbered.ensures c.min-many.ensures c.split_at.ensures.front c.split_at.ensures.back in
    let r = c.in_ok-types.ensures.ok in
    second_reads c.args.sound.now c.args.lines.now _ _ _ _ _ cut c.read_types.new.sound c.read_types.ensures.grows c.in_ok-types.types r.0 r.1 r.2 c.if-many-count.false c.read_goals.new.sound.types c.read_goals.result c.read_goals.ensures.ok

pub returns-clause-bad : goal.returns-clause-bad
returns-clause-bad c =
    let cut = cut_into c.args.lines.now _ _ _ _ _ c.in-Some-read_numbered.count c.min-many.result (c.in-Some.ensures.cases).0 c.as_slice.ensures c.in-Some-read_numbered.ensures c.min-many.ensures c.split_at.ensures.front c.split_at.ensures.back in
    let r = c.in_ok-types.ensures.ok in
    second_tells c.args.sound.now c.args.lines.now _ _ _ _ _ cut c.read_types.new.sound c.read_types.ensures.grows c.in_ok-types.types r.0 r.1 r.2 c.if-many-count.false c.read_goals.result c.read_goals.ensures.bad

pub returns-clause-grows : goal.returns-clause-grows
returns-clause-grows c = grows_then c.args.sound.now c.read_types.new.sound c.read_goals.new.sound c.read_types.ensures.grows c.read_goals.ensures.grows
