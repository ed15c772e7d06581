use Rattle.std.proofs.Common.{sym, subst, get_or, [], ◌∷◌, length, ◌<◌, arith}
use Rattle.xd_doc.proofs.Lists.{all_there}
use Rattle.xd_auto.specs.Automaton.{state_number}
use Rattle.xd_auto.specs.declared.auto.State.{State}
use Rattle.xd_same_types.proofs.Ids.{got}
use Rattle.xd_show.specs.Contents.{MeansState, MeansStates}
use Rattle.xd_show.proofs.ContentLaws.{contents_by, contents_then, known_at, names_by, names_then, written_more}
use Rattle.xd_show.proofs.contents.write_names.Goals as goal

pub write_name-requires-clause-within : goal.write_name-requires-clause-within
write_name-requires-clause-within c =
    let named = c.args.named.now in
    let k = c.loop-number.number in
    let none : State = record { number = 0 } in
    let l : k < length named = omega arith in
    let count = (c.loop-number.invariant.contents []).count in
    subst (λ n. state_number (get_or named k none) < n) (sym count)
    (all_there (λ (s : State). state_number s < length c.args.written.now.items) named k (get_or named k none) c.requires.within l (got named k none l))

pub write_name-requires-clause-belong : goal.write_name-requires-clause-belong
write_name-requires-clause-belong c = (c.loop-number.invariant.contents []).belong c.requires.belong

pub returns-in_err-write_name-clause-grows : goal.returns-in_err-write_name-clause-grows
returns-in_err-write_name-clause-grows c =
    let words = c.args.names.now in
    let k = c.loop-number.number in
    let w = c.index-names-number.result in
    let l : k < length words = omega (arith, c.requires.count) in
    names_then words c.args.pool.now.types c.loop-number.pool.types c.write_name.new.pool.types c.loop-number.invariant.grows
    (names_by (w ∷ []) words c.loop-number.pool.types c.write_name.new.pool.types (λ known h. known_at known words k w l c.index-names-number.is h) c.write_name.ensures.grows)

pub loop-number-preserved : goal.loop-number-preserved
loop-number-preserved c =
    let words = c.args.names.now in
    let named = c.args.named.now in
    let k = c.loop-number.number in
    let w = c.index-names-number.result in
    let none : State = record { number = 0 } in
    let s : State = get_or named k none in
    let m : k < length named = omega arith in
    let l : k < length words = omega (arith, c.requires.count) in
    let inv = c.loop-number.invariant in
    let old = c.args.pool.now.types in
    let mid = c.loop-number.pool.types in
    let new = c.write_name.new.pool.types in
    let before = c.loop-number.written.items in
    let after = c.write_name.new.written.items in
    record {
      grows = names_then words old mid new inv.grows (names_by (w ∷ []) words mid new (λ known h. known_at known words k w l c.index-names-number.is h) c.write_name.ensures.grows);
      contents = λ a. contents_then (MeansStates a words named) a old mid new c.args.written.now.items before after (inv.contents a)
          (contents_by (MeansState a w s) (MeansStates a words named) a mid new before after (λ N h. h k w s m c.index-names-number.is (got named k none m)) (c.in_ok-write_name.ensures.contents a));
      written = written_more before after named k s m (got named k none m) (c.in_ok-write_name.ensures.contents []).written inv.written c.in_ok-write_name.ensures.written;
    }
