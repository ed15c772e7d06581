use Rattle.std.proofs.Common.{◌∙◌, ap, sym, refl}
use Rattle.std.specs.Ordering.{ordering_reverse}
use Rattle.xd_doc.proofs.MergeLemmas.{ahead_first, ahead_like, above_first, above_none}
use Rattle.xd_doc.proofs.names.next_of.Goals as goal
use Rattle.xd_doc.proofs.names.next_of.Goals.{in-None-Some, in-Some-None, in-Some-Some+in-Less, in-Some-Some+in-Equal, in-Some-Some+in-Greater}

pub returns-clause-some : goal.returns-clause-some
returns-clause-some g c =
    let o = g.met.N.Ord.total in
    elim c.match-first.branch [
      | in-None-Some w ↦ rw w.in_one-is (record {
        word = rw w.in_one-is at c.see.ensures;
        some = refl;
        ahead_one = above_none o w.in-None-Some.name.now c.args.one.now (sym w.in-None-Some.ensures.value);
        ahead_two = ahead_first o w.in-None-Some.name.now c.args.two.now (sym w.in-None-Some.ensures'.value);
      })
      | in-Some-None w ↦ rw w.in_one-is (record {
        word = rw w.in_one-is at c.see.ensures;
        some = refl;
        ahead_one = ahead_first o w.in-Some-None.name.now c.args.one.now (sym w.in-Some-None.ensures.value);
        ahead_two = above_none o w.in-Some-None.name.now c.args.two.now (sym w.in-Some-None.ensures'.value);
      })
      | in-Some-Some+in-Less w ↦ rw w.in_one-is (record {
        word = rw w.in_one-is at c.see.ensures;
        some = refl;
        ahead_one = ahead_first o w.in-Some-Some.name.now c.args.one.now (sym w.in-Some-Some.ensures.value);
        ahead_two = above_first o w.in-Some-Some.name.now w.in-Some-Some.other.now c.args.two.now c.requires.two (sym w.in-Some-Some.ensures'.value) (sym w.cmp.ensures ∙ w.in-Less.is);
      })
      | in-Some-Some+in-Equal w ↦ rw w.in_one-is (record {
        word = rw w.in_one-is at c.see.ensures;
        some = refl;
        ahead_one = ahead_first o w.in-Some-Some.name.now c.args.one.now (sym w.in-Some-Some.ensures.value);
        ahead_two = ahead_like o w.in-Some-Some.name.now w.in-Some-Some.other.now c.args.two.now (sym w.in-Some-Some.ensures'.value)
            (o.antisymm w.in-Some-Some.other.now w.in-Some-Some.name.now ∙ ap ordering_reverse (sym w.cmp.ensures ∙ w.in-Equal.is));
      })
      | in-Some-Some+in-Greater w ↦ rw w.in_one-is (record {
        word = rw w.in_one-is at c.see.ensures;
        some = refl;
        ahead_one = above_first o w.in-Some-Some.other.now w.in-Some-Some.name.now c.args.one.now c.requires.one (sym w.in-Some-Some.ensures.value)
            (o.antisymm w.in-Some-Some.other.now w.in-Some-Some.name.now ∙ ap ordering_reverse (sym w.cmp.ensures ∙ w.in-Greater.is));
        ahead_two = ahead_first o w.in-Some-Some.other.now c.args.two.now (sym w.in-Some-Some.ensures'.value);
      })
    ]
