use Rattle.std.proofs.Common.{◌∙◌, sym, arith}
use Rattle.xd_doc.proofs.StoredLemmas.{Keeps-same}
use Rattle.xd_auto.proofs.ExtendsLemmas.{extends_then}
use Rattle.xd_least.proofs.KnownLemmas.{stays_known}
use Rattle.xd_points.proofs.StayLaws.{serving_stays}
use Rattle.xd_points.proofs.TableLemmas.{tables_stay}
use Rattle.xd_given.proofs.GivenLemmas.{left_state, shared}
use Rattle.xd_given.proofs.StayLemmas.{givens_alone, means_still}
use Rattle.xd_given.proofs.given.given_alone.Goals as goal

pub find-requires-clause-table : goal.find-requires-clause-table
find-requires-clause-table g c = c.of_runs-table.ensures.table c.args.auto.now c.args.of.now.patterns.now

pub learn-requires : goal.learn-requires
learn-requires g c = stays_known c.args.known.now c.args.auto.now c.find.new.auto c.args.store.now c.args.store.now c.in_ok-start.ensures.extends (Keeps-same c.args.store.now) c.requires.known

pub returns-in_err-places-clause-extends : goal.returns-in_err-places-clause-extends
returns-in_err-places-clause-extends g c = extends_then c.args.auto.now c.find.new.auto c.places_of.new.auto c.in_ok-start.ensures.extends c.in_err-places.ensures.extends

pub add_givens-requires-clause-table : goal.add_givens-requires-clause-table
add_givens-requires-clause-table g c = tables_stay c.find.new.auto c.places_of.new.auto c.args.of.now.patterns.now c.find.new.self c.len-length.ensures.closed c.in_ok-places.ensures.extends c.in_ok-start.ensures.table

pub add_givens-requires-clause-patterns : goal.add_givens-requires-clause-patterns
add_givens-requires-clause-patterns g c =
    serving_stays c.args.auto.now c.places_of.new.auto c.args.of.now.patterns.now c.len-states.ensures.closed
    (extends_then c.args.auto.now c.find.new.auto c.places_of.new.auto c.in_ok-start.ensures.extends c.in_ok-places.ensures.extends) c.requires.patterns

pub add_givens-requires-clause-known : goal.add_givens-requires-clause-known
add_givens-requires-clause-known g c = record {
  documents = c.learn.new.store;
  knows = stays_known c.learn.new.self c.find.new.auto c.places_of.new.auto c.learn.new.store c.learn.new.store c.in_ok-places.ensures.extends (Keeps-same c.learn.new.store) c.in_ok-learn.ensures.knows;
  lefts = λ s lt. let here = left_state c.find.new.auto c.args.of.now.patterns.now c.find.new.self s c.in_ok-start.ensures.table lt in omega (arith, here, c.in_ok-learn.ensures.all);
}

pub add_givens-requires-clause-places : goal.add_givens-requires-clause-places
add_givens-requires-clause-places g c = rw c.deref.ensures.value (c.in_ok-places.ensures.places c.args.of.now.patterns.now c.in_ok-start.ensures.table)

pub returns-in_err-givens-clause-extends : goal.returns-in_err-givens-clause-extends
returns-in_err-givens-clause-extends g c =
    extends_then c.args.auto.now c.find.new.auto c.add_givens.new.auto c.in_ok-start.ensures.extends
    (extends_then c.find.new.auto c.places_of.new.auto c.add_givens.new.auto c.in_ok-places.ensures.extends c.in_err-givens.ensures.extends)

pub returns-then-is_empty-clause-shared : goal.returns-then-is_empty-clause-shared
returns-then-is_empty-clause-shared g c =
    shared c.args.auto.now c.find.new.auto c.args.of.now.patterns.now c.find.new.self c.in_ok-start.start c.in-Some.place c.args.asked.left c.args.asked.pattern c.args.asked.rights.now c.learn.new.self c.learn.new.store c.in-Some-document._document
    c.in_ok-start.ensures.table c.in_ok-start.ensures.belongs c.in_ok-start.ensures.means (sym c.in-Some.ensures) c.in_ok-learn.ensures.knows (sym c.in-Some-document.ensures)

pub returns-clause-shared : goal.returns-clause-shared
returns-clause-shared g c =
    shared c.args.auto.now c.find.new.auto c.args.of.now.patterns.now c.find.new.self c.in_ok-start.start c.in-Some.place c.args.asked.left c.args.asked.pattern c.args.asked.rights.now c.learn.new.self c.learn.new.store c.in-Some-document._document
    c.in_ok-start.ensures.table c.in_ok-start.ensures.belongs c.in_ok-start.ensures.means (sym c.in-Some.ensures) c.in_ok-learn.ensures.knows (sym c.in-Some-document.ensures)

pub returns-clause-givens : goal.returns-clause-givens
returns-clause-givens g c =
    let p = c.args.of.now.patterns.now in
    let t = c.find.new.self in
    let start = c.in_ok-start.start in
    givens_alone c.args.auto.now c.places_of.new.auto p t start c.args.asked.left c.args.asked.pattern c.args.asked.rights.now c.args.first (c.in_ok-start.ensures.runs ∙ c.of_runs-table.ensures.runs) c.in_ok-start.ensures.pattern
    (λ d. means_still c.find.new.auto c.places_of.new.auto p t start d c.len-length.ensures.closed c.in_ok-places.ensures.extends c.in_ok-start.ensures.table
    (omega (arith, c.in_ok-start.ensures.belongs, c.in_ok-start.ensures.table.expanded.whole.count)) ∙ c.in_ok-start.ensures.means d)
    (g.H.Holds.owned c.args.of.now.owner.now) c.args.of.now.variables.now c.add_givens.new.auto c.in_ok-givens.givens.items c.in_ok-givens.ensures.givens

pub returns-clause-extends : goal.returns-clause-extends
returns-clause-extends g c =
    extends_then c.args.auto.now c.find.new.auto c.add_givens.new.auto c.in_ok-start.ensures.extends
    (extends_then c.find.new.auto c.places_of.new.auto c.add_givens.new.auto c.in_ok-places.ensures.extends c.in_ok-givens.ensures.extends)

pub returns-clause-known : goal.returns-clause-known
returns-clause-known g c =
    stays_known c.learn.new.self c.find.new.auto c.add_givens.new.auto c.learn.new.store c.learn.new.store
    (extends_then c.find.new.auto c.places_of.new.auto c.add_givens.new.auto c.in_ok-places.ensures.extends c.in_ok-givens.ensures.extends) (Keeps-same c.learn.new.store) c.in_ok-learn.ensures.knows

pub returns-in_err-places-clause-known : goal.returns-in_err-places-clause-known
returns-in_err-places-clause-known g c =
    stays_known c.learn.new.self c.find.new.auto c.places_of.new.auto c.learn.new.store c.learn.new.store c.in_err-places.ensures.extends (Keeps-same c.learn.new.store) c.in_ok-learn.ensures.knows

pub returns-in_err-givens-clause-known : goal.returns-in_err-givens-clause-known
returns-in_err-givens-clause-known g c =
    stays_known c.learn.new.self c.find.new.auto c.add_givens.new.auto c.learn.new.store c.learn.new.store
    (extends_then c.find.new.auto c.places_of.new.auto c.add_givens.new.auto c.in_ok-places.ensures.extends c.in_err-givens.ensures.extends) (Keeps-same c.learn.new.store) c.in_ok-learn.ensures.knows

pub returns-in_err-start-clause-known : goal.returns-in_err-start-clause-known
returns-in_err-start-clause-known g c = stays_known c.args.known.now c.args.auto.now c.find.new.auto c.args.store.now c.args.store.now c.in_err-start.ensures.extends (Keeps-same c.args.store.now) c.requires.known
