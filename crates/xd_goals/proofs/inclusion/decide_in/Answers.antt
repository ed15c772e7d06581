use Rattle.xd_doc.proofs.StoredLemmas.{Keeps-same}
use Rattle.xd_goals.specs.Kept.{view_of}
use Rattle.xd_goals.proofs.Facts.{keeps_goals-then}
use Rattle.xd_goals.proofs.FactsOnLemmas.{asked_kept, asked_stands, whole_of}
use Rattle.xd_goals.proofs.inclusion.decide_in.Goals as goal

pub find_or_add-requires-clause-consistent : goal.find_or_add-requires-clause-consistent
find_or_add-requires-clause-consistent c = record { states = rw c.len.ensures.value c.requires.stands.facts.states; index = c.requires.whole.index; links = c.requires.whole.links; nodes = c.requires.whole.nodes }

pub find_or_add-requires-clause-rights : goal.find_or_add-requires-clause-rights
find_or_add-requires-clause-rights c = rw c.len.ensures.value c.requires.rights

pub returns-in_err-asked-clause-stands : goal.returns-in_err-asked-clause-stands
returns-in_err-asked-clause-stands c = asked_stands c.args.auto.now c.args.store.now c.args.goals.now c.find_or_add.new.goals c.find_or_add.ensures.grows (rw c.len.ensures.value at c.find_or_add.ensures.consistent) c.requires.stands

pub returns-in_err-asked-clause-whole : goal.returns-in_err-asked-clause-whole
returns-in_err-asked-clause-whole c = whole_of c.len.result c.find_or_add.new.goals c.find_or_add.ensures.consistent

pub returns-in_err-asked-clause-goals : goal.returns-in_err-asked-clause-goals
returns-in_err-asked-clause-goals c = asked_kept c.args.auto.now c.args.store.now c.args.goals.now c.find_or_add.new.goals c.find_or_add.ensures.grows (rw c.len.ensures.value at c.find_or_add.ensures.consistent) c.requires.stands

pub returns-in_err-asked-clause-keeps : goal.returns-in_err-asked-clause-keeps
returns-in_err-asked-clause-keeps c = Keeps-same c.args.store.now

pub settle-requires : goal.settle-requires
settle-requires c = record {
  can = record {
    whole = whole_of c.len.result c.find_or_add.new.goals c.find_or_add.ensures.consistent;
    stands = asked_stands c.args.auto.now c.args.store.now c.args.goals.now c.find_or_add.new.goals c.find_or_add.ensures.grows (rw c.len.ensures.value at c.find_or_add.ensures.consistent) c.requires.stands;
    right = c.new-answers.ensures.right c.args.auto.now c.args.store.now;
  };
  asked = c.in_ok-asked.ensures.there;
}

pub returns : goal.returns
returns c = record {
  whole = c.settle.ensures.progresses.whole;
  verdict = c.settle.ensures.verdict c.args.left c.args.rights.now c.in_ok-asked.ensures.found;
  stands = c.settle.ensures.progresses.stands;
  goals = keeps_goals-then (view_of c.args.goals.now) (view_of c.find_or_add.new.goals) (view_of c.settle.new.goals)
      (asked_kept c.args.auto.now c.args.store.now c.args.goals.now c.find_or_add.new.goals c.find_or_add.ensures.grows (rw c.len.ensures.value at c.find_or_add.ensures.consistent) c.requires.stands) c.settle.ensures.progresses.kept;
  keeps = c.settle.ensures.progresses.keeps;
}
