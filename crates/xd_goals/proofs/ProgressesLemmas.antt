-- Work on goals, one step after the other.
use Rattle.std.proofs.Common.{ℕ, ◌≡◌, List, length, arith, ◌∙◌}
use Rattle.xd_doc.specs.Document.{Document}
use Rattle.xd_doc.specs.StoreNodes.{Keeps}
use Rattle.xd_doc.proofs.StoredLemmas.{Keeps-same, Keeps-trans}
use Rattle.xd_auto.specs.declared.auto.State.{State}
use Rattle.xd_auto.specs.Automaton.{Automaton}
use Rattle.xd_auto.specs.Kept.{Answers}
use Rattle.xd_rules.specs.Rules.{Claim}
use Rattle.xd_goals.specs.Rows.{claim_of, row_at}
use Rattle.xd_goals.specs.Kept.{IsWhole, view_of}
use Rattle.xd_goals.specs.Facts.{FactsOn}
use Rattle.xd_goals.specs.Cases.{IsMending}
use Rattle.xd_goals.specs.Progress.{CanBegin, CanWork, HasGrown, Progresses}
use Rattle.xd_goals.specs.Reached.{IsWaitingIn}
use Rattle.xd_goals.specs.declared.goals.Goals.{Goals}
use Rattle.xd_goals.specs.declared.table.GoalId.{GoalId}
use Rattle.xd_goals.proofs.Facts.{keeps_goals-grows, keeps_goals-then}
use Rattle.xd_goals.proofs.FactsOnLemmas.{IsStep, keeps_goals-same, none_added, stands_grown, whole_of, whole_same}
use Rattle.xd_goals.proofs.PotentialLemmas.{made-grows, made-then}
use Rattle.xd_goals.proofs.ChoiceStandsLemmas.{SameGoals}
use Rattle.xd_goals.proofs.Trees.{standing-grows}

pub progresses-same : {a : Automaton} {ds : List Document} {g : Goals} → IsWhole g → FactsOn a ds (view_of g) → Progresses a ds ds g g
progresses-same {a} {ds} {g} whole stands = record { whole = whole; stands = stands; kept = keeps_goals-same (view_of g); keeps = Keeps-same ds; made = none_added g.rows.items }

pub progresses-then : {a : Automaton} {ds es fs : List Document} {s t u : Goals} → Progresses a ds es s t → Progresses a es fs t u → Progresses a ds fs s u
progresses-then {a} {ds} {es} {fs} {s} {t} {u} h k = record {
  whole = k.whole;
  stands = k.stands;
  kept = keeps_goals-then (view_of s) (view_of t) (view_of u) h.kept k.kept;
  keeps = Keeps-trans ds es fs h.keeps k.keeps;
  made = made-then (length s.rows.items) (view_of t) (view_of u) k.kept h.made k.made;
}

-- trees grew
pub progresses-grown : {a : Automaton} {ds : List Document} {s t : Goals} {xs : Answers} → FactsOn a ds (view_of s) → HasGrown (length a) a ds s t xs → Progresses a ds ds s t
progresses-grown {a} {ds} {s} {t} stands h = record {
  whole = whole_of (length a) t h.consistent;
  stands = stands_grown a ds s t h.grows h.consistent stands;
  kept = keeps_goals-grows (view_of s) (view_of t) h.grows;
  keeps = Keeps-same ds;
  made = made-grows (view_of s) (view_of t) h.grows;
}

-- a goal was settled, in a table whose goals are the same otherwise
pub progresses-settled : {a : Automaton} {ds es : List Document} {s t u : Goals} → IsWhole t → IsStep a es (view_of s) (view_of u) → Keeps ds es → SameGoals t.rows.items u.rows.items
    → u.found ≡ t.found → u.nodes.items ≡ t.nodes.items → u.links.items ≡ t.links.items → Progresses a ds es s u
progresses-settled {a} {ds} {es} {s} {t} {u} whole step keeps same found nodes links =
    let w = whole_same t.rows.items u.rows.items t.nodes.items t.links.items t.found same whole.index whole.links whole.nodes in
    record { whole = record { index = rw found w.0; links = rw links w.1; nodes = rw nodes w.2 }; stands = step.stands; kept = step.kept; keeps = keeps; made = step.made }

-- cases of a goal were repaired
pub progresses-mending : {a : Automaton} {ds es : List Document} {s t : Goals} {xs : Answers} {goal : ℕ} → CanWork a es t xs → IsMending goal (view_of s) (view_of t) → Keeps ds es → Progresses a ds es s t
progresses-mending can m keeps = record { whole = can.whole; stands = can.stands; kept = m.kept; keeps = keeps; made = m.made }

-- what can be worked on can be grown
pub can_begin : {a : Automaton} {ds : List Document} {g : Goals} {xs : Answers} (c : Claim State) (goal : GoalId) → CanWork a ds g xs → IsWaitingIn g.rows.items goal → claim_of (row_at g.rows.items goal.number) ≡ c → CanBegin a ds c goal.number g xs
can_begin {a} {ds} {g} c goal can waits claim =
    let row = can.stands.facts.states.each goal.number waits.there in
    record {
      consistent = record { states = can.stands.facts.states; index = can.whole.index; links = can.whole.links; nodes = can.whole.nodes };
      owner = waits.there;
      left = rw (← claim) row.left;
      rights = rw (← claim) row.rights;
      separated = can.stands.refuted;
      right = can.right;
    }

pub waits_grown : {a : Automaton} {ds : List Document} {s t : Goals} {xs : Answers} {goal : GoalId} → HasGrown (length a) a ds s t xs → IsWaitingIn s.rows.items goal → IsWaitingIn t.rows.items goal
waits_grown {a} {ds} {s} {t} {xs} {goal} h w = record { there = omega (arith, h.grows.longer, w.there); waits = standing-grows (view_of s) (view_of t) h.grows goal.number ∙ w.waits }
