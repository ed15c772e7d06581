-- Trees that grow one after the other.
use Rattle.std.proofs.Common.{ℕ, List, length, arith}
use Rattle.xd_doc.specs.Document.{Document}
use Rattle.xd_auto.specs.declared.auto.State.{State}
use Rattle.xd_auto.specs.Automaton.{Automaton}
use Rattle.xd_auto.specs.Kept.{Answers, AreRight}
use Rattle.xd_rules.specs.Rules.{Claim}
use Rattle.xd_state_heads.specs.declared.heads.Side.{Side}
use Rattle.xd_goals.specs.Kept.{Grows, IsConsistent, view_of}
use Rattle.xd_goals.specs.Trees.{IsPathBelow}
use Rattle.xd_goals.specs.Progress.{CanBegin, CanGrow, HasGrown}
use Rattle.xd_goals.specs.declared.goals.Goals.{Goals}
use Rattle.xd_goals.specs.declared.grow.Task.{Task}
use Rattle.xd_goals.proofs.GrowsByLemmas.{Grows-same, Grows-then}
use Rattle.xd_goals.proofs.Facts.{separated-grows}

pub grown-same : {n : ℕ} {a : Automaton} {ds : List Document} {g : Goals} {xs : Answers} → IsConsistent n g → AreRight a ds xs → HasGrown n a ds g g xs
grown-same {n} {a} {ds} {g} consistent right = record { consistent = consistent; grows = Grows-same (view_of g); right = right }

pub grown-then : {n : ℕ} {a : Automaton} {ds : List Document} {s t u : Goals} {xs ys : Answers} → HasGrown n a ds s t xs → HasGrown n a ds t u ys → HasGrown n a ds s u ys
grown-then {n} {a} {ds} {s} {t} {u} h k = record { consistent = k.consistent; grows = Grows-then (view_of s) (view_of t) (view_of u) h.grows k.grows; right = k.right }

-- the same by a step that looks at no answers
pub grown-step : {n : ℕ} {a : Automaton} {ds : List Document} {s t u : Goals} {xs : Answers} → HasGrown n a ds s t xs → IsConsistent n u → Grows (view_of t) (view_of u) → HasGrown n a ds s u xs
grown-step {n} {a} {ds} {s} {t} {u} h consistent grows = record { consistent = consistent; grows = Grows-then (view_of s) (view_of t) (view_of u) h.grows grows; right = h.right }

-- after trees grew, another can grow from another path
pub can_grow-then : {a : Automaton} {ds : List Document} {task : Task} {sides : List Side} {contents rests more others : List State} {s t : Goals} {xs ys : Answers}
    → CanGrow a ds task sides contents rests s xs → HasGrown task.states a ds s t ys → IsPathBelow task.states task sides more others → CanGrow a ds task sides more others t ys
can_grow-then {a} {ds} {task} {sides} {contents} {rests} {more} {others} {s} {t} c h path = record {
  consistent = h.consistent;
  owner = omega (arith, h.grows.longer, c.owner);
  path = path;
  states = c.states;
  separated = separated-grows a ds (view_of s) (view_of t) h.grows c.separated;
  right = h.right;
}

-- and another case of the goal can begin
pub can_begin-then : {a : Automaton} {ds : List Document} {claim : Claim State} {goal : ℕ} {s t : Goals} {xs ys : Answers} → CanBegin a ds claim goal s xs → HasGrown (length a) a ds s t ys → CanBegin a ds claim goal t ys
can_begin-then {a} {ds} {claim} {goal} {s} {t} c h = record {
  consistent = h.consistent;
  owner = omega (arith, h.grows.longer, c.owner);
  left = c.left;
  rights = c.rights;
  separated = separated-grows a ds (view_of s) (view_of t) h.grows c.separated;
  right = h.right;
}
