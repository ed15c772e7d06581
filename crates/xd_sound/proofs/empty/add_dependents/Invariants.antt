use Rattle.std.proofs.Common.{◌≡◌, ℕ, ◌<◌, length}
use Rattle.xd_doc.specs.Members.{IsOneOf}
use Rattle.xd_sound.specs.Graph.{HasEdge}
use Rattle.xd_sound.specs.Emptiness.{IsRead, depends_on}
use Rattle.xd_syntax.specs.Nodes.{form_at}
use Rattle.xd_sound.proofs.empty.add_dependents.Given as goal

abbrev pub invariant-loop-at : goal.invariant-loop-at
invariant-loop-at l = record {
  count : length l.graph ≡ length l.types;
  all : (i j : ℕ) → i < l.at → IsOneOf j (depends_on l.defs (form_at l.types i)) → HasEdge l.graph j i;
  read : (i : ℕ) → i < l.at → IsRead l.types i;
}
