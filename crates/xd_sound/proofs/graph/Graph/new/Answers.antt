use Rattle.std.proofs.Common.{ℕ, Vec, Global, map}
use Rattle.xd_sound.proofs.Graphs.{no_edges}
use Rattle.xd_sound.proofs.graph.Graph.new.Goals as goal

pub invariant_of-result : goal.invariant_of-result
invariant_of-result c = λ v w e. absurd (no_edges (map (λ (t : Vec ℕ Global). t.items) c.loop.targets.items) c.loop.invariant.bare v w e)
