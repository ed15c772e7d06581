use Rattle.std.proofs.Common.{◌≡◌, ℕ, List, map, drop}
use Rattle.xd_syntax.specs.Words.{has_word}
use Rattle.xd_syntax.specs.declared.types.TypeDef.{TypeDef}
use Rattle.xd_names.proofs.names.type_names.Given as goal

abbrev pub invariant-loop-number : goal.invariant-loop-number
invariant-loop-number l = (w : List ℕ) → has_word l.types w ≡ has_word (map (λ (t : TypeDef). t.name) (drop l.number l.type_defs)) w
