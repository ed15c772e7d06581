-- Where a reading of a text begins.
use Rattle.std.specs.Prelude.{◌≡◌, ℕ, List, [], ◌∷◌}
use Rattle.xd_grammar.specs.declared.grammar.Nonterminal.{Nonterminal}
use Rattle.xd_grammar.specs.declared.grammar.Symbol.{Symbol}
use Rattle.xd_grammar.specs.declared.grammar.Symbol.TheVariants.{Part}
use Rattle.xd_grammar.specs.declared.machine.Reading.{Reading}
use Rattle.xd_grammar.specs.declared.machine.Reading.TheVariants.{Plain}

pub record IsStart (part : Nonterminal) (reading : Reading) (depth : ℕ) (stack : List Symbol) : Type 0 where
  pub plain : reading ≡ Plain
  pub flat : depth ≡ 0
  pub one : stack ≡ Part part ∷ []
