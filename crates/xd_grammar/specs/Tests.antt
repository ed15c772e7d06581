-- What a token does at a row that lets it come next.
use Rattle.std.specs.Prelude.{Bool, true, false, cond, ◌∷◌, Option, Some, None}
use Rattle.xd_grammar.specs.declared.grammar.Symbol.TheVariants.{Token, Unless}
use Rattle.xd_grammar.specs.declared.machine.Reading.TheVariants.{Plain}
use Rattle.xd_grammar.specs.declared.machine.Step.{Step}
use Rattle.xd_grammar.specs.declared.machine.Step.TheVariants.{Next}
use Rattle.xd_grammar.specs.Grammar.{Row}

-- the row without the tests at its front
abbrev pub without_tests : Row → Row
without_tests (Unless j ∷ row) = without_tests row
without_tests row = row

abbrev pub begins_with_token : Row → Bool
begins_with_token (Token j ∷ row) = true
begins_with_token row = false

-- what is left of it where its token is taken
abbrev pub behind_token : Row → Row
behind_token (Token j ∷ row) = row
behind_token row = row

abbrev pub front_step : Row → Option Step
front_step row = cond (begins_with_token row) (Some (Next Plain)) None
