use Rattle.std.proofs.Common.{ℕ, List, subst}
use Rattle.xd_syntax.specs.Kept.{program_tree}
use Rattle.xd_syntax.specs.PlacedTable.{placed_at}
use Rattle.xd_syntax.specs.ShallowTables.{AddsWithin}
use Rattle.xd_syntax.specs.Shallow.{nesting_limit}
use Rattle.xd_syntax.specs.Table.{Row}
use Rattle.xd_parse_trees.specs.Means.{IsTypeText}
use Rattle.xd_uses.proofs.ComparisonLemmas.{type_read, within_limit}
use Rattle.xd_uses.proofs.types.read_type.Goals as goal

pub returns-clause-read : goal.returns-clause-read
returns-clause-read c =
    type_read (program_tree c.args.sound.now) c.adopt.new.self.types c.parse_type.new.types c.args.text.now c.in_ok-id.id c.in_ok-adopted.adopted c.in_ok-context.field-0
    (subst (λ (bs : List ℕ). IsTypeText bs (placed_at c.parse_type.new.types c.in_ok-id.id.at)) c.as_bytes.ensures.value c.in_ok-id.ensures.type_text) c.in_ok-adopted.ensures.defined c.in_ok-adopted.ensures.found c.in_ok-context.ensures

pub returns-clause-shallow : goal.returns-clause-shallow
returns-clause-shallow c =
    let types = c.parse_type.new.types in
    let within = subst (λ (rs : List Row). AddsWithin nesting_limit rs types) c.new-types.ensures c.in_ok-id.ensures.shallow in
    c.in_ok-adopted.ensures.shallow (within_limit types c.in_ok-id.id within c.in_ok-id.ensures.belongs)
