use Rattle.std.proofs.Common.{◌≡◌, Global, Vec, ◌++◌, List, [], length, map, ap, sym, ◌∙◌}
use Rattle.xd_base.specs.declared.Place.{Place}
use Rattle.xd_syntax.specs.Kept.{ProgramTable, program_tree}
use Rattle.xd_syntax.specs.Matches.{first_spots, variable_spots}
use Rattle.xd_syntax.specs.Placed.{PlacedTree}
use Rattle.xd_syntax.specs.Patterns.{pattern_tree}
use Rattle.xd_syntax.specs.PlacedTable.{placed_at}
use Rattle.xd_syntax.specs.Program.{ProgramTree, names_of}
use Rattle.xd_syntax.specs.Table.{Row}
use Rattle.xd_bind.specs.declared.tracks.Given.{Given}
use Rattle.xd_clauses.specs.Clauses.{Accepted, AreGivensOf}
use Rattle.xd_check_steps.proofs.Numbered.{some_numbered}
use Rattle.xd_variables.specs.Binders.{place_of_spot}
use Rattle.xd_variables.specs.Bound.{reading_of}
use Rattle.xd_variables.specs.Read.{placed_givens}
use Rattle.xd_variables.specs.declared.variables.BoundVariable.{BoundVariable}
use Rattle.xd_variables.proofs.BinderLemmas.{first_words}
use Rattle.xd_variables.proofs.ReadingLemmas.{as_many, clause_read, placed}
use Rattle.xd_variables.proofs.reader.Reader.read_clause.Goals as goal

pub push_variables-requires : goal.push_variables-requires
push_variables-requires c =
    let p : ProgramTable = c.args.self.now.sound in
    let P : ProgramTree = program_tree p in
    let Q : PlacedTree = placed_at p.patterns c.args.id.at in
    let C = Accepted c.args.auto.now c.args.coming in
    let gs : List Given = c.in_ok-read.read.givens.items in
    let is = placed (names_of P) p.patterns c.args.id c.args.pattern.patterns.now c.args.pattern.number c.requires.pattern in
    let rows : c.patterns.result.now ≡ p.patterns = c.patterns.ensures.patterns ∙ ap (λ (q : ProgramTable). q.patterns) c.program.ensures.program in
    let places : c.in_ok-places.places.items ≡ map place_of_spot (first_spots (variable_spots Q)) = c.in_ok-places.ensures
    ∙ ap (λ (rs : List Row). map place_of_spot (first_spots (variable_spots (placed_at rs c.args.id.at)))) rows in
    let given : AreGivensOf (reading_of c.args.self.now.ways (names_of P) C [] Q) Q c.givens.new.auto gs = c.in_ok-read.ensures.givens (names_of P) Q is in
    ap (λ (qs : List Place). length qs) (c.deref.ensures.value ∙ places) ∙ as_many place_of_spot (first_spots (variable_spots Q)) gs (given.variables ∙ sym (first_words Q))
    ∙ sym (ap (λ (hs : List Given). length hs) c.deref-2.ensures.value)

pub returns-clause-variables : goal.returns-clause-variables
returns-clause-variables c S e earlier comes =
    let p : ProgramTable = c.args.self.now.sound in
    let P : ProgramTree = program_tree p in
    let Q : PlacedTree = placed_at p.patterns c.args.id.at in
    let C = Accepted c.args.auto.now c.args.coming in
    let gs : List Given = c.in_ok-read.read.givens.items in
    let is = placed (names_of P) p.patterns c.args.id c.args.pattern.patterns.now c.args.pattern.number c.requires.pattern in
    let qs : List Place = c.in_ok-places.places.items in
    let old : List BoundVariable = c.args.found.now.variables.items in
    let rows : c.patterns.result.now ≡ p.patterns = c.patterns.ensures.patterns ∙ ap (λ (q : ProgramTable). q.patterns) c.program.ensures.program in
    let places : qs ≡ map place_of_spot (first_spots (variable_spots Q)) = c.in_ok-places.ensures
    ∙ ap (λ (rs : List Row). map place_of_spot (first_spots (variable_spots (placed_at rs c.args.id.at)))) rows in
    let grown : c.push_variables.new.variables.items ≡ old ++ placed_givens qs gs = c.in_ok-push_variables.ensures
    ∙ ap (λ (v : Vec BoundVariable Global). v.items ++ placed_givens c.deref.result.now c.deref-2.result.now) c.in_ok-read.ensures.variables
    ∙ ap (λ (ps : List Place). old ++ placed_givens ps c.deref-2.result.now) c.deref.ensures.value ∙ ap (λ (hs : List Given). old ++ placed_givens qs hs) c.deref-2.ensures.value in
    clause_read c.args.self.now.ways P S e earlier C Q comes c.givens.new.auto qs gs old c.push_variables.new.variables.items c.in_ok-read.read.is_live places (c.in_ok-read.ensures.givens (names_of P) Q is) grown
    (c.in_ok-read.ensures.live (names_of P) Q is)

pub givens-requires-clause-pattern : goal.givens-requires-clause-pattern
givens-requires-clause-pattern c =
    let p : ProgramTable = c.args.self.now.sound in
    some_numbered (names_of (program_tree p)) (pattern_tree p.patterns c.args.id) c.args.pattern.patterns.now c.args.pattern.number c.requires.pattern
