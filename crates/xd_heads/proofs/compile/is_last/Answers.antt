use Rattle.std.proofs.Common.{◌≡◌, ◌<◌, ◌&&◌, ◌∷◌, ℕ, List, length, map, arith, ap, sym, ◌∙◌}
use Rattle.xd_meaning.specs.CanBeEmpty.{can_be_empty}
use Rattle.xd_syntax.specs.Tree.{Definitions, seq_of}
use Rattle.xd_syntax.specs.Table.{Row}
use Rattle.xd_continuations.specs.Chains.{list_at}
use Rattle.xd_sound.specs.TypeNames.{meanings}
use Rattle.xd_moves.specs.Pieces.{piece_tree}
use Rattle.xd_moves.specs.Found.{continuation}
use Rattle.xd_moves.specs.Cells.{Cell}
use Rattle.xd_continuations.proofs.ChainLemmas.{list_none}
use Rattle.xd_continuations.proofs.FiniteLemmas.{all_among}
use Rattle.xd_heads.proofs.StateLemmas.{empty_first, none_empty}
use Rattle.xd_heads.proofs.compile.is_last.Goals as goal

-- whether a continuation can be empty, by its first piece and the others
first_and_rest : (E : Definitions) (types : List Row) (cells : List Cell) (at : ℕ) (d : Cell) → list_at cells at ≡ d.item ∷ list_at cells d.behind →
    can_be_empty E (seq_of (continuation types cells at)) ≡ (can_be_empty E (piece_tree types d.item) && can_be_empty E (seq_of (continuation types cells d.behind)))
first_and_rest E types cells at d l =
    ap (λ K. can_be_empty E (seq_of (map (piece_tree types) K))) l ∙ empty_first E (piece_tree types d.item) (continuation types cells d.behind)

pub is_empty-requires-clause-piece : goal.is_empty-requires-clause-piece
is_empty-requires-clause-piece c =
    all_among (λ (d : Cell). d.item.node < length c.args.sources.now.types.now) c.args.cells.now c.requires.nodes c.link-cell.result c.link-cell.ensures.stands

pub returns-then-not-is_empty : goal.returns-then-not-is_empty
returns-then-not-is_empty c =
    let E = meanings c.args.sources.now.types.now c.args.sources.now.defs.now in
    let rest = can_be_empty E (seq_of (continuation c.args.sources.now.types.now c.args.cells.now c.link-cell.result.behind)) in
    ap (λ b. b && rest) c.if-not-is_empty.ensures
    ∙ sym (first_and_rest E c.args.sources.now.types.now c.args.cells.now c.loop-at.at c.link-cell.result c.link-cell.ensures.list)
    ∙ c.loop-at.invariant.same

pub loop-at-preserved : goal.loop-at-preserved
loop-at-preserved c =
    let E = meanings c.args.sources.now.types.now c.args.sources.now.defs.now in
    let rest = can_be_empty E (seq_of (continuation c.args.sources.now.types.now c.args.cells.now c.link-cell.result.behind)) in
    let w = c.loop-at.invariant.within in
    let o = c.link-cell.ensures.older in
    record {
      within = omega arith;
      same =
          ap (λ b. b && rest) c.if-not-is_empty.ensures
          ∙ sym (first_and_rest E c.args.sources.now.types.now c.args.cells.now c.loop-at.at c.link-cell.result c.link-cell.ensures.list)
          ∙ c.loop-at.invariant.same;
    }

pub returns : goal.returns
returns c =
    let E = meanings c.args.sources.now.types.now c.args.sources.now.defs.now in
    let t = c.loop-at-test.false in
    let z : c.loop-at.at ≡ 0 = omega arith in
    sym (none_empty E)
    ∙ ap (λ K. can_be_empty E (seq_of (map (piece_tree c.args.sources.now.types.now) K))) (sym (list_none c.args.cells.now))
    ∙ ap (λ n. can_be_empty E (seq_of (continuation c.args.sources.now.types.now c.args.cells.now n))) (sym z)
    ∙ c.loop-at.invariant.same
