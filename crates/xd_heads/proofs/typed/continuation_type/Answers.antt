use Rattle.std.proofs.Common.{◌≡◌, ◌≤◌, length, List, map, arith, ap, sym, subst}
use Rattle.std.proofs.lemmas.List.{length-map}
use Rattle.xd_syntax.specs.Tree.{Tree, seq_of}
use Rattle.xd_syntax.specs.TypeDepth.{depth}
use Rattle.xd_syntax.specs.Table.{tree_at}
use Rattle.xd_syntax.specs.Types.{type_numbers}
use Rattle.xd_syntax.specs.Shallow.{nesting_limit}
use Rattle.xd_syntax.specs.declared.types.TypeId.{TypeId}
use Rattle.xd_heads.proofs.GrowsTypesLemmas.{grows_one}
use Rattle.xd_heads.proofs.TypeNumbersLemmas.{seq_parts_of}
use Rattle.xd_moves.specs.Found.{continuation}
use Rattle.xd_heads.proofs.typed.continuation_type.Goals as goal

pub add_type-requires-in_default : goal.add_type-requires-in_default
add_type-requires-in_default c =
    let K = continuation c.args.sound.now.types c.args.cells.now c.args.number in
    let l = c.in_default.len_at_least in
    let e = ap length c.as_slice.ensures.value in
    let n : length (type_numbers c.in_ok-ids.ids.items) ≡ length c.in_ok-ids.ids.items = length-map c.in_ok-ids.ids.items (λ (id : TypeId). id.at) in
    (omega arith, seq_parts_of c.piece_types.new.sound.types (type_numbers c.in_ok-ids.ids.items) c.in_ok-ids.ensures.belong K c.in_ok-ids.ensures.trees c.requires.pieces)

pub returns-in_default-clause-grows : goal.returns-in_default-clause-grows
returns-in_default-clause-grows c =
    let q = c.piece_types.new.sound in
    let T : Tree = seq_of (map (tree_at q.types) (type_numbers c.in_ok-ids.ids.items)) in
    grows_one c.args.sound.now q c.add_type-in_default.new.self T c.piece_types.ensures.grows c.add_type-in_default.ensures.adds c.add_type-in_default.ensures.same c.add_type-in_default.ensures.shallow
    (λ h. subst (λ (K : List Tree). depth (seq_of K) ≤ nesting_limit) (sym c.in_ok-ids.ensures.trees) (c.requires.shallow h))

pub returns-in_err-ids-clause-grows : goal.returns-in_err-ids-clause-grows
returns-in_err-ids-clause-grows c = c.piece_types.ensures.grows

pub returns-in-len1-clause-grows : goal.returns-in-len1-clause-grows
returns-in-len1-clause-grows c = c.piece_types.ensures.grows
