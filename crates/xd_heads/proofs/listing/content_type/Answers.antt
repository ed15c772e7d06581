use Rattle.std.proofs.Common.{◌≤◌, List, Option, arith, sym, subst}
use Rattle.xd_syntax.specs.Tree.{Tree, seq_of}
use Rattle.xd_syntax.specs.SoundTables.{IsTypeAt}
use Rattle.xd_syntax.specs.Shallow.{nesting_limit}
use Rattle.xd_syntax.specs.TypeDepth.{depth}
use Rattle.xd_syntax.specs.declared.types.TypeId.{TypeId}
use Rattle.xd_continuations.specs.Continuation.{IsContinuation}
use Rattle.xd_heads.specs.HeadList.{content_at}
use Rattle.xd_heads.proofs.HeadLists.{no_rest}
use Rattle.xd_heads.proofs.listing.content_type.Goals as goal

pub rest_type-requires-clause-pieces : goal.rest_type-requires-clause-pieces
rest_type-requires-clause-pieces c = subst IsContinuation (sym (no_rest c.args.sound.now.types c.args.cells.now)) tt

pub rest_type-requires-clause-shallow : goal.rest_type-requires-clause-shallow
rest_type-requires-clause-shallow c = λ s. subst (λ (K : List Tree). depth (seq_of K) ≤ nesting_limit) (sym (no_rest c.args.sound.now.types c.args.cells.now)) (omega arith)

pub returns-in_ok-rest-in-None-clause-ok : goal.returns-in_ok-rest-in-None-clause-ok
returns-in_ok-rest-in-None-clause-ok c =
    let new = c.rest_type.new.sound.types in
    subst (λ (o : Option TypeId). IsTypeAt new (content_at c.args.sound.now.types o) c.in_ok-rest-in-None.rest) (sym c.in-None.is)
    (subst (λ (K : List Tree). IsTypeAt new (seq_of K) c.in_ok-rest-in-None.rest) (no_rest c.args.sound.now.types c.args.cells.now) c.in_ok-rest-in-None.ensures.ok)
