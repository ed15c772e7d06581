use Rattle.std.proofs.Common.{◌≡◌, ℕ, List, arith, get_or, subst}
use Rattle.xd_lex.proofs.Pieces.{plain_bytes, finished, went_on, escape_there}
use Rattle.xd_lex.proofs.escape.characters.Goals as goal

pub returns-then-at-rest : goal.returns-then-at-rest
returns-then-at-rest c =
    rw c.in_ok-push_str.ensures.bytes
    (finished _ c.escapes.rest.now _ c.plain_len-at.result (plain_bytes _ _ _ c.as_bytes.ensures.value c.escapes.invariant.pieces c.plain_len-at.ensures.within c.plain_len-at.ensures.before) c.if-at-rest.true c.escapes.invariant.made)

pub first_escape-requires-clause-pieces : goal.first_escape-requires-clause-pieces
first_escape-requires-clause-pieces c =
    rw c.split_at.ensures.back (plain_bytes _ _ _ c.as_bytes.ensures.value c.escapes.invariant.pieces c.plain_len-at.ensures.within c.plain_len-at.ensures.before).behind

pub first_escape-requires-clause-escape : goal.first_escape-requires-clause-escape
first_escape-requires-clause-escape c =
    escape_there c.escapes.rest.now _ c.plain_len-at.result c.split_at.ensures.back (subst (λ (xs : List ℕ). get_or xs c.plain_len-at.result 0 ≡ 92) c.as_bytes.ensures.value (c.plain_len-at.ensures.found (omega (arith, c.as_bytes.ensures.len, c.if-at-rest.false))))

pub escapes-preserved : goal.escapes-preserved
escapes-preserved c =
    record {
      utf8 = c.first_escape.ensures.utf8;
      pieces = c.first_escape.ensures.behind;
      made = rw (c.in_ok-push_str-3.ensures.bytes, c.in_ok-push_str-2.ensures.bytes)
          (went_on _ c.escapes.rest.now _ _ _ c.first_escape.result.0.now c.first_escape.result.1.now c.plain_len-at.result (plain_bytes _ _ _ c.as_bytes.ensures.value c.escapes.invariant.pieces c.plain_len-at.ensures.within c.plain_len-at.ensures.before) c.split_at.ensures.front c.split_at.ensures.back c.first_escape.ensures.same c.escapes.invariant.made);
    }
