use Rattle.std.proofs.Common.{◌≡◌, ℕ, List, arith, sym, subst}
use Rattle.std.proofs.lemmas.Str.{IsCharBoundary-after_ascii}
use Rattle.xd_lex.proofs.Pieces.{IsEscape, escape_front, escape_ascii, escape_same}
use Rattle.xd_lex.proofs.escape.first_escape.Goals as goal

at_front : (pieces : List ℕ) (bytes : List ℕ) → IsEscape pieces → bytes ≡ pieces → IsEscape bytes
at_front pieces bytes e is = subst IsEscape (sym is) e

pub bounds-bytes-1 : goal.bounds-bytes-1
bounds-bytes-1 c = (at_front _ _ (escape_front _ c.requires.pieces c.requires.some c.requires.escape) c.as_bytes-bytes.ensures.value).two

pub escape_meaning-meaning-requires : goal.escape_meaning-meaning-requires
escape_meaning-meaning-requires c = (at_front _ _ (escape_front _ c.requires.pieces c.requires.some c.requires.escape) c.as_bytes-bytes.ensures.value).escape

pub range_from-behind-requires : goal.range_from-behind-requires
range_from-behind-requires c =
    let e : IsEscape c.args.pieces.now = escape_front _ c.requires.pieces c.requires.some c.requires.escape in
    λ _. IsCharBoundary-after_ascii c.args.pieces.now 1 c.utf8.pieces e.two (escape_ascii _ e)

pub returns : goal.returns
returns c =
    let e : IsEscape c.args.pieces.now = escape_front _ c.requires.pieces c.requires.some c.requires.escape in
    record {
      same = escape_same _ _ _ _ e c.as_bytes-bytes.ensures.value c.escape_meaning-meaning.ensures c.range_from-behind.ensures.value;
      behind = rw c.range_from-behind.ensures.value e.behind;
      utf8 = c.range_from-behind.utf8;
      shorter = omega (arith, e.two, c.range_from-behind.ensures.len);
    }
