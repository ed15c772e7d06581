use Rattle.std.proofs.Common.{eqb-true, false-eqb, sym}
use Rattle.xd_lex.proofs.Pieces.{plain_token, escape_within}
use Rattle.xd_lex.proofs.escape.is_plain.Goals as goal

pub returns-clause-same : goal.returns-clause-same
returns-clause-same c = λ e. plain_token _ _ c.requires.0 c.plain_len.result c.as_bytes.ensures.value c.requires.2 c.requires.1 (eqb-true _ _ e) c.plain_len.ensures.before

pub returns-clause-escape : goal.returns-clause-escape
returns-clause-escape c = λ e. escape_within _ _ c.plain_len.result c.as_bytes.ensures.value c.plain_len.ensures.within (false-eqb _ _ (sym e)) c.plain_len.ensures.found
