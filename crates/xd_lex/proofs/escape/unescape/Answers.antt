use Rattle.std.proofs.Common.{◌≡◌, ◌≢◌, ◌<◌, ℕ, List, get_or, subst, IfOk, ◌∙◌}
use Rattle.xd_lex.proofs.Pieces.{behind_quote, inside, no_escape}
use Rattle.xd_lex.proofs.escape.unescape.Goals as goal

pub range-pieces-requires-clause-start_boundary : goal.range-pieces-requires-clause-start_boundary
range-pieces-requires-clause-start_boundary c = λ _. behind_quote _ c.requires.0 c.requires.2 c.utf8.text

pub returns-then-plain_len-pieces : goal.returns-then-plain_len-pieces
returns-then-plain_len-pieces c =
    let before = subst (λ (xs : List ℕ). (k : ℕ) → k < c.plain_len.result → get_or xs k 0 ≢ 92) c.as_bytes.ensures.value c.plain_len.ensures.before in
    let same = no_escape _ c.requires.0 _ c.requires.2 c.requires.1 (c.range-pieces.ensures.value ∙ inside _ c.requires.0 c.requires.2) c.plain_len.result c.if-plain_len-pieces.true before in
    subst (λ (xs : List ℕ). IfOk c.new.result (λ made. made ≡ xs)) same c.new.ensures
