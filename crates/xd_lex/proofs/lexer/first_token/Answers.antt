use Rattle.std.proofs.Common.{◌≡◌, ◌-◌, ℕ, List, length, take, refl, ap, ◌∙◌}
use Rattle.xd_lex.specs.Cut.{IsFirstToken}
use Rattle.xd_lex.specs.Tokens.{past}
use Rattle.xd_lex.specs.declared.Kind.{Kind}
use Rattle.xd_lex.proofs.Skipped.{take_gap, token_fits, token_placed, rest_placed}
use Rattle.xd_lex.proofs.lexer.first_token.Goals as goal
use Rattle.xd_lex.proofs.lexer.first_token.Goals.{After-as_bytes-2}

gap_of : (bytes text token rest : List ℕ) (kind : Kind) (f : IsFirstToken text kind token rest) → bytes ≡ text → take (length text - length rest - length token) bytes ≡ f.gap
gap_of bytes text token rest kind f e = rw e (take_gap text f.gap token rest _ f.parts refl)

pub past-behind-requires : goal.past-behind-requires
past-behind-requires c =
    let fits = token_fits _ _ _ _ _ c.args.place c.past-place.result c.cut_token-cut.ensures.first (gap_of _ _ _ _ _ c.cut_token-cut.ensures.first c.as_bytes.ensures.value) c.past-place.ensures c.requires in
    rw c.as_bytes-2.ensures.value (record { line = fits.0; column = fits.1 })

pub returns : goal.returns
returns c =
    let first = c.cut_token-cut.ensures.first in
    let gap = gap_of _ _ _ _ _ first c.as_bytes.ensures.value in
    let behind = c.past-behind.ensures ∙ ap (past c.past-place.result) c.as_bytes-2.ensures.value in
    record {
      first = token_placed _ _ _ _ _ c.args.place c.past-place.result c.past-behind.result first gap c.past-place.ensures behind;
      spelled = c.cut_token-cut.ensures.spelled;
      placed = rest_placed _ _ _ _ _ c.args.place c.past-place.result c.past-behind.result first gap c.past-place.ensures behind c.cut_token-cut.ensures.utf8 c.requires;
    }
