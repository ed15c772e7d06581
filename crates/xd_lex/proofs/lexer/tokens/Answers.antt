use Rattle.std.proofs.Common.{◌≡◌, ◌∷◌, ◌++◌, [], List, map, ap, sym, ◌∙◌, append_assoc, rules}
use Rattle.std.proofs.lemmas.List.{map_push}
use Rattle.std.proofs.lemmas.List.Elements.{All-push}
use Rattle.xd_lex.specs.declared.lexer.Token.{Token}
use Rattle.xd_lex.specs.Spellings.{IsSpelling}
use Rattle.xd_lex.specs.Tokens.{Lexeme}
use Rattle.xd_lex.specs.LexedTokens.{lexeme_of}
use Rattle.xd_lex.proofs.lexer.tokens.Goals as goal

told : (ts : List Token) (t : Token) (left old all : List Lexeme) → map lexeme_of ts ++ old ≡ all → old ≡ lexeme_of t ∷ left → map lexeme_of (ts ++ t ∷ []) ++ left ≡ all
told ts t left old all h e =
    ap (λ (v : List Lexeme). v ++ left) (map_push lexeme_of ts t) ∙ append_assoc (map lexeme_of ts) (lexeme_of t ∷ []) left ∙ ap (λ (v : List Lexeme). map lexeme_of ts ++ v) (sym e) ∙ h

pub tokens-preserved : goal.tokens-preserved
tokens-preserved c = record {
  told = rw c.in_ok-push.ensures.items (told _ _ _ _ _ c.tokens.invariant.told c.next_token-token.ensures.token);
  spelled = rw c.in_ok-push.ensures.items (All-push (λ (t : Token). IsSpelling t.kind t.text.now) _ _ c.tokens.invariant.spelled c.next_token-token.ensures.spelled);
  more = search rules;
}
