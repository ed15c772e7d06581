use Rattle.std.proofs.Common.{◌≡◌, ◌∷◌, ◌++◌, [], true, false, length}
use denote.Text.{Utf8}
use denote.Shadow.{shadow}
use Rattle.std.specs.String.{string_bytes}
use Rattle.xd_lex.specs.Spellings.{are_pieces}
use Rattle.xd_lex.specs.Spelled.{characters}
use Rattle.xd_lex.proofs.escape.characters.Given as goal

abbrev pub invariant-escapes : goal.invariant-escapes
invariant-escapes l = record {
  utf8 : shadow (Utf8 l.rest);
  pieces : are_pieces false l.rest ≡ true;
  made : string_bytes l.made ++ characters false (l.rest ++ 34 ∷ []) ≡ characters false (l.pieces ++ 34 ∷ []);
}

abbrev pub decreases-escapes : goal.decreases-escapes
decreases-escapes l = length l.rest
