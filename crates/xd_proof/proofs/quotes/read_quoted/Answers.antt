use Rattle.std.proofs.Common.{subst, sym}
use Rattle.std.specs.Str.{IsUtf8}
use Rattle.std.proofs.lemmas.Str.{IsUtf8-from_is_utf8}
use Rattle.xd_proof.proofs.QuoteLemmas.{none_next, not_text, one_character}
use Rattle.xd_proof.proofs.quotes.read_quoted.Goals as goal

pub loop-character-preserved : goal.loop-character-preserved
loop-character-preserved c = one_character _ _ _ _ _ _ c.loop-character.invariant c.in-Some.ensures c.in_ok-push.ensures.items

pub returns-in_default-behind_quote : goal.returns-in_default-behind_quote
returns-in_default-behind_quote c = none_next _ c.loop-character.made.items _ c.loop-character.invariant (c.in_default.ensures, c.in_default-behind_quote.ensures)

pub returns-in_default-from_utf8 : goal.returns-in_default-from_utf8
returns-in_default-from_utf8 c =
    let never = (c.in_default-from_utf8.ensures.cases).0 in
    not_text _ c.loop-character.made.items _ c.in-Some-behind_quote.rest.now c.loop-character.invariant c.in-Some-behind_quote.ensures
    (λ u. never (subst IsUtf8 (sym c.deref.ensures.value) (IsUtf8-from_is_utf8 c.loop-character.made.items u)))
