use Rattle.std.proofs.Common.{◌≡◌, ◌-◌, ℕ, List, length, Option, Some, None, Err, refl, sym, ap, subst, ◌∙◌, arith, IsUtf8}
use Rattle.std.specs.Prelude.{IfNone}
use Rattle.xd_read.proofs.Runs.{rest_first, rest_next, rest_malformed, token_stands, malformed_spells_nothing}
use Rattle.xd_read.specs.declared.reader.Stop.{Stop}
use Rattle.xd_read.specs.Reading.{IsMalformedAt}
use Rattle.xd_read.proofs.read.read_document.Goals as goal
use Rattle.xd_read.proofs.read.read_document.Goals.{After-drop-source-inside-in-Err-Refused}

pub tokens-init : goal.tokens-init
tokens-init c =
    let e = c.new-reader.ensures in
    record {
      stands = rest_first c.args.bytes.now _ c.args.store.now c.new-reader.result c.in-Ok.ensures.text e.expect e.finished e.elements;
      utf8 = subst (λ t. IsUtf8 t) (sym c.in-Ok.ensures.text) c.in-Ok.ensures.utf8;
    }

pub cut_token-token-requires-text-text : goal.cut_token-token-requires-text-text
cut_token-token-requires-text-text c = λ _. c.tokens.invariant.utf8

place_of : (text bytes rest token : List ℕ) → text ≡ bytes → length text - length rest - length token ≡ length bytes - length rest - length token
place_of text bytes rest token e = rw e refl

pub read-requires-clause-stands : goal.read-requires-clause-stands
read-requires-clause-stands c =
    let text = c.in-Ok.ensures.text in
    token_stands _ c.args.bytes.now _ _ _ _ _ _ _ _ (c.in_ok-source.ensures ∙ text) c.in-Ok.ensures.utf8 (omega arith) c.tokens.invariant.stands c.cut_token-token.ensures.first (place_of _ _ _ _ text)

if_none : {T : Type 0} (o : Option T) (P : Type 0) → o ≡ None → IfNone o P → P
if_none None P e h = h
if_none (Some x) P e h = absurd (cc e)

pub tokens-preserved : goal.tokens-preserved
tokens-preserved c =
    let e = c.in-Ok-None.ensures in
    record {
      stands = rest_next _ _ _ _ _ _ _ _ _ _ c.tokens.invariant.stands c.cut_token-token.ensures.first (if_none _ _ c.in-Ok-None.field-0-is e.more) e.keeps (if_none _ _ c.in-Ok-None.field-0-is e.passes);
      utf8 = c.cut_token-token.ensures.utf8;
    }

malformed : (c : After-drop-source-inside-in-Err-Refused) → IsMalformedAt c.args.bytes.now c.place_at.result
malformed c =
    rest_malformed _ _ _ _ _ _ _ _ _ _ c.in-Ok.ensures.utf8 c.tokens.invariant.stands c.cut_token-token.ensures.first (place_of _ _ _ _ c.in-Ok.ensures.text) c.place_at.ensures (c.in-Err-Refused.ensures.stops (ap (λ (x : Stop). Err x) c.in-Err-Refused.field-0-is))

pub returns-in-Err-Refused-clause-malformed : goal.returns-in-Err-Refused-clause-malformed
returns-in-Err-Refused-clause-malformed c = malformed c

pub returns-in-Err-Refused-clause-nothing : goal.returns-in-Err-Refused-clause-nothing
returns-in-Err-Refused-clause-nothing c = malformed_spells_nothing c.args.bytes.now c.place_at.result (malformed c)
