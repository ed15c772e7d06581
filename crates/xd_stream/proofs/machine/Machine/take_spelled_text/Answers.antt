use Rattle.std.proofs.Common.{List, ℕ, sym, subst, ap, ◌∙◌, IsUtf8}
use Rattle.xd_lex.specs.declared.Kind.TheVariants as kinds
use Rattle.xd_lex.specs.Spellings.{IsSpelling}
use Rattle.xd_lex.specs.Spelled.{unescaped}
use Rattle.xd_read.specs.Grammar.{QuotedText}
use Rattle.xd_stream.specs.Pending.{RefusesByte}
use Rattle.xd_stream.specs.Validating.{Passes, Refuses}
use Rattle.xd_stream.proofs.Inside.{quoted_refused, quoted_spelling}
use Rattle.xd_stream.proofs.machine.Machine.take_spelled_text.Goals as goal

pub unreachable-requires : goal.unreachable-requires
unreachable-requires c = c.in_default.ensures.cases.0 (subst IsUtf8 (sym (c.deref.ensures.value ∙ c.in_ok-hold.ensures)) (quoted_spelling c.args.self.now c.requires.mode c.requires.none c.requires.stands).1)

pub unescape-requires : goal.unescape-requires
unescape-requires c = subst (IsSpelling kinds.Text) (sym (c.in-Ok.ensures.cases.0 ∙ c.deref.ensures.value ∙ c.in_ok-hold.ensures)) (quoted_spelling c.args.self.now c.requires.mode c.requires.none c.requires.stands).0

pub returns-in-Err-clause-err : goal.returns-in-Err-clause-err
returns-in-Err-clause-err c =
    subst (RefusesByte c.args.self.now 34) (sym c.error_at.ensures)
    (quoted_refused c.args.self.now c.requires.mode c.requires.none c.in-Err.refusal
    (subst (λ (t : List ℕ). Refuses c.args.self.now.validator (QuotedText t) c.in-Err.refusal) (c.in_ok-text.ensures ∙ ap unescaped (c.in-Ok.ensures.cases.0 ∙ c.deref.ensures.value ∙ c.in_ok-hold.ensures)) c.in-Err.ensures.err))

pub returns-clause-ok : goal.returns-clause-ok
returns-clause-ok c =
    subst (λ (t : List ℕ). Passes c.args.self.now.validator (QuotedText t) c.take_text.new.self) (c.in_ok-text.ensures ∙ ap unescaped (c.in-Ok.ensures.cases.0 ∙ c.deref.ensures.value ∙ c.in_ok-hold.ensures)) c.in_default-take_text.ensures.ok
