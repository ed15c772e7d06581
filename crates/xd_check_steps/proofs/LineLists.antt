-- Lists of found lines.
use Rattle.std.proofs.Common.{◌≡◌, true, List, [], ◌∷◌, ◌++◌, Some, refl, ap, sym, subst, ◌∙◌, append-nil, inl, inr}
use Rattle.xd_base.specs.declared.Place.{Place}
use Rattle.xd_doc.specs.Document.{Document, is_proper}
use Rattle.xd_doc.specs.Least.{IsLeastBy}
use Rattle.xd_doc.specs.LeastUpTo.{IsLeastUpTo}
use Rattle.xd_doc.specs.Stored.{document_at}
use Rattle.xd_doc.specs.StoredSeq.{BelongsTo}
use Rattle.xd_doc.specs.StoreNodes.{Keeps}
use Rattle.xd_doc.specs.declared.store.Seq.{Seq}
use Rattle.xd_doc.proofs.LeastLemmas.{least_of_part, least_told}
use Rattle.xd_least.specs.Least.{size_limit}
use Rattle.xd_syntax.specs.CheckFaults.{Line, LineKind, IsProperWith, LineWhere}
use Rattle.xd_check_steps.specs.declared.lines.Finding.{Finding}
use Rattle.xd_check_steps.specs.declared.lines.Finding.TheVariants.{NotExhaustive, Argument, Result, DeadClause}
use Rattle.xd_check_steps.specs.declared.lines.FoundLine.{FoundLine}
use Rattle.xd_check_steps.specs.FoundLines.{AddsLines, FindingBelongs, LinesBelong, carried, kind_of, line_of, lines_of, told_size}

finding_kept : (ds es : List Document) → Keeps ds es → (f : Finding) → FindingBelongs ds f → FindingBelongs es f × (carried es f ≡ carried ds f)
finding_kept ds es k (NotExhaustive seq) b = (k.belongs seq b, ap Some (k.same seq b))
finding_kept ds es k (Argument seq) b = (k.belongs seq b, ap Some (k.same seq b))
finding_kept ds es k (Result seq) b = (k.belongs seq b, ap Some (k.same seq b))
finding_kept ds es k DeadClause b = (tt, refl)

pub belong_kept : (ds es : List Document) → Keeps ds es → (ls : List FoundLine) → LinesBelong ds ls → LinesBelong es ls
belong_kept ds es k [] b = tt
belong_kept ds es k (l ∷ ls) b = ((finding_kept ds es k l.finding b.0).0, belong_kept ds es k ls b.1)

pub lines_kept : (ds es : List Document) → Keeps ds es → (ls : List FoundLine) → LinesBelong ds ls → lines_of es ls ≡ lines_of ds ls
lines_kept ds es k [] b = refl
lines_kept ds es k (l ∷ ls) b =
    ap (λ o. record { place = l.place; kind = kind_of l.finding; document = o } ∷ lines_of es ls) (finding_kept ds es k l.finding b.0).1
    ∙ ap (λ ms. line_of ds l ∷ ms) (lines_kept ds es k ls b.1)

pub belong_joined : (ds : List Document) (ls ms : List FoundLine) → LinesBelong ds ls → LinesBelong ds ms → LinesBelong ds (ls ++ ms)
belong_joined ds [] ms a b = b
belong_joined ds (l ∷ ls) ms a b = (a.0, belong_joined ds ls ms a.1 b)

adds_none : (ds : List Document) (A : List Line → Type 0) → A [] → (ls : List FoundLine) → AddsLines ds A ls ls
adds_none ds A h ls = record { more = []; grown = sym (append-nil ls); belong = tt; meet = h }

adds_one : (ds : List Document) (A : List Line → Type 0) (old : List FoundLine) (l : FoundLine) → FindingBelongs ds l.finding → A (line_of ds l ∷ []) → AddsLines ds A old (old ++ l ∷ [])
adds_one ds A old l b h = record { more = l ∷ []; grown = refl; belong = (b, tt); meet = h }

-- a document that is least up to the limit is least as sizes are told apart, among the proper ones
-- too
least_proper : (A : Document → Type 0) (d : Document) → is_proper d ≡ true → IsLeastUpTo size_limit A d → IsLeastBy told_size (IsProperWith A) d
least_proper A d p h = least_of_part told_size A (IsProperWith A) d (record { proper = p; meets = h.within }) (λ e q. q.meets) (least_told size_limit A d h)

-- a line with a least document of the store that meets the fact
line_there : (ds : List Document) (p : Place) (A : Document → Type 0) (l : FoundLine) (seq : Seq) → l.place ≡ p → carried ds l.finding ≡ Some (document_at ds seq) → BelongsTo ds seq →
    IsLeastUpTo size_limit A (document_at ds seq) → LineWhere told_size p (kind_of l.finding) A (line_of ds l ∷ [])
line_there ds p A l seq e c b h =
    inl (
      document_at ds seq,
      least_proper A (document_at ds seq) b.proper h,
      ap (λ q. record { place = q; kind = kind_of l.finding; document = carried ds l.finding } ∷ []) e ∙ ap (λ o. record { place = p; kind = kind_of l.finding; document = o } ∷ []) c,
    )

-- one line, with a least document of the store that meets the fact
pub adds_where : (ds : List Document) (p : Place) (A : Document → Type 0) (old new : List FoundLine) (f : Finding) (seq : Seq) → new ≡ old ++ record { place = p; finding = f } ∷ [] → FindingBelongs ds f →
    carried ds f ≡ Some (document_at ds seq) → BelongsTo ds seq → IsLeastUpTo size_limit A (document_at ds seq) → AddsLines ds (LineWhere told_size p (kind_of f) A) old new
adds_where ds p A old new f seq e b c i h =
    subst (AddsLines ds (LineWhere told_size p (kind_of f) A) old) (sym e)
    (adds_one ds (LineWhere told_size p (kind_of f) A) old (record { place = p; finding = f }) b (line_there ds p A (record { place = p; finding = f }) seq refl c i h))

-- and none, where no document does
pub adds_nowhere : (ds : List Document) (p : Place) (k : LineKind) (A : Document → Type 0) → ((d : Document) → A d → ⊥) → (old new : List FoundLine) → new ≡ old → AddsLines ds (LineWhere told_size p k A) old new
adds_nowhere ds p k A n old new e = subst (AddsLines ds (LineWhere told_size p k A) old) (sym e) (adds_none ds (LineWhere told_size p k A) (inr ((λ d q h. n d h), refl)) old)
