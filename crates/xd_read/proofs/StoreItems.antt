-- Finished items, and their storing from the last to the first.
use Rattle.std.proofs.Common.{◌≡◌, ℕ, ◌<◌, ◌≤◌, List, [], ◌∷◌, ◌++◌, length, refl, ap, subst, ◌∙◌, arith, length-append, append_assoc}
use Rattle.std.specs.List.{AllByRecursion}
use Rattle.xd_doc.specs.Document.{Document, text, element, join}
use Rattle.xd_doc.specs.Stored.{document_at}
use Rattle.xd_doc.specs.StoredSeq.{BelongsTo}
use Rattle.xd_doc.specs.StoreNodes.{Keeps}
use Rattle.xd_doc.specs.declared.store.Seq.{Seq}
use Rattle.xd_doc.proofs.StoredLemmas.{Keeps-trans}
use Rattle.xd_read.specs.declared.reader.Finished.{Finished}
use Rattle.xd_read.specs.declared.reader.Finished.TheVariants.{Text, Element}
use Rattle.xd_read.specs.Pending.{items_of, IsInStore}
use Rattle.xd_doc.proofs.Lists.{all_back}

pub items_of-append : (ds : List Document) (xs ys : List Finished) → items_of ds (xs ++ ys) ≡ join (items_of ds xs) (items_of ds ys)
items_of-append ds [] ys = refl
items_of-append ds (Text s ∷ xs) ys = ap (text s) (items_of-append ds xs ys)
items_of-append ds (Element l seq ∷ xs) ys = ap (element l (document_at ds seq)) (items_of-append ds xs ys)

-- a store that keeps its documents keeps the items
pub items_of-kept : (ds es : List Document) (xs : List Finished) → Keeps ds es → AllByRecursion (IsInStore ds) xs → items_of es xs ≡ items_of ds xs
items_of-kept ds es [] k h = refl
items_of-kept ds es (Text s ∷ xs) k h = ap (text s) (items_of-kept ds es xs k h.1)
items_of-kept ds es (Element l seq ∷ xs) k h = rw (k.same seq h.0) (ap (element l (document_at ds seq)) (items_of-kept ds es xs k h.1))

pub in_store-kept : (ds es : List Document) (xs : List Finished) → Keeps ds es → AllByRecursion (IsInStore ds) xs → AllByRecursion (IsInStore es) xs
in_store-kept ds es [] k h = tt
in_store-kept ds es (Text s ∷ xs) k h = (tt, in_store-kept ds es xs k h.1)
in_store-kept ds es (Element l seq ∷ xs) k h = (k.belongs seq h.0, in_store-kept ds es xs k h.1)

-- the items after those that are left are stored
pub record StoredSoFar (ds es : List Document) (all left : List Finished) (start : ℕ) (seq : Seq) : Type 0 where
  pub keeps : Keeps ds es
  pub belongs : BelongsTo es seq
  pub rest : List Finished
  pub split : all ≡ left ++ rest
  pub same : document_at es seq ≡ items_of ds rest
  pub within : start ≤ length left

append-nil : (xs : List Finished) → xs ++ [] ≡ xs
append-nil [] = refl
append-nil (x ∷ xs) = ap (λ (ys : List Finished). x ∷ ys) (append-nil xs)

shorter : (start : ℕ) (left : List Finished) (x : Finished) → start < length (left ++ x ∷ []) → start ≤ length left
shorter start left x h = omega (arith, length-append left (x ∷ []))

next_split : (all left now rest : List Finished) (x : Finished) → all ≡ left ++ rest → left ≡ now ++ x ∷ [] → all ≡ now ++ (x ∷ rest)
next_split all left now rest x e f = e ∙ ap (λ (ys : List Finished). ys ++ rest) f ∙ append_assoc now (x ∷ []) rest

-- the content of an element that is taken
pub content_in : (ds es : List Document) (all left now : List Finished) (start : ℕ) (seq content : Seq) (l : List ℕ) → StoredSoFar ds es all left start seq → AllByRecursion (IsInStore ds) all → left ≡ now ++ Element l content ∷ [] → BelongsTo ds content
content_in ds es all left now start seq content l h a f =
    (all_back (IsInStore ds) now (Element l content ∷ h.rest) (subst (AllByRecursion (IsInStore ds)) (next_split all left now h.rest (Element l content) h.split f) a)).0

pub stored_element : (ds es es' : List Document) (all left now : List Finished) (start : ℕ) (seq seq' content : Seq) (l : List ℕ) → StoredSoFar ds es all left start seq → AllByRecursion (IsInStore ds) all → left ≡ now ++ Element l content ∷ [] → start < length left → Keeps es es' → BelongsTo es' seq' → document_at es' seq' ≡ element l (document_at es content) (document_at es seq) → StoredSoFar ds es' all now start seq'
stored_element ds es es' all left now start seq seq' content l h a f lt k b e =
    let c = content_in ds es all left now start seq content l h a f in
    record {
      keeps = Keeps-trans ds es es' h.keeps k;
      belongs = b;
      rest = Element l content ∷ h.rest;
      split = next_split all left now h.rest (Element l content) h.split f;
      same = e ∙ ap (λ (x : Document). element l x (document_at es seq)) (h.keeps.same content c) ∙ ap (element l (document_at ds content)) h.same;
      within = shorter start now (Element l content) (subst (λ (l : List Finished). start < length l) f lt);
    }
