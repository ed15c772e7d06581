-- On a document's text, as it is written.
use Rattle.std.proofs.Common.{◌≡◌, ℕ, ◌+◌, ◌-◌, ◌<◌, ◌≤◌, Some, None, List, [], ◌∷◌, ◌++◌, refl, ap, sym, ◌∙◌, arith, append_assoc, drop, take, get_or, length, length-drop, add-one, drop-cons}
use Rattle.std.proofs.lemmas.List.{append-nil, take_more, get_or-drop}
use Rattle.std.specs.List.{slice_range}
use Rattle.xd_doc.specs.Document.{Document, empty, text, element, size, comma_before, items_text, escaped, escaped_all}
use Rattle.xd_doc.specs.DocumentCode.{rest_of, content_of}
use Rattle.xd_doc.specs.Stored.{document_at}
use Rattle.xd_doc.specs.StoreNodes.{first_of_document}
use Rattle.xd_doc.specs.declared.store.Seq.{Seq}
use Rattle.xd_doc.specs.declared.store.Item.{Item}
use Rattle.xd_doc.specs.declared.store.Item.TheVariants.{Text, Elem}
use Rattle.xd_write.specs.Written.{AppendsPrefix}

-- what is written after a content: the bracket, and what follows the element
abbrev pub after_content : Document → List ℕ
after_content d = 93 ∷ (comma_before d ++ items_text d)

-- what follows the contents that are open, the innermost last in the list
abbrev pub closing : List Document → List Seq → List ℕ
closing ds [] = []
closing ds (seq ∷ seqs) = closing ds seqs ++ after_content (document_at ds seq)

-- the work that is left after open contents
abbrev pub weight : List Document → List Seq → ℕ
weight ds [] = 0
weight ds (seq ∷ seqs) = (size (document_at ds seq) + size (document_at ds seq) + 1) + weight ds seqs

-- `now` is `old` and the text up to what is left
pub record IsWritten (all old now left : List ℕ) : Type 0 where
  pub prefix : List ℕ
  pub appended : now ≡ old ++ prefix
  pub whole : prefix ++ left ≡ all

-- a piece more
pub written_more : (all old now new piece left : List ℕ) → IsWritten all old now (piece ++ left) → new ≡ now ++ piece → IsWritten all old new left
written_more all old now new piece left w e = record {
  prefix = w.prefix ++ piece;
  appended = e ∙ ap (λ xs. xs ++ piece) w.appended ∙ append_assoc old w.prefix piece;
  whole = append_assoc w.prefix piece left ∙ w.whole;
}

-- no more is written
pub written_part : (all old now left : List ℕ) → IsWritten all old now left → AppendsPrefix all old now
written_part all old now left w = record { prefix = w.prefix; missing = left; appended = w.appended; whole = w.whole }

-- a part of a piece more, and no more
pub part_more : (all old now new piece left : List ℕ) → IsWritten all old now (piece ++ left) → AppendsPrefix piece now new → AppendsPrefix all old new
part_more all old now new piece left w p = record {
  prefix = w.prefix ++ p.prefix;
  missing = p.missing ++ left;
  appended = p.appended ∙ ap (λ xs. xs ++ p.prefix) w.appended ∙ append_assoc old w.prefix p.prefix;
  whole = append_assoc w.prefix p.prefix (p.missing ++ left) ∙ ap (λ xs. w.prefix ++ xs) (sym (append_assoc p.prefix p.missing left) ∙ ap (λ xs. xs ++ left) p.whole) ∙ w.whole;
}

-- the same, with the missing part written otherwise
pub written_same : (all old now left left' : List ℕ) → IsWritten all old now left → left ≡ left' → IsWritten all old now left'
written_same all old now left left' w e = record { prefix = w.prefix; appended = w.appended; whole = ap (λ xs. w.prefix ++ xs) (sym e) ∙ w.whole }

-- a text's bytes from a place on, with the first one apart
pub escaped_all-drop : (s : List ℕ) (i : ℕ) → i < length s → escaped_all (drop i s) ≡ escaped (get_or s i 0) ++ escaped_all (drop (i + 1) s)
escaped_all-drop s i h = rw add-one (ap escaped_all (drop-cons s i 0 h))

-- no byte is waiting
pub run_none : (s : List ℕ) (i : ℕ) → escaped_all (drop i s) ≡ slice_range s i i ++ escaped_all (drop i s)
run_none s i =
    let e : i - i ≡ 0 = omega arith in
    rw e refl

-- a byte more that is not escaped
pub run_more : (s : List ℕ) (start i : ℕ) → start ≤ i → i < length s → escaped (get_or s i 0) ≡ get_or s i 0 ∷ [] → escaped_all (drop start s) ≡ slice_range s start i ++ escaped_all (drop i s) → escaped_all (drop start s) ≡ slice_range s start (i + 1) ++ escaped_all (drop (i + 1) s)
run_more s start i w h plain e =
    let n : (i + 1) - start ≡ (i - start) + 1 = omega arith in
    let l : i - start < length (drop start s) = omega (arith, length-drop start s) in
    let at : start + (i - start) ≡ i = omega arith in
    let last : get_or (drop start s) (i - start) 0 ≡ get_or s i 0 = get_or-drop start s (i - start) 0 ∙ ap (λ k. get_or s k 0) at in
    let t : slice_range s start (i + 1) ≡ slice_range s start i ++ get_or s i 0 ∷ [] = ap (λ k. take k (drop start s)) n ∙ take_more (drop start s) (i - start) 0 l ∙ ap (λ x. slice_range s start i ++ x ∷ []) last in
    let b : escaped_all (drop i s) ≡ get_or s i 0 ∷ [] ++ escaped_all (drop (i + 1) s) = escaped_all-drop s i h ∙ ap (λ xs. xs ++ escaped_all (drop (i + 1) s)) plain in
    e ∙ ap (λ xs. slice_range s start i ++ xs) b ∙ sym (append_assoc (slice_range s start i) (get_or s i 0 ∷ []) (escaped_all (drop (i + 1) s))) ∙ ap (λ xs. xs ++ escaped_all (drop (i + 1) s)) (sym t)

-- a piece of a document's text, and what may stand after it
piece_split : (q k i cl : List ℕ) → (q ++ (k ++ i)) ++ cl ≡ q ++ (k ++ (i ++ cl))
piece_split q k i cl = append_assoc q (k ++ i) cl ∙ ap (λ xs. q ++ xs) (append_assoc k i cl)

pub piece_part : (all old now one q k i cl : List ℕ) → IsWritten all old now ((q ++ (k ++ i)) ++ cl) → AppendsPrefix q now one → AppendsPrefix all old one
piece_part all old now one q k i cl w p = part_more all old now one q _ (written_same all old now _ _ w (piece_split q k i cl)) p

pub piece_written : (all old now one q k i cl : List ℕ) → IsWritten all old now ((q ++ (k ++ i)) ++ cl) → one ≡ now ++ q → IsWritten all old one (k ++ (i ++ cl))
piece_written all old now one q k i cl w e = written_more all old now one q _ (written_same all old now _ _ w (piece_split q k i cl)) e

pub pieces_written : (all old now one two q k i cl : List ℕ) → IsWritten all old now ((q ++ (k ++ i)) ++ cl) → one ≡ now ++ q → two ≡ one ++ k → IsWritten all old two (i ++ cl)
pieces_written all old now one two q k i cl w e f = written_more all old one two k _ (piece_written all old now one q k i cl w e) f

label_split : (l c k r cl : List ℕ) → ((l ++ 91 ∷ c ++ 93 ∷ []) ++ (k ++ r)) ++ cl ≡ (l ++ 91 ∷ []) ++ (c ++ ((93 ∷ (k ++ r)) ++ cl))
label_split l c k r cl = simp append_assoc

pub label_part : (all old now one l c k r cl : List ℕ) → IsWritten all old now (((l ++ 91 ∷ c ++ 93 ∷ []) ++ (k ++ r)) ++ cl) → AppendsPrefix (l ++ 91 ∷ []) now one → AppendsPrefix all old one
label_part all old now one l c k r cl w p = part_more all old now one (l ++ 91 ∷ []) _ (written_same all old now _ _ w (label_split l c k r cl)) p

pub label_written : (all old now one l c k r cl : List ℕ) → IsWritten all old now (((l ++ 91 ∷ c ++ 93 ∷ []) ++ (k ++ r)) ++ cl) → one ≡ now ++ (l ++ 91 ∷ []) → IsWritten all old one (c ++ ((93 ∷ (k ++ r)) ++ cl))
label_written all old now one l c k r cl w e = written_more all old now one (l ++ 91 ∷ []) _ (written_same all old now _ _ w (label_split l c k r cl)) e

-- a document by its first item
pub is_text : (d : Document) (i : Item) (s : List ℕ) → Some i ≡ first_of_document d → i ≡ Text s → d ≡ text s (rest_of d)
is_text empty i s h e = cc
is_text (text t r) i s h e = cc
is_text (element l c r) i s h e = cc

pub is_element : (d : Document) (i : Item) (l : List ℕ) → Some i ≡ first_of_document d → i ≡ Elem l → d ≡ element l (content_of d) (rest_of d)
is_element empty i l h e = cc
is_element (text t r) i l h e = cc
is_element (element m c r) i l h e = cc

pub is_empty : (d : Document) → None ≡ first_of_document d → d ≡ empty
is_empty empty h = refl
is_empty (text t r) h = cc
is_empty (element m c r) h = cc

pub closing-push : (ds : List Document) (xs : List Seq) (s : Seq) → closing ds (xs ++ s ∷ []) ≡ after_content (document_at ds s) ++ closing ds xs
closing-push ds [] s = sym (append-nil (after_content (document_at ds s)))
closing-push ds (x ∷ xs) s = ap (λ t. t ++ after_content (document_at ds x)) (closing-push ds xs s) ∙ append_assoc (after_content (document_at ds s)) (closing ds xs) (after_content (document_at ds x))

pub weight-push : (ds : List Document) (xs : List Seq) (s : Seq) → weight ds (xs ++ s ∷ []) ≡ (size (document_at ds s) + size (document_at ds s) + 1) + weight ds xs
weight-push ds [] s = refl
weight-push ds (x ∷ xs) s = omega (arith, weight-push ds xs s)
