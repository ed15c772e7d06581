-- On sizes.
use Rattle.std.proofs.Common.{◌≡◌, ℕ, ◌+◌, ◌-◌, ◌<◌, ◌≤◌, Option, None, Some, get_or, ap, List, [], ◌∷◌, ◌++◌, length, min, arith, inl, inr, false, length-append, refl, sym, subst, true, ◌∙◌}
use Rattle.std.specs.Prelude.{nat_le}
use Rattle.std.proofs.lemmas.Bool.{cases_lt}
use Rattle.std.proofs.lemmas.Bool.Decides.{nat_tests}
use Rattle.std.proofs.lemmas.List.{get_or-append_right, get_or_append_left}
use Rattle.xd_doc.specs.declared.store.Seq.{Seq}
use Rattle.xd_doc.specs.Document.{Document, empty, text, element, size, has_item, escaped_all, comma_before, items_text, canonical_text}
use Rattle.xd_doc.specs.DocumentCode.{content_of, rest_of}
use Rattle.xd_doc.specs.Least.{IsLeast}
use Rattle.xd_doc.specs.LeastUpTo.{IsLeastUpTo}
use Rattle.xd_doc.specs.Stored.{document_at}
use Rattle.xd_auto.specs.declared.auto.State.{State}
use Rattle.xd_auto.specs.Automaton.{Automaton, accepts}
use Rattle.xd_least.specs.declared.document.LeastDocument.{LeastDocument}
use Rattle.xd_least.specs.Least.{Accepts, IsLeastOf, capped, size_limit}

min_at_most : (n m l : ℕ) → n ≤ m → min n l ≤ m
min_at_most n m l le = omega arith

pub capped_at_most : (n m : ℕ) → n ≤ m → capped n ≤ m
capped_at_most n m le = min_at_most n m size_limit le

min_sum : (x y l : ℕ) → min (min x l + min y l + 1) l ≡ min (x + y + 1) l
min_sum x y l = omega arith

min_more : (x l : ℕ) → min (min x l + 1) l ≡ min (x + 1) l
min_more x l = omega arith

pub capped_sum : (x y : ℕ) → capped (capped x + capped y + 1) ≡ capped (x + y + 1)
capped_sum x y = min_sum x y size_limit

pub capped_more : (x : ℕ) → capped (capped x + 1) ≡ capped (x + 1)
capped_more x = min_more x size_limit

-- a size that is at most another below the limit is the size itself
size_below : (k n m l : ℕ) → k ≡ min n l → k ≤ m → m < l → k ≡ n
size_below k n m l is le lt = omega arith

-- where sizes are kept up to a limit, what is kept is least up to it
pub least_up_to : (a : Automaton) (ds : List Document) (s : State) (f : LeastDocument) → IsLeastOf a ds s f → IsLeastUpTo size_limit (Accepts a s) (document_at ds f.seq)
least_up_to a ds s f w = record {
  within = w.accepted;
  least = λ e among lt.
      let same : f.size ≡ size (document_at ds f.seq) = size_below f.size (size (document_at ds f.seq)) (size e) size_limit w.sized (w.least e among) lt in
      record { within = w.accepted; least = λ d accepted. subst (λ n. n ≤ size d) same (w.least d accepted) };
}

element_length : (l x y : List ℕ) → length ((l ++ 91 ∷ x ++ 93 ∷ []) ++ y) ≡ length l + length x + length y + 2
element_length l x y = simp length-append (omega arith)

-- each item has a byte or more in the text of a document
items_written : (d : Document) → size d ≤ length (items_text d)
items_written empty = omega arith
items_written (text s r) =
    omega (arith, items_written r, length-append (34 ∷ escaped_all s ++ 34 ∷ []) (comma_before r ++ items_text r), length-append (comma_before r) (items_text r))
items_written (element l c r) =
    omega (arith, items_written c, items_written r, element_length l (items_text c) (comma_before r ++ items_text r), length-append (comma_before r) (items_text r))

pub size_written : (d : Document) → size d ≤ length (canonical_text d)
size_written empty = omega arith
size_written (text s r) = items_written (text s r)
size_written (element l c r) = items_written (element l c r)

-- of states that accept the same, the same documents are least
pub up_to_same : (a : Automaton) (s : State) (b : Automaton) (t : State) (d : Document) → ((e : Document) → accepts a e s ≡ accepts b e t) → IsLeastUpTo size_limit (Accepts a s) d → IsLeastUpTo size_limit (Accepts b t) d
up_to_same a s b t d same w = record {
  within = sym (same d) ∙ w.within;
  least = λ e among lt.
      let l = w.least e (same e ∙ among) lt in
      record { within = sym (same d) ∙ w.within; least = λ q accepted. l.least q (same q ∙ accepted) };
}

-- a document whose text stands in a vector is a least one
pub least_written : (In : Document → Type 0) (d : Document) (bytes : List ℕ) → IsLeastUpTo size_limit In d → length (canonical_text d) ≤ length bytes → length bytes < size_limit → IsLeast In d
least_written In d bytes w within fits = let lt : size d < size_limit = below (size d) (length (canonical_text d)) (length bytes) size_limit (size_written d) within fits in w.least d w.within lt
  where
    below : (k m n l : ℕ) → k ≤ m → m ≤ n → n < l → k < l
    below k m n l a b c = omega arith
