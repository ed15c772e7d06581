-- Texts that are parts of a block.
use Rattle.std.proofs.Common.{◌≡◌, ◌≤◌, inl, inr, ◌+◌, ◌-◌, ℕ, List, true, drop, length, get_or, refl, sym, ap, subst, ◌∙◌, arith, IsUtf8}
use Rattle.std.specs.Prelude.{slice_range}
use Rattle.std.specs.Str.{IsCharBoundary, is_utf8}
use Rattle.std.proofs.Math.Nat.{eq-or-lt_of_le}
use Rattle.std.proofs.lemmas.List.{drop-take, drop-drop, take-take}
use Rattle.std.proofs.lemmas.List.Edits.{length-between, get_or-between}
use Rattle.std.proofs.lemmas.Str.{IsCharBoundary-start, IsCharBoundary-end, IsUtf8-between, is_utf8-from_IsUtf8}

-- a part of a part is a part
range_of_range : (bytes : List ℕ) (start end from to : ℕ) → from ≤ to → to ≤ end - start → slice_range (slice_range bytes start end) from to ≡ slice_range bytes (start + from) (start + to)
range_of_range bytes start end from to h l =
    let whole : end - start ≡ from + (end - start - from) = omega arith in
    let short : to - from ≡ (start + to) - (start + from) = omega arith in
    rw whole (rw drop-take (take-take (to - from) (end - start - from) (drop from (drop start bytes)) (omega arith) ∙ rw drop-drop (rw short refl)))

-- a boundary of a part is one of the whole
boundary_of_range : (bytes : List ℕ) (start end at : ℕ) → start ≤ end → IsCharBoundary bytes end → IsCharBoundary (slice_range bytes start end) at → IsCharBoundary bytes (start + at)
boundary_of_range bytes start end at h e b =
    let len : length (slice_range bytes start end) ≡ end - start = length-between bytes start end e.0 in
    elim (eq-or-lt_of_le (subst (λ n. at ≤ n) len b.0)) [
      | inl is ↦ let same : start + at ≡ end = omega arith in rw same e
      | inr lt ↦
          let there : get_or (slice_range bytes start end) at 0 ≡ get_or bytes (start + at) 0 = get_or-between bytes start end at 0 (omega arith) in
          (omega (arith, e.0), λ _. rw there at (b.1 (omega arith)))
    ]

-- where a text lies in a block
abbrev pub IsPart : List ℕ → ℕ → ℕ → Type 0
IsPart block start end = (start ≤ end) × IsCharBoundary block start × IsCharBoundary block end

pub part_is_text : (block text : List ℕ) → block ≡ text → IsUtf8 text → IsPart block 0 (length text)
part_is_text block text e u = rw e (omega arith, IsCharBoundary-start text u, IsCharBoundary-end text)

pub part_utf8 : (block text : List ℕ) (start end : ℕ) → IsUtf8 block → IsPart block start end → slice_range block start end ≡ text → is_utf8 text ≡ true
part_utf8 block text start end u p e = subst (λ t. is_utf8 t ≡ true) e (is_utf8-from_IsUtf8 (slice_range block start end) (IsUtf8-between block start end u p.0 p.1 p.2))

pub part_of_part : (block text : List ℕ) (start end from to : ℕ) → IsPart block start end → slice_range block start end ≡ text → from ≤ to → IsCharBoundary text from → IsCharBoundary text to → (slice_range block (start + from) (start + to) ≡ slice_range text from to) × IsPart block (start + from) (start + to)
part_of_part block text start end from to p e h b c =
    let b' : IsCharBoundary (slice_range block start end) from = subst (λ t. IsCharBoundary t from) (sym e) b in
    let c' : IsCharBoundary (slice_range block start end) to = subst (λ t. IsCharBoundary t to) (sym e) c in
    let len : length (slice_range block start end) ≡ end - start = length-between block start end p.2.0 in (
      sym (range_of_range block start end from to h (omega arith)) ∙ ap (λ (t : List ℕ). slice_range t from to) e,
      (omega arith, boundary_of_range block start end from p.0 p.2 b', boundary_of_range block start end to p.0 p.2 c'),
    )

-- the same in another hold of the block
pub part_of_shared : (shared block text : List ℕ) (start end from to : ℕ) → shared ≡ block → IsPart block start end → slice_range block start end ≡ text → from ≤ to → IsCharBoundary text from → IsCharBoundary text to → (slice_range shared (start + from) (start + to) ≡ slice_range text from to) × IsPart shared (start + from) (start + to)
part_of_shared shared block text start end from to same p e h b c =
    part_of_part shared text start end from to (subst (λ s. IsPart s start end) (sym same) p) (ap (λ (s : List ℕ). slice_range s start end) same ∙ e) h b c
