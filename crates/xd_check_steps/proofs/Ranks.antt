-- The order of found lines is that of their places and numbers.
use Rattle.std.proofs.Common.{◌≡◌, ℕ, Bool, cond, List, [], ◌∷◌, Ordering, refl, ap, ◌∙◌, true, false}
use Rattle.std.specs.Ordering.{is_lt, nat_cmp, ordering_then}
use Rattle.std.specs.Cmp.{IsTotalOrder, IsStrictWeakOrder, nat_cmp_total, on_total, then_total}
use Rattle.std.specs.List.Sorted.{IsSortedBy, IsStableBy}
use Rattle.std.proofs.lemmas.List.Sorted.{ranks_by}
use Rattle.xd_base.specs.declared.Place.{Place}
use Rattle.xd_doc.specs.Document.{Document}
use Rattle.xd_syntax.specs.Order.{put_in, ordered_after, ordered}
use Rattle.xd_syntax.specs.CheckFaults.{line_precedes, lines_in_order, rank}
use Rattle.xd_syntax.proofs.OrderedLemmas.{put_all_sorted}
use Rattle.xd_syntax.proofs.Ranks.{less_places}
use Rattle.xd_check_steps.specs.declared.lines.FoundLine.{FoundLine}
use Rattle.xd_check_steps.specs.FoundLines.{found_precedes, kind_of, line_of, lines_of}

abbrev pub place_cmp : Place → Place → Ordering
place_cmp p q = ordering_then (nat_cmp p.line q.line) (nat_cmp p.column q.column)

abbrev pub rank_cmp : Place × ℕ → Place × ℕ → Ordering
rank_cmp a b = ordering_then (place_cmp a.0 b.0) (nat_cmp a.1 b.1)

abbrev pub found_rank : FoundLine → Place × ℕ
found_rank l = (l.place, rank (kind_of l.finding))

abbrev pub is_less : FoundLine → FoundLine → Bool
is_less l m = is_lt (rank_cmp (found_rank l) (found_rank m))

ranks_total : IsTotalOrder rank_cmp
ranks_total =
    then_total (on_total (λ (a : Place × ℕ). a.0) (then_total (on_total (λ (p : Place). p.line) nat_cmp_total) (on_total (λ (p : Place). p.column) nat_cmp_total)))
    (on_total (λ (a : Place × ℕ). a.1) nat_cmp_total)

is_less_weak : IsStrictWeakOrder is_less
is_less_weak = ranks_by ranks_total found_rank

same_put : (l : FoundLine) (ms : List FoundLine) → put_in is_less l ms ≡ put_in found_precedes l ms
same_put l [] = refl
same_put l (m ∷ ms) =
    let a : is_less l m ≡ found_precedes l m = less_places l.place.line m.place.line l.place.column m.place.column (rank (kind_of l.finding)) (rank (kind_of m.finding)) in
    ap (λ t. cond (is_less l m) (l ∷ (m ∷ ms)) (m ∷ t)) (same_put l ms) ∙ ap (λ b. cond b (l ∷ (m ∷ ms)) (m ∷ put_in found_precedes l ms)) a

same_put_all : (done ls : List FoundLine) → ordered_after is_less done ls ≡ ordered_after found_precedes done ls
same_put_all done [] = refl
same_put_all done (l ∷ ls) = ap (λ d. ordered_after is_less d ls) (same_put l done) ∙ same_put_all (put_in found_precedes l done) ls

-- a stable sort by rank
pub sorted_by_rank : (ls ms : List FoundLine) → IsSortedBy is_less ms → IsStableBy is_less ls ms → ms ≡ ordered found_precedes ls
sorted_by_rank ls ms s t = put_all_sorted is_less is_less_weak ls ms s t ∙ same_put_all [] ls

put_line : (ds : List Document) (l : FoundLine) (ms : List FoundLine) → lines_of ds (put_in found_precedes l ms) ≡ put_in line_precedes (line_of ds l) (lines_of ds ms)
put_line ds l [] = refl
put_line ds l (m ∷ ms) = go (found_precedes l m) (put_line ds l ms)
  where
    go : (b : Bool) → lines_of ds (put_in found_precedes l ms) ≡ put_in line_precedes (line_of ds l) (lines_of ds ms) →
        lines_of ds (cond b (l ∷ (m ∷ ms)) (m ∷ put_in found_precedes l ms))
        ≡ cond b (line_of ds l ∷ (line_of ds m ∷ lines_of ds ms)) (line_of ds m ∷ put_in line_precedes (line_of ds l) (lines_of ds ms))
    go true r = refl
    go false r = ap (λ ls. line_of ds m ∷ ls) r

put_lines : (ds : List Document) (done ls : List FoundLine) → lines_of ds (ordered_after found_precedes done ls) ≡ ordered_after line_precedes (lines_of ds done) (lines_of ds ls)
put_lines ds done [] = refl
put_lines ds done (l ∷ ls) = put_lines ds (put_in found_precedes l done) ls ∙ ap (λ d. ordered_after line_precedes d (lines_of ds ls)) (put_line ds l done)

-- what is found in order is the lines in order
pub found_in_order : (ds : List Document) (ls : List FoundLine) → lines_of ds (ordered found_precedes ls) ≡ lines_in_order (lines_of ds ls)
found_in_order ds ls = put_lines ds [] ls
