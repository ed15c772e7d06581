-- The order of faults is that of their places and numbers.
use Rattle.std.proofs.Common.{◌≡◌, ℕ, Bool, cond, ◌&&◌, ◌||◌, nat_lt, nat_eq, List, [], ◌∷◌, Option, Some, None, Ordering, refl, ap, ◌∙◌, arith}
use Rattle.std.specs.Ordering.{is_lt, nat_cmp, ordering_then}
use Rattle.std.specs.Option.{option_cmp}
use Rattle.std.specs.Cmp.{IsTotalOrder, IsStrictWeakOrder, nat_cmp_total, on_total, then_total}
use Rattle.std.specs.Cmp.Lexicographic.{options_total}
use Rattle.std.specs.List.Sorted.{IsSortedBy, IsStableBy}
use Rattle.std.proofs.lemmas.List.Sorted.{ranks_by}
use Rattle.std.proofs.lemmas.Bool.Decides.{nat_tests}
use Rattle.xd_base.specs.declared.Place.{Place}
use Rattle.xd_syntax.specs.Order.{number_of, precedes, comes_before, put_in, ordered_after, in_order}
use Rattle.xd_syntax.specs.declared.fault.Fault.{Fault}
use Rattle.xd_syntax.proofs.OrderedLemmas.{put_all_sorted}

abbrev pub place_cmp : Place → Place → Ordering
place_cmp p q = ordering_then (nat_cmp p.line q.line) (nat_cmp p.column q.column)

abbrev pub rank_cmp : Option Place × ℕ → Option Place × ℕ → Ordering
rank_cmp a b = ordering_then (option_cmp place_cmp a.0 b.0) (nat_cmp a.1 b.1)

abbrev pub rank : Fault → Option Place × ℕ
rank f = (f.place, number_of f.kind)

abbrev pub is_less : Fault → Fault → Bool
is_less f g = is_lt (rank_cmp (rank f) (rank g))

ranks_total : IsTotalOrder rank_cmp
ranks_total =
    then_total (on_total (λ (a : Option Place × ℕ). a.0) (options_total (then_total (on_total (λ (p : Place). p.line) nat_cmp_total) (on_total (λ (p : Place). p.column) nat_cmp_total))))
    (on_total (λ (a : Option Place × ℕ). a.1) nat_cmp_total)

is_less_weak : IsStrictWeakOrder is_less
is_less_weak = ranks_by ranks_total rank

less_number : (m n : ℕ) → is_lt (nat_cmp m n) ≡ nat_lt m n
less_number m n = grind (arith, nat_tests)

pub less_places : (a b c d m n : ℕ) → is_lt (ordering_then (ordering_then (nat_cmp a b) (nat_cmp c d)) (nat_cmp m n))
    ≡ ((nat_lt a b || (nat_eq a b && nat_lt c d)) || ((nat_eq a b && nat_eq c d) && nat_lt m n))
less_places a b c d m n = grind (arith, nat_tests)

less : (p q : Option Place) (m n : ℕ) → is_lt (ordering_then (option_cmp place_cmp p q) (nat_cmp m n)) ≡ comes_before p m q n
less None None m n = less_number m n
less None (Some q) m n = refl
less (Some p) None m n = refl
less (Some p) (Some q) m n = less_places p.line q.line p.column q.column m n

same_put : (f : Fault) (gs : List Fault) → put_in is_less f gs ≡ put_in precedes f gs
same_put f [] = refl
same_put f (g ∷ gs) =
    let a : is_less f g ≡ precedes f g = less f.place g.place (number_of f.kind) (number_of g.kind) in
    ap (λ t. cond (is_less f g) (f ∷ (g ∷ gs)) (g ∷ t)) (same_put f gs) ∙ ap (λ b. cond b (f ∷ (g ∷ gs)) (g ∷ put_in precedes f gs)) a

same_put_all : (done fs : List Fault) → ordered_after is_less done fs ≡ ordered_after precedes done fs
same_put_all done [] = refl
same_put_all done (f ∷ fs) = ap (λ d. ordered_after is_less d fs) (same_put f done) ∙ same_put_all (put_in precedes f done) fs

-- a stable sort by rank
pub sorted_by_rank : (fs gs : List Fault) → IsSortedBy is_less gs → IsStableBy is_less fs gs → gs ≡ in_order fs
sorted_by_rank fs gs s t = put_all_sorted is_less is_less_weak fs gs s t ∙ same_put_all [] fs
