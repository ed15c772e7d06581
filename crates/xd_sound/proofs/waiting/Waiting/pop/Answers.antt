use Rattle.std.proofs.Common.{◌≡◌, ◌-◌, ◌<◌, ◌≤◌, ◌++◌, ◌∷◌, ℕ, List, length, get_or, sym, subst, arith, rules}
use Rattle.std.specs.BinaryHeap.{IsUpperBound, heap_items, heap_len}
use Rattle.std.specs.Ordering.{nat_cmp}
use Rattle.std.specs.List.{All}
use Rattle.std.specs.List.Sorted.{IsPermutation}
use Rattle.std.proofs.lemmas.List.Elements.{All-weaker}
use Rattle.std.proofs.lemmas.List.Sorted.{le_from_greatest}
use Rattle.std.proofs.lemmas.Option.{IfSome_then}
use Rattle.xd_sound.proofs.WaitingLaws.{popped_last, greatest_last, greatest_other, popped_other, copied_some, copied_is, copied_none}
use Rattle.xd_sound.proofs.waiting.Waiting.pop.Goals as goal

pub returns-then-ends_above-clause-taken : goal.returns-then-ends_above-clause-taken
returns-then-ends_above-clause-taken c = popped_last c.self.inside.rising.items _ _ _ _ c.self.view_is c.pop.ensures.items

pub returns-then-ends_above-clause-greatest : goal.returns-then-ends_above-clause-greatest
returns-then-ends_above-clause-greatest c =
    let xs = c.self.inside.rising.items in
    let ys = heap_items c.self.inside.others in
    let x = c.in-Some.top in
    let bound = copied_some c.peek.result x (λ y. IsUpperBound nat_cmp y ys) (sym c.in-Some.ensures) (IfSome_then c.peek.result c.peek.ensures.greatest (λ y h. h c.self.invariant.1)) in
    let above : x < get_or xs (length xs - 1) 0 = rw c.deref.ensures.value at c.ends_above.ensures.above c.if-ends_above.true in
    greatest_last xs _ ys _ c.self.invariant.0 (All-weaker (λ y. y ≤ x) (λ y. y ≤ get_or xs (length xs - 1) 0) (λ y h. omega (arith, h, above)) ys (le_from_greatest x ys bound)) c.pop.ensures.items

pub returns-else-ends_above-clause-taken : goal.returns-else-ends_above-clause-taken
returns-else-ends_above-clause-taken c =
    let xs = c.self.inside.rising.items in
    let zs = heap_items c.pop-else-ends_above.new.self in
    IfSome_then c.pop-else-ends_above.result c.pop-else-ends_above.ensures.permutation
    (λ x h. (let P : List ℕ → Type 0 = λ l. IsPermutation l (x ∷ (xs ++ zs)) in subst P c.self.view_is (popped_other xs (heap_items c.self.inside.others) zs x h)))

pub returns-else-ends_above-clause-greatest : goal.returns-else-ends_above-clause-greatest
returns-else-ends_above-clause-greatest c =
    let xs = c.self.inside.rising.items in
    let ys = heap_items c.self.inside.others in
    let x = c.in-Some.top in
    let below : All (λ y. y ≤ x) xs = rw c.deref.ensures.value at c.ends_above.ensures.below c.if-ends_above.false in
    let len : heap_len c.self.inside.others ≡ length ys = search rules in
    let some : 0 < length ys = omega (arith, len, c.peek.ensures.variant.0 (copied_is c.peek.result x (sym c.in-Some.ensures))) in
    let first : x ≡ get_or ys 0 x = copied_some c.peek.result x (λ y. y ≡ get_or ys 0 y) (sym c.in-Some.ensures) c.peek.ensures.lookup in
    greatest_other xs ys _ x c.pop-else-ends_above.result below some first c.pop-else-ends_above.ensures.top
    (IfSome_then c.pop-else-ends_above.result c.pop-else-ends_above.ensures.below_top (λ y h. h c.self.invariant.1))

pub returns-in-None-clause-taken : goal.returns-in-None-clause-taken
returns-in-None-clause-taken c = popped_last c.self.inside.rising.items _ _ _ _ c.self.view_is c.pop-in-None.ensures.items

pub returns-in-None-clause-greatest : goal.returns-in-None-clause-greatest
returns-in-None-clause-greatest c =
    let xs = c.self.inside.rising.items in
    let ys = heap_items c.self.inside.others in
    let len : heap_len c.self.inside.others ≡ length ys = search rules in
    greatest_last xs _ ys _ c.self.invariant.0 (copied_none c.peek.result ys (sym c.in-None.ensures) (λ some. c.peek.ensures.variant.1 (omega (arith, len, some))) (λ y. y ≤ get_or xs (length xs - 1) 0)) c.pop-in-None.ensures.items
