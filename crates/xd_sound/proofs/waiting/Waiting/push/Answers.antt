use Rattle.std.proofs.Common.{◌++◌, [], ◌∷◌, List, ℕ, sym, subst}
use Rattle.std.specs.BinaryHeap.{heap_items}
use Rattle.std.specs.List.Sorted.{IsPermutation}
use Rattle.xd_sound.proofs.WaitingLaws.{pushed_last, pushed_other}
use Rattle.xd_sound.proofs.waiting.Waiting.push.Goals as goal

pub returns-then-ends_above : goal.returns-then-ends_above
returns-then-ends_above c =
    let xs = c.self.inside.rising.items in
    let P : List ℕ → Type 0 = λ l. IsPermutation (l ++ c.args.number ∷ []) (xs ++ heap_items c.push.new.self) in
    subst P c.self.view_is (pushed_other xs (heap_items c.self.inside.others) (heap_items c.push.new.self) c.args.number c.in_ok-push.ensures.permutation)

pub returns : goal.returns
returns c =
    let xs = c.self.inside.rising.items in
    let ys = heap_items c.self.inside.others in
    let P : List ℕ → Type 0 = λ l. IsPermutation (l ++ c.args.number ∷ []) (c.push-2.new.self.items ++ ys) in
    let Q : List ℕ → Type 0 = λ l. IsPermutation ((xs ++ ys) ++ c.args.number ∷ []) (l ++ ys) in
    subst P c.self.view_is (subst Q (sym c.in_ok-push-2.ensures.items) (pushed_last xs ys c.args.number))
