use Rattle.std.proofs.Common.{◌≡◌, ◌++◌, [], ◌∷◌, List, ℕ, ◌+◌, take, get_or, ap, sym, subst, ◌∙◌, append_assoc}
use Rattle.std.specs.List.Sorted.{IsPermutation}
use Rattle.std.proofs.lemmas.List.{map_more}
use Rattle.std.proofs.lemmas.List.Sorted.{IsPermutation-append_left, IsPermutation-trans}
use Rattle.xd_syntax.specs.Types.{type_numbers}
use Rattle.xd_syntax.specs.declared.types.TypeId.{TypeId}
use Rattle.xd_sound.proofs.waiting.Waiting.push_all.Goals as goal

pub loop-part-preserved : goal.loop-part-preserved
loop-part-preserved c =
    let xs = c.args.parts.now in
    let n : ℕ = c.loop-part.part-index in
    let first : TypeId = record { at = 0 } in
    let x : ℕ = (get_or xs n first).at in
    let old : List ℕ = c.args.self.now in
    let seen : List ℕ = type_numbers (take n xs) in
    let more : (old ++ seen) ++ x ∷ [] ≡ old ++ type_numbers (take (n + 1) xs) =
    append_assoc old seen (x ∷ []) ∙ ap (λ ys. old ++ ys) (sym (map_more (λ (id : TypeId). id.at) xs n first c.loop-part-test.true)) in
    let q : IsPermutation (c.loop-part.self ++ x ∷ []) c.push.new.self = rw c.at.ensures at c.in_ok-push.ensures in
    subst (λ ys. IsPermutation ys c.push.new.self) more
    (IsPermutation-trans ((old ++ seen) ++ x ∷ []) (c.loop-part.self ++ x ∷ []) c.push.new.self (IsPermutation-append_left (x ∷ []) (old ++ seen) c.loop-part.self c.loop-part.invariant) q)
