use Rattle.std.proofs.Common.{◌∙◌, ◌∷◌, ◌++◌, ap, sym, ℕ, List, append_assoc, length, take}
use Rattle.xd_moves.specs.Codes.{code_names}
use Rattle.xd_moves.proofs.CodeLemmas.{names_taken}
use Rattle.xd_moves.proofs.codes.push_labels.Goals as goal

pub loop-label-preserved : goal.loop-label-preserved
loop-label-preserved c =
    let old = c.args.code.now.items in
    let names = c.args.labels.now in
    let n = c.loop-label.label-index in
    let w = c.label-item.result in
    c.in_ok-push_name.ensures
    ∙ ap (λ (v : List ℕ). c.loop-label.code.items ++ (length v ∷ v)) c.as_str.ensures.bytes
    ∙ ap (λ (xs : List ℕ). xs ++ (length w ∷ w)) c.loop-label.invariant
    ∙ append_assoc old (code_names (take n names)) (length w ∷ w)
    ∙ ap (λ (xs : List ℕ). old ++ xs) (sym (names_taken names n w c.loop-label-test.true c.label-item.is))
