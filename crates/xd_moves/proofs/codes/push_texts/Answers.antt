use Rattle.std.proofs.Common.{◌∙◌, ◌∷◌, ◌++◌, ap, sym, ℕ, List, append_assoc, length, take}
use Rattle.xd_moves.specs.Codes.{code_names}
use Rattle.xd_moves.proofs.CodeLemmas.{names_taken}
use Rattle.xd_moves.proofs.codes.push_texts.Goals as goal

pub loop-text-preserved : goal.loop-text-preserved
loop-text-preserved c =
    let old = c.args.code.now.items in
    let names = c.args.texts.now in
    let n = c.loop-text.text-index in
    let w = c.text-item.result in
    c.in_ok-push_name.ensures
    ∙ ap (λ (v : List ℕ). c.loop-text.code.items ++ (length v ∷ v)) c.as_str.ensures.bytes
    ∙ ap (λ (xs : List ℕ). xs ++ (length w ∷ w)) c.loop-text.invariant
    ∙ append_assoc old (code_names (take n names)) (length w ∷ w)
    ∙ ap (λ (xs : List ℕ). old ++ xs) (sym (names_taken names n w c.loop-text-test.true c.text-item.is))
