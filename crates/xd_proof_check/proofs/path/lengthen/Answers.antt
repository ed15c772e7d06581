use Rattle.std.proofs.Common.{◌≡◌, [], ◌∷◌, ◌++◌, ◌≤◌, ◌-◌, replicate, length, vec_len, arith, ap, sym, subst, ◌∙◌}
use Rattle.std.proofs.lemmas.List.{take_all}
use Rattle.xd_proof_check.specs.Paths.{AreCounts}
use Rattle.xd_proof_check.proofs.PathLemmas.{counts_longer, no_counts}
use Rattle.xd_proof_check.proofs.path.lengthen.Goals as goal
use Rattle.xd_proof_check.proofs.path.lengthen.Goals.{then-len-most+in_ok-resize+in_ok-push, else-len-most}

pub returns-clause-counts : goal.returns-clause-counts
returns-clause-counts c = elim c.if-len-most.branch [
  | then-len-most+in_ok-resize+in_ok-push w ↦
      (let old = c.args.counts.now.items in
      let l : length old ≤ c.args.most = omega (arith, w.if-len-most.true, c.len.ensures, c.args.counts.now.ok.0) in
      let n = c.args.most - vec_len c.args.counts.now in
      let e : w.resize.new.self.items ≡ old ++ replicate n 0 = w.in_ok-resize.ensures.items ∙ ap (λ xs. xs ++ replicate n 0) (take_all c.args.most old l) in
      let f = ap (λ v. v.items) w.counts-is ∙ w.in_ok-push.ensures.items ∙ ap (λ xs. xs ++ 0 ∷ []) e in
      subst (λ xs. AreCounts xs []) (sym f) (counts_longer (old ++ replicate n 0) (0 ∷ []) (counts_longer old (replicate n 0) c.requires (no_counts n)) (no_counts 1)))
  | else-len-most w ↦ subst (λ v. AreCounts v.items []) (sym w.counts-is) c.requires
]
