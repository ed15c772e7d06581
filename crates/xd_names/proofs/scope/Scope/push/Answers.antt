use Rattle.std.proofs.Common.{◌≡◌, ℕ, ◌+◌, ◌-◌, ◌≤◌, List, ◌++◌, ◌∷◌, [], length, vec_len, take, Option, unwrap_or, arith, rules, ap, sym, ◌∙◌}
use Rattle.std.specs.BTreeMap.{BTreeMap, is_at}
use Rattle.std.specs.Map.{lookup}
use Rattle.std.specs.Ordering.{nat_cmp}
use Rattle.std.specs.Cmp.Lexicographic.{slice_cmp}
use Rattle.std.proofs.lemmas.List.{length_push}
use Rattle.xd_doc.proofs.Lists.{take_front}
use Rattle.xd_names.specs.Counts.{occurrences}
use Rattle.xd_names.proofs.WordLemmas.{occurrences-le-length, count_push, on_ok, on_err}
use Rattle.xd_names.proofs.scope.Scope.push.Goals as goal

pub overflow_add-count : goal.overflow_add-count
overflow_add-count c =
    let n : c.unwrap_or-count.result ≡ occurrences c.self.inside.variables.items c.args.word.now
    = c.unwrap_or-count.ensures ∙ ap (λ (o : Option ℕ). unwrap_or o 0) (c.copied.ensures ∙ c.get.ensures.value) ∙ c.self.invariant c.args.word.now in
    let l : occurrences c.self.inside.variables.items c.args.word.now ≤ length c.self.inside.variables.items = occurrences-le-length c.self.inside.variables.items c.args.word.now in
    omega (arith, c.self.inside.variables.ok, c.self.inside.variables.small)

pub invariant_of-self-else-is_err : goal.invariant_of-self-else-is_err
invariant_of-self-else-is_err c w =
    let n : c.unwrap_or-count.result ≡ occurrences c.self.inside.variables.items c.args.word.now
    = c.unwrap_or-count.ensures ∙ ap (λ (o : Option ℕ). unwrap_or o 0) (c.copied.ensures ∙ c.get.ensures.value) ∙ c.self.invariant c.args.word.now in
    let m : c.unwrap_or-count.result ≡ occurrences c.self.inside.variables.items c.in_ok-key.key = n ∙ ap (occurrences c.self.inside.variables.items) (sym c.in_ok-key.ensures) in
    count_push c.in_ok-key.key w c.self.inside.variables.items c.unwrap_or-count.result _ _ m (c.self.invariant w)
    ((on_ok c.insert.result _ c.if-is_err.ensures.negation c.insert.ensures.updates).0 w)
    ∙ ap (λ v. occurrences (c.self.inside.variables.items ++ v ∷ []) w) (c.in_ok-key.ensures ∙ sym c.in_ok-variable.ensures)
    ∙ ap (λ xs. occurrences xs w) (sym c.in_ok-push.ensures.items)

-- a list with one word more, without its last
pushed_popped : (xs ys : List (List ℕ)) (v : List ℕ) (n : ℕ) → ys ≡ xs ++ v ∷ [] → n ≡ length ys → take (n - 1) ys ≡ xs
pushed_popped xs ys v n e m =
    let l : length ys ≡ length xs + 1 = ap length e ∙ length_push xs v in
    let k : n - 1 ≡ length xs = omega arith in
    ap (λ j. take j ys) k ∙ ap (take (length xs)) e ∙ take_front xs (v ∷ [])

pub invariant_of-self-then-is_err : goal.invariant_of-self-then-is_err
invariant_of-self-then-is_err c w =
    let old : BTreeMap (List ℕ) ℕ = c.self.inside.counts in
    let same : c.insert.new.self.entries ≡ old.entries = on_err c.insert.result _ c.if-is_err.ensures.negation c.insert.ensures.err in
    let count : vec_len c.push.new.self ≡ length c.push.new.self.items = search rules in
    let left : c.pop.new.self.items ≡ c.self.inside.variables.items = c.pop.ensures.rest ∙ pushed_popped c.self.inside.variables.items c.push.new.self.items c.in_ok-variable.variable (vec_len c.push.new.self) c.in_ok-push.ensures.items count in
    ap (λ es. unwrap_or (lookup (is_at (slice_cmp nat_cmp w)) es) 0) same
    ∙ c.self.invariant w
    ∙ ap (λ xs. occurrences xs w) (sym left)
