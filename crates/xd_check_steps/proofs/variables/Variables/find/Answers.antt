use Rattle.std.proofs.Common.{rules, ◌≡◌, ℕ, ◌-◌, ◌<◌, ◌≤◌, arith, List, length, take, get_or, cond, Some, ap, sym, ◌∙◌}
use Rattle.std.specs.Prelude.{reverse}
use Rattle.std.specs.Str.{bytes_eq}
use Rattle.std.proofs.lemmas.List.{take_all}
use Rattle.xd_check_steps.specs.declared.variables.Variable.{Variable}
use Rattle.xd_check_steps.specs.InScope.{state_of}
use Rattle.xd_check_steps.proofs.Newest.{reverse_take}
use Rattle.xd_check_steps.proofs.variables.Variables.find.Goals as goal

pub loop-number-init : goal.loop-number-init
loop-number-init c =
    let xs : List Variable = c.self.inside.variables.items in
    let all : length xs ≤ c.len-number.result = (let k = c.len-number.ensures in search rules) in
    ap (λ vs. state_of vs c.args.name.now) (ap reverse (take_all c.len-number.result xs all) ∙ c.self.view_is)

-- the newest of the first n
newest : (xs : List Variable) (n : ℕ) (v : Variable) (x : List ℕ) → 0 < n → n ≤ length xs → v ≡ get_or xs (n - 1) v →
    state_of (reverse (take n xs)) x ≡ cond (bytes_eq v.name x) (Some v.state) (state_of (reverse (take (n - 1) xs)) x)
newest xs n v x p h e = ap (λ vs. state_of vs x) (reverse_take xs n v p h e)

pub returns-then-eq : goal.returns-then-eq
returns-then-eq c =
    let xs : List Variable = c.self.inside.variables.items in
    let n : ℕ = c.loop-number.number in
    let v : Variable = c.index-variable.result.now in
    let x : List ℕ = c.args.name.now in
    let within : n ≤ length xs = (let k = c.len-number.ensures in let o = c.loop-number.auto.number in search rules) in
    sym (ap (λ b. cond b (Some v.state) (state_of (reverse (take (n - 1) xs)) x)) (sym c.eq.ensures ∙ c.if-eq.true)) ∙ sym (newest xs n v x c.loop-number-test.true within c.index-variable.ensures) ∙ c.loop-number.invariant

pub loop-number-preserved : goal.loop-number-preserved
loop-number-preserved c =
    let xs : List Variable = c.self.inside.variables.items in
    let n : ℕ = c.loop-number.number in
    let v : Variable = c.index-variable.result.now in
    let x : List ℕ = c.args.name.now in
    let within : n ≤ length xs = (let k = c.len-number.ensures in let o = c.loop-number.auto.number in search rules) in
    sym (ap (λ b. cond b (Some v.state) (state_of (reverse (take (n - 1) xs)) x)) (sym c.eq.ensures ∙ c.if-eq.false)) ∙ sym (newest xs n v x c.loop-number-test.true within c.index-variable.ensures) ∙ c.loop-number.invariant

pub returns : goal.returns
returns c =
    let z : c.loop-number.number ≡ 0 = omega arith in
    ap (λ n. state_of (reverse (take n c.self.inside.variables.items)) c.args.name.now) (sym z) ∙ c.loop-number.invariant
