-- The numbers among the words of a command.
use Rattle.std.proofs.Common.{◌≡◌, ℕ, ◌+◌, ◌<◌, ◌≤◌, true, false, nat_lt, List, Some, None, refl, ap, sym, ◌∙◌, arith}
use Rattle.std.specs.Fmt.{decimal}
use Rattle.std.specs.Str.{bytes_eq}
use Rattle.std.specs.Str.Parse.{digits_value}
use Rattle.std.proofs.lemmas.Bool.Decides.{nat_tests}
use Rattle.std.proofs.lemmas.Fmt.{digits_value-decimal}
use Rattle.std.proofs.lemmas.Slice.Eq.{bytes_eq-Decides}
use Rattle.xd_proof.specs.Lines.{SpellsNumber}
use Rattle.xd_proof.proofs.NumberLemmas.{own}
use Rattle.xd_command.specs.Command.{number_within}

value_is : (w : List ℕ) (n : ℕ) → SpellsNumber w n → digits_value 10 w ≡ n
value_is w n s = ap (digits_value 10) s.digits ∙ digits_value-decimal own n (let m = (s.number).most in omega (arith, m))

-- a number that the word spells is the one that it has within a limit
pub number_found : (limit : ℕ) (w : List ℕ) (n : ℕ) → SpellsNumber w n → n ≤ limit → number_within limit w ≡ Some n
number_found limit w n s h =
    let v = value_is w n s in
    let same : bytes_eq (decimal n) w ≡ true = (bytes_eq-Decides (decimal n) w).1 (sym s.digits) in
    let some : nat_lt 0 n ≡ true = let l = (s.number).least in grind (arith, nat_tests, l) in
    let few : nat_lt n (limit + 1) ≡ true = grind (arith, nat_tests, h) in
    rw (v, same, some, few) refl

pub number_too_great : (limit : ℕ) (w : List ℕ) (n : ℕ) → SpellsNumber w n → limit < n → number_within limit w ≡ None
number_too_great limit w n s h =
    let v = value_is w n s in
    let same : bytes_eq (decimal n) w ≡ true = (bytes_eq-Decides (decimal n) w).1 (sym s.digits) in
    let some : nat_lt 0 n ≡ true = let l = (s.number).least in grind (arith, nat_tests, l) in
    let few : nat_lt n (limit + 1) ≡ false = grind (arith, nat_tests, h) in
    rw (v, same, some, few) refl
