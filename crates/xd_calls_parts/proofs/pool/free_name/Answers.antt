use Rattle.std.proofs.Common.{◌≡◌, ◌∷◌, [], true, length, subst, arith}
use Rattle.std.specs.List.{AllByRecursion}
use Rattle.xd_shown.proofs.AreMeantLemmas.{one_word}
use Rattle.xd_syntax.specs.Keywords.{is_type_name}
use Rattle.xd_calls_parts.proofs.pool.free_name.Goals as goal

pub returns : goal.returns
returns c =
    let names = c.in_ok-names.names in
    let w = c.in_ok-share.field-0 in
    let long = names.ok.0 in
    let count = c.in_ok-names.ensures.count in
    let single : length names.items ≡ 1 = omega arith in
    let one : names.items ≡ w ∷ [] = one_word names.items c.index.result.now w single c.index.ensures c.in_ok-share.ensures in
    (subst (AllByRecursion (λ v. is_type_name v ≡ true)) one c.in_ok-names.ensures.new.proper).0
