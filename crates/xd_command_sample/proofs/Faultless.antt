-- The telephone program has no faults of names or of recursion.
use Rattle.std.proofs.Common.{◌≡◌, List, [], ◌++◌, map, refl, ap, ◌∙◌}
use Rattle.xd_syntax.specs.Order.{in_order}
use Rattle.xd_syntax.specs.RecursionFaults.{Keeps, all_seen, kept, left_out, not_tail_fault, unguarded_fault, AreRecursionFaults, IsSound}
use Rattle.xd_syntax.specs.declared.fault.Fault.{Fault}
use Rattle.xd_command_sample.specs.Telephones.{telephone_program}

pub telephones_sound : IsSound telephone_program
telephones_sound = record { names = refl; recursion = record { outside = []; unguarded = []; outside_all = all_seen; unguarded_all = all_seen; listed = refl } }

none_kept : {A : Type 0} {P : A → Type 0} {xs ys : List A} → Keeps P xs ys → xs ≡ [] → ys ≡ []
none_kept all_seen e = refl
none_kept (kept h k) e = absurd (cc)
none_kept (left_out h k) e = absurd (cc)

pub no_recursion_fault : (fs : List Fault) → AreRecursionFaults telephone_program fs → fs ≡ []
no_recursion_fault fs a =
    a.listed ∙ ap (λ ws. in_order (map not_tail_fault ws ++ map unguarded_fault a.unguarded)) (none_kept a.outside_all refl)
    ∙ ap (λ ws. in_order (map unguarded_fault ws)) (none_kept a.unguarded_all refl)
