-- The laws of the definitions.
use Rattle.std.proofs.Common.{◌+◌, ◌*◌, ◌≤◌, length, sym, arith}
use Rattle.xd_doc.specs.Document.{size}
use Rattle.xd_syntax.specs.Program.{names_of}
use Rattle.xd_syntax.specs.Ways.{unfoldings}
use Rattle.xd_laws.specs.Laws.{PatternsAreTypes, WaysSettle, FitsSettles, FitsIsWithinSome, HeadsDecide, EmptyDecides, HeadsSettle, FuelIsLeft, ConsistentProofsHold}
use Rattle.xd_laws.proofs.SoundGuarded.{guarded}
use Rattle.xd_laws.proofs.Unfoldings.{stable, takes_fits, fits_takes}
use Rattle.xd_laws.proofs.Bare.{fits_bare, bare_fits}
use Rattle.xd_laws.proofs.Within.{to_within, from_within}
use Rattle.xd_laws.proofs.FitsBound.{within_bound}
use Rattle.xd_laws.proofs.Documents.{filled}
use Rattle.xd_laws.proofs.HeadsLaw.{head_fits, fits_head, empty_right, empty_exact}
use Rattle.xd_laws.proofs.HeadsMore.{heads_settle}
use Rattle.xd_laws.proofs.Fuel.{fuel_is_left}
use Rattle.xd_laws.proofs.ConsistentLaw.{all_claims}

pub patterns_are_types : PatternsAreTypes
patterns_are_types P s A d =
    (λ t. fits_bare (names_of P) (takes_fits (names_of P) A d t), λ f. fits_takes (names_of P) (guarded P s) A d (bare_fits (names_of P) A d f))

pub ways_settle : WaysSettle
ways_settle P s A d n h =
    let r : (size d + 1) * length (names_of P) ≤ unfoldings (names_of P) d = omega arith in
    sym (stable (names_of P) (guarded P s) (unfoldings (names_of P) d) n h A d r)

pub fits_settles : FitsSettles
fits_settles P s T d n h = (within_bound (names_of P) (guarded P s) T d n h, λ w. from_within (names_of P) T d (n, w))

pub fits_is_within_some : FitsIsWithinSome
fits_is_within_some E T d = (λ f. to_within E f, from_within E T d)

pub heads_decide : HeadsDecide
heads_decide P s T d i =
    (λ f. fits_head (names_of P) (guarded P s) T d f (filled d i), λ h. head_fits (names_of P) T h.0 d h.1 h.2)

pub empty_decides : EmptyDecides
empty_decides P s T = (empty_right (names_of P) T, empty_exact (names_of P) (guarded P s) T)

pub heads_settle_in : HeadsSettle
heads_settle_in P s T n h = heads_settle (names_of P) (guarded P s) T n h

pub fuel_left : FuelIsLeft
fuel_left = fuel_is_left

pub consistent_proofs_hold_in : ConsistentProofsHold
consistent_proofs_hold_in P s goals c = all_claims (names_of P) (guarded P s) goals c
