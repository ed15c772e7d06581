-- Names in order, on a sample.
use Rattle.std.proofs.Common.{[], ◌∷◌, refl, codes}
use Rattle.std.specs.Fmt.{digits}
use Rattle.xd_shown.specs.Shown.{AreNamedFrom, no_more, skipped, given}

-- where `S1` and `S3` are taken
two_taken : AreNamedFrom (codes "S1" ∷ codes "S3" ∷ []) 1 (codes "S2" ∷ codes "S4" ∷ codes "S5" ∷ [])
unfolding digits
two_taken = skipped refl (given refl (skipped refl (given refl (given refl no_more))))
