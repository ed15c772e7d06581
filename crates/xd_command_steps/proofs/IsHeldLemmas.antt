-- What a fetched text that is too long tells.
use Rattle.std.proofs.Common.{◌≡◌, ℕ, ◌+◌, ◌<◌, List, length, Option, Some, None, refl, ap, arith, length-take}
use Rattle.xd_base.specs.Transfers.{GivesFront, IsFrontOf}
use Rattle.xd_command_steps.specs.Texts.{Holding, IsHeld}

front_long : (n : ℕ) (t : Option (List ℕ)) (bytes : List ℕ) → IsFrontOf t (n + 1) bytes → n < length bytes → (text : List ℕ) × ((t ≡ Some text) × (n < length text))
front_long n (Some t) bytes e h = (t, (refl, omega (arith, ap length e, length-take (n + 1) t)))
front_long n None bytes e h = absurd e

pub long_told : (holds : Holding) (name : List ℕ) (n : ℕ) (bytes : List ℕ) → GivesFront holds name (n + 1) bytes → n < length bytes → (text : List ℕ) × (IsHeld holds name text × (n < length text))
long_told (Some texts) name n bytes g h = front_long n (texts name) bytes g h
long_told None name n bytes g h = (bytes, (tt, h))
