-- Where an error of reading stands.
use Rattle.xd_base.specs.declared.Place.{Place}
use Rattle.xd_read.specs.declared.error.ReadError.{ReadError}
use Rattle.xd_read.specs.declared.error.ReadError.TheVariants.{Malformed, NoMemory}

-- a fact of the place, where the error has one
abbrev pub IfMalformed : ReadError → (Place → Type 0) → Type 0
IfMalformed (Malformed place) P = P place
IfMalformed NoMemory P = Unit {0}
