-- Laws of what bytes spell.
use Rattle.std.specs.Prelude.{◌≡◌, ℕ, List, true}
use Rattle.xd_doc.specs.Document.{Document, is_proper, canonical_text}
use Rattle.xd_base.specs.declared.Place.{Place}
use Rattle.xd_read.specs.Reading.{BytesSpell, SpellsNothing, IsMalformedAt}

-- the canonical text of a document spells it
abbrev pub CanonicalTextSpells : Type 0
CanonicalTextSpells = (d : Document) → is_proper d ≡ true → BytesSpell (canonical_text d) d

-- bytes spell at most one document
abbrev pub SpellsAtMostOne : Type 0
SpellsAtMostOne = (bytes : List ℕ) (d e : Document) → BytesSpell bytes d → BytesSpell bytes e → d ≡ e

-- whoever reads the canonical text of a document gets this document
abbrev pub CanonicalTextReadsBack : Type 0
CanonicalTextReadsBack = (d e : Document) → is_proper d ≡ true → BytesSpell (canonical_text d) e → e ≡ d

-- bytes are malformed at one place at most
abbrev pub MalformedAtOnePlace : Type 0
MalformedAtOnePlace = (bytes : List ℕ) (p q : Place) → IsMalformedAt bytes p → IsMalformedAt bytes q → p ≡ q

-- bytes that are malformed spell no document
abbrev pub MalformedSpellsNothing : Type 0
MalformedSpellsNothing = (bytes : List ℕ) (p : Place) → IsMalformedAt bytes p → SpellsNothing bytes
