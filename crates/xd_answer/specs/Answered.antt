-- The texts that the caller holds, as a shelf.
use Rattle.xd_base.specs.MemoryShelf.{Held}
use Rattle.xd_base.specs.Outside.{HasRisen}
use Rattle.xd_answer.specs.declared.texts.Text.{Text}

-- a text and its name, as a shelf in memory has them
abbrev pub held_text : Text → Held
held_text t = record { name = t.name.now; text = t.bytes.now }

-- the count of the shelf's faults rose: it stays 0, so it never does
abbrev pub NoFault : Type 0
NoFault = HasRisen 0 0
