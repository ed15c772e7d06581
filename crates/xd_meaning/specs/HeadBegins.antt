-- Documents that begin with a head.
use Rattle.std.specs.Prelude.{◌≡◌, true}
use Rattle.xd_doc.specs.Document.{Document, empty, text, element}
use Rattle.xd_doc.specs.Classes.{LabelClass, TextClass, class_has}
use Rattle.xd_syntax.specs.Tree.{Tree, Definitions}
use Rattle.xd_syntax.specs.Fits.{Fits}
use Rattle.xd_rules.specs.Heads.{Head, element_in, text_in}

-- the document begins as the head says
abbrev pub Begins : Definitions → Head Tree → Document → Type 0
Begins E h empty = ⊥
Begins E h (text s r) = (w : TextClass) × (h.kind ≡ text_in w) × (class_has w s ≡ true) × Fits E h.rest r
Begins E h (element l k r) = (c : LabelClass) × (h.kind ≡ element_in c) × (class_has c l ≡ true) × Fits E h.content k × Fits E h.rest r
