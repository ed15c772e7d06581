-- What terminals complete a document from where the reader stands.
use Rattle.std.specs.Prelude.{◌≡◌, ℕ, List, [], ◌∷◌}
use Rattle.xd_doc.specs.Document.{Document, empty, text, element, join}
use Rattle.xd_read.specs.Grammar.{Terminal, ParenR, BracketR, End, Whole, Content, Behind, Items}
use Rattle.xd_read.specs.declared.moves.Expect.{Expect}
use Rattle.xd_read.specs.declared.moves.Expect.TheVariants as expects

-- an open element: its label, and the items before it in what holds it
pub record Frame : Type 0 where
  pub label : List ℕ
  pub before : Document

-- the terminals ts spell the items that are left where these are expected, and then the terminals
-- us follow
abbrev pub Rest : Expect → Document → List Terminal → List Terminal → Type 0
Rest expects.Document r ts us = Items Whole r ts us
Rest expects.Content r ts us = Items Content r ts us
Rest expects.More r ts us = Items Behind r ts us
Rest expects.Item empty ts us = ⊥
Rest expects.Item (text s r) ts us = Items Content (text s r) ts us
Rest expects.Item (element l c r) ts us = Items Content (element l c r) ts us
Rest expects.Closing empty ts us = ts ≡ ParenR ∷ us
Rest expects.Closing (text s r) ts us = ⊥
Rest expects.Closing (element l c r) ts us = ⊥
Rest expects.Closed empty ts us = ts ≡ us
Rest expects.Closed (text s r) ts us = ⊥
Rest expects.Closed (element l c r) ts us = ⊥

-- after the items of the innermost open element, the terminals us complete the document d
abbrev pub Up : List Frame → Document → List Terminal → Document → Type 0
Up [] items us d = (us ≡ End ∷ []) × (items ≡ d)
Up (f ∷ fs) items us d = (vs : List Terminal) × (r : Document) × (ws : List Terminal) × (us ≡ BracketR ∷ vs) × Items Behind r vs ws × Up fs (join (join f.before (element f.label items empty)) r) ws d

-- after these items of the innermost open element, the terminals ts complete the document d
abbrev pub Completes : Expect → Document → List Frame → List Terminal → Document → Type 0
Completes e front fs ts d = (r : Document) × (us : List Terminal) × Rest e r ts us × Up fs (join front r) us d
