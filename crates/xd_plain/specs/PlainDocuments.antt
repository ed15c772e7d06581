-- What plain documents stand for.
use Rattle.xd_doc.specs.Document as D
use Rattle.xd_doc.specs.Document.{Document}
use Rattle.xd_plain.specs.declared.document.PlainDocument.{PlainDocument}
use Rattle.xd_plain.specs.declared.document.PlainDocument.TheVariants.{Empty, Text', Elem'}

abbrev pub document_of : PlainDocument → Document
document_of Empty = D.empty
document_of (Text' s p r) = D.text s (document_of r)
document_of (Elem' l p c q r) = D.element l (document_of c) (document_of r)
