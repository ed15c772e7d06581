-- The nodes of a store, and the documents that they stand for.
use Rattle.std.specs.Prelude.{◌≡◌, ℕ, ◌+◌, ◌<◌, ◌⊎◌, Bool, true, List, [], ◌∷◌, ◌++◌, length, Option, Some, None, nat_eq, unwrap_or, slice_index_or}
use Rattle.std.specs.Str.{is_utf8}
use Rattle.std.specs.HashMap.{HashMap, get}
use Rattle.std.specs.List.{AllByRecursion, Contains}
use Rattle.xd_doc.specs.Word.{is_word}
use Rattle.xd_doc.specs.Document.{Document, empty, text, element, join}
use Rattle.xd_doc.specs.DocumentCode.{first_then, breadth}
use Rattle.xd_doc.specs.declared.store.Seq.{Seq}
use Rattle.xd_doc.specs.declared.store.Item.{Item}
use Rattle.xd_doc.specs.declared.store.Item.TheVariants.{Text, Elem}
use Rattle.xd_doc.specs.declared.store.Node.{Node}
use Rattle.xd_doc.specs.Stored.{document_at}
use Rattle.xd_doc.specs.StoredSeq.{BelongsTo, IsBelow}

-- the `Seq` with no item
abbrev pub no_items : Seq
no_items = record { node = None }

-- the document that begins at a node
abbrev pub node_seq : ℕ → Seq
node_seq i = record { node = Some i }

-- the number of the node where it begins
abbrev pub place_in_store : Seq → Option ℕ
place_in_store seq = seq.node

-- an item before a document
abbrev pub item_before : Item → Document → Document → Document
item_before (Text s) c r = text s r
item_before (Elem l) c r = element l c r

abbrev pub is_proper_item : Item → Bool
is_proper_item (Text s) = is_utf8 s
is_proper_item (Elem l) = is_word l

abbrev pub node_document : List Document → Node → Document
node_document ds n = item_before n.item (document_at ds n.content) (document_at ds n.next)

-- the nodes' documents, after those of older nodes
abbrev pub documents_after : List Document → List Node → List Document
documents_after ds [] = ds
documents_after ds (n ∷ ns) = documents_after (ds ++ node_document ds n ∷ []) ns

abbrev pub documents : List Node → List Document
documents ns = documents_after [] ns

-- the first item, if there is one
abbrev pub first_of_document : Document → Option Item
first_of_document empty = None
first_of_document (text s r) = Some (Text s)
first_of_document (element l c r) = Some (Elem l)

-- a text has no content
abbrev pub IsBare : Item → Seq → Type 0
IsBare (Text s) content = content ≡ no_items
IsBare (Elem l) content = Unit {0}

-- a node's item is proper, and its links are among these documents
pub record IsLinked (ds : List Document) (n : Node) : Type 0 where
  pub bare : IsBare n.item n.content
  pub item : is_proper_item n.item ≡ true
  pub content : BelongsTo ds n.content
  pub next : BelongsTo ds n.next

-- each node's links are among the documents of older nodes
abbrev pub AreLinked : List Document → List Node → Type 0
AreLinked ds [] = Unit {0}
AreLinked ds (n ∷ ns) = IsLinked ds n × AreLinked (ds ++ node_document ds n ∷ []) ns

-- each old document stands where it stood
pub record Keeps (old new : List Document) : Type 0 where
  pub belongs : (seq : Seq) → BelongsTo old seq → BelongsTo new seq
  pub same : (seq : Seq) → BelongsTo old seq → document_at new seq ≡ document_at old seq

abbrev pub place_of : Option ℕ → ℕ
place_of None = 0
place_of (Some i) = i

-- a node older than the other; the empty one is older than each
abbrev pub IsOlder : Seq → Seq → Type 0
IsOlder a b = IsBelow (place_of b.node) a.node

-- the first items of these, in order, and then a document
abbrev pub firsts_then : List Document → List Seq → Document → Document
firsts_then ds [] d = d
firsts_then ds (seq ∷ seqs) d = first_then (document_at ds seq) (firsts_then ds seqs d)

-- these are the nodes of the items of a document, in order
pub record IsSpine (ds : List Document) (seq : Seq) (seqs : List Seq) : Type 0 where
  pub belong : AllByRecursion (BelongsTo ds) seqs
  pub items : (d : Document) → firsts_then ds seqs d ≡ join (document_at ds seq) d
  pub count : length seqs ≡ breadth (document_at ds seq)

-- these documents, one after the other
abbrev pub joined_at : List Document → List Seq → Document
joined_at ds [] = empty
joined_at ds (part ∷ parts) = join (document_at ds part) (joined_at ds parts)

-- how many items all of these but the last have of their own
abbrev pub breadth_before_last : List Document → List Seq → ℕ
breadth_before_last ds [] = 0
breadth_before_last ds (part ∷ []) = 0
breadth_before_last ds (part ∷ (next ∷ parts)) = breadth (document_at ds part) + breadth_before_last ds (next ∷ parts)

-- none, one of these places, or a place that is settled elsewhere
abbrev pub IsMet : (ℕ → Type 0) → List ℕ → Option ℕ → Type 0
IsMet settled places None = Unit {0}
IsMet settled places (Some i) = Contains places i ⊎ settled i

-- each is the place of a node whose links stand after it or are settled
abbrev pub AreClosed : List Node → (ℕ → Type 0) → List ℕ → Type 0
AreClosed ns settled [] = Unit {0}
AreClosed ns settled (i ∷ is) = (i < length ns) × ((n : Node) → n ≡ slice_index_or ns i n → IsMet settled is n.content.node × IsMet settled is n.next.node) × AreClosed ns settled is

-- the copy of the node at this place; none, where there is no place
abbrev pub copy_at : {S : Type 0} → HashMap ℕ Seq S → Option ℕ → Seq
copy_at copies None = no_items
copy_at copies (Some i) = unwrap_or (get nat_eq copies i) no_items
