-- What the values of an evaluation stand for.
use Rattle.std.specs.Prelude.{◌≡◌, ℕ, ◌+◌, ◌-◌, ◌^◌, ◌<◌, List, [], ◌∷◌, ◌++◌, length, slice_index_or, Option, Some, None}
use Rattle.xd_doc.specs.Document.{Document, empty, join}
use Rattle.xd_doc.specs.StoredSeq.{BelongsTo}
use Rattle.xd_doc.specs.StoreNodes.{node_seq}
use Rattle.xd_doc.specs.declared.store.Seq.{Seq}
use Rattle.xd_eval.specs.declared.joins.Value.{Value}
use Rattle.xd_eval.specs.declared.joins.Value.TheVariants.{Empty, Stored, Joined}
use Rattle.xd_eval.specs.declared.joins.Join.{Join}
use Rattle.xd_eval.specs.declared.joins.Met.{Met}

-- the documents of a store's nodes, and those that joins stand for
pub record World : Type 0 where
  pub documents : List Document
  pub joined : List Document

-- the document that a value stands for
abbrev pub value_at : World → Value → Document
value_at w Empty = empty
value_at w (Stored i) = slice_index_or w.documents i empty
value_at w (Joined i) = slice_index_or w.joined i empty

-- the value stands for one of the store's documents, or for one of the joined ones
abbrev pub Stands : World → Value → Type 0
Stands w Empty = Unit {0}
Stands w (Stored i) = BelongsTo w.documents (node_seq i)
Stands w (Joined i) = i < length w.joined

abbrev pub value_from : Option ℕ → Value
value_from None = Empty
value_from (Some i) = Stored i

-- the value of a document that is in the store
abbrev pub value_of : Seq → Value
value_of seq = value_from seq.node

-- the document of a join
abbrev pub joined_by : World → Join → Document
joined_by w j = join (value_at w j.front) (value_at w j.back)

-- the documents of joins, after those of older ones
abbrev pub joined_after : (ds older : List Document) → List Join → List Document
joined_after ds older [] = older
joined_after ds older (j ∷ js) = joined_after ds (older ++ joined_by record { documents = ds; joined = older } j ∷ []) js

-- each join's sides stand for documents of the store or of older joins
abbrev pub AreJoined : (ds older : List Document) → List Join → Type 0
AreJoined ds older [] = Unit {0}
AreJoined ds older (j ∷ js) =
    Stands record { documents = ds; joined = older } j.front × Stands record { documents = ds; joined = older } j.back
    × AreJoined ds (older ++ joined_by record { documents = ds; joined = older } j ∷ []) js

-- a store with these documents, and these joins
abbrev pub world : List Document → List Join → World
world ds js = record { documents = ds; joined = joined_after ds [] js }

abbrev pub JoinsStand : List Document → List Join → Type 0
JoinsStand ds js = AreJoined ds [] js

-- each value stands for what it stood for
pub record KeepsValues (old new : World) : Type 0 where
  pub stands : (v : Value) → Stands old v → Stands new v
  pub same : (v : Value) → Stands old v → value_at new v ≡ value_at old v

-- a join has this place, and its sides have smaller ones
abbrev pub place_of_value : Value → ℕ
place_of_value Empty = 0
place_of_value (Stored i) = 0
place_of_value (Joined i) = i + 1

-- these values, and then a document
abbrev pub values_then : World → List Value → Document → Document
values_then w [] d = d
values_then w (v ∷ vs) d = join (value_at w v) (values_then w vs d)

-- more than a join's sides have together
abbrev pub weights : List Value → ℕ
weights [] = 0
weights (v ∷ vs) = (2 ^ (place_of_value v + 1) - 1) + weights vs

-- the fronts of these joins, and then a document
abbrev pub fronts_then : World → List Met → Document → Document
fronts_then w [] d = d
fronts_then w (m ∷ ms) d = join (value_at w m.front) (fronts_then w ms d)

-- each of these joins has its front before what follows it, which this document ends
abbrev pub AreMet : World → List Met → Document → Type 0
AreMet w [] d = Unit {0}
AreMet w (m ∷ ms) d =
    (m.number < length w.joined) × Stands w m.front × (value_at w (Joined m.number) ≡ join (value_at w m.front) (fronts_then w ms d)) × AreMet w ms d
