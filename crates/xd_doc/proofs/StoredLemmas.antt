-- On the documents of a list of nodes.
use Rattle.std.proofs.Common.{true, false, ◌≡◌, ℕ, zero, suc, ◌+◌, ◌<◌, ◌≤◌, List, [], ◌∷◌, ◌++◌, length, get_or, Option, Some, None, refl, ap, sym, ◌∙◌, arith, length-append, add-zero, zero-add, Vec, vec_len, rules, drop}
use Rattle.std.proofs.lemmas.List.{get_or_append_left, length_push}
use Rattle.std.proofs.Math.Seq.{get_or-append_seam}
use Rattle.std.specs.List.{AllByRecursion}
use Rattle.xd_doc.specs.Document.{Document, empty, text, element, is_proper, has_item, join, size}
use Rattle.xd_doc.specs.DocumentCode.{rest_of, content_of, first_then, breadth}
use Rattle.xd_doc.specs.Stored.{at_node, document_at}
use Rattle.xd_doc.specs.StoredSeq.{IsBelow, BelongsTo}
use Rattle.xd_doc.specs.StoreNodes.{item_before, is_proper_item, node_document, documents_after, documents, AreLinked, IsLinked, IsBare, Keeps, IsOlder, first_of_document, firsts_then, joined_at, breadth_before_last, no_items}
use Rattle.xd_doc.specs.declared.store.Seq.{Seq}
use Rattle.xd_doc.specs.declared.store.Node.{Node}
use Rattle.xd_doc.specs.declared.store.Item.{Item}
use Rattle.xd_doc.specs.declared.store.Item.TheVariants.{Text, Elem}
use Rattle.xd_doc.proofs.Joins.{join_empty-right}

pub documents_after-append : (ds : List Document) (xs ys : List Node) → documents_after ds (xs ++ ys) ≡ documents_after (documents_after ds xs) ys
documents_after-append ds [] ys = refl
documents_after-append ds (x ∷ xs) ys = documents_after-append (ds ++ node_document ds x ∷ []) xs ys

pub documents-push : (ns : List Node) (n : Node) → documents (ns ++ n ∷ []) ≡ documents ns ++ node_document (documents ns) n ∷ []
documents-push ns n = documents_after-append [] ns (n ∷ [])

pub length-documents_after : (ds : List Document) (ns : List Node) → length (documents_after ds ns) ≡ length ds + length ns
length-documents_after ds [] = omega arith
length-documents_after ds (n ∷ ns) = omega (arith, length-documents_after (ds ++ node_document ds n ∷ []) ns, length-append ds (node_document ds n ∷ []))

pub length-documents : (ns : List Node) → length (documents ns) ≡ length ns
length-documents ns = omega (arith, length-documents_after [] ns)

-- a node's place is kept where the list grows
pub at_node-append : (ds es : List Document) (o : Option ℕ) → IsBelow (length ds) o → at_node (ds ++ es) o ≡ at_node ds o
at_node-append ds es None h = refl
at_node-append ds es (Some i) h = get_or_append_left ds es empty i h

pub IsBelow-append : (ds es : List Document) (o : Option ℕ) → IsBelow (length ds) o → IsBelow (length (ds ++ es)) o
IsBelow-append ds es None h = tt
IsBelow-append ds es (Some i) h = omega (arith, length-append ds es)

pub BelongsTo-append : (ds es : List Document) (seq : Seq) → BelongsTo ds seq → BelongsTo (ds ++ es) seq
BelongsTo-append ds es seq h =
    let e = at_node-append ds es seq.node h.place in
    record {
      place = IsBelow-append ds es seq.node h.place;
      proper = ap is_proper e ∙ h.proper;
      filled = ap has_item e ∙ h.filled;
    }

pub Keeps-append : (ds es : List Document) → Keeps ds (ds ++ es)
Keeps-append ds es = record {
  belongs = BelongsTo-append ds es;
  same = λ seq h. at_node-append ds es seq.node h.place;
}

pub Keeps-same : (ds : List Document) → Keeps ds ds
Keeps-same ds = record { belongs = λ seq h. h; same = λ seq h. refl }

pub Keeps-trans : (ds es fs : List Document) → Keeps ds es → Keeps es fs → Keeps ds fs
Keeps-trans ds es fs a b = record {
  belongs = λ seq h. b.belongs seq (a.belongs seq h);
  same = λ seq h. b.same seq (a.belongs seq h) ∙ a.same seq h;
}

pub Keeps-documents_after : (ds : List Document) (ns : List Node) → Keeps ds (documents_after ds ns)
Keeps-documents_after ds [] = Keeps-same ds
Keeps-documents_after ds (n ∷ ns) = Keeps-trans ds (ds ++ node_document ds n ∷ []) (documents_after ds (n ∷ ns)) (Keeps-append ds (node_document ds n ∷ [])) (Keeps-documents_after (ds ++ node_document ds n ∷ []) ns)

pub AreLinked-append : (ds : List Document) (ns : List Node) (n : Node) → AreLinked ds ns → IsLinked (documents_after ds ns) n → AreLinked ds (ns ++ n ∷ [])
AreLinked-append ds [] n h l = (l, tt)
AreLinked-append ds (m ∷ ns) n h l = (h.0, AreLinked-append (ds ++ node_document ds m ∷ []) ns n h.1 l)

pub AreLinked-push : (ns : List Node) (n : Node) → AreLinked [] ns → IsLinked (documents ns) n → AreLinked [] (ns ++ n ∷ [])
AreLinked-push ns n h l = AreLinked-append [] ns n h l

pub item_before-proper : (i : Item) (c r : Document) → is_proper_item i ≡ true → is_proper c ≡ true → is_proper r ≡ true → is_proper (item_before i c r) ≡ true
item_before-proper (Text s) c r h p q = rw (h, q)
item_before-proper (Elem l) c r h p q = rw (h, p, q)

pub item_before-filled : (i : Item) (c r : Document) → has_item (item_before i c r) ≡ true
item_before-filled (Text s) c r = refl
item_before-filled (Elem l) c r = refl

-- a new node belongs to the documents with its own
pub BelongsTo-new : (ds : List Document) (n : Node) → IsLinked ds n → BelongsTo (ds ++ node_document ds n ∷ []) (record { node = Some (length ds) })
BelongsTo-new ds n h =
    let e = get_or-append_seam ds (node_document ds n) [] empty in
    record {
      place = omega (arith, length-append ds (node_document ds n ∷ []));
      proper = ap is_proper e ∙ item_before-proper n.item _ _ h.item h.content.proper h.next.proper;
      filled = ap has_item e ∙ item_before-filled n.item _ _;
    }

-- what a node stands for, and that its links are older
pub record StandsAt (ds : List Document) (i : ℕ) (n : Node) : Type 0 where
  pub document : get_or ds i empty ≡ node_document ds n
  pub linked : IsLinked ds n
  pub content_older : IsBelow i n.content.node
  pub next_older : IsBelow i n.next.node

IsLinked-keeps : (ds es : List Document) (n : Node) → Keeps ds es → IsLinked ds n → IsLinked es n
IsLinked-keeps ds es n k h = record { bare = h.bare; item = h.item; content = k.belongs n.content h.content; next = k.belongs n.next h.next }

node_document-keeps : (ds es : List Document) (n : Node) → Keeps ds es → IsLinked ds n → node_document es n ≡ node_document ds n
node_document-keeps ds es n k h =
    ap (λ d. item_before n.item d (document_at es n.next)) (k.same n.content h.content)
    ∙ ap (item_before n.item (document_at ds n.content)) (k.same n.next h.next)

stands_first : (ds : List Document) (ns : List Node) (n : Node) → IsLinked ds n → StandsAt (documents_after ds (n ∷ ns)) (length ds) n
stands_first ds ns n h =
    let k = Keeps-documents_after ds (n ∷ ns) in
    let later = Keeps-documents_after (ds ++ node_document ds n ∷ []) ns in
    record {
      document = later.same (record { node = Some (length ds) }) (BelongsTo-new ds n h) ∙ get_or-append_seam ds (node_document ds n) [] empty ∙ sym (node_document-keeps ds (documents_after ds (n ∷ ns)) n k h);
      linked = IsLinked-keeps ds (documents_after ds (n ∷ ns)) n k h;
      content_older = h.content.place;
      next_older = h.next.place;
    }

stands_after : (ds : List Document) (ns : List Node) (i : ℕ) (n : Node) → AreLinked ds ns → i < length ns → n ≡ get_or ns i n → StandsAt (documents_after ds ns) (length ds + i) n
stands_after ds [] i n h l e = absurd (omega arith)
stands_after ds (m ∷ ns) zero n h l e =
    let same : n ≡ m = e in
    rw (add-zero, same) (stands_first ds ns m h.0)
stands_after ds (m ∷ ns) (suc i) n h l e =
    let e1 : length (ds ++ node_document ds m ∷ []) ≡ length ds + 1 = length-append ds (node_document ds m ∷ []) in
    let e2 : length (ds ++ node_document ds m ∷ []) + i ≡ length ds + suc i = omega arith in
    rw e2 at (stands_after (ds ++ node_document ds m ∷ []) ns i n h.1 (omega arith) e)

-- the node at a place
pub stands : (ns : List Node) (i : ℕ) (n : Node) → AreLinked [] ns → i < length ns → n ≡ get_or ns i n → StandsAt (documents ns) i n
stands ns i n h l e = rw zero-add at (stands_after [] ns i n h l e)

-- what is read at a place that a `Seq` of the store names
pub record Reads (now : List Document) (seq : Seq) (n : Node) : Type 0 where
  pub linked : IsLinked now n
  pub document : document_at now seq ≡ node_document now n
  pub content_older : IsOlder n.content seq
  pub next_older : IsOlder n.next seq

-- how many nodes a vector has
pub length-nodes : {Z : Type 0} (v : Vec Node Z) (now : List Document) → documents v.items ≡ now → vec_len v ≡ length now
length-nodes v now e =
    let l : vec_len v ≡ length v.items = search rules in
    l ∙ sym (length-documents v.items) ∙ ap length e

-- the place is one of the vector
pub in_vec : {Z : Type 0} (v : Vec Node Z) (now : List Document) (seq : Seq) (i : ℕ) → documents v.items ≡ now → BelongsTo now seq → seq.node ≡ Some i → i < vec_len v
in_vec v now seq i e h s =
    let p : IsBelow (length now) (Some i) = rw s at h.place in
    omega (arith, length-nodes v now e)

pub in_store : (ns : List Node) (now : List Document) (seq : Seq) (i : ℕ) → documents ns ≡ now → BelongsTo now seq → seq.node ≡ Some i → i < length ns
in_store ns now seq i v h e =
    let p : IsBelow (length now) (Some i) = rw e at h.place in
    omega (arith, length-documents ns, ap length v)

pub reads : (ns : List Node) (now : List Document) (seq : Seq) (i : ℕ) (n : Node) → AreLinked [] ns → documents ns ≡ now → BelongsTo now seq → seq.node ≡ Some i → n ≡ get_or ns i n → Reads now seq n
reads ns now seq i n a v h e g =
    let l = in_store ns now seq i v h e in
    let s = rw v at (stands ns i n a l g) in
    record {
      linked = s.linked;
      document = rw e s.document;
      content_older = rw e s.content_older;
      next_older = rw e s.next_older;
    }

pub rest_of-item_before : (i : Item) (c r : Document) → rest_of (item_before i c r) ≡ r
rest_of-item_before (Text s) c r = refl
rest_of-item_before (Elem l) c r = refl

pub content_of-text : (i : Item) (s : List ℕ) (c r : Document) → i ≡ Text s → content_of (item_before i c r) ≡ empty
content_of-text i s c r e = rw e

pub content_of-element : (i : Item) (l : List ℕ) (c r : Document) → i ≡ Elem l → content_of (item_before i c r) ≡ c
content_of-element i l c r e = rw e

pub first-item_before : (i : Item) (c r : Document) → first_of_document (item_before i c r) ≡ Some i
first-item_before (Text s) c r = refl
first-item_before (Elem l) c r = refl

pub firsts_then-append : (ds : List Document) (xs : List Seq) (seq : Seq) (d : Document) → firsts_then ds (xs ++ seq ∷ []) d ≡ firsts_then ds xs (first_then (document_at ds seq) d)
firsts_then-append ds [] seq d = refl
firsts_then-append ds (x ∷ xs) seq d = ap (first_then (document_at ds x)) (firsts_then-append ds xs seq d)

pub first_then-join : (d e : Document) → first_then d (join (rest_of d) e) ≡ join d e
first_then-join empty e = refl
first_then-join (text s r) e = refl
first_then-join (element l c r) e = refl

-- the items so far, and what is left
pub record SpineSoFar (ds : List Document) (seq : Seq) (seqs : List Seq) (rest : Seq) : Type 0 where
  pub belong : AllByRecursion (BelongsTo ds) seqs
  pub left : BelongsTo ds rest
  pub items : (d : Document) → firsts_then ds seqs (join (document_at ds rest) d) ≡ join (document_at ds seq) d
  pub count : length seqs + breadth (document_at ds rest) ≡ breadth (document_at ds seq)

pub belong-push : (ds : List Document) (xs : List Seq) (seq : Seq) → AllByRecursion (BelongsTo ds) xs → BelongsTo ds seq → AllByRecursion (BelongsTo ds) (xs ++ seq ∷ [])
belong-push ds [] seq h b = (b, tt)
belong-push ds (x ∷ xs) seq h b = (h.0, belong-push ds xs seq h.1 b)

pub belong-front : (ds : List Document) (xs : List Seq) (seq : Seq) → AllByRecursion (BelongsTo ds) (xs ++ seq ∷ []) → AllByRecursion (BelongsTo ds) xs × BelongsTo ds seq
belong-front ds [] seq h = (tt, h.0)
belong-front ds (x ∷ xs) seq h = let b = belong-front ds xs seq h.1 in ((h.0, b.0), b.1)

breadth-rest_of : (d : Document) → has_item d ≡ true → breadth (rest_of d) + 1 ≡ breadth d
breadth-rest_of empty h = absurd (cc)
breadth-rest_of (text s r) h = refl
breadth-rest_of (element l c r) h = refl

pub spine_more : (ds : List Document) (seq : Seq) (seqs : List Seq) (rest next : Seq) → SpineSoFar ds seq seqs rest → BelongsTo ds next → document_at ds next ≡ rest_of (document_at ds rest) → has_item (document_at ds rest) ≡ true
    → SpineSoFar ds seq (seqs ++ rest ∷ []) next
spine_more ds seq seqs rest next h b e filled = record {
  belong = belong-push ds seqs rest h.belong h.left;
  left = b;
  items = λ d. rw (firsts_then-append, e, first_then-join) (h.items d);
  count = rw e (omega (arith, length_push seqs rest, breadth-rest_of (document_at ds rest) filled, h.count));
}

pub is_empty : (d : Document) → has_item d ≡ false → d ≡ empty
is_empty empty h = refl
is_empty (text s r) h = cc
is_empty (element l c r) h = cc

pub first_then-item_before : (i : Item) (c r e : Document) → first_then (item_before i c r) e ≡ item_before i c e
first_then-item_before (Text s) c r e = refl
first_then-item_before (Elem l) c r e = refl

pub IsBelow-more : (i j : ℕ) (o : Option ℕ) → i ≤ j → IsBelow i o → IsBelow j o
IsBelow-more i j None h b = tt
IsBelow-more i j (Some k) h b = omega arith

-- the node at a place of the vector
pub stands_in : {Z : Type 0} (v : Vec Node Z) (now : List Document) (i : ℕ) (n : Node) → AreLinked [] v.items → documents v.items ≡ now → i < vec_len v → n ≡ get_or v.items i n → StandsAt now i n
stands_in v now i n a e l g =
    let w : vec_len v ≡ length v.items = search rules in
    rw e at (stands v.items i n a (omega arith) g)

-- a number below that of the store's documents is the place of a node
pub in_nodes : {Z : Type 0} (v : Vec Node Z) (now : List Document) (i : ℕ) → documents v.items ≡ now → i < length now → i < vec_len v
in_nodes v now i e h = omega (arith, length-nodes v now e)

-- what begins at a node belongs to the store
pub belongs_at : (ns : List Node) (now : List Document) (i : ℕ) (n : Node) → AreLinked [] ns → documents ns ≡ now → i < length now → n ≡ get_or ns i n → BelongsTo now (record { node = Some i })
belongs_at ns now i n a v h g =
    let s = rw v at (stands ns i n a (omega (arith, length-documents ns, ap length v)) g) in
    record {
      place = h;
      proper = ap is_proper s.document ∙ item_before-proper n.item _ _ s.linked.item s.linked.content.proper s.linked.next.proper;
      filled = ap has_item s.document ∙ item_before-filled n.item _ _;
    }

pub bare_same : (i j : Item) (content : Seq) → i ≡ j → IsBare j content → IsBare i content
bare_same i j content e h = rw e h

pub size-parts : (i : Item) (ds : List Document) (content next : Seq) → IsBare i content → size (item_before i (document_at ds content) (document_at ds next)) ≡ size (document_at ds content) + size (document_at ds next) + 1
size-parts (Text s) ds content next h =
    let e : size (document_at ds content) ≡ 0 = ap (λ (c : Seq). size (document_at ds c)) h in
    omega arith
size-parts (Elem l) ds content next h = refl

pub belongs_in : (ds : List Document) (parts : List Seq) (i : ℕ) (d : Seq) → AllByRecursion (BelongsTo ds) parts → i < length parts → BelongsTo ds (get_or parts i d)
belongs_in ds [] i d h lt = absurd (omega arith)
belongs_in ds (x ∷ xs) zero d h lt = h.0
belongs_in ds (x ∷ xs) (suc i) d h lt = belongs_in ds xs i d h.1 (omega arith)

-- one more part in front
pub joined_more : (ds : List Document) (parts : List Seq) (i : ℕ) (d : Seq) → i < length parts
    → joined_at ds (drop i parts) ≡ join (document_at ds (get_or parts i d)) (joined_at ds (drop (suc i) parts))
joined_more ds [] i d lt = absurd (omega arith)
joined_more ds (x ∷ xs) zero d lt = refl
joined_more ds (x ∷ xs) (suc i) d lt = joined_more ds xs i d (omega arith)

pub breadth_more : (ds : List Document) (parts : List Seq) (i : ℕ) (d : Seq) → suc i < length parts
    → breadth_before_last ds (drop i parts) ≡ breadth (document_at ds (get_or parts i d)) + breadth_before_last ds (drop (suc i) parts)
breadth_more ds [] i d lt = absurd (omega arith)
breadth_more ds (x ∷ []) i d lt = absurd (omega arith)
breadth_more ds (x ∷ (y ∷ ys)) zero d lt = refl
breadth_more ds (x ∷ (y ∷ ys)) (suc i) d lt = breadth_more ds (y ∷ ys) i d (omega arith)

pub joined_last : (ds : List Document) (parts : List Seq) (i : ℕ) (d : Seq) → i + 1 ≡ length parts → document_at ds (get_or parts i d) ≡ joined_at ds (drop i parts)
joined_last ds [] i d e = absurd (omega arith)
joined_last ds (x ∷ []) zero d e = sym (join_empty-right (document_at ds x))
joined_last ds (x ∷ []) (suc i) d e = absurd (omega arith)
joined_last ds (x ∷ (y ∷ ys)) zero d e = absurd (omega arith)
joined_last ds (x ∷ (y ∷ ys)) (suc i) d e = joined_last ds (y ∷ ys) i d (omega arith)

pub breadth_drop : (ds : List Document) (parts : List Seq) (i : ℕ) → breadth_before_last ds (drop i parts) ≤ breadth_before_last ds parts
breadth_drop ds [] zero = omega arith
breadth_drop ds [] (suc i) = omega arith
breadth_drop ds (x ∷ xs) zero = omega arith
breadth_drop ds (x ∷ []) (suc i) = breadth_drop ds [] i
breadth_drop ds (x ∷ (y ∷ ys)) (suc i) = omega (arith, breadth_drop ds (y ∷ ys) i)

pub none_belongs : (ds : List Document) → BelongsTo ds no_items
none_belongs ds = record { place = tt; proper = refl; filled = refl }
