-- On the nodes that a document reaches, and on their copies.
use Rattle.std.proofs.Common.{Bool, true, false, ◌≡◌, ℕ, ◌+◌, ◌<◌, ◌⊎◌, inl, inr, ⊎_elim, List, [], ◌∷◌, ◌++◌, cond, length, get_or, nat_eq, Option, Some, None, Vec, vec_len, rules, refl, ap, sym, ◌∙◌, arith, zero-add, zero, suc, length-append}
use Rattle.std.specs.HashMap.{HashMap, IsEmpty, get}
use Rattle.std.specs.List.{Contains, sum_by}
use Rattle.std.specs.List.Sorted.{IsPermutation}
use Rattle.std.specs.Option.{IsSome, is_some, option_to_list}
use Rattle.std.proofs.lemmas.List.Elements.{Contains-append_cases, Contains-append_left, Contains-append_right, Contains-push, Contains-push_cases}
use Rattle.std.proofs.lemmas.List.Sorted.{Contains-permutation, IsPermutation-sym, sum_by_popped, sum_by_pushed, sum_by-IsPermutation}
use Rattle.std.proofs.lemmas.Bool.{eqb-true}
use Rattle.xd_doc.specs.Document.{Document, empty, size}
use Rattle.xd_doc.specs.StoreNodes.{AreClosed, AreLinked, IsBare, IsMet, Keeps, copy_at, documents, is_proper_item, item_before}
use Rattle.xd_doc.specs.Stored.{at_node, document_at}
use Rattle.xd_doc.specs.StoredSeq.{BelongsTo, IsBelow}
use Rattle.xd_doc.specs.declared.store.Node.{Node}
use Rattle.xd_doc.specs.declared.store.Seq.{Seq}
use Rattle.xd_doc.proofs.StoredLemmas.{StandsAt, size-parts, stands}

-- a list that has no element
pub none_contained : {X : Type 0} (x : X) → Contains [] x → ⊥
none_contained x h = absurd (omega (arith, h.1))

pub front_or_rest : (x y : ℕ) (xs : List ℕ) → Contains (x ∷ xs) y → (x ≡ y) ⊎ Contains xs y
front_or_rest x y xs h = ⊎_elim
    (λ a. ⊎_elim (λ n. absurd (none_contained y n)) (λ e. inl e) (Contains-push_cases [] x y a))
    (λ b. inr b)
    (Contains-append_cases (x ∷ []) xs y h)

-- what is met stays so, where what is settled stays so or stands among the places
pub met_still : (P Q : ℕ → Type 0) (is js : List ℕ) → ((i : ℕ) → Contains is i ⊎ P i → Contains js i ⊎ Q i) → (o : Option ℕ) → IsMet P is o → IsMet Q js o
met_still P Q is js f None h = tt
met_still P Q is js f (Some i) h = f i h

-- one more place, whose links are settled
pub closed_push : (ns : List Node) (P Q : ℕ → Type 0) (is : List ℕ) (p : ℕ) → AreClosed ns P is → ((i : ℕ) → P i → (i ≡ p) ⊎ Q i) → p < length ns → ((n : Node) → n ≡ get_or ns p n → IsMet Q [] n.content.node × IsMet Q [] n.next.node) → AreClosed ns Q (is ++ p ∷ [])
closed_push ns P Q [] p h f lt links = (lt, links, tt)
closed_push ns P Q (i ∷ is) p h f lt links =
    (h.0, (λ n e. let old = h.1 n e in (met_still P Q is (is ++ p ∷ []) kept n.content.node old.0, met_still P Q is (is ++ p ∷ []) kept n.next.node old.1)), closed_push ns P Q is p h.2 f lt links)
  where
    kept : (j : ℕ) → Contains is j ⊎ P j → Contains (is ++ p ∷ []) j ⊎ Q j
    kept j (inl a) = inl (Contains-append_left is (p ∷ []) j a)
    kept j (inr b) = ⊎_elim (λ (e : j ≡ p). inl (rw e (Contains-push is p))) (λ q. inr q) (f j b)

-- the last place waited a second time
pub closed_again : (ns : List Node) (P Q : ℕ → Type 0) (is : List ℕ) (p : ℕ) → AreLinked [] ns → AreClosed ns P (is ++ p ∷ []) → ((i : ℕ) → P i → (i ≡ p) ⊎ Q i) → AreClosed ns Q (is ++ p ∷ [])
closed_again ns P Q [] p a h f =
    (h.0, (λ n e. let old = h.1 n e in let s = stands ns p n a h.0 e in (own n.content.node s.content_older old.0, own n.next.node s.next_older old.1)), tt)
  where
    own : (o : Option ℕ) → IsBelow p o → IsMet P [] o → IsMet Q [] o
    own None b w = tt
    own (Some j) b (inl c) = inl c
    own (Some j) b (inr c) = ⊎_elim (λ (e : j ≡ p). absurd (omega arith)) (λ q. inr q) (f j c)
closed_again ns P Q (i ∷ is) p a h f =
    (h.0, (λ n e. let old = h.1 n e in (met_still P Q (is ++ p ∷ []) (is ++ p ∷ []) kept n.content.node old.0, met_still P Q (is ++ p ∷ []) (is ++ p ∷ []) kept n.next.node old.1)), closed_again ns P Q is p a h.2 f)
  where
    kept : (j : ℕ) → Contains (is ++ p ∷ []) j ⊎ P j → Contains (is ++ p ∷ []) j ⊎ Q j
    kept j (inl c) = inl c
    kept j (inr b) = ⊎_elim (λ (e : j ≡ p). inl (rw e (Contains-push is p))) (λ q. inr q) (f j b)

-- the last place is a node, and its links are settled
pub record LastOf (ns : List Node) (P : ℕ → Type 0) (p : ℕ) : Type 0 where
  pub place : p < length ns
  pub links : (n : Node) → n ≡ get_or ns p n → IsMet P [] n.content.node × IsMet P [] n.next.node

pub closed_last : (ns : List Node) (P : ℕ → Type 0) (is : List ℕ) (p : ℕ) → AreClosed ns P (is ++ p ∷ []) → LastOf ns P p
closed_last ns P [] p h = record { place = h.0; links = h.1 }
closed_last ns P (i ∷ is) p h = closed_last ns P is p h.2

-- without the last place, which is settled now
pub closed_front : (ns : List Node) (P Q : ℕ → Type 0) (is : List ℕ) (p : ℕ) → AreClosed ns P (is ++ p ∷ []) → ((i : ℕ) → P i → Q i) → Q p → AreClosed ns Q is
closed_front ns P Q [] p h f q = tt
closed_front ns P Q (i ∷ is) p h f q =
    (h.0, (λ n e. let old = h.1 n e in (met_still P Q (is ++ p ∷ []) is kept n.content.node old.0, met_still P Q (is ++ p ∷ []) is kept n.next.node old.1)), closed_front ns P Q is p h.2 f q)
  where
    kept : (j : ℕ) → Contains (is ++ p ∷ []) j ⊎ P j → Contains is j ⊎ Q j
    kept j (inl c) = ⊎_elim (λ a. inl a) (λ (e : p ≡ j). inr (rw e at q)) (Contains-push_cases is p j c)
    kept j (inr b) = inr (f j b)

pub met_front : (P Q : ℕ → Type 0) (is : List ℕ) (p : ℕ) (o : Option ℕ) → IsMet P (is ++ p ∷ []) o → ((i : ℕ) → P i → Q i) → Q p → IsMet Q is o
met_front P Q is p None h f q = tt
met_front P Q is p (Some j) (inl c) f q = ⊎_elim (λ a. inl a) (λ (e : p ≡ j). inr (rw e at q)) (Contains-push_cases is p j c)
met_front P Q is p (Some j) (inr b) f q = inr (f j b)

-- this stands last
abbrev pub IsLast : List ℕ → ℕ → Type 0
IsLast xs x = (front : List ℕ) × (xs ≡ front ++ x ∷ [])

pub closed_twice : (ns : List Node) (P Q : ℕ → Type 0) (is : List ℕ) (p : ℕ) → AreLinked [] ns → IsLast is p → AreClosed ns P is → ((i : ℕ) → P i → (i ≡ p) ⊎ Q i) → AreClosed ns Q is
closed_twice ns P Q is p a l h f =
    let e = l.1 in
    rw e (closed_again ns P Q l.0 p a (rw e at h) f)

-- the sizes of the documents at these places
abbrev pub sizes : List Document → List ℕ → ℕ
sizes ds is = sum_by (λ i. size (get_or ds i empty)) is

-- what waits once a link does
pub record Waits (old : List ℕ) (o : Option ℕ) (new : List ℕ) : Type 0 where
  pub before : (i : ℕ) → Contains old i → Contains new i
  pub link : IsMet (Contains new) [] o
  pub cases : (i : ℕ) → Contains new i → (o ≡ Some i) ⊎ Contains old i
  pub total : (ds : List Document) → sizes ds new ≡ size (at_node ds o) + sizes ds old

pub waits : (old new : List ℕ) (o : Option ℕ) → IsPermutation (option_to_list o ++ old) new → Waits old o new
waits old new None h = record {
  before = λ i c. Contains-permutation old new i h c;
  link = tt;
  cases = λ i c. inr (Contains-permutation new old i (IsPermutation-sym old new h) c);
  total = λ ds. sum_by-IsPermutation (λ i. size (get_or ds i empty)) old new h ∙ sym (zero-add (sizes ds old));
}
waits old new (Some p) h = record {
  before = λ i c. Contains-permutation (p ∷ old) new i h (Contains-append_right (p ∷ []) old i c);
  link = inr (Contains-permutation (p ∷ old) new p h (0, omega arith, refl));
  cases = λ i c. ⊎_elim (λ (e : p ≡ i). inl (ap Some e)) (λ w. inr w) (front_or_rest p i old (Contains-permutation new (p ∷ old) i (IsPermutation-sym (p ∷ old) new h) c));
  total = λ ds. sum_by_pushed (λ i. size (get_or ds i empty)) p old new h;
}

-- what waits once the greatest place is taken
pub record Takes (old : List ℕ) (p : ℕ) (new : List ℕ) : Type 0 where
  pub here : Contains old p
  pub after : (i : ℕ) → Contains new i → Contains old i
  pub cases : (i : ℕ) → Contains old i → (i ≡ p) ⊎ Contains new i
  pub total : (ds : List Document) → sizes ds new + size (get_or ds p empty) ≡ sizes ds old

pub takes : (old new : List ℕ) (p : ℕ) → IsPermutation old (p ∷ new) → Takes old p new
takes old new p h =
    let back = IsPermutation-sym old (p ∷ new) h in
    record {
      here = Contains-permutation (p ∷ new) old p back (0, omega arith, refl);
      after = λ i c. Contains-permutation (p ∷ new) old i back (Contains-append_right (p ∷ []) new i c);
      cases = λ i c. ⊎_elim (λ (e : p ≡ i). inl (sym e)) (λ w. inr w) (front_or_rest p i new (Contains-permutation old (p ∷ new) i h c));
      total = λ ds. sum_by_popped (λ i. size (get_or ds i empty)) p old new h;
    }

pub last_contained : (xs : List ℕ) (x : ℕ) → IsLast xs x → Contains xs x
last_contained xs x h = rw h.1 (Contains-push h.0 x)

pub last_length : (xs : List ℕ) (x : ℕ) → IsLast xs x → 0 < length xs
last_length xs x h = omega (arith, ap length h.1, length-append h.0 (x ∷ []))

-- what is settled stays so
pub closed_still : (ns : List Node) (P Q : ℕ → Type 0) (is : List ℕ) → AreClosed ns P is → ((i : ℕ) → P i → Q i) → AreClosed ns Q is
closed_still ns P Q [] h f = tt
closed_still ns P Q (i ∷ is) h f =
    (h.0, (λ n e. let old = h.1 n e in (met_still P Q is is kept n.content.node old.0, met_still P Q is is kept n.next.node old.1)), closed_still ns P Q is h.2 f)
  where
    kept : (j : ℕ) → Contains is j ⊎ P j → Contains is j ⊎ Q j
    kept j (inl c) = inl c
    kept j (inr b) = inr (f j b)

-- the node at a place
pub node_at : (ns : List Node) (i : ℕ) → i < length ns → (n : Node) × (n ≡ get_or ns i n)
node_at [] i h = absurd (omega arith)
node_at (n ∷ ns) zero h = (n, refl)
node_at (n ∷ ns) (suc i) h = node_at ns i (omega arith)

-- the items of a node's document: its own, and those of its links
pub size_node : (ds : List Document) (i : ℕ) (n : Node) → StandsAt ds i n → size (get_or ds i empty) ≡ size (at_node ds n.content.node) + size (at_node ds n.next.node) + 1
size_node ds i n s = ap size s.document ∙ size-parts n.item ds n.content n.next s.linked.bare

pub size_some : (ns : List Node) (i : ℕ) → AreLinked [] ns → i < length ns → 0 < size (get_or (documents ns) i empty)
size_some ns i a h =
    let n = node_at ns i h in
    omega (arith, size_node (documents ns) i n.0 (stands ns i n.0 a h n.1))

-- a node's copy stands for what the node does
pub record IsCopied {S : Type 0} (ds es : List Document) (copies : HashMap ℕ Seq S) (o : Option ℕ) : Type 0 where
  pub belongs : BelongsTo es (copy_at copies o)
  pub same : document_at es (copy_at copies o) ≡ at_node ds o

abbrev pub has_copy : {S : Type 0} → HashMap ℕ Seq S → ℕ → Type 0
has_copy copies i = IsSome (get nat_eq copies i)

abbrev pub AreCopied : {S : Type 0} → List Document → List Document → HashMap ℕ Seq S → Type 0
AreCopied ds es copies = (i : ℕ) → has_copy copies i → IsCopied ds es copies (Some i)

-- a map with no entry has no copy
pub copied_none : {S : Type 0} → (copies : HashMap ℕ Seq S) → IsEmpty copies → (i : ℕ) → has_copy copies i → ⊥
copied_none copies e i h =
    let none : get nat_eq copies i ≡ None = rw e refl in
    let no : is_some (get nat_eq copies i) ≡ false = rw none refl in
    cc

-- a link that is settled is copied
pub copied_link : {S : Type 0} → (ds es : List Document) (copies : HashMap ℕ Seq S) (o : Option ℕ) → AreCopied ds es copies → IsMet (has_copy copies) [] o → IsCopied ds es copies o
copied_link ds es copies None h w = record { belongs = record { place = tt; proper = refl; filled = refl }; same = refl }
copied_link ds es copies (Some i) h (inl n) = absurd (none_contained i n)
copied_link ds es copies (Some i) h (inr s) = h i s

-- where no place is left, the document's own node is copied
pub copied_all : {Z S : Type 0} (v : Vec ℕ Z) (ds es : List Document) (copies : HashMap ℕ Seq S) (o : Option ℕ) → AreCopied ds es copies → IsMet (has_copy copies) v.items o → vec_len v ≡ 0 → IsCopied ds es copies o
copied_all v ds es copies o h m e =
    let w : vec_len v ≡ length v.items = search rules in
    copied_link ds es copies o h (met_still _ _ v.items [] (λ i s. ⊎_elim (λ (c : Contains v.items i). absurd (omega (arith, c.1))) (λ g. inr g) s) o m)

-- a node whose links are copied
pub record IsReady {S : Type 0} (ds es : List Document) (copies : HashMap ℕ Seq S) (p : ℕ) (n : Node) : Type 0 where
  pub item : is_proper_item n.item ≡ true
  pub bare : IsBare n.item n.content
  pub content : BelongsTo es (copy_at copies n.content.node)
  pub next : BelongsTo es (copy_at copies n.next.node)
  pub document : item_before n.item (document_at es (copy_at copies n.content.node)) (document_at es (copy_at copies n.next.node)) ≡ get_or ds p empty

pub is_ready : {S : Type 0} → (ns : List Node) (ds es : List Document) (copies : HashMap ℕ Seq S) (is front : List ℕ) (p : ℕ) (n : Node) → AreLinked [] ns → documents ns ≡ ds → AreCopied ds es copies → AreClosed ns (has_copy copies) is → is ≡ front ++ p ∷ [] → n ≡ get_or ns p n → IsReady ds es copies p n
is_ready ns ds es copies is front p n a v h closed e g =
    let last = closed_last ns (has_copy copies) front p (rw e at closed) in
    let links = last.links n g in
    let c = copied_link ds es copies n.content.node h links.0 in
    let x = copied_link ds es copies n.next.node h links.1 in
    let s = rw v at (stands ns p n a last.place g) in
    record {
      item = s.linked.item;
      bare = s.linked.bare;
      content = c.belongs;
      next = x.belongs;
      document = rw (c.same, x.same) (sym s.document);
    }

-- the last place is one of the vector's
pub last_in : {Z : Type 0} (v : Vec Node Z) (P : ℕ → Type 0) (is front : List ℕ) (p : ℕ) → AreClosed v.items P is → is ≡ front ++ p ∷ [] → p < vec_len v
last_in v P is front p closed e =
    let w : vec_len v ≡ length v.items = search rules in
    let last = closed_last v.items P front p (rw e at closed) in
    omega (arith, last.place)

-- the copies with one more
pub record Adds {S : Type 0} (old : HashMap ℕ Seq S) (p : ℕ) (c : Seq) (new : HashMap ℕ Seq S) : Type 0 where
  pub at : (i : ℕ) → get nat_eq new i ≡ cond (nat_eq p i) (Some c) (get nat_eq old i)
  pub here : get nat_eq new p ≡ Some c

pub copy_stays : {S : Type 0} → (old new : HashMap ℕ Seq S) (p : ℕ) (c : Seq) → Adds old p c new → (i : ℕ) → has_copy old i → has_copy new i
copy_stays old new p c a i h = step (nat_eq p i) (a.at i)
  where
    step : (b : Bool) → get nat_eq new i ≡ cond b (Some c) (get nat_eq old i) → has_copy new i
    step true e = rw e refl
    step false e = rw e h

pub copy_here : {S : Type 0} → (old new : HashMap ℕ Seq S) (p : ℕ) (c : Seq) → Adds old p c new → has_copy new p
copy_here old new p c a = rw a.here refl

pub copied_more : {S : Type 0} → (ds es fs : List Document) (old new : HashMap ℕ Seq S) (p : ℕ) (c : Seq) → AreCopied ds es old → Keeps es fs → Adds old p c new → BelongsTo fs c → document_at fs c ≡ get_or ds p empty → AreCopied ds fs new
copied_more ds es fs old new p c h k a belongs same i w = step (nat_eq p i) refl (a.at i)
  where
    step : (b : Bool) → nat_eq p i ≡ b → get nat_eq new i ≡ cond b (Some c) (get nat_eq old i) → IsCopied ds fs new (Some i)
    step true t e =
        let at : p ≡ i = eqb-true p i t in
        record { belongs = rw e belongs; same = rw e (same ∙ ap (λ j. get_or ds j empty) at) }
    step false t e =
        let was = h i (rw e at w) in
        record { belongs = rw e (k.belongs _ was.belongs); same = rw e (k.same _ was.belongs ∙ was.same) }
