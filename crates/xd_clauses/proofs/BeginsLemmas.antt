-- With what documents begin that states accept.
use Rattle.std.proofs.Common.{◌≡◌, ℕ, ◌+◌, ◌<◌, Bool, true, false, ◌||◌, ◌&&◌, List, [], ◌∷◌, ◌++◌, length, take, get_or, refl, sym, ap, ◌∙◌, subst, arith}
use Rattle.std.specs.List.{list_any}
use Rattle.std.proofs.lemmas.List.Folds.{Any-from_list_any, list_any-append, list_any_more}
use Rattle.xd_doc.specs.Document.{Document, empty, text, element}
use Rattle.xd_doc.specs.Classes.{class_has}
use Rattle.xd_doc.proofs.SortedNames.{or_false}
use Rattle.xd_doc.proofs.Bools.{and_left, or_join}
use Rattle.xd_auto.specs.declared.auto.State.{State}
use Rattle.xd_auto.specs.declared.auto.LabelMove.{LabelMove}
use Rattle.xd_auto.specs.declared.auto.TextMove.{TextMove}
use Rattle.xd_auto.specs.Automaton.{Automaton, StateMoves, accepts, has_label, has_text, moves_at, takes_element, takes_word}
use Rattle.xd_auto.specs.Matching.{AreMatching}
use Rattle.xd_clauses.specs.Begins.{AddsNames, ShareNoName, may_begin}

-- ---- tests of lists

pub or_weaker : (a b c d : Bool) → (a ≡ true → c ≡ true) → (b ≡ true → d ≡ true) → (a || b) ≡ true → (c || d) ≡ true
or_weaker true b c d f g h = ap (λ w. w || d) (f refl)
or_weaker false b true d f g h = refl
or_weaker false b false d f g h = g h

any_weaker : {X : Type 0} (p q : X → Bool) (xs : List X) → ((x : X) → p x ≡ true → q x ≡ true) → list_any p xs ≡ true → list_any q xs ≡ true
any_weaker p q [] f h = absurd (cc)
any_weaker p q (x ∷ xs) f h = or_weaker (p x) (list_any p xs) (q x) (list_any q xs) (f x) (any_weaker p q xs f) h

-- ---- a state

-- a document that a state accepts begins with an item of a move
pub accepts_begins : (a : Automaton) (d : Document) (s : State) → accepts a d s ≡ true → may_begin (moves_at a s) d ≡ true
accepts_begins a empty s h = h
accepts_begins a (text t rest) s h = any_weaker (λ w. takes_word a t rest w) (λ w. has_text w t) (moves_at a s).texts (λ w k. and_left (class_has w.words t) (accepts a rest w.rest) k) h
accepts_begins a (element l content rest) s h =
    any_weaker (λ w. takes_element a l content rest w) (λ w. has_label w l) (moves_at a s).labels (λ w k. and_left (class_has w.class l) (accepts a content w.content && accepts a rest w.rest) k) h

-- no document of both begins alike
pub begin_apart : (m w : StateMoves) → (m.last ≡ true → w.last ≡ false) → ShareNoName has_label m.labels w.labels → ShareNoName has_text m.texts w.texts → (d : Document) → may_begin m d ≡ true → may_begin w d ≡ false
begin_apart m w last labels texts empty h = last h
begin_apart m w last labels texts (text t rest) h = texts t h
begin_apart m w last labels texts (element l content rest) h = labels l h

-- ---- moves that share no name

none_shared : {M N : Type 0} (has : M → N → Bool) (m : M) (twos : List M) (ns : List ℕ) → length ns ≡ 0 → AreMatching has m twos ns → (n : N) → has m n ≡ true → list_any (λ w. has w n) twos ≡ false
none_shared has m twos ns bare h n is = go (list_any (λ w. has w n) twos) refl
  where
    go : (b : Bool) → list_any (λ w. has w n) twos ≡ b → b ≡ false
    go false e = refl
    go true e =
        let some = Any-from_list_any (λ w. has w n) twos e in
        let found = h.cover some.0 some.1 n some.2 is (subst (λ w. has w n ≡ true) (sym some.3) some.4) in
        absurd (omega (arith, bare, found.1))

pub no_names : {M N : Type 0} (has : M → N → Bool) (twos : List M) → ShareNoName has [] twos
no_names has twos n h = absurd (cc)

pub share_more : {M N : Type 0} (has : M → N → Bool) (ones twos : List M) (ns : List ℕ) (i : ℕ) (m : M) → i < length ones → m ≡ get_or ones i m → length ns ≡ 0 → AreMatching has m twos ns → ShareNoName has (take i ones) twos → ShareNoName has (take (i + 1) ones) twos
share_more has ones twos ns i m lt at bare match h n is = go (list_any (λ w. has w n) (take i ones)) refl
  where
    go : (b : Bool) → list_any (λ w. has w n) (take i ones) ≡ b → list_any (λ w. has w n) twos ≡ false
    go true e = h n e
    go false e =
        let split : (list_any (λ w. has w n) (take i ones) || has (get_or ones i m) n) ≡ true = sym (list_any_more (λ w. has w n) ones i m lt) ∙ is in
        let here : has (get_or ones i m) n ≡ true = ap (λ b. b || has (get_or ones i m) n) (sym e) ∙ split in
        none_shared has m twos ns bare match n (ap (λ w. has w n) at ∙ here)

-- ---- more moves

pub adds_none : (m : StateMoves) → AddsNames false [] [] m m
adds_none m = record {
  last_of = sym (or_false m.last);
  labels_of = λ l. sym (or_false (list_any (λ w. has_label w l) m.labels));
  texts_of = λ t. sym (or_false (list_any (λ w. has_text w t) m.texts));
}

-- the names of one more move
name_more : {M N : Type 0} (has : M → N → Bool) (old mid new steps : List M) (i : ℕ) (m w : M) (n : N) → i < length steps → m ≡ get_or steps i m → has w n ≡ has m n → new ≡ mid ++ w ∷ []
    → list_any (λ k. has k n) mid ≡ (list_any (λ k. has k n) old || list_any (λ k. has k n) (take i steps)) → list_any (λ k. has k n) new ≡ (list_any (λ k. has k n) old || list_any (λ k. has k n) (take (i + 1) steps))
name_more has old mid new steps i m w n lt at same is before =
    ap (λ ks. list_any (λ k. has k n) ks) is ∙ list_any-append (λ k. has k n) mid (w ∷ []) ∙ ap (λ b. list_any (λ k. has k n) mid || b) (or_false (has w n) ∙ same ∙ ap (λ k. has k n) at)
    ∙ ap (λ b. b || has (get_or steps i m) n) before ∙ or_join (list_any (λ k. has k n) old) (list_any (λ k. has k n) (take i steps)) (has (get_or steps i m) n)
    ∙ ap (λ b. list_any (λ k. has k n) old || b) (sym (list_any_more (λ k. has k n) steps i m lt))

pub labels_more : (old mid new : StateMoves) (steps : List LabelMove) (i : ℕ) (m w : LabelMove) → i < length steps → m ≡ get_or steps i m → w.class ≡ m.class → new ≡ record mid { labels = mid.labels ++ w ∷ [] } → AddsNames false (take i steps) [] old mid
    → AddsNames false (take (i + 1) steps) [] old new
labels_more old mid new steps i m w lt at same is before = record {
  last_of = ap (λ (k : StateMoves). k.last) is ∙ before.last_of;
  labels_of = λ l. name_more has_label old.labels mid.labels new.labels steps i m w l lt at (ap (λ c. class_has c l) same) (ap (λ (k : StateMoves). k.labels) is) (before.labels_of l);
  texts_of = λ t. ap (λ (k : StateMoves). list_any (λ x. has_text x t) k.texts) is ∙ before.texts_of t;
}

pub texts_more : (old mid new : StateMoves) (steps : List TextMove) (i : ℕ) (m w : TextMove) → i < length steps → m ≡ get_or steps i m → w.words ≡ m.words → new ≡ record mid { texts = mid.texts ++ w ∷ [] } → AddsNames false [] (take i steps) old mid
    → AddsNames false [] (take (i + 1) steps) old new
texts_more old mid new steps i m w lt at same is before = record {
  last_of = ap (λ (k : StateMoves). k.last) is ∙ before.last_of;
  labels_of = λ l. ap (λ (k : StateMoves). list_any (λ x. has_label x l) k.labels) is ∙ before.labels_of l;
  texts_of = λ t. name_more has_text old.texts mid.texts new.texts steps i m w t lt at (ap (λ c. class_has c t) same) (ap (λ (k : StateMoves). k.texts) is) (before.texts_of t);
}

-- the flag, the labels and the texts of a state were added
pub adds_all : (m old one two new : StateMoves) → one ≡ record old { last = old.last || m.last } → AddsNames false m.labels [] one two → AddsNames false [] m.texts two new → (d : Document) → may_begin new d ≡ (may_begin old d || may_begin m d)
adds_all m old one two new is labels texts empty =
    texts.last_of ∙ or_false two.last ∙ labels.last_of ∙ or_false one.last ∙ ap (λ (k : StateMoves). k.last) is
adds_all m old one two new is labels texts (text t rest) =
    texts.texts_of t ∙ ap (λ b. b || list_any (λ w. has_text w t) m.texts) (labels.texts_of t ∙ or_false (list_any (λ w. has_text w t) one.texts) ∙ ap (λ (k : StateMoves). list_any (λ w. has_text w t) k.texts) is)
adds_all m old one two new is labels texts (element l content rest) =
    texts.labels_of l ∙ or_false (list_any (λ w. has_label w l) two.labels) ∙ labels.labels_of l ∙ ap (λ (k : StateMoves). list_any (λ w. has_label w l) k.labels || list_any (λ w. has_label w l) m.labels) is
