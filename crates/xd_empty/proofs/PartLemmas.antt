-- On the part of an automaton that leads to states that accept something.
use Rattle.std.proofs.Common.{◌≡◌, ℕ, zero, suc, ◌+◌, ◌<◌, ◌≤◌, inl, inr, Bool, true, false, cond, ◌&&◌, ◌||◌, List, [], ◌∷◌, ◌++◌, map, take, length, get_or, Option, Some, None, is_some, refl, ap, sym, ◌∙◌, arith, subst, append_assoc, append-nil}
use Rattle.std.specs.List.{list_any, filter}
use Rattle.std.proofs.lemmas.Bool.{cases_lt}
use Rattle.std.proofs.lemmas.List.{get_or_past, get_or-set_same}
use Rattle.std.proofs.lemmas.List.Elements.{filter_more}
use Rattle.xd_doc.specs.Document.{Document, empty, text, element}
use Rattle.xd_doc.specs.Stored.{document_at}
use Rattle.xd_doc.specs.Classes.{class_has}
use Rattle.xd_doc.specs.declared.store.Seq.{Seq}
use Rattle.xd_doc.proofs.Bools.{and_left, and_right, and_false}
use Rattle.xd_auto.specs.declared.auto.State.{State}
use Rattle.xd_auto.specs.declared.auto.LabelMove.{LabelMove}
use Rattle.xd_auto.specs.declared.auto.TextMove.{TextMove}
use Rattle.xd_auto.specs.Automaton.{Automaton, ChangesOnly, IsState, StateMoves, accepts, moves_at, no_moves, state_number, with_label_move, with_text_move}
use Rattle.xd_auto.specs.Copying.{IsCopyOf, IsReached, is_content, is_rest, LeadsTo, by_element, by_text}
use Rattle.xd_empty.specs.Inhabited.{AreInhabitants}
use Rattle.xd_empty.specs.Parts.{AddsLabels, AddsTexts, AreMarks, HasDocument, IsInhabitedPart, IsKeptPart, is_marked, leads_on, text_leads_on}

-- the marks of the states for which a document was found
pub marks_are : (a : Automaton) (ds : List Document) (fs : List (Option Seq)) → AreInhabitants a ds fs → AreMarks a (map is_some fs)
marks_are a ds fs h = record {
  count = count fs ∙ h.count;
  some = λ s e. some s (get_or fs (state_number s) None) refl (sym (at s) ∙ e);
  none = λ s e d. h.none s (unknown (get_or fs (state_number s) None) (sym (at s) ∙ e)) d;
}
  where
    count : (xs : List (Option Seq)) → length (map is_some xs) ≡ length xs
    count [] = refl
    count (x ∷ xs) = ap suc (count xs)

    at : (s : State) → is_marked (map is_some fs) s ≡ is_some (get_or fs (state_number s) None)
    at s = go fs (state_number s)
      where
        go : (xs : List (Option Seq)) (n : ℕ) → get_or (map is_some xs) n false ≡ is_some (get_or xs n None)
        go [] n = refl
        go (x ∷ xs) zero = refl
        go (x ∷ xs) (suc n) = go xs n

    some : (s : State) (f : Option Seq) → get_or fs (state_number s) None ≡ f → is_some f ≡ true → HasDocument a s
    some s None is e = absurd (cc)
    some s (Some seq) is e =
        let w = h.witnesses s seq is in
        record { document = document_at ds seq; proper = w.belongs.proper; accepted = w.accepted }

    unknown : (f : Option Seq) → is_some f ≡ false → f ≡ None
    unknown None e = refl
    unknown (Some seq) e = absurd (cc)

module _ {X : Type 0} (p f : X → Bool) where
  -- a test that fails wherever another does finds the same in what passes that
  any_filter : (xs : List X) → ((x : X) → p x ≡ false → f x ≡ false) → list_any f (filter p xs) ≡ list_any f xs
  any_filter [] h = refl
  any_filter (x ∷ xs) h = go (p x) refl (any_filter xs h)
    where
      go : (b : Bool) → p x ≡ b → list_any f (filter p xs) ≡ list_any f xs → list_any f (cond b (x ∷ filter p xs) (filter p xs)) ≡ (f x || list_any f xs)
      go true e more = ap (λ w. f x || w) more
      go false e more = more ∙ ap (λ w. w || list_any f xs) (sym (h x e))

passes : {X : Type 0} (p : X → Bool) (xs : List X) (k : ℕ) (d : X) → k < length (filter p xs) → p (get_or (filter p xs) k d) ≡ true
passes {X} p [] k d lt = absurd (omega arith)
passes {X} p (x ∷ xs) k d lt = go (p x) refl k lt (λ n l. passes p xs n d l)
  where
    go : (b : Bool) → p x ≡ b → (n : ℕ) → n < length (cond b (x ∷ filter p xs) (filter p xs)) → ((m : ℕ) → m < length (filter p xs) → p (get_or (filter p xs) m d) ≡ true) → p (get_or (cond b (x ∷ filter p xs) (filter p xs)) n d) ≡ true
    go true e zero l more = e
    go true e (suc n) l more = more n (omega arith)
    go false e n l more = more n l

any_same : {X : Type 0} (f g : X → Bool) (xs : List X) → ((x : X) → f x ≡ g x) → list_any f xs ≡ list_any g xs
any_same f g [] h = refl
any_same f g (x ∷ xs) h = ap (λ w. w || list_any f xs) (h x) ∙ ap (λ w. g x || w) (any_same f g xs h)

module _ (a : Automaton) (marks : List Bool) (made : Automaton) (are : AreMarks a marks) (kept : IsKeptPart a marks made) where
  -- moves that lead to states without documents take nothing
  kept_accepts : (d : Document) (s : State) → accepts made d s ≡ accepts a d s
  kept_accepts empty s = kept.last s
  kept_accepts (text t r) s =
      ap (list_any (λ (m : TextMove). class_has m.words t && accepts made r m.rest)) (kept.texts s)
      ∙ any_same _ _ (filter (text_leads_on marks) (moves_at a s).texts) (λ m. ap (λ w. class_has m.words t && w) (kept_accepts r m.rest))
      ∙ any_filter (text_leads_on marks) (λ m. class_has m.words t && accepts a r m.rest) (moves_at a s).texts
      (λ m e. ap (λ w. class_has m.words t && w) (are.none m.rest e r) ∙ and_false (class_has m.words t))
  kept_accepts (element l c r) s =
      ap (list_any (λ (m : LabelMove). class_has m.class l && (accepts made c m.content && accepts made r m.rest))) (kept.labels s)
      ∙ any_same _ _ (filter (leads_on marks) (moves_at a s).labels) (λ m. ap (λ w. class_has m.class l && (w && accepts made r m.rest)) (kept_accepts c m.content)
      ∙ ap (λ w. class_has m.class l && (accepts a c m.content && w)) (kept_accepts r m.rest))
      ∙ any_filter (leads_on marks) (λ m. class_has m.class l && (accepts a c m.content && accepts a r m.rest)) (moves_at a s).labels
      (λ m e. ap (λ w. class_has m.class l && w) (nothing m (is_marked marks m.content) refl e) ∙ and_false (class_has m.class l))
    where
      nothing : (m : LabelMove) (b : Bool) → is_marked marks m.content ≡ b → (is_marked marks m.content && is_marked marks m.rest) ≡ false → (accepts a c m.content && accepts a r m.rest) ≡ false
      nothing m true e n =
          let rest : is_marked marks m.rest ≡ false = sym (ap (λ w. w && is_marked marks m.rest) e) ∙ n in
          ap (λ w. accepts a c m.content && w) (are.none m.rest rest r) ∙ and_false (accepts a c m.content)
      nothing m false e n = ap (λ w. w && accepts a r m.rest) (are.none m.content e c)

  -- moves lead to marked states
  kept_leads : (r t : State) → LeadsTo made r t → is_marked marks t ≡ true
  kept_leads r t (by_text among) =
      let m = passes (text_leads_on marks) (moves_at a r).texts among.1.0 among.0 (subst (λ (ms : List TextMove). among.1.0 < length ms) (kept.texts r) among.1.1) in
      subst (λ (w : State). is_marked marks w ≡ true) among.2 (subst (λ (m : TextMove). is_marked marks m.rest ≡ true) (sym (ap (λ ms. get_or ms among.1.0 among.0) (kept.texts r)) ∙ among.1.2) m)
  kept_leads r t (by_element (is_content m on among e)) =
      let h = passes (leads_on marks) (moves_at a r).labels among.0 m (subst (λ (ms : List LabelMove). among.0 < length ms) (kept.labels r) among.1) in
      let leads : leads_on marks m ≡ true = subst (λ (w : LabelMove). leads_on marks w ≡ true) (sym (ap (λ ms. get_or ms among.0 m) (kept.labels r)) ∙ among.2) h in
      subst (λ (w : State). is_marked marks w ≡ true) e (and_left (is_marked marks m.content) (is_marked marks m.rest) leads)
  kept_leads r t (by_element (is_rest m among e)) =
      let h = passes (leads_on marks) (moves_at a r).labels among.0 m (subst (λ (ms : List LabelMove). among.0 < length ms) (kept.labels r) among.1) in
      let leads : leads_on marks m ≡ true = subst (λ (w : LabelMove). leads_on marks w ≡ true) (sym (ap (λ ms. get_or ms among.0 m) (kept.labels r)) ∙ among.2) h in
      subst (λ (w : State). is_marked marks w ≡ true) e (and_right (is_marked marks m.content) (is_marked marks m.rest) leads)

  pub part_accepts : (first : Automaton) (first_start start : State) (last : Automaton) (last_start : State) → ((d : Document) → accepts a d start ≡ accepts first d first_start)
      → ((d : Document) → accepts last d last_start ≡ accepts made d start) → (d : Document) → accepts last d last_start ≡ accepts first d first_start
  part_accepts first first_start start last last_start one two d = two d ∙ kept_accepts d start ∙ one d

  pub part_inhabited : (start : State) (last : Automaton) (last_start : State) → ((s : State) → IsState last s → IsReached last last_start s)
      → ((s : State) → IsState last s → IsCopyOf made start last last_start s) → IsInhabitedPart last last_start
  part_inhabited start last last_start reached originals = record {
    reached = reached;
    inhabited = λ s is other.
        let o = originals s is in
        let led = o.led other in
        let h = are.some o.original (kept_leads led.0 o.original led.2) in
        record { document = h.document; proper = h.proper; accepted = o.same h.document ∙ kept_accepts h.document o.original ∙ h.accepted };
  }

pub changes_none : (s : State) (a : Automaton) → ChangesOnly s a a
changes_none s a = record { states = refl; others = λ t ne. refl }

pub changes_trans : (s : State) (a b c : Automaton) → ChangesOnly s a b → ChangesOnly s b c → ChangesOnly s a c
changes_trans s a b c one two = record { states = two.states ∙ one.states; others = λ t ne. two.others t ne ∙ one.others t ne }

-- one more move is given, or left out
module _ (marks : List Bool) (s : State) (old mid : Automaton) (i : ℕ) where
  module _ (moves : List LabelMove) (m : LabelMove) (lt : i < length moves) (at : m ≡ get_or moves i m) (before : AddsLabels marks s (take i moves) old mid) where
    more_labels : (b : Bool) → leads_on marks m ≡ b → filter (leads_on marks) (take (i + 1) moves) ≡ filter (leads_on marks) (take i moves) ++ cond b (m ∷ []) []
    more_labels b e =
        filter_more (leads_on marks) moves i m lt
        ∙ ap (λ (w : LabelMove). filter (leads_on marks) (take i moves) ++ cond (leads_on marks w) (w ∷ []) []) (sym at)
        ∙ ap (λ w. filter (leads_on marks) (take i moves) ++ cond w (m ∷ []) []) e

    pub label_added : (new : Automaton) → leads_on marks m ≡ true → IsState old s → new ≡ with_label_move mid s m → ChangesOnly s mid new → AddsLabels marks s (take (i + 1) moves) old new
    label_added new leads is ok changes =
        let there : state_number s < length mid = omega (arith, before.others.states) in
        let now : moves_at new s ≡ record (moves_at mid s) { labels = (moves_at mid s).labels ++ m ∷ [] } =
        ap (λ w. moves_at w s) ok ∙ get_or-set_same mid (state_number s) (record (moves_at mid s) { labels = (moves_at mid s).labels ++ m ∷ [] }) (no_moves false) there in
        record {
          others = changes_trans s old mid new before.others changes;
          last = ap (λ (w : StateMoves). w.last) now ∙ before.last;
          labels = ap (λ (w : StateMoves). w.labels) now ∙ ap (λ w. w ++ m ∷ []) before.labels ∙ append_assoc (moves_at old s).labels (filter (leads_on marks) (take i moves)) (m ∷ [])
              ∙ ap (λ w. (moves_at old s).labels ++ w) (sym (more_labels true leads));
          texts = ap (λ (w : StateMoves). w.texts) now ∙ before.texts;
        }

    pub label_left_out : leads_on marks m ≡ false → AddsLabels marks s (take (i + 1) moves) old mid
    label_left_out leads = record {
      others = before.others;
      last = before.last;
      labels = before.labels ∙ ap (λ w. (moves_at old s).labels ++ w) (sym (more_labels false leads ∙ append-nil (filter (leads_on marks) (take i moves))));
      texts = before.texts;
    }

  module _ (moves : List TextMove) (m : TextMove) (lt : i < length moves) (at : m ≡ get_or moves i m) (before : AddsTexts marks s (take i moves) old mid) where
    more_texts : (b : Bool) → text_leads_on marks m ≡ b → filter (text_leads_on marks) (take (i + 1) moves) ≡ filter (text_leads_on marks) (take i moves) ++ cond b (m ∷ []) []
    more_texts b e =
        filter_more (text_leads_on marks) moves i m lt
        ∙ ap (λ (w : TextMove). filter (text_leads_on marks) (take i moves) ++ cond (text_leads_on marks w) (w ∷ []) []) (sym at)
        ∙ ap (λ w. filter (text_leads_on marks) (take i moves) ++ cond w (m ∷ []) []) e

    pub text_added : (new : Automaton) → text_leads_on marks m ≡ true → IsState old s → new ≡ with_text_move mid s m → ChangesOnly s mid new → AddsTexts marks s (take (i + 1) moves) old new
    text_added new leads is ok changes =
        let there : state_number s < length mid = omega (arith, before.others.states) in
        let now : moves_at new s ≡ record (moves_at mid s) { texts = (moves_at mid s).texts ++ m ∷ [] } =
        ap (λ w. moves_at w s) ok ∙ get_or-set_same mid (state_number s) (record (moves_at mid s) { texts = (moves_at mid s).texts ++ m ∷ [] }) (no_moves false) there in
        record {
          others = changes_trans s old mid new before.others changes;
          last = ap (λ (w : StateMoves). w.last) now ∙ before.last;
          labels = ap (λ (w : StateMoves). w.labels) now ∙ before.labels;
          texts = ap (λ (w : StateMoves). w.texts) now ∙ ap (λ w. w ++ m ∷ []) before.texts ∙ append_assoc (moves_at old s).texts (filter (text_leads_on marks) (take i moves)) (m ∷ [])
              ∙ ap (λ w. (moves_at old s).texts ++ w) (sym (more_texts true leads));
        }

    pub text_left_out : text_leads_on marks m ≡ false → AddsTexts marks s (take (i + 1) moves) old mid
    text_left_out leads = record {
      others = before.others;
      last = before.last;
      labels = before.labels;
      texts = before.texts ∙ ap (λ w. (moves_at old s).texts ++ w) (sym (more_texts false leads ∙ append-nil (filter (text_leads_on marks) (take i moves))));
    }

-- the state has its moves
pub record IsKeptState (a : Automaton) (marks : List Bool) (made : Automaton) (s : State) : Type 0 where
  pub last : (moves_at made s).last ≡ (moves_at a s).last
  pub labels : (moves_at made s).labels ≡ filter (leads_on marks) (moves_at a s).labels
  pub texts : (moves_at made s).texts ≡ filter (text_leads_on marks) (moves_at a s).texts

-- the first states have their moves, and the others none yet
pub record KeepsFirst (a : Automaton) (marks : List Bool) (made : Automaton) (n : ℕ) : Type 0 where
  pub count : length made ≡ length a
  pub done : (s : State) → state_number s < n → state_number s < length a → IsKeptState a marks made s
  pub bare : (s : State) → n ≤ state_number s → state_number s < length a → moves_at made s ≡ no_moves (moves_at a s).last

-- all states have their moves
pub keeps_all : (a : Automaton) (marks : List Bool) (made : Automaton) (n : ℕ) → length a ≤ n → KeepsFirst a marks made n → IsKeptPart a marks made
keeps_all a marks made n all h = record {
  count = h.count;
  last = λ s. (state s).last;
  labels = λ s. (state s).labels;
  texts = λ s. (state s).texts;
}
  where
    state : (s : State) → IsKeptState a marks made s
    state s = elim (cases_lt (state_number s) (length a)) [
      | inl lt ↦ h.done s (omega arith) lt
      | inr le ↦
          let old : moves_at a s ≡ no_moves false = get_or_past a (state_number s) (no_moves false) le in
          let new : moves_at made s ≡ no_moves false = get_or_past made (state_number s) (no_moves false) (omega (arith, h.count)) in
          record {
            last = ap (λ (m : StateMoves). m.last) new ∙ sym (ap (λ (m : StateMoves). m.last) old);
            labels = ap (λ (m : StateMoves). m.labels) new ∙ sym (ap (λ (m : StateMoves). filter (leads_on marks) m.labels) old);
            texts = ap (λ (m : StateMoves). m.texts) new ∙ sym (ap (λ (m : StateMoves). filter (text_leads_on marks) m.texts) old);
          }
    ]
