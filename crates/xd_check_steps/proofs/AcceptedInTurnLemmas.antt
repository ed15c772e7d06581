-- States that are made: of one text, and of documents one after the other.
use Rattle.std.proofs.Common.{◌≡◌, ◌↔◌, ℕ, ◌+◌, ◌<◌, arith, Bool, true, false, cond, not, nat_eq, List, [], ◌∷◌, ◌++◌, length, refl, ap, sym, subst, ◌∙◌, length-append, append-nil, append_assoc}
use Rattle.std.proofs.Math.Bool.{or-false}
use Rattle.std.specs.List.{AllByRecursion, list_any}
use Rattle.std.specs.Cmp.Lexicographic.{pointwise}
use Rattle.std.proofs.lemmas.Slice.Eq.{bytes_eq-Decides}
use Rattle.std.proofs.lemmas.List.{get_or-set_same, get_or_at}
use Rattle.std.proofs.lemmas.Bool.{and_from}
use Rattle.xd_doc.specs.Document.{Document, empty, text, element}
use Rattle.xd_doc.specs.Classes.{TextClass, class_has, is_named}
use Rattle.xd_doc.proofs.Bools.{and_left, and_right}
use Rattle.xd_auto.specs.declared.auto.State.{State}
use Rattle.xd_auto.specs.declared.auto.TextMove.{TextMove}
use Rattle.xd_auto.specs.Automaton.{Automaton, ChangesOnly, Extends, IsClosed, IsJoined, IsState, KeepsAccepting, StateMoves, accepts, moves_at, no_moves, state_number, with_text_move, takes_element, takes_word}
use Rattle.xd_auto.proofs.ExtendsLemmas.{keeps}
use Rattle.xd_auto.proofs.IsWrappedLemmas.{ends_alone}
use Rattle.xd_check_steps.specs.States.{AcceptedInTurn, Grows}
use Rattle.xd_check_steps.proofs.GrowsLemmas.{grows_then}

-- a state that has no moves and is not last accepts nothing
pub never : (b : Automaton) (e : State) → moves_at b e ≡ no_moves false → (d : Document) → accepts b d e ≡ true → ⊥
never b e is empty h = let bad : true ≡ false = sym h ∙ ap (λ (m : StateMoves). m.last) is in (cc)
never b e is (text t r) h =
    let bad : true ≡ false = sym h ∙ ap (λ (m : StateMoves). list_any (takes_word b t r) m.texts) is in (cc)
never b e is (element l c r) h =
    let bad : true ≡ false = sym h ∙ ap (λ (m : StateMoves). list_any (takes_element b l c r) m.labels) is in (cc)

-- what a new state has
pub new_moves : (a b : Automaton) (s : State) (last : Bool) → state_number s ≡ length a → b ≡ a ++ no_moves last ∷ [] → moves_at b s ≡ no_moves last
new_moves a b s last n e = ap (λ (c : Automaton). moves_at c s) e ∙ get_or_at a (no_moves last) [] (no_moves false) (state_number s) (sym n)

just_one : (w : TextClass) (s : List ℕ) → w.except ≡ false → ((t : List ℕ) → is_named w.names t ≡ is_named (s ∷ []) t) → (t : List ℕ) → class_has w t ≡ pointwise nat_eq s t
just_one w s e n t = ap (λ b. cond b (not (is_named w.names t)) (is_named w.names t)) e ∙ n t ∙ or-false (pointwise nat_eq s t)

module _ (b : Automaton) (s : List ℕ) (w : TextClass) (start end : State) (only : (t : List ℕ) → class_has w t ≡ pointwise nat_eq s t) (is : moves_at b start ≡ record { last = false; labels = []; texts = record { words = w; rest = end } ∷ [] }) (last : moves_at b end ≡ no_moves true) where
  abbrev its_move : TextMove
  its_move = record { words = w; rest = end }

  over_text : (t : List ℕ) (r : Document) → accepts b (text t r) start ≡ takes_word b t r its_move
  over_text t r = ap (λ (m : StateMoves). list_any (takes_word b t r) m.texts) is ∙ or-false (takes_word b t r its_move)

  one_text : (d : Document) → accepts b d start ≡ true → d ≡ text s empty
  one_text empty h = let bad : true ≡ false = sym h ∙ ap (λ (m : StateMoves). m.last) is in absurd (cc)
  one_text (text t r) h =
      let passes : takes_word b t r its_move ≡ true = sym (over_text t r) ∙ h in
      let same : s ≡ t = (bytes_eq-Decides s t).0 (sym (only t) ∙ and_left (class_has w t) (accepts b r end) passes) in
      let nothing : r ≡ empty = ends_alone b end last r (and_right (class_has w t) (accepts b r end) passes) in
      ap (λ u. text u r) (sym same) ∙ ap (text s) nothing
  one_text (element l c r) h =
      let bad : true ≡ false = sym h ∙ ap (λ (m : StateMoves). list_any (takes_element b l c r) m.labels) is in absurd (cc)

  the_text : accepts b (text s empty) start ≡ true
  the_text =
      over_text s empty
      ∙ and_from (class_has w s) (accepts b empty end) (only s ∙ (bytes_eq-Decides s s).1 refl) (ap (λ (m : StateMoves). m.last) last)

  pub text_law : (d : Document) → (accepts b d start ≡ true) ↔ (d ≡ text s empty)
  text_law d = (one_text d, λ e. subst (λ x. accepts b x start ≡ true) (sym e) the_text)

-- two states are added, and the second gets a move to the first
pub record IsTextMade (a0 a1 a2 a3 : Automaton) (end start : State) (w : TextClass) : Type 0 where
  pub end_number : state_number end ≡ length a0
  pub end_is : a1 ≡ a0 ++ no_moves true ∷ []
  pub start_number : state_number start ≡ length a1
  pub start_is : a2 ≡ a1 ++ no_moves false ∷ []
  pub first : Extends a0 a1
  pub second : Extends a1 a2
  pub moved : a3 ≡ with_text_move a2 start (record { words = w; rest = end })
  pub others : ChangesOnly start a2 a3

module _ (a0 a1 a2 a3 : Automaton) (end start : State) (w : TextClass) (m : IsTextMade a0 a1 a2 a3 end start w) where
  longer : length a1 ≡ length a0 + 1
  longer = let e = m.end_is in ap length e ∙ length-append a0 (no_moves true ∷ [])

  longest : length a2 ≡ length a1 + 1
  longest = ap length m.start_is ∙ length-append a1 (no_moves false ∷ [])

  start_moves : moves_at a3 start ≡ record { last = false; labels = []; texts = record { words = w; rest = end } ∷ [] }
  start_moves =
      let x = longest in
      let z = m.start_number in
      let here : state_number start < length a2 = omega arith in
      let t : TextMove = record { words = w; rest = end } in
      ap (λ (c : Automaton). moves_at c start) m.moved
      ∙ get_or-set_same a2 (state_number start) (record (moves_at a2 start) { texts = (moves_at a2 start).texts ++ t ∷ [] }) (no_moves false) here
      ∙ ap (λ (n : StateMoves). record n { texts = n.texts ++ t ∷ [] }) (new_moves a1 a2 start false m.start_number m.start_is)

  end_moves : moves_at a3 end ≡ no_moves true
  end_moves =
      let x = longer in
      let y = m.end_number in
      let z = m.start_number in
      (m.others).others end (λ e. (let bad : ⊥ = omega arith in bad))
      ∙ (m.second).moves end (omega arith)
      ∙ new_moves a0 a1 end true m.end_number m.end_is

  pub made_law : (s : List ℕ) → ((t : List ℕ) → class_has w t ≡ pointwise nat_eq s t) → (d : Document) → (accepts a3 d start ≡ true) ↔ (d ≡ text s empty)
  made_law s only d = text_law a3 s w start end only start_moves end_moves d

  pub made_extends : Extends a0 a3
  made_extends =
      let x = longer in
      let y = longest in
      let z = m.start_number in
      let u = (m.others).states in
      record {
        states = λ s h. omega arith;
        moves = λ s h. (m.others).others s (λ e. (let bad : ⊥ = omega arith in bad)) ∙ (m.second).moves s ((m.first).states s h) ∙ (m.first).moves s h;
      }

  pub made_grows : IsClosed a0 → Grows a0 a3
  made_grows closed = record { extends = made_extends; keeps = keeps a0 a3 closed made_extends }

-- the class of one text, as it is made
pub one_class : (w : TextClass) (s : List ℕ) (texts : List (List ℕ)) → texts ≡ s ∷ [] → w.except ≡ false → ((t : List ℕ) → is_named w.names t ≡ is_named texts t) → (t : List ℕ) → class_has w t ≡ pointwise nat_eq s t
one_class w s texts e x n t = just_one w s x (λ u. n u ∙ ap (λ ts. is_named ts u) e) t

-- one more state before those that are joined already
pub joined_more : (a0 a b : Automaton) → Grows a0 a → (s m n : State) (ss : List State) → IsState a0 s → ((d : Document) → (accepts a d m ≡ true) ↔ AcceptedInTurn a0 ss d) →
    ((d : Document) → (accepts b d n ≡ true) ↔ IsJoined a s m d) → (d : Document) → (accepts b d n ≡ true) ↔ AcceptedInTurn a0 (s ∷ ss) d
joined_more a0 a b g s m n ss i h j d = (
  λ e. (let q = (j d).0 e in
      (q.front, q.back, sym q.is, sym (g.keeps q.front s i) ∙ q.front_accepted, (h q.back).0 q.back_accepted)),
  λ q. (j d).1 (record { front = q.0; back = q.1; is = sym q.2; front_accepted = g.keeps q.0 s i ∙ q.3; back_accepted = (h q.1).1 q.4 }),
)

pub joined_none : (b : Automaton) (e : State) → moves_at b e ≡ no_moves true → (d : Document) → (accepts b d e ≡ true) ↔ (d ≡ empty)
joined_none b e is d = (ends_alone b e is d, λ q. subst (λ x. accepts b x e ≡ true) (sym q) (ap (λ (m : StateMoves). m.last) is))

-- the states from the last on are joined, and the first ones are left
pub record AreJoined (a0 a : Automaton) (all left : List State) (made : State) : Type 0 where
  pub joined : List State
  pub split : all ≡ left ++ joined
  pub there : AllByRecursion (IsState a0) left
  pub belongs : IsState a made
  pub grows : Grows a0 a
  pub accepts_joined : (d : Document) → (accepts a d made ≡ true) ↔ AcceptedInTurn a0 joined d

pub joined_begin : (a0 a : Automaton) (all : List State) (made : State) → AllByRecursion (IsState a0) all → state_number made ≡ length a0 → a ≡ a0 ++ no_moves true ∷ [] →
    IsState a made → Extends a0 a → KeepsAccepting a0 a → AreJoined a0 a all all made
joined_begin a0 a all made h n e b x k = record {
  joined = [];
  split = sym (append-nil all);
  there = h;
  belongs = b;
  grows = record { extends = x; keeps = k };
  accepts_joined = joined_none a made (new_moves a0 a made true n e);
}

all_front : (a : Automaton) (xs : List State) (x : State) → AllByRecursion (IsState a) (xs ++ x ∷ []) → AllByRecursion (IsState a) xs × IsState a x
all_front a [] x h = (tt, h.0)
all_front a (y ∷ ys) x h = let r = all_front a ys x h.1 in ((h.0, r.0), r.1)

pub last_there : (a0 a : Automaton) (all left rest : List State) (s made : State) → AreJoined a0 a all left made → left ≡ rest ++ s ∷ [] → IsState a s
last_there a0 a all left rest s made j e = ((j.grows).extends).states s (all_front a0 rest s (subst (AllByRecursion (IsState a0)) e j.there)).1

pub joined_next : (a0 a b : Automaton) (all left rest : List State) (s made new : State) → AreJoined a0 a all left made → left ≡ rest ++ s ∷ [] →
    ((d : Document) → (accepts b d new ≡ true) ↔ IsJoined a s made d) → IsState b new → Extends a b → KeepsAccepting a b → AreJoined a0 b all rest new
joined_next a0 a b all left rest s made new j e h i x k =
    let r = all_front a0 rest s (subst (AllByRecursion (IsState a0)) e j.there) in
    record {
      joined = s ∷ j.joined;
      split = j.split ∙ ap (λ xs. xs ++ j.joined) e ∙ append_assoc rest (s ∷ []) j.joined;
      there = r.0;
      belongs = i;
      grows = grows_then a0 a b j.grows (record { extends = x; keeps = k });
      accepts_joined = joined_more a0 a b j.grows s made new j.joined r.1 j.accepts_joined h;
    }

pub joined_end : (a0 a : Automaton) (all left : List State) (made : State) → AreJoined a0 a all left made → left ≡ [] → (d : Document) → (accepts a d made ≡ true) ↔ AcceptedInTurn a0 all d
joined_end a0 a all left made j e d = subst (λ ss. (accepts a d made ≡ true) ↔ AcceptedInTurn a0 ss d) (sym (j.split ∙ ap (λ xs. xs ++ j.joined) e)) (j.accepts_joined d)
