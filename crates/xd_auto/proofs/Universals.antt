-- The state that accepts every document.
use Rattle.std.proofs.Common.{◌≡◌, ℕ, Bool, true, false, ◌&&◌, ◌||◌, nat_eq, List, [], ◌∷◌, ◌++◌, get_or-set_same, refl, sym, ap, ◌∙◌}
use Rattle.std.specs.List.{list_any}
use Rattle.std.specs.Cmp.Lexicographic.{pointwise}
use Rattle.std.proofs.lemmas.Slice.Eq.{bytes_eq-Decides}
use Rattle.xd_doc.specs.Document.{Document, empty, text, element}
use Rattle.xd_doc.specs.Classes.{NameClass, class_has, is_named}
use Rattle.xd_auto.specs.declared.auto.State.{State}
use Rattle.xd_auto.specs.declared.auto.LabelMove.{LabelMove}
use Rattle.xd_auto.specs.declared.auto.TextMove.{TextMove}
use Rattle.xd_auto.specs.Automaton.{Automaton, IsState, StateMoves, accepts, moves_at, no_moves, with_label_move, with_moves, with_text_move}
use Rattle.xd_auto.specs.Universal.{IsUniversal, every_name}

pub no_names : (names : List (List ℕ)) → ((l : List ℕ) → is_named names l ≡ false) → names ≡ []
no_names [] h = refl
no_names (n ∷ names) h =
    let here : pointwise nat_eq n n ≡ true = (bytes_eq-Decides n n).1 refl in
    let no : true ≡ false = sym (ap (λ b. b || is_named names n) here) ∙ h n in
    absurd (cc)

-- a class that excepts nothing
pub every : (c : NameClass) → ((l : List ℕ) → is_named c.names l ≡ false) → c.except ≡ true → c ≡ every_name
every c h e = ap (λ ns. class_of ns c.except) (no_names c.names h) ∙ ap (λ b. class_of [] b) e
  where
    class_of : List (List ℕ) → Bool → NameClass
    class_of ns b = record { names = ns; except = b }

abbrev more_label : State → StateMoves → NameClass → StateMoves
more_label s m c = record m { labels = m.labels ++ record { class = c; content = s; rest = s } ∷ [] }

abbrev more_text : State → StateMoves → NameClass → StateMoves
more_text s m c = record m { texts = m.texts ++ record { words = c; rest = s } ∷ [] }

-- a state has other moves now
moves_changed : (at : State) (a b : Automaton) (moves : StateMoves) → IsState a at → b ≡ with_moves a at moves → moves_at b at ≡ moves
moves_changed at a b moves here e = rw e (get_or-set_same a at.number moves (no_moves false) here)

-- a new state gets its two moves
pub universal_made : (a b c : Automaton) (s : State) (labels texts : NameClass) → IsState a s → IsState b s → IsState c s → moves_at a s ≡ no_moves true
    → b ≡ with_label_move a s (record { class = labels; content = s; rest = s }) → c ≡ with_text_move b s (record { words = texts; rest = s }) → labels ≡ every_name → texts ≡ every_name → IsUniversal c s
universal_made a b c s labels texts in_a in_b in_c first one two all_labels all_texts =
    let m1 = moves_changed s a b _ in_a one in
    let m2 = moves_changed s b c _ in_b two in
    record {
      state = in_c;
      moves = m2
          ∙ ap (λ (m : StateMoves). more_text s m texts) (m1 ∙ ap (λ (m : StateMoves). more_label s m labels) first)
          ∙ ap (λ k. more_text s (more_label s (no_moves true) k) texts) all_labels
          ∙ ap (λ k. more_text s (more_label s (no_moves true) every_name) k) all_texts;
    }

pub accepts_all : (a : Automaton) (s : State) → IsUniversal a s → (d : Document) → accepts a d s ≡ true
accepts_all a s h empty = ap (λ (m : StateMoves). m.last) h.moves
accepts_all a s h (text t rest) =
    ap (λ (m : StateMoves). list_any (λ (w : TextMove). class_has w.words t && accepts a rest w.rest) m.texts) h.moves ∙ ap (λ b. b || false) (accepts_all a s h rest)
accepts_all a s h (element l content rest) =
    ap (λ (m : StateMoves). list_any (λ (w : LabelMove). class_has w.class l && (accepts a content w.content && accepts a rest w.rest)) m.labels) h.moves
    ∙ ap (λ b. (b && accepts a rest s) || false) (accepts_all a s h content) ∙ ap (λ b. b || false) (accepts_all a s h rest)
