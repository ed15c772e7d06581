-- A goal names the labels and the texts that its row names.
use Rattle.std.proofs.Common.{◌≡◌, ℕ, Bool, ◌||◌, List, [], ◌∷◌, ◌++◌, map, flat_map, Option, Some, nat_eq, refl, sym, ap, ◌∙◌}
use Rattle.std.specs.Cmp.Lexicographic.{pointwise}
use Rattle.std.proofs.lemmas.Grind.{flat_map-append}
use Rattle.xd_doc.specs.Classes.{is_named}
use Rattle.xd_doc.proofs.Bools.{or_assoc, or_swap}
use Rattle.xd_syntax.specs.Tree.{Tree, Definitions}
use Rattle.xd_auto.specs.declared.auto.State.{State}
use Rattle.xd_auto.specs.declared.auto.LabelMove.{LabelMove}
use Rattle.xd_auto.specs.declared.auto.TextMove.{TextMove}
use Rattle.xd_auto.specs.Automaton.{Automaton, moves_at}
use Rattle.xd_rules.specs.Heads.{Head, HeadKind, labels_of, texts_of, named_in, element_in, text_in}
use Rattle.xd_meaning.specs.Heads.{heads}
use Rattle.xd_meaning.specs.Consistent.{Goal, right_heads}
use Rattle.xd_state_heads.specs.Moves.{heads_of, label_head, text_head}
use Rattle.xd_heads.specs.Mirrors.{AreHeadMoves, no_head, element_head}
use Rattle.xd_heads.specs.Mirrors as mirrors
use Rattle.xd_proof_make.specs.Written.{AreTypes}
use Rattle.xd_rules.specs.Rules.{Claim}
use Rattle.xd_rules.proofs.NamesInOrder.{named_in-names, names_are}
use Rattle.xd_rules.specs.Meaning.{right_heads as claim_heads}

append_named : (xs ys : List (List ℕ)) (l : List ℕ) → is_named (xs ++ ys) l ≡ (is_named xs l || is_named ys l)
append_named [] ys l = refl
append_named (x ∷ xs) ys l = ap (λ (b : Bool). pointwise nat_eq x l || b) (append_named xs ys l) ∙ or_assoc (pointwise nat_eq x l) (is_named xs l) (is_named ys l)

-- ---- the names of a type's heads are those of its state's

-- f says what a head names
module _ (C : State → Option Tree) (f : HeadKind → List (List ℕ)) (l : List ℕ) where
  abbrev of_type : List (Head Tree) → List (List ℕ)
  of_type hs = flat_map (λ (h : Head Tree). f h.kind) hs

  abbrev of_state : List (Head State) → List (List ℕ)
  of_state hs = flat_map (λ (h : Head State). f h.kind) hs

  heads_named : {hs : List (Head Tree)} {ls : List LabelMove} {ts : List TextMove} → AreHeadMoves C hs ls ts → is_named (of_type hs) l ≡ (is_named (of_state (map label_head ls)) l || is_named (of_state (map text_head ts)) l)
  heads_named no_head = refl
  heads_named (element_head {h} {hs} {l = m} {ls} {ts} k c r moves) =
      append_named (f h.kind) (of_type hs) l
      ∙ ap (λ (b : Bool). is_named (f h.kind) l || b) (heads_named moves)
      ∙ or_assoc (is_named (f h.kind) l) (is_named (of_state (map label_head ls)) l) (is_named (of_state (map text_head ts)) l)
      ∙ ap (λ (b : Bool). b || is_named (of_state (map text_head ts)) l)
      (ap (λ (xs : List (List ℕ)). is_named xs l || is_named (of_state (map label_head ls)) l) (ap f k) ∙ sym (append_named (f (element_in m.class)) (of_state (map label_head ls)) l))
  heads_named (mirrors.text_head {h} {hs} {ls} {t = m} {ts} k r moves) =
      append_named (f h.kind) (of_type hs) l
      ∙ ap (λ (b : Bool). is_named (f h.kind) l || b) (heads_named moves)
      ∙ or_swap (is_named (f h.kind) l) (is_named (of_state (map label_head ls)) l) (is_named (of_state (map text_head ts)) l)
      ∙ ap (λ (b : Bool). is_named (of_state (map label_head ls)) l || b)
      (ap (λ (xs : List (List ℕ)). is_named xs l || is_named (of_state (map text_head ts)) l) (ap f k) ∙ sym (append_named (f (text_in m.words)) (of_state (map text_head ts)) l))

  module _ (E : Definitions) (a : Automaton) (moves : (s : State) (T : Tree) → C s ≡ Some T → AreHeadMoves C (heads E T) (moves_at a s).labels (moves_at a s).texts) where
    state_named : (s : State) (T : Tree) → C s ≡ Some T → is_named (of_type (heads E T)) l ≡ is_named (of_state (heads_of a s)) l
    state_named s T e =
        heads_named (moves s T e)
        ∙ sym (append_named (of_state (map label_head (moves_at a s).labels)) (of_state (map text_head (moves_at a s).texts)) l)
        ∙ ap (λ (xs : List (List ℕ)). is_named xs l) (sym (flat_map-append (λ (h : Head State). f h.kind) (map label_head (moves_at a s).labels) (map text_head (moves_at a s).texts)))

    states_named : (ss : List State) (Ts : List Tree) → AreTypes C ss Ts → is_named (of_type (flat_map (heads E) Ts)) l ≡ is_named (of_state (flat_map (heads_of a) ss)) l
    states_named [] [] z = refl
    states_named [] (T ∷ Ts) z = absurd z
    states_named (s ∷ ss) [] z = absurd z
    states_named (s ∷ ss) (T ∷ Ts) z =
        ap (λ (xs : List (List ℕ)). is_named xs l) (flat_map-append (λ (h : Head Tree). f h.kind) (heads E T) (flat_map (heads E) Ts))
        ∙ append_named (of_type (heads E T)) (of_type (flat_map (heads E) Ts)) l
        ∙ ap (λ (b : Bool). b || is_named (of_type (flat_map (heads E) Ts)) l) (state_named s T z.0)
        ∙ ap (λ (b : Bool). is_named (of_state (heads_of a s)) l || b) (states_named ss Ts z.1)
        ∙ sym (append_named (of_state (heads_of a s)) (of_state (flat_map (heads_of a) ss)) l)
        ∙ ap (λ (xs : List (List ℕ)). is_named xs l) (sym (flat_map-append (λ (h : Head State). f h.kind) (heads_of a s) (flat_map (heads_of a) ss)))

    pub claim_named : (c : Claim State) (goal : Goal) → C c.left ≡ Some goal.left → AreTypes C c.rights goal.rights
        → is_named (of_type (heads E goal.left ++ right_heads E goal)) l ≡ is_named (of_state (heads_of a c.left ++ claim_heads (heads_of a) c)) l
    claim_named c goal e z =
        ap (λ (xs : List (List ℕ)). is_named xs l) (flat_map-append (λ (h : Head Tree). f h.kind) (heads E goal.left) (right_heads E goal))
        ∙ append_named (of_type (heads E goal.left)) (of_type (right_heads E goal)) l
        ∙ ap (λ (b : Bool). b || is_named (of_type (right_heads E goal)) l) (state_named c.left goal.left e)
        ∙ ap (λ (b : Bool). is_named (of_state (heads_of a c.left)) l || b) (states_named c.rights goal.rights z)
        ∙ sym (append_named (of_state (heads_of a c.left)) (of_state (claim_heads (heads_of a) c)) l)
        ∙ ap (λ (xs : List (List ℕ)). is_named xs l) (sym (flat_map-append (λ (h : Head State). f h.kind) (heads_of a c.left) (claim_heads (heads_of a) c)))

pub names_written : (E : Definitions) (a : Automaton) (C : State → Option Tree) → ((s : State) (T : Tree) → C s ≡ Some T → AreHeadMoves C (heads E T) (moves_at a s).labels (moves_at a s).texts)
    → (c : Claim State) (goal : Goal) → C c.left ≡ Some goal.left → AreTypes C c.rights goal.rights → named_in (heads E goal.left ++ right_heads E goal) ≡ named_in (heads_of a c.left ++ claim_heads (heads_of a) c)
names_written E a C moves c goal e z =
    let hs = heads E goal.left ++ right_heads E goal in
    let names = named_in-names hs in
    names_are (heads_of a c.left ++ claim_heads (heads_of a) c) (named_in hs) (record {
      labels = record { order = (names.labels).order; same = λ l. (names.labels).same l ∙ claim_named C labels_of l E a moves c goal e z };
      texts = record { order = (names.texts).order; same = λ l. (names.texts).same l ∙ claim_named C texts_of l E a moves c goal e z };
    })
