-- Cases, read from the front.
use Rattle.std.proofs.Common.{◌≡◌, ℕ, arith, List, [], ◌∷◌, ◌++◌, flat_map, length, append-nil, refl, ap, sym, subst, ◌∙◌, Option, Some, None, Result, Ok, Err}
use Rattle.std.specs.Prelude.{codes, MatchOption, IfOk}
use Rattle.std.specs.List.{AllByRecursion}
use Rattle.std.specs.Fmt.{decimal}
use Rattle.xd_rules.specs.declared.atom.Atom.{Atom}
use Rattle.xd_rules.specs.Rules.{ChoiceTree, Case}
use Rattle.xd_proof.specs.Lines.{space, spaced, IsFreeOf, IsNumber, SpellsNumber}
use Rattle.xd_proof.specs.LineWords.{AreWords}
use Rattle.xd_proof.specs.Parts.{IsAtom, atom_word, tree_words, HasNumbers, SpellsCase}
use Rattle.xd_proof.specs.Forest.{SpellsTrees}
use Rattle.xd_proof.proofs.LineLemmas.{same_front, same_words, no_mark}
use Rattle.xd_proof.proofs.Unique.{tree_free, tree_some, decimal_free, case_line, atom_one}
use Rattle.xd_proof.specs.declared.steps.Step.{Step}
use Rattle.xd_proof.specs.declared.cases.ReadCase.{ReadCase}
use Rattle.xd_proof.specs.Steps.{steps_of, SpellsSteps}
use Rattle.xd_proof.specs.Cases.{IsCase, SpellsChoice}

pub option_made : {X A B : Type 0} {P Q : X → Type 0} → (o : Option X) → (A → B) → ((x : X) → P x → Q x) → MatchOption o A P → MatchOption o B Q
option_made None f g h = f h
option_made (Some x) f g h = g x h

pub result_made : {X E A B : Type 0} {P Q : X → Type 0} → (r : Result (Option X) E) → (A → B) → ((x : X) → P x → Q x) → IfOk r (λ o. MatchOption o A P) → IfOk r (λ o. MatchOption o B Q)
result_made (Ok o) f g h = option_made o f g h
result_made (Err e) f g h = h

-- ---- trees
pub tree_not : (bytes : List ℕ) (words : List (List ℕ)) → AreWords bytes words → (SpellsTrees 1 words → ⊥) → (t : ChoiceTree) → HasNumbers t → bytes ≡ spaced (tree_words t) → ⊥
tree_not bytes words a never t h e =
    let w : tree_words t ≡ words = same_words (tree_words t) words (tree_free t h) a.free (tree_some t) a.some (sym e ∙ a.whole) in
    never (record { trees = t ∷ []; many = refl; numbers = (h, tt); spelled = append-nil (tree_words t) ∙ w })

record IsTree (bytes : List ℕ) (steps : List Step) : Type 0 where
  tree : ChoiceTree
  numbers : HasNumbers tree
  spelled : bytes ≡ spaced (tree_words tree)
  taken : steps ≡ steps_of tree

tree_from : (bytes : List ℕ) (words : List (List ℕ)) (steps : List Step) → AreWords bytes words → (ts : List ChoiceTree) → length ts ≡ 1 → AllByRecursion HasNumbers ts → flat_map tree_words ts ≡ words → flat_map steps_of ts ≡ steps → IsTree bytes steps
tree_from bytes words steps a [] m h e f = absurd (omega (arith, m))
tree_from bytes words steps a (t ∷ []) m h e f = record { tree = t; numbers = h.0; spelled = a.whole ∙ ap spaced (sym e ∙ append-nil (tree_words t)); taken = sym f ∙ append-nil (steps_of t) }
tree_from bytes words steps a (t ∷ (u ∷ us)) m h e f = absurd (omega (arith, m))

pub tree_is : (bytes : List ℕ) (words : List (List ℕ)) (head : ℕ) (atom : Atom) (m : ReadCase) → AreWords bytes words → SpellsSteps 1 words (m.steps).items → m.head ≡ head → m.atom ≡ atom →
    (t : ChoiceTree) × HasNumbers t × (bytes ≡ spaced (tree_words t)) × IsCase m (record { head = head; atom = atom; choice = t })
tree_is bytes words head atom m a s e f =
    let t = tree_from bytes words (m.steps).items a s.trees s.many s.numbers s.spelled s.taken in
    (t.tree, t.numbers, t.spelled, record { head = e; atom = f; steps = t.taken })

-- ---- an atom and a tree
pub choice_not : (bytes rest : List ℕ) (a : Atom) → IsAtom a → bytes ≡ atom_word a ++ space ∷ rest → ((t : ChoiceTree) → HasNumbers t → rest ≡ spaced (tree_words t) → ⊥) → (c : Case) → SpellsChoice bytes c → ⊥
choice_not bytes rest a i e never c s = never c.choice s.numbers (atom_one a c.atom rest (spaced (tree_words c.choice)) i s.atom (sym e ∙ s.whole)).1

pub choice_is : (bytes rest : List ℕ) (a : Atom) (head : ℕ) (m : ReadCase) → IsAtom a → bytes ≡ atom_word a ++ space ∷ rest →
    ((t : ChoiceTree) × HasNumbers t × (rest ≡ spaced (tree_words t)) × IsCase m (record { head = head; atom = a; choice = t })) → (c : Case) × SpellsChoice bytes c × (c.head ≡ head) × IsCase m c
choice_is bytes rest a head m i e (t, h, s, c) = (record { head = head; atom = a; choice = t }, record { whole = e ∙ ap (λ x. atom_word a ++ space ∷ x) s; atom = i; numbers = h }, refl, c)

pub no_atom : (bytes : List ℕ) → ((a : Atom) (r : List ℕ) → IsAtom a → bytes ≡ atom_word a ++ space ∷ r → ⊥) → (c : Case) → SpellsChoice bytes c → ⊥
no_atom bytes never c s = never c.atom _ s.atom s.whole

-- ---- the whole line
pub case_free : IsFreeOf space (codes "case")
case_free = (λ e. omega (arith, e), (λ e. omega (arith, e), (λ e. omega (arith, e), (λ e. omega (arith, e), tt))))

first_is : (line first behind : List ℕ) → line ≡ first ++ space ∷ behind → IsFreeOf space first → (c : Case) → SpellsCase line c → (first ≡ codes "case") × (behind ≡ decimal c.head ++ space ∷ (atom_word c.atom ++ space ∷ spaced (tree_words c.choice)))
first_is line first behind e f c s = same_front space first (codes "case") behind _ f case_free (sym e ∙ s.words ∙ case_line c)

pub case_word_free : (word : List ℕ) → word ≡ codes "case" → IsFreeOf space word
case_word_free word e = subst (IsFreeOf space) (sym e) case_free

pub other_word : (line word : List ℕ) → word ≡ codes "case" → ((rest : List ℕ) → line ≡ word ++ space ∷ rest → ⊥) → (c : Case) → SpellsCase line c → ⊥
other_word line word e never c s = never _ (s.words ∙ case_line c ∙ ap (λ x. x ++ space ∷ (decimal c.head ++ space ∷ (atom_word c.atom ++ space ∷ spaced (tree_words c.choice)))) (sym e))

pub no_head : (line first behind : List ℕ) → line ≡ first ++ space ∷ behind → IsFreeOf space first → IsFreeOf space behind → (c : Case) → SpellsCase line c → ⊥
no_head line first behind e f g c s = no_mark space (decimal c.head) _ behind g (sym (first_is line first behind e f c s).1)

head_is : (line first behind word rest : List ℕ) → line ≡ first ++ space ∷ behind → IsFreeOf space first → behind ≡ word ++ space ∷ rest → IsFreeOf space word → (c : Case) → SpellsCase line c → (word ≡ decimal c.head) × (rest ≡ atom_word c.atom ++ space ∷ spaced (tree_words c.choice))
head_is line first behind word rest e f g h c s = same_front space word (decimal c.head) rest _ h (decimal_free c.head s.head) (sym g ∙ (first_is line first behind e f c s).1)

pub no_head_number : (line first behind word rest : List ℕ) → line ≡ first ++ space ∷ behind → IsFreeOf space first → behind ≡ word ++ space ∷ rest → IsFreeOf space word → ((n : ℕ) → SpellsNumber word n → ⊥) → (c : Case) → SpellsCase line c → ⊥
no_head_number line first behind word rest e f g h never c s = never c.head (record { digits = (head_is line first behind word rest e f g h c s).0; number = s.head })

pub no_choice : (line first behind word rest : List ℕ) → line ≡ first ++ space ∷ behind → IsFreeOf space first → behind ≡ word ++ space ∷ rest → IsFreeOf space word → ((c : Case) → SpellsChoice rest c → ⊥) → (c : Case) → SpellsCase line c → ⊥
no_choice line first behind word rest e f g h never c s = never c (record { whole = (head_is line first behind word rest e f g h c s).1; atom = s.atom; numbers = s.numbers })

pub case_is : (line first behind word rest : List ℕ) (n : ℕ) (m : ReadCase) → line ≡ first ++ space ∷ behind → first ≡ codes "case" → behind ≡ word ++ space ∷ rest → SpellsNumber word n →
    ((c : Case) × SpellsChoice rest c × (c.head ≡ n) × IsCase m c) → (c : Case) × SpellsCase line c × IsCase m c
case_is line first behind word rest n m e f g h (c, s, q, i) = (
  c,
  record {
    words =
        e ∙ ap (λ x. x ++ space ∷ behind) f
        ∙ ap (λ x. codes "case" ++ space ∷ x) (g ∙ ap (λ x. x ++ space ∷ rest) (h.digits ∙ ap decimal (sym q)) ∙ ap (λ x. decimal c.head ++ space ∷ x) s.whole) ∙ sym (case_line c);
    head = subst IsNumber (sym q) h.number;
    atom = s.atom;
    numbers = s.numbers;
  },
  i,
)
