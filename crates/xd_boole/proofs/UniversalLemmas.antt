-- On states that accept every document.
use Rattle.std.proofs.Common.{ℕ, ◌≡◌, Bool, true, false, not, ◌&&◌, ◌||◌, ◌==◌, cond, nat_eq, List, [], ◌∷◌, ◌++◌, length, inl, inr, refl, sym, ap, ◌∙◌, subst, eq-eqb, arith}
use Rattle.std.specs.List.{AllByRecursion, list_any}
use Rattle.std.proofs.lemmas.Bool.{cases_lt, and_from}
use Rattle.std.proofs.lemmas.List.{get_or_past}
use Rattle.xd_doc.specs.Document.{Document, empty, text, element}
use Rattle.xd_doc.specs.Classes.{NameClass, class_has, is_named}
use Rattle.xd_doc.proofs.Bools.{and_left, and_right, or_true}
use Rattle.xd_doc.proofs.Numbers.{same_number}
use Rattle.xd_auto.specs.declared.auto.State.{State}
use Rattle.xd_auto.specs.declared.auto.LabelMove.{LabelMove}
use Rattle.xd_auto.specs.declared.auto.TextMove.{TextMove}
use Rattle.xd_auto.specs.Automaton.{Automaton, accepts, moves_at, state_number}
use Rattle.xd_empty.specs.Parts.{is_marked}
use Rattle.xd_boole.specs.Meaning.{any_accepts, has_state}
use Rattle.xd_boole.specs.Universal.{AcceptsAll, MarkUniversal, TakesAll, has_all, leads_all, text_leads_all}
use Rattle.xd_boole.proofs.ArePointsLemmas.{at_end, at_front, place_cases}

all_has : (c : NameClass) (x : List ℕ) → has_all c ≡ true → class_has c x ≡ true
all_has c x e = go c.except c.names e
  where
    go : (b : Bool) (names : List (List ℕ)) → (b && (length names == 0)) ≡ true → cond b (not (is_named names x)) (is_named names x) ≡ true
    go false names h = absurd (cc)
    go true [] h = refl
    go true (n ∷ ns) h = let none : length (n ∷ ns) ≡ 0 = same_number (length (n ∷ ns)) 0 h in absurd (omega arith)

any_implies : {X : Type 0} (f g : X → Bool) (xs : List X) → ((x : X) → f x ≡ true → g x ≡ true) → list_any f xs ≡ true → list_any g xs ≡ true
any_implies f g [] more e = absurd (cc)
any_implies {X} f g (x ∷ xs) more e = go (f x) refl e (any_implies f g xs more)
  where
    go : (b : Bool) → f x ≡ b → (b || list_any f xs) ≡ true → (list_any f xs ≡ true → list_any g xs ≡ true) → list_any g (x ∷ xs) ≡ true
    go true is h rest = ap (λ w. w || list_any g xs) (more x is)
    go false is h rest = ap (λ w. g x || w) (rest h) ∙ or_true (g x)

-- what holds of all states of a set holds of each
of_each : (P : State → Type 0) (s : State) (states : List State) → AllByRecursion P states → has_state s states ≡ true → P s
of_each P s [] all h = absurd (cc)
of_each P s (t ∷ ts) all h = go (nat_eq t.number s.number) refl h (of_each P s ts all.1)
  where
    go : (b : Bool) → nat_eq t.number s.number ≡ b → (b || has_state s ts) ≡ true → (has_state s ts ≡ true → P s) → P s
    go true same k rest = subst (λ (n : ℕ). P (record { number = n })) (same_number t.number s.number same) all.0
    go false other k rest = rest k

module _ (a : Automaton) (states : List State) (all : AllByRecursion (TakesAll a states) states) where
  pub take_all : (d : Document) (s : State) → has_state s states ≡ true → accepts a d s ≡ true
  take_all empty s h = (of_each (TakesAll a states) s states all h).last
  take_all (text t d) s h =
      any_implies (text_leads_all states) (λ (m : TextMove). class_has m.words t && accepts a d m.rest) (moves_at a s).texts
      (λ m e. and_from (class_has m.words t) (accepts a d m.rest) (all_has m.words t (and_left (has_all m.words) (has_state m.rest states) e)) (take_all d m.rest (and_right (has_all m.words) (has_state m.rest states) e)))
      (of_each (TakesAll a states) s states all h).texts
  take_all (element l c d) s h =
      any_implies (leads_all states) (λ (m : LabelMove). class_has m.class l && (accepts a c m.content && accepts a d m.rest)) (moves_at a s).labels
      (λ m e.
      let both = and_right (has_all m.class) (has_state m.content states && has_state m.rest states) e in
      and_from (class_has m.class l) (accepts a c m.content && accepts a d m.rest) (all_has m.class l (and_left (has_all m.class) (has_state m.content states && has_state m.rest states) e))
      (and_from (accepts a c m.content) (accepts a d m.rest) (take_all c m.content (and_left (has_state m.content states) (has_state m.rest states) both)) (take_all d m.rest (and_right (has_state m.content states) (has_state m.rest states) both))))
      (of_each (TakesAll a states) s states all h).labels

pub has_itself : (s : State) (states : List State) → has_state s (s ∷ states) ≡ true
has_itself s states = ap (λ w. w || has_state s states) (same s.number)
  where
    same : (n : ℕ) → nat_eq n n ≡ true
    same n = eq-eqb n n refl

-- one more mark
pub marks_more : (a : Automaton) (old new : List Bool) (mark : Bool) (t : State) → new ≡ old ++ mark ∷ [] → state_number t ≡ length old → (mark ≡ true → AcceptsAll a t) → MarkUniversal a old → MarkUniversal a new
marks_more a old new mark t is at accept before = λ s e.
    elim (cases_lt s.number (length new)) [
      | inl lt ↦ elim (place_cases old new mark s.number is lt) [
        | inl h ↦ before s (sym (at_front old new mark false s.number is h) ∙ e)
        | inr h ↦ subst (AcceptsAll a) (ap (λ (n : ℕ). record { number = n }) (at ∙ sym h)) (accept (sym (at_end old new mark false s.number is h) ∙ e))
      ]
      | inr le ↦ absurd (let none : false ≡ true = sym (get_or_past new s.number false le) ∙ e in cc)
    ]

-- where a marked state is in a set, the set accepts every document
pub marked_accepts : (a : Automaton) (marks : List Bool) (states : List State) (d : Document) → MarkUniversal a marks → list_any (is_marked marks) states ≡ true → any_accepts a states d ≡ true
marked_accepts a marks states d universal e = any_implies (is_marked marks) (λ s. accepts a d s) states (λ s h. universal s h d) e
