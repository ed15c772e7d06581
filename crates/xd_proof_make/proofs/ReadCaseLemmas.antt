-- The loops that write.
use Rattle.std.proofs.Common.{◌≡◌, ℕ, zero, suc, ◌+◌, ◌<◌, ◌≤◌, Bool, true, false, List, [], ◌∷◌, ◌++◌, map, length, get_or, take, drop, inl, inr, ⊎_elim, refl, sym, ap, subst, ◌∙◌, arith, append_assoc, append-nil}
use Rattle.std.specs.List.{AllByRecursion, AllZip, slice_get}
use Rattle.std.proofs.lemmas.List.{take_more, map-append}
use Rattle.xd_doc.proofs.Lists.{all_append}
use Rattle.xd_rules.specs.Rules.{ChoiceTree, settles_content, settles_rest, split_on, Case}
use Rattle.xd_rules.specs.Meaning.{AllLeaves}
use Rattle.xd_doc.specs.Members.{IsOneOf}
use Rattle.xd_rules.proofs.Members.{one_of-append_left, one_of-append_right, one_of-all}
use Rattle.xd_goals.specs.Trees.{StandsAt}
use Rattle.xd_goals.specs.declared.table.Choice.{Choice}
use Rattle.xd_goals.specs.declared.table.ChoiceNode.{ChoiceNode}
use Rattle.xd_rules.proofs.Lists.{slice_get-push_cases}
use Rattle.xd_proof.specs.Parts.{IsAtom}
use Rattle.xd_proof.specs.Cases.{IsCase}
use Rattle.xd_proof.specs.Steps.{steps_of}
use Rattle.xd_proof.specs.declared.cases.ReadCase.{ReadCase}
use Rattle.xd_proof.specs.declared.steps.Step.{Step}
use Rattle.xd_proof.specs.declared.steps.Step.TheVariants.{Split}
use Rattle.xd_proof_make.specs.Steps.{table_steps}
use Rattle.xd_proof_make.specs.Written.{written_tree}
use Rattle.xd_proof_make.specs.Places.{place_in}
use Rattle.xd_proof_make.specs.Met.{IsMet, number_in}
use Rattle.xd_proof_make.specs.Ordered.{IsCut, IsCaseOf, AreOrdered, AreWrittenCases, IsMadeOf, SplitsWithin, IsWritable, IsStepWithin, written_step}
use Rattle.xd_proof_make.proofs.AreHeadMovesLemmas.{zip_append}

-- ---- cuts

-- ---- steps with other numbers

pub written-steps : (places numbers : List ℕ) (tree : ChoiceTree) → map (written_step places numbers) (table_steps tree) ≡ steps_of (written_tree (place_in places) (number_in numbers) tree)
written-steps places numbers (settles_content g) = refl
written-steps places numbers (settles_rest g) = refl
written-steps places numbers (split_on j a b) =
    ap (λ (xs : List Step). Split (place_in places j) ∷ xs)
    (map-append (written_step places numbers) (table_steps a) (table_steps b)
    ∙ (ap (λ (xs : List Step). xs ++ map (written_step places numbers) (table_steps b)) (written-steps places numbers a)
    ∙ ap (λ (xs : List Step). steps_of (written_tree (place_in places) (number_in numbers) a) ++ xs) (written-steps places numbers b)))

steps_within : (goals heads : ℕ) (tree : ChoiceTree) → AllLeaves (λ g. g < goals) tree → SplitsWithin heads tree → AllByRecursion (IsStepWithin goals heads) (table_steps tree)
steps_within goals heads (settles_content g) h k = (h, tt)
steps_within goals heads (settles_rest g) h k = (h, tt)
steps_within goals heads (split_on j a b) h k =
    ((k.0, k.1), all_append (IsStepWithin goals heads) (table_steps a) (table_steps b) (steps_within goals heads a h.0 k.2) (steps_within goals heads b h.1 k.3))

pub writable_steps : (nodes : List ChoiceNode) (goals heads : ℕ) (k : Choice) (steps : List Step) → IsWritable nodes goals heads k → ((tree : ChoiceTree) → StandsAt nodes k.root tree → steps ≡ table_steps tree)
    → AllByRecursion (IsStepWithin goals heads) steps
writable_steps nodes goals heads k steps w e = subst (AllByRecursion (IsStepWithin goals heads)) (sym (e w.tree w.stands)) (steps_within goals heads w.tree w.leaves w.splits)

-- a choice as a case
pub made_case : (nodes : List ChoiceNode) (places numbers : List ℕ) (goals heads n : ℕ) (k : Choice) (made : ReadCase) (steps : List Step) → IsWritable nodes goals heads k → ((tree : ChoiceTree) → StandsAt nodes k.root tree → steps ≡ table_steps tree)
    → made.head ≡ n → made.atom ≡ k.atom → IsAtom k.atom → (made.steps).items ≡ map (written_step places numbers) steps → IsMadeOf nodes places numbers n k made
made_case nodes places numbers goals heads n k made steps w e h a spelled s = record {
  case = record { head = n; atom = k.atom; choice = written_tree (place_in places) (number_in numbers) w.tree };
  of_choice = record { head = refl; atom = refl; tree = w.tree; stands = w.stands; choice = refl };
  read = record { head = h; atom = a; steps = s ∙ (ap (map (written_step places numbers)) (e w.tree w.stands) ∙ written-steps places numbers w.tree) };
  atom = spelled;
}

-- ---- cases of one head

pub more_made : (nodes : List ChoiceNode) (places numbers : List ℕ) (n : ℕ) (ks : List Choice) (i : ℕ) (k : Choice) (old cases cases2 : List ReadCase) (made : ReadCase) → i < length ks → k ≡ get_or ks i k
    → (more : List ReadCase) × (cases ≡ old ++ more) × AllZip (IsMadeOf nodes places numbers n) (take i ks) more → IsMadeOf nodes places numbers n k made → cases2 ≡ cases ++ made ∷ []
    → (more : List ReadCase) × (cases2 ≡ old ++ more) × AllZip (IsMadeOf nodes places numbers n) (take (i + 1) ks) more
more_made nodes places numbers n ks i k old cases cases2 made lt e h m f = (
  h.0 ++ made ∷ [],
  f ∙ (ap (λ (x : List ReadCase). x ++ made ∷ []) h.1 ∙ append_assoc old h.0 (made ∷ [])),
  subst (λ (x : List Choice). AllZip (IsMadeOf nodes places numbers n) x (h.0 ++ made ∷ [])) (sym (take_more ks i k lt))
      (zip_append (IsMadeOf nodes places numbers n) (take i ks) (get_or ks i k ∷ []) h.0 (made ∷ []) h.2 (subst (λ (x : Choice). IsMadeOf nodes places numbers n x made) e m, tt)),
)

-- as cases
record AreReadAs (nodes : List ChoiceNode) (places numbers : List ℕ) (n : ℕ) (ks : List Choice) (made : List ReadCase) : Type 0 where
  cases : List Case
  of_choices : AllZip (IsCaseOf nodes places numbers n) ks cases
  read : AllZip IsCase made cases
  atoms : AllByRecursion (λ (c : Case). IsAtom c.atom) cases

read_as : (nodes : List ChoiceNode) (places numbers : List ℕ) (n : ℕ) (ks : List Choice) (made : List ReadCase) → AllZip (IsMadeOf nodes places numbers n) ks made → AreReadAs nodes places numbers n ks made
read_as nodes places numbers n [] [] z = record { cases = []; of_choices = tt; read = tt; atoms = tt }
read_as nodes places numbers n [] (m ∷ made) z = absurd z
read_as nodes places numbers n (k ∷ ks) [] z = absurd z
read_as nodes places numbers n (k ∷ ks) (m ∷ made) z =
    let i = read_as nodes places numbers n ks made z.1 in
    let h = z.0 in
    record { cases = h.case ∷ i.cases; of_choices = (h.of_choice, i.of_choices); read = (h.read, i.read); atoms = (h.atom, i.atoms) }

-- ---- all cases

pub record IsWriting (nodes : List ChoiceNode) (places numbers : List ℕ) (sorts : List Bool) (elements : ℕ) (choices : List Choice) (at l t : ℕ) (ls ts : List Choice) (made : List ReadCase) : Type 0 where
  pub front : List Choice
  pub back : List Choice
  pub cut : IsCut (elements + 1) choices front back
  pub cases : List Case
  pub read : AllZip IsCase made cases
  pub atoms : AllByRecursion (λ (c : Case). IsAtom c.atom) cases
  pub elements_of : (k : Choice) → IsOneOf k ls → IsOneOf k choices
  pub texts_of : (k : Choice) → IsOneOf k ts → IsOneOf k choices
  pub counted : l + t ≡ elements + 2 + at
  pub done : (later : List Case) → AreOrdered nodes places numbers (drop at sorts) (at + 1) l t ls ts later → AreOrdered nodes places numbers sorts 1 1 (elements + 1) front back (cases ++ later)

all_among : {X : Type 0} (P : X → Type 0) (xs ys : List X) → ((x : X) → IsOneOf x xs → IsOneOf x ys) → AllByRecursion P ys → AllByRecursion P xs
all_among P [] ys f h = tt
all_among P (x ∷ xs) ys f h = (one_of-all P x ys h (f x (inl refl)), all_among P xs ys (λ y m. f y (inr m)) h)

-- the choices of the next head are among the goal's
pub front_all : (P : Choice → Type 0) (bound : ℕ) (whole front back choices : List Choice) → IsCut bound whole front back → ((k : Choice) → IsOneOf k whole → IsOneOf k choices) → AllByRecursion P choices → AllByRecursion P front
front_all P bound whole front back choices c f h = all_among P front choices (λ k m. f k (subst (IsOneOf k) (sym c.same) (one_of-append_left k front back m))) h

pub writing_none : (nodes : List ChoiceNode) (places numbers : List ℕ) (sorts : List Bool) (elements : ℕ) (choices front back : List Choice) (text : ℕ) (made : List ReadCase) → IsCut (elements + 1) choices front back → text ≡ elements + 1 → made ≡ []
    → IsWriting nodes places numbers sorts elements choices 0 1 text front back made
writing_none nodes places numbers sorts elements choices front back text made c t e = record {
  front = front;
  back = back;
  cut = c;
  cases = [];
  read = subst (λ (x : List ReadCase). AllZip IsCase x []) (sym e) tt;
  atoms = tt;
  elements_of = λ k m. subst (IsOneOf k) (sym c.same) (one_of-append_left k front back m);
  texts_of = λ k m. subst (IsOneOf k) (sym c.same) (one_of-append_right k front back m);
  counted = omega arith;
  done = λ later o. subst (λ (x : ℕ). AreOrdered nodes places numbers sorts 1 1 x front back later) t o;
}

-- the next head, of which it is known whether it is a text
drop_next : (sorts : List Bool) (i : ℕ) → i < length sorts → drop i sorts ≡ get_or sorts i false ∷ drop (i + 1) sorts
drop_next [] i lt = absurd (omega arith)
drop_next (x ∷ sorts) zero lt = refl
drop_next (x ∷ sorts) (suc i) lt = drop_next sorts i (omega arith) ∙ ap (λ (n : ℕ). get_or sorts i false ∷ drop n (x ∷ sorts)) (let q : suc (i + 1) ≡ suc i + 1 = omega arith in q)

module _ (nodes : List ChoiceNode) (places numbers : List ℕ) (sorts : List Bool) (elements : ℕ) (choices : List Choice) (at l t : ℕ) (ls ts : List Choice) (made made2 : List ReadCase) (front back : List Choice) (w : IsWriting nodes places numbers sorts elements choices at l t ls ts made)
    (lt : at < length sorts) (n : ℕ) (same : n ≡ at + 1)
    (added : (more : List ReadCase) × (made2 ≡ made ++ more) × AllZip (IsMadeOf nodes places numbers n) front more) where
  here : AreReadAs nodes places numbers (at + 1) front added.0
  here = read_as nodes places numbers (at + 1) front added.0 (subst (λ (x : ℕ). AllZip (IsMadeOf nodes places numbers x) front added.0) same added.2)

  read_more : AllZip IsCase made2 (w.cases ++ here.cases)
  read_more = subst (λ (x : List ReadCase). AllZip IsCase x (w.cases ++ here.cases)) (sym added.1) (zip_append IsCase made added.0 w.cases here.cases w.read here.read)

  pub writing_text : get_or sorts at false ≡ true → IsCut (t + 1) ts front back → IsWriting nodes places numbers sorts elements choices (at + 1) l (t + 1) ls back made2
  writing_text q c = record {
    front = w.front;
    back = w.back;
    cut = w.cut;
    cases = w.cases ++ here.cases;
    read = read_more;
    atoms = all_append (λ (c : Case). IsAtom c.atom) w.cases here.cases w.atoms here.atoms;
    elements_of = w.elements_of;
    texts_of = λ k m. w.texts_of k (subst (IsOneOf k) (sym c.same) (one_of-append_right k front back m));
    counted = (let x = w.counted in omega arith);
    done = λ later o.
        subst (AreOrdered nodes places numbers sorts 1 1 (elements + 1) w.front w.back) (sym (append_assoc w.cases here.cases later))
        (w.done (here.cases ++ later)
        (subst (λ (x : List Bool). AreOrdered nodes places numbers x (at + 1) l t ls ts (here.cases ++ later)) (sym (drop_next sorts at lt ∙ ap (λ (b : Bool). b ∷ drop (at + 1) sorts) q))
        (front, back, here.cases, later, c, here.of_choices, refl, o)));
  }

  pub writing_element : get_or sorts at false ≡ false → IsCut (l + 1) ls front back → IsWriting nodes places numbers sorts elements choices (at + 1) (l + 1) t back ts made2
  writing_element q c = record {
    front = w.front;
    back = w.back;
    cut = w.cut;
    cases = w.cases ++ here.cases;
    read = read_more;
    atoms = all_append (λ (c : Case). IsAtom c.atom) w.cases here.cases w.atoms here.atoms;
    elements_of = λ k m. w.elements_of k (subst (IsOneOf k) (sym c.same) (one_of-append_right k front back m));
    texts_of = w.texts_of;
    counted = (let x = w.counted in omega arith);
    done = λ later o.
        subst (AreOrdered nodes places numbers sorts 1 1 (elements + 1) w.front w.back) (sym (append_assoc w.cases here.cases later))
        (w.done (here.cases ++ later)
        (subst (λ (x : List Bool). AreOrdered nodes places numbers x (at + 1) l t ls ts (here.cases ++ later)) (sym (drop_next sorts at lt ∙ ap (λ (b : Bool). b ∷ drop (at + 1) sorts) q))
        (front, back, here.cases, later, c, here.of_choices, refl, o)));
  }

pub writing_all : (nodes : List ChoiceNode) (places numbers : List ℕ) (sorts : List Bool) (elements : ℕ) (choices : List Choice) (at l t : ℕ) (ls ts : List Choice) (made : List ReadCase) → IsWriting nodes places numbers sorts elements choices at l t ls ts made
    → length sorts ≤ at → AreWrittenCases nodes places numbers sorts elements choices made
writing_all nodes places numbers sorts elements choices at l t ls ts made w le = record {
  front = w.front;
  back = w.back;
  cut = w.cut;
  cases = w.cases;
  read = w.read;
  atoms = w.atoms;
  ordered = subst (AreOrdered nodes places numbers sorts 1 1 (elements + 1) w.front w.back) (append-nil w.cases)
      (w.done [] (subst (λ (x : List Bool). AreOrdered nodes places numbers x (at + 1) l t ls ts []) (sym (none sorts at le)) refl));
}
  where
    none : (xs : List Bool) (n : ℕ) → length xs ≤ n → drop n xs ≡ []
    none [] zero h = refl
    none [] (suc n) h = refl
    none (x ∷ xs) zero h = absurd (omega arith)
    none (x ∷ xs) (suc n) h = none xs n (omega arith)

-- ---- numbers that are none

pub none-push : (ns ns2 : List ℕ) → ns2 ≡ ns ++ 0 ∷ [] → ((g : ℕ) → IsMet ns g → ⊥) → (g : ℕ) → IsMet ns2 g → ⊥
none-push ns ns2 e none g h =
    ⊎_elim
    (λ x. none g (record { before = h.before; is = x }))
    (λ x. let q : 0 ≡ suc h.before = x.1 in omega arith)
    (slice_get-push_cases ns 0 (suc h.before) g (ap (λ (xs : List ℕ). slice_get xs g) (sym e) ∙ h.is))
