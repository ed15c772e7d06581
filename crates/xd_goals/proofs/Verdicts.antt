-- What a table says is true.
use Rattle.std.proofs.Common.{ℕ, ◌≡◌, Bool, true, false, not, cond, ◌||◌, List, [], ◌∷◌, ◌++◌, map, Some, Result, Ok, Err, IfOk, inl, inr, sym, refl, ap, subst, ◌∙◌}
use Rattle.std.specs.List.{AllByRecursion, list_any}
use Rattle.xd_doc.specs.Document.{Document, empty, text, element}
use Rattle.xd_doc.specs.Classes.{NameClass, class_has, is_named}
use Rattle.xd_doc.specs.Stored.{document_at}
use Rattle.xd_doc.specs.StoredSeq.{BelongsTo}
use Rattle.xd_doc.specs.StoreNodes.{no_items}
use Rattle.xd_doc.specs.declared.store.Seq.{Seq}
use Rattle.xd_doc.proofs.Lists.{all_more}
use Rattle.xd_auto.specs.declared.auto.State.{State}
use Rattle.xd_auto.specs.Automaton.{Automaton}
use Rattle.xd_rules.specs.declared.atom.Atom.{Atom}
use Rattle.xd_rules.specs.declared.atom.Atom.TheVariants.{Label, OtherLabel, Text, OtherText}
use Rattle.xd_doc.specs.Members.{IsOneOf}
use Rattle.xd_rules.specs.Listed.{NoneOf, AreNames}
use Rattle.xd_rules.specs.Heads.{Head, matches}
use Rattle.xd_rules.specs.Meaning.{is_text_atom, takes_label, takes_text, keyed, AllLeaves, right_heads, Separates}
use Rattle.xd_rules.specs.Rules.{Claim, Case, HeadAtom, head_atom, CaseRule}
use Rattle.xd_rules.proofs.Atoms.{matches-label, matches-text, matches-other_label, matches-other_text}
use Rattle.xd_rules.proofs.Soundness.{IsSettled as HasRow, holds}
use Rattle.xd_rules.proofs.Members.{one_of-append_left, one_of-append_right, one_of-to_flat_map}
use Rattle.xd_rules.proofs.Separation.{separates-text, separates-empty}
use Rattle.xd_state_heads.specs.Moves.{Accepts, claim_with, heads_of, is_last_in}
use Rattle.xd_goals.specs.Rows.{TableView, row_at, claim_of, claim_at, choice_key}
use Rattle.xd_goals.specs.Trees.{IsFailure, IsFailureBySort, IsTextFailure, IsRefutedBy, gathered, takes}
use Rattle.xd_state_heads.specs.declared.heads.Side.{Side}
use Rattle.xd_goals.specs.Standing.{IsSeparatedBy, claim_sides, task_for}
use Rattle.xd_goals.specs.Facts.{FactsOn, FactsOnAutomaton}
use Rattle.xd_goals.specs.Reached.{is_marked, LeadsToMarked, IsSettled}
use Rattle.xd_goals.specs.Truth.{IsIncluded, KeepsRules}
use Rattle.xd_goals.specs.Cases.{BeginsAs, FailsAt}
use Rattle.xd_state_heads.specs.Wants.{names_in}
use Rattle.xd_goals.specs.declared.table.Choice.{Choice}
use Rattle.xd_goals.specs.declared.table.GoalCase.{GoalCase}
use Rattle.xd_goals.proofs.GrowsByLemmas.{claim_within}
use Rattle.xd_rules.proofs.Lists.{all_at}
use Rattle.xd_goals.proofs.Facts.{StandsSomewhere, choices_stand}
use Rattle.xd_goals.proofs.KeepsRulesLemmas.{case_keeps, side_of_head, gathered-has}
use Rattle.xd_goals.proofs.MeaningLemmas.{automaton_meaning}

module _ (a : Automaton) (t : TableView) (stands : FactsOnAutomaton a t) where
  cases_of : (c : Claim State) (ks : List Choice) → AllByRecursion (StandsSomewhere a t c) ks → List Case
  cases_of c [] h = []
  cases_of c (k ∷ ks) h = record { head = k.head; atom = k.atom; choice = h.0.1.has.tree } ∷ cases_of c ks h.1

  keys_are : (c : Claim State) (ks : List Choice) (h : AllByRecursion (StandsSomewhere a t c) ks) → map head_atom (cases_of c ks h) ≡ map choice_key ks
  unfolding cases_of
  keys_are c [] h = refl
  keys_are c (k ∷ ks) h = ap (λ (rest : List HeadAtom). keyed k.head k.atom ∷ rest) (keys_are c ks h.1)

  each_is : (c : Claim State) (ks : List Choice) (h : AllByRecursion (StandsSomewhere a t c) ks) → AllByRecursion (CaseRule (claim_at t.rows) (heads_of a c.left) (right_heads (heads_of a) c)) (cases_of c ks h)
  unfolding cases_of
  each_is c [] h = tt
  each_is c (k ∷ ks) h =
      let x = h.0.1 in
      (record { left_head = x.head; stands = x.found; tree = case_keeps t.rows a h.0.0 c x.head k.atom x.has.tree x.has.kind }, each_is c ks h.1)

  leaves_are : (marks : List Bool) (c : Claim State) (ks : List Choice) (h : AllByRecursion (StandsSomewhere a t c) ks) → AllByRecursion (LeadsToMarked t.nodes marks) ks
      → AllByRecursion (λ (k : Case). AllLeaves (λ g. is_marked marks g ≡ true) k.choice) (cases_of c ks h)
  unfolding cases_of
  leaves_are marks c [] h m = tt
  leaves_are marks c (k ∷ ks) h m = (m.0 h.0.1.has.tree h.0.1.has.stands, leaves_are marks c ks h.1 m.1)

  row_is : (goal : ℕ) (s : IsSettled t goal) (g : ℕ) → is_marked s.marks g ≡ true → (c : Claim State) → claim_at t.rows g ≡ Some c → HasRow (heads_of a) (is_last_in a) (claim_at t.rows) (λ k. is_marked s.marks k ≡ true) c
  row_is goal s g m c found = subst (HasRow (heads_of a) (is_last_in a) (claim_at t.rows) (λ k. is_marked s.marks k ≡ true)) (claim_within t.rows g c found).1 row
    where
      row : HasRow (heads_of a) (is_last_in a) (claim_at t.rows) (λ k. is_marked s.marks k ≡ true) (claim_of (row_at t.rows g))
      row =
          let r = stands.holds g (s.holds g m) in
          let ks = (row_at t.rows g).choices in
          let stand = choices_stand a t stands g in
          record {
            cases = cases_of (claim_of (row_at t.rows g)) ks stand;
            rules = record {
              last = r.begun.last;
              complete = keys_are (claim_of (row_at t.rows g)) ks stand ∙ r.begun.complete;
              each = each_is (claim_of (row_at t.rows g)) ks stand;
            };
            leaves = leaves_are s.marks (claim_of (row_at t.rows g)) ks stand (s.leads g m);
          }

  -- a goal that holds, and leads to goals alone that hold, is true
  pub settled_is_included : (goal : ℕ) → IsSettled t goal → (left : State) (rights : List State) → claim_at t.rows goal ≡ Some (claim_with left rights) → IsIncluded a left rights
  settled_is_included goal s left rights e d =
      holds (Accepts a) (heads_of a) (is_last_in a) (automaton_meaning a) (claim_at t.rows) (λ k. is_marked s.marks k ≡ true) (row_is goal s) d goal s.start (claim_with left rights) e

-- the document of a refuted goal
pub refuted_by : (a : Automaton) (ds : List Document) (t : TableView) → FactsOn a ds t → (c : Claim State) (seq : Seq) → IsRefutedBy t.rows c seq → IsSeparatedBy a ds c seq
refuted_by a ds t stands c seq h =
    let w = claim_within t.rows h.goal c h.claim in
    subst (λ (x : Claim State). IsSeparatedBy a ds x seq) w.1 (stands.refuted h.goal seq h.refuted)

none_accepts : (a : Automaton) (c : Claim State) (d : Document) → Separates (Accepts a) c d → (states : List State) → ((s : State) → IsOneOf s states → IsOneOf s c.rights) → NoneOf (λ s. Accepts a s d) states
none_accepts a c d h [] f = tt
none_accepts a c d h (s ∷ ss) f = (h.refused s (f s (inl refl)), none_accepts a c d h ss (λ k m. f k (inr m)))

-- what a class that excepts names has isn't named
not_named : (c : NameClass) (x : List ℕ) → c.except ≡ true → class_has c x ≡ true → is_named c.names x ≡ false
not_named c x e h = go c.except (is_named c.names x) e h
  where
    go : (b m : Bool) → b ≡ true → cond b (not m) m ≡ true → m ≡ false
    go true true p q = absurd (cc)
    go true false p q = refl
    go false m p q = absurd (cc)

-- the document that is made where a case fails separates the goal
module _ (a : Automaton) (ds : List Document) (t : TableView) (stands : FactsOn a ds t) (owner : GoalCase) (c : Claim State)
    (labels texts : NameClass) (names : AreNames (heads_of a c.left ++ right_heads (heads_of a) c) (names_in labels texts)) (labels_except : labels.except ≡ true) (texts_except : texts.except ≡ true)
    (h : Head State) (m : IsOneOf h (heads_of a c.left)) (atom : Atom) (matched : matches h.kind atom ≡ true) (inside behind : Seq) where
  element_separates : IsFailure a ds (task_for a owner h) (claim_sides a c atom) inside behind → (l : List ℕ)
      → ((k : Head State) → IsOneOf k (heads_of a c.left ++ right_heads (heads_of a) c) → matches k.kind atom ≡ takes_label k.kind l)
      → Separates (Accepts a) c (element l (document_at ds inside) (document_at ds behind))
  element_separates f l same = record {
    accepted = (automaton_meaning a).element_to c.left l (document_at ds inside) (document_at ds behind) h m (sym (same h (one_of-append_left h (heads_of a c.left) (right_heads (heads_of a) c) m)) ∙ matched) f.content f.rest;
    refused = λ r rm p. from_head r rm ((automaton_meaning a).element_from r l (document_at ds inside) (document_at ds behind) p);
  }
    where
      taken : (w : Side) → Accepts a w.content (document_at ds inside) → Accepts a w.rest (document_at ds behind) → takes a ds inside behind w ≡ true
      taken w p q = rw (p, q) refl

      from_head : (r : State) → IsOneOf r c.rights → (k : Head State) × IsOneOf k (heads_of a r) × (takes_label k.kind l ≡ true) × Accepts a k.content (document_at ds inside) × Accepts a k.rest (document_at ds behind) → ⊥
      from_head r rm k =
          let km = one_of-to_flat_map (heads_of a) k.0 r c.rights rm k.1 in
          let hit : matches k.0.kind atom ≡ true = same k.0 (one_of-append_right k.0 (heads_of a c.left) (right_heads (heads_of a) c) km) ∙ k.2 in
          let s = side_of_head atom 1 (right_heads (heads_of a) c) k.0 km hit in
          let no = all_at (λ (w : Side). takes a ds inside behind w ≡ false) (claim_sides a c atom) s.0 s.1 f.refused s.2 in
          let yes = taken s.1 (subst (λ (w : State). Accepts a w (document_at ds inside)) (sym s.3) k.3) (subst (λ (w : State). Accepts a w (document_at ds behind)) (sym s.4) k.4) in
          cc

  text_separates : IsTextFailure t.rows (task_for a owner h) (claim_sides a c atom) behind → (x : List ℕ)
      → ((k : Head State) → IsOneOf k (heads_of a c.left ++ right_heads (heads_of a) c) → matches k.kind atom ≡ takes_text k.kind x)
      → Separates (Accepts a) c (text x (document_at ds behind))
  text_separates f x same =
      let rests = gathered [] (claim_sides a c atom) in
      let no_rest = (refuted_by a ds t stands (claim_with h.rest rests) behind f).separates in
      separates-text (Accepts a) (heads_of a) (is_last_in a) (automaton_meaning a) c h m atom x same matched rests
      (λ k km hit. let s = side_of_head atom 1 (right_heads (heads_of a) c) k km hit in
      subst (λ (w : State). IsOneOf w rests) s.4 (gathered-has (claim_sides a c atom) [] s.0 s.1 s.2))
      (document_at ds behind) no_rest.accepted (none_accepts a (claim_with h.rest rests) (document_at ds behind) no_rest rests (λ s y. y))

-- by the atom
pub failure_separates : (a : Automaton) (ds : List Document) (t : TableView) → FactsOn a ds t → (c : Claim State) (labels texts : NameClass)
    → AreNames (heads_of a c.left ++ right_heads (heads_of a) c) (names_in labels texts) → labels.except ≡ true → texts.except ≡ true
    → (atom : Atom) (inside behind : Seq) → FailsAt a ds t c atom inside behind → (d : Document) → BeginsAs labels texts atom (document_at ds inside) (document_at ds behind) d → Separates (Accepts a) c d
failure_separates a ds t stands c labels texts names le te (Label l) inside behind f d b =
    subst (λ (w : Document). Separates (Accepts a) c w) (sym b)
    (element_separates a ds t stands f.owner c labels texts names le te f.of_head f.among (Label l) f.matched inside behind f.fails l (λ k km. matches-label l k.kind))
failure_separates a ds t stands c labels texts names le te OtherLabel inside behind f d b =
    subst (λ (w : Document). Separates (Accepts a) c w) (sym b.2)
    (element_separates a ds t stands f.owner c labels texts names le te f.of_head f.among OtherLabel f.matched inside behind f.fails b.0
    (matches-other_label (heads_of a c.left ++ right_heads (heads_of a) c) (names_in labels texts) names b.0 (not_named labels b.0 le b.1)))
failure_separates a ds t stands c labels texts names le te (Text x) inside behind f d b =
    subst (λ (w : Document). Separates (Accepts a) c w) (sym b)
    (text_separates a ds t stands f.owner c labels texts names le te f.of_head f.among (Text x) f.matched inside behind f.fails x (λ k km. matches-text x k.kind))
failure_separates a ds t stands c labels texts names le te OtherText inside behind f d b =
    subst (λ (w : Document). Separates (Accepts a) c w) (sym b.2)
    (text_separates a ds t stands f.owner c labels texts names le te f.of_head f.among OtherText f.matched inside behind f.fails b.0
    (matches-other_text (heads_of a c.left ++ right_heads (heads_of a) c) (names_in labels texts) names b.0 (not_named texts b.0 te b.1)))

-- the documents of a case that fails are those of goals
pub content_belongs : (a : Automaton) (ds : List Document) (t : TableView) → FactsOn a ds t → (c : Claim State) (atom : Atom) (inside behind : Seq) → FailsAt a ds t c atom inside behind → is_text_atom atom ≡ false → BelongsTo ds inside
content_belongs a ds t stands c atom inside behind f e =
    let g : IsFailure a ds (task_for a f.owner f.of_head) (claim_sides a c atom) inside behind =
    subst (λ (b : Bool). IsFailureBySort b a ds t.rows (task_for a f.owner f.of_head) (claim_sides a c atom) inside behind) e f.fails in g.content_belongs

pub rest_belongs : (a : Automaton) (ds : List Document) (t : TableView) → FactsOn a ds t → (c : Claim State) (atom : Atom) (inside behind : Seq) → FailsAt a ds t c atom inside behind → BelongsTo ds behind
rest_belongs a ds t stands c atom inside behind f = go (is_text_atom atom) f.fails
  where
    go : (b : Bool) → IsFailureBySort b a ds t.rows (task_for a f.owner f.of_head) (claim_sides a c atom) inside behind → BelongsTo ds behind
    go true g = (refuted_by a ds t stands (claim_with f.of_head.rest (gathered [] (claim_sides a c atom))) behind g).belongs
    go false g = g.rest_belongs

-- in the store that holds the new document
pub separated_by : {E : Type 0} (a : Automaton) (ds es : List Document) (t : TableView) → FactsOn a ds t → (c : Claim State) (labels texts : NameClass)
    → AreNames (heads_of a c.left ++ right_heads (heads_of a) c) (names_in labels texts) → labels.except ≡ true → texts.except ≡ true
    → (atom : Atom) (inside behind : Seq) → FailsAt a ds t c atom inside behind → (r : Result Seq E) → IfOk r (BelongsTo es)
    → IfOk r (λ seq. BeginsAs labels texts atom (document_at ds inside) (document_at ds behind) (document_at es seq)) → IfOk r (IsSeparatedBy a es c)
separated_by a ds es t stands c labels texts names le te atom inside behind f (Ok seq) belongs begins =
    record { belongs = belongs; separates = failure_separates a ds t stands c labels texts names le te atom inside behind f (document_at es seq) begins }
separated_by a ds es t stands c labels texts names le te atom inside behind f (Err e) belongs begins = tt

pub empty_separates : (a : Automaton) (c : Claim State) → is_last_in a c.left ≡ true → list_any (is_last_in a) c.rights ≡ false → Separates (Accepts a) c empty
empty_separates a c left rights =
    separates-empty (Accepts a) (heads_of a) (is_last_in a) (automaton_meaning a) c left (none c.rights rights)
  where
    none : (ss : List State) → list_any (is_last_in a) ss ≡ false → AllByRecursion (λ r. is_last_in a r ≡ false) ss
    none [] e = tt
    none (s ∷ ss) e = go (is_last_in a s) refl e (λ p. none ss p)
      where
        go : (b : Bool) → is_last_in a s ≡ b → (b || list_any (is_last_in a) ss) ≡ false → (list_any (is_last_in a) ss ≡ false → AllByRecursion (λ r. is_last_in a r ≡ false) ss) → AllByRecursion (λ r. is_last_in a r ≡ false) (s ∷ ss)
        go true q p rec = absurd (cc)
        go false q p rec = (q, rec p)

-- the choice trees of a table that stands keep the rules
pub choices_keep : (a : Automaton) (t : TableView) → FactsOnAutomaton a t → (i : ℕ) → AllByRecursion (KeepsRules a t (claim_of (row_at t.rows i))) (row_at t.rows i).choices
choices_keep a t h i =
    all_more (StandsSomewhere a t (claim_of (row_at t.rows i))) (KeepsRules a t (claim_of (row_at t.rows i))) (row_at t.rows i).choices
    (λ k s. let x = s.1 in record {
      head = x.head;
      found = x.found;
      tree = x.has.tree;
      stands = x.has.stands;
      keeps = case_keeps t.rows a s.0 (claim_of (row_at t.rows i)) x.head k.atom x.has.tree x.has.kind;
    })
    (choices_stand a t h i)

pub empty_separated : (a : Automaton) (ds : List Document) (c : Claim State) (seq : Seq) → seq ≡ no_items → is_last_in a c.left ≡ true → list_any (is_last_in a) c.rights ≡ false → IsSeparatedBy a ds c seq
empty_separated a ds c seq e left rights = rw e (record {
  belongs = record { place = tt; proper = refl; filled = refl };
  separates = empty_separates a c left rights;
})
