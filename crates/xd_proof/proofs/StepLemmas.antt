-- Steps of choice trees, read one by one.
use Rattle.std.proofs.Common.{◌≡◌, ◌≢◌, ℕ, zero, suc, ◌+◌, ◌-◌, ◌<◌, ◌≤◌, arith, Bor, Option, Some, None, List, [], ◌∷◌, ◌++◌, map, flat_map, length, get_or, drop, drop-drop, append_assoc, append-nil, refl, ap, sym, subst, ◌∙◌, inl, inr, ◌⊎◌}
use Rattle.std.specs.Prelude.{codes, MatchOption}
use Rattle.std.specs.List.{AllByRecursion}
use Rattle.std.proofs.lemmas.List.{length-map, length-drop}
use Rattle.xd_rules.specs.Rules.{ChoiceTree, settles_content, settles_rest, split_on}
use Rattle.xd_proof.specs.Lines.{SpellsNumber}
use Rattle.xd_proof.specs.Parts.{tree_words, HasNumbers}
use Rattle.xd_proof.specs.Forest.{SpellsTrees}
use Rattle.xd_proof.proofs.SpellsTreesLemmas.{trees_are_counted}
use Rattle.xd_proof.specs.declared.steps.Step.{Step}
use Rattle.xd_proof.specs.declared.steps.Step.TheVariants.{Content, Rest, Split}
use Rattle.xd_proof.specs.Steps.{steps_of, step_letter, step_number, SpellsSteps, IsStep, wanted_after}

-- ---- a step more
module _ (m n : ℕ) (w : List ℕ) (rest : List (List ℕ)) (s : SpellsNumber w n) (more : List Step) where
  with_content : SpellsSteps m rest more → SpellsSteps (suc m) (codes "c" ∷ (w ∷ rest)) (Content n ∷ more)
  with_content a = record {
    trees = settles_content n ∷ a.trees;
    many = ap suc a.many;
    numbers = (s.number, a.numbers);
    spelled = ap (λ v. codes "c" ∷ (v ∷ flat_map tree_words a.trees)) (sym s.digits) ∙ ap (λ l. codes "c" ∷ (w ∷ l)) a.spelled;
    taken = ap (λ l. Content n ∷ l) a.taken;
  }

  with_rest : SpellsSteps m rest more → SpellsSteps (suc m) (codes "r" ∷ (w ∷ rest)) (Rest n ∷ more)
  with_rest a = record {
    trees = settles_rest n ∷ a.trees;
    many = ap suc a.many;
    numbers = (s.number, a.numbers);
    spelled = ap (λ v. codes "r" ∷ (v ∷ flat_map tree_words a.trees)) (sym s.digits) ∙ ap (λ l. codes "r" ∷ (w ∷ l)) a.spelled;
    taken = ap (λ l. Rest n ∷ l) a.taken;
  }

  split_from : (ts : List ChoiceTree) → length ts ≡ suc (suc m) → AllByRecursion HasNumbers ts → flat_map tree_words ts ≡ rest → flat_map steps_of ts ≡ more → SpellsSteps (suc m) (codes "?" ∷ (w ∷ rest)) (Split n ∷ more)
  split_from [] l h e f = absurd (omega (arith, l))
  split_from (A ∷ []) l h e f = absurd (omega (arith, l))
  split_from (A ∷ (B ∷ ts)) l h e f = record {
    trees = split_on n A B ∷ ts;
    many = omega (arith, l);
    numbers = ((s.number, h.0, (h.1).0), (h.1).1);
    spelled =
        ap (λ v. codes "?" ∷ (v ∷ ((tree_words A ++ tree_words B) ++ flat_map tree_words ts))) (sym s.digits)
        ∙ ap (λ l. codes "?" ∷ (w ∷ l)) (append_assoc (tree_words A) (tree_words B) (flat_map tree_words ts) ∙ e);
    taken = ap (λ l. Split n ∷ l) (append_assoc (steps_of A) (steps_of B) (flat_map steps_of ts) ∙ f);
  }

  with_split : SpellsSteps (suc (suc m)) rest more → SpellsSteps (suc m) (codes "?" ∷ (w ∷ rest)) (Split n ∷ more)
  with_split a = split_from a.trees a.many a.numbers a.spelled a.taken

pub step_more : (m : ℕ) (words rest : List (List ℕ)) (s : Step) (more : List Step) → IsStep words s rest → SpellsSteps (wanted_after s m) rest more → SpellsSteps (m + 1) words (s ∷ more)
step_more m words rest (Content n) more i a = let e : suc m ≡ m + 1 = omega arith in subst (λ k. SpellsSteps k words (Content n ∷ more)) e (subst (λ l. SpellsSteps (suc m) l (Content n ∷ more)) (sym i.stands) (with_content m n i.word rest i.number more a))
step_more m words rest (Rest n) more i a = let e : suc m ≡ m + 1 = omega arith in subst (λ k. SpellsSteps k words (Rest n ∷ more)) e (subst (λ l. SpellsSteps (suc m) l (Rest n ∷ more)) (sym i.stands) (with_rest m n i.word rest i.number more a))
step_more m words rest (Split n) more i a =
    let e : suc m ≡ m + 1 = omega arith in
    let f : m + 2 ≡ suc (suc m) = omega arith in
    subst (λ k. SpellsSteps k words (Split n ∷ more)) e (subst (λ l. SpellsSteps (suc m) l (Split n ∷ more)) (sym i.stands) (with_split m n i.word rest i.number more (subst (λ k. SpellsSteps k rest more) f a)))

pub step_less : (m : ℕ) (words rest : List (List ℕ)) (s : Step) → IsStep words s rest → SpellsTrees (m + 1) words → SpellsTrees (wanted_after s m) rest
step_less m words rest (Content n) i a = let e : m + 1 ≡ suc m = omega arith in ((trees_are_counted.content m i.word rest).0 (subst (SpellsTrees (suc m)) i.stands (subst (λ k. SpellsTrees k words) e a))).1
step_less m words rest (Rest n) i a = let e : m + 1 ≡ suc m = omega arith in ((trees_are_counted.rest m i.word rest).0 (subst (SpellsTrees (suc m)) i.stands (subst (λ k. SpellsTrees k words) e a))).1
step_less m words rest (Split n) i a =
    let e : m + 1 ≡ suc m = omega arith in
    let f : suc (suc m) ≡ m + 2 = omega arith in
    subst (λ k. SpellsTrees k rest) f ((trees_are_counted.split m i.word rest).0 (subst (SpellsTrees (suc m)) i.stands (subst (λ k. SpellsTrees k words) e a))).1

-- ---- no step
pub record FirstTwo (words : List (List ℕ)) : Type 0 where
  pub letter : List ℕ
  pub word : List ℕ
  pub rest : List (List ℕ)
  pub stand : words ≡ letter ∷ (word ∷ rest)
  pub letters : (letter ≡ codes "c") ⊎ (letter ≡ codes "r") ⊎ (letter ≡ codes "?")
  pub number : (n : ℕ) × SpellsNumber word n

number_there : (n : ℕ) (v w : List ℕ) (rest : List (List ℕ)) → SpellsTrees (suc n) (v ∷ (w ∷ rest)) → (v ≡ codes "c") ⊎ (v ≡ codes "r") ⊎ (v ≡ codes "?") → (k : ℕ) × SpellsNumber w k
number_there n v w rest s (inl e) = ((trees_are_counted.content n w rest).0 (subst (λ x. SpellsTrees (suc n) (x ∷ (w ∷ rest))) e s)).0
number_there n v w rest s (inr (inl e)) = ((trees_are_counted.rest n w rest).0 (subst (λ x. SpellsTrees (suc n) (x ∷ (w ∷ rest))) e s)).0
number_there n v w rest s (inr (inr e)) = ((trees_are_counted.split n w rest).0 (subst (λ x. SpellsTrees (suc n) (x ∷ (w ∷ rest))) e s)).0

pub first_two : (n : ℕ) (words : List (List ℕ)) → SpellsTrees (n + 1) words → FirstTwo words
first_two n words s =
    let e : n + 1 ≡ suc n = omega arith in
    let t = subst (λ k. SpellsTrees k words) e s in
    let o = trees_are_counted.other n words t in
    record { letter = o.0; word = o.1; rest = o.2; stand = o.3; letters = o.4; number = number_there n o.0 o.1 o.2 (subst (SpellsTrees (suc n)) o.3 t) o.4 }

-- ---- the words of slices
abbrev pub texts : List (Bor (List ℕ)) → List (List ℕ)
texts ws = map (λ w. w.now) ws

pub none_left : (ws : List (Bor (List ℕ))) → length ws ≡ 0 → (n : ℕ) → SpellsTrees (n + 1) (texts ws) → ⊥
none_left [] h n s = let t = first_two n [] s in let e : [] ≡ t.letter ∷ (t.word ∷ t.rest) = t.stand in cc
none_left (w ∷ ws) h n s = omega (arith, h)

pub one_left : (ws : List (Bor (List ℕ))) (v : Bor (List ℕ)) (vs : List (Bor (List ℕ))) → ws ≡ v ∷ vs → length vs ≡ 0 → (n : ℕ) → SpellsTrees (n + 1) (texts ws) → ⊥
one_left ws v [] e h n s = let t = first_two n (texts ws) s in let f : v.now ∷ [] ≡ t.letter ∷ (t.word ∷ t.rest) = sym (ap texts e) ∙ t.stand in cc
one_left ws v (u ∷ us) e h n s = omega (arith, h)

pub no_number : (ws : List (Bor (List ℕ))) (v u : Bor (List ℕ)) (vs us : List (Bor (List ℕ))) → ws ≡ v ∷ vs → vs ≡ u ∷ us → ((k : ℕ) → SpellsNumber u.now k → ⊥) → (n : ℕ) → SpellsTrees (n + 1) (texts ws) → ⊥
no_number ws v u vs us e f never n s =
    let t = first_two n (texts ws) s in
    let g : v.now ∷ (u.now ∷ texts us) ≡ t.letter ∷ (t.word ∷ t.rest) = sym (ap texts (e ∙ ap (λ x. v ∷ x) f)) ∙ t.stand in
    let h : t.word ≡ u.now = sym (ap (λ l. get_or l 1 []) g) in
    never (t.number).0 (subst (λ x. SpellsNumber x (t.number).0) h (t.number).1)

no_such : (l : List ℕ) → (l ≢ codes "c") × (l ≢ codes "r") × (l ≢ codes "?") → (l ≡ codes "c") ⊎ (l ≡ codes "r") ⊎ (l ≡ codes "?") → ⊥
no_such l never (inl e) = never.0 e
no_such l never (inr (inl e)) = never.1 e
no_such l never (inr (inr e)) = never.2 e

pub no_letter : (ws : List (Bor (List ℕ))) (v : Bor (List ℕ)) (vs : List (Bor (List ℕ))) → ws ≡ v ∷ vs → (v.now ≢ codes "c") × (v.now ≢ codes "r") × (v.now ≢ codes "?") → (n : ℕ) → SpellsTrees (n + 1) (texts ws) → ⊥
no_letter ws v vs e never n s =
    let t = first_two n (texts ws) s in
    let g : v.now ∷ texts vs ≡ t.letter ∷ (t.word ∷ t.rest) = sym (ap texts e) ∙ t.stand in
    let h : t.letter ≡ v.now = sym (ap (λ l. get_or l 0 []) g) in
    no_such v.now never (subst (λ x. (x ≡ codes "c") ⊎ (x ≡ codes "r") ⊎ (x ≡ codes "?")) h t.letters)

pub step_stands : (ws : List (Bor (List ℕ))) (v u : Bor (List ℕ)) (vs us : List (Bor (List ℕ))) (k : ℕ) (s : Step) → ws ≡ v ∷ vs → vs ≡ u ∷ us → SpellsNumber u.now k → v.now ≡ step_letter s → step_number s ≡ k → IsStep (texts ws) s (texts (drop 2 ws))
step_stands ws v u vs us k s e f n l m = record {
  word = u.now;
  stands = ap texts (e ∙ ap (λ x. v ∷ x) f) ∙ ap (λ x. x ∷ (u.now ∷ texts us)) l ∙ ap (λ x. step_letter s ∷ (u.now ∷ texts x)) (sym (ap (drop 2) (e ∙ ap (λ x. v ∷ x) f)));
  number = subst (SpellsNumber u.now) (sym m) n;
}

-- ---- the loop
pub record IsUnderWay (all left : List (List ℕ)) (wanted : ℕ) (steps : List Step) : Type 0 where
  pub there : SpellsTrees 1 all → SpellsTrees wanted left
  pub back : (more : List Step) → SpellsSteps wanted left more → SpellsSteps 1 all (steps ++ more)

pub way_begins : (all : List (List ℕ)) → IsUnderWay all all 1 []
way_begins all = record { there = λ s. s; back = λ more s. s }

pub way_on : (all left rest : List (List ℕ)) (wanted later : ℕ) (steps new : List Step) (s : Step) → IsUnderWay all left wanted steps → 0 < wanted → IsStep left s rest → later ≡ wanted_after s (wanted - 1) → new ≡ steps ++ s ∷ [] → IsUnderWay all rest later new
way_on all left rest wanted later steps new s w h i e f =
    let g : wanted - 1 + 1 ≡ wanted = omega (arith, h) in record {
      there = λ t. subst (λ k. SpellsTrees k rest) (sym e) (step_less (wanted - 1) left rest s i (subst (λ k. SpellsTrees k left) (sym g) (w.there t)));
      back = λ more t.
          let a = step_more (wanted - 1) left rest s more i (subst (λ k. SpellsSteps k rest more) e t) in
          let b = w.back (s ∷ more) (subst (λ k. SpellsSteps k left (s ∷ more)) g a) in
          subst (SpellsSteps 1 all) (sym (append_assoc steps (s ∷ []) more) ∙ ap (λ l. l ++ more) (sym f)) b;
    }

pub way_done : (all : List (List ℕ)) (ws : List (Bor (List ℕ))) (wanted : ℕ) (steps : List Step) → IsUnderWay all (texts ws) wanted steps → wanted ≡ 0 → length ws ≡ 0 → SpellsSteps 1 all steps
way_done all [] wanted steps w z h = subst (SpellsSteps 1 all) (append-nil steps) (w.back [] (record { trees = []; many = sym z; numbers = tt; spelled = refl; taken = refl }))
way_done all (x ∷ xs) wanted steps w z h = absurd (omega (arith, h))

pub way_over : (all : List (List ℕ)) (ws : List (Bor (List ℕ))) (wanted : ℕ) (steps : List Step) → IsUnderWay all (texts ws) wanted steps → wanted ≡ 0 → 0 < length ws → SpellsTrees 1 all → ⊥
way_over all [] wanted steps w z h s = omega (arith, h)
way_over all (x ∷ xs) wanted steps w z h s = let e = (trees_are_counted.none (texts (x ∷ xs))).0 (subst (λ k. SpellsTrees k (texts (x ∷ xs))) z (w.there s)) in cc

pub way_stops : (all left : List (List ℕ)) (wanted : ℕ) (steps : List Step) → IsUnderWay all left wanted steps → 0 < wanted → ((n : ℕ) → SpellsTrees (n + 1) left → ⊥) → SpellsTrees 1 all → ⊥
way_stops all left wanted steps w h never s = let g : wanted ≡ wanted - 1 + 1 = omega (arith, h) in never (wanted - 1) (subst (λ k. SpellsTrees k left) g (w.there s))

-- ---- how far the words reach
pub two_more : (ws : List (Bor (List ℕ))) (at : ℕ) (s : Step) (rest : List (List ℕ)) → at ≤ length ws → IsStep (texts (drop at ws)) s rest → at + 2 ≤ length ws
two_more ws at s rest h i =
    let a : length (texts (drop at ws)) ≡ length (step_letter s ∷ (i.word ∷ rest)) = ap length i.stands in
    let b : length (texts (drop at ws)) ≡ length (drop at ws) = length-map (drop at ws) (λ (w : Bor (List ℕ)). w.now) in
    omega (arith, a, b, length-drop at ws)

pub drop_two : (ws : List (Bor (List ℕ))) (at : ℕ) → drop 2 (drop at ws) ≡ drop (at + 2) ws
drop_two ws at = drop-drop 2 at ws

pub last_step : (o : Option Step) (ws : List (Bor (List ℕ))) (v u : Bor (List ℕ)) (vs us : List (Bor (List ℕ))) (k : ℕ) → ws ≡ v ∷ vs → vs ≡ u ∷ us → SpellsNumber u.now k →
    MatchOption o ((v.now ≢ codes "c") × (v.now ≢ codes "r") × (v.now ≢ codes "?")) (λ step. (v.now ≡ step_letter step) × (step_number step ≡ k)) →
    MatchOption o ((n : ℕ) → SpellsTrees (n + 1) (texts ws) → ⊥) (λ step. IsStep (texts ws) step (texts (drop 2 ws)))
last_step None ws v u vs us k e f n h = no_letter ws v vs e h
last_step (Some s) ws v u vs us k e f n h = step_stands ws v u vs us k s e f n h.0 h.1

-- the loop ends: no tree is wanted, or the words go on otherwise
pub way_ends : (ws : List (Bor (List ℕ))) (at wanted : ℕ) (steps : List Step) → IsUnderWay (texts ws) (texts (drop at ws)) wanted steps → at ≤ length ws → (wanted ≡ 0) ⊎ ((n : ℕ) → SpellsTrees (n + 1) (texts (drop at ws)) → ⊥) →
    (wanted ≡ 0 → at ≡ length ws → ⊥) → SpellsTrees 1 (texts ws) → ⊥
way_ends ws at zero steps w h o never s =
    way_over (texts ws) (drop at ws) zero steps w refl (let l = length-drop at ws in let k : at ≡ length ws → ⊥ = never refl in omega (arith, l, k, h)) s
way_ends ws at (suc n) steps w h (inl e) never s = absurd (omega (arith, e))
way_ends ws at (suc n) steps w h (inr no_step) never s = way_stops (texts ws) (texts (drop at ws)) (suc n) steps w (omega arith) no_step s

pub way_turned : (ws : List (Bor (List ℕ))) (at wanted later : ℕ) (steps new : List Step) (s : Step) → IsUnderWay (texts ws) (texts (drop at ws)) wanted steps → 0 < wanted → IsStep (texts (drop at ws)) s (texts (drop 2 (drop at ws))) →
    later ≡ wanted_after s (wanted - 1) → new ≡ steps ++ s ∷ [] → IsUnderWay (texts ws) (texts (drop (at + 2) ws)) later new
way_turned ws at wanted later steps new s w h i e f =
    subst (λ l. IsUnderWay (texts ws) (texts l) later new) (drop_two ws at) (way_on (texts ws) (texts (drop at ws)) (texts (drop 2 (drop at ws))) wanted later steps new s w h i e f)

pub few_after : (s : Step) (m : ℕ) → wanted_after s m ≤ m + 2
few_after (Content n) m = omega arith
few_after (Rest n) m = omega arith
few_after (Split n) m = omega arith

pub way_full : (ws : List (Bor (List ℕ))) (at wanted : ℕ) (steps : List Step) → IsUnderWay (texts ws) (texts (drop at ws)) wanted steps → wanted ≡ 0 → at ≡ length ws → SpellsSteps 1 (texts ws) steps
way_full ws at wanted steps w z e = way_done (texts ws) (drop at ws) wanted steps w z (let l = length-drop at ws in omega (arith, l, e))

pub next_is : (o : Option Step) (ws left : List (Bor (List ℕ))) (at wanted : ℕ) → left ≡ drop at ws → 0 < wanted → MatchOption o ((n : ℕ) → SpellsTrees (n + 1) (texts left) → ⊥) (λ step. IsStep (texts left) step (texts (drop 2 left))) →
    MatchOption o ((wanted ≡ 0) ⊎ ((n : ℕ) → SpellsTrees (n + 1) (texts (drop at ws)) → ⊥)) (λ step. (0 < wanted) × IsStep (texts (drop at ws)) step (texts (drop 2 (drop at ws))))
next_is None ws left at wanted e h m = inr (subst (λ l. (n : ℕ) → SpellsTrees (n + 1) (texts l) → ⊥) e m)
next_is (Some s) ws left at wanted e h m = (h, subst (λ l. IsStep (texts l) s (texts (drop 2 l))) e m)
