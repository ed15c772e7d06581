-- Lists of pieces, gone through step by step.
use Rattle.std.proofs.Common.{◌≡◌, ℕ, zero, suc, ◌+◌, ◌-◌, ◌≤◌, ◌⊎◌, nat_eq, arith, true, false, cond, List, [], ◌∷◌, ◌++◌, map, flat_map, reverse, take, length, length-append, append-nil, Option, Some, None, option_map, refl, ap, sym, subst, ◌∙◌, inl, inr}
use Rattle.std.proofs.lemmas.Bool.Decides.{nat_tests}
use Rattle.std.proofs.lemmas.List.{reverse-append}
use Rattle.std.specs.List.{AllZip}
use Rattle.std.proofs.lemmas.Grind.{flat_map-append}
use Rattle.xd_doc.proofs.Numbers.{same_number}
use Rattle.xd_doc.proofs.Lists.{append_none}
use Rattle.xd_doc.specs.Members.{IsOneOf}
use Rattle.xd_syntax.specs.Tree.{Definitions}
use Rattle.xd_syntax.proofs.Members.{append_left, append_right, flat_mem, mem_append, mem_flat}
use Rattle.xd_laws.specs.Guarded.{Guarded}
use Rattle.xd_pattern_runs.specs.Alike.{Alike}
use Rattle.xd_pattern_runs.specs.Runs.{Choice, Continuation, stop, choices}
use Rattle.xd_pattern_runs.specs.Steps.{Ahead, ahead, choices_ahead, part_choice, part_steps}
use Rattle.xd_pattern_runs.proofs.Alike.{alike_refl, alike_same, alike_sym, alike_trans, alike_append, alike_known, append_then}
use Rattle.xd_pattern_runs.proofs.ChoicesLemmas.{steps_find}
use Rattle.xd_continuations.specs.Chains.{list_at, AreLinks}
use Rattle.xd_patterns.specs.Tasks.{Tables, words_at, piece_part, pieces_at, continuation, ArePieces, or_none, IsTurn, StandsFor, item_choice, choice_at, IsFound, StandFound, Collects, Adds, HasFound, IsStep}
use Rattle.xd_patterns.specs.Work.{steps_of, work_left}
use Rattle.xd_patterns.specs.Expanding.{ends_turn, IsExpanded, before_end, task_steps, all_steps, IsExpanding, IsGoneThrough, IsVisited, AreFound}
use Rattle.xd_continuations.specs.declared.links.Link.{Link}
use Rattle.xd_patterns.specs.declared.chains.Piece.{Piece}
use Rattle.xd_patterns.specs.declared.expand.Task.{Task}
use Rattle.xd_patterns.specs.declared.expand.Found.{Found}
use Rattle.xd_continuations.proofs.ChainLemmas.{list_none, one_number, kept_list, kept_length}
use Rattle.xd_patterns.proofs.TablesLemmas.{adds_none, adds_then, all_stand, stands_kept, same_words, same_pieces, list_pieces, puts_none, collects_none, collects_one}
use Rattle.xd_patterns.proofs.CostLemmas.{step_less, some_cost}

-- one step of a task

no_front : {A : Type 0} (F K : List A) → K ≡ F ++ K → F ≡ []
no_front [] K e = refl
no_front (x ∷ F) K e = let h : length K ≡ length ((x ∷ F) ++ K) = ap length e in absurd (omega (arith, length-append (x ∷ F) K))

nothing_front : {A : Type 0} (F K : List A) → [] ≡ F ++ K → (F ≡ []) × (K ≡ [])
nothing_front [] K e = (refl, sym e)
nothing_front (x ∷ F) K e = cc

other_nat : (k n : ℕ) → nat_eq k n ≡ false → k ≡ n → ⊥
other_nat k n e h = grind (arith, nat_tests)

module _ (E : Definitions) (t : Tables) (m : List (Link ℕ)) (c : List (Link Piece)) where
  -- at the end of a turn
  at_end : (o : Option ℕ) (n : ℕ) (F : List Piece) (u : Option (List Piece)) → ends_turn o n ≡ true → IsTurn c o u → list_at c n ≡ F ++ or_none u → (F ≡ []) × ((K : List Piece) × (u ≡ Some K))
  at_end None n F u e i l = absurd (cc)
  at_end (Some k) n F None e i l = absurd i
  at_end (Some k) n F (Some K) e i l =
      let s = same_number k n e in (no_front F K (sym i.1 ∙ ap (list_at c) s ∙ l), (K, refl))

  pub end_expanded : (xs : List Task) (fs : List Found) (x : Task) (a : Ahead) → ends_turn x.turn x.cell ≡ true → StandsFor t m c x a → IsExpanded E t m m c c xs xs fs fs a
  end_expanded xs fs x a e s =
      let r = at_end x.turn x.cell s.front s.turn e s.turned s.list in
      subst (IsExpanded E t m m c c xs xs fs fs) (sym (s.is ∙ ap (λ F. ahead (pieces_at t m F) (option_map (pieces_at t m) s.turn)) r.0 ∙ ap (λ u. ahead [] (option_map (pieces_at t m) u)) (r.1).1)) (record {
        adds = adds_none t m c;
        own = [];
        left = [];
        alike = alike_refl [];
        less = omega arith;
        tasks = puts_none t m c xs xs refl;
        items = collects_none t m c fs;
      })

  -- where nothing stands ahead
  at_stop : AreLinks c → (o : Option ℕ) (F : List Piece) (u : Option (List Piece)) → ends_turn o 0 ≡ false → IsTurn c o u → list_at c 0 ≡ F ++ or_none u → (F ≡ []) × (u ≡ None)
  at_stop links None F None e i l = ((nothing_front F [] (sym (list_none c) ∙ l)).0, refl)
  at_stop links None F (Some K) e i l = absurd i
  at_stop links (Some k) F None e i l = absurd i
  at_stop links (Some k) F (Some K) e i l =
      let r = nothing_front F K (sym (list_none c) ∙ l) in
      absurd (other_nat k 0 e (one_number c links k 0 i.0 (omega arith) (i.1 ∙ r.1 ∙ sym (list_none c))))

  pub stop_expanded : AreLinks c → (xs : List Task) (fs gs : List Found) (x : Task) (a : Ahead) (f : Found) → f.is_stop ≡ true → HasFound fs f gs → x.cell ≡ 0 → ends_turn x.turn x.cell ≡ false → StandsFor t m c x a →
      IsExpanded E t m m c c xs xs fs gs a
  stop_expanded links xs fs gs x a f w h z e s =
      let r = at_stop links x.turn s.front s.turn (subst (λ n. ends_turn x.turn n ≡ false) z e) s.turned (sym (ap (list_at c) z) ∙ s.list) in
      subst (IsExpanded E t m m c c xs xs fs gs) (sym (s.is ∙ ap (λ F. ahead (pieces_at t m F) (option_map (pieces_at t m) s.turn)) r.0 ∙ ap (λ u. ahead [] (option_map (pieces_at t m) u)) r.1)) (record {
        adds = adds_none t m c;
        own = stop ∷ [];
        left = [];
        alike = alike_refl (stop ∷ []);
        less = omega arith;
        tasks = puts_none t m c xs xs refl;
        items = subst (λ (ch : Choice). Collects t m c fs gs (ch ∷ [])) (is_stop w) (collects_one t m c fs gs f h (inl w));
      })
    where
      is_stop : f.is_stop ≡ true → choice_at t m c f ≡ stop
      is_stop w = rw w refl

  -- where a piece stands first
  first_front : AreLinks c → (o : Option ℕ) (n : ℕ) (q : Piece) (K F : List Piece) (u : Option (List Piece)) → n ≤ length c → list_at c n ≡ q ∷ K → ends_turn o n ≡ false → IsTurn c o u → list_at c n ≡ F ++ or_none u →
      (G : List Piece) × (F ≡ q ∷ G) × (K ≡ G ++ or_none u)
  first_front links o n q K [] None h l e i k = let z : q ∷ K ≡ [] = sym l ∙ k in cc
  first_front links None n q K [] (Some L) h l e i k = absurd i
  first_front links (Some j) n q K [] (Some L) h l e i k = absurd (other_nat j n e (one_number c links j n i.0 h (i.1 ∙ sym k)))
  first_front links o n q K (p ∷ G) u h l e i k = let z : q ∷ K ≡ p ∷ (G ++ or_none u) = sym l ∙ k in (G, cc, cc)

  pub step_expanded : Guarded E → AreLinks c → ArePieces t m c → (m' : List (Link ℕ)) (c' : List (Link Piece)) (xs ys : List Task) (fs gs : List Found) (x : Task) (a : Ahead) (q : Piece) (behind : ℕ) →
      x.cell ≤ length c → list_at c x.cell ≡ q ∷ list_at c behind → ends_turn x.turn x.cell ≡ false → IsStep t E m m' c c' xs ys fs gs q behind x.turn → StandsFor t m c x a → IsExpanded E t m m' c c' xs ys fs gs a
  step_expanded guarded links p m' c' xs ys fs gs x a q behind h l e step s =
      let r = first_front links x.turn x.cell q (list_at c behind) s.front s.turn h l e s.turned s.list in
      let F : Continuation = pieces_at t m r.0 in
      let u : Option Continuation = option_map (pieces_at t m) s.turn in
      subst (IsExpanded E t m m' c c' xs ys fs gs) (sym (s.is ∙ ap (λ G. ahead (pieces_at t m G) u) r.1)) (record {
        adds = step.adds;
        own = part_choice (words_at t m q.marks) (piece_part t q) F u;
        left = part_steps E (words_at t m q.marks) (piece_part t q) F u;
        alike = steps_find E guarded (words_at t m q.marks) (piece_part t q) F u;
        less = step_less E guarded (words_at t m q.marks) (piece_part t q) F u;
        tasks = step.tasks r.0 s.turn r.2 s.turned p;
        items = step.items r.0 s.turn r.2 s.turned p;
      })

-- the loop

flat_one : (cs : List Choice) → flat_map (λ (x : Choice). x ∷ []) cs ≡ cs
flat_one [] = refl
flat_one (x ∷ cs) = ap (λ z. x ∷ z) (flat_one cs)

rev_rev : {A : Type 0} (xs : List A) → reverse (reverse xs) ≡ xs
rev_rev [] = refl
rev_rev (x ∷ xs) = ap reverse (reverse-append (x ∷ []) xs) ∙ reverse-append (reverse xs) (x ∷ []) ∙ ap (λ z. x ∷ z) (rev_rev xs)

zip_last : {X Y : Type 0} (R : X → Y → Type 0) (xs : List X) (x : X) (ys : List Y) → AllZip R (xs ++ x ∷ []) ys → (zs : List Y) × (y : Y) × (ys ≡ zs ++ y ∷ []) × AllZip R xs zs × R x y
zip_last R [] x [] z = absurd z
zip_last R [] x (y ∷ []) z = ([], y, refl, tt, z.0)
zip_last R [] x (y ∷ (w ∷ ys)) z = absurd z.1
zip_last R (a ∷ xs) x [] z = absurd z
zip_last R (a ∷ xs) x (y ∷ ys) z = let r = zip_last R xs x ys z.1 in (y ∷ r.0, r.1, ap (λ ws. y ∷ ws) r.2, (z.0, r.3), r.4)

zip_none : {X Y : Type 0} (R : X → Y → Type 0) (ys : List Y) → AllZip R [] ys → ys ≡ []
zip_none R [] z = refl
zip_none R (y ∷ ys) z = absurd z

-- what was found stays

pub found_stands : (t : Tables) (m m' : List (Link ℕ)) (c c' : List (Link Piece)) → Adds t m m' c c' → (fs : List Found) → StandFound t m c fs → StandFound t m' c' fs
found_stands t m m' c c' a [] s = tt
found_stands t m m' c c' a (f ∷ fs) s = (go s.0, found_stands t m m' c c' a fs s.1)
  where
    go : (f.is_stop ≡ true) ⊎ IsFound t m c f → (f.is_stop ≡ true) ⊎ IsFound t m' c' f
    go (inl w) = inl w
    go (inr i) =
        inr (record {
          piece = record { piece = i.piece.piece; marked = (let l = kept_length m m' a.marks in let h = i.piece.marked in omega arith) };
          item = i.item;
          rest = let l = kept_length c c' a.cells in let h = i.rest in omega arith;
        })

pub found_choice : (t : Tables) (m m' : List (Link ℕ)) (c c' : List (Link Piece)) → Adds t m m' c c' → ArePieces t m c → (f : Found) → (f.is_stop ≡ true) ⊎ IsFound t m c f → choice_at t m' c' f ≡ choice_at t m c f
found_choice t m m' c c' a p f (inl w) = rw w refl
found_choice t m m' c c' a p f (inr i) =
    ap (λ (xs : List (List ℕ)). cond f.is_stop stop (item_choice xs (piece_part t f.piece) (continuation t m' c' f.rest))) (same_words t m m' a.marks f.piece.marks i.piece.marked)
    ∙ ap (λ (K : Continuation). cond f.is_stop stop (item_choice (words_at t m f.piece.marks) (piece_part t f.piece) K))
    (ap (pieces_at t m') (kept_list c c' a.cells f.rest i.rest) ∙ same_pieces t m m' a.marks (list_at c f.rest) (list_pieces t m c p f.rest))

pub found_kept : (t : Tables) (m m' : List (Link ℕ)) (c c' : List (Link Piece)) → Adds t m m' c c' → ArePieces t m c → (fs : List Found) → StandFound t m c fs → map (choice_at t m' c') fs ≡ map (choice_at t m c) fs
found_kept t m m' c c' a p [] s = refl
found_kept t m m' c c' a p (f ∷ fs) s = ap (λ x. x ∷ map (choice_at t m' c') fs) (found_choice t m m' c c' a p f s.0) ∙ ap (λ z. choice_at t m c f ∷ z) (found_kept t m m' c c' a p fs s.1)

-- how many steps are left

take_front : {A : Type 0} (F K : List A) (n : ℕ) → n ≡ length F → take n (F ++ K) ≡ F
take_front [] K zero e = refl
take_front [] K (suc n) e = absurd (omega arith)
take_front (x ∷ F) K zero e = absurd (omega arith)
take_front (x ∷ F) K (suc n) e = ap (λ z. x ∷ z) (take_front F K n (omega arith))

front_is : (c : List (Link Piece)) (o : Option ℕ) (u : Option (List Piece)) (F : List Piece) → IsTurn c o u → before_end c o (F ++ or_none u) ≡ F
front_is c None None F i = append-nil F
front_is c None (Some K) F i = absurd i
front_is c (Some n) None F i = absurd i
front_is c (Some n) (Some K) F i =
    let e : length (list_at c n) ≡ length K = ap length i.1 in
    take_front F K (length (F ++ K) - length (list_at c n)) (omega (arith, length-append F K))

task_is : (E : Definitions) (t : Tables) (m : List (Link ℕ)) (c : List (Link Piece)) (x : Task) (a : Ahead) → StandsFor t m c x a → task_steps E t m c x ≡ steps_of E a.front
task_is E t m c x a s =
    ap (λ (K : List Piece). steps_of E (pieces_at t m (before_end c x.turn K))) s.list ∙ ap (λ (K : List Piece). steps_of E (pieces_at t m K)) (front_is c x.turn s.turn s.front s.turned)
    ∙ sym (ap (λ (b : Ahead). steps_of E b.front) s.is)

tasks_are : (E : Definitions) (t : Tables) (m : List (Link ℕ)) (c : List (Link Piece)) (xs : List Task) (ws : List Ahead) → AllZip (StandsFor t m c) xs ws → all_steps E t m c xs ≡ work_left E ws
tasks_are E t m c [] [] z = refl
tasks_are E t m c [] (w ∷ ws) z = absurd z
tasks_are E t m c (x ∷ xs) [] z = absurd z
tasks_are E t m c (x ∷ xs) (w ∷ ws) z = let i = task_is E t m c x w z.0 in let j = tasks_are E t m c xs ws z.1 in omega arith

work_append : (E : Definitions) (ws vs : List Ahead) → work_left E (ws ++ vs) ≡ work_left E ws + work_left E vs
work_append E [] vs = omega arith
work_append E (w ∷ ws) vs = let i = work_append E ws vs in omega arith

work_reverse : (E : Definitions) (ws : List Ahead) → work_left E (reverse ws) ≡ work_left E ws
work_reverse E [] = refl
work_reverse E (w ∷ ws) =
    let e : work_left E (reverse (w ∷ ws)) ≡ work_left E (reverse ws ++ w ∷ []) = ap (work_left E) (reverse-append (w ∷ []) ws) in
    let i = work_reverse E ws in let j = work_append E (reverse ws) (w ∷ []) in omega arith

-- tasks that come again

one_turn : (c : List (Link Piece)) (o : Option ℕ) (u v : Option (List Piece)) → IsTurn c o u → IsTurn c o v → u ≡ v
one_turn c None None None i j = refl
one_turn c None None (Some L) i j = absurd j
one_turn c None (Some K) v i j = absurd i
one_turn c (Some n) None v i j = absurd i
one_turn c (Some n) (Some K) None i j = absurd j
one_turn c (Some n) (Some K) (Some L) i j = ap Some (sym i.1 ∙ j.1)

-- a task stands for one thing
one_ahead : (t : Tables) (m : List (Link ℕ)) (c : List (Link Piece)) (x : Task) (a b : Ahead) → StandsFor t m c x a → StandsFor t m c x b → a ≡ b
one_ahead t m c x a b s r =
    let u = one_turn c x.turn s.turn r.turn s.turned r.turned in
    let f : s.front ≡ r.front = sym (front_is c x.turn s.turn s.front s.turned) ∙ ap (before_end c x.turn) (sym s.list ∙ r.list) ∙ front_is c x.turn r.turn r.front r.turned in
    s.is ∙ ap (λ F. ahead (pieces_at t m F) (option_map (pieces_at t m) s.turn)) f ∙ ap (λ v. ahead (pieces_at t m r.front) (option_map (pieces_at t m) v)) u ∙ sym r.is

last_view : {A : Type 0} (xs : List A) → (xs ≡ []) ⊎ ((ys : List A) × (v : A) × (xs ≡ ys ++ v ∷ []))
last_view [] = inl refl
last_view (x ∷ xs) = elim (last_view xs) [ inl e ↦ inr ([], x, ap (λ z. x ∷ z) e) | inr r ↦ inr (x ∷ r.0, r.1, ap (λ z. x ∷ z) r.2) ]

no_end : {A : Type 0} (ys : List A) (y : A) → [] ≡ ys ++ y ∷ [] → ⊥
no_end [] y e = cc
no_end (b ∷ ys) y e = cc

same_last : {A : Type 0} (xs ys : List A) (x y : A) → xs ++ x ∷ [] ≡ ys ++ y ∷ [] → (xs ≡ ys) × (x ≡ y)
same_last [] [] x y e = (refl, cc)
same_last [] (b ∷ ys) x y e = let z : [] ≡ ys ++ y ∷ [] = cc in absurd (no_end ys y z)
same_last (a ∷ xs) [] x y e = let z : [] ≡ xs ++ x ∷ [] = cc in absurd (no_end xs x z)
same_last (a ∷ xs) (b ∷ ys) x y e = let z : xs ++ x ∷ [] ≡ ys ++ y ∷ [] = cc in let r = same_last xs ys x y z in (let q = r.0 in cc, r.1)

in_reverse : {A : Type 0} (x : A) (L : List A) → IsOneOf x L → IsOneOf x (reverse L)
in_reverse x [] h = absurd h
in_reverse x (y ∷ L) (inl e) = subst (IsOneOf x) (sym (reverse-append (y ∷ []) L)) (append_right x (reverse L) (y ∷ []) (inl e))
in_reverse x (y ∷ L) (inr h) = subst (IsOneOf x) (sym (reverse-append (y ∷ []) L)) (append_left x (reverse L) (y ∷ []) (in_reverse x L h))

of_reverse : {A : Type 0} (x : A) (L : List A) → IsOneOf x (reverse L) → IsOneOf x L
of_reverse x L h = subst (IsOneOf x) (rev_rev L) (in_reverse x (reverse L) h)

member_work : (E : Definitions) (left : List Ahead) (w : Ahead) → IsOneOf w left → steps_of E w.front ≤ work_left E left
member_work E [] w h = absurd h
member_work E (v ∷ left) w (inl e) = let q : steps_of E v.front ≡ steps_of E w.front = ap (λ (a : Ahead). steps_of E a.front) e in omega arith
member_work E (v ∷ left) w (inr h) = let i = member_work E left w h in omega arith

module _ (E : Definitions) (t : Tables) (m m' : List (Link ℕ)) (c c' : List (Link Piece)) (adds : Adds t m m' c c') (p : ArePieces t m c) (fs gs : List Found) (stand : StandFound t m c fs) (zs : List Ahead) (y : Ahead)
    (own : List Choice) (left : List Ahead) (alike : Alike (choices_ahead E y) (own ++ flat_map (choices_ahead E) left)) (less : work_left E left + 1 ≤ steps_of E y.front)
    (items : Alike (map (choice_at t m' c') gs) (map (choice_at t m' c') fs ++ own)) where
  found_on : (d : Choice) → IsOneOf d (map (choice_at t m c) fs) → IsOneOf d (map (choice_at t m' c') gs)
  found_on d h = items.back d (append_left d (map (choice_at t m' c') fs) own (subst (IsOneOf d) (sym (found_kept t m m' c c' adds p fs stand)) h))

  stepped : (d : Choice) → IsOneOf d (choices_ahead E y) → IsOneOf d (map (choice_at t m' c') gs) ⊎ IsOneOf d (flat_map (choices_ahead E) (reverse left))
  stepped d h =
      elim (mem_append d own (flat_map (choices_ahead E) left) (alike.into d h)) [
        | inl a ↦ inl (items.back d (append_right d (map (choice_at t m' c') fs) own a))
        | inr b ↦ inr (let r = mem_flat (choices_ahead E) d left b in flat_mem (choices_ahead E) d r.0 (reverse left) (in_reverse r.0 left r.1) r.2)
      ]

  lesser : (w : Ahead) → IsOneOf w (reverse left) → steps_of E w.front + 1 ≤ steps_of E y.front
  lesser w h = let z = member_work E left w (of_reverse w left h) in let l = less in omega arith

  -- the task that takes the step
  gone_new : (k : Task) → StandsFor t m c k y → IsGoneThrough E t m' c' (zs ++ reverse left) gs k
  gone_new k s = record { ahead_of = y; stands = stands_kept t m m' c c' adds p k y s; below = zs; above = reverse left; split = refl; less = lesser; all = stepped }

  -- those that came before
  gone_on : (k : Task) → IsGoneThrough E t m c (zs ++ y ∷ []) fs k → IsGoneThrough E t m' c' (zs ++ reverse left) gs k
  gone_on k g = go (last_view g.above)
    where
      go : (g.above ≡ []) ⊎ ((ys : List Ahead) × (v : Ahead) × (g.above ≡ ys ++ v ∷ [])) → IsGoneThrough E t m' c' (zs ++ reverse left) gs k
      go (inl e) = record {
        ahead_of = g.ahead_of;
        stands = stands_kept t m m' c c' adds p k g.ahead_of g.stands;
        below = zs ++ reverse left;
        above = [];
        split = sym (append_none (zs ++ reverse left));
        less = λ w h. absurd h;
        all = λ d h. elim (g.all d h) [ inl a ↦ inl (found_on d a) | inr b ↦ absurd (subst (λ L. IsOneOf d (flat_map (choices_ahead E) L)) e b) ];
      }
      go (inr (ab, v, e)) =
          let s : zs ++ y ∷ [] ≡ (g.below ++ ab) ++ v ∷ [] = g.split ∙ ap (λ L. g.below ++ L) e ∙ sym (append_then g.below ab (v ∷ [])) in
          let r = same_last zs (g.below ++ ab) y v s in
          record {
            ahead_of = g.ahead_of;
            stands = stands_kept t m m' c c' adds p k g.ahead_of g.stands;
            below = g.below;
            above = ab ++ reverse left;
            split = ap (λ L. L ++ reverse left) r.0 ∙ append_then g.below ab (reverse left);
            less = λ w h.
                elim (mem_append w ab (reverse left) h) [
                  | inl a ↦ g.less w (subst (IsOneOf w) (sym e) (append_left w ab (v ∷ []) a))
                  | inr b ↦ (let q = g.less y (subst (IsOneOf y) (sym e) (append_right y ab (v ∷ []) (inl (sym r.1)))) in let z = lesser w b in omega arith)
                ];
            all = λ d h.
                elim (g.all d h) [
                  | inl a ↦ inl (found_on d a)
                  | inr b ↦ moved d ab v (sym r.1) (subst (λ L. IsOneOf d (flat_map (choices_ahead E) L)) e b)
                ];
          }
        where
          moved : (d : Choice) (ab : List Ahead) (v : Ahead) → v ≡ y → IsOneOf d (flat_map (choices_ahead E) (ab ++ v ∷ [])) →
              IsOneOf d (map (choice_at t m' c') gs) ⊎ IsOneOf d (flat_map (choices_ahead E) (ab ++ reverse left))
          moved d ab v f h =
              let r = mem_flat (choices_ahead E) d (ab ++ v ∷ []) h in
              elim (mem_append r.0 ab (v ∷ []) r.1) [
                | inl a ↦ inr (flat_mem (choices_ahead E) d r.0 (ab ++ reverse left) (append_left r.0 ab (reverse left) a) r.2)
                | inr b ↦ last d ab r.0 v f b r.2
              ]
            where
              last : (d : Choice) (ab : List Ahead) (w v : Ahead) → v ≡ y → IsOneOf w (v ∷ []) → IsOneOf d (choices_ahead E w) →
                  IsOneOf d (map (choice_at t m' c') gs) ⊎ IsOneOf d (flat_map (choices_ahead E) (ab ++ reverse left))
              last d ab w v f (inl g) h =
                  elim (stepped d (subst (λ (a : Ahead). IsOneOf d (choices_ahead E a)) (sym g ∙ f) h)) [
                    | inl a ↦ inl a
                    | inr b ↦ inr (let q = mem_flat (choices_ahead E) d (reverse left) b in flat_mem (choices_ahead E) d q.0 (ab ++ reverse left) (append_right q.0 ab (reverse left) q.1) q.2)
                  ]
              last d ab w v f (inr n) h = absurd n

module _ (E : Definitions) (t : Tables) (m : List (Link ℕ)) (c : List (Link Piece)) (fs : List Found) (zs : List Ahead) (y : Ahead) where
  -- what a task stands for that comes again was found
  all_known : (x : Task) → StandsFor t m c x y → IsGoneThrough E t m c (zs ++ y ∷ []) fs x → (d : Choice) → IsOneOf d (choices_ahead E y) → IsOneOf d (map (choice_at t m c) fs)
  all_known x s g d h = go (last_view g.above)
    where
      same : y ≡ g.ahead_of
      same = one_ahead t m c x y g.ahead_of s g.stands

      go : (g.above ≡ []) ⊎ ((ys : List Ahead) × (v : Ahead) × (g.above ≡ ys ++ v ∷ [])) → IsOneOf d (map (choice_at t m c) fs)
      go (inl e) = elim (g.all d (subst (λ (a : Ahead). IsOneOf d (choices_ahead E a)) same h)) [ inl a ↦ a | inr b ↦ absurd (subst (λ L. IsOneOf d (flat_map (choices_ahead E) L)) e b) ]
      go (inr (ab, v, e)) =
          let s : zs ++ y ∷ [] ≡ (g.below ++ ab) ++ v ∷ [] = g.split ∙ ap (λ L. g.below ++ L) e ∙ sym (append_then g.below ab (v ∷ [])) in
          let r = same_last zs (g.below ++ ab) y v s in
          let q = g.less y (subst (IsOneOf y) (sym e) (append_right y ab (v ∷ []) (inl (sym r.1)))) in
          let f : steps_of E y.front ≡ steps_of E g.ahead_of.front = ap (λ (a : Ahead). steps_of E a.front) same in
          absurd (omega arith)

  gone_without : ((d : Choice) → IsOneOf d (choices_ahead E y) → IsOneOf d (map (choice_at t m c) fs)) → (k : Task) → IsGoneThrough E t m c (zs ++ y ∷ []) fs k → IsGoneThrough E t m c zs fs k
  gone_without known k g = go (last_view g.above)
    where
      go : (g.above ≡ []) ⊎ ((ys : List Ahead) × (v : Ahead) × (g.above ≡ ys ++ v ∷ [])) → IsGoneThrough E t m c zs fs k
      go (inl e) = record {
        ahead_of = g.ahead_of;
        stands = g.stands;
        below = zs;
        above = [];
        split = sym (append_none zs);
        less = λ w h. absurd h;
        all = λ d h. elim (g.all d h) [ inl a ↦ inl a | inr b ↦ absurd (subst (λ L. IsOneOf d (flat_map (choices_ahead E) L)) e b) ];
      }
      go (inr (ab, v, e)) =
          let s : zs ++ y ∷ [] ≡ (g.below ++ ab) ++ v ∷ [] = g.split ∙ ap (λ L. g.below ++ L) e ∙ sym (append_then g.below ab (v ∷ [])) in
          let r = same_last zs (g.below ++ ab) y v s in
          record {
            ahead_of = g.ahead_of;
            stands = g.stands;
            below = g.below;
            above = ab;
            split = r.0;
            less = λ w h. g.less w (subst (IsOneOf w) (sym e) (append_left w ab (v ∷ []) h));
            all = λ d h. elim (g.all d h) [ inl a ↦ inl a | inr b ↦ moved d ab v (sym r.1) (subst (λ L. IsOneOf d (flat_map (choices_ahead E) L)) e b) ];
          }
        where
          moved : (d : Choice) (ab : List Ahead) (v : Ahead) → v ≡ y → IsOneOf d (flat_map (choices_ahead E) (ab ++ v ∷ [])) →
              IsOneOf d (map (choice_at t m c) fs) ⊎ IsOneOf d (flat_map (choices_ahead E) ab)
          moved d ab v f h =
              let r = mem_flat (choices_ahead E) d (ab ++ v ∷ []) h in
              elim (mem_append r.0 ab (v ∷ []) r.1) [
                | inl a ↦ inr (flat_mem (choices_ahead E) d r.0 ab a r.2)
                | inr b ↦ inl (known d (last d r.0 v f b r.2))
              ]
            where
              last : (d : Choice) (w v : Ahead) → v ≡ y → IsOneOf w (v ∷ []) → IsOneOf d (choices_ahead E w) → IsOneOf d (choices_ahead E y)
              last d w v f (inl g) h = subst (λ (a : Ahead). IsOneOf d (choices_ahead E a)) (sym g ∙ f) h
              last d w v f (inr n) h = absurd n

-- each part takes a step
some_steps : (E : Definitions) (K : Continuation) → 1 ≤ steps_of E K
some_steps E [] = omega arith
some_steps E (q ∷ K) = let h = some_cost E q.part in omega arith

module _ (E : Definitions) (t : Tables) (m0 : List (Link ℕ)) (c0 : List (Link Piece)) (number : ℕ) where
  pub expanding_first : number ≤ length c0 → ArePieces t m0 c0 → (xs : List Task) → xs ≡ record { cell = number; turn = None } ∷ [] → (fs : List Found) → fs ≡ [] → (seen : List Task) → seen ≡ [] → IsExpanding E t m0 m0 c0 c0 number xs fs seen
  expanding_first h p xs e fs f seen z =
      subst (λ ks. IsExpanding E t m0 m0 c0 c0 number xs fs ks) (sym z)
      (subst (λ gs. IsExpanding E t m0 m0 c0 c0 number xs gs []) (sym f)
      (subst (λ ys. IsExpanding E t m0 m0 c0 c0 number ys [] []) (sym e) (record {
        adds = adds_none t m0 c0;
        pieces = p;
        waiting = ahead (continuation t m0 c0 number) None ∷ [];
        tasks_stand = (record { within = h; front = list_at c0 number; turn = None; list = sym (append-nil (list_at c0 number)); turned = tt; is = refl }, tt);
        found_stand = tt;
        alike = alike_same (append_none (choices_ahead E (ahead (continuation t m0 c0 number) None)) ∙ flat_one (choices E (continuation t m0 c0 number)));
        gone = λ x n. absurd n;
      })))

  module _ (m m' : List (Link ℕ)) (c c' : List (Link Piece)) (xs ys : List Task) (x : Task) (fs gs : List Found) (seen : List Task) (l : IsExpanding E t m0 m c0 c number (xs ++ x ∷ []) fs seen)
      (s : (a : Ahead) → StandsFor t m c x a → IsExpanded E t m m' c c' xs ys fs gs a) where
    abbrev last_of : (zs : List Ahead) × (y : Ahead) × (l.waiting ≡ zs ++ y ∷ []) × AllZip (StandsFor t m c) xs zs × StandsFor t m c x y
    last_of = zip_last (StandsFor t m c) xs x l.waiting l.tasks_stand

    new_stand : (w : (zs : List Ahead) × (y : Ahead) × (l.waiting ≡ zs ++ y ∷ []) × AllZip (StandsFor t m c) xs zs × StandsFor t m c x y) (g : IsExpanded E t m m' c c' xs ys fs gs w.1) →
        AllZip (StandsFor t m' c') ys (w.0 ++ reverse g.left)
    new_stand w g = g.tasks w.0 (all_stand t m m' c c' g.adds l.pieces xs w.0 w.3)

    pub expanding_less : all_steps E t m' c' ys + 1 ≤ all_steps E t m c (xs ++ x ∷ [])
    expanding_less =
        let w = last_of in
        let g = s w.1 w.4 in
        let a = tasks_are E t m' c' ys (w.0 ++ reverse g.left) (new_stand w g) in
        let b = work_append E w.0 (reverse g.left) in
        let d = work_reverse E g.left in
        let e = tasks_are E t m c (xs ++ x ∷ []) l.waiting l.tasks_stand in
        let f : work_left E l.waiting ≡ work_left E (w.0 ++ w.1 ∷ []) = ap (work_left E) w.2 in
        let h = work_append E w.0 (w.1 ∷ []) in
        let i = g.less in omega arith

    pub expanding_on : IsExpanding E t m0 m' c0 c' number ys gs (seen ++ x ∷ [])
    expanding_on =
        let w = last_of in
        let g = s w.1 w.4 in
        let rest : List Choice = flat_map (choices_ahead E) (reverse w.0) in
        let old : List Choice = map (choice_at t m c) fs in
        let same = found_kept t m m' c c' g.adds l.pieces fs l.found_stand in
        record {
          adds = adds_then t m0 m m' c0 c c' l.adds g.adds;
          pieces = g.adds.pieces l.pieces;
          waiting = w.0 ++ reverse g.left;
          tasks_stand = new_stand w g;
          found_stand = g.items.stand (found_stands t m m' c c' g.adds fs l.found_stand);
          alike =
              alike_trans
              (alike_append g.items.alike
              (alike_same (ap (flat_map (choices_ahead E)) (reverse-append w.0 (reverse g.left) ∙ ap (λ vs. vs ++ reverse w.0) (rev_rev g.left)) ∙ flat_map-append (choices_ahead E) g.left (reverse w.0))))
              (alike_trans
              (alike_same (
              append_then (map (choice_at t m' c') fs) g.own (flat_map (choices_ahead E) g.left ++ rest)
              ∙ ap (λ z. z ++ (g.own ++ (flat_map (choices_ahead E) g.left ++ rest))) same
              ∙ ap (λ z. old ++ z) (sym (append_then g.own (flat_map (choices_ahead E) g.left) rest))))
              (alike_trans
              (alike_append (alike_refl old) (alike_append (alike_sym g.alike) (alike_refl rest)))
              (alike_trans
              (alike_same (ap (λ z. old ++ z) (sym (ap (flat_map (choices_ahead E)) (ap reverse w.2 ∙ reverse-append w.0 (w.1 ∷ []))))))
              l.alike)));
          gone = λ k h.
              elim (mem_append k seen (x ∷ []) h) [
                | inl a ↦ gone_on E t m m' c c' g.adds l.pieces fs gs l.found_stand w.0 w.1 g.own g.left g.alike g.less g.items.alike k (subst (λ ws. IsGoneThrough E t m c ws fs k) w.2 (l.gone k a))
                | inr b ↦ itself k b (gone_new E t m m' c c' g.adds l.pieces fs gs l.found_stand w.0 w.1 g.own g.left g.alike g.less g.items.alike x w.4)
              ];
        }
      where
        itself : {ws : List Ahead} (k : Task) → IsOneOf k (x ∷ []) → IsGoneThrough E t m' c' ws gs x → IsGoneThrough E t m' c' ws gs k
        itself {ws} k (inl e) i = subst (λ z. IsGoneThrough E t m' c' ws gs z) e i
        itself k (inr n) i = absurd n

  -- a task that comes again
  module _ (m : List (Link ℕ)) (c : List (Link Piece)) (xs : List Task) (x : Task) (fs : List Found) (seen : List Task) (l : IsExpanding E t m0 m c0 c number (xs ++ x ∷ []) fs seen) where
    abbrev again_of : (zs : List Ahead) × (y : Ahead) × (l.waiting ≡ zs ++ y ∷ []) × AllZip (StandsFor t m c) xs zs × StandsFor t m c x y
    again_of = zip_last (StandsFor t m c) xs x l.waiting l.tasks_stand

    pub again_less : all_steps E t m c xs + 1 ≤ all_steps E t m c (xs ++ x ∷ [])
    again_less =
        let w = again_of in
        let a = tasks_are E t m c xs w.0 w.3 in
        let e = tasks_are E t m c (xs ++ x ∷ []) l.waiting l.tasks_stand in
        let f : work_left E l.waiting ≡ work_left E (w.0 ++ w.1 ∷ []) = ap (work_left E) w.2 in
        let h = work_append E w.0 (w.1 ∷ []) in
        let i = some_steps E w.1.front in omega arith

    pub again_on : IsOneOf x seen → IsExpanding E t m0 m c0 c number xs fs seen
    again_on there =
        let w = again_of in
        let known = all_known E t m c fs w.0 w.1 x w.4 (subst (λ ws. IsGoneThrough E t m c ws fs x) w.2 (l.gone x there)) in
        let old : List Choice = map (choice_at t m c) fs in
        let rest : List Choice = flat_map (choices_ahead E) (reverse w.0) in
        record {
          adds = l.adds;
          pieces = l.pieces;
          waiting = w.0;
          tasks_stand = w.3;
          found_stand = l.found_stand;
          alike =
              alike_trans (alike_append (alike_sym (alike_known old (choices_ahead E w.1) known)) (alike_refl rest))
              (alike_trans
              (alike_same (append_then old (choices_ahead E w.1) rest ∙ ap (λ z. old ++ z) (sym (ap (flat_map (choices_ahead E)) (ap reverse w.2 ∙ reverse-append w.0 (w.1 ∷ []))))))
              l.alike);
          gone = λ k h. gone_without E t m c fs w.0 w.1 known k (subst (λ ws. IsGoneThrough E t m c ws fs k) w.2 (l.gone k h));
        }

  -- a task that was looked at, seen before or not
  module _ (m m' : List (Link ℕ)) (c c' : List (Link Piece)) (xs ys : List Task) (x : Task) (fs gs : List Found) (seen seen' : List Task) (l : IsExpanding E t m0 m c0 c number (xs ++ x ∷ []) fs seen) where
    pub visited_less : IsVisited E t m m' c c' xs ys fs gs seen seen' x → all_steps E t m' c' ys + 1 ≤ all_steps E t m c (xs ++ x ∷ [])
    visited_less (inl v) =
        let e : all_steps E t m' c' ys ≡ all_steps E t m c xs = ap (λ n. all_steps E t n c' ys) v.marks_same ∙ ap (λ d. all_steps E t m d ys) v.cells_same ∙ ap (all_steps E t m c) v.tasks_same in
        let h = again_less m c xs x fs seen l in omega arith
    visited_less (inr v) = expanding_less m m' c c' xs ys x fs gs seen l v.expanded

    pub visited_on : IsVisited E t m m' c c' xs ys fs gs seen seen' x → IsExpanding E t m0 m' c0 c' number ys gs seen'
    visited_on (inl v) =
        subst (λ n. IsExpanding E t m0 n c0 c' number ys gs seen') (sym v.marks_same)
        (subst (λ d. IsExpanding E t m0 m c0 d number ys gs seen') (sym v.cells_same)
        (subst (λ zs. IsExpanding E t m0 m c0 c number zs gs seen') (sym v.tasks_same)
        (subst (λ hs. IsExpanding E t m0 m c0 c number xs hs seen') (sym v.found_same)
        (subst (λ ks. IsExpanding E t m0 m c0 c number xs fs ks) (sym v.seen_same) (again_on m c xs x fs seen l v.among)))))
    visited_on (inr v) = subst (λ ks. IsExpanding E t m0 m' c0 c' number ys gs ks) (sym v.entered) (expanding_on m m' c c' xs ys x fs gs seen l v.expanded)

  pub all_found : (m : List (Link ℕ)) (c : List (Link Piece)) (fs : List Found) (seen : List Task) → IsExpanding E t m0 m c0 c number [] fs seen → AreFound E t m0 m c0 c number fs
  all_found m c fs seen l = record {
    adds = l.adds;
    stand = l.found_stand;
    alike = alike_trans (alike_same (sym (append_none (map (choice_at t m c) fs)) ∙ ap (λ (ws : List Ahead). map (choice_at t m c) fs ++ flat_map (choices_ahead E) (reverse ws)) (sym (zip_none (StandsFor t m c) l.waiting l.tasks_stand)))) l.alike;
  }

pub last_task : (t : Tables) (m : List (Link ℕ)) (c : List (Link Piece)) (xs : List Task) (x : Task) (ws : List Ahead) → AllZip (StandsFor t m c) (xs ++ x ∷ []) ws → x.cell ≤ length c
last_task t m c xs x ws z = let r = zip_last (StandsFor t m c) xs x ws z in let s = r.4 in s.within
