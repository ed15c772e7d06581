-- Cases in the order of heads are those that a proof wants.
use Rattle.std.proofs.Common.{◌≡◌, ℕ, suc, ◌+◌, ◌<◌, ◌≤◌, Bool, true, false, List, [], ◌∷◌, ◌++◌, map, length, Option, Some, inl, inr, refl, sym, ap, subst, ◌∙◌, arith, append_assoc}
use Rattle.std.specs.List.{AllByRecursion, AllZip, slice_get}
use Rattle.std.proofs.lemmas.List.{map-append}
use Rattle.xd_doc.proofs.Lists.{all_append, length_push}
use Rattle.xd_syntax.specs.Tree.{Tree}
use Rattle.xd_auto.specs.declared.auto.State.{State}
use Rattle.xd_auto.specs.declared.auto.LabelMove.{LabelMove}
use Rattle.xd_auto.specs.declared.auto.TextMove.{TextMove}
use Rattle.xd_rules.specs.Heads.{Head, atoms_of, HeadKind, Named, element_in, text_in}
use Rattle.xd_rules.specs.declared.atom.Atom.{Atom}
use Rattle.xd_rules.specs.Rules.{Case, HeadAtom, atoms_from, head_atom, numbered}
use Rattle.xd_doc.specs.Members.{IsOneOf}
use Rattle.xd_rules.specs.Listed.{SomeOf}
use Rattle.xd_rules.proofs.Members.{one_of-append_left, one_of-append_right}
use Rattle.xd_state_heads.specs.Moves.{label_head, text_head}
use Rattle.xd_goals.specs.Rows.{choice_key}
use Rattle.xd_goals.specs.declared.table.Choice.{Choice}
use Rattle.xd_goals.specs.declared.table.ChoiceNode.{ChoiceNode}
use Rattle.xd_heads.specs.Mirrors.{AreHeadMoves, no_head, element_head}
use Rattle.xd_heads.specs.Mirrors as mirrors
use Rattle.xd_proof_make.specs.Written.{IsAt, IsCaseFor}
use Rattle.xd_heads.specs.Sorts.{is_text, sorts_of}
use Rattle.xd_proof_make.specs.Places.{place_in}
use Rattle.xd_proof_make.specs.Met.{number_in}
use Rattle.xd_proof_make.specs.Ordered.{BeginsAt, IsCut, IsCaseOf, AreOrdered}
use Rattle.xd_proof_make.proofs.AreHeadMovesLemmas.{numbered_there}
use Rattle.xd_rules.specs.Meaning.{keyed}

-- ---- choices cut by their heads' numbers

cut_keys : (bound : ℕ) (front back : List Choice) (xs ys : List HeadAtom) → AllByRecursion (λ (k : Choice). k.head < bound) front → BeginsAt bound back → AllByRecursion (λ (k : HeadAtom). k.0 < bound) xs
    → AllByRecursion (λ (k : HeadAtom). bound ≤ k.0) ys → map choice_key (front ++ back) ≡ xs ++ ys → (map choice_key front ≡ xs) × (map choice_key back ≡ ys)
cut_keys bound [] back [] ys f b x y e = (refl, e)
cut_keys bound [] [] (k ∷ xs) ys f b x y e = absurd (cc)
cut_keys bound [] (c ∷ cs) (k ∷ xs) ys f b x y e =
    absurd (let q : choice_key c ≡ k = cc in let h = ap (λ (z : HeadAtom). z.0) q in let l = x.0 in omega arith)
cut_keys bound (c ∷ front) back [] [] f b x y e = absurd (cc)
cut_keys bound (c ∷ front) back [] (k ∷ ys) f b x y e =
    absurd (let q : choice_key c ≡ k = cc in let h = ap (λ (z : HeadAtom). z.0) q in let l = y.0 in let m = f.0 in omega arith)
cut_keys bound (c ∷ front) back (k ∷ xs) ys f b x y e =
    let q : choice_key c ≡ k = cc in
    let r : map choice_key (front ++ back) ≡ xs ++ ys = cc in
    let i = cut_keys bound front back xs ys f.1 b x.1 y r in
    (ap (λ (z : HeadAtom). z ∷ map choice_key front) q ∙ ap (λ (zs : List HeadAtom). k ∷ zs) i.0, i.1)

pub cut_at : (bound : ℕ) (whole front back : List Choice) (xs ys : List HeadAtom) → IsCut bound whole front back → AllByRecursion (λ (k : HeadAtom). k.0 < bound) xs → AllByRecursion (λ (k : HeadAtom). bound ≤ k.0) ys
    → map choice_key whole ≡ xs ++ ys → (map choice_key front ≡ xs) × (map choice_key back ≡ ys)
cut_at bound whole front back xs ys c x y e = cut_keys bound front back xs ys c.below c.above x y (ap (map choice_key) (sym c.same) ∙ e)

-- the keys of a head, and those of the heads after it
keyed_all : (P : ℕ → Type 0) (n : ℕ) (atoms : List Atom) → P n → AllByRecursion (λ (k : HeadAtom). P k.0) (map (keyed n) atoms)
keyed_all P n [] p = tt
keyed_all P n (a ∷ atoms) p = (p, keyed_all P n atoms p)

pub wanted_above : (nm : Named) (m n : ℕ) (hs : List (Head State)) → m ≤ n → AllByRecursion (λ (k : HeadAtom). m ≤ k.0) (atoms_from nm n hs)
wanted_above nm m n [] le = tt
wanted_above nm m n (h ∷ hs) le =
    all_append (λ (k : HeadAtom). m ≤ k.0) (map (keyed n) (atoms_of nm h.kind)) (atoms_from nm (n + 1) hs) (keyed_all (λ i. m ≤ i) n (atoms_of nm h.kind) le) (wanted_above nm m (n + 1) hs (omega arith))

pub wanted_below : (nm : Named) (m n : ℕ) (hs : List (Head State)) → n + length hs ≤ m → AllByRecursion (λ (k : HeadAtom). k.0 < m) (atoms_from nm n hs)
wanted_below nm m n [] le = tt
wanted_below nm m n (h ∷ hs) le =
    all_append (λ (k : HeadAtom). k.0 < m) (map (keyed n) (atoms_of nm h.kind)) (atoms_from nm (n + 1) hs) (keyed_all (λ i. i < m) n (atoms_of nm h.kind) (omega arith)) (wanted_below nm m (n + 1) hs (omega arith))

pub wanted-append : (nm : Named) (n m : ℕ) (hs gs : List (Head State)) → m ≡ n + length hs → atoms_from nm n (hs ++ gs) ≡ atoms_from nm n hs ++ atoms_from nm m gs
wanted-append nm n m [] gs e = ap (λ (i : ℕ). atoms_from nm i gs) (let q : n ≡ m = omega arith in q)
wanted-append nm n m (h ∷ hs) gs e =
    ap (λ (xs : List HeadAtom). map (keyed n) (atoms_of nm h.kind) ++ xs) (wanted-append nm (n + 1) m hs gs (omega arith))
    ∙ sym (append_assoc (map (keyed n) (atoms_of nm h.kind)) (atoms_from nm (n + 1) hs) (atoms_from nm m gs))

-- ---- the cases of one head

-- the choices of a head of the table, as cases of a head of the type
module _ (C : State → Option Tree) (ns : List ChoiceNode) (places numbers : List ℕ) (hs : List (Head State)) (ks : List (Head Tree)) (of_choices : List Choice) where
  abbrev pub IsCaseIn : Case → Type 0
  IsCaseIn c = SomeOf (λ k. IsCaseFor C ns (place_in places) (number_in numbers) hs ks k c) of_choices

  head_cases : (front : List Choice) (here : List Case) (n l : ℕ) (h : Head State) (atoms : List Atom) → AllZip (IsCaseOf ns places numbers n) front here → map choice_key front ≡ map (keyed l) atoms
      → numbered hs l ≡ Some h → IsAt C ks n h → ((k : Choice) → IsOneOf k front → IsOneOf k of_choices)
      → (map head_atom here ≡ map (keyed n) atoms) × AllByRecursion IsCaseIn here
  head_cases [] [] n l h [] z e f p m = (refl, tt)
  head_cases [] [] n l h (a ∷ atoms) z e f p m = absurd (cc)
  head_cases [] (c ∷ here) n l h atoms z e f p m = absurd z
  head_cases (k ∷ front) [] n l h atoms z e f p m = absurd z
  head_cases (k ∷ front) (c ∷ here) n l h [] z e f p m = absurd (cc)
  head_cases (k ∷ front) (c ∷ here) n l h (a ∷ atoms) z e f p m =
      let q : choice_key k ≡ keyed l a = cc in
      let r : map choice_key front ≡ map (keyed l) atoms = cc in
      let i = head_cases front here n l h atoms z.1 r f p (λ x y. m x (inr y)) in
      let kh : k.head ≡ l = ap (λ (x : HeadAtom). x.0) q in
      let ka : k.atom ≡ a = ap (λ (x : HeadAtom). x.1) q in
      let w = z.0 in (
        ap (λ (x : HeadAtom). x ∷ map head_atom here) (ap (λ (x : ℕ). (x, c.atom)) w.head ∙ ap (λ (x : Atom). (n, x)) (w.atom ∙ ka)) ∙ ap (λ (xs : List HeadAtom). (n, a) ∷ xs) i.0,
        (
          (
            k,
            m k (inl refl),
            record {
              of_head = h;
              found = ap (numbered hs) kh ∙ f;
              head = subst (λ (x : ℕ). IsAt C ks x h) (sym w.head) p;
              atom = w.atom;
              tree = w.tree;
              stands = w.stands;
              choice = w.choice;
            },
          ),
          i.1,
        ),
      )

-- ---- all cases

slice_get-behind : {X : Type 0} (front : List X) (x : X) (back all : List X) (l : ℕ) → all ≡ front ++ x ∷ back → l ≡ length front → slice_get all l ≡ Some x
slice_get-behind {X} [] x back all l e q = ap (λ (ys : List X). slice_get ys l) e ∙ ap (slice_get (x ∷ back)) q
slice_get-behind {X} (y ∷ front) x back all l e q = ap (λ (ys : List X). slice_get ys l) e ∙ ap (slice_get (y ∷ (front ++ x ∷ back))) q ∙ slice_get-behind front x back (front ++ x ∷ back) (length front) refl refl

head_behind : (front : List (Head State)) (h : Head State) (back all : List (Head State)) (l : ℕ) → all ≡ front ++ h ∷ back → l ≡ length front + 1 → numbered all l ≡ Some h
head_behind front h back all l e q =
    let s : l ≡ suc (length front) = omega arith in
    ap (numbered all) s ∙ slice_get-behind front h back all (length front) e refl

module _ (C : State → Option Tree) (ns : List ChoiceNode) (places numbers : List ℕ) (nm : Named) (of_choices : List Choice) (all : List (Head State)) (ks : List (Head Tree)) where
  -- where the heads that are left stand: those of the type, and the moves of the state
  pub record StandAt {X : Type 0} (whole front back : List X) (n : ℕ) : Type 0 where
    pub same : whole ≡ front ++ back
    pub count : n ≡ length front + 1

  stand_next : {X : Type 0} (whole front back : List X) (x : X) (n : ℕ) → StandAt whole front (x ∷ back) n → StandAt whole (front ++ x ∷ []) back (n + 1)
  stand_next whole front back x n s = record { same = s.same ∙ sym (append_assoc front (x ∷ []) back); count = (let l = length_push front x in let c = s.count in omega arith) }

  all_from : (cs ds es : List Case) → cs ≡ ds ++ es → AllByRecursion (IsCaseIn C ns places numbers all ks of_choices) ds → AllByRecursion (IsCaseIn C ns places numbers all ks of_choices) es → AllByRecursion (IsCaseIn C ns places numbers all ks of_choices) cs
  all_from cs ds es e h k = subst (AllByRecursion (IsCaseIn C ns places numbers all ks of_choices)) (sym e) (all_append (IsCaseIn C ns places numbers all ks of_choices) ds es h k)

  abbrev pub AreCases : List Case → List HeadAtom → Type 0
  AreCases cs ws = (map head_atom cs ≡ ws) × AllByRecursion (IsCaseIn C ns places numbers all ks of_choices) cs

  -- cases in order have the keys that a proof wants, and each is one of a choice
  pub ordered : {hs : List (Head Tree)} {ls : List LabelMove} {ts : List TextMove} → AreHeadMoves C hs ls ts → (n l t : ℕ) (lcs tcs : List Choice) (cs : List Case) → AreOrdered ns places numbers (sorts_of hs) n l t lcs tcs cs
      → map choice_key lcs ≡ atoms_from nm l (map label_head ls) → map choice_key tcs ≡ atoms_from nm t (map text_head ts)
      → ((k : Choice) → IsOneOf k lcs → IsOneOf k of_choices) → ((k : Choice) → IsOneOf k tcs → IsOneOf k of_choices)
      → (front : List (Head Tree)) → StandAt ks front hs n → (lfront lback : List (Head State)) → StandAt all lfront (map label_head ls ++ lback) l → (tfront : List (Head State)) → StandAt all tfront (map text_head ts) t
      → AreCases cs (atoms_from nm n hs)
  ordered no_head n l t lcs tcs cs o lk tk lm tm front s lfront lback ls tfront ts = (ap (map head_atom) o, subst (AllByRecursion (IsCaseIn C ns places numbers all ks of_choices)) (sym o) tt)
  ordered (element_head {h} {hs} {l = m} {ls} {ts} k c r moves) n l t lcs tcs cs o lk tk lm tm front s lfront lback sl tfront st =
      let b : is_text h.kind ≡ false = ap is_text k in
      let o2 : AreOrdered ns places numbers (false ∷ sorts_of hs) n l t lcs tcs cs = subst (λ (x : Bool). AreOrdered ns places numbers (x ∷ sorts_of hs) n l t lcs tcs cs) b o in
      let atoms = atoms_of nm (label_head m).kind in
      let e = cut_at (l + 1) lcs o2.0 o2.1 (map (keyed l) atoms) (atoms_from nm (l + 1) (map label_head ls)) o2.4 (keyed_all (λ i. i < l + 1) l atoms (omega arith)) (wanted_above nm (l + 1) (l + 1) (map label_head ls) (omega arith)) lk in
      let here = head_cases C ns places numbers all ks of_choices o2.0 o2.2 n l (label_head m) atoms o2.5 e.0
      (head_behind lfront (label_head m) (map label_head ls ++ lback) all l sl.same sl.count)
      (record { head = h; stands = numbered_there front hs ks h n s.same s.count; same = record { kind = k; content = λ w q. c; rest = r } })
      (λ x y. lm x (subst (IsOneOf x) (sym (o2.4).same) (one_of-append_left x o2.0 o2.1 y))) in
      let i = ordered moves (n + 1) (l + 1) t o2.1 tcs o2.3 o2.7 e.1 tk
      (λ x y. lm x (subst (IsOneOf x) (sym (o2.4).same) (one_of-append_right x o2.0 o2.1 y))) tm (front ++ h ∷ []) (stand_next ks front hs h n s)
      (lfront ++ label_head m ∷ []) lback (stand_next all lfront (map label_head ls ++ lback) (label_head m) l sl) tfront st in (
        ap (map head_atom) o2.6 ∙ map-append head_atom o2.2 o2.3
            ∙ ap (λ (xs : List HeadAtom). xs ++ map head_atom o2.3) (here.0 ∙ ap (λ (x : HeadKind). map (keyed n) (atoms_of nm x)) (sym k))
            ∙ ap (λ (xs : List HeadAtom). map (keyed n) (atoms_of nm h.kind) ++ xs) i.0,
        all_from cs o2.2 o2.3 o2.6 here.1 i.1,
      )
  ordered (mirrors.text_head {h} {hs} {ls} {t = m} {ts} k r moves) n l t lcs tcs cs o lk tk lm tm front s lfront lback sl tfront st =
      let b : is_text h.kind ≡ true = ap is_text k in
      let o2 : AreOrdered ns places numbers (true ∷ sorts_of hs) n l t lcs tcs cs = subst (λ (x : Bool). AreOrdered ns places numbers (x ∷ sorts_of hs) n l t lcs tcs cs) b o in
      let atoms = atoms_of nm (text_head m).kind in
      let e = cut_at (t + 1) tcs o2.0 o2.1 (map (keyed t) atoms) (atoms_from nm (t + 1) (map text_head ts)) o2.4 (keyed_all (λ i. i < t + 1) t atoms (omega arith)) (wanted_above nm (t + 1) (t + 1) (map text_head ts) (omega arith)) tk in
      let here = head_cases C ns places numbers all ks of_choices o2.0 o2.2 n t (text_head m) atoms o2.5 e.0
      (head_behind tfront (text_head m) (map text_head ts) all t st.same st.count)
      (record { head = h; stands = numbered_there front hs ks h n s.same s.count; same = record { kind = k; content = λ w q. absurd (let x : text_in m.words ≡ element_in w = q in cc); rest = r } })
      (λ x y. tm x (subst (IsOneOf x) (sym (o2.4).same) (one_of-append_left x o2.0 o2.1 y))) in
      let i = ordered moves (n + 1) l (t + 1) lcs o2.1 o2.3 o2.7 lk e.1
      lm (λ x y. tm x (subst (IsOneOf x) (sym (o2.4).same) (one_of-append_right x o2.0 o2.1 y))) (front ++ h ∷ []) (stand_next ks front hs h n s)
      lfront lback sl (tfront ++ text_head m ∷ []) (stand_next all tfront (map text_head ts) (text_head m) t st) in (
        ap (map head_atom) o2.6 ∙ map-append head_atom o2.2 o2.3
            ∙ ap (λ (xs : List HeadAtom). xs ++ map head_atom o2.3) (here.0 ∙ ap (λ (x : HeadKind). map (keyed n) (atoms_of nm x)) (sym k))
            ∙ ap (λ (xs : List HeadAtom). map (keyed n) (atoms_of nm h.kind) ++ xs) i.0,
        all_from cs o2.2 o2.3 o2.6 here.1 i.1,
      )
