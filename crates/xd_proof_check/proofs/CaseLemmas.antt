-- Cases of a goal, one after the other.
use Rattle.std.proofs.Common.{◌≡◌, ℕ, zero, suc, ◌+◌, ◌<◌, ◌≤◌, arith, Bool, true, false, ◌&&◌, nat_eq, Option, Some, None, Result, Ok, Err, IfOk, List, [], ◌∷◌, ◌++◌, map, flat_map, length, take, drop, get_or, refl, ap, sym, subst, ◌∙◌, append_assoc}
use Rattle.std.specs.List.{AllByRecursion, AllZip}
use Rattle.std.specs.Option.{IfNone, option_map}
use Rattle.std.proofs.lemmas.Bool.{eqb-true}
use Rattle.std.proofs.lemmas.List.{drop_all}
use Rattle.std.proofs.Math.Seq.{drop-cons}
use Rattle.xd_doc.proofs.Lists.{all_at, zip_long, length-mapped}
use Rattle.xd_syntax.specs.Tree.{Tree, Definitions}
use Rattle.xd_syntax.specs.Table.{Row}
use Rattle.xd_rules.specs.Heads as inclusion
use Rattle.xd_meaning.specs.Heads as laws
use Rattle.xd_rules.specs.declared.atom.Atom.{Atom}
use Rattle.xd_rules.specs.Rules.{Case, ChoiceTree, HeadAtom, atoms_from, numbered}
use Rattle.xd_meaning.specs.Consistent.{Goal, right_heads}
use Rattle.xd_doc.specs.ByteOrder.{in_byte_order}
use Rattle.xd_rules.specs.Heads.{Head, HeadKind, atoms_of, labels_of, named_in, texts_of}
use Rattle.xd_meaning.specs.Violation.{bad_case}
use Rattle.xd_laws.proofs.FirstWrong.{Refusal, at_line, or_next, reason_unless, same_atom, same_head_atom, wrong_case, wrong_cases, wrong_tree}
use Rattle.xd_moves.specs.Cells.{Cell}
use Rattle.xd_heads.specs.HeadList.{kind_at}
use Rattle.xd_heads.specs.Numbered.{IsNumberIn, IsHeadIn}
use Rattle.xd_heads.specs.declared.lister.NumberedHead.{NumberedHead}
use Rattle.xd_proof.specs.Cases.{IsCase, IsTree}
use Rattle.xd_proof.specs.Steps.{steps_of}
use Rattle.xd_proof.specs.declared.steps.Step.{Step}
use Rattle.xd_proof.specs.declared.cases.ReadCase.{ReadCase}
use Rattle.xd_proof_check.specs.Atoms.{AreNamed, AreNamedFor, kinds_of}
use Rattle.xd_rules.specs.Listed.{AreAmong}
use Rattle.xd_proof_check.specs.CaseWalk.{CasesView, CasesFit, Meets, wrong_after}
use Rattle.xd_proof_check.specs.Corresponds.{Corresponds}
use Rattle.xd_proof_check.specs.Reasons.{reason_of}
use Rattle.xd_proof_check.specs.Walk.{IsSetting, SettingView}
use Rattle.xd_proof_check.specs.declared.atoms.Named.{Named}
use Rattle.xd_proof_check.specs.Paths.{KeepsRoom}
use Rattle.xd_proof_check.specs.declared.path.Path.{Path}
use Rattle.xd_proof_check.specs.declared.verdict.Reason.{Reason}
use Rattle.xd_proof_check.proofs.SettingLemmas.{length-kinds_of}
use Rattle.xd_proof_check.proofs.AtomLemmas.{named_among}

abbrev named_lists : List (List ℕ) → List (List ℕ) → inclusion.Named
named_lists ls ts = record { labels = ls; texts = ts }

zip_at : {A B : Type 0} (P : A → B → Type 0) (xs : List A) (ys : List B) → AllZip P xs ys → (i : ℕ) (d : A) → i < length xs → (y : B) × (drop i ys ≡ y ∷ drop (suc i) ys) × P (get_or xs i d) y
zip_at P [] ys z i d h = absurd (omega arith)
zip_at P (x ∷ xs) [] z i d h = absurd z
zip_at P (x ∷ xs) (y ∷ ys) z zero d h = (y, refl, z.0)
zip_at P (x ∷ xs) (y ∷ ys) z (suc i) d h = zip_at P xs ys z.1 i d (omega arith)

-- ---- a setting of a goal's case

kinds_same : (types : List Row) (cells : List Cell) (made : List NumberedHead) (hs : List (Head Tree)) → AllZip (IsHeadIn types cells) made hs → kinds_of made ≡ map (λ (h : Head Tree). h.kind) hs
kinds_same types cells [] [] z = refl
kinds_same types cells [] (h ∷ hs) z = absurd z
kinds_same types cells (m ∷ ms) [] z = absurd z
kinds_same types cells (m ∷ ms) (h ∷ hs) z =
    let i = z.0 in
    ap (λ (k : HeadKind). k ∷ kinds_of ms) i.kind ∙ ap (λ ks. h.kind ∷ ks) (kinds_same types cells ms hs z.1)

content_zip : (types : List Row) (cells : List Cell) (made : List NumberedHead) (hs : List (Head Tree)) → AllZip (IsHeadIn types cells) made hs →
    AllZip (λ number (h : Head Tree). IsNumberIn types cells number h.content) (map (λ (h : NumberedHead). h.content) made) hs
content_zip types cells [] [] z = tt
content_zip types cells [] (h ∷ hs) z = absurd z
content_zip types cells (m ∷ ms) [] z = absurd z
content_zip types cells (m ∷ ms) (h ∷ hs) z = (let i = z.0 in i.content, content_zip types cells ms hs z.1)

rest_zip : (types : List Row) (cells : List Cell) (made : List NumberedHead) (hs : List (Head Tree)) → AllZip (IsHeadIn types cells) made hs →
    AllZip (λ number (h : Head Tree). IsNumberIn types cells number h.rest) (map (λ (h : NumberedHead). h.rest) made) hs
rest_zip types cells [] [] z = tt
rest_zip types cells [] (h ∷ hs) z = absurd z
rest_zip types cells (m ∷ ms) [] z = absurd z
rest_zip types cells (m ∷ ms) (h ∷ hs) z = (let i = z.0 in i.rest, rest_zip types cells ms hs z.1)

abbrev pub setting_at : CasesView → Atom → NumberedHead → SettingView
setting_at v a h = record {
  numbers = v.numbers;
  goals = v.goals;
  atom = a;
  kinds = kinds_of v.rights;
  left_content = h.content;
  left_rest = h.rest;
  contents = v.contents;
  rests = v.rests;
}

pub fits_setting : (v : CasesView) (a : Atom) (h : NumberedHead) (p : Path) → CasesFit v p → IsSetting (setting_at v a h) p
fits_setting v a h p f =
    let l : length v.contents ≡ length v.rights = ap length f.contents ∙ length-mapped (λ (h : NumberedHead). h.content) v.rights in
    let m : length v.rests ≡ length v.rights = ap length f.rests ∙ length-mapped (λ (h : NumberedHead). h.rest) v.rights in
    record {
      belong = f.belong;
      contents = f.on_content;
      rests = f.on_rest;
      heads = length-kinds_of v.rights ∙ sym l;
      room = record {
        content = f.contents_fit;
        rest = f.rests_fit;
        split = let s = f.split in omega arith;
        same = l ∙ sym m;
      };
    }

module _ (types : List Row) (cells : List Cell) (E : Definitions) (gs : List Goal) (g : Goal) (v : CasesView) (p : Path) (f : CasesFit v p) (m : Meets types cells E gs g v) where
  -- the left head at this position, and those from it on
  abbrev pub IsLeft : ℕ → NumberedHead → Head Tree → Type 0
  IsLeft i made h = (drop i (laws.heads E g.left) ≡ h ∷ drop (suc i) (laws.heads E g.left)) × IsHeadIn types cells made h

  pub left_head : (i : ℕ) (d : NumberedHead) → i < length v.left → (h : Head Tree) × IsLeft i (get_or v.left i d) h
  left_head i d l = let r = zip_at (IsHeadIn types cells) v.left (laws.heads E g.left) m.left i d l in (r.0, (r.1, r.2))

  pub meets_setting : (a : Atom) (i : ℕ) (made : NumberedHead) (h : Head Tree) → IsLeft i made h → Corresponds types cells (setting_at v a made) h (right_heads E g) gs
  meets_setting a i made h b =
      let n = b.1 in
      record {
        numbers = m.numbers;
        goals = m.goals;
        kinds = kinds_same types cells v.rights (right_heads E g) m.rights;
        contents =
            subst (λ ns. AllZip (λ number (h : Head Tree). IsNumberIn types cells number h.content) ns (right_heads E g)) (sym f.contents)
            (content_zip types cells v.rights (right_heads E g) m.rights);
        rests =
            subst (λ ns. AllZip (λ number (h : Head Tree). IsNumberIn types cells number h.rest) ns (right_heads E g)) (sym f.rests)
            (rest_zip types cells v.rights (right_heads E g) m.rights);
        left_content = n.content;
        left_rest = n.rest;
      }

  drop_numbered : (hs : List (Head Tree)) (i : ℕ) (h : Head Tree) → drop i hs ≡ h ∷ drop (suc i) hs → numbered hs (suc i) ≡ Some h
  drop_numbered [] zero h e = cc
  drop_numbered [] (suc i) h e = cc
  drop_numbered (x ∷ hs) zero h e = let q : x ≡ h = cc in ap Some q
  drop_numbered (x ∷ hs) (suc i) h e = drop_numbered hs i h e

  left_numbered : (i : ℕ) (made : NumberedHead) (h : Head Tree) → IsLeft i made h → numbered (laws.heads E g.left) (i + 1) ≡ Some h
  left_numbered i made h b = let e : i + 1 ≡ suc i = omega arith in ap (numbered (laws.heads E g.left)) e ∙ drop_numbered (laws.heads E g.left) i h b.0

  -- no case is left
  pub case_missing : (at line : ℕ) (w : HeadAtom) (ws : List HeadAtom) → length v.cases ≤ at → wrong_cases E gs g line (w ∷ ws) (drop at g.cases) ≡ Some (line, bad_case)
  case_missing at line w ws h =
      let l = zip_long IsCase v.cases g.cases m.cases in
      ap (wrong_cases E gs g line (w ∷ ws)) (drop_all at g.cases (omega arith))

  none_left : (at line : ℕ) → length v.cases ≤ at → wrong_cases E gs g line [] (drop at g.cases) ≡ None
  none_left at line h = let l = zip_long IsCase v.cases g.cases m.cases in ap (wrong_cases E gs g line []) (drop_all at g.cases (omega arith))

  pub no_case_left : (at line : ℕ) → length v.cases ≤ at → wrong_cases E gs g line [] (drop at g.cases) ≡ None
  no_case_left at line h = none_left at line h

  same_wanted : (made : ReadCase) (c : Case) (n : ℕ) (a : Atom) → IsCase made c → (nat_eq made.head n && same_atom made.atom a) ≡ same_head_atom c (n, a)
  same_wanted made c n a i = ap (λ k. nat_eq k n && same_atom made.atom a) i.head ∙ ap (λ b. nat_eq c.head n && same_atom b a) i.atom

  -- a case of another head or atom
  pub case_other : (at line n : ℕ) (a : Atom) (ws : List HeadAtom) (d made : ReadCase) → at < length v.cases → made ≡ get_or v.cases at d →
      (nat_eq made.head n && same_atom made.atom a) ≡ false → wrong_cases E gs g line ((n, a) ∷ ws) (drop at g.cases) ≡ Some (line, bad_case)
  case_other at line n a ws d made h e q =
      let r = zip_at IsCase v.cases g.cases m.cases at d h in
      let c = r.0 in
      let i = subst (λ x. IsCase x c) (sym e) r.2 in
      ap (wrong_cases E gs g line ((n, a) ∷ ws)) r.1
      ∙ ap (λ b. or_next (at_line line (reason_unless b bad_case)) (or_next (at_line line (wrong_case gs (right_heads E g) c (numbered (laws.heads E g.left) c.head))) (wrong_cases E gs g (line + 1) ws (drop (suc at) g.cases))))
      (sym (same_wanted made c n a i) ∙ q)

  and_left : (a b : Bool) → (a && b) ≡ true → a ≡ true
  and_left true b e = refl
  and_left false b e = e

  after : (line : ℕ) (found : Option Reason) (rest : Option Refusal) → or_next (at_line line (option_map reason_of found)) rest ≡ wrong_after line found rest
  after line None rest = refl
  after line (Some r) rest = refl

  -- a case of this head and atom, whose tree was looked at
  pub case_looked : (at line left : ℕ) (a : Atom) (ws : List HeadAtom) (d made : ReadCase) (read : NumberedHead) (h : Head Tree) (found : Option Reason) → at < length v.cases → IsLeft left read h → made ≡ get_or v.cases at d →
      (nat_eq made.head (left + 1) && same_atom made.atom a) ≡ true →
      ((c : Case) → IsCase made c → option_map reason_of found ≡ wrong_tree gs made.atom h (right_heads E g) c.choice) →
      wrong_cases E gs g line ((left + 1, a) ∷ ws) (drop at g.cases) ≡ wrong_after line found (wrong_cases E gs g (line + 1) ws (drop (at + 1) g.cases))
  case_looked at line left a ws d made read h found w l s q k =
      let r = zip_at IsCase v.cases g.cases m.cases at d w in
      let c = r.0 in
      let i = subst (λ x. IsCase x c) (sym s) r.2 in
      let n : c.head ≡ left + 1 = sym i.head ∙ eqb-true made.head (left + 1) (and_left (nat_eq made.head (left + 1)) (same_atom made.atom a) q) in
      let rest = wrong_cases E gs g (line + 1) ws (drop (suc at) g.cases) in
      let z : suc at ≡ at + 1 = omega arith in
      ap (wrong_cases E gs g line ((left + 1, a) ∷ ws)) r.1
      ∙ ap (λ b. or_next (at_line line (reason_unless b bad_case)) (or_next (at_line line (wrong_case gs (right_heads E g) c (numbered (laws.heads E g.left) c.head))) rest))
      (sym (same_wanted made c (left + 1) a i) ∙ q)
      ∙ ap (λ o. or_next (at_line line (wrong_case gs (right_heads E g) c o)) rest) (ap (numbered (laws.heads E g.left)) n ∙ left_numbered left read h l)
      ∙ ap (λ b. or_next (at_line line (wrong_tree gs b h (right_heads E g) c.choice)) rest) (sym i.atom)
      ∙ ap (λ o. or_next (at_line line o) rest) (sym (k c i))
      ∙ after line found rest
      ∙ ap (λ j. wrong_after line found (wrong_cases E gs g (line + 1) ws (drop j g.cases))) z

  -- ---- what is named

  flat_kinds : (f : HeadKind → List (List ℕ)) (hs : List (Head Tree)) → flat_map f (map (λ (h : Head Tree). h.kind) hs) ≡ flat_map (λ (h : Head Tree). f h.kind) hs
  flat_kinds f [] = refl
  flat_kinds f (h ∷ hs) = ap (λ zs. f h.kind ++ zs) (flat_kinds f hs)

  map_both' : {A B : Type 0} (q : A → B) (xs ys : List A) → map q (xs ++ ys) ≡ map q xs ++ map q ys
  map_both' q [] ys = refl
  map_both' q (x ∷ xs) ys = ap (λ zs. q x ∷ zs) (map_both' q xs ys)

  kinds_are : kinds_of v.left ++ kinds_of v.rights ≡ map (λ (h : Head Tree). h.kind) (laws.heads E g.left ++ right_heads E g)
  kinds_are =
      ap (λ ks. ks ++ kinds_of v.rights) (kinds_same types cells v.left (laws.heads E g.left) m.left)
      ∙ ap (λ ks. map (λ (h : Head Tree). h.kind) (laws.heads E g.left) ++ ks) (kinds_same types cells v.rights (right_heads E g) m.rights)
      ∙ sym (map_both' (λ (h : Head Tree). h.kind) (laws.heads E g.left) (right_heads E g))

  names_are : (f : HeadKind → List (List ℕ)) → in_byte_order (flat_map f (kinds_of v.left ++ kinds_of v.rights)) ≡ in_byte_order (flat_map (λ (h : Head Tree). f h.kind) (laws.heads E g.left ++ right_heads E g))
  names_are f = ap in_byte_order (ap (flat_map f) kinds_are ∙ flat_kinds f (laws.heads E g.left ++ right_heads E g))

  -- the heads from one on begin with the atoms of that head
  pub atoms_first : (n : Named) → AreNamed (kinds_of v.left ++ kinds_of v.rights) n → (left : ℕ) (d : NumberedHead) → left < length v.left →
      atoms_from (named_in (laws.heads E g.left ++ right_heads E g)) (left + 1) (drop left (laws.heads E g.left))
      ≡ map (λ a. (left + 1, a)) (atoms_of (record { labels = n.labels.names; texts = n.texts.names }) (kind_at (get_or v.left left d).kind)) ++ atoms_from (named_in (laws.heads E g.left ++ right_heads E g)) (left + 1 + 1) (drop (left + 1) (laws.heads E g.left))
  atoms_first n a left d l =
      let y = left_head left d l in
      let h = y.0 in
      let i = (y.1).1 in
      let e : suc left ≡ left + 1 = omega arith in
      let c : drop left (laws.heads E g.left) ≡ h ∷ drop (left + 1) (laws.heads E g.left) = (y.1).0 ∙ ap (λ k. h ∷ drop k (laws.heads E g.left)) e in
      let behind = atoms_from (named_in (laws.heads E g.left ++ right_heads E g)) (left + 1 + 1) (drop (left + 1) (laws.heads E g.left)) in
      ap (atoms_from (named_in (laws.heads E g.left ++ right_heads E g)) (left + 1)) c
      ∙ ap (λ ns. map (λ b. (left + 1, b)) (atoms_of ns h.kind) ++ behind)
      (sym (same_named (n.labels.names) (n.texts.names) (a.labels ∙ names_are labels_of) (a.texts ∙ names_are texts_of)))
      ∙ ap (λ k. map (λ b. (left + 1, b)) (atoms_of (record { labels = n.labels.names; texts = n.texts.names }) k) ++ behind) (sym i.kind)
    where
      same_named : (ls ts : List (List ℕ)) → ls ≡ (named_in (laws.heads E g.left ++ right_heads E g)).labels → ts ≡ (named_in (laws.heads E g.left ++ right_heads E g)).texts → named_lists ls ts ≡ named_in (laws.heads E g.left ++ right_heads E g)
      same_named ls ts p q = ap (λ xs. named_lists xs ts) p ∙ ap (λ xs. named_lists (named_in (laws.heads E g.left ++ right_heads E g)).labels xs) q

-- atoms, as those wanted of the head with this number
abbrev pub wanted_of : ℕ → List Atom → List HeadAtom
wanted_of n atoms = map (λ (a : Atom). (n, a)) atoms

-- ---- answers

abbrev pub setting_by : CasesView → Atom → ℕ → ℕ → SettingView
setting_by v a lc lr = record {
  numbers = v.numbers;
  goals = v.goals;
  atom = a;
  kinds = kinds_of v.rights;
  left_content = lc;
  left_rest = lr;
  contents = v.contents;
  rests = v.rests;
}

pub case_says : {X : Type 0} (v : CasesView) (p : Path) (f : CasesFit v p) (at left : ℕ) (a : Atom) (made : ReadCase) (h : NumberedHead) (lc lr : ℕ) (steps : List Step) (r : Result (Option Reason) X) →
    at < length v.cases → left < length v.left → made ≡ get_or v.cases at made → h ≡ get_or v.left left h → lc ≡ h.content → lr ≡ h.rest →
    steps ≡ (made.steps).items → (nat_eq made.head (left + 1) && same_atom made.atom a) ≡ true →
    IfOk r (λ found. (types : List Row) (cells : List Cell) (gs : List Goal) (l : Head Tree) (hs : List (Head Tree)) (t : ChoiceTree) → Corresponds types cells (setting_by v made.atom lc lr) l hs gs → steps ≡ steps_of t →
    option_map reason_of found ≡ wrong_tree gs made.atom l hs t) →
    IfOk r (λ found. (types : List Row) (cells : List Cell) (E : Definitions) (gs : List Goal) (g : Goal) (line : ℕ) (ws : List HeadAtom) → Meets types cells E gs g v →
    wrong_cases E gs g line ((left + 1, a) ∷ ws) (drop at g.cases) ≡ wrong_after line found (wrong_cases E gs g (line + 1) ws (drop (at + 1) g.cases)))
case_says v p f at left a made h lc lr steps (Ok found) k l e d c b s q says =
    λ types cells E gs g line ws m.
    let A = made.atom in
    let y = left_head types cells E gs g v p f m left h l in
    let read = get_or v.left left h in
    let cs = meets_setting types cells E gs g v p f m A left read y.0 y.1 in
    let x : read.content ≡ lc = sym (c ∙ ap (λ (y : NumberedHead). y.content) d) in
    let z : read.rest ≡ lr = sym (b ∙ ap (λ (y : NumberedHead). y.rest) d) in
    let cs2 = subst (λ n. Corresponds types cells (setting_by v A n read.rest) y.0 (right_heads E g) gs) x cs in
    let cs3 = subst (λ n. Corresponds types cells (setting_by v A lc n) y.0 (right_heads E g) gs) z cs2 in
    case_looked types cells E gs g v p f m at line left a ws made made read y.0 found k y.1 e q (λ (cz : Case) (i : IsCase made cz). says types cells gs y.0 (right_heads E g) cz.choice cs3 (s ∙ i.steps))
case_says v p f at left a made h lc lr steps (Err x) k l e d c b s q says = tt

pub tree_clears : {X : Type 0} (C : Type 0) (steps : List Step) (t : ChoiceTree) (r : Result (Option Reason) X) → steps ≡ steps_of t →
    IfOk r (λ found. (u : ChoiceTree) → steps ≡ steps_of u → IfNone found C) → IfOk r (λ found. IfNone found C)
tree_clears C steps t (Ok found) e says = says t e
tree_clears C steps t (Err x) e says = tt

pub tree_at_case : (cases : List ReadCase) (at : ℕ) (made : ReadCase) → AllByRecursion IsTree cases → at < length cases → made ≡ get_or cases at made → IsTree made
tree_at_case cases at made a h e = subst IsTree (sym e) (all_at IsTree cases a at made h)

-- ---- the cases of a head

kinds_split : (hs : List NumberedHead) (i : ℕ) (d : NumberedHead) → i < length hs → kinds_of hs ≡ kinds_of (take i hs) ++ kind_at (get_or hs i d).kind ∷ kinds_of (drop (suc i) hs)
kinds_split [] i d l = absurd (omega arith)
kinds_split (h ∷ hs) zero d l = refl
kinds_split (h ∷ hs) (suc i) d l = ap (λ ks. kind_at h.kind ∷ ks) (kinds_split hs i d (omega arith))

pub named_for : (left rights : List NumberedHead) (n : Named) → AreNamed (kinds_of left ++ kinds_of rights) n → (i : ℕ) (d : NumberedHead) → i < length left → AreNamedFor (kind_at (get_or left i d).kind) n
named_for left rights n a i d l = record {
  labels = subst (λ ns. AreAmong (labels_of k) ns) (sym (a.labels ∙ ap (λ ks. in_byte_order (flat_map labels_of ks)) e)) (named_among labels_of (kinds_of (take i left)) behind k);
  texts = subst (λ ns. AreAmong (texts_of k) ns) (sym (a.texts ∙ ap (λ ks. in_byte_order (flat_map texts_of ks)) e)) (named_among texts_of (kinds_of (take i left)) behind k);
}
  where
    k : HeadKind
    k = kind_at (get_or left i d).kind

    behind : List HeadKind
    behind = kinds_of (drop (suc i) left) ++ kinds_of rights

    e : kinds_of left ++ kinds_of rights ≡ kinds_of (take i left) ++ k ∷ behind
    e = ap (λ ks. ks ++ kinds_of rights) (kinds_split left i d l) ∙ append_assoc (kinds_of (take i left)) (k ∷ kinds_of (drop (suc i) left)) (kinds_of rights)

pub wanted_next : (n : ℕ) (items : List Atom) (i : ℕ) (a : Atom) (ws : List HeadAtom) → i < length items → a ≡ get_or items i a →
    wanted_of n (drop i items) ++ ws ≡ (n, a) ∷ (wanted_of n (drop (suc i) items) ++ ws)
wanted_next n items i a ws l e =
    ap (λ xs. wanted_of n xs ++ ws) (drop-cons items i a l) ∙ ap (λ (x : Atom). (n, x) ∷ (wanted_of n (drop (suc i) items) ++ ws)) (sym e)

module _ (types : List Row) (cells : List Cell) (E : Definitions) (gs : List Goal) (g : Goal) (v : CasesView) (p : Path) (f : CasesFit v p) (m : Meets types cells E gs g v) where
  -- the cases that a head wants, and those after them
  pub head_start : (n : Named) → AreNamed (kinds_of v.left ++ kinds_of v.rights) n → (left : ℕ) (d : NumberedHead) → left < length v.left → (atoms items : List Atom) →
      atoms ≡ atoms_of (record { labels = n.labels.names; texts = n.texts.names }) (kind_at (get_or v.left left d).kind) → items ≡ atoms →
      atoms_from (named_in (laws.heads E g.left ++ right_heads E g)) (left + 1) (drop left (laws.heads E g.left)) ≡ wanted_of (left + 1) items ++ atoms_from (named_in (laws.heads E g.left ++ right_heads E g)) (left + 1 + 1) (drop (left + 1) (laws.heads E g.left))
  head_start n a left d l atoms items e q =
      let rest = atoms_from (named_in (laws.heads E g.left ++ right_heads E g)) (left + 1 + 1) (drop (left + 1) (laws.heads E g.left)) in
      atoms_first types cells E gs g v p f m n a left d l
      ∙ ap (λ ws. ws ++ rest) (sym (ap (wanted_of (left + 1)) (q ∙ e)))

  pub heads_done : (left : ℕ) → length v.left ≤ left → atoms_from (named_in (laws.heads E g.left ++ right_heads E g)) (left + 1) (drop left (laws.heads E g.left)) ≡ []
  heads_done left h =
      let l : length v.left ≡ length (laws.heads E g.left) = zip_long (IsHeadIn types cells) v.left (laws.heads E g.left) m.left in
      ap (atoms_from (named_in (laws.heads E g.left ++ right_heads E g)) (left + 1)) (drop_all left (laws.heads E g.left) (omega arith))

  too_many : (cs : List Case) (at line : ℕ) → at < length cs → wrong_cases E gs g line [] (drop at cs) ≡ Some (line, bad_case)
  too_many [] at line h = absurd (omega arith)
  too_many (c ∷ cs) zero line h = refl
  too_many (c ∷ cs) (suc at) line h = too_many cs at line (omega arith)

  pub cases_left : (at line : ℕ) → at < length v.cases → wrong_cases E gs g line [] (drop at g.cases) ≡ Some (line, bad_case)
  cases_left at line h = let l = zip_long IsCase v.cases g.cases m.cases in too_many g.cases at line (omega arith)

  pub cases_done : (at line : ℕ) → length v.cases ≤ at → wrong_cases E gs g line [] (drop at g.cases) ≡ None
  cases_done at line h = no_case_left types cells E gs g v p f m at line h

-- cases go on to fit where the tables of marks are as long as they were
pub fits_kept : (v : CasesView) (p q : Path) → KeepsRoom p q → CasesFit v p → CasesFit v q
fits_kept v p q k h = record {
  belong = h.belong;
  trees = h.trees;
  on_content = λ i. omega (arith, k.content, h.on_content i);
  on_rest = λ i. omega (arith, k.rest, h.on_rest i);
  contents_fit = λ i. omega (arith, k.content, h.contents_fit i);
  rests_fit = λ i. omega (arith, k.rest, h.rests_fit i);
  contents = h.contents;
  rests = h.rests;
  split = omega (arith, k.split, h.split);
}
