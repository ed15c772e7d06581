-- How lines begin a proof text, in both formats, and its first bad line.
use Rattle.std.proofs.Common.{◌≡◌, ◌⊎◌, ℕ, suc, ◌+◌, ◌-◌, ◌<◌, ◌≤◌, arith, List, [], ◌∷◌, ◌++◌, length, length-append, get_or, take, append_assoc, append-nil, refl, ap, sym, subst, ◌∙◌, inl, inr}
use Rattle.std.specs.Prelude.{codes}
use Rattle.std.specs.Fmt.{decimal}
use Rattle.std.proofs.lemmas.List.{length-take-le, take-append-le}
use Rattle.std.proofs.Math.Seq.{take-length}
use Rattle.xd_syntax.specs.Tree.{Tree, Empty}
use Rattle.xd_syntax.specs.TypeText.{type_text}
use Rattle.xd_meaning.specs.Violation.{Lined}
use Rattle.xd_proof.specs.Lines.{space, SpellsNumber, IsCut}
use Rattle.xd_proof.specs.Parts.{Follows, SpellParts}
use Rattle.xd_proof.specs.Form.{GoalBlock, goal_list, types_from, goals_from, AreSecond, AreProof, IsProofText, CanBegin, IsFirstBadLine}
use Rattle.xd_proof.proofs.BeginLemmas.{spell_joined}
use Rattle.xd_proof.proofs.LineLemmas.{same_cut}
use Rattle.xd_proof.proofs.Unique.{number_one, parts_one, follows_one}
use Rattle.xd_proof_read.specs.declared.formats.Format.{Format}
use Rattle.xd_proof_read.specs.declared.formats.Format.TheVariants as formats
use Rattle.xd_proof_read.specs.Naming.{NamesType}
use Rattle.xd_proof_read.specs.BadLines.{ProofLines, GoalLines, CanGoOn, IsFirstBad, IsTypeLine, IsBadTypeLine, title_of}
use Rattle.xd_proof_read.proofs.NamingFacts.{numbers_name}
use Rattle.xd_proof_read.proofs.GoalFacts.{front_goes_on, bad_here, bad_end, Behind, none_go_on, one_more_line}
use Rattle.xd_proof_read.proofs.SecondFormat.{lines_named, meant_by}
use Rattle.xd_proof_read.proofs.TypeFacts.{many_types, fillers, types_split, types_joined, type_at, same_types, too_few}

titles_apart : codes "xduce-proof 1" ≡ codes "xduce-proof 2" → ⊥
titles_apart e = let h : 49 ≡ 50 = ap (λ l. get_or l 12 0) e in omega (arith, h)

module _ (R : List ℕ → Tree → Type 0) where
  -- ---- the first format
  first_back : (ls : List (List ℕ)) (goals : List Lined) → AreProof R (codes "xduce-proof 1" ∷ ls) goals → GoalLines R R ls
  first_back ls goals (inl f) = (f.blocks, (f.spelled).1)
  first_back ls goals (inr f) = absurd (titles_apart (f.spelled).0)

  pub first_behind : Behind (ProofLines R) (GoalLines R R) (codes "xduce-proof 1" ∷ [])
  first_behind = record {
    on = λ ls w. (w.0, (goals_from 3 (w.1).0, inl (record { blocks = (w.1).0; spelled = (refl, (w.1).1); read = refl })));
    back = λ ls w. (w.0, first_back (ls ++ w.0) (w.1).0 (w.1).1);
    whole = λ ls w. first_back ls w.0 w.1;
  }

  -- ---- the second format
  second_only : (ls : List (List ℕ)) (goals : List Lined) → AreProof R (codes "xduce-proof 2" ∷ ls) goals → AreSecond R (codes "xduce-proof 2" ∷ ls) goals
  second_only ls goals (inl f) = absurd (titles_apart (sym (f.spelled).0))
  second_only ls goals (inr f) = f

module _ (R : List ℕ → Tree → Type 0) (one : (b : List ℕ) (T U : Tree) → R b T → R b U → T ≡ U) (line : List ℕ) (typed : List (List ℕ)) (Ts : List Tree)
    (count : Follows (codes "types") SpellsNumber line (length Ts)) (spelled : SpellParts {A = ℕ} R SpellsNumber typed (types_from 1 Ts)) where
  abbrev front : List (List ℕ)
  front = codes "xduce-proof 2" ∷ line ∷ typed

  pub second_whole : (ls : List (List ℕ)) (ms : List (GoalBlock Tree)) → SpellParts R (NamesType Ts) ls (goal_list ms) → AreProof R (front ++ ls) (goals_from (4 + length Ts) ms)
  second_whole ls ms s =
      let r = meant_by R Ts ls ms s in
      inr (record {
        types = Ts;
        blocks = r.0;
        meant = ms;
        spelled = (refl, (count, spell_joined R SpellsNumber typed ls (types_from 1 Ts) (goal_list r.0) spelled r.2));
        named = r.1;
        read = refl;
      })

  second_back : (ls : List (List ℕ)) → ProofLines R (front ++ ls) → GoalLines R (NamesType Ts) ls
  second_back ls (goals, w) = go (second_only R (line ∷ (typed ++ ls)) goals w)
    where
      go : AreSecond R (front ++ ls) goals → GoalLines R (NamesType Ts) ls
      go f =
          let s = f.spelled in
          let n : length f.types ≡ length Ts = follows_one (codes "types") SpellsNumber line (length f.types) (length Ts) number_one (s.1).0 count in
          let l = many_types R typed 1 Ts spelled in
          let r = types_split R SpellsNumber 1 typed ls f.types (goal_list f.blocks) (omega (arith, n, l)) (s.1).1 in
          let e : f.types ≡ Ts = same_types R 1 f.types Ts (parts_one R SpellsNumber one number_one typed (types_from 1 f.types) (types_from 1 Ts) r.0 spelled) in
          (f.meant, subst (λ Us. SpellParts R (NamesType Us) ls (goal_list f.meant)) e (lines_named R f.types ls f.blocks f.meant f.named r.1))

  pub second_behind : Behind (ProofLines R) (GoalLines R (NamesType Ts)) front
  second_behind = record {
    on = λ ls w. (w.0, (goals_from (4 + length Ts) (w.1).0, subst (λ l. AreProof R l (goals_from (4 + length Ts) (w.1).0)) (sym (append_assoc front ls w.0)) (second_whole (ls ++ w.0) (w.1).0 (w.1).1)));
    back = λ ls w. (w.0, second_back (ls ++ w.0) (subst (ProofLines R) (append_assoc front ls w.0) w.1));
    whole = second_back;
  }

module _ (R : List ℕ → Tree → Type 0) (one : (b : List ℕ) (T U : Tree) → R b T → R b U → T ≡ U) (empty : R (type_text Empty) Empty) where
  -- some types, of so many
  types_go_on : (line : List ℕ) (typed : List (List ℕ)) (Ts : List Tree) (m : ℕ) → Follows (codes "types") SpellsNumber line m → SpellParts {A = ℕ} R SpellsNumber typed (types_from 1 Ts) → length Ts ≤ m →
      CanGoOn (ProofLines R) (codes "xduce-proof 2" ∷ line ∷ typed)
  types_go_on line typed Ts m count s h =
      let most = ((count.reads).number).most in
      let least = ((count.reads).number).least in
      let f = fillers R empty (1 + length Ts) (m - length Ts) (omega arith) (omega (arith, h, most)) in
      let all = Ts ++ f.1 in
      let l : length all ≡ m = length-append Ts f.1 ∙ ap (λ k. length Ts + k) f.2 ∙ omega (arith, h) in
      let s' : SpellParts {A = ℕ} R SpellsNumber (typed ++ f.0) (types_from 1 all) =
      subst (SpellParts R SpellsNumber (typed ++ f.0)) (sym (types_joined R 1 Ts f.1)) (spell_joined R SpellsNumber typed f.0 (types_from 1 Ts) (types_from (1 + length Ts) f.1) s f.3) in
      let b = second_behind R one line (typed ++ f.0) all (subst (λ k. Follows (codes "types") SpellsNumber line k) (sym l) count) s' in
      let w = b.on [] (none_go_on R (NamesType all) (numbers_name R one all (omega (arith, l, least)))) in
      front_goes_on (ProofLines R) (codes "xduce-proof 2" ∷ line ∷ typed) (f.0 ++ []) (subst (CanGoOn (ProofLines R)) (append_assoc (codes "xduce-proof 2" ∷ line ∷ typed) f.0 []) w)

  title_goes_on : CanGoOn (ProofLines R) (codes "xduce-proof 2" ∷ [])
  title_goes_on =
      front_goes_on (ProofLines R) (codes "xduce-proof 2" ∷ []) ((codes "types" ++ space ∷ decimal 1) ∷ [])
      (types_go_on (codes "types" ++ space ∷ decimal 1) [] [] 1 (record { behind = decimal 1; whole = refl; reads = record { digits = refl; number = record { least = omega arith; most = omega arith } } }) tt (omega arith))

  none_goes_on : CanGoOn (ProofLines R) []
  none_goes_on = front_goes_on (ProofLines R) [] (codes "xduce-proof 2" ∷ []) title_goes_on

  type_stops : (line : List ℕ) (typed : List (List ℕ)) (Ts : List Tree) (m : ℕ) (l : List ℕ) → Follows (codes "types") SpellsNumber line m → SpellParts {A = ℕ} R SpellsNumber typed (types_from 1 Ts) → length Ts < m →
      ((T : Tree) → IsTypeLine R l (length Ts + 1) T → ⊥) → CanGoOn (ProofLines R) (codes "xduce-proof 2" ∷ line ∷ (typed ++ l ∷ [])) → ⊥
  type_stops line typed Ts m l count s h never (more, (goals, w)) = go (second_only R (line ∷ ((typed ++ l ∷ []) ++ more)) goals w)
    where
      go : AreSecond R (codes "xduce-proof 2" ∷ line ∷ ((typed ++ l ∷ []) ++ more)) goals → ⊥
      go f =
          let t = f.spelled in
          let n : length f.types ≡ m = follows_one (codes "types") SpellsNumber line (length f.types) m number_one (t.1).0 count in
          let k = many_types R typed 1 Ts s in
          let r = type_at R 1 typed l more f.types (goal_list f.blocks) (omega (arith, n, h, k)) (subst (λ ls. SpellParts R SpellsNumber ls (types_from 1 f.types ++ goal_list f.blocks)) (append_assoc typed (l ∷ []) more) (t.1).1) in
          never r.0 (subst (λ j. IsTypeLine R l j r.0) (omega (arith, k)) r.1)

  -- ---- first bad lines
  pub bad_none : IsFirstBad (ProofLines R) [] 1
  bad_none = bad_end (ProofLines R) [] 1 refl (λ w. no_lines w.0 w.1) none_goes_on
    where
      no_lines : (goals : List Lined) → AreProof R [] goals → ⊥
      no_lines goals (inl f) = f.spelled
      no_lines goals (inr f) = f.spelled

  pub bad_title : (title : List ℕ) (ls : List (List ℕ)) → ((f : Format) → title ≡ title_of f → ⊥) → IsFirstBad (ProofLines R) (title ∷ ls) 1
  bad_title title ls never = bad_here (ProofLines R) (title ∷ ls) 1 (omega arith) (omega arith) none_goes_on (λ w. go w.0 (w.1).0 (w.1).1)
    where
      go : (more : List (List ℕ)) (goals : List Lined) → AreProof R ((title ∷ []) ++ more) goals → ⊥
      go more goals (inl f) = never formats.First (f.spelled).0
      go more goals (inr f) = never formats.Second (f.spelled).0

  pub bad_no_count : IsFirstBad (ProofLines R) (codes "xduce-proof 2" ∷ []) 2
  bad_no_count = bad_end (ProofLines R) (codes "xduce-proof 2" ∷ []) 2 refl (λ w. let f = second_only R [] w.0 w.1 in (f.spelled).1) title_goes_on

  pub bad_count : (line : List ℕ) (ls : List (List ℕ)) → ((n : ℕ) → Follows (codes "types") SpellsNumber line n → ⊥) → IsFirstBad (ProofLines R) (codes "xduce-proof 2" ∷ line ∷ ls) 2
  bad_count line ls never =
      bad_here (ProofLines R) (codes "xduce-proof 2" ∷ line ∷ ls) 2 (omega arith) (omega arith) title_goes_on
      (λ w. let f = second_only R ((line ∷ []) ++ w.0) (w.1).0 (w.1).1 in never (length f.types) ((f.spelled).1).0)

  pub bad_type : (line : List ℕ) (typed ls : List (List ℕ)) (m k n : ℕ) → Follows (codes "types") SpellsNumber line m → length typed ≤ m → IsBadTypeLine R typed k → n ≡ 2 + k →
      IsFirstBad (ProofLines R) (codes "xduce-proof 2" ∷ line ∷ (typed ++ ls)) n
  bad_type line typed ls m k n count h b e =
      let p = (b.number).0 in
      let q = (b.number).1 in
      let l = length-append typed ls in
      let i = k - 1 in
      let il : i < length typed = omega (arith, p, q) in
      let k_is : k ≡ i + 1 = omega (arith, p) in
      let len : length b.types ≡ i = sym (many_types R (take i typed) 1 b.types b.before) ∙ length-take-le i typed (omega (arith, il)) in
      bad_here (ProofLines R) (codes "xduce-proof 2" ∷ line ∷ (typed ++ ls)) n (omega (arith, e)) (omega (arith, e, q, l))
      (subst (CanGoOn (ProofLines R)) (sym (front_is i (n - 1) (omega (arith, e, p)) (omega (arith, il)))) (types_go_on line (take i typed) b.types m count b.before (omega (arith, len, il, h))))
      (λ w. type_stops line (take i typed) b.types m (get_or typed i []) count b.before (omega (arith, len, il, h))
      (λ T t. b.here T (subst (λ j. IsTypeLine R (get_or typed i []) j T) (omega (arith, len, p)) t))
      (subst (CanGoOn (ProofLines R)) (front_is k n e q ∙ ap (λ x. codes "xduce-proof 2" ∷ line ∷ x) (ap (λ j. take j typed) k_is ∙ one_more_line typed i (get_or typed i []) il refl)) w))
    where
      front_is : (j o : ℕ) → o ≡ 2 + j → j ≤ length typed → take o (codes "xduce-proof 2" ∷ line ∷ (typed ++ ls)) ≡ codes "xduce-proof 2" ∷ line ∷ take j typed
      front_is j o f g = let z : o ≡ suc (suc j) = omega (arith, f) in ap (λ x. take x (codes "xduce-proof 2" ∷ line ∷ (typed ++ ls))) z ∙ ap (λ x. codes "xduce-proof 2" ∷ line ∷ x) (take-append-le j typed ls g)

  pub bad_short : (line : List ℕ) (typed : List (List ℕ)) (Ts : List Tree) (m n : ℕ) → Follows (codes "types") SpellsNumber line m → SpellParts {A = ℕ} R SpellsNumber typed (types_from 1 Ts) → length typed < m → n ≡ length typed + 3 →
      IsFirstBad (ProofLines R) (codes "xduce-proof 2" ∷ line ∷ typed) n
  bad_short line typed Ts m n count s h e =
      let k = many_types R typed 1 Ts s in
      bad_end (ProofLines R) (codes "xduce-proof 2" ∷ line ∷ typed) n (omega (arith, e))
      (λ w.
      let f = second_only R (line ∷ typed) w.0 w.1 in
      let t = f.spelled in
      let c = follows_one (codes "types") SpellsNumber line (length f.types) m number_one (t.1).0 count in
      let l = too_few R typed 1 f.types (goal_list f.blocks) (t.1).1 in
      omega (arith, c, l, h))
      (types_go_on line typed Ts m count s (omega (arith, k, h)))

-- ---- bytes
module _ (R : List ℕ → Tree → Type 0) (bytes : List ℕ) (lines : List (List ℕ)) (left : List ℕ) (cut : IsCut bytes lines left) where
  begins : (ls : List (List ℕ)) → CanGoOn (ProofLines R) ls → CanBegin R ls
  begins ls w = record { more = w.0; goals = (w.1).0; read = (w.1).1 }

  goes : (ls : List (List ℕ)) → CanBegin R ls → CanGoOn (ProofLines R) ls
  goes ls b = (b.more, (b.goals, b.read))

  its_lines : (goals : List Lined) → IsProofText R bytes goals → AreProof R lines goals × (left ≡ [])
  its_lines goals t =
      let c = same_cut bytes lines t.lines left [] cut t.cut in
      (subst (λ ls. AreProof R ls goals) (sym c.0) t.read, c.1)

  pub bad_line : (n : ℕ) → IsFirstBad (ProofLines R) lines n → IsFirstBadLine R bytes n
  bad_line n b = record {
    lines = lines;
    left = left;
    cut = cut;
    unread = λ goals t. b.unread (goals, (its_lines goals t).0);
    number = b.number;
    before = begins (take (n - 1) lines) b.before;
    here = go b.here;
  }
    where
      go : (n ≡ length lines + 1) ⊎ (CanGoOn (ProofLines R) (take n lines) → ⊥) → (n ≡ length lines + 1) ⊎ (CanBegin R (take n lines) → ⊥)
      go (inl e) = inl e
      go (inr never) = inr (λ w. never (goes (take n lines) w))

  -- the lines are those of a proof text, but the last one has no line feed
  pub bad_left : (n : ℕ) → n ≡ length lines + 1 → (left ≡ [] → ⊥) → (goals : List Lined) → AreProof R lines goals → IsFirstBadLine R bytes n
  bad_left n e some goals a = record {
    lines = lines;
    left = left;
    cut = cut;
    unread = λ gs t. some (its_lines gs t).1;
    number = (omega (arith, e), omega (arith, e));
    before =
        begins (take (n - 1) lines)
        (subst (CanGoOn (ProofLines R)) (sym (ap (λ m. take m lines) (let g : n - 1 ≡ length lines = omega (arith, e) in g) ∙ take-length lines)) ([], (goals, subst (λ ls. AreProof R ls goals) (sym (append-nil lines)) a)));
    here = inl e;
  }
