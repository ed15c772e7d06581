-- On what is still to be written.
use Rattle.std.proofs.Common.{◌≡◌, ℕ, ◌+◌, ◌*◌, ◌<◌, ◌≤◌, arith, Bool, true, false, cond, Bor, List, [], ◌∷◌, ◌++◌, map, length, refl, ap, sym, subst, ◌∙◌, append_assoc, append-nil}
use Rattle.std.specs.List.{AllByRecursion}
use Rattle.std.specs.Prelude.{codes, ◌==◌}
use Rattle.std.proofs.lemmas.List.{length-map}
use Rattle.std.proofs.lemmas.Bool.{eqb-true}
use Rattle.xd_doc.proofs.Lists.{all_push, all_but_last}
use Rattle.xd_syntax.specs.Tree.{Tree, Elem, Seq, Alt, Star, Plus, Opt, Val, seq_of, is_empty}
use Rattle.xd_syntax.specs.TreeForms.{alt_of, size}
use Rattle.xd_doc.specs.Classes.{LabelClass}
use Rattle.xd_syntax.specs.Table.{Row, Form, tree_at, form_tree, CanFollow, PartsBelow}
use Rattle.xd_syntax.specs.Types.{BelongsTo, tree, type_numbers, form_of}
use Rattle.xd_syntax.specs.declared.types.TypeForm.{TypeForm}
use Rattle.xd_syntax.specs.declared.types.TypeForm.TheVariants as forms
use Rattle.xd_syntax.specs.TypeText as text
use Rattle.xd_syntax.specs.declared.types.TypeId.{TypeId}
use Rattle.xd_type_text.specs.declared.level.Level.{Level}
use Rattle.xd_type_text.specs.declared.level.Level.TheVariants as level
use Rattle.xd_type_text.specs.declared.level.Joined.{Joined}
use Rattle.xd_type_text.specs.declared.level.Joined.TheVariants as joined
use Rattle.xd_type_text.specs.declared.waiting.Waiting.{Waiting}
use Rattle.xd_type_text.specs.declared.waiting.Waiting.TheVariants as waits
use Rattle.xd_type_text.specs.Waiting.{level_of, inner_level, last_level, mark_of, parts_text, piece_text, waiting_text, PieceBelongs, parts_work, piece_work, work, IsOpened, PushesParts}

pub size_some : (T : Tree) → 0 < size T
size_some (Elem c T) = omega arith
size_some (Seq T U) = omega arith
size_some (Alt T U) = omega arith
size_some (Star T) = omega arith
size_some (Plus T) = omega arith
size_some (Opt T) = omega arith
size_some (Val x T) = omega arith
size_some _ = omega arith

module _ (rows : List Row) where
  pub waiting_push : (ws : List Waiting) (w : Waiting) → waiting_text rows (ws ++ w ∷ []) ≡ piece_text rows w ++ waiting_text rows ws
  waiting_push [] w = sym (append-nil (piece_text rows w))
  waiting_push (v ∷ vs) w = ap (λ l. l ++ piece_text rows v) (waiting_push vs w) ∙ append_assoc (piece_text rows w) (waiting_text rows vs) (piece_text rows v)

  pub work_push : (ws : List Waiting) (w : Waiting) → work rows (ws ++ w ∷ []) ≡ piece_work rows w + work rows ws
  work_push [] w = refl
  work_push (v ∷ vs) w = let h = work_push vs w in omega (arith, h)

  -- the pieces of parts
  pub parts_pushed : (j : Joined) (v : Level) (m : ℕ) (id : TypeId) (ids : Bor (List TypeId)) (old : List Waiting) → level_of v ≡ inner_level j → m ≡ mark_of j →
      0 < length ids.now → AllByRecursion (BelongsTo rows) (id ∷ ids.now) → AllByRecursion (PieceBelongs rows) old →
      IsOpened rows (parts_text j (map (tree rows) (id ∷ ids.now))) (parts_work rows (id ∷ ids.now) + 1) [] [] old (((old ++ waits.Parts j ids ∷ []) ++ waits.Mark m ∷ []) ++ waits.Part v id ∷ [])
  parts_pushed j v m id ids old e f some a b = record {
    written =
        waiting_push ((old ++ waits.Parts j ids ∷ []) ++ waits.Mark m ∷ []) (waits.Part v id)
        ∙ ap (λ t. text.text_at_level (level_of v) (tree rows id) ++ t) (waiting_push (old ++ waits.Parts j ids ∷ []) (waits.Mark m) ∙ ap (λ t. m ∷ t) (waiting_push old (waits.Parts j ids)))
        ∙ ap (λ l. text.text_at_level l (tree rows id) ++ (m ∷ (parts_text j (map (tree rows) ids.now) ++ waiting_text rows old))) e
        ∙ ap (λ k. text.text_at_level (inner_level j) (tree rows id) ++ (k ∷ (parts_text j (map (tree rows) ids.now) ++ waiting_text rows old))) f
        ∙ shape j (tree rows id) ids.now some (waiting_text rows old);
    belong = all_push (PieceBelongs rows) ((old ++ waits.Parts j ids ∷ []) ++ waits.Mark m ∷ []) (waits.Part v id)
        (all_push (PieceBelongs rows) (old ++ waits.Parts j ids ∷ []) (waits.Mark m) (all_push (PieceBelongs rows) old (waits.Parts j ids) b a.1) tt) a.0;
    less =
        let x = work_push ((old ++ waits.Parts j ids ∷ []) ++ waits.Mark m ∷ []) (waits.Part v id) in
        let y = work_push (old ++ waits.Parts j ids ∷ []) (waits.Mark m) in
        let z = work_push old (waits.Parts j ids) in
        omega (arith, x, y, z);
  }
    where
      shape : (j : Joined) (T : Tree) (is : List TypeId) → 0 < length is → (back : List ℕ) →
          text.text_at_level (inner_level j) T ++ (mark_of j ∷ (parts_text j (map (tree rows) is) ++ back)) ≡ parts_text j (T ∷ map (tree rows) is) ++ back
      shape j T [] h back = absurd (omega (arith, h))
      shape j T (i ∷ is) h back = sym (append_assoc (text.text_at_level (inner_level j) T) (mark_of j ∷ parts_text j (map (tree rows) (i ∷ is))) back)

  pub last_pushed : (j : Joined) (v : Level) (id : TypeId) (old : List Waiting) → level_of v ≡ last_level j → BelongsTo rows id → AllByRecursion (PieceBelongs rows) old →
      IsOpened rows (parts_text j (map (tree rows) (id ∷ []))) (parts_work rows (id ∷ []) + 1) [] [] old (old ++ waits.Part v id ∷ [])
  last_pushed j v id old e a b = record {
    written = waiting_push old (waits.Part v id) ∙ ap (λ l. text.text_at_level l (tree rows id) ++ waiting_text rows old) e;
    belong = all_push (PieceBelongs rows) old (waits.Part v id) b a;
    less = let x = work_push old (waits.Part v id) in omega (arith, x);
  }

  -- parentheses, and what stands in them
  open_shape : (w : Bool) (out W s : List ℕ) → (out ++ cond w (40 ∷ []) []) ++ (s ++ (cond w (41 ∷ []) [] ++ W)) ≡ out ++ (text.parted w s ++ W)
  open_shape true out W s = simp (append_assoc, append-nil)
  open_shape false out W s = simp (append_assoc, append-nil)

  open_waits : (w : Bool) (old : List Waiting) → waiting_text rows (old ++ cond w (waits.Mark 41 ∷ []) []) ≡ cond w (41 ∷ []) [] ++ waiting_text rows old
  open_waits true old = waiting_push old (waits.Mark 41)
  open_waits false old = ap (waiting_text rows) (append-nil old)

  open_belongs : (w : Bool) (old : List Waiting) → AllByRecursion (PieceBelongs rows) old → AllByRecursion (PieceBelongs rows) (old ++ cond w (waits.Mark 41 ∷ []) [])
  open_belongs true old a = all_push (PieceBelongs rows) old (waits.Mark 41) a tt
  open_belongs false old a = subst (AllByRecursion (PieceBelongs rows)) (sym (append-nil old)) a

  open_work : (w : Bool) (old : List Waiting) → work rows (old ++ cond w (waits.Mark 41 ∷ []) []) ≤ 1 + work rows old
  open_work true old = let h = work_push old (waits.Mark 41) in omega (arith, h)
  open_work false old = let h : work rows (old ++ []) ≡ work rows old = ap (work rows) (append-nil old) in omega (arith, h)

  pub joined_opened : (w : Bool) (j : Joined) (ids : Bor (List TypeId)) (all : List ℕ) (most : ℕ) (out o1 : List ℕ) (old s1 s2 : List Waiting) →
      all ≡ text.parted w (parts_text j (map (tree rows) ids.now)) → parts_work rows ids.now + 2 < most → o1 ≡ out ++ cond w (40 ∷ []) [] → s1 ≡ old ++ cond w (waits.Mark 41 ∷ []) [] →
      s2 ≡ s1 ++ waits.Parts j ids ∷ [] → AllByRecursion (BelongsTo rows) ids.now → AllByRecursion (PieceBelongs rows) old → IsOpened rows all most out o1 old s2
  joined_opened w j ids all most out o1 old s1 s2 e less p q r a b =
      let s : s2 ≡ (old ++ cond w (waits.Mark 41 ∷ []) []) ++ waits.Parts j ids ∷ [] = r ∙ ap (λ l. l ++ waits.Parts j ids ∷ []) q in
      rw (s, p) (record {
        written =
            ap (λ l. (out ++ cond w (40 ∷ []) []) ++ l) (waiting_push (old ++ cond w (waits.Mark 41 ∷ []) []) (waits.Parts j ids) ∙ ap (λ l. parts_text j (map (tree rows) ids.now) ++ l) (open_waits w old))
            ∙ open_shape w out (waiting_text rows old) (parts_text j (map (tree rows) ids.now)) ∙ ap (λ l. out ++ (l ++ waiting_text rows old)) (sym e);
        belong = all_push (PieceBelongs rows) (old ++ cond w (waits.Mark 41 ∷ []) []) (waits.Parts j ids) (open_belongs w old b) a;
        less = let x = work_push (old ++ cond w (waits.Mark 41 ∷ []) []) (waits.Parts j ids) in let y = open_work w old in omega (arith, x, y, less);
      })

  pub postfix_opened : (w : Bool) (m : ℕ) (part : TypeId) (all : List ℕ) (most : ℕ) (out o1 : List ℕ) (old s2 : List Waiting) →
      all ≡ text.parted w (text.text_at_level text.primary_level (tree rows part) ++ m ∷ []) → 8 * size (tree rows part) + 2 < most → o1 ≡ out ++ cond w (40 ∷ []) [] →
      s2 ≡ ((old ++ cond w (waits.Mark 41 ∷ []) []) ++ waits.Mark m ∷ []) ++ waits.Part level.Primary part ∷ [] → BelongsTo rows part → AllByRecursion (PieceBelongs rows) old → IsOpened rows all most out o1 old s2
  postfix_opened w m part all most out o1 old s2 e less p q a b =
      let s0 = old ++ cond w (waits.Mark 41 ∷ []) [] in
      let T = text.text_at_level text.primary_level (tree rows part) in
      rw (q, p) (record {
        written =
            ap (λ l. (out ++ cond w (40 ∷ []) []) ++ l) (waiting_push (s0 ++ waits.Mark m ∷ []) (waits.Part level.Primary part)
            ∙ ap (λ l. T ++ l) (waiting_push s0 (waits.Mark m) ∙ ap (λ l. m ∷ l) (open_waits w old)) ∙ sym (append_assoc T (m ∷ []) (cond w (41 ∷ []) [] ++ waiting_text rows old)))
            ∙ open_shape w out (waiting_text rows old) (T ++ m ∷ []) ∙ ap (λ l. out ++ (l ++ waiting_text rows old)) (sym e);
        belong = all_push (PieceBelongs rows) (s0 ++ waits.Mark m ∷ []) (waits.Part level.Primary part) (all_push (PieceBelongs rows) s0 (waits.Mark m) (open_belongs w old b) tt) a;
        less = let x = work_push (s0 ++ waits.Mark m ∷ []) (waits.Part level.Primary part) in let y = work_push s0 (waits.Mark m) in let z = open_work w old in omega (arith, x, y, z, less);
      })

  -- an element, where b says whether its content is empty
  content_opened : (b : Bool) (c : List ℕ) (part : TypeId) (most : ℕ) (out : List ℕ) (old : List Waiting) → 8 * size (tree rows part) + 1 < most → BelongsTo rows part → AllByRecursion (PieceBelongs rows) old →
      IsOpened rows (c ++ codes "[" ++ cond b [] (text.text_at_level text.any_type_level (tree rows part)) ++ codes "]") most out ((out ++ c) ++ 91 ∷ []) old ((old ++ waits.Mark 93 ∷ []) ++ cond b [] (waits.Part level.Any part ∷ []))
  content_opened true c part most out old less a b = record {
    written = ap (λ l. ((out ++ c) ++ 91 ∷ []) ++ waiting_text rows l) (append-nil (old ++ waits.Mark 93 ∷ [])) ∙ ap (λ l. ((out ++ c) ++ 91 ∷ []) ++ l) (waiting_push old (waits.Mark 93)) ∙ simp (append_assoc, append-nil);
    belong = subst (AllByRecursion (PieceBelongs rows)) (sym (append-nil (old ++ waits.Mark 93 ∷ []))) (all_push (PieceBelongs rows) old (waits.Mark 93) b tt);
    less = let x : work rows ((old ++ waits.Mark 93 ∷ []) ++ []) ≡ work rows (old ++ waits.Mark 93 ∷ []) = ap (work rows) (append-nil (old ++ waits.Mark 93 ∷ [])) in let y = work_push old (waits.Mark 93) in omega (arith, x, y, less);
  }
  content_opened false c part most out old less a b = record {
    written = ap (λ l. ((out ++ c) ++ 91 ∷ []) ++ l) (waiting_push (old ++ waits.Mark 93 ∷ []) (waits.Part level.Any part) ∙ ap (λ l. text.text_at_level text.any_type_level (tree rows part) ++ l) (waiting_push old (waits.Mark 93))) ∙ simp (append_assoc, append-nil);
    belong = all_push (PieceBelongs rows) (old ++ waits.Mark 93 ∷ []) (waits.Part level.Any part) (all_push (PieceBelongs rows) old (waits.Mark 93) b tt) a;
    less = let x = work_push (old ++ waits.Mark 93 ∷ []) (waits.Part level.Any part) in let y = work_push old (waits.Mark 93) in omega (arith, x, y, less);
  }

  pub elem_opened : (v : text.Level) (T : Tree) (c : LabelClass) (part : TypeId) (out o1 o2 : List ℕ) (old s1 s2 : List Waiting) → T ≡ Elem c (tree rows part) →
      o1 ≡ out ++ text.class_text c → o2 ≡ o1 ++ 91 ∷ [] → s1 ≡ old ++ waits.Mark 93 ∷ [] → s2 ≡ s1 ++ cond (is_empty (tree rows part)) [] (waits.Part level.Any part ∷ []) →
      BelongsTo rows part → AllByRecursion (PieceBelongs rows) old → IsOpened rows (text.text_at_level v T) (8 * size T) out o2 old s2
  elem_opened v T c part out o1 o2 old s1 s2 e p q r s a b =
      let x : o2 ≡ (out ++ text.class_text c) ++ 91 ∷ [] = q ∙ ap (λ l. l ++ 91 ∷ []) p in
      let y : s2 ≡ (old ++ waits.Mark 93 ∷ []) ++ cond (is_empty (tree rows part)) [] (waits.Part level.Any part ∷ []) = s ∙ ap (λ l. l ++ cond (is_empty (tree rows part)) [] (waits.Part level.Any part ∷ [])) r in
      rw (e, x, y) (content_opened (is_empty (tree rows part)) (text.class_text c) part (8 * size (Elem c (tree rows part))) out old (omega arith) a b)

  -- ---- the parts of a node
  pub parts_there : (n : ℕ) (ids : List TypeId) → n < length rows → AllByRecursion (λ i. i < n) (type_numbers ids) → AllByRecursion (BelongsTo rows) ids
  parts_there n [] h a = tt
  parts_there n (i ∷ is) h a = (let k = a.0 in omega (arith, h, k), parts_there n is h a.1)

  same_parts : (ids : List TypeId) → map (tree_at rows) (type_numbers ids) ≡ map (tree rows) ids
  same_parts [] = refl
  same_parts (i ∷ is) = ap (λ l. tree rows i ∷ l) (same_parts is)

  seq_rest : (T : Tree) (Ts : List Tree) → text.text_at_level text.sequence_level (seq_of (T ∷ Ts)) ≡ parts_text joined.Sequence (T ∷ Ts)
  seq_rest T [] = refl
  seq_rest T (U ∷ Us) = append_assoc (text.text_at_level text.postfix_level T) (44 ∷ []) (text.text_at_level text.sequence_level (seq_of (U ∷ Us))) ∙ ap (λ l. text.text_at_level text.postfix_level T ++ 44 ∷ l) (seq_rest U Us)

  alt_rest : (T : Tree) (Ts : List Tree) → text.text_at_level text.any_type_level (alt_of (T ∷ Ts)) ≡ parts_text joined.Alternative (T ∷ Ts)
  alt_rest T [] = refl
  alt_rest T (U ∷ Us) = append_assoc (text.text_at_level text.sequence_level T) (124 ∷ []) (text.text_at_level text.any_type_level (alt_of (U ∷ Us))) ∙ ap (λ l. text.text_at_level text.sequence_level T ++ 124 ∷ l) (alt_rest U Us)

  seq_whole : (v : text.Level) (Ts : List Tree) → 2 ≤ length Ts → text.text_at_level v (seq_of Ts) ≡ text.parted (text.sequence_wants v) (parts_text joined.Sequence Ts)
  seq_whole v [] h = absurd (omega (arith, h))
  seq_whole v (T ∷ []) h = absurd (omega (arith, h))
  seq_whole v (T ∷ (U ∷ Us)) h = ap (text.parted (text.sequence_wants v)) (append_assoc (text.text_at_level text.postfix_level T) (44 ∷ []) (text.text_at_level text.sequence_level (seq_of (U ∷ Us))) ∙ ap (λ l. text.text_at_level text.postfix_level T ++ 44 ∷ l) (seq_rest U Us))

  alt_whole : (v : text.Level) (Ts : List Tree) → 2 ≤ length Ts → text.text_at_level v (alt_of Ts) ≡ text.parted (text.alternative_wants v) (parts_text joined.Alternative Ts)
  alt_whole v [] h = absurd (omega (arith, h))
  alt_whole v (T ∷ []) h = absurd (omega (arith, h))
  alt_whole v (T ∷ (U ∷ Us)) h = ap (text.parted (text.alternative_wants v)) (append_assoc (text.text_at_level text.sequence_level T) (124 ∷ []) (text.text_at_level text.any_type_level (alt_of (U ∷ Us))) ∙ ap (λ l. text.text_at_level text.sequence_level T ++ 124 ∷ l) (alt_rest U Us))

  seq_work : (i : TypeId) (is : List TypeId) → parts_work rows (i ∷ is) + 6 * length is ≤ 8 * size (seq_of (map (tree rows) (i ∷ is))) + 2
  seq_work i [] = omega arith
  seq_work i (j ∷ js) = let h = seq_work j js in omega (arith, h)

  alt_work : (i : TypeId) (is : List TypeId) → parts_work rows (i ∷ is) + 6 * length is ≤ 8 * size (alt_of (map (tree rows) (i ∷ is))) + 2
  alt_work i [] = omega arith
  alt_work i (j ∷ js) = let h = alt_work j js in omega (arith, h)

  two_seq : (is : List TypeId) → 2 ≤ length is → parts_work rows is + 2 < 8 * size (seq_of (map (tree rows) is))
  two_seq [] h = absurd (omega (arith, h))
  two_seq (i ∷ []) h = absurd (omega (arith, h))
  two_seq (i ∷ (j ∷ js)) h = let k = seq_work i (j ∷ js) in omega (arith, k)

  two_alt : (is : List TypeId) → 2 ≤ length is → parts_work rows is + 2 < 8 * size (alt_of (map (tree rows) is))
  two_alt [] h = absurd (omega (arith, h))
  two_alt (i ∷ []) h = absurd (omega (arith, h))
  two_alt (i ∷ (j ∷ js)) h = let k = alt_work i (j ∷ js) in omega (arith, k)

  seq_open : (v : text.Level) (T : Tree) (n : ℕ) (ids : Bor (List TypeId)) (out o1 : List ℕ) (old s1 s2 : List Waiting) → T ≡ seq_of (map (tree_at rows) (type_numbers ids.now)) → 2 ≤ length (type_numbers ids.now) →
      n < length rows → AllByRecursion (λ i. i < n) (type_numbers ids.now) → o1 ≡ out ++ cond (text.sequence_wants v) (40 ∷ []) [] → s1 ≡ old ++ cond (text.sequence_wants v) (waits.Mark 41 ∷ []) [] →
      s2 ≡ s1 ++ waits.Parts joined.Sequence ids ∷ [] → AllByRecursion (PieceBelongs rows) old → IsOpened rows (text.text_at_level v T) (8 * size T) out o1 old s2
  seq_open v T n ids out o1 old s1 s2 e two h below p q r b =
      let f : T ≡ seq_of (map (tree rows) ids.now) = e ∙ ap seq_of (same_parts ids.now) in
      let k : 2 ≤ length ids.now = (let l : length (type_numbers ids.now) ≡ length ids.now = length-map ids.now (λ (i : TypeId). i.at) in omega (arith, l, two)) in
      let m : 2 ≤ length (map (tree rows) ids.now) = (let l : length (map (tree rows) ids.now) ≡ length ids.now = length-map ids.now (tree rows) in omega (arith, l, k)) in
      rw f (joined_opened (text.sequence_wants v) joined.Sequence ids _ _ out o1 old s1 s2 (seq_whole v (map (tree rows) ids.now) m) (two_seq ids.now k) p q r (parts_there n ids.now h below) b)

  alt_open : (v : text.Level) (T : Tree) (n : ℕ) (ids : Bor (List TypeId)) (out o1 : List ℕ) (old s1 s2 : List Waiting) → T ≡ alt_of (map (tree_at rows) (type_numbers ids.now)) → 2 ≤ length (type_numbers ids.now) →
      n < length rows → AllByRecursion (λ i. i < n) (type_numbers ids.now) → o1 ≡ out ++ cond (text.alternative_wants v) (40 ∷ []) [] → s1 ≡ old ++ cond (text.alternative_wants v) (waits.Mark 41 ∷ []) [] →
      s2 ≡ s1 ++ waits.Parts joined.Alternative ids ∷ [] → AllByRecursion (PieceBelongs rows) old → IsOpened rows (text.text_at_level v T) (8 * size T) out o1 old s2
  alt_open v T n ids out o1 old s1 s2 e two h below p q r b =
      let f : T ≡ alt_of (map (tree rows) ids.now) = e ∙ ap alt_of (same_parts ids.now) in
      let k : 2 ≤ length ids.now = (let l : length (type_numbers ids.now) ≡ length ids.now = length-map ids.now (λ (i : TypeId). i.at) in omega (arith, l, two)) in
      let m : 2 ≤ length (map (tree rows) ids.now) = (let l : length (map (tree rows) ids.now) ≡ length ids.now = length-map ids.now (tree rows) in omega (arith, l, k)) in
      rw f (joined_opened (text.alternative_wants v) joined.Alternative ids _ _ out o1 old s1 s2 (alt_whole v (map (tree rows) ids.now) m) (two_alt ids.now k) p q r (parts_there n ids.now h below) b)

-- ---- a node that is not the form Empty is no empty type
seq_filled : (Ts : List Tree) → 2 ≤ length Ts → is_empty (seq_of Ts) ≡ false
seq_filled [] h = absurd (omega (arith, h))
seq_filled (T ∷ []) h = absurd (omega (arith, h))
seq_filled (T ∷ (U ∷ Us)) h = refl

alt_filled : (Ts : List Tree) → 2 ≤ length Ts → is_empty (alt_of Ts) ≡ false
alt_filled [] h = absurd (omega (arith, h))
alt_filled (T ∷ []) h = absurd (omega (arith, h))
alt_filled (T ∷ (U ∷ Us)) h = refl

two_mapped : (t : ℕ → Tree) (is : List ℕ) → 2 ≤ length is → 2 ≤ length (map t is)
two_mapped t is h = let l : length (map t is) ≡ length is = length-map is t in omega (arith, l, h)

form_filled : (t : ℕ → Tree) (older : List Row) (f : TypeForm) → (f ≡ forms.Empty → ⊥) → CanFollow false older (form_of f) → is_empty (form_tree t (form_of f)) ≡ false
form_filled t older forms.Empty n m = absurd (n refl)
form_filled t older forms.Text n m = refl
form_filled t older (forms.Words w) n m = refl
form_filled t older (forms.Name x) n m = refl
form_filled t older (forms.Elem c i) n m = refl
form_filled t older (forms.Seq is) n m = seq_filled (map t (type_numbers is.items)) (two_mapped t (type_numbers is.items) m.0)
form_filled t older (forms.Alt is) n m = alt_filled (map t (type_numbers is.items)) (two_mapped t (type_numbers is.items) m.0)
form_filled t older (forms.Star i) n m = refl
form_filled t older (forms.Plus i) n m = refl
form_filled t older (forms.Opt i) n m = refl

pub node_filled : (t : ℕ → Tree) (older : List Row) (T : Tree) (f : TypeForm) (g : Form) → (f ≡ forms.Empty → ⊥) → CanFollow false older g → form_of f ≡ g → T ≡ form_tree t g → is_empty T ≡ false
node_filled t older T f g n m e p =
    let h : form_of f ≡ g = e in
    ap is_empty (p ∙ ap (form_tree t) (sym h)) ∙ form_filled t older f n (subst (CanFollow false older) (sym h) m)

pub no_others : {A : Type 0} (xs ys : List A) (x : A) → xs ≡ x ∷ ys → true ≡ (length ys == 0) → xs ≡ x ∷ []
no_others xs [] x e h = e
no_others xs (y ∷ ys) x e h = absurd (let z = eqb-true (length (y ∷ ys)) 0 (sym h) in omega (arith, z))

pub push_last : (j : Joined) (v : Level) (ids : List TypeId) (id : TypeId) (old new : List Waiting) → ids ≡ id ∷ [] → level_of v ≡ last_level j → new ≡ old ++ waits.Part v id ∷ [] → PushesParts j ids old new
push_last j v ids id old new e f g = rw (e, g) (λ rows a b. last_pushed rows j v id old f a.0 b)

pub push_many : (j : Joined) (v : Level) (m : ℕ) (all : List TypeId) (id : TypeId) (ids : Bor (List TypeId)) (old s1 s2 new : List Waiting) → all ≡ id ∷ ids.now → 0 < length ids.now → level_of v ≡ inner_level j → m ≡ mark_of j →
    s1 ≡ old ++ waits.Parts j ids ∷ [] → s2 ≡ s1 ++ waits.Mark m ∷ [] → new ≡ s2 ++ waits.Part v id ∷ [] → PushesParts j all old new
push_many j v m all id ids old s1 s2 new e some f g p q r =
    let n : new ≡ ((old ++ waits.Parts j ids ∷ []) ++ waits.Mark m ∷ []) ++ waits.Part v id ∷ [] = r ∙ ap (λ l. l ++ waits.Part v id ∷ []) (q ∙ ap (λ l. l ++ waits.Mark m ∷ []) p) in
    rw (e, n) (λ rows a b. parts_pushed rows j v m id ids old f g some a b)

-- ---- a turn of the loop
module _ (rows : List Row) where
  pub opened_behind : (t : List ℕ) (m : ℕ) (out : List ℕ) (old new : List Waiting) → IsOpened rows t m [] [] old new → IsOpened rows t m out out old new
  opened_behind t m out old new o = record { written = ap (λ l. out ++ l) o.written; belong = o.belong; less = o.less }

  pub mark_opened : (b : ℕ) (out new_out : List ℕ) (old : List Waiting) → new_out ≡ out ++ b ∷ [] → AllByRecursion (PieceBelongs rows) old → IsOpened rows (b ∷ []) 1 out new_out old old
  mark_opened b out new_out old e a = record { written = ap (λ l. l ++ waiting_text rows old) e ∙ append_assoc out (b ∷ []) (waiting_text rows old); belong = a; less = omega arith }

  pub popped : (stack front : List Waiting) (p q : Waiting) → stack ≡ front ++ p ∷ [] → p ≡ q → AllByRecursion (PieceBelongs rows) stack → AllByRecursion (PieceBelongs rows) front × PieceBelongs rows q
  popped stack front p q e f a = let r = all_but_last (PieceBelongs rows) front p (subst (AllByRecursion (PieceBelongs rows)) e a) in (r.0, subst (PieceBelongs rows) f r.1)

  pub turn_written : (all made new_made : List ℕ) (stack front new : List Waiting) (p q : Waiting) (m : ℕ) → stack ≡ front ++ p ∷ [] → p ≡ q → made ++ waiting_text rows stack ≡ all →
      IsOpened rows (piece_text rows q) m made new_made front new → new_made ++ waiting_text rows new ≡ all
  turn_written all made new_made stack front new p q m e f w o =
      o.written ∙ ap (λ x. made ++ (piece_text rows x ++ waiting_text rows front)) (sym f) ∙ ap (λ l. made ++ l) (sym (waiting_push rows front p)) ∙ ap (λ l. made ++ waiting_text rows l) (sym e) ∙ w

  pub turn_less : (made new_made : List ℕ) (stack front new : List Waiting) (p q : Waiting) → stack ≡ front ++ p ∷ [] → p ≡ q →
      IsOpened rows (piece_text rows q) (piece_work rows q) made new_made front new → work rows new < work rows stack
  turn_less made new_made stack front new p q e f o =
      let l = o.less in
      let h : work rows stack ≡ piece_work rows q + work rows front = ap (work rows) e ∙ work_push rows front p ∙ ap (λ x. piece_work rows x + work rows front) f in
      omega (arith, h, l)

-- ---- what a node is
pub shape_is : (t : ℕ → Tree) (T : Tree) (g : Form) (f h : TypeForm) → T ≡ form_tree t g → form_of f ≡ g → f ≡ h → T ≡ form_tree t (form_of h)
shape_is t T g f h e p q = e ∙ ap (form_tree t) (sym p) ∙ ap (λ x. form_tree t (form_of x)) q

pub parts_are : (n : ℕ) (g : Form) (f h : TypeForm) → PartsBelow n g → form_of f ≡ g → f ≡ h → PartsBelow n (form_of h)
parts_are n g f h b p q = subst (λ x. PartsBelow n (form_of x)) q (let e : g ≡ form_of f = sym p in subst (PartsBelow n) e b)

pub merged_are : (older : List Row) (g : Form) (f h : TypeForm) → CanFollow false older g → form_of f ≡ g → f ≡ h → CanFollow false older (form_of h)
merged_are older g f h b p q = subst (λ x. CanFollow false older (form_of x)) q (let e : g ≡ form_of f = sym p in subst (CanFollow false older) e b)

pub repeated_opened : (rows : List Row) (w : Bool) (m : ℕ) (part : TypeId) (n : ℕ) (all : List ℕ) (most : ℕ) (out o1 : List ℕ) (old s2 : List Waiting) →
    all ≡ text.parted w (text.text_at_level text.primary_level (tree rows part) ++ m ∷ []) → most ≡ 8 * (size (tree rows part) + 1) → o1 ≡ out ++ cond w (40 ∷ []) [] →
    s2 ≡ ((old ++ cond w (waits.Mark 41 ∷ []) []) ++ waits.Mark m ∷ []) ++ waits.Part level.Primary part ∷ [] → n < length rows → part.at < n → AllByRecursion (PieceBelongs rows) old → IsOpened rows all most out o1 old s2
repeated_opened rows w m part n all most out o1 old s2 e f p q h below b = postfix_opened rows w m part all most out o1 old s2 e (omega (arith, f)) p q (omega (arith, h, below)) b

module _ (rows : List Row) where
  pub seq_opened : (v : text.Level) (T : Tree) (n : ℕ) (items : List TypeId) (ids : Bor (List TypeId)) (out o1 : List ℕ) (old s1 s2 : List Waiting) → ids.now ≡ items → T ≡ seq_of (map (tree_at rows) (type_numbers items)) → 2 ≤ length (type_numbers items) →
      n < length rows → AllByRecursion (λ i. i < n) (type_numbers items) → o1 ≡ out ++ cond (text.sequence_wants v) (40 ∷ []) [] → s1 ≡ old ++ cond (text.sequence_wants v) (waits.Mark 41 ∷ []) [] →
      s2 ≡ s1 ++ waits.Parts joined.Sequence ids ∷ [] → AllByRecursion (PieceBelongs rows) old → IsOpened rows (text.text_at_level v T) (8 * size T) out o1 old s2
  seq_opened v T n items ids out o1 old s1 s2 e t two h below p q r b =
      let f : items ≡ ids.now = sym e in
      seq_open rows v T n ids out o1 old s1 s2 (t ∙ ap (λ is. seq_of (map (tree_at rows) (type_numbers is))) f) (subst (λ is. 2 ≤ length (type_numbers is)) f two) h (subst (λ is. AllByRecursion (λ i. i < n) (type_numbers is)) f below) p q r b

  pub alt_opened : (v : text.Level) (T : Tree) (n : ℕ) (items : List TypeId) (ids : Bor (List TypeId)) (out o1 : List ℕ) (old s1 s2 : List Waiting) → ids.now ≡ items → T ≡ alt_of (map (tree_at rows) (type_numbers items)) → 2 ≤ length (type_numbers items) →
      n < length rows → AllByRecursion (λ i. i < n) (type_numbers items) → o1 ≡ out ++ cond (text.alternative_wants v) (40 ∷ []) [] → s1 ≡ old ++ cond (text.alternative_wants v) (waits.Mark 41 ∷ []) [] →
      s2 ≡ s1 ++ waits.Parts joined.Alternative ids ∷ [] → AllByRecursion (PieceBelongs rows) old → IsOpened rows (text.text_at_level v T) (8 * size T) out o1 old s2
  alt_opened v T n items ids out o1 old s1 s2 e t two h below p q r b =
      let f : items ≡ ids.now = sym e in
      alt_open rows v T n ids out o1 old s1 s2 (t ∙ ap (λ is. alt_of (map (tree_at rows) (type_numbers is))) f) (subst (λ is. 2 ≤ length (type_numbers is)) f two) h (subst (λ is. AllByRecursion (λ i. i < n) (type_numbers is)) f below) p q r b
