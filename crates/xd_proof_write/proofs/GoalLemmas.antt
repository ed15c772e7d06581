-- Goals, as their lines are appended while their types get numbers.
use Rattle.std.proofs.Common.{◌≡◌, ℕ, ◌+◌, ◌<◌, arith, List, [], ◌∷◌, ◌++◌, map, length, take, length-take, get_or, ap, sym, subst, ◌∙◌, append_assoc, append-nil}
use Rattle.std.specs.Prelude.{codes, flat_map}
use Rattle.std.specs.Str.{bytes_eq}
use Rattle.std.proofs.lemmas.Grind.{flat_map-append}
use Rattle.std.proofs.lemmas.List.Sums.{fold-append}
use Rattle.std.proofs.lemmas.List.{take_more, map_push}
use Rattle.xd_syntax.specs.Table.{Row}
use Rattle.xd_syntax.specs.declared.types.TypeId.{TypeId}
use Rattle.xd_proof.specs.declared.proof.ProofGoal.{ProofGoal}
use Rattle.xd_proof_write.specs.SecondText.{number_among}
use Rattle.xd_proof_write.specs.Written.{number_line, type_lines, text_at, right_lines, goal_lines, goals_lines, goal_texts, with_text, with_texts, proof_lines}
use Rattle.xd_proof_write.proofs.OnceLemmas.{all_grow}

-- What is so of numbers among texts, whatever is added, stays so.
pub kept_numbers : (F : (List ℕ → ℕ) → Type 0) (old new ts : List (List ℕ)) → new ≡ with_texts old ts → ((more : List (List ℕ)) → F (number_among bytes_eq (old ++ more))) →
    (more : List (List ℕ)) → F (number_among bytes_eq (new ++ more))
kept_numbers F old new ts e h more =
    let g = all_grow bytes_eq ts old in
    subst (λ texts. F (number_among bytes_eq texts)) (sym (ap (λ texts. texts ++ more) (e ∙ g.1) ∙ append_assoc old g.0 more)) (h (g.0 ++ more))

one_more : {A : Type 0} (xs : List A) (i : ℕ) (x : A) → i < length xs → get_or xs i x ≡ x → take (i + 1) xs ≡ take i xs ++ x ∷ []
one_more xs i x h e = take_more xs i x h ∙ ap (λ y. take i xs ++ y ∷ []) e

module _ (rows : List Row) where
  -- ---- a right more
  pub right_texts : (ids : List TypeId) (i : ℕ) (id : TypeId) (seen mid new : List (List ℕ)) → i < length ids → get_or ids i id ≡ id →
      mid ≡ with_texts seen (map (text_at rows) (take i ids)) → new ≡ with_text mid (text_at rows id) → new ≡ with_texts seen (map (text_at rows) (take (i + 1) ids))
  right_texts ids i id seen mid new h g e f =
      f ∙ ap (λ texts. with_text texts (text_at rows id)) e ∙ sym (fold-append with_text seen (map (text_at rows) (take i ids)) (text_at rows id ∷ []))
      ∙ ap (with_texts seen) (sym (ap (map (text_at rows)) (one_more ids i id h g) ∙ map_push (text_at rows) (take i ids) id))

  pub right_more : (ids : List TypeId) (i : ℕ) (id : TypeId) (mid new : List (List ℕ)) (old_out mid_out new_out : List ℕ) (m : ℕ) → i < length ids → get_or ids i id ≡ id →
      new ≡ with_text mid (text_at rows id) →
      ((more : List (List ℕ)) → mid_out ≡ old_out ++ right_lines rows (number_among bytes_eq (mid ++ more)) (take i ids)) →
      ((more : List (List ℕ)) → number_among bytes_eq (new ++ more) (text_at rows id) ≡ m) → new_out ≡ mid_out ++ number_line (codes "right") m →
      (more : List (List ℕ)) → new_out ≡ old_out ++ right_lines rows (number_among bytes_eq (new ++ more)) (take (i + 1) ids)
  right_more ids i id mid new old_out mid_out new_out m h g e a n w more =
      let N = number_among bytes_eq (new ++ more) in
      let b = kept_numbers (λ N. mid_out ≡ old_out ++ right_lines rows N (take i ids)) mid new (text_at rows id ∷ []) e a more in
      w ∙ ap (λ r. mid_out ++ number_line (codes "right") r) (sym (n more)) ∙ ap (λ r. r ++ number_line (codes "right") (N (text_at rows id))) b
      ∙ append_assoc old_out (right_lines rows N (take i ids)) (number_line (codes "right") (N (text_at rows id)))
      ∙ ap (λ r. old_out ++ r)
      (ap (λ r. right_lines rows N (take i ids) ++ r) (sym (append-nil (number_line (codes "right") (N (text_at rows id)))))
      ∙ sym (flat_map-append (λ id. number_line (codes "right") (N (text_at rows id))) (take i ids) (id ∷ []))
      ∙ ap (right_lines rows N) (sym (one_more ids i id h g)))

  -- ---- a goal
  pub goal_shape : (o a b c d e : List ℕ) → ((((o ++ a) ++ b) ++ c) ++ d) ++ e ≡ o ++ (a ++ (b ++ (c ++ (d ++ e))))
  goal_shape o a b c d e = simp append_assoc

  pub goal_joined : (g : ProofGoal) (k m : ℕ) (first last : List (List ℕ)) (o mid out d e : List ℕ) → last ≡ with_texts first (map (text_at rows) (g.rights).items) →
      ((more : List (List ℕ)) → number_among bytes_eq (first ++ more) (text_at rows g.left) ≡ m) →
      mid ≡ (o ++ number_line (codes "goal") k) ++ number_line (codes "left") m →
      ((more : List (List ℕ)) → out ≡ mid ++ right_lines rows (number_among bytes_eq (last ++ more)) (g.rights).items) →
      (more : List (List ℕ)) → (out ++ d) ++ e
      ≡ o ++ (number_line (codes "goal") k ++ (number_line (codes "left") (number_among bytes_eq (last ++ more) (text_at rows g.left)) ++ (right_lines rows (number_among bytes_eq (last ++ more)) (g.rights).items ++ (d ++ e))))
  goal_joined g k m first last o mid out d e t n w a more =
      let N = number_among bytes_eq (last ++ more) in
      let l = kept_numbers (λ N. N (text_at rows g.left) ≡ m) first last (map (text_at rows) (g.rights).items) t n more in
      ap (λ r. (r ++ d) ++ e) (a more ∙ ap (λ r. r ++ right_lines rows N (g.rights).items) (w ∙ ap (λ x. (o ++ number_line (codes "goal") k) ++ number_line (codes "left") x) (sym l)))
      ∙ goal_shape o (number_line (codes "goal") k) (number_line (codes "left") (N (text_at rows g.left))) (right_lines rows N (g.rights).items) d e

  -- ---- a goal more
  goals-push : (N : List ℕ → ℕ) (k : ℕ) (gs : List ProofGoal) (g : ProofGoal) → goals_lines rows N k (gs ++ g ∷ []) ≡ goals_lines rows N k gs ++ goal_lines rows N (k + length gs) g
  goals-push N k [] g = append-nil (goal_lines rows N k g) ∙ ap (λ n. goal_lines rows N n g) (omega arith)
  goals-push N k (h ∷ gs) g =
      ap (λ r. goal_lines rows N k h ++ r) (goals-push N (k + 1) gs g)
      ∙ sym (append_assoc (goal_lines rows N k h) (goals_lines rows N (k + 1) gs) (goal_lines rows N ((k + 1) + length gs) g))
      ∙ ap (λ n. (goal_lines rows N k h ++ goals_lines rows N (k + 1) gs) ++ goal_lines rows N n g) (omega arith)

  pub more_texts : (gs : List ProofGoal) (i : ℕ) (g : ProofGoal) (seen mid new : List (List ℕ)) → i < length gs → get_or gs i g ≡ g →
      mid ≡ with_texts seen (flat_map (goal_texts rows) (take i gs)) → new ≡ with_texts mid (goal_texts rows g) → new ≡ with_texts seen (flat_map (goal_texts rows) (take (i + 1) gs))
  more_texts gs i g seen mid new h s e f =
      f ∙ ap (λ texts. with_texts texts (goal_texts rows g)) e ∙ sym (fold-append with_text seen (flat_map (goal_texts rows) (take i gs)) (goal_texts rows g))
      ∙ ap (with_texts seen)
      (ap (λ r. flat_map (goal_texts rows) (take i gs) ++ r) (sym (append-nil (goal_texts rows g))) ∙ sym (flat_map-append (goal_texts rows) (take i gs) (g ∷ []))
      ∙ ap (flat_map (goal_texts rows)) (sym (one_more gs i g h s)))

  pub goal_more : (gs : List ProofGoal) (i : ℕ) (g : ProofGoal) (mid new : List (List ℕ)) (old_out mid_out new_out : List ℕ) → i < length gs → get_or gs i g ≡ g →
      new ≡ with_texts mid (goal_texts rows g) →
      ((more : List (List ℕ)) → mid_out ≡ old_out ++ goals_lines rows (number_among bytes_eq (mid ++ more)) 1 (take i gs)) →
      ((more : List (List ℕ)) → new_out ≡ mid_out ++ goal_lines rows (number_among bytes_eq (new ++ more)) (i + 1) g) →
      (more : List (List ℕ)) → new_out ≡ old_out ++ goals_lines rows (number_among bytes_eq (new ++ more)) 1 (take (i + 1) gs)
  goal_more gs i g mid new old_out mid_out new_out h s e a w more =
      let N = number_among bytes_eq (new ++ more) in
      let b = kept_numbers (λ N. mid_out ≡ old_out ++ goals_lines rows N 1 (take i gs)) mid new (goal_texts rows g) e a more in
      let short : length (take i gs) ≡ i = simp length-take (omega arith) in
      w more ∙ ap (λ r. r ++ goal_lines rows N (i + 1) g) b
      ∙ append_assoc old_out (goals_lines rows N 1 (take i gs)) (goal_lines rows N (i + 1) g)
      ∙ ap (λ r. old_out ++ r)
      (ap (λ n. goals_lines rows N 1 (take i gs) ++ goal_lines rows N n g) (omega (arith, short))
      ∙ sym (goals-push N 1 (take i gs) g) ∙ ap (goals_lines rows N 1) (sym (one_more gs i g h s)))

  -- ---- the whole text
  pub text_joined : (gs : List ProofGoal) (texts : List (List ℕ)) (n : ℕ) (title o1 o2 o3 o4 o5 body : List ℕ) → texts ≡ with_texts [] (flat_map (goal_texts rows) gs) → n ≡ length texts →
      title ≡ codes "xduce-proof 2\n" → o1 ≡ title ++ number_line (codes "types") n → o2 ≡ o1 ++ type_lines 1 texts → o3 ≡ o2 ++ number_line (codes "goals") (length gs) → o4 ≡ o3 ++ body →
      body ≡ goals_lines rows (number_among bytes_eq (texts ++ [])) 1 gs → o5 ≡ o4 ++ codes "end\n" → o5 ≡ proof_lines rows gs
  text_joined gs texts n title o1 o2 o3 o4 o5 body all many t a b c d lines e =
      let first = number_line (codes "types") (length texts) in
      let goals = number_line (codes "goals") (length gs) in
      let f : o1 ≡ codes "xduce-proof 2\n" ++ first = a ∙ ap (λ k. title ++ number_line (codes "types") k) many ∙ ap (λ x. x ++ first) t in
      let g = lines ∙ ap (λ ts. goals_lines rows (number_among bytes_eq ts) 1 gs) (append-nil texts) in
      e ∙ ap (λ o. o ++ codes "end\n") (d ∙ ap (λ o. o ++ body) (c ∙ ap (λ o. o ++ goals) (b ∙ ap (λ o. o ++ type_lines 1 texts) f)))
      ∙ goal_shape (codes "xduce-proof 2\n") first (type_lines 1 texts) goals body (codes "end\n")
      ∙ ap (λ r. codes "xduce-proof 2\n" ++ (first ++ (type_lines 1 texts ++ (goals ++ (r ++ codes "end\n"))))) g
      ∙ ap (λ ts. codes "xduce-proof 2\n" ++ (number_line (codes "types") (length ts) ++ (type_lines 1 ts ++ (goals ++ (goals_lines rows (number_among bytes_eq ts) 1 gs ++ codes "end\n"))))) all
