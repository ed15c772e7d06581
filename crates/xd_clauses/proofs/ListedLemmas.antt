-- The variables of all patterns are listed at their moves by their numbers.
use Rattle.std.proofs.Common.{◌≡◌, ℕ, ◌<◌, ◌&&◌, nat_eq, nat_lt, true, List, [], length, get_or, arith, refl, ap, sym, ◌∙◌}
use Rattle.std.specs.List.{Contains, IsDistinct, list_any}
use Rattle.std.specs.Str.{bytes_eq}
use Rattle.std.proofs.lemmas.Bool.{eqb-true}
use Rattle.std.proofs.lemmas.Bool.Decides.{nat_tests}
use Rattle.std.proofs.lemmas.Map.Views.{Contains-from_any}
use Rattle.xd_doc.proofs.Bools.{and_left, and_right}
use Rattle.xd_auto.specs.declared.auto.State.{State}
use Rattle.xd_auto.specs.declared.kind.MoveKind.{MoveKind}
use Rattle.xd_auto.specs.declared.kind.MoveKind.TheVariants.{Label, Text}
use Rattle.xd_bind.specs.Owning.{is_owned}
use Rattle.xd_syntax.specs.Words.{has_word}
use Rattle.xd_patterns.specs.CompiledProgram.{marking_of_program, words_of_program}
use Rattle.xd_patterns.specs.Marked.{marks_at}
use Rattle.xd_patterns.specs.Variables.{words_of}
use Rattle.xd_patterns.specs.declared.compiled.CompiledProgram.{CompiledProgram}
use Rattle.xd_patterns.proofs.VariableLemmas.{number_held}
use Rattle.xd_clauses.specs.Compiled.{word_moves}

-- whether the move is the variable's, by its word
word_owned : (m : CompiledProgram) (ws : List (List ℕ)) (x : ℕ) (kind : MoveKind) (s : State) (n : ℕ) →
    is_owned (word_moves m ws x) kind s n ≡ (nat_lt x (length ws) && has_word (marks_at (marking_of_program m s) kind n) (get_or ws x []))
word_owned m ws x Label s n = refl
word_owned m ws x Text s n = refl

module _ (m : CompiledProgram) (distinct : IsDistinct bytes_eq (words_of_program m)) (s : State) (kind : MoveKind) (n : ℕ) (ns : List ℕ) (are : words_of (words_of_program m) ns ≡ marks_at (marking_of_program m s) kind n) where
  by_number : (x : ℕ) → x < length (words_of_program m) → list_any (λ k. nat_eq k x) ns ≡ has_word (marks_at (marking_of_program m s) kind n) (get_or (words_of_program m) x [])
  by_number x lt = number_held (words_of_program m) distinct x lt ns ∙ ap (λ ws. has_word ws (get_or (words_of_program m) x [])) are

  pub number_owned : (x : ℕ) → x < length (words_of_program m) → list_any (λ k. nat_eq k x) ns ≡ is_owned (word_moves m (words_of_program m) x) kind s n
  number_owned x lt =
      let there : nat_lt x (length (words_of_program m)) ≡ true = grind (arith, nat_tests) in
      by_number x lt ∙ sym (ap (λ b. b && has_word (marks_at (marking_of_program m s) kind n) (get_or (words_of_program m) x [])) there) ∙ sym (word_owned m (words_of_program m) x kind s n)

  pub number_listed : (x : ℕ) → is_owned (word_moves m (words_of_program m) x) kind s n ≡ true → Contains ns x
  number_listed x e =
      let both = sym (word_owned m (words_of_program m) x kind s n) ∙ e in
      let there = and_left (nat_lt x (length (words_of_program m))) (has_word (marks_at (marking_of_program m s) kind n) (get_or (words_of_program m) x [])) both in
      let has = and_right (nat_lt x (length (words_of_program m))) (has_word (marks_at (marking_of_program m s) kind n) (get_or (words_of_program m) x [])) both in
      let lt : x < length (words_of_program m) = grind (arith, nat_tests) in
      Contains-from_any {eq = λ q k. nat_eq k q} (λ q k h. sym (eqb-true k q h)) x ns (by_number x lt ∙ has)
