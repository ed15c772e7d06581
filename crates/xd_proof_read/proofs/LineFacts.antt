-- What lines say, told from their keyword.
use Rattle.std.proofs.Common.{◌≡◌, ◌≢◌, ℕ, arith, List, ◌∷◌, ◌++◌, drop, refl, ap, sym, subst, ◌∙◌}
use Rattle.std.specs.Prelude.{codes}
use Rattle.std.proofs.lemmas.List.{append_cancel_left}
use Rattle.xd_syntax.specs.Tree.{Tree}
use Rattle.xd_syntax.specs.Table.{Row}
use Rattle.xd_syntax.specs.SoundTables.{IsTypeAt}
use Rattle.xd_syntax.specs.Kept.{ProgramTable}
use Rattle.xd_syntax.specs.declared.types.TypeId.{TypeId}
use Rattle.xd_rules.specs.Rules.{Case}
use Rattle.xd_proof.specs.declared.cases.ReadCase.{ReadCase}
use Rattle.xd_proof.specs.Cases.{IsCase}
use Rattle.xd_proof.specs.Lines.{space, IsFreeOf, SpellsNumber}
use Rattle.xd_proof.specs.Parts.{ProofLine, first_title, second_title, type_count, type_part, goal_count, goal_part, left_part, right_part, empty_part, case_part, end_part, Follows, SpellsCase, SpellsPart}
use Rattle.xd_proof.proofs.LineLemmas.{same_front, no_mark}
use Rattle.xd_proof.proofs.Unique.{case_line}
use Rattle.xd_proof_read.specs.declared.naming.Naming.{Naming}
use Rattle.xd_proof_read.specs.declared.said.Said.TheVariants as said
use Rattle.xd_proof_read.specs.declared.said.Keyword.{Keyword}
use Rattle.xd_proof_read.specs.declared.said.Keyword.TheVariants as keywords
use Rattle.xd_proof_read.specs.Naming.{SpellsTypeOf, Names}
use Rattle.xd_proof_read.specs.Said.{keyword_text, IsOfGoals, IsPart, Says}

-- what a line says, after a word
behind_is : {A : Type 0} (R : List ℕ → A → Type 0) (word line behind : List ℕ) (x : A) → line ≡ word ++ space ∷ behind → Follows word R line x → R behind x
behind_is R word line behind x e f = subst (λ b. R b x) (ap (λ l. drop 1 l) (append_cancel_left word (space ∷ f.behind) (space ∷ behind) (sym f.whole ∙ e))) f.reads

follows : {A : Type 0} (R : List ℕ → A → Type 0) (word line behind : List ℕ) (x : A) → line ≡ word ++ space ∷ behind → R behind x → Follows word R line x
follows R word line behind x e r = record { behind = behind; whole = e; reads = r }

pub begins_as : (line behind : List ℕ) (k j : Keyword) → line ≡ keyword_text k ++ space ∷ behind → k ≡ j → line ≡ keyword_text j ++ space ∷ behind
begins_as line behind k j e f = e ∙ ap (λ x. keyword_text x ++ space ∷ behind) f

-- no keyword has a space in it
keyword_free : (k : Keyword) → IsFreeOf space (keyword_text k)
keyword_free keywords.Goals = (λ e. omega (arith, e), (λ e. omega (arith, e), (λ e. omega (arith, e), (λ e. omega (arith, e), (λ e. omega (arith, e), tt)))))
keyword_free keywords.Goal = (λ e. omega (arith, e), (λ e. omega (arith, e), (λ e. omega (arith, e), (λ e. omega (arith, e), tt))))
keyword_free keywords.Left = (λ e. omega (arith, e), (λ e. omega (arith, e), (λ e. omega (arith, e), (λ e. omega (arith, e), tt))))
keyword_free keywords.Right = (λ e. omega (arith, e), (λ e. omega (arith, e), (λ e. omega (arith, e), (λ e. omega (arith, e), (λ e. omega (arith, e), tt)))))
keyword_free keywords.Empty = (λ e. omega (arith, e), (λ e. omega (arith, e), (λ e. omega (arith, e), (λ e. omega (arith, e), (λ e. omega (arith, e), tt)))))
keyword_free keywords.Case = (λ e. omega (arith, e), (λ e. omega (arith, e), (λ e. omega (arith, e), (λ e. omega (arith, e), tt))))

keyword_end : IsFreeOf space (codes "end")
keyword_end = (λ e. omega (arith, e), (λ e. omega (arith, e), (λ e. omega (arith, e), tt)))

module _ (p : ProgramTable) (naming : Naming) (line behind : List ℕ) where
  abbrev SaysPart : ProofLine Tree → Type 0
  SaysPart q = SpellsPart (SpellsTypeOf p) (Names p naming) line q

  abbrev Begins : List ℕ → Type 0
  Begins word = line ≡ word ++ space ∷ behind

  -- ---- what is said
  pub count_said : (types : List Row) (n : ℕ) → Begins (codes "goals") → SpellsNumber behind n → (q : ProofLine Tree) × Says p naming line q × IsPart types (said.Goals n) q
  count_said types n e s = (goal_count n, record { spelled = follows SpellsNumber (codes "goals") line behind n e s; of_goals = tt }, (refl, (s.number).least))

  pub goal_said : (types : List Row) (n : ℕ) → Begins (codes "goal") → SpellsNumber behind n → (q : ProofLine Tree) × Says p naming line q × IsPart types (said.Goal n) q
  goal_said types n e s = (goal_part n, record { spelled = follows SpellsNumber (codes "goal") line behind n e s; of_goals = tt }, refl)

  pub left_said : (types : List Row) (id : TypeId) → Begins (codes "left") → ((T : Tree) × Names p naming behind T × IsTypeAt types T id) → (q : ProofLine Tree) × Says p naming line q × IsPart types (said.Left id) q
  left_said types id e (T, s, i) = (left_part T, record { spelled = follows (Names p naming) (codes "left") line behind T e s; of_goals = tt }, i)

  pub right_said : (types : List Row) (id : TypeId) → Begins (codes "right") → ((T : Tree) × Names p naming behind T × IsTypeAt types T id) → (q : ProofLine Tree) × Says p naming line q × IsPart types (said.Right id) q
  right_said types id e (T, s, i) = (right_part T, record { spelled = follows (Names p naming) (codes "right") line behind T e s; of_goals = tt }, i)

  pub empty_said : (types : List Row) (n : ℕ) → Begins (codes "empty") → SpellsNumber behind n → (q : ProofLine Tree) × Says p naming line q × IsPart types (said.Empty n) q
  empty_said types n e s = (empty_part n, record { spelled = follows SpellsNumber (codes "empty") line behind n e s; of_goals = tt }, refl)

  pub case_said : (types : List Row) (made : ReadCase) → ((c : Case) × SpellsCase line c × IsCase made c) → (q : ProofLine Tree) × Says p naming line q × IsPart types (said.Case made) q
  case_said types made (c, s, i) = (case_part c, record { spelled = s; of_goals = tt }, i)

  -- ---- a word that is no keyword
  other_word : (word : List ℕ) → Begins word → IsFreeOf space word → ((k : Keyword) → word ≢ keyword_text k) → (k : Keyword) (rest : List ℕ) → IsFreeOf space (keyword_text k) → line ≡ keyword_text k ++ space ∷ rest → ⊥
  other_word word e f never k rest g h = never k (same_front space word (keyword_text k) behind rest f g (sym e ∙ h)).0

  pub no_keyword : (word : List ℕ) → Begins word → IsFreeOf space word → ((k : Keyword) → word ≢ keyword_text k) → (q : ProofLine Tree) → Says p naming line q → ⊥
  no_keyword word e f never q s = go q s.spelled s.of_goals
    where
      go : (q : ProofLine Tree) → SaysPart q → IsOfGoals q → ⊥
      go (goal_count n) s o = other_word word e f never keywords.Goals s.behind (keyword_free keywords.Goals) s.whole
      go (goal_part n) s o = other_word word e f never keywords.Goal s.behind (keyword_free keywords.Goal) s.whole
      go (left_part T) s o = other_word word e f never keywords.Left s.behind (keyword_free keywords.Left) s.whole
      go (right_part T) s o = other_word word e f never keywords.Right s.behind (keyword_free keywords.Right) s.whole
      go (empty_part n) s o = other_word word e f never keywords.Empty s.behind (keyword_free keywords.Empty) s.whole
      go (case_part c) s o = other_word word e f never keywords.Case _ (keyword_free keywords.Case) (s.words ∙ case_line c)
      go end_part s o = no_mark space word behind (codes "end") (keyword_end) (sym e ∙ s)
      go first_title s o = o
      go second_title s o = o
      go (type_count n) s o = o
      go (type_part n T) s o = o

-- ---- a line without a space
module _ (p : ProgramTable) (naming : Naming) (line : List ℕ) where
  pub end_said : (types : List Row) → line ≡ codes "end" → (q : ProofLine Tree) × Says p naming line q × IsPart types said.End q
  end_said types e = (end_part, record { spelled = e; of_goals = tt }, tt)
