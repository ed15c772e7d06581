-- What the telephone program means on persons.
use Rattle.std.proofs.Common.{◌≡◌, ℕ, zero, suc, ◌+◌, ◌%◌, arith, Bool, true, false, cond, List, [], ◌∷◌, ◌++◌, Some, None, refl, subst, inl, inr}
use Rattle.std.specs.Prelude.{codes, decimal, nat_eq}
use Rattle.xd_doc.specs.Document.{Document, empty, join}
use Rattle.xd_syntax.specs.Words.{main_word}
use Rattle.xd_meaning.specs.FirstMatch.{first}
use Rattle.xd_meaning.specs.Meaning.{Done, Matcher, call_within, meaning}
use Rattle.xd_laws.specs.LineSamples.{name_label as name, n_variable as n, t_variable as t, rest_variable as rest}
use Rattle.xd_command_sample.specs.Telephones.{telephone_program}
use Rattle.xd_command_sample.specs.Persons.{field, person, persons_to, listed, listed_to, sample_of, telephones_to}
use Rattle.xd_command_sample.proofs.Matches.{names, with_tel_tree, without_tel_tree, a_person, a_telephone, with_tel_first, without_tel_first, IsNext, with_tel_none}

-- with these first matches the document is made into the value by just so many calls
abbrev Makes : Matcher → ℕ → Document → Document → Type 0
Makes M calls d value = call_within M telephone_program calls calls main_word (d ∷ []) ≡ Done value 0

-- Each clause, by its pattern's first match.

by_first : (M : Matcher) (calls : ℕ) (d r a b value : Document) → M with_tel_tree d ≡ Some ((n, a) ∷ (t, b) ∷ (rest, r) ∷ []) → Makes M calls r value →
    Makes M (suc calls) d (join a (join b value))
by_first M calls d r a b value e f = rw (e, f) refl

by_second : (M : Matcher) (calls : ℕ) (d r value : Document) → M with_tel_tree d ≡ None → M without_tel_tree d ≡ Some ((rest, r) ∷ []) → Makes M calls r value →
    Makes M (suc calls) d value
by_second M calls d r value e f g = rw (e, f, g) refl

at_end : Makes (first names) 1 empty empty
at_end = refl

person_by : (absent : Bool) (s u v : List ℕ) (calls : ℕ) (d value : Document) → IsNext d → Makes (first names) calls d value →
    Makes (first names) (suc calls) (a_person s u (cond absent d (a_telephone v d))) (cond absent value (field name s (a_telephone v value)))
person_by true s u v calls d value next h = by_second (first names) calls (a_person s u d) d value (with_tel_none s u d next) (without_tel_first s u d) h
person_by false s u v calls d value next h =
    by_first (first names) calls (a_person s u (a_telephone v d)) d (field name s empty) (a_telephone v empty) value (with_tel_first s u v d) h

-- A person takes one call more.
one_person : (i calls : ℕ) (d value : Document) → IsNext d → Makes (first names) calls d value → Makes (first names) (suc calls) (person i d) (listed i value)
one_person i calls d value next h = person_by (nat_eq (i % 3) 0) (codes "p" ++ decimal i) (codes "s" ++ decimal i) (decimal i) calls d value next h

next_person : (i : ℕ) (d : Document) → IsNext (person i d)
next_person i d = inr (codes "p" ++ decimal i, _, refl)

all_persons : (count calls : ℕ) (d value : Document) → IsNext d → Makes (first names) calls d value → Makes (first names) (count + calls) (persons_to count d) (listed_to count value)
all_persons zero calls d value next h = let e : calls ≡ zero + calls = omega arith in subst (λ k. Makes (first names) k d value) e h
all_persons (suc i) calls d value next h =
    let e : i + suc calls ≡ suc i + calls = omega arith in
    subst (λ k. Makes (first names) k (persons_to (suc i) d) (listed_to (suc i) value)) e
    (all_persons i (suc calls) (person (suc i) d) (listed (suc i) value) (next_person (suc i) d) (one_person (suc i) calls d value next h))

pub telephones_mean : (persons : ℕ) → meaning telephone_program (persons + 1) (sample_of persons) ≡ Done (telephones_to persons) 0
telephones_mean persons = all_persons persons 1 empty empty (inl refl) at_end
