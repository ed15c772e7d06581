-- The first matches of the telephone program's patterns.
use Rattle.std.proofs.Common.{◌≡◌, ℕ, zero, suc, ◌+◌, ◌*◌, ◌≤◌, lt-ltb, arith, true, List, [], ◌∷◌, Option, Some, None, refl, ap, ◌∙◌, ◌⊎◌, inl, inr}
use Rattle.std.specs.Prelude.{nat_lt}
use Rattle.xd_doc.specs.Document.{Document, empty, text, element, size}
use Rattle.xd_syntax.specs.Words.{any_word}
use Rattle.xd_syntax.specs.Tree.{Tree, Text, Name, Elem, Alt, Definitions, all_labels}
use Rattle.xd_syntax.specs.Placed.{unplaced}
use Rattle.xd_syntax.specs.Program.{names_of}
use Rattle.xd_syntax.specs.Ways.{Way, item_count, turns, ways_by, ways_of_name, ways_within, unfoldings}
use Rattle.xd_meaning.specs.FirstMatch.{first_whole, first}
use Rattle.xd_meaning.specs.Meaning.{Environment}
use Rattle.xd_laws.specs.LineSamples.{name_label as name, addr_label as addr, tel_label as tel, n_variable as n, t_variable as t, rest_variable as rest, with_tel_at, without_tel_at}
use Rattle.xd_command_sample.specs.Telephones.{telephone_program}
use Rattle.xd_command_sample.specs.Persons.{field}

abbrev pub names : Definitions
names = names_of telephone_program

abbrev pub with_tel_tree : Tree
with_tel_tree = unplaced (with_tel_at 6)

abbrev pub without_tel_tree : Tree
without_tel_tree = unplaced (without_tel_at 7)

-- all is taken, and nothing bound
abbrev whole : Document → Way
whole d = record { bindings = []; taken = d; rest = empty }

-- an item of `Any`, within so many unfoldings
abbrev item_ways : ℕ → Document → List Way
item_ways m = ways_by (ways_of_name names m) (Alt (Elem all_labels (Name any_word)) Text)

less_by_one : (a : ℕ) → nat_lt a (a + 1) ≡ true
less_by_one a = lt-ltb a (a + 1) (omega arith)

-- the first of these ways takes all, and binds nothing
abbrev TakesAll : Document → List Way → Type 0
TakesAll d [] = ⊥
TakesAll d (w ∷ ws) = w ≡ whole d

rest_of_ways : (d : Document) (ws : List Way) → TakesAll d ws → (more : List Way) × (ws ≡ whole d ∷ more)
rest_of_ways d [] h = absurd h
rest_of_ways d (w ∷ ws) h = (ws, ap (λ v. v ∷ ws) h)

-- The first way of `Any` takes all.
any_turns : (m : ℕ) (d : Document) → size d ≤ m → (k : ℕ) → k ≡ item_count d → TakesAll d (turns (item_ways m) k d)
any_turns m empty h zero e = refl
any_turns m empty h (suc k) e = absurd (omega arith)
any_turns m (text s r) h zero e = absurd (omega arith)
any_turns m (text s r) h (suc k) e =
    let j = rest_of_ways r (turns (item_ways m) k r) (any_turns m r (omega arith) k (omega arith)) in
    rw (less_by_one (item_count r), j.1) refl
any_turns zero (element l c r) h k e = absurd (omega arith)
any_turns (suc m) (element l c r) h zero e = absurd (omega arith)
any_turns (suc m) (element l c r) h (suc k) e =
    let i = rest_of_ways c (turns (item_ways m) (item_count c) c) (any_turns m c (omega arith) (item_count c) refl) in
    let j = rest_of_ways r (turns (item_ways (suc m)) k r) (any_turns (suc m) r (omega arith) k (omega arith)) in
    rw (i.1, less_by_one (item_count r), j.1) refl

any_first : (m : ℕ) (d : Document) → size d ≤ m → (more : List Way) × (ways_of_name names (suc m) any_word d ≡ whole d ∷ more)
any_first m d h = rest_of_ways d _ (any_turns m d h (item_count d) refl)

-- a person with what follows, and a telephone with what follows
abbrev pub a_person : (of_name of_addr : List ℕ) → Document → Document
a_person s u d = field name s (field addr u d)

abbrev pub a_telephone : List ℕ → Document → Document
a_telephone v d = field tel v d

-- A document has more unfoldings than it has items.
more_unfoldings : (d : Document) → (m : ℕ) × (size d ≤ m) × (unfoldings names d ≡ suc m)
more_unfoldings d = (size d * 5 + 4, omega arith, omega arith)

-- what a pattern's first match is within one unfolding or more, for each number of them that the
-- items allow
first_by : (A : Tree) (d : Document) (o : Option Environment) → ((m : ℕ) → size d ≤ m → first_whole (ways_within names (suc m) A d) ≡ o) → first names A d ≡ o
first_by A d o f = let u = more_unfoldings d in ap (λ k. first_whole (ways_within names k A d)) u.2 ∙ f u.0 u.1

pub with_tel_first : (s u v : List ℕ) (d : Document) →
    first names with_tel_tree (a_person s u (a_telephone v d)) ≡ Some ((n, field name s empty) ∷ (t, a_telephone v empty) ∷ (rest, d) ∷ [])
with_tel_first s u v d = first_by with_tel_tree (a_person s u (a_telephone v d)) _ (λ m h. let i = any_first m d (omega arith) in rw i.1 refl)

pub without_tel_first : (s u : List ℕ) (d : Document) → first names without_tel_tree (a_person s u d) ≡ Some ((rest, d) ∷ [])
without_tel_first s u d = first_by without_tel_tree (a_person s u d) _ (λ m h. let i = any_first m d (omega arith) in rw i.1 refl)

-- the document is empty, or begins with a name
abbrev pub IsNext : Document → Type 0
IsNext d = (d ≡ empty) ⊎ ((s : List ℕ) × (r : Document) × (d ≡ field name s r))

-- a person without a telephone
pub with_tel_none : (s u : List ℕ) (d : Document) → IsNext d → first names with_tel_tree (a_person s u d) ≡ None
with_tel_none s u d (inl e) = rw e (first_by with_tel_tree (a_person s u empty) None (λ m h. refl))
with_tel_none s u d (inr f) = rw f.2 (first_by with_tel_tree (a_person s u (field name f.0 f.1)) None (λ m h. refl))
