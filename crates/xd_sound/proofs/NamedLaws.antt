-- Words and the definitions that have them.
use Rattle.std.proofs.Common.{◌≡◌, ℕ, suc, Bool, true, false, cond, ◌||◌, ◌&&◌, not, List, [], ◌∷◌, map, Option, Some, None, is_some, refl, ap, sym, subst, ◌∙◌}
use Rattle.std.specs.Str.{bytes_eq}
use Rattle.std.specs.List.{AllByRecursion}
use Rattle.std.proofs.lemmas.Slice.Eq.{bytes_eq-Decides}
use Rattle.xd_doc.specs.Word.{is_word}
use Rattle.xd_doc.proofs.Bools.{or_true}
use Rattle.xd_syntax.proofs.Words.{bytes_eq-turned}
use Rattle.xd_syntax.specs.Words.{has_word, any_word, string_word}
use Rattle.xd_syntax.specs.Keywords.{keywords, is_type_name}
use Rattle.xd_syntax.specs.Table.{Row}
use Rattle.xd_syntax.specs.Program.{TypeDefinition}
use Rattle.xd_syntax.specs.Kept.{TypeDefStands, type_definition}
use Rattle.xd_syntax.specs.Proper.{IsProperDefinition}
use Rattle.xd_sound.specs.TypeNames.{first_from}
use Rattle.xd_syntax.specs.SoundTables.{definition_of}
use Rattle.xd_syntax.specs.declared.types.TypeDef.{TypeDef}

abbrev names_in : List Row → List TypeDef → List (List ℕ)
names_in types ds = map (λ (t : TypeDefinition). t.name) (map (type_definition types) ds)

not_named : (types : List Row) (ds : List TypeDef) (w : List ℕ) → definition_of ds w ≡ None → has_word (names_in types ds) w ≡ false
not_named types [] w e = refl
not_named types (d ∷ ds) w e = go (bytes_eq d.name w) e (λ k. not_named types ds w k)
  where
    go : (b : Bool) → cond b (Some d) (definition_of ds w) ≡ None → (definition_of ds w ≡ None → has_word (names_in types ds) w ≡ false) → (b || has_word (names_in types ds) w) ≡ false
    go true k rec = cc
    go false k rec = rec k

pub undefined_word : (types : List Row) (ds : List TypeDef) (w : List ℕ) → bytes_eq w any_word ≡ false → definition_of ds w ≡ None →
    false ≡ (bytes_eq any_word w || has_word (names_in types ds) w)
undefined_word types ds w h e = let a = bytes_eq-turned w any_word h in let b = not_named types ds w e in rw (a, b) refl

has_named : (types : List Row) (ds : List TypeDef) (w : List ℕ) (d : TypeDef) → definition_of ds w ≡ Some d → has_word (names_in types ds) w ≡ true
has_named types [] w d e = cc
has_named types (f ∷ ds) w d e = go (bytes_eq f.name w) e (λ k. has_named types ds w d k)
  where
    go : (b : Bool) → cond b (Some f) (definition_of ds w) ≡ Some d → (definition_of ds w ≡ Some d → has_word (names_in types ds) w ≡ true) →
        (b || has_word (names_in types ds) w) ≡ true
    go true k rec = refl
    go false k rec = rec k

pub known_word : (types : List Row) (ds : List TypeDef) (w : List ℕ) → bytes_eq w any_word ≡ false →
    is_some (definition_of ds w) ≡ (bytes_eq any_word w || has_word (names_in types ds) w)
known_word types ds w h = go (definition_of ds w) refl
  where
    go : (o : Option TypeDef) → definition_of ds w ≡ o → is_some o ≡ (bytes_eq any_word w || has_word (names_in types ds) w)
    go None e = undefined_word types ds w h e
    go (Some d) e = let r = has_named types ds w d e in rw r (sym (or_true (bytes_eq any_word w)))

-- what holds of all of these words holds of one that is among them
word_has : (Q : List ℕ → Type 0) (xs : List (List ℕ)) (w : List ℕ) → AllByRecursion Q xs → has_word xs w ≡ true → Q w
word_has Q [] w a e = absurd (cc)
word_has Q (x ∷ xs) w a e = go (bytes_eq x w) refl e (λ k. word_has Q xs w a.1 k)
  where
    go : (b : Bool) → bytes_eq x w ≡ b → (b || has_word xs w) ≡ true → (has_word xs w ≡ true → Q w) → Q w
    go true q k rec = subst Q ((bytes_eq-Decides x w).0 q) a.0
    go false q k rec = rec k

names_are_words : (types : List Row) (ds : List TypeDef) → AllByRecursion IsProperDefinition (map (type_definition types) ds) → AllByRecursion (λ x. is_word x ≡ true) (names_in types ds)
names_are_words types [] a = tt
names_are_words types (d ∷ ds) a = ((a.0).name, names_are_words types ds a.1)

names_are_free : (types : List Row) (ds : List TypeDef) → AllByRecursion (TypeDefStands types) ds → AllByRecursion (λ x. has_word keywords x ≡ false) (names_in types ds)
names_are_free types [] a = tt
names_are_free types (d ∷ ds) a = ((a.0).name, names_are_free types ds a.1)

-- what is known is a word
pub known_is_word : (types : List Row) (ds : List TypeDef) (w : List ℕ) → AllByRecursion IsProperDefinition (map (type_definition types) ds) →
    is_word w ≡ false → false ≡ has_word (any_word ∷ names_in types ds) w
known_is_word types ds w a n = go (has_word (any_word ∷ names_in types ds) w) refl
  where
    go : (b : Bool) → has_word (any_word ∷ names_in types ds) w ≡ b → false ≡ b
    go false e = refl
    go true e = sym n ∙ word_has (λ x. is_word x ≡ true) (any_word ∷ names_in types ds) w (refl, names_are_words types ds a) e

-- and may name a type, but for `String`
pub known_is_name : (types : List Row) (ds : List TypeDef) (w : List ℕ) → AllByRecursion (TypeDefStands types) ds → bytes_eq string_word w ≡ false →
    true ≡ has_word (any_word ∷ names_in types ds) w → is_type_name w ≡ true
known_is_name types ds w a h e =
    let k : has_word keywords w ≡ false = word_has (λ x. has_word keywords x ≡ false) (any_word ∷ names_in types ds) w (refl, names_are_free types ds a) (sym e) in
    ap (λ b. not b && not (bytes_eq string_word w)) k ∙ ap not h

-- the number of a name's first definition is there where the definition is
pub numbered_is_some : (n : ℕ) (ds : List TypeDef) (w : List ℕ) → is_some (first_from n ds w) ≡ is_some (definition_of ds w)
numbered_is_some n [] w = refl
numbered_is_some n (d ∷ ds) w = go (bytes_eq d.name w) (numbered_is_some (suc n) ds w)
  where
    go : (b : Bool) → is_some (first_from (suc n) ds w) ≡ is_some (definition_of ds w) → is_some (cond b (Some n) (first_from (suc n) ds w)) ≡ is_some (cond b (Some d) (definition_of ds w))
    go true e = refl
    go false e = e
