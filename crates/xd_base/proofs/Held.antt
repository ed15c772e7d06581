-- The texts of the shelf in memory, and the map that keeps them.
use Rattle.std.proofs.Common.{◌≡◌, ℕ, Bool, true, false, cond, List, [], ◌∷◌, Option, Some, None, String, Vec, map, refl, ap, sym, ◌∙◌}
use Rattle.std.specs.Str.{bytes_eq}
use Rattle.std.specs.String.{string_bytes, string_cmp}
use Rattle.std.specs.Option.{option_map}
use Rattle.std.specs.Ordering.{is_eq, nat_cmp}
use Rattle.std.specs.Cmp.Lexicographic.{slice_cmp}
use Rattle.std.specs.Map.{lookup}
use Rattle.std.specs.BTreeMap.{BTreeMap, is_at, get_by_text, UpdatesBy}
use Rattle.std.proofs.lemmas.Map.Text.{is_eq-slice_cmp, btree_map_updates_text}
use Rattle.xd_base.specs.MemoryShelf.{Held, held_of, text_of}

step : (A B : Bool) (t : List ℕ) (o : Option (List ℕ)) → A ≡ B → cond A (Some t) o ≡ cond B (Some t) o
step A B t o e = ap (λ b. cond b (Some t) o) e

map-cond : {V : Type 0} (f : V → List ℕ) (b : Bool) (v : V) (o : Option V) → option_map f (cond b (Some v) o) ≡ cond b (Some (f v)) (option_map f o)
map-cond f true v o = refl
map-cond f false v o = refl

module _ {A B : Type 0} where
  -- the text of a name is what the map has there
  pub text_of-entries : (es : List (String A × Vec ℕ B)) (name : List ℕ) → text_of (map held_of es) name ≡ option_map (λ (v : Vec ℕ B). v.items) (lookup (is_at (λ k. slice_cmp nat_cmp name (string_bytes k))) es)
  text_of-entries [] name = refl
  text_of-entries (e ∷ es) name =
      ap (λ o. cond (bytes_eq name (string_bytes e.0)) (Some e.1.items) o) (text_of-entries es name)
      ∙ step (bytes_eq name (string_bytes e.0)) (is_eq (slice_cmp nat_cmp name (string_bytes e.0))) e.1.items _ (sym (is_eq-slice_cmp name (string_bytes e.0)))
      ∙ sym (map-cond (λ (v : Vec ℕ B). v.items) (is_eq (slice_cmp nat_cmp name (string_bytes e.0))) e.1 _)

  pub missing : (m : BTreeMap (String A) (Vec ℕ B)) (name : List ℕ) → None ≡ get_by_text m name → None ≡ text_of (map held_of m.entries) name
  missing m name e = ap (option_map (λ (v : Vec ℕ B). v.items)) e ∙ sym (text_of-entries m.entries name)

  pub found : (m : BTreeMap (String A) (Vec ℕ B)) (name text : List ℕ) (v : Vec ℕ B) → Some v ≡ get_by_text m name → text ≡ v.items → Some text ≡ text_of (map held_of m.entries) name
  found m name text v e t = ap (λ x. Some x) t ∙ ap (option_map (λ (v : Vec ℕ B). v.items)) e ∙ sym (text_of-entries m.entries name)

  -- an entry that is put into the map is the text of its name, and of no other
  pub put : (m n : BTreeMap (String A) (Vec ℕ B)) (key name text : List ℕ) (v : Vec ℕ B) (old : List Held) →
      UpdatesBy string_cmp (λ k. slice_cmp nat_cmp key (string_bytes k)) m n (Some v) → key ≡ name → v.items ≡ text → map held_of m.entries ≡ old →
      (q : List ℕ) → text_of (map held_of n.entries) q ≡ cond (bytes_eq name q) (Some text) (text_of old q)
  put m n key name text v old u k t o q =
      text_of-entries n.entries q
      ∙ ap (option_map (λ (v : Vec ℕ B). v.items)) (btree_map_updates_text key m n (Some v) u q)
      ∙ map-cond (λ (v : Vec ℕ B). v.items) (bytes_eq key q) v (get_by_text m q)
      ∙ ap (λ x. cond (bytes_eq key q) (Some v.items) x) (sym (text_of-entries m.entries q) ∙ ap (λ x. text_of x q) o)
      ∙ ap (λ x. cond (bytes_eq x q) (Some v.items) (text_of old q)) k
      ∙ ap (λ x. cond (bytes_eq name q) (Some x) (text_of old q)) t
