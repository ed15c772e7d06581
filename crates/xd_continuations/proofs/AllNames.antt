use Rattle.std.proofs.Common.{◌≡◌, ℕ, Bool, true, false, ◌||◌, List, [], ◌∷◌, refl, ap, sym, ◌∙◌}
use Rattle.std.specs.Str.{bytes_eq}
use Rattle.std.proofs.lemmas.Slice.Eq.{bytes_eq-Decides}
use Rattle.xd_doc.specs.Classes.{TextClass, is_named}
use Rattle.xd_meaning.specs.Heads.{all_texts}

-- a class that excepts no text has all
pub names_none : (c : TextClass) → ((t : List ℕ) → is_named c.names t ≡ is_named [] t) → c.except ≡ true → c ≡ all_texts
names_none c h e = go c.names refl
  where
    go : (ns : List (List ℕ)) → c.names ≡ ns → c ≡ all_texts
    go [] n = ap (λ (ms : List (List ℕ)). let d : TextClass = record { names = ms; except = c.except } in d) n ∙ ap (λ (b : Bool). let d : TextClass = record { names = []; except = b } in d) e
    go (w ∷ ws) n =
        let a : is_named (w ∷ ws) w ≡ false = ap (λ (ms : List (List ℕ)). is_named ms w) (sym n) ∙ h w in
        let b : bytes_eq w w ≡ true = (bytes_eq-Decides w w).1 refl in
        let d : (bytes_eq w w || is_named ws w) ≡ false = a in
        let g : (true || is_named ws w) ≡ false = sym (ap (λ x. x || is_named ws w) b) ∙ d in cc
