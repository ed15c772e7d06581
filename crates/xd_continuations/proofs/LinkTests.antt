-- When two links are the same, as the program tests it.
use Rattle.std.proofs.Common.{◌≡◌, ◌+◌, ◌≤◌, ◌&&◌, ℕ, Bool, true, nat_eq, sym, subst, ap, ◌∙◌, Some, List, [], ◌∷◌, ◌++◌, length}
use Rattle.std.specs.List.{list_any, slice_get}
use Rattle.std.specs.Prelude.{if◌then◌else◌}
use Rattle.std.proofs.lemmas.Bool.{and_from}
use Rattle.xd_doc.proofs.Bools.{and_parts}
use Rattle.xd_doc.proofs.Numbers.{number_same, same_eq}
use Rattle.xd_continuations.specs.Chains.{AreLinks, HasLink, list_at}
use Rattle.xd_continuations.specs.declared.links.Link.{Link}
use Rattle.xd_continuations.proofs.ChainLemmas.{has_inserted, has_kept, put_list, same_link}

-- what an insertion leaves, where a test of items is at hand
module _ {A : Type 0} (test : A → A → Bool) (exact : (a b : A) → test a b ≡ true → a ≡ b) (itself : (a : A) → test a a ≡ true) where
  abbrev link_test : Link A → Link A → Bool
  link_test c d = test c.item d.item && nat_eq c.behind d.behind

  same_as : (c d : Link A) → link_test c d ≡ true → d ≡ c
  same_as c d h = let r = and_parts (test c.item d.item) (nat_eq c.behind d.behind) h in same_link d c (sym (exact c.item d.item r.0)) (number_same c.behind d.behind r.1)

  pub inserted : (keys old new : List (Link A)) (c : Link A) → keys ≡ old → new ≡ if list_any (link_test c) keys then keys else keys ++ c ∷ [] →
      HasLink old c new × (AreLinks old → c.behind ≤ length old → AreLinks new)
  inserted keys old new c v e =
      has_inserted (link_test c) c (and_from (test c.item c.item) (nat_eq c.behind c.behind) (itself c.item) (same_eq c.behind)) (same_as c) old new
      (subst (λ cs. new ≡ if list_any (link_test c) cs then cs else cs ++ c ∷ []) v e)

  pub inserted_list : (keys old new : List (Link A)) (c : Link A) (i : ℕ) → keys ≡ old → new ≡ if list_any (link_test c) keys then keys else keys ++ c ∷ [] → AreLinks old →
      c.behind ≤ length old → (k : Link A) → slice_get new i ≡ Some k → link_test c k ≡ true → list_at new (i + 1) ≡ c.item ∷ list_at old c.behind
  inserted_list keys old new c i v e a h k s t =
      let r = inserted keys old new c v e in
      put_list old new c i (r.1 a h) (has_kept old c new r.0) h (s ∙ ap Some (same_as c k t))
