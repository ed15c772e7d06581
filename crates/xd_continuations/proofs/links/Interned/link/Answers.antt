use Rattle.std.proofs.Common.{◌≡◌, ◌+◌, ◌-◌, ◌<◌, ◌≤◌, ◌∷◌, ℕ, List, length, arith, get_or, sym, subst, ap, ◌∙◌}
use Rattle.xd_doc.specs.Members.{IsOneOf}
use Rattle.xd_continuations.specs.Chains.{AreLinks, list_at}
use Rattle.xd_continuations.specs.declared.links.Link.{Link}
use Rattle.xd_continuations.proofs.ChainLemmas.{IsLinkAt, link_at, get_among}
use Rattle.xd_continuations.proofs.links.Interned.link.Goals as goal

read : {A : Type 0} (cs keys : List (Link A)) (n : ℕ) (l : Link A) → AreLinks cs → keys ≡ cs → 0 < n → n ≤ length cs → l ≡ get_or keys (n - 1) l →
    (l.behind < n) × IsOneOf l cs × (list_at cs n ≡ l.item ∷ list_at cs l.behind)
read cs keys n l a e s w g =
    let i : n - 1 < length cs = omega arith in
    let h : get_or cs (n - 1) l ≡ l = sym (g ∙ ap (λ ks. get_or ks (n - 1) l) e) in
    let at = subst (IsLinkAt cs (n - 1)) h (link_at cs (n - 1) l a i) in
    let o = at.older in
    let m : (n - 1) + 1 ≡ n = omega arith in
    (omega arith, subst (λ x. IsOneOf x cs) h (get_among l cs (n - 1) i), sym (ap (list_at cs) m) ∙ at.list)

pub returns-clause-older : goal.returns-clause-older
returns-clause-older g c =
    (read c.args.self.now c.as_slice.result.now c.args.number c.index-as_slice-number.result (subst AreLinks c.self.view_is c.self.invariant) (c.as_slice.ensures.keys ∙ c.self.view_is)
    c.requires.some c.requires.within c.index-as_slice-number.is).0

pub returns-clause-stands : goal.returns-clause-stands
returns-clause-stands g c =
    (read c.args.self.now c.as_slice.result.now c.args.number c.index-as_slice-number.result (subst AreLinks c.self.view_is c.self.invariant) (c.as_slice.ensures.keys ∙ c.self.view_is)
    c.requires.some c.requires.within c.index-as_slice-number.is).1

pub returns-clause-list : goal.returns-clause-list
returns-clause-list g c =
    (read c.args.self.now c.as_slice.result.now c.args.number c.index-as_slice-number.result (subst AreLinks c.self.view_is c.self.invariant) (c.as_slice.ensures.keys ∙ c.self.view_is)
    c.requires.some c.requires.within c.index-as_slice-number.is).2
