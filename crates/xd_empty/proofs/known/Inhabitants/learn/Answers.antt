use Rattle.std.proofs.Common.{◌≡◌, ◌∙◌, ap, length, refl, rules, subst, sym, take, vec_len}
use Rattle.xd_auto.proofs.ExtendsLemmas.{Extends-same}
use Rattle.xd_empty.specs.Known.{Knows}
use Rattle.xd_empty.proofs.KnownLemmas.{stays_known}
use Rattle.xd_empty.proofs.known.Inhabitants.learn.Goals as goal

pub returns-in-Err-clause-knows : goal.returns-in-Err-clause-knows
returns-in-Err-clause-knows c =
    let a = c.args.auto.now in
    let v : vec_len c.self.inside.documents ≡ length c.self.inside.documents.items = search rules in
    let same : c.truncate.new.self.items ≡ c.args.self.now = c.truncate.ensures.items ∙ ap (λ n. take n c.find_new.new.found.items) (c.len-known.ensures ∙ v) ∙ c.in-Err.ensures.older ∙ c.self.view_is in
    subst (Knows a c.find_new.new.store) (sym same) (stays_known c.args.self.now a a c.args.store.now c.find_new.new.store (Extends-same a a refl) c.in-Err.ensures.keeps c.requires)
