use Rattle.std.proofs.Common.{◌≡◌, ap}
use Rattle.xd_syntax.specs.declared.types.TypeId.{TypeId}
use Rattle.xd_heads.proofs.HeadListerLemmas.{head_made}
use Rattle.xd_heads.proofs.lister.HeadLister.head_of.Goals as goal
use Rattle.xd_heads.proofs.lister.HeadLister.head_of.Goals.{in-Some, in-None}

pub returns : goal.returns
returns c =
    let r = c.requires.serves in
    head_made r.0 c.args.types.now r.1 c.args.self.now r.2 c.args.found r.3 c.in_ok-kind.kind c.in_ok-kind.inside c.in_ok-kind.ensures c.match-inside.content
    (λ part e. elim c.match-inside.branch [
      | in-Some w ↦ (let i = w.in-Some.is in let f : part ≡ w.in-Some.part = cc in let g = ap (λ (x : TypeId). x.at) f in let h = w.content-is in let j = w.index.ensures in let k = w.at.ensures in cc)
      | in-None w ↦ (let i = w.in-None.is in cc)
    ])
    (λ e. elim c.match-inside.branch [ in-Some w ↦ (let i = w.in-Some.is in cc) | in-None w ↦ w.content-is ])
