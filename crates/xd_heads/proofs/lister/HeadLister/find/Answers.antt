use Rattle.std.proofs.Common.{◌≡◌, ◌<◌, arith, get_or, length, ap, ◌∙◌}
use Rattle.std.proofs.lemmas.List.{get_or_default}
use Rattle.xd_syntax.specs.Table.{tree_at}
use Rattle.xd_moves.specs.Found.{continuation}
use Rattle.xd_heads.proofs.HeadListerLemmas.{number_kept}
use Rattle.xd_heads.proofs.lister.HeadLister.find.Goals as goal

pub returns-clause-serves : goal.returns-clause-serves
returns-clause-serves c =
    let p = c.args.program.now in
    let l = c.args.self.now in
    let s = c.requires.serves in
    let h = c.requires.belongs in
    let k = s.count in
    let within : c.args.id.at < length l.numbers.items = omega arith in
    let n : c.index-number.result.now ≡ get_or l.numbers.items c.args.id.at 0 =
    rw c.at.ensures at c.index-number.ensures ∙ get_or_default l.numbers.items c.args.id.at c.index-number.result.now 0 within in
    let f = c.in_ok-found.ensures.found c.args.id c.requires.belongs (ap (continuation p.types l.cells) n ∙ (s.numbers c.args.id.at c.requires.belongs).same) in
    record {
      sound = s.sound;
      known = s.known;
      any = s.any;
      any_type = s.any_type;
      firsts = s.firsts;
      nodes = f.nodes;
      links = c.len-count.ensures.links;
      chosen = c.in_ok-found.ensures.chosen s.chosen;
      count = s.count;
      numbers = λ i h. number_kept p.types l.cells c.find_moves.new.cells f.kept (get_or l.numbers.items i 0) (tree_at p.types i) (s.numbers i h);
    }
