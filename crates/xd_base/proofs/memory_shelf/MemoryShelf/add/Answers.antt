use Rattle.std.proofs.Common.{ap}
use Rattle.xd_base.specs.MemoryShelf.{ShelfState}
use Rattle.xd_base.proofs.Held.{put}
use Rattle.xd_base.proofs.memory_shelf.MemoryShelf.add.Goals as goal

pub returns-in-Ok-insert-clause-held : goal.returns-in-Ok-insert-clause-held
returns-in-Ok-insert-clause-held c =
    put c.self.inside.texts c.insert.new.self _ _ _ _ _ c.in-Ok-insert.ensures.updates c.in-Ok.ensures.ok c.in-Ok-from_slice.ensures.items (ap (λ (s : ShelfState). s.texts) c.self.view_is)
