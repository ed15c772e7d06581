use Rattle.xd_patterns.proofs.compile.compile.Goals as goal

pub compile_into-requires : goal.compile_into-requires
compile_into-requires c = record {
  sound = c.requires.sound;
  fresh = c.requires.fresh;
  lists = c.requires.lists;
  none = c.new-table.ensures.items;
}

pub returns : goal.returns
returns c = record {
  spares = c.in_ok-compile_into.ensures.spares;
  made = c.in_ok-compile_into.ensures.made;
}
