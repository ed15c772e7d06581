use Rattle.xd_patterns.proofs.compiled.compile_together.Goals as goal

pub compile_marked_together-requires : goal.compile_marked_together-requires
compile_marked_together-requires c = record {
  sound = c.requires.sound;
  types = c.requires.types;
  patterns = c.requires.patterns;
  fresh = c.new-marks.ensures;
}

pub returns : goal.returns
returns c = record {
  extends = c.compile_marked_together.ensures.extends;
  keeps = c.compile_marked_together.ensures.keeps;
  compiled = c.compile_marked_together.ensures.compiled;
}
