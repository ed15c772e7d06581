use Rattle.xd_patterns.proofs.marked.compile_pattern.Goals as goal

pub compile_marked-requires : goal.compile_marked-requires
compile_marked-requires c = record {
  sound = record { guarded = c.requires.guarded; none = c.requires.none; bodies = c.requires.bodies };
  pattern = c.requires.pattern;
  linear = c.requires.linear;
  fresh = c.new-marks.ensures;
}

pub returns : goal.returns
returns c = record {
  extends = c.compile_marked.ensures.extends;
  keeps = c.compile_marked.ensures.keeps;
  start = c.compile_marked.ensures.start;
  variables = c.compile_marked.ensures.variables;
  compiled = c.compile_marked.ensures.compiled;
}
